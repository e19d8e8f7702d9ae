-- Joined with bottom, the right side stays.
use Rattle.std.proofs.Common.{rules}
use Rattle.lattice.proofs.Order.{join_bottom}
use Rattle.kinds.proofs.pair.PairKind.join_part.Goals as goal

pub returns-in-None-clause-after : goal.returns-in-None-clause-after
returns-in-None-clause-after g c = let kept = join_bottom g.B.Kind.ops g.met.B.Kind.ordered c.args.self.now.right in search rules
