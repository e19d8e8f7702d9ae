use Rattle.std.proofs.Common.{◌≡◌}
use Rattle.lattice.proofs.Differences.{found}
use Rattle.lattice.proofs.walks.lacking.Given as goal

abbrev pub invariant-loop-slot : goal.invariant-loop-slot
invariant-loop-slot g l = l.out ≡ found g.K.Kind.ops l.a l.b l.slot
