use Rattle.lattice.proofs.Simples.{covers_yes}
use Rattle.kinds.specs.Sets.{set_shape, set_effect}
use Rattle.kinds.specs.Members.{set_shaped}
use Rattle.kinds.proofs.set.as_kind.SetKind.covers.Goals as goal

pub returns-then-admits : goal.returns-then-admits
returns-then-admits c =
    covers_yes set_shape set_shaped set_effect c.args.part.slot c.args.part.level c.level.result c.args.self.now
    c.if-admits.ensures c.level.ensures
