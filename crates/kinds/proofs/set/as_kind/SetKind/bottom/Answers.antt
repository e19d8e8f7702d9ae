use Rattle.lattice.proofs.Simples.{bottom_is}
use Rattle.kinds.specs.Sets.{set_shape, set_effect}
use Rattle.kinds.specs.Members.{set_shaped}
use Rattle.kinds.proofs.Rows.{row_none}
use Rattle.kinds.proofs.set.as_kind.SetKind.bottom.Goals as goal

pub returns : goal.returns
returns c = bottom_is set_shape set_shaped set_effect _ (λ s below. row_none 4 s)
