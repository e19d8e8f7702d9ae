use Rattle.lattice.proofs.Differences.{difference_least}
use Rattle.lattice.proofs.walks.difference_stands.Goals as goal

pub returns : goal.returns
returns g c = λ usable. difference_least g.K.Kind.ops (g.met.K.Kind.lawful usable)
