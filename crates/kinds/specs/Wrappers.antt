-- The four and the two-phase set keep the laws of what they hold. Assumes nothing.
use Rattle.lattice.specs.Laws.{Laws, Lattice}
use Rattle.lattice.specs.Ops.{Ops}
use Rattle.kinds.specs.Couples.{pair_lattice, pair_laws}
use Rattle.kinds.specs.Fours.{two_ops, keys_ops, four_ops, four_effect}
use Rattle.kinds.specs.Members.{set_laws}
use Rattle.kinds.specs.Pairs.{pair_ops}
use Rattle.kinds.specs.Ruled.{ruled_lattice, ruled_laws}
use Rattle.kinds.specs.Sets.{set_ops}
use Rattle.kinds.specs.TwoPhases.{two_phase_ops, two_phase_effect}

module _ {K : Type 0} (k : Ops K) where
  pub four_lattice : Lattice k → Lattice (four_ops k)
  four_lattice L =
      ruled_lattice (keys_ops k) (four_effect k) (pair_lattice (two_ops k) (two_ops k) (pair_lattice k k L L) (pair_lattice k k L L))

  pub four_laws : Laws k → Laws (four_ops k)
  four_laws L = ruled_laws (keys_ops k) (four_effect k) (pair_laws (two_ops k) (two_ops k) (pair_laws k k L L) (pair_laws k k L L))

pub two_phase_laws : Laws two_phase_ops
two_phase_laws = ruled_laws (pair_ops set_ops set_ops) two_phase_effect (pair_laws set_ops set_ops set_laws set_laws)
