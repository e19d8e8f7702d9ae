-- The parts that bytes list, however many they are. Assumes nothing.
use Rattle.std.specs.Prelude.{ℕ, ◌/◌, List, length}
use Rattle.lattice.specs.declared.part.Part.{Part}
use Rattle.wire.specs.Datagrams.{listed}
use Rattle.wire.specs.declared.listed.Listed.{Listed}

abbrev pub all_listed : List ℕ → List Part
all_listed b = listed (length b / 10) b

abbrev pub to_come : Listed → List Part
to_come l = all_listed l.0.now
