-- What a walk over the parts of a value has still to come to. Assumes nothing.
use Rattle.std.specs.Prelude.{ℕ, zero, suc, ◌-◌, List, [], ◌++◌}
use Rattle.lattice.specs.Ops.{Ops, parts_at}
use Rattle.lattice.specs.declared.part.Part.{Part}
use Rattle.lattice.specs.declared.iter.Parts.{Parts}

module _ {K : Type 0} (o : Ops K) where
  -- the parts at the n slots from s on, in rising order
  unfoldable pub parts_from : K → ℕ → ℕ → List Part
  parts_from x s zero = []
  parts_from x s (suc n) = parts_at o s (o.level x s) ++ parts_from x (suc s) n

  abbrev pub to_come : Parts K → List Part
  to_come p = parts_from p.value.now p.slots.start (p.slots.end - p.slots.start)
