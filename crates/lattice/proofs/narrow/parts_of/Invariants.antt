use Rattle.std.proofs.Common.{◌≡◌, ◌≤◌, length}
use Rattle.lattice.specs.Ops.{parts_below}
use Rattle.lattice.proofs.narrow.parts_of.Given as goal

abbrev pub invariant-loop-slot : goal.invariant-loop-slot
invariant-loop-slot g l = (l.count ≡ length (parts_below g.K.Kind.ops l.value l.slot)) × (l.count ≤ l.slot)
