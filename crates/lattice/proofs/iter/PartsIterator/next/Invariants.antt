use Rattle.std.proofs.Common.{◌≡◌, ◌-◌}
use Rattle.lattice.specs.Walks.{to_come}
use Rattle.lattice.proofs.iter.PartsIterator.next.Given as goal

abbrev pub invariant-loop-slot : goal.invariant-loop-slot
invariant-loop-slot g l = to_come g.K.Kind.ops l.self ≡ to_come g.K.Kind.ops l.fn.self

abbrev pub decreases-loop-slot : goal.decreases-loop-slot
decreases-loop-slot g l = l.self.slots.end - l.self.slots.start
