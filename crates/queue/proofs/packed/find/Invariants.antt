use Rattle.std.proofs.Common.{◌-◌, length}
use Rattle.queue.specs.Packed.{Walk}
use Rattle.queue.proofs.packed.find.Given as goal

abbrev pub invariant-walk : goal.invariant-walk
invariant-walk l = Walk l.buf l.receiver l.at

abbrev pub decreases-walk : goal.decreases-walk
decreases-walk l = length l.buf - l.at
