use Rattle.queue.proofs.Walks.{walk_none}
use Rattle.queue.proofs.packed.find.Goals as goal

pub returns-in_err-len : goal.returns-in_err-len
returns-in_err-len c = rw c.from_residual.ensures (walk_none c.walk.invariant c.in_err-len.ensures.lead)
