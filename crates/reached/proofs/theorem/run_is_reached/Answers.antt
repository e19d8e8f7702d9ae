use Rattle.reached.proofs.Ends.{run_reached}
use Rattle.reached.proofs.theorem.run_is_reached.Goals as goal

pub returns : goal.returns
returns c = run_reached
