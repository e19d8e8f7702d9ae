use lib.ListN.{get_or-replicate}
use Rattle.lattice.proofs.Simples.{bottom_is}
use Rattle.kinds.specs.Counters.{counter_shape, counter_effect}
use Rattle.kinds.specs.Counts.{counter_shaped}
use Rattle.kinds.proofs.counter.as_kind.CounterKind.bottom.Goals as goal

pub returns : goal.returns
returns c = bottom_is counter_shape counter_shaped counter_effect _ (λ s below. get_or-replicate 8 s 0 0 below)
