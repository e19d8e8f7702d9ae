use Rattle.std.proofs.Common.{arith}
use Rattle.lattice.proofs.Simples.{join_is}
use Rattle.kinds.specs.Counters.{counter_shape, counter_effect}
use Rattle.kinds.specs.Counts.{counter_shaped}
use Rattle.kinds.proofs.counter.as_kind.CounterKind.join.Goals as goal

pub returns : goal.returns
returns c =
    join_is counter_shape counter_shaped counter_effect c.args.self.now c.args.other.now _
    (λ s below. c.loop-slot.invariant.joined s (omega (arith, c.loop-slot-test.false)))
