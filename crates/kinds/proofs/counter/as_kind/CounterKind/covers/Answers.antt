use Rattle.lattice.proofs.Simples.{covers_yes}
use Rattle.kinds.specs.Counters.{counter_shape, counter_effect}
use Rattle.kinds.specs.Counts.{counter_shaped}
use Rattle.kinds.proofs.counter.as_kind.CounterKind.covers.Goals as goal

pub returns-then-admits : goal.returns-then-admits
returns-then-admits c =
    covers_yes counter_shape counter_shaped counter_effect c.args.part.slot c.args.part.level c.level.result c.args.self.now
    c.if-admits.ensures c.level.ensures
