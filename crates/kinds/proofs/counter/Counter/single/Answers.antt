use Rattle.std.proofs.Common.{ℕ, replicate, ap, ◌∙◌, arith, get_or-set_other, get_or-set_same}
use lib.ListN.{get_or-replicate}
use Rattle.lattice.specs.Simple.{simple_part}
use Rattle.lattice.proofs.Simples.{part_is}
use Rattle.kinds.specs.Counters.{counter_shape, counter_effect}
use Rattle.kinds.specs.Counts.{counter_shaped}
use Rattle.kinds.proofs.counter.Counter.single.Goals as goal

pub returns : goal.returns
returns c =
    let s = c.from.result in
    let l = c.args.level in
    part_is counter_shape counter_shaped counter_effect _ s l (omega arith) (omega arith)
    (get_or-set_same (replicate 8 0) s l 0 (omega arith))
    (λ t below other. get_or-set_other (replicate 8 0) s t l 0 other ∙ get_or-replicate 8 t 0 0 below)
    ∙ ap (λ (i : ℕ). simple_part counter_shape i l) c.from.ensures
