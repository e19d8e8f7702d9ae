use Rattle.std.proofs.Common.{◌≡◌, ℕ, max, get_or, set, subst, sym, ◌∙◌, arith, get_or-set_other, get_or-set_same}
use Rattle.lattice.proofs.Simples.{join_part_is, admits_within}
use Rattle.kinds.specs.Counters.{counter_shape, counter_effect}
use Rattle.kinds.specs.Counts.{counter_shaped}
use Rattle.kinds.proofs.counter.as_kind.CounterKind.join_part.Goals as goal

pub returns-clause-after : goal.returns-clause-after
returns-clause-after c =
    let x = c.args.self.now in
    let s = c.args.part.slot in
    let i = c.from-slot.result in
    let l = c.args.part.level in
    let a = c.if-not-admits.ensures in
    let w = admits_within counter_shape counter_shaped counter_effect s l (sym a) in
    join_part_is counter_shape counter_shaped counter_effect x _ s l a
    (subst (λ (j : ℕ). get_or (set x.levels i c.max.result) j 0 ≡ max (get_or x.levels j 0) l) c.from-slot.ensures
    (get_or-set_same x.levels i c.max.result 0 (omega (arith, w.0, x.ok.0)) ∙ c.max.ensures))
    (λ t below other. get_or-set_other x.levels i t c.max.result 0 (λ e. other (e ∙ c.from-slot.ensures)))
