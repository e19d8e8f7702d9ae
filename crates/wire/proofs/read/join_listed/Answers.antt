use Rattle.std.proofs.Common.{◌≡◌, Bool, true, false, cond, [], Some, None, sym, ap, ◌∙◌}
use Rattle.std.proofs.lemmas.Bool.{cond-true, cond-false}
use Rattle.lattice.specs.Ops.{joined}
use Rattle.lattice.proofs.Order.{bottom_join}
use Rattle.wire.specs.Datagrams.{ranged}
use Rattle.wire.specs.Listed.{all_listed, to_come}
use Rattle.wire.proofs.Turns.{part_joined, ranged_low, ranged_bad, ranged_more, ranged_none, join_more, join_none}
use Rattle.wire.proofs.read.join_listed.Goals as goal

none_is : {K : Type 0} (t : Bool) (x : K) → t ≡ false → None ≡ cond t (Some x) None
none_is t x e = sym (cond-false t (Some x) None e)

some_is : {K : Type 0} (t : Bool) (x y : K) → t ≡ true → x ≡ y → Some y ≡ cond t (Some x) None
some_is t x y e f = ap Some (sym f) ∙ sym (cond-true t (Some x) None e)

pub loop-part-init : goal.loop-part-init
loop-part-init g c =
    let o = g.K.Kind.ops in
    let all = all_listed c.args.list.now in
    let it : all ≡ to_come c.into_iter-part-iterator.result = sym (ap to_come c.into_iter-part-iterator.ensures.into_iter_gives) in (
      ap (ranged o 0) it,
      sym (bottom_join o g.met.K.Kind.ordered (joined o all)) ∙ ap (λ (w : g.row.K.Denot). o.join w (joined o all)) (sym c.bottom-value.ensures)
          ∙ ap (λ ps. o.join c.bottom-value.result (joined o ps)) it,
    )

pub returns-then-part-least : goal.returns-then-part-least
returns-then-part-least g c =
    let o = g.K.Kind.ops in
    let all = all_listed c.args.list.now in
    let p = c.in-Some.part in
    none_is (ranged o 0 all) (joined o all)
    (c.loop-part.invariant.0 ∙ ranged_low o c.loop-part.least (to_come c.loop-part.part-iterator) (to_come c.next.new.self) p.slot p.level c.in-Some.ensures.steps c.if-part-least.true)

pub returns-then-not-join_part : goal.returns-then-not-join_part
returns-then-not-join_part g c =
    let o = g.K.Kind.ops in
    let all = all_listed c.args.list.now in
    let p = c.in-Some.part in
    none_is (ranged o 0 all) (joined o all)
    (c.loop-part.invariant.0 ∙ ranged_bad o c.loop-part.least (to_come c.loop-part.part-iterator) (to_come c.next.new.self) p.slot p.level c.in-Some.ensures.steps
    (sym c.if-not-join_part.ensures.answer))

pub loop-part-preserved : goal.loop-part-preserved
loop-part-preserved g c =
    let o = g.K.Kind.ops in
    let p = c.in-Some.part in
    let it = to_come c.loop-part.part-iterator in
    let next = to_come c.next.new.self in (
      c.loop-part.invariant.0 ∙ ranged_more o c.loop-part.least it next p.slot p.level c.in-Some.ensures.steps c.if-part-least.false (sym c.if-not-join_part.ensures.answer),
      c.loop-part.invariant.1 ∙ join_more o g.met.K.Kind.ordered c.loop-part.value it next p.slot p.level c.in-Some.ensures.steps
          ∙ ap (λ (w : g.row.K.Denot). o.join w (joined o next))
          (sym (part_joined o c.loop-part.value c.join_part.new.self p.slot p.level c.if-not-join_part.ensures.answer c.join_part.ensures.after)),
    )

pub returns : goal.returns
returns g c =
    let o = g.K.Kind.ops in
    let all = all_listed c.args.list.now in
    let it = to_come c.loop-part.part-iterator in
    let over : it ≡ [] = c.in-None.ensures.steps.0 in
    some_is (ranged o 0 all) (joined o all) c.loop-part.value
    (c.loop-part.invariant.0 ∙ ranged_none o c.loop-part.least it over)
    (c.loop-part.invariant.1 ∙ join_none o g.met.K.Kind.ordered c.loop-part.value it over)
