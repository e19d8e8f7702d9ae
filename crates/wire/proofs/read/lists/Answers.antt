use Rattle.std.proofs.Common.{◌≡◌, ℕ, ◌+◌, ◌<◌, ◌≤◌, List, [], ◌∷◌, sym, ap, ◌∙◌, arith}
use Rattle.lattice.specs.declared.part.Part.{Part}
use Rattle.wire.specs.Datagrams.{same}
use Rattle.wire.specs.Listed.{all_listed, to_come}
use Rattle.wire.proofs.Lists.{ahead, ahead_start, ahead_none, ahead_some, ahead_end}
use Rattle.wire.proofs.Turns.{same_more, same_not_slot, same_not_level, same_short, same_over}
use Rattle.wire.proofs.read.lists.Goals as goal
use Rattle.wire.proofs.read.lists.Goals.{then-level-gt0+in-Some+else-part-slot+else-part-level, else-level-gt0}

pub loop-slot-init : goal.loop-slot-init
loop-slot-init g c = ap (λ ps. same ps (all_listed c.args.list.now)) (ahead_start g.K.Kind.ops c.args.value.now)

pub returns-in_default : goal.returns-in_default
returns-in_default g c =
    let o = g.K.Kind.ops in
    let v = c.args.value.now in
    let s = c.loop-slot.slot in
    let l = c.level-level.result in
    let lt : s < o.width = omega (arith, c.loop-slot-test.true, c.width-slot-end.ensures) in
    sym (c.loop-slot.invariant
    ∙ same_short (ahead o v s) (to_come c.loop-slot.listed) (ahead o v (s + 1)) (record { slot = s; level = l })
    (ahead_some o v s l lt c.level-level.ensures c.if-level-gt0.true) c.in_default.ensures.steps.0)

pub returns-then-part-slot : goal.returns-then-part-slot
returns-then-part-slot g c =
    let o = g.K.Kind.ops in
    let v = c.args.value.now in
    let s = c.loop-slot.slot in
    let l = c.level-level.result in
    let p = c.in-Some.part in
    let lt : s < o.width = omega (arith, c.loop-slot-test.true, c.width-slot-end.ensures) in
    sym (c.loop-slot.invariant
    ∙ same_not_slot (ahead o v s) (to_come c.loop-slot.listed) (ahead o v (s + 1)) (to_come c.next.new.self) s l p.slot p.level
    (ahead_some o v s l lt c.level-level.ensures c.if-level-gt0.true) c.in-Some.ensures.steps (λ e. c.if-part-slot.true (sym e)))

pub returns-then-part-level : goal.returns-then-part-level
returns-then-part-level g c =
    let o = g.K.Kind.ops in
    let v = c.args.value.now in
    let s = c.loop-slot.slot in
    let l = c.level-level.result in
    let p = c.in-Some.part in
    let lt : s < o.width = omega (arith, c.loop-slot-test.true, c.width-slot-end.ensures) in
    sym (c.loop-slot.invariant
    ∙ same_not_level (ahead o v s) (to_come c.loop-slot.listed) (ahead o v (s + 1)) (to_come c.next.new.self) s l p.slot p.level
    (ahead_some o v s l lt c.level-level.ensures c.if-level-gt0.true) c.in-Some.ensures.steps (λ e. c.if-part-level.true (sym e)))

pub loop-slot-preserved : goal.loop-slot-preserved
loop-slot-preserved g c =
    let o = g.K.Kind.ops in
    let v = c.args.value.now in
    let s = c.loop-slot.slot in
    let l = c.level-level.result in
    let lt : s < o.width = omega (arith, c.loop-slot-test.true, c.width-slot-end.ensures) in
    elim c.if-level-gt0.branch [
      | then-level-gt0+in-Some+else-part-slot+else-part-level w ↦
          let left = to_come w.next.new.self in
          c.loop-slot.invariant
          ∙ same_more (ahead o v s) (to_come c.loop-slot.listed) (ahead o v (s + 1)) left s l (ahead_some o v s l lt c.level-level.ensures w.if-level-gt0.true)
          (w.in-Some.ensures.steps
          ∙ ap (λ (t : ℕ). record { slot = t; level = w.in-Some.part.level } ∷ left) w.if-part-slot.false
          ∙ ap (λ (t : ℕ). record { slot = s; level = t } ∷ left) w.if-part-level.false)
          ∙ ap (λ x. same (ahead o v (s + 1)) (to_come x)) (sym w.listed-is)
      | else-level-gt0 w ↦
          c.loop-slot.invariant
          ∙ ap (λ (ps : List Part). same ps (to_come c.loop-slot.listed)) (ahead_none o v s l lt c.level-level.ensures w.if-level-gt0.false)
          ∙ ap (λ x. same (ahead o v (s + 1)) (to_come x)) (sym w.listed-is)
    ]

pub returns : goal.returns
returns g c =
    let o = g.K.Kind.ops in
    let v = c.args.value.now in
    let s = c.loop-slot.slot in
    let e : ahead o v s ≡ [] = ahead_end o v s (omega (arith, c.loop-slot-test.false, c.width-slot-end.ensures, c.args._narrow.now.fits)) in
    same_over c.next-2.result c.is_none.result (ahead o v s) (to_come c.loop-slot.listed) (to_come c.next-2.new.self) c.is_none.ensures e c.next-2.ensures.steps
    ∙ sym c.loop-slot.invariant
