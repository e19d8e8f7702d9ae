use Rattle.std.proofs.Common.{sym, ◌∙◌, ap, arith, length}
use Rattle.lattice.proofs.Parts.{from_done, from_none, from_one}
use Rattle.lattice.proofs.iter.PartsIterator.next.Goals as goal

pub loop-slot-preserved : goal.loop-slot-preserved
loop-slot-preserved g c =
    let s = c.in-Some.ensures.steps in
    let was = c.loop-slot.self.slots in
    sym (from_none g.K.Kind.ops c.loop-slot.self.value.now was.start was.end c.in-Some.slot c.level-level.result c.next.new.self.start c.next.new.self.end
    s.1.0 s.1.1 c.level-level.ensures s.1.2 s.0 c.if-level-gt0.false) ∙ c.loop-slot.invariant

pub returns-then-level-gt0-clause-steps : goal.returns-then-level-gt0-clause-steps
returns-then-level-gt0-clause-steps g c =
    let s = c.in-Some.ensures.steps in
    let was = c.loop-slot.self.slots in
    sym c.loop-slot.invariant
    ∙ from_one g.K.Kind.ops c.loop-slot.self.value.now was.start was.end c.in-Some.slot c.level-level.result c.next.new.self.start c.next.new.self.end
    s.1.0 s.1.1 c.level-level.ensures s.1.2 s.0 c.if-level-gt0.true

pub returns-then-level-gt0-clause-goes : goal.returns-then-level-gt0-clause-goes
returns-then-level-gt0-clause-goes g c =
    let fewer = ap length (returns-then-level-gt0-clause-steps g c) in
    record { on = λ _. (tt, tt, omega (arith, fewer)); keeps = tt; rests = λ _. tt }

pub returns-clause-steps : goal.returns-clause-steps
returns-clause-steps g c =
    let s = c.in_default.ensures.steps in
    let was = c.loop-slot.self.slots in (
      sym c.loop-slot.invariant ∙ from_done g.K.Kind.ops c.loop-slot.self.value.now was.start was.end (omega (arith, s.1.0)),
      from_done g.K.Kind.ops c.loop-slot.self.value.now c.next.new.self.start c.next.new.self.end (omega (arith, s.0, s.1.0, s.1.1)),
    )
