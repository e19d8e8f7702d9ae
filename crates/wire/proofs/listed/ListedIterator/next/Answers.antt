use Rattle.std.proofs.Common.{◌∷◌, sym, ap, ◌∙◌, length, arith}
use Rattle.wire.specs.Listed.{all_listed}
use Rattle.wire.proofs.Lists.{from_is, listed_none, listed_some}
use Rattle.wire.proofs.listed.ListedIterator.next.Goals as goal

pub returns-then-bytes-lt-PART-clause-steps : goal.returns-then-bytes-lt-PART-clause-steps
returns-then-bytes-lt-PART-clause-steps c = let none = listed_none c.args.self.now.0.now c.if-bytes-lt-PART.true in (none, none)

pub returns-clause-steps : goal.returns-clause-steps
returns-clause-steps c =
    let b = c.args.self.now.0.now in
    listed_some b c.u16_at.result c.u64_at.result c.if-bytes-lt-PART.false c.u16_at.ensures c.u64_at.ensures
    ∙ ap (λ bs. record { slot = c.u16_at.result; level = c.u64_at.result } ∷ all_listed bs) (sym (from_is b 10))

pub returns-clause-goes : goal.returns-clause-goes
returns-clause-goes c =
    let fewer = ap length (returns-clause-steps c) in
    record { on = λ _. (tt, tt, omega (arith, fewer)); keeps = tt; rests = λ _. tt }
