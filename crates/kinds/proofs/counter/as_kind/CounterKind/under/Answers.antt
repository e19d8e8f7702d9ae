use borrow.Author.Tests.{tests}
use Rattle.std.proofs.Common.{leb, ◌∙◌, rules, arith}
use Rattle.std.proofs.lemmas.Iterator.{YieldsList-from_slice, YieldsList-from_zip}
use Rattle.std.proofs.lemmas.Iterator.Search.{all_from_yields_List}
use Rattle.kinds.specs.Counters.{counter_shape}
use Rattle.kinds.proofs.Chains.{all_zipped}
use Rattle.kinds.proofs.counter.as_kind.CounterKind.under.Goals as goal

pub returns : goal.returns
returns c =
    let x = c.args.self.now in
    let y = c.args.other.now in
    let pairs = YieldsList-from_zip (YieldsList-from_slice {s = c.zip.result.a} x.levels cc) (YieldsList-from_slice {s = c.zip.result.b} y.levels cc) in
    all_from_yields_List (λ p. leb p.0 p.1) c.all.new.self _ c.all.result c.all.ensures.ran pairs (λ z b q k. search (rules, tests))
    ∙ all_zipped _ (λ s. leb (counter_shape.level x s) (counter_shape.level y s)) 8 x.levels y.levels
    (λ h s l. h s (omega (arith, x.ok.0)) (omega (arith, y.ok.0)))
    (λ h i l k. h i (omega (arith, x.ok.0)))
