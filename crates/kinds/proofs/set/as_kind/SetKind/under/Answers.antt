use borrow.Author.Tests.{tests}
use Rattle.std.proofs.Common.{◌/◌, ◌%◌, eqb, leb, get_or, ◌∙◌, rules, arith, bit_or}
use Rattle.std.proofs.lemmas.Bool.{eq-eqb, eqb-true, le-leb, leb-true}
use Rattle.std.proofs.lemmas.Iterator.{YieldsList-from_slice, YieldsList-from_zip}
use Rattle.std.proofs.lemmas.Iterator.Search.{all_from_yields_List}
use Rattle.kinds.specs.Sets.{set_shape}
use Rattle.kinds.proofs.Rows.{row_words, word_under}
use Rattle.kinds.proofs.Chains.{all_zipped}
use Rattle.kinds.proofs.set.as_kind.SetKind.under.Goals as goal

pub returns : goal.returns
returns c =
    let x = c.args.self.now in
    let y = c.args.other.now in
    let pairs = YieldsList-from_zip (YieldsList-from_slice {s = c.zip.result.a} x.words cc) (YieldsList-from_slice {s = c.zip.result.b} y.words cc) in
    all_from_yields_List (λ p. eqb (bit_or p.0 p.1) p.1) c.all.new.self _ c.all.result c.all.ensures.ran pairs (λ z b q k. search (rules, tests))
    ∙ all_zipped _ (λ s. leb (set_shape.level x s) (set_shape.level y s)) 256 x.words y.words
    (λ h s l. le-leb _ _ (word_under (get_or x.words (s / 64) 0) (get_or y.words (s / 64) 0) (s % 64) (eqb-true _ _ (h (s / 64) (omega (arith, x.ok.0)) (omega (arith, y.ok.0))))))
    (λ h i l k. eq-eqb _ _ (row_words 4 x.words y.words x.ok y.ok (λ s below. leb-true _ _ (h s below)) i (omega (arith, x.ok.0))))
