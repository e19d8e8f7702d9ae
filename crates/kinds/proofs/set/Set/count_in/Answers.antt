use Rattle.std.proofs.Common.{◌≡◌, ◌*◌, ◌<◌, ◌≤◌, ◌^◌, ℕ, get_or, ◌∙◌, refl, take, rules, arith, count_ones}
use lib.Count.{ones-le}
use Rattle.std.specs.List.{sum_by}
use Rattle.kinds.specs.Bits.{row_bit}
use Rattle.kinds.specs.Levels.{sum_below}
use Rattle.kinds.proofs.Rows.{row_step}
use Rattle.kinds.proofs.Chains.{sum_by_front, sum_by_front_low}
use Rattle.kinds.proofs.set.Set.count_in.Goals as goal

pub sum-requires-clause-fits : goal.sum-requires-clause-fits
sum-requires-clause-fits c =
    let x = c.args.self.now in
    let n = c.args.words in
    let few : (i : ℕ) → count_ones (get_or x.words i 0) ≤ 64 = λ i. ones-le 64 (get_or x.words i 0) (omega (arith, x.ok.1 i)) in
    let low : sum_by count_ones (take n x.words) < 2 ^ 32 =
    omega (arith, x.ok.0, c.requires, sum_by_front_low count_ones 64 x.words few n (omega (arith, x.ok.0, c.requires))) in
    search rules

pub returns : goal.returns
unfolding sum_below
returns c =
    let x = c.args.self.now in
    let n = c.args.words in
    let chain : c.sum.result ≡ sum_by count_ones (take n x.words) = search rules in
    chain ∙ sum_by_front count_ones (λ k. sum_below (row_bit x.words) (64 * k)) x.words refl (λ i h. row_step x.words i (x.ok.1 i)) n (omega (arith, x.ok.0, c.requires))
