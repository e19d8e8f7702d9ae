use Rattle.std.proofs.Common.{add-one, ◌≡◌, ◌<◌, ◌^◌, ℕ, ◌∙◌, refl, take, rules, arith}
use Rattle.std.specs.List.{sum_by}
use Rattle.kinds.specs.Counters.{counter_shape}
use Rattle.kinds.specs.Levels.{sum_below}
use Rattle.kinds.proofs.Chains.{sum_by_front, sum_by_front_low}
use Rattle.kinds.proofs.counter.Counter.total_below.Goals as goal

pub sum-requires-clause-fits : goal.sum-requires-clause-fits
sum-requires-clause-fits c =
    let x = c.args.self.now in
    let n = c.args.slots in
    let low : sum_by (λ (m : ℕ). m) (take n x.levels) < 2 ^ 64 =
    omega (arith, x.ok.0, c.requires, sum_by_front_low (λ (m : ℕ). m) 4294967295 x.levels x.ok.1 n (omega (arith, x.ok.0, c.requires))) in
    search rules

pub returns : goal.returns
unfolding sum_below
returns c =
    let x = c.args.self.now in
    let n = c.args.slots in
    let chain : c.sum.result ≡ sum_by (λ (m : ℕ). m) (take n x.levels) = search rules in
    chain ∙ sum_by_front (λ (m : ℕ). m) (sum_below (counter_shape.level x)) x.levels refl (λ i h. rw add-one) n (omega (arith, x.ok.0, c.requires))
