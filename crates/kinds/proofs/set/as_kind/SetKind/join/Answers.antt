use Rattle.std.proofs.Common.{rules, ℕ, ◌/◌, ◌%◌, get_or, ap, ◌∙◌, arith}
use Rattle.lattice.proofs.Simples.{join_is}
use Rattle.std.specs.Int.{bit_at}
use Rattle.kinds.specs.Sets.{set_shape, set_effect}
use Rattle.kinds.specs.Members.{set_shaped}
use Rattle.std.proofs.lemmas.Grind.{common_steps}
use Rattle.std.proofs.lemmas.Nat.{or_lt}
use Rattle.std.proofs.lemmas.Nat.Bits.{bit_at_or}
use Rattle.kinds.proofs.set.as_kind.SetKind.join.Goals as goal

pub returns : goal.returns
returns c =
    let x = c.args.self.now in
    let y = c.args.other.now in
    join_is set_shape set_shaped set_effect x y _
    (λ s below. ap (λ (w : ℕ). bit_at w (s % 64)) (c.loop-i.invariant.joined (s / 64) (omega (arith, c.loop-i-test.false)))
    ∙ bit_at_or (get_or x.words (s / 64) 0) (get_or y.words (s / 64) 0) (s % 64))

pub loop-i-preserved : goal.loop-i-preserved
loop-i-preserved c =
    let i = c.loop-i.i in
    let xs = c.loop-i.mine-items in
    let y = c.args.other.now in
    let kept = c.loop-i.invariant in
    let low = or_lt 64 (get_or xs i 0) (get_or y.words i 0) (omega (arith, kept.bounded.1 i)) (omega (arith, y.ok.1 i)) in
    record {
      bounded = (search rules, λ k. grind (arith, common_steps));
      joined = grind (arith, common_steps);
      kept = grind (arith, common_steps);
    }
