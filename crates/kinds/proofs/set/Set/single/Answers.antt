use Rattle.std.proofs.Common.{◌≡◌, ℕ, ◌*◌, ◌%◌, ◌^◌, ap, ◌∙◌, arith}
use Rattle.std.proofs.lemmas.Nat.{one_shl}
use Rattle.lattice.specs.Simple.{simple_part}
use Rattle.lattice.proofs.Simples.{part_is}
use Rattle.kinds.specs.Sets.{set_shape, set_effect}
use Rattle.kinds.specs.Members.{set_shaped}
use Rattle.kinds.proofs.Rows.{single_same, single_other}
use Rattle.kinds.proofs.set.Set.single.Goals as goal

pub returns : goal.returns
returns c =
    let m = c.from-member.result in
    let w : ℕ = (1 * 2 ^ (m % 64)) % 18446744073709551616 in
    let e : w ≡ 2 ^ (m % 64) = one_shl (m % 64) 64 (omega arith) in
    part_is set_shape set_shaped set_effect _ m 1 (omega arith) (omega arith)
    (single_same 4 m w e (omega arith))
    (λ t below other. single_other 4 m t w e other)
    ∙ ap (λ (i : ℕ). simple_part set_shape i 1) c.from-member.ensures
