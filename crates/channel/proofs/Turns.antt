-- A pattern rotated right by one.
use Rattle.std.proofs.Common.{◌≡◌, ℕ, ◌*◌, ◌/◌, ◌%◌, ◌^◌, ◌<◌, ap, ◌∙◌, arith}
use Rattle.std.specs.Int.{rotate_right, w32}
use lib.Bits.{bit_or, or_shifted_r}
use Rattle.channel.specs.Patterns.{rotated}

pub turns : (p : ℕ) → p < 2 ^ 32 → rotate_right w32 p 1 ≡ rotated p
turns p h =
    let small : p / 2 < 2 ^ 31 = omega arith in
    let wraps : (p * 2 ^ 31) % 2 ^ 32 ≡ (p % 2) * 2 ^ 31 = omega arith in
    ap (bit_or (p / 2)) wraps ∙ or_shifted_r (p % 2) 31 (p / 2) small ∙ omega arith
