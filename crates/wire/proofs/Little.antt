-- Numbers as bytes and back. Assumes nothing.
use Rattle.std.proofs.Common.{◌≡◌, ℕ, zero, suc, ◌+◌, ◌-◌, ◌*◌, ◌/◌, ◌%◌, ◌^◌, ◌<◌, ◌≤◌, List, [], ◌∷◌, ◌++◌, length, get_or, take, drop, sym, refl, ap, ◌∙◌, arith, w16, w32, w64}
use Rattle.std.specs.Int.{from_le_bytes}
use borrow.Rule.Slice.PartMut.{put_mid}
use Rattle.std.proofs.lemmas.List.{length-drop, length-take-le, drop-drop}
use Rattle.std.specs.List.{AllByRecursion as All}
use Rattle.wire.specs.Bytes.{le, value, field, over}

-- the number that the digits f 0, f 1, .. stand for
abbrev digits : (ℕ → ℕ) → ℕ → ℕ
digits f zero = 0
digits f (suc w) = f 0 + 256 * digits (λ k. f (suc k)) w

value_digits : (xs : List ℕ) → value xs ≡ digits (λ k. get_or xs k 0) (length xs)
unfolding value
value_digits [] = refl
value_digits (x ∷ xs) = ap (λ (n : ℕ). x + 256 * n) (value_digits xs)

-- a number read from its bytes, by its width
module _ (b : List ℕ) (at w : ℕ) (xs : List ℕ) (room : at + w ≤ length b) (read : xs ≡ take w (drop at b)) where
  field_digits : digits (λ k. get_or xs k 0) w ≡ field b at w
  unfolding field
  field_digits =
      let n : length xs ≡ w = ap length read ∙ length-take-le w (drop at b) (simp length-drop (omega arith)) in
      ap (digits (λ k. get_or xs k 0)) (sym n) ∙ sym (value_digits xs) ∙ ap value read

pub field_2 : (b : List ℕ) (at : ℕ) (xs : List ℕ) → at + 2 ≤ length b → xs ≡ take 2 (drop at b) → from_le_bytes w16 xs ≡ field b at 2
field_2 b at xs h e = omega (arith, field_digits b at 2 xs h e)

pub field_4 : (b : List ℕ) (at : ℕ) (xs : List ℕ) → at + 4 ≤ length b → xs ≡ take 4 (drop at b) → from_le_bytes w32 xs ≡ field b at 4
field_4 b at xs h e = omega (arith, field_digits b at 4 xs h e)

pub field_8 : (b : List ℕ) (at : ℕ) (xs : List ℕ) → at + 8 ≤ length b → xs ≡ take 8 (drop at b) → from_le_bytes w64 xs ≡ field b at 8
field_8 b at xs h e = omega (arith, field_digits b at 8 xs h e)

pub length_le : (w n : ℕ) → length (le w n) ≡ w
unfolding le
length_le zero n = refl
length_le (suc w) n = ap suc (length_le w (n / 256))

-- a number that fits comes back
pub value_le : (w n : ℕ) → n < 256 ^ w → value (le w n) ≡ n
unfolding le value
value_le zero n h = omega arith
value_le (suc w) n h = let k : n / 256 < 256 ^ w = omega arith in omega (arith, value_le w (n / 256) k)

-- and so do bytes
pub le_value : (bs : List ℕ) → All (λ b. b < 256) bs → le (length bs) (value bs) ≡ bs
unfolding le value
le_value [] h = refl
le_value (b ∷ bs) h =
    let lo : (b + 256 * value bs) % 256 ≡ b = omega (arith, h.0) in
    let hi : (b + 256 * value bs) / 256 ≡ value bs = omega (arith, h.0) in
    rw (lo, hi) (ap (λ (xs : List ℕ). b ∷ xs) (le_value bs h.1))

pub put_over : (b : List ℕ) (at : ℕ) (xs ys : List ℕ) → ys ≡ xs → put_mid at ((at + length xs) - at) b ys ≡ over b at xs
unfolding over
put_over b at xs ys e =
    let k : (at + length xs) - at ≡ length xs = omega arith in
    ap (λ (zs : List ℕ). put_mid at ((at + length xs) - at) b zs) e
    ∙ ap (λ (n : ℕ). take at b ++ (xs ++ drop n (drop at b))) k
    ∙ ap (λ (zs : List ℕ). take at b ++ (xs ++ zs)) (drop-drop (length xs) at b)
