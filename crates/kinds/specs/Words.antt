-- The bits of words and of rows of words. Assumes nothing.
use Rattle.std.specs.Prelude.{◌≡◌, ℕ, zero, suc, ◌+◌, ◌*◌, ◌/◌, ◌%◌, ◌<◌, ◌≤◌, min, List, length, slice_index}
use Rattle.std.proofs.Common.{sym, ap, ap₂, ◌∙◌, arith}
use Rattle.std.specs.Int.{bit_at}
use Rattle.std.specs.Int.Bits.{bit_or}
use Rattle.std.proofs.lemmas.Nat.{or_lt}
use Rattle.std.proofs.lemmas.Nat.Bits.{bit_at-zero, bit_at-suc, same_from_bits_below}
use Rattle.std.proofs.lemmas.List.{ext_get_or, get_or_past}
use Rattle.std.proofs.lemmas.List.FromFn.{get_or-map-range_with_len}
use Rattle.kinds.specs.Bits.{word, row_bit, row}
use Rattle.kinds.specs.Levels.{Bounded}

pub bit_word : (n : ℕ) (f : ℕ → ℕ) (k : ℕ) → k < n → bit_at (word n f) k ≡ min (f k) 1
unfolding word
bit_word zero f k h = absurd (omega arith)
bit_word (suc n) f zero h = omega arith
bit_word (suc n) f (suc k) h =
    let half : word (suc n) f / 2 ≡ word n (λ j. f (suc j)) = omega arith in
    bit_at-suc (word (suc n) f) k ∙ ap (λ (x : ℕ). bit_at x k) half ∙ bit_word n (λ j. f (suc j)) k (omega arith)

-- a bit of a row, by its word and its place there
pub row_place : (ws : List ℕ) (i k : ℕ) → k < 64 → row_bit ws (64 * i + k) ≡ bit_at (slice_index ws i) k
row_place ws i k h =
    let p : (64 * i + k) / 64 ≡ i = omega arith in
    let q : (64 * i + k) % 64 ≡ k = omega arith in
    ap₂ (λ (x y : ℕ). bit_at (slice_index ws x) y) p q

row_word : (m : ℕ) (f : ℕ → ℕ) (i : ℕ) → i < m → slice_index (row m f) i ≡ word 64 (λ k. f (64 * i + k))
unfolding row
row_word m f i h = get_or-map-range_with_len (λ j. word 64 (λ k. f (64 * j + k))) 0 m i i 0 h (omega arith)

pub row_at : (m : ℕ) (f : ℕ → ℕ) (s : ℕ) → s < 64 * m → row_bit (row m f) s ≡ min (f s) 1
row_at m f s h =
    let whole : 64 * (s / 64) + s % 64 ≡ s = omega arith in
    ap (λ (x : ℕ). bit_at x (s % 64)) (row_word m f (s / 64) (omega arith))
    ∙ bit_word 64 (λ k. f (64 * (s / 64) + k)) (s % 64) (omega arith)
    ∙ ap (λ (x : ℕ). min (f x) 1) whole

pub row_past : (m : ℕ) (ws : List ℕ) → length ws ≡ m → (s : ℕ) → 64 * m ≤ s → row_bit ws s ≡ 0
row_past m ws e s h = ap (λ (x : ℕ). bit_at x (s % 64)) (get_or_past ws (s / 64) 0 (omega arith)) ∙ bit_at-zero (s % 64)

pub row_le : (ws : List ℕ) (s : ℕ) → row_bit ws s ≤ 1
row_le ws s = omega arith

pub rows_same : (m : ℕ) (xs ys : List ℕ) → Bounded m 18446744073709551615 xs → Bounded m 18446744073709551615 ys
    → ((s : ℕ) → s < 64 * m → row_bit xs s ≡ row_bit ys s) → xs ≡ ys
rows_same m xs ys p q h = ext_get_or 0 xs ys (p.0 ∙ sym q.0) (λ i l.
    same_from_bits_below 64 (slice_index xs i) (slice_index ys i) (omega (arith, p.1 i)) (omega (arith, q.1 i)) (λ k b.
    sym (row_place xs i k b) ∙ h (64 * i + k) (omega (arith, p.0)) ∙ row_place ys i k b))

pub same_place : (s t : ℕ) → s / 64 ≡ t / 64 → s % 64 ≡ t % 64 → s ≡ t
same_place s t p q = omega arith

pub or_bounded : (a b : ℕ) → a ≤ 18446744073709551615 → b ≤ 18446744073709551615 → bit_or a b ≤ 18446744073709551615
or_bounded a b p q = omega (arith, or_lt 64 a b (omega arith) (omega arith))
