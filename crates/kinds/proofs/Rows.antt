-- How the set's words are counted, compared and written, told by bits. Assumes nothing.
use Rattle.std.specs.Prelude.{◌≡◌, ℕ, zero, suc, ◌+◌, ◌*◌, ◌/◌, ◌%◌, ◌^◌, ◌<◌, ◌≤◌, List, length, replicate, ◌≢◌, count_ones, slice_index, slice_index_or, slice_set, refl}
use Rattle.std.proofs.Common.{ap, ◌∙◌, ⊎_elim, add-zero, add-suc, pow-suc, one-add, arith, length-set}
use Rattle.std.specs.Int.{bit_at}
use Rattle.std.specs.Int.Bits.{bit_or}
use Rattle.std.specs.Int.Count.{ones_step}
use Rattle.std.proofs.lemmas.Nat.{or_lt, ones-le}
use Rattle.std.proofs.lemmas.Nat.Bits.{bit_at-zero, bit_at-suc, bit_at_or, same_from_bits_below, bit_at-pow_same, bit_at-pow_other}
use Rattle.std.proofs.lemmas.List.{get_or-set_same, get_or-set_other, length-replicate, get_or-replicate}
use Rattle.std.proofs.lemmas.Bool.{cases_eq, cases_lt}
use Rattle.kinds.specs.Bits.{row_bit}
use Rattle.kinds.specs.Levels.{Bounded, sum_below}
use Rattle.kinds.specs.Words.{row_place, row_past}

-- a sum in two parts, the second of them counted from 0
sum_split : (f g : ℕ → ℕ) (m n : ℕ) → ((k : ℕ) → k < n → f (m + k) ≡ g k) → sum_below f (m + n) ≡ sum_below f m + sum_below g n
unfolding sum_below
sum_split f g m zero h = simp add-zero
sum_split f g m (suc n) h = rw add-suc (omega (arith, sum_split f g m n (λ k l. h k (omega arith)), h n (omega arith)))

pub ones_bits : (n w : ℕ) → w < 2 ^ n → count_ones w ≡ sum_below (bit_at w) n
unfolding sum_below
ones_bits zero w h = omega (arith, ones-le 0 w h)
ones_bits (suc n) w h =
    let rest = sum_split (bit_at w) (bit_at (w / 2)) 1 n (λ k l. rw one-add (bit_at-suc w k)) in
    omega (arith, rw one-add at rest, ones_step w, ones_bits n (w / 2) (omega (arith, pow-suc 2 n)))

pub row_set_same : (ws : List ℕ) (i w s : ℕ) → i < length ws → s / 64 ≡ i → row_bit (slice_set ws i w) s ≡ bit_at w (s % 64)
row_set_same ws i w s h e = ap (λ (x : ℕ). bit_at x (s % 64)) (ap (λ (j : ℕ). slice_index (slice_set ws i w) j) e ∙ get_or-set_same ws i w 0 h)

pub row_set_other : (ws : List ℕ) (i w s : ℕ) → (s / 64 ≢ i) → row_bit (slice_set ws i w) s ≡ row_bit ws s
row_set_other ws i w s n = ap (λ (x : ℕ). bit_at x (s % 64)) (get_or-set_other ws i (s / 64) w 0 n)

-- a word is under another just when their union is the other: bit by bit, and from the bits of two rows
pub word_under : (a b k : ℕ) → bit_or a b ≡ b → bit_at a k ≤ bit_at b k
word_under a b k e = omega (arith, bit_at_or a b k, ap (λ (w : ℕ). bit_at w k) e)

pub row_words : (m : ℕ) (xs ys : List ℕ) → Bounded m 18446744073709551615 xs → Bounded m 18446744073709551615 ys
    → ((s : ℕ) → s < 64 * m → row_bit xs s ≤ row_bit ys s) → (i : ℕ) → i < m → bit_or (slice_index xs i) (slice_index ys i) ≡ slice_index ys i
row_words m xs ys p q h i l =
    let x = slice_index_or xs i 0 in
    let y = slice_index_or ys i 0 in
    let b : y < 2 ^ 64 = omega (arith, q.1 i) in
    same_from_bits_below 64 (bit_or x y) y (or_lt 64 x y (omega (arith, p.1 i)) b) b (λ k c.
    omega (arith, bit_at_or x y k, row_place xs i k c, row_place ys i k c, h (64 * i + k) (omega arith)))

-- one more word counted
pub row_step : (ws : List ℕ) (m : ℕ) → slice_index ws m ≤ 18446744073709551615
    → sum_below (row_bit ws) (64 * (m + 1)) ≡ sum_below (row_bit ws) (64 * m) + count_ones (slice_index ws m)
row_step ws m h =
    let e : 64 * (m + 1) ≡ 64 * m + 64 = omega arith in
    ap (sum_below (row_bit ws)) e
    ∙ omega (arith, sum_split (row_bit ws) (bit_at (slice_index ws m)) (64 * m) 64 (row_place ws m), ones_bits 64 (slice_index ws m) (omega arith))

-- the row with no bit set
pub row_none : (m s : ℕ) → row_bit (replicate m 0) s ≡ 0
row_none m s = ⊎_elim
    (λ (l : s / 64 < m). ap (λ (x : ℕ). bit_at x (s % 64)) (get_or-replicate m (s / 64) 0 0 l) ∙ bit_at-zero (s % 64))
    (λ (l : m ≤ s / 64). row_past m (replicate m 0) (length-replicate m 0) s (omega arith))
    (cases_lt (s / 64) m)

-- the row with one bit set
pub single_same : (m s w : ℕ) → w ≡ 2 ^ (s % 64) → s / 64 < m → row_bit (slice_set (replicate m 0) (s / 64) w) s ≡ 1
single_same m s w e h =
    row_set_same (replicate m 0) (s / 64) w s (omega (arith, length-replicate {A = ℕ} m 0)) refl ∙ ap (λ (x : ℕ). bit_at x (s % 64)) e ∙ bit_at-pow_same (s % 64)

pub single_other : (m s t w : ℕ) → w ≡ 2 ^ (s % 64) → (t ≢ s) → row_bit (slice_set (replicate m 0) (s / 64) w) t ≡ 0
single_other m s t w e n = ⊎_elim
    (λ (q : t / 64 ≡ s / 64). ⊎_elim
    (λ (l : s / 64 < m).
    row_set_same (replicate m 0) (s / 64) w t (omega (arith, length-replicate {A = ℕ} m 0)) q ∙ ap (λ (x : ℕ). bit_at x (t % 64)) e
    ∙ bit_at-pow_other (s % 64) (t % 64) (λ r. n (omega arith)))
    (λ (l : m ≤ s / 64). row_past m (slice_set (replicate m 0) (s / 64) w) (simp (length-set, length-replicate)) t (omega arith))
    (cases_lt (s / 64) m))
    (λ (q : t / 64 ≡ s / 64 → ⊥). row_set_other (replicate m 0) (s / 64) w t q ∙ row_none m t)
    (cases_eq (t / 64) (s / 64))
