-- Rows of bits, 64 to a word. Assumes nothing.
use Rattle.std.specs.Prelude.{ℕ, zero, suc, ◌+◌, ◌*◌, ◌/◌, ◌%◌, ◌^◌, ◌<◌, min, List, map, slice_index}
use Rattle.std.proofs.Common.{pow-suc, arith}
use Rattle.std.specs.Int.{bit_at}
use Rattle.std.specs.List.{range_with_len}
use Rattle.kinds.specs.Levels.{Bounded, counted_bounded}

-- bit s of a row of 64-bit words
abbrev pub row_bit : List ℕ → ℕ → ℕ
row_bit ws s = bit_at (slice_index ws (s / 64)) (s % 64)

-- the word of n bits whose bit k is set where f k is 1 or more
unfoldable pub word : ℕ → (ℕ → ℕ) → ℕ
word zero f = 0
word (suc n) f = min (f 0) 1 + 2 * word n (λ k. f (suc k))

pub word_lt : (n : ℕ) (f : ℕ → ℕ) → word n f < 2 ^ n
unfolding word
word_lt zero f = omega arith
word_lt (suc n) f = omega (arith, word_lt n (λ k. f (suc k)), pow-suc 2 n)

-- m words, with bit s set where f s is 1 or more
unfoldable pub row : ℕ → (ℕ → ℕ) → List ℕ
row m f = map (λ i. word 64 (λ k. f (64 * i + k))) (range_with_len 0 m)

pub row_bounded : (m : ℕ) (f : ℕ → ℕ) → Bounded m 18446744073709551615 (row m f)
unfolding row
row_bounded m f = counted_bounded m 18446744073709551615 (λ i. word 64 (λ k. f (64 * i + k))) (λ i. omega (arith, word_lt 64 (λ k. f (64 * i + k))))
