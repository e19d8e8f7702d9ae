-- Lists of bounded numbers, by which the simple kinds keep their levels. Assumes nothing.
use Rattle.std.specs.Prelude.{◌≡◌, ℕ, zero, suc, ◌+◌, ◌<◌, ◌≤◌, min, List, map, length, slice_index}
use Rattle.std.proofs.Common.{⊎_elim, arith}
use Rattle.std.specs.List.{range_with_len}
use Rattle.std.proofs.lemmas.List.FromFn.{length-map-range_with_len, get_or-map-range_with_len}
use Rattle.std.proofs.lemmas.List.{get_or_past}
use Rattle.std.proofs.lemmas.Bool.{cases_lt}

-- n numbers, none above the cap
abbrev pub Bounded : ℕ → ℕ → List ℕ → Type 0
Bounded n cap xs = (length xs ≡ n) × ((i : ℕ) → slice_index xs i ≤ cap)

-- a list from a function that keeps below the cap is bounded
pub counted_bounded : (n cap : ℕ) (f : ℕ → ℕ) → ((i : ℕ) → f i ≤ cap) → Bounded n cap (map f (range_with_len 0 n))
counted_bounded n cap f low = (
  length-map-range_with_len f 0 n,
  λ i. ⊎_elim
      (λ (h : i < n). omega (arith, get_or-map-range_with_len f 0 n i i 0 h (omega arith), low i))
      (λ (h : n ≤ i). omega (arith, get_or_past (map f (range_with_len 0 n)) i 0 (omega (arith, length-map-range_with_len f 0 n))))
      (cases_lt i n),
)

-- the list of the levels f 0 to f (n - 1), each cut at the cap
unfoldable pub levels_of : ℕ → ℕ → (ℕ → ℕ) → List ℕ
levels_of n cap f = map (λ s. min (f s) cap) (range_with_len 0 n)

pub levels_bounded : (n cap : ℕ) (f : ℕ → ℕ) → Bounded n cap (levels_of n cap f)
unfolding levels_of
levels_bounded n cap f = counted_bounded n cap (λ s. min (f s) cap) (λ i. omega arith)

-- the sum of f below n
unfoldable pub sum_below : (ℕ → ℕ) → ℕ → ℕ
sum_below f zero = 0
sum_below f (suc n) = sum_below f n + f n
