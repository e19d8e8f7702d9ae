-- Lists of bounded numbers. Assumes nothing.
use Rattle.std.specs.Prelude.{◌≡◌, ℕ, ◌+◌, ◌<◌, ◌≤◌, min, List, length, slice_index, slice_set}
use Rattle.std.proofs.Common.{sym, subst, ◌∙◌, ⊎_elim, add-one, arith, length-set, get_or-set_same, get_or-set_other}
use mathlib.Core.HLevel.{×_prop, Π_prop}
use Rattle.std.proofs.Math.Bridge.{le_prop}
use Rattle.std.proofs.Math.Nat.{ℕ_set}
use Rattle.std.proofs.lemmas.List.FromFn.{get_or-map-range_with_len}
use Rattle.std.proofs.lemmas.List.{ext_get_or, get_or_past}
use Rattle.std.proofs.lemmas.Bool.{cases_eq, cases_lt}
use Rattle.kinds.specs.Levels.{Bounded, levels_of, sum_below}

pub bounded_prop : (n cap : ℕ) (xs : List ℕ) → IsProp (Bounded n cap xs)
bounded_prop n cap xs = ×_prop (ℕ_set (length xs) n) (Π_prop (λ i. le_prop {n = slice_index xs i} {m = cap}))

pub bounded_same : (n cap : ℕ) (xs ys : List ℕ) → Bounded n cap xs → Bounded n cap ys → ((s : ℕ) → s < n → slice_index xs s ≡ slice_index ys s) → xs ≡ ys
bounded_same n cap xs ys p q h = ext_get_or 0 xs ys (p.0 ∙ sym q.0) (λ k l. h k (omega (arith, p.0)))

pub bounded_past : (n cap : ℕ) (xs : List ℕ) → Bounded n cap xs → (s : ℕ) → n ≤ s → slice_index xs s ≡ 0
bounded_past n cap xs p s h = get_or_past xs s 0 (omega (arith, p.0))

pub levels_at : (n cap : ℕ) (f : ℕ → ℕ) (s : ℕ) → s < n → slice_index (levels_of n cap f) s ≡ min (f s) cap
unfolding levels_of
levels_at n cap f s h = get_or-map-range_with_len (λ t. min (f t) cap) 0 n s s 0 h (omega arith)

pub sum_more : (f : ℕ → ℕ) (n : ℕ) → sum_below f (n + 1) ≡ sum_below f n + f n
unfolding sum_below
sum_more f n = rw add-one

pub bounded_set : (n cap : ℕ) (xs : List ℕ) (i v : ℕ) → Bounded n cap xs → v ≤ cap → Bounded n cap (slice_set xs i v)
bounded_set n cap xs i v p h = (
  length-set xs i v ∙ p.0,
  λ k. ⊎_elim
      (λ (e : k ≡ i). ⊎_elim
      (λ (l : i < length xs). subst (λ (j : ℕ). slice_index (slice_set xs i v) j ≤ cap) (sym e) (omega (arith, get_or-set_same xs i v 0 l)))
      (λ (l : length xs ≤ i). omega (arith, get_or_past (slice_set xs i v) k 0 (omega (arith, length-set xs i v))))
      (cases_lt i (length xs)))
      (λ (e : k ≡ i → ⊥). omega (arith, get_or-set_other xs i k v 0 e, p.1 k))
      (cases_eq k i),
)
