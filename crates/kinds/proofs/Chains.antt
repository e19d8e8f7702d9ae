-- What a chain over a list comes to, told by index. Assumes nothing.
use Rattle.std.proofs.Common.{◌≡◌, ℕ, zero, suc, ◌+◌, ◌*◌, ◌<◌, ◌≤◌, Bool, true, List, [], ◌∷◌, length, take, get_or, sym, ap, ◌∙◌, refl, add-one, arith}
use Rattle.std.specs.Cmp.{both_ways}
use Rattle.std.specs.List.{sum_by, list_all, zip}
use Rattle.std.proofs.lemmas.Bool.{and_parts, and_from}
use Rattle.std.proofs.lemmas.List.{take_all}
use Rattle.std.proofs.lemmas.List.Elements.{All-from_get_or}
use Rattle.std.proofs.lemmas.List.Sums.{sum_by_more, sum_by-le}
use Rattle.lattice.specs.Simple.{all_below}
use Rattle.lattice.proofs.Simples.{all_each, all_from}

-- a sum of the first terms is any count from 0 that each element steps
pub sum_by_front : (f count : ℕ → ℕ) (xs : List ℕ) → count 0 ≡ 0
    → ((i : ℕ) → i < length xs → count (i + 1) ≡ count i + f (get_or xs i 0)) → (n : ℕ) → n ≤ length xs → sum_by f (take n xs) ≡ count n
sum_by_front f count xs none more zero h = sym none
sum_by_front f count xs none more (suc n) h =
    rw add-one at (sum_by_more f xs n 0 (omega arith))
    ∙ ap (λ (s : ℕ). s + f (get_or xs n 0)) (sum_by_front f count xs none more n (omega arith))
    ∙ sym (rw add-one at (more n (omega arith)))

-- a sum is any count from 0 that each element steps
pub sum_by_steps : (f count : ℕ → ℕ) (xs : List ℕ) → count 0 ≡ 0
    → ((i : ℕ) → i < length xs → count (i + 1) ≡ count i + f (get_or xs i 0)) → sum_by f xs ≡ count (length xs)
sum_by_steps f count xs none more =
    ap (sum_by f) (sym (take_all (length xs) xs (omega arith))) ∙ sum_by_front f count xs none more (length xs) (omega arith)

-- and keeps below the cap a term, where each term does
pub sum_by_front_low : (f : ℕ → ℕ) (cap : ℕ) (xs : List ℕ) → ((i : ℕ) → f (get_or xs i 0) ≤ cap) → (n : ℕ) → n ≤ length xs → sum_by f (take n xs) ≤ n * cap
sum_by_front_low f cap xs low zero h = omega arith
sum_by_front_low f cap xs low (suc n) h = omega (arith, rw add-one at (sum_by_more f xs n 0 (omega arith)), sum_by_front_low f cap xs low n (omega arith), low n)

-- a sum of terms that keep below the cap
pub sum_by_low : (f : ℕ → ℕ) (cap : ℕ) (xs : List ℕ) → ((i : ℕ) → f (get_or xs i 0) ≤ cap) → sum_by f xs ≤ length xs * cap
sum_by_low f cap xs low = sum_by-le f cap xs (All-from_get_or (λ x. f x ≤ cap) xs 0 (λ i h. low i))

zip_each : (test : ℕ × ℕ → Bool) (xs ys : List ℕ) → list_all test (zip xs ys) ≡ true
    → (i : ℕ) → i < length xs → i < length ys → test (get_or xs i 0, get_or ys i 0) ≡ true
zip_each test [] ys h i a b = absurd (omega arith)
zip_each test (x ∷ xs) [] h i a b = absurd (omega arith)
zip_each test (x ∷ xs) (y ∷ ys) h zero a b = (and_parts _ _ h).0
zip_each test (x ∷ xs) (y ∷ ys) h (suc i) a b = zip_each test xs ys (and_parts _ _ h).1 i (omega arith) (omega arith)

zip_from : (test : ℕ × ℕ → Bool) (xs ys : List ℕ)
    → ((i : ℕ) → i < length xs → i < length ys → test (get_or xs i 0, get_or ys i 0) ≡ true) → list_all test (zip xs ys) ≡ true
zip_from test [] ys f = refl
zip_from test (x ∷ xs) [] f = refl
zip_from test (x ∷ xs) (y ∷ ys) f = and_from _ _ (f 0 (omega arith) (omega arith)) (zip_from test xs ys (λ i a b. f (suc i) (omega arith) (omega arith)))

-- a test of all pairs of two lists passes just when a test passes at each slot, where either follows from the other
pub all_zipped : (test : ℕ × ℕ → Bool) (each : ℕ → Bool) (n : ℕ) (xs ys : List ℕ)
    → (((i : ℕ) → i < length xs → i < length ys → test (get_or xs i 0, get_or ys i 0) ≡ true) → (s : ℕ) → s < n → each s ≡ true)
    → (((s : ℕ) → s < n → each s ≡ true) → (i : ℕ) → i < length xs → i < length ys → test (get_or xs i 0, get_or ys i 0) ≡ true)
    → list_all test (zip xs ys) ≡ all_below each n
all_zipped test each n xs ys there back =
    both_ways _ _ (λ h. all_from each n (there (zip_each test xs ys h))) (λ h. zip_from test xs ys (back (all_each each n h)))
