-- Another form of the laws, which is quicker to show: a value lies above its parts and under all that does. Assumes nothing.
use Rattle.std.proofs.Common.{◌≡◌, ℕ, ◌<◌, true, false, ◌⊎◌}
use Rattle.lattice.specs.Laws.{Laws, Lattice, Levels}
use Rattle.lattice.specs.Ops.{Ops, alone, parts, joined}
use Rattle.lattice.proofs.Parts.{parts_all, parts_each, joined_least, joined_above}

pub record Core {K : Type 0} (o : Ops K) : Type 0 where
  pub lattice : Lattice o
  pub levels : Levels o
  pub part_under : (x : K) (s : ℕ) → 0 < o.level x s → o.under (o.part s (o.level x s)) x ≡ true
  pub whole_under : (x z : K) → ((s : ℕ) → s < o.width → 0 < o.level x s → o.under (o.part s (o.level x s)) z ≡ true) → o.under x z ≡ true
  pub apart : (x : K) (s t : ℕ) → (s ≡ t → ⊥) → 0 < o.level x s → 0 < o.level x t
      → o.under (o.part s (o.level x s)) (o.part t (o.level x t)) ≡ false
  pub prime : (x y : K) (s l : ℕ) → o.admits s l ≡ true → o.under (o.part s l) (o.join x y) ≡ true
      → (o.under (o.part s l) x ≡ true) ⊎ (o.under (o.part s l) y ≡ true)

module _ {K : Type 0} (o : Ops K) where
  pub laws_from : Core o → Laws o
  laws_from C = record {
    lattice = C.lattice;
    levels = C.levels;
    whole = λ x. C.lattice.antisym (joined o (parts o x)) x
        (joined_least o C.lattice (parts o x) x (parts_all o (λ p. o.under (alone o p) x ≡ true) x o.width (λ s l p. C.part_under x s p)))
        (C.whole_under x (joined o (parts o x))
        (parts_each o (λ p. o.under (alone o p) (joined o (parts o x)) ≡ true) x o.width
        (joined_above o C.lattice (parts o x) (joined o (parts o x)) (C.lattice.refl (joined o (parts o x))))));
    apart = C.apart;
    prime = C.prime;
  }
