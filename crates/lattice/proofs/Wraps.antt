-- A wrapped kind keeps the laws of the kind inside. Assumes nothing.
use Rattle.std.proofs.Common.{◌≡◌, ℕ, Bool, true, ◌⊎◌, Result, sym, ap, ◌∙◌, subst, ap₂}
use Rattle.lattice.specs.declared.part.Act.{Act}
use Rattle.lattice.specs.Laws.{Laws, Lattice, Levels}
use Rattle.lattice.specs.Ops.{Ops}
use Rattle.lattice.specs.Wrapped.{wrapped_ops}
use Rattle.lattice.proofs.Core.{laws_from}
use Rattle.lattice.proofs.Parts.{part_under, whole_under}

module _ {K W : Type 0} (o : Ops K) (inner : W → K) (outer : K → W) (effect : W → ℕ → Act → Result W ℕ)
    (back : (k : K) → inner (outer k) ≡ k) (forth : (x : W) → outer (inner x) ≡ x) where
  abbrev w : Ops W
  w = wrapped_ops o inner outer effect

  -- a value made outside is inside what it was made of, on either side of an order
  below : (k : K) (x : W) → w.under (outer k) x ≡ o.under k (inner x)
  below k x = ap (λ (n : K). o.under n (inner x)) (back k)

  above : (x : W) (k : K) → w.under x (outer k) ≡ o.under (inner x) k
  above x k = ap (o.under (inner x)) (back k)

  between : (j k : K) → w.under (outer j) (outer k) ≡ o.under j k
  between j k = ap₂ o.under (back j) (back k)

  pub wrapped_lattice : Lattice o → Lattice w
  wrapped_lattice L = record {
    refl = λ x. L.refl (inner x);
    trans = λ x y z. L.trans (inner x) (inner y) (inner z);
    antisym = λ x y a b. sym (forth x) ∙ ap outer (L.antisym (inner x) (inner y) a b) ∙ forth y;
    above_left = λ x y. above x (o.join (inner x) (inner y)) ∙ L.above_left (inner x) (inner y);
    above_right = λ x y. above y (o.join (inner x) (inner y)) ∙ L.above_right (inner x) (inner y);
    least = λ x y z a b. below (o.join (inner x) (inner y)) z ∙ L.least (inner x) (inner y) (inner z) a b;
    bottom_under = λ x. below o.bottom x ∙ L.bottom_under (inner x);
  }

  module _ (L : Laws o) where
    levels : Levels w
    levels = record {
      bottom_level = λ s. ap (λ (k : K). o.level k s) (back o.bottom) ∙ L.levels.bottom_level s;
      past = λ x. L.levels.past (inner x);
      admitted = λ x. L.levels.admitted (inner x);
      admits_slot = L.levels.admits_slot;
      admits_level = L.levels.admits_level;
      part_level = λ s l a. ap (λ (k : K). o.level k s) (back (o.part s l)) ∙ L.levels.part_level s l a;
      part_else = λ s l t a n. ap (λ (k : K). o.level k t) (back (o.part s l)) ∙ L.levels.part_else s l t a n;
    }

    pub wrapped_laws : Laws w
    wrapped_laws = laws_from w (record {
      lattice = wrapped_lattice L.lattice;
      levels = levels;
      part_under = λ x s h. below (o.part s (o.level (inner x) s)) x ∙ part_under o L (inner x) s h;
      whole_under = λ x z all. whole_under o L (inner x) (inner z) (λ s l h. sym (below (o.part s (o.level (inner x) s)) z) ∙ all s l h);
      apart = λ x s t n a b. between (o.part s (o.level (inner x) s)) (o.part t (o.level (inner x) t)) ∙ L.apart (inner x) s t n a b;
      prime = λ x y s l a u.
          subst (λ (e : Bool × Bool). (e.0 ≡ true) ⊎ (e.1 ≡ true)) (λ i. (sym (below (o.part s l) x) i, sym (below (o.part s l) y) i))
          (L.prime (inner x) (inner y) s l a (sym (between (o.part s l) (o.join (inner x) (inner y))) ∙ u));
    })
