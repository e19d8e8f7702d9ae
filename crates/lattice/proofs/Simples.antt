-- A simple kind keeps the laws, and how its calls are told by levels. Assumes nothing.
use Rattle.std.proofs.Common.{◌≡◌, ℕ, zero, suc, ◌<◌, ◌≤◌, max, Bool, true, false, cond, ◌&&◌, eqb, ltb, leb, ◌⊎◌, Result, sym, refl, ap, ◌∙◌, subst, inl, inr, ⊎_elim, arith}
use Rattle.std.proofs.lemmas.Bool.{and_parts, and_from, and_left, cases_order, cases_lt, cases_eq, cases_Bool, lt-ltb, le-leb, ltb-true, leb-true, eq-eqb, ne_eqb, both_ways, cond-true}
use Rattle.lattice.specs.declared.part.Act.{Act}
use Rattle.lattice.specs.Laws.{Laws, Lattice, Levels}
use Rattle.lattice.specs.Ops.{Ops}
use Rattle.lattice.specs.Simple.{all_below, Shape, Shaped, simple_ops}
use Rattle.lattice.proofs.Core.{laws_from}

pub all_each : (f : ℕ → Bool) (n : ℕ) → all_below f n ≡ true → (s : ℕ) → s < n → f s ≡ true
unfolding all_below
all_each f zero h s l = absurd (omega arith)
all_each f (suc n) h s l =
    let both = and_parts (f n) (all_below f n) h in
    ⊎_elim
    (λ (e : s ≡ n). ap f e ∙ both.0)
    (⊎_elim (λ (lt : s < n). all_each f n both.1 s lt) (λ (lt : n < s). absurd (omega arith)))
    (cases_order s n)

pub all_from : (f : ℕ → Bool) (n : ℕ) → ((s : ℕ) → s < n → f s ≡ true) → all_below f n ≡ true
unfolding all_below
all_from f zero h = refl
all_from f (suc n) h = and_from (f n) (all_below f n) (h n (omega arith)) (all_from f n (λ s l. h s (omega arith)))

module _ {K : Type 0} (h : Shape K) (H : Shaped h) (effect : K → ℕ → Act → Result K ℕ) where
  abbrev o : Ops K
  o = simple_ops h effect

  under_le : (x y : K) → o.under x y ≡ true → (s : ℕ) → h.level x s ≤ h.level y s
  under_le x y u s =
      ⊎_elim
      (λ (l : s < h.width). leb-true (h.level x s) (h.level y s) (all_each (λ t. leb (h.level x t) (h.level y t)) h.width u s l))
      (λ (l : h.width ≤ s). omega (arith, H.past x s l))
      (cases_lt s h.width)

  le_under : (x y : K) → ((s : ℕ) → s < h.width → h.level x s ≤ h.level y s) → o.under x y ≡ true
  le_under x y u = all_from (λ t. leb (h.level x t) (h.level y t)) h.width (λ s l. le-leb (h.level x s) (h.level y s) (u s l))

  join_level : (x y : K) (s : ℕ) → s < h.width → h.level (o.join x y) s ≡ max (h.level x s) (h.level y s)
  join_level x y s l = omega (arith, H.made (λ t. max (h.level x t) (h.level y t)) s l, H.capped x s, H.capped y s)

  bottom_level : (s : ℕ) → h.level o.bottom s ≡ 0
  bottom_level s = ⊎_elim (λ (l : s < h.width). omega (arith, H.made (λ _. 0) s l)) (λ (l : h.width ≤ s). H.past o.bottom s l) (cases_lt s h.width)

  within : (s l : ℕ) → o.admits s l ≡ true → (s < h.width) × (0 < l) × (l ≤ h.cap)
  within s l a =
      let p = and_parts (ltb s h.width) (ltb 0 l && leb l h.cap) a in
      let q = and_parts (ltb 0 l) (leb l h.cap) p.1 in
      (ltb-true s h.width p.0, ltb-true 0 l q.0, leb-true l h.cap q.1)

  admits_from : (s l : ℕ) → s < h.width → 0 < l → l ≤ h.cap → o.admits s l ≡ true
  admits_from s l a b c =
      and_from (ltb s h.width) (ltb 0 l && leb l h.cap) (lt-ltb s h.width a) (and_from (ltb 0 l) (leb l h.cap) (lt-ltb 0 l b) (le-leb l h.cap c))

  part_level : (s l : ℕ) → s < h.width → l ≤ h.cap → h.level (o.part s l) s ≡ l
  part_level s l a b = omega (arith, H.made (λ t. cond (eqb t s) l 0) s a, ap (λ (t : Bool). cond t l 0) (eq-eqb s s refl))

  part_else : (s l t : ℕ) → (t ≡ s → ⊥) → h.level (o.part s l) t ≡ 0
  part_else s l t n =
      ⊎_elim
      (λ (a : t < h.width). omega (arith, H.made (λ u. cond (eqb u s) l 0) t a, ap (λ (u : Bool). cond u l 0) (ne_eqb t s n)))
      (λ (a : h.width ≤ t). H.past (o.part s l) t a)
      (cases_lt t h.width)

  slot_of : (x : K) (s : ℕ) → 0 < h.level x s → s < h.width
  slot_of x s p = ⊎_elim (λ (l : s < h.width). l) (λ (l : h.width ≤ s). absurd (omega (arith, H.past x s l))) (cases_lt s h.width)

  -- a part is under a value just when its level is at most the value's there
  part_le : (s l : ℕ) (x : K) → s < h.width → l ≤ h.cap → l ≤ h.level x s → o.under (o.part s l) x ≡ true
  part_le s l x a b c =
      le_under (o.part s l) x (λ t d. ⊎_elim
      (λ (e : t ≡ s). subst (λ (k : ℕ). h.level (o.part s l) k ≤ h.level x k) (sym e) (omega (arith, part_level s l a b)))
      (⊎_elim
      (λ (e : t < s). omega (arith, part_else s l t (omega arith)))
      (λ (e : s < t). omega (arith, part_else s l t (omega arith))))
      (cases_order t s))

  pub part_test : (s l : ℕ) (x : K) → s < h.width → l ≤ h.cap → leb l (h.level x s) ≡ o.under (o.part s l) x
  part_test s l x a b = ⊎_elim
      (λ (u : o.under (o.part s l) x ≡ true). le-leb l (h.level x s) (omega (arith, part_level s l a b, under_le (o.part s l) x u s)) ∙ sym u)
      (λ (u : o.under (o.part s l) x ≡ false). ⊎_elim
      (λ (c : leb l (h.level x s) ≡ true). absurd (both_ways (o.under (o.part s l) x) u (part_le s l x a b (leb-true l (h.level x s) c))))
      (λ (c : leb l (h.level x s) ≡ false). c ∙ sym u)
      (cases_Bool (leb l (h.level x s))))
      (cases_Bool (o.under (o.part s l) x))

  lattice : Lattice o
  lattice = record {
    refl = λ x. le_under x x (λ s l. omega arith);
    trans = λ x y z p q. le_under x z (λ s l. omega (arith, under_le x y p s, under_le y z q s));
    antisym = λ x y p q. H.same x y (λ s l. omega (arith, under_le x y p s, under_le y x q s));
    above_left = λ x y. le_under x (o.join x y) (λ s l. omega (arith, join_level x y s l));
    above_right = λ x y. le_under y (o.join x y) (λ s l. omega (arith, join_level x y s l));
    least = λ x y z p q. le_under (o.join x y) z (λ s l. omega (arith, join_level x y s l, under_le x z p s, under_le y z q s));
    bottom_under = λ x. le_under o.bottom x (λ s l. omega (arith, bottom_level s));
  }

  levels : Levels o
  levels = record {
    bottom_level = bottom_level;
    past = H.past;
    admitted = λ x s p. admits_from s (h.level x s) (slot_of x s p) p (H.capped x s);
    admits_slot = λ s l a. (within s l a).0;
    admits_level = λ s l a. ((within s l a).1, omega (arith, (within s l a).2, H.small));
    part_level = λ s l a. part_level s l (within s l a).0 (within s l a).2;
    part_else = λ s l t a n. part_else s l t n;
  }

  prime : (x y : K) (s l : ℕ) → o.admits s l ≡ true → o.under (o.part s l) (o.join x y) ≡ true
      → (o.under (o.part s l) x ≡ true) ⊎ (o.under (o.part s l) y ≡ true)
  prime x y s l a u =
      let w = within s l a in
      let m : l ≤ max (h.level x s) (h.level y s) = omega (arith, part_level s l w.0 w.2, under_le (o.part s l) (o.join x y) u s, join_level x y s w.0) in
      ⊎_elim
      (λ (c : h.level x s < h.level y s). inr (part_le s l y w.0 w.2 (omega arith)))
      (λ (c : h.level y s ≤ h.level x s). inl (part_le s l x w.0 w.2 (omega arith)))
      (cases_lt (h.level x s) (h.level y s))

  apart : (x : K) (s t : ℕ) → (s ≡ t → ⊥) → 0 < h.level x s → 0 < h.level x t
      → o.under (o.part s (h.level x s)) (o.part t (h.level x t)) ≡ false
  apart x s t n p q = ⊎_elim
      (λ (u : o.under (o.part s (h.level x s)) (o.part t (h.level x t)) ≡ true).
      absurd (omega (arith, under_le (o.part s (h.level x s)) (o.part t (h.level x t)) u s, part_level s (h.level x s) (slot_of x s p) (H.capped x s), part_else t (h.level x t) s n)))
      (λ (u : o.under (o.part s (h.level x s)) (o.part t (h.level x t)) ≡ false). u)
      (cases_Bool (o.under (o.part s (h.level x s)) (o.part t (h.level x t))))

  whole_under : (x z : K) → ((s : ℕ) → s < h.width → 0 < h.level x s → o.under (o.part s (h.level x s)) z ≡ true) → o.under x z ≡ true
  whole_under x z f = le_under x z (λ s l. ⊎_elim
      (λ (p : 0 < h.level x s). omega (arith, under_le (o.part s (h.level x s)) z (f s l p) s, part_level s (h.level x s) l (H.capped x s)))
      (λ (p : h.level x s ≤ 0). omega arith)
      (cases_lt 0 (h.level x s)))

  pub simple_laws : Laws o
  simple_laws = laws_from o (record {
    lattice = lattice;
    levels = levels;
    part_under = λ x s p. part_le s (h.level x s) x (slot_of x s p) (H.capped x s) (omega arith);
    whole_under = whole_under;
    apart = apart;
    prime = prime;
  })

  -- a value is known by its levels
  pub join_is : (x y z : K) → ((s : ℕ) → s < h.width → h.level z s ≡ max (h.level x s) (h.level y s)) → z ≡ o.join x y
  join_is x y z f = H.same z (o.join x y) (λ s l. f s l ∙ sym (join_level x y s l))

  pub bottom_is : (z : K) → ((s : ℕ) → s < h.width → h.level z s ≡ 0) → z ≡ o.bottom
  bottom_is z f = H.same z o.bottom (λ s l. f s l ∙ sym (bottom_level s))

  pub part_is : (z : K) (s l : ℕ) → s < h.width → l ≤ h.cap → h.level z s ≡ l → ((t : ℕ) → t < h.width → (t ≡ s → ⊥) → h.level z t ≡ 0) → z ≡ o.part s l
  part_is z s l a b e f = H.same z (o.part s l) (λ t d. ⊎_elim
      (λ (q : t ≡ s). subst (λ (k : ℕ). h.level z k ≡ h.level (o.part s l) k) (sym q) (e ∙ sym (part_level s l a b)))
      (λ (q : t ≡ s → ⊥). f t d q ∙ sym (part_else s l t q))
      (cases_eq t s))

  -- the same where the value is told by the code: joined with an admitted part
  pub join_part_is : (x z : K) (s l : ℕ) → true ≡ o.admits s l → h.level z s ≡ max (h.level x s) l
      → ((t : ℕ) → t < h.width → (t ≡ s → ⊥) → h.level z t ≡ h.level x t) → z ≡ cond (o.admits s l) (o.join x (o.part s l)) x
  join_part_is x z s l a e f =
      let w = within s l (sym a) in
      join_is x (o.part s l) z (λ t d. ⊎_elim
      (λ (q : t ≡ s). subst (λ (k : ℕ). h.level z k ≡ max (h.level x k) (h.level (o.part s l) k)) (sym q) (omega (arith, e, part_level s l w.0 w.2)))
      (λ (q : t ≡ s → ⊥). omega (arith, f t d q, part_else s l t q))
      (cases_eq t s))
      ∙ sym (cond-true (o.admits s l) _ _ (sym a))

  -- under, by the levels
  pub under_true : (x y : K) → ((s : ℕ) → s < h.width → h.level x s ≤ h.level y s) → true ≡ o.under x y
  under_true x y f = sym (le_under x y f)

  pub under_false : (x y : K) → (((s : ℕ) → h.level x s ≤ h.level y s) → ⊥) → false ≡ o.under x y
  under_false x y no-order = ⊎_elim
      (λ (u : o.under x y ≡ true). absurd (no-order (under_le x y u)))
      (λ (u : o.under x y ≡ false). sym u)
      (cases_Bool (o.under x y))

  pub admits_within : (s l : ℕ) → o.admits s l ≡ true → (s < h.width) × (0 < l) × (l ≤ h.cap)
  admits_within = within

  -- an admitted part is under a value just when its level is at most the value's, and one that is not admitted is under none
  pub covers_yes : (s l v : ℕ) (x : K) → true ≡ o.admits s l → v ≡ h.level x s → leb l v ≡ (o.admits s l && o.under (o.part s l) x)
  covers_yes s l v x a e =
      let w = within s l (sym a) in
      ap (leb l) e ∙ part_test s l x w.0 w.2 ∙ ap (λ (t : Bool). t && o.under (o.part s l) x) a

  pub covers_no : (s l : ℕ) (x : K) (r : Bool) → r ≡ o.admits s l → r ≡ false → r ≡ (o.admits s l && o.under (o.part s l) x)
  covers_no s l x r a e = e ∙ sym (and_left (o.admits s l) (o.under (o.part s l) x) (sym a ∙ e))
