-- The pair of two kinds keeps the laws. Assumes nothing.
use Rattle.std.specs.Prelude.{◌≡◌, ℕ, ◌+◌, ◌-◌, ◌<◌, ◌≤◌, Bool, true, false, cond, ◌⊎◌, Some, None, ◌≢◌, nat_lt, refl}
use Rattle.std.proofs.Common.{sym, ap, ap₂, subst, ◌∙◌, inl, inr, ⊎_elim, arith}
use Rattle.std.proofs.lemmas.Bool.{and_parts, and_from, and_left, and_right, cases_lt, lt-ltb, le-ltb, ltb-true, cond-true, cond-false}
use Rattle.kinds.specs.declared.pair.Pair.{Pair}
use Rattle.lattice.specs.Laws.{Laws, Lattice, Levels}
use Rattle.lattice.specs.Ops.{Ops}
use Rattle.kinds.specs.Pairs.{on_left, on_right, pair_ops}
use Rattle.lattice.proofs.Core.{laws_from}
use Rattle.lattice.proofs.Order.{join_bottom}
use Rattle.lattice.proofs.Parts.{part_under, part_not_bottom, whole_under}

-- which way a slot that is found on the left went
pub found_left : (s n k : ℕ) → None ≡ cond (nat_lt s n) None (Some k) → s < n
found_left s n k e = ltb-true s n (go (nat_lt s n) e)
  where
    go : (t : Bool) → None ≡ cond t None (Some k) → t ≡ true
    go true f = refl
    go false f = let z : ◌≡◌ {A = ℕ} 0 1 = cc in absurd (omega arith)

module _ {A B : Type 0} (p : Ops A) (q : Ops B) where
  abbrev o : Ops (Pair A B)
  o = pair_ops p q

  by_side : (P : ℕ → Type 0) → ((s : ℕ) → s < p.width → P s) → ((t : ℕ) → P (p.width + t)) → (s : ℕ) → P s
  by_side P f g s = ⊎_elim
      (λ (h : s < p.width). f s h)
      (λ (h : p.width ≤ s). let e : p.width + (s - p.width) ≡ s = omega arith in subst P e (g (s - p.width)))
      (cases_lt s p.width)

  -- what goes by the side of a slot
  on_its_left : {X : Type 0} (s : ℕ) (x y : X) → s < p.width → cond (nat_lt s p.width) x y ≡ x
  on_its_left s x y h = cond-true (nat_lt s p.width) x y (lt-ltb s p.width h)

  on_its_right : {X : Type 0} (t : ℕ) (x : X) (f : ℕ → X) → cond (nat_lt (p.width + t) p.width) x (f ((p.width + t) - p.width)) ≡ f t
  on_its_right t x f = cond-false (nat_lt (p.width + t) p.width) _ _ (le-ltb (p.width + t) p.width (omega arith)) ∙ ap f (omega arith)

  left_level : (x : Pair A B) (s : ℕ) → s < p.width → o.level x s ≡ p.level x.left s
  left_level x s = on_its_left s _ _

  right_level : (x : Pair A B) (t : ℕ) → o.level x (p.width + t) ≡ q.level x.right t
  right_level x t = on_its_right t _ (q.level x.right)

  left_admits : (s l : ℕ) → s < p.width → o.admits s l ≡ p.admits s l
  left_admits s l = on_its_left s _ _

  pub answer_left : (s l : ℕ) (r : Bool) → s < p.width → r ≡ p.admits s l → r ≡ o.admits s l
  answer_left s l r h e = e ∙ sym (left_admits s l h)

  right_admits : (t l : ℕ) → o.admits (p.width + t) l ≡ q.admits t l
  right_admits t l = on_its_right t _ (λ n. q.admits n l)

  left_part : (s l : ℕ) → s < p.width → o.part s l ≡ on_left p q (p.part s l)
  left_part s l = on_its_left s _ _

  right_part : (t l : ℕ) → o.part (p.width + t) l ≡ on_right p q (q.part t l)
  right_part t l = on_its_right t _ (λ n. on_right p q (q.part n l))

  pub pair_lattice : Lattice p → Lattice q → Lattice o
  pair_lattice L M = record {
    refl = λ x. and_from _ _ (L.refl x.left) (M.refl x.right);
    trans = λ x y z a b.
        let c = and_parts _ _ a in
        let d = and_parts _ _ b in
        and_from _ _ (L.trans x.left y.left z.left c.0 d.0) (M.trans x.right y.right z.right c.1 d.1);
    antisym = λ x y a b.
        let c = and_parts _ _ a in
        let d = and_parts _ _ b in
        let e = L.antisym x.left y.left c.0 d.0 in
        let f = M.antisym x.right y.right c.1 d.1 in
        λ i. record { left = e i; right = f i };
    above_left = λ x y. and_from _ _ (L.above_left x.left y.left) (M.above_left x.right y.right);
    above_right = λ x y. and_from _ _ (L.above_right x.left y.left) (M.above_right x.right y.right);
    least = λ x y z a b.
        let c = and_parts _ _ a in
        let d = and_parts _ _ b in
        and_from _ _ (L.least x.left y.left z.left c.0 d.0) (M.least x.right y.right z.right c.1 d.1);
    bottom_under = λ x. and_from _ _ (L.bottom_under x.left) (M.bottom_under x.right);
  }

  -- a part joined on the left
  pub join_left : (M : Lattice q) (x : Pair A B) (s l : ℕ) (z : A) → s < p.width → z ≡ cond (p.admits s l) (p.join x.left (p.part s l)) x.left
      → ◌≡◌ {A = Pair A B} (record { left = z; right = x.right }) (cond (o.admits s l) (o.join x (o.part s l)) x)
  join_left M x s l z h e =
      go (p.admits s l) e ∙ ap (λ (w : Pair A B). cond (p.admits s l) (o.join x w) x) (sym (left_part s l h))
      ∙ ap (λ (t : Bool). cond t (o.join x (o.part s l)) x) (sym (left_admits s l h))
    where
      go : (t : Bool) → z ≡ cond t (p.join x.left (p.part s l)) x.left
          → ◌≡◌ {A = Pair A B} (record { left = z; right = x.right }) (cond t (o.join x (on_left p q (p.part s l))) x)
      go true f = λ i. record { left = f i; right = sym (join_bottom q M x.right) i }
      go false f = λ i. record { left = f i; right = x.right }

  module _ (L : Laws p) (M : Laws q) where
    -- a part is under a value just when it is on its own side
    left_to : (s l : ℕ) (x : Pair A B) → s < p.width → o.under (o.part s l) x ≡ true → p.under (p.part s l) x.left ≡ true
    left_to s l x h u = (and_parts _ _ (subst (λ (w : Pair A B). o.under w x ≡ true) (left_part s l h) u)).0

    left_from : (s l : ℕ) (x : Pair A B) → s < p.width → p.under (p.part s l) x.left ≡ true → o.under (o.part s l) x ≡ true
    left_from s l x h u = subst (λ (w : Pair A B). o.under w x ≡ true) (sym (left_part s l h)) (and_from _ _ u (M.lattice.bottom_under x.right))

    right_to : (t l : ℕ) (x : Pair A B) → o.under (o.part (p.width + t) l) x ≡ true → q.under (q.part t l) x.right ≡ true
    right_to t l x u = (and_parts _ _ (subst (λ (w : Pair A B). o.under w x ≡ true) (right_part t l) u)).1

    right_from : (t l : ℕ) (x : Pair A B) → q.under (q.part t l) x.right ≡ true → o.under (o.part (p.width + t) l) x ≡ true
    right_from t l x u = subst (λ (w : Pair A B). o.under w x ≡ true) (sym (right_part t l)) (and_from _ _ (L.lattice.bottom_under x.left) u)

    lattice : Lattice o
    lattice = pair_lattice L.lattice M.lattice

    levels : Levels o
    levels = record {
      bottom_level = by_side (λ s. o.level o.bottom s ≡ 0)
          (λ s h. left_level o.bottom s h ∙ L.levels.bottom_level s)
          (λ t. right_level o.bottom t ∙ M.levels.bottom_level t);
      past = λ x. by_side (λ s. o.width ≤ s → o.level x s ≡ 0)
          (λ s h k. absurd (omega arith))
          (λ t k. right_level x t ∙ M.levels.past x.right t (omega arith));
      admitted = λ x. by_side (λ s. 0 < o.level x s → o.admits s (o.level x s) ≡ true)
          (λ s h k. left_admits s (o.level x s) h ∙ ap (p.admits s) (left_level x s h) ∙ L.levels.admitted x.left s (omega (arith, left_level x s h)))
          (λ t k. right_admits t (o.level x (p.width + t)) ∙ ap (q.admits t) (right_level x t) ∙ M.levels.admitted x.right t (omega (arith, right_level x t)));
      admits_slot = λ s l. by_side (λ n. o.admits n l ≡ true → n < o.width)
          (λ n h k. omega arith)
          (λ t k. omega (arith, M.levels.admits_slot t l (sym (right_admits t l) ∙ k))) s;
      admits_level = λ s l. by_side (λ n. o.admits n l ≡ true → (0 < l) × (l < 18446744073709551616))
          (λ n h k. L.levels.admits_level n l (sym (left_admits n l h) ∙ k))
          (λ t k. M.levels.admits_level t l (sym (right_admits t l) ∙ k)) s;
      part_level = λ s l. by_side (λ n. o.admits n l ≡ true → o.level (o.part n l) n ≡ l)
          (λ n h k. ap (λ w. o.level w n) (left_part n l h) ∙ left_level (on_left p q (p.part n l)) n h ∙ L.levels.part_level n l (sym (left_admits n l h) ∙ k))
          (λ t k. ap (λ w. o.level w (p.width + t)) (right_part t l) ∙ right_level (on_right p q (q.part t l)) t ∙ M.levels.part_level t l (sym (right_admits t l) ∙ k)) s;
      part_else = λ s l t. by_side (λ n. o.admits n l ≡ true → (t ≢ n) → o.level (o.part n l) t ≡ 0)
          (λ n h k. ap' t (left_part n l h) (by_side (λ m. (m ≢ n) → o.level (on_left p q (p.part n l)) m ≡ 0)
          (λ m g d. left_level (on_left p q (p.part n l)) m g ∙ L.levels.part_else n l m (sym (left_admits n l h) ∙ k) d)
          (λ m d. right_level (on_left p q (p.part n l)) m ∙ M.levels.bottom_level m) t))
          (λ n k. ap' t (right_part n l) (by_side (λ m. (m ≢ p.width + n) → o.level (on_right p q (q.part n l)) m ≡ 0)
          (λ m g d. left_level (on_right p q (q.part n l)) m g ∙ L.levels.bottom_level m)
          (λ m d. right_level (on_right p q (q.part n l)) m ∙ M.levels.part_else n l m (sym (right_admits n l) ∙ k) (λ e. d (ap (λ i. p.width + i) e))) t)) s;
    }
      where
        ap' : (t : ℕ) {x y : Pair A B} {D : Type 0} → x ≡ y → (D → o.level y t ≡ 0) → D → o.level x t ≡ 0
        ap' t e f d = ap (λ w. o.level w t) e ∙ f d

    prime : (x y : Pair A B) (l : ℕ) (s : ℕ) → o.admits s l ≡ true → o.under (o.part s l) (o.join x y) ≡ true
        → (o.under (o.part s l) x ≡ true) ⊎ (o.under (o.part s l) y ≡ true)
    prime x y l = by_side (λ s. o.admits s l ≡ true → o.under (o.part s l) (o.join x y) ≡ true → (o.under (o.part s l) x ≡ true) ⊎ (o.under (o.part s l) y ≡ true))
        (λ s h a u. ⊎_elim
        (λ (v : p.under (p.part s l) x.left ≡ true). inl (left_from s l x h v))
        (λ (v : p.under (p.part s l) y.left ≡ true). inr (left_from s l y h v))
        (L.prime x.left y.left s l (sym (left_admits s l h) ∙ a) (left_to s l (o.join x y) h u)))
        (λ t a u. ⊎_elim
        (λ (v : q.under (q.part t l) x.right ≡ true). inl (right_from t l x v))
        (λ (v : q.under (q.part t l) y.right ≡ true). inr (right_from t l y v))
        (M.prime x.right y.right t l (sym (right_admits t l) ∙ a) (right_to t l (o.join x y) u)))

    no_left : (s l : ℕ) (y : Pair A B) → s < p.width → p.under (p.part s l) y.left ≡ false → o.under (o.part s l) y ≡ false
    no_left s l y h f = subst (λ (w : Pair A B). o.under w y ≡ false) (sym (left_part s l h)) (and_left _ _ f)

    no_right : (t l : ℕ) (y : Pair A B) → q.under (q.part t l) y.right ≡ false → o.under (o.part (p.width + t) l) y ≡ false
    no_right t l y f = subst (λ (w : Pair A B). o.under w y ≡ false) (sym (right_part t l)) (and_right _ _ f)

    apart : (x : Pair A B) (s t : ℕ) → (s ≢ t) → 0 < o.level x s → 0 < o.level x t → o.under (o.part s (o.level x s)) (o.part t (o.level x t)) ≡ false
    apart x = by_side (λ s. (t : ℕ) → Apart s t)
        (λ s h. by_side (Apart s)
        (λ t g d a b. no_left s (o.level x s) (o.part t (o.level x t)) h
        (ap (λ w. p.under (p.part s (o.level x s)) w.left) (left_part t (o.level x t) g)
        ∙ ap₂ (λ i j. p.under (p.part s i) (p.part t j)) (left_level x s h) (left_level x t g)
        ∙ L.apart x.left s t d (omega (arith, left_level x s h)) (omega (arith, left_level x t g))))
        (λ t d a b. no_left s (o.level x s) (o.part (p.width + t) (o.level x (p.width + t))) h
        (ap (λ w. p.under (p.part s (o.level x s)) w.left) (right_part t (o.level x (p.width + t)))
        ∙ part_not_bottom p L s (o.level x s) (sym (left_admits s (o.level x s) h) ∙ levels.admitted x s a))))
        (λ s. by_side (Apart (p.width + s))
        (λ t g d a b. no_right s (o.level x (p.width + s)) (o.part t (o.level x t))
        (ap (λ w. q.under (q.part s (o.level x (p.width + s))) w.right) (left_part t (o.level x t) g)
        ∙ part_not_bottom q M s (o.level x (p.width + s)) (sym (right_admits s (o.level x (p.width + s))) ∙ levels.admitted x (p.width + s) a)))
        (λ t d a b. no_right s (o.level x (p.width + s)) (o.part (p.width + t) (o.level x (p.width + t)))
        (ap (λ w. q.under (q.part s (o.level x (p.width + s))) w.right) (right_part t (o.level x (p.width + t)))
        ∙ ap₂ (λ i j. q.under (q.part s i) (q.part t j)) (right_level x s) (right_level x t)
        ∙ M.apart x.right s t (λ e. d (ap (λ i. p.width + i) e)) (omega (arith, right_level x s)) (omega (arith, right_level x t)))))
      where
        Apart : ℕ → ℕ → Type 0
        Apart s t = (s ≢ t) → 0 < o.level x s → 0 < o.level x t → o.under (o.part s (o.level x s)) (o.part t (o.level x t)) ≡ false

    pair_part_under : (x : Pair A B) (s : ℕ) → 0 < o.level x s → o.under (o.part s (o.level x s)) x ≡ true
    pair_part_under x = by_side (λ s. 0 < o.level x s → o.under (o.part s (o.level x s)) x ≡ true)
        (λ s h a. left_from s (o.level x s) x h
        (ap (λ i. p.under (p.part s i) x.left) (left_level x s h) ∙ part_under p L x.left s (omega (arith, left_level x s h))))
        (λ t a. right_from t (o.level x (p.width + t)) x
        (ap (λ i. q.under (q.part t i) x.right) (right_level x t) ∙ part_under q M x.right t (omega (arith, right_level x t))))

    pair_whole_under : (x z : Pair A B) → ((s : ℕ) → s < o.width → 0 < o.level x s → o.under (o.part s (o.level x s)) z ≡ true) → o.under x z ≡ true
    pair_whole_under x z f = and_from _ _
        (whole_under p L x.left z.left (λ s h a.
        let e = left_level x s h in
        left_to s (p.level x.left s) z h (subst (λ (i : ℕ). o.under (o.part s i) z ≡ true) e (f s (omega arith) (omega arith)))))
        (whole_under q M x.right z.right (λ t h a.
        let e = right_level x t in
        right_to t (q.level x.right t) z (subst (λ (i : ℕ). o.under (o.part (p.width + t) i) z ≡ true) e (f (p.width + t) (omega arith) (omega arith)))))

    pub pair_laws : Laws o
    pair_laws = laws_from o (record {
      lattice = lattice;
      levels = levels;
      part_under = pair_part_under;
      whole_under = pair_whole_under;
      apart = apart;
      prime = λ x y s l. prime x y l s;
    })
