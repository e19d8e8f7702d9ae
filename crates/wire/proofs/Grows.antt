-- A part that may follow those of a value: the parts of the join are those and that part. Assumes nothing.
use Rattle.std.proofs.Common.{◌≡◌, ℕ, zero, suc, ◌+◌, ◌-◌, ◌<◌, ◌≤◌, Bool, true, false, ltb, ◌⊎◌, List, [], ◌∷◌, ◌++◌, sym, refl, ap, ◌∙◌, subst, inl, inr, ⊎_elim, arith}
use Rattle.std.specs.List.{list_all, AllByRecursion as All}
use Rattle.std.proofs.lemmas.List.{append-nil}
use Rattle.std.proofs.lemmas.Bool.{ltb-true, and_parts, both_ways, not-true, cases_lt, cases_eq}
use Rattle.lattice.specs.Laws.{Laws}
use Rattle.lattice.specs.Ops.{Ops, parts_at, parts_below, parts, joined}
use Rattle.lattice.specs.declared.part.Part.{Part}
use Rattle.lattice.proofs.Parts.{parts_each, joined_push, part_under, part_not_bottom}
use Rattle.wire.specs.Drafts.{follows_on}
use Rattle.wire.proofs.Parting.{low, follows_is, clear_value}
use Rattle.lattice.proofs.Parts.{below_none, below_one}

list_all_all : (f : Part → Bool) (ps : List Part) → list_all f ps ≡ true → All (λ p. f p ≡ true) ps
list_all_all f [] h = tt
list_all_all f (p ∷ ps) h = let u = and_parts (f p) (list_all f ps) h in (u.0, list_all_all f ps u.1)

module _ {K : Type 0} (o : Ops K) (L : Laws o) where
  -- a part under a value is under a part of it
  UnderPart : K → ℕ → ℕ → Type 0
  UnderPart v t a = (u : ℕ) × (0 < o.level v u) × (o.under (o.part t a) (o.part u (o.level v u)) ≡ true)

  below_part : (v : K) (t a : ℕ) → o.admits t a ≡ true → (n : ℕ) → o.under (o.part t a) (joined o (parts_below o v n)) ≡ true → UnderPart v t a
  unfolding parts_below parts_at joined UnderPart
  below_part v t a m zero h = absurd (both_ways _ (part_not_bottom o L t a m) h)
  below_part v t a m (suc n) h = go (o.level v n) refl h (below_part v t a m n)
    where
      go : (l : ℕ) → o.level v n ≡ l → o.under (o.part t a) (joined o (parts_below o v n ++ parts_at o n l)) ≡ true
          → (o.under (o.part t a) (joined o (parts_below o v n)) ≡ true → UnderPart v t a) → UnderPart v t a
      go zero e k more = more (subst (λ (ps : List Part). o.under (o.part t a) (joined o ps) ≡ true) (append-nil (parts_below o v n)) k)
      go (suc l) e k more =
          ⊎_elim more
          (λ (j : o.under (o.part t a) (o.part n (suc l)) ≡ true).
          (n, omega (arith, e), subst (λ (i : ℕ). o.under (o.part t a) (o.part n i) ≡ true) (sym e) j))
          (L.prime (joined o (parts_below o v n)) (o.part n (suc l)) t a m
          (subst (λ (x : K). o.under (o.part t a) x ≡ true) (joined_push o L.lattice (parts_below o v n) (record { slot = n; level = suc l })) k))

  some_part : (v : K) (t a : ℕ) → o.admits t a ≡ true → o.under (o.part t a) v ≡ true → UnderPart v t a
  some_part v t a m h = below_part v t a m o.width (subst (λ (x : K). o.under (o.part t a) x ≡ true) (sym (L.whole v)) h)

  -- equal parts have the same slot and level
  same_part : (t a s l : ℕ) → o.admits t a ≡ true → o.admits s l ≡ true → o.part t a ≡ o.part s l → (t ≡ s) × (a ≡ l)
  same_part t a s l m n e =
      ⊎_elim
      (λ (q : t ≡ s). (q, sym (L.levels.part_level t a m) ∙ ap (λ (x : K). o.level x t) e ∙ ap (o.level (o.part s l)) q ∙ L.levels.part_level s l n))
      (λ (q : t ≡ s → ⊥).
      let z : a ≡ 0 = sym (L.levels.part_level t a m) ∙ ap (λ (x : K). o.level x t) e ∙ L.levels.part_else s l t n q in
      absurd (omega (arith, (L.levels.admits_level t a m).0)))
      (cases_eq t s)

  module _ (v : K) (s l : ℕ) (m : o.admits s l ≡ true) (lows : (u : ℕ) → 0 < o.level v u → (u < s) × (o.under (o.part u (o.level v u)) (o.part s l) ≡ false))
      (off : o.under (o.part s l) v ≡ false) where
    x : K
    x = o.join v (o.part s l)

    held : (w : K) (u : ℕ) → 0 < o.level w u → o.admits u (o.level w u) ≡ true
    held w u h = L.levels.admitted w u h

    at_new : o.level x s ≡ l
    unfolding UnderPart x
    at_new =
        let p = o.part s l in
        let y = some_part x s l m (L.lattice.above_right v p) in
        let t = y.0 in
        let q = o.part t (o.level x t) in
        ⊎_elim
        (λ (h : o.under q v ≡ true). absurd (both_ways (o.under p v) off (L.lattice.trans p q v y.2 h)))
        (λ (h : o.under q p ≡ true).
        let e = same_part t (o.level x t) s l (held x t y.1) m (L.lattice.antisym q p h y.2) in
        subst (λ (k : ℕ). o.level x k ≡ l) e.0 e.1)
        (L.prime v p t (o.level x t) (held x t y.1) (part_under o L x t y.1))

    at_old : (u : ℕ) → 0 < o.level v u → o.level x u ≡ o.level v u
    unfolding UnderPart x
    at_old u g =
        let p = o.part s l in
        let r = o.part u (o.level v u) in
        let y = some_part x u (o.level v u) (held v u g) (L.lattice.trans r v x (part_under o L v u g) (L.lattice.above_left v p)) in
        let t = y.0 in
        let q = o.part t (o.level x t) in
        ⊎_elim
        (λ (h : o.under q v ≡ true).
        let z = some_part v t (o.level x t) (held x t y.1) h in
        let k = z.0 in
        ⊎_elim
        (λ (i : u ≡ k).
        let j : o.under q r ≡ true = subst (λ (n : ℕ). o.under q (o.part n (o.level v n)) ≡ true) (sym i) z.2 in
        let e = same_part t (o.level x t) u (o.level v u) (held x t y.1) (held v u g) (L.lattice.antisym q r j y.2) in
        subst (λ (n : ℕ). o.level x n ≡ o.level v u) e.0 e.1)
        (λ (i : u ≡ k → ⊥). absurd (both_ways _ (L.apart v u k i g z.1) (L.lattice.trans r q (o.part k (o.level v k)) y.2 z.2)))
        (cases_eq u k))
        (λ (h : o.under q p ≡ true). absurd (both_ways (o.under r p) (lows u g).1 (L.lattice.trans r q p y.2 h)))
        (L.prime v p t (o.level x t) (held x t y.1) (part_under o L x t y.1))

    at_any : (t : ℕ) → 0 < o.level x t → (t ≡ s) ⊎ (o.level x t ≡ o.level v t)
    unfolding UnderPart x
    at_any t g =
        let p = o.part s l in
        let q = o.part t (o.level x t) in
        ⊎_elim
        (λ (h : o.under q v ≡ true).
        let z = some_part v t (o.level x t) (held x t g) h in
        let k = z.0 in
        let e : o.level x k ≡ o.level v k = at_old k z.1 in
        ⊎_elim
        (λ (i : t ≡ k). inr (subst (λ (n : ℕ). o.level x n ≡ o.level v n) (sym i) e))
        (λ (i : t ≡ k → ⊥).
        absurd (both_ways _ (L.apart x t k i g (omega (arith, z.1))) (subst (λ (n : ℕ). o.under q (o.part k n) ≡ true) (sym e) z.2)))
        (cases_eq t k))
        (λ (h : o.under q p ≡ true).
        ⊎_elim
        (λ (i : t ≡ s). inl i)
        (λ (i : t ≡ s → ⊥).
        absurd (both_ways _ (L.apart x t s i g (omega (arith, at_new, (L.levels.admits_level s l m).0)))
        (subst (λ (n : ℕ). o.under q (o.part s n) ≡ true) (sym at_new) h)))
        (cases_eq t s))
        (L.prime v p t (o.level x t) (held x t g) (part_under o L x t g))

    level_else : (t : ℕ) → (t ≡ s → ⊥) → o.level x t ≡ o.level v t
    level_else t i =
        ⊎_elim
        (λ (g : 0 < o.level v t). at_old t g)
        (λ (g : o.level v t ≤ 0).
        ⊎_elim
        (λ (h : 0 < o.level x t). ⊎_elim (λ (j : t ≡ s). absurd (i j)) (λ (j : o.level x t ≡ o.level v t). j) (at_any t h))
        (λ (h : o.level x t ≤ 0). omega arith)
        (cases_lt 0 (o.level x t)))
        (cases_lt 0 (o.level v t))

    below_same : (n : ℕ) → n ≤ s → parts_below o x n ≡ parts_below o v n
    unfolding parts_below
    below_same zero h = refl
    below_same (suc n) h =
        ap (λ (ps : List Part). ps ++ parts_at o n (o.level x n)) (below_same n (omega arith))
        ∙ ap (λ (k : ℕ). parts_below o v n ++ parts_at o n k) (level_else n (omega arith))

    none_above : (w : K) (a : ℕ) → ((t : ℕ) → a ≤ t → o.level w t ≡ 0) → (n : ℕ) → parts_below o w (a + n) ≡ parts_below o w a
    none_above w a h zero = ap (parts_below o w) (omega arith)
    none_above w a h (suc n) =
        let e : a + suc n ≡ (a + n) + 1 = omega arith in
        ap (parts_below o w) e ∙ below_none o w (a + n) (o.level w (a + n)) refl (omega (arith, h (a + n) (omega arith))) ∙ none_above w a h n

    off_above : (t : ℕ) → s ≤ t → o.level v t ≡ 0
    off_above t h = ⊎_elim (λ (g : 0 < o.level v t). absurd (omega (arith, (lows t g).0))) (λ (g : o.level v t ≤ 0). omega arith) (cases_lt 0 (o.level v t))

    pub grown_parts : parts o (o.join v (o.part s l)) ≡ parts o v ++ record { slot = s; level = l } ∷ []
    unfolding x
    grown_parts =
        let w : s < o.width = L.levels.admits_slot s l m in
        let a : s + (o.width - s) ≡ o.width = omega arith in
        let b : (s + 1) + (o.width - (s + 1)) ≡ o.width = omega arith in
        ap (parts_below o x) (sym b)
        ∙ none_above x (s + 1) (λ t h. level_else t (omega arith) ∙ off_above t (omega arith)) (o.width - (s + 1))
        ∙ below_one o x s l (sym at_new) (L.levels.admits_level s l m).0
        ∙ ap (λ (ps : List Part). ps ++ record { slot = s; level = l } ∷ []) (below_same s (omega arith) ∙ sym (none_above v s off_above (o.width - s)) ∙ ap (parts_below o v) a)

  -- in the words of a draft
  pub follows_grows : (v : K) (s l : ℕ) → follows_on o (parts o v) s l ≡ true → parts o (o.join v (o.part s l)) ≡ parts o v ++ record { slot = s; level = l } ∷ []
  follows_grows v s l h =
      let p = and_parts (o.admits s l) _ (sym (follows_is o (parts o v) s l) ∙ h) in
      let q = and_parts (list_all (low o s l) (parts o v)) _ p.1 in
      let each = parts_each o (λ r. low o s l r ≡ true) v o.width (list_all_all (low o s l) (parts o v) q.0) in
      grown_parts v s l p.0
      (λ u g.
      let k = and_parts (ltb u s) _ (each u (L.levels.admits_slot u (o.level v u) (L.levels.admitted v u g)) g) in
      (ltb-true u s k.0, not-true (o.under (o.part u (o.level v u)) (o.part s l)) k.1))
      (not-true (o.under (o.part s l) v) (sym (clear_value o L s l p.0 v) ∙ q.1))
