-- The difference: the walk that finds it, and that it is least. Assumes nothing.
use Rattle.std.proofs.Common.{◌≡◌, ℕ, ◌+◌, ◌<◌, ◌≤◌, Bool, true, false, cond, ◌&&◌, List, [], ◌∷◌, ◌++◌, sym, refl, ap, ◌∙◌, subst, ⊎_elim, arith}
use Rattle.std.specs.List.{AllByRecursion as All}
use Rattle.std.proofs.lemmas.List.{append-nil}
use Rattle.std.proofs.lemmas.Bool.{and_parts, both_ways, cond-true}
use Rattle.lattice.specs.Laws.{Laws, Lattice}
use Rattle.lattice.specs.Least.{Least}
use Rattle.lattice.specs.Ops.{Ops, alone, covered, with_part, parts_at, parts_below, parts, joined, beyond, difference}
use Rattle.lattice.specs.declared.part.Part.{Part}
use Rattle.lattice.proofs.Order.{under_left, under_eq, join_mono}
use Rattle.lattice.proofs.Parts.{part_of, at_none, at_one, parts_more, parts_all, joined_least, joined_push, part_under}

module _ {K : Type 0} (o : Ops K) where
  beyond_append : (b : K) (xs ys : List Part) → beyond o b (xs ++ ys) ≡ beyond o b xs ++ beyond o b ys
  unfolding beyond
  beyond_append b [] ys = refl
  beyond_append b (p ∷ xs) ys = go (o.under (alone o p) b) (beyond_append b xs ys)
    where
      go : (t : Bool) → beyond o b (xs ++ ys) ≡ beyond o b xs ++ beyond o b ys
          → cond t (beyond o b (xs ++ ys)) (p ∷ beyond o b (xs ++ ys)) ≡ cond t (beyond o b xs) (p ∷ beyond o b xs) ++ beyond o b ys
      go true e = e
      go false e = ap (λ (zs : List Part). p ∷ zs) e

  -- one slot more, where ps are the parts there that are not under b
  beyond_more : (a b : K) (n : ℕ) (ps : List Part) → beyond o b (parts_at o n (o.level a n)) ≡ ps
      → beyond o b (parts_below o a (n + 1)) ≡ beyond o b (parts_below o a n) ++ ps
  beyond_more a b n ps e =
      ap (beyond o b) (parts_more o a n) ∙ beyond_append b (parts_below o a n) (parts_at o n (o.level a n))
      ∙ ap (λ (qs : List Part). beyond o b (parts_below o a n) ++ qs) e

  beyond_one : (b : K) (s l : ℕ) (t : Bool) → 0 < l → o.under (o.part s l) b ≡ t → beyond o b (parts_at o s l) ≡ cond t [] (part_of s l ∷ [])
  unfolding beyond
  beyond_one b s l t h e = ap (beyond o b) (at_one o s l h) ∙ ap (λ (u : Bool). cond u [] (part_of s l ∷ [])) e

  -- what the walk over the slots below n has found
  abbrev pub found : K → K → ℕ → K
  found a b n = joined o (beyond o b (parts_below o a n))

  -- A turn of the walk, for the level l read at slot n: there is none, it is covered, or it is joined.
  pub turn_none : (a b : K) (n l : ℕ) (acc out : K) → l ≡ o.level a n → l ≤ 0 → acc ≡ found a b n → out ≡ acc → out ≡ found a b (n + 1)
  unfolding beyond
  turn_none a b n l acc out e z h k =
      k ∙ h ∙ ap (joined o) (sym (beyond_more a b n [] (ap (beyond o b) (at_none o n (o.level a n) (omega arith))) ∙ append-nil (beyond o b (parts_below o a n))))

  module _ (L : Laws o) where
    pub turn_covered : (a b : K) (n l : ℕ) (t : Bool) (acc out : K) → l ≡ o.level a n → 0 < l
        → t ≡ (o.admits n l && o.under (o.part n l) b) → t ≡ true → acc ≡ found a b n → out ≡ acc → out ≡ found a b (n + 1)
    turn_covered a b n l t acc out e p c y h k =
        let u : o.under (o.part n (o.level a n)) b ≡ true =
        subst (λ (m : ℕ). o.under (o.part n m) b ≡ true) e (and_parts (o.admits n l) (o.under (o.part n l) b) (sym c ∙ y)).1 in
        k ∙ h ∙ ap (joined o) (sym (beyond_more a b n [] (beyond_one b n (o.level a n) true (omega arith) u) ∙ append-nil (beyond o b (parts_below o a n))))

    pub turn_joined : (a b : K) (n l : ℕ) (t : Bool) (acc next out : K) → l ≡ o.level a n → 0 < l
        → t ≡ (o.admits n l && o.under (o.part n l) b) → t ≡ false → acc ≡ found a b n
        → next ≡ cond (o.admits n l) (o.join acc (o.part n l)) acc → out ≡ next → out ≡ found a b (n + 1)
    turn_joined a b n l t acc next out e p c y h k j =
        let v : o.admits n l ≡ true = subst (λ (m : ℕ). o.admits n m ≡ true) (sym e) (L.levels.admitted a n (omega arith)) in
        let u : o.under (o.part n (o.level a n)) b ≡ false =
        subst (λ (m : ℕ). o.under (o.part n m) b ≡ false) e (ap (λ (s : Bool). s && o.under (o.part n l) b) (sym v) ∙ sym c ∙ y) in
        j ∙ k ∙ cond-true (o.admits n l) _ _ v
        ∙ ap (λ (w : K). o.join w (o.part n l)) h ∙ ap (λ (m : ℕ). o.join (found a b n) (o.part n m)) e
        ∙ sym (ap (joined o) (beyond_more a b n (part_of n (o.level a n) ∷ []) (beyond_one b n (o.level a n) false (omega arith) u))
        ∙ joined_push o L.lattice (beyond o b (parts_below o a n)) (part_of n (o.level a n)))

  -- What a walk over parts has joined, of those that are not under b: after a part that is covered, and after one that is not.
  pub walk_covered : (b : K) (seen : List Part) (p : Part) (t : Bool) → t ≡ covered o b p → t ≡ true
      → joined o (beyond o b seen) ≡ joined o (beyond o b (seen ++ p ∷ []))
  unfolding beyond
  walk_covered b seen p t e y =
      let u : o.under (alone o p) b ≡ true = (and_parts (o.admits p.slot p.level) (o.under (alone o p) b) (sym e ∙ y)).1 in
      ap (joined o) (sym (
      beyond_append b seen (p ∷ []) ∙ ap (λ (s : Bool). beyond o b seen ++ cond s [] (p ∷ [])) u ∙ append-nil (beyond o b seen)))

  pub walk_joined : (L : Lattice o) (b : K) (seen : List Part) (p : Part) (t : Bool) (acc next : K) → o.admits p.slot p.level ≡ true → t ≡ covered o b p → t ≡ false
      → acc ≡ joined o (beyond o b seen) → next ≡ with_part o acc p → next ≡ joined o (beyond o b (seen ++ p ∷ []))
  unfolding beyond
  walk_joined L b seen p t acc next v e y h k =
      let u : o.under (alone o p) b ≡ false = ap (λ (s : Bool). s && o.under (alone o p) b) (sym v) ∙ sym e ∙ y in
      k ∙ cond-true (o.admits p.slot p.level) _ _ v
      ∙ ap (λ (w : K). o.join w (alone o p)) h
      ∙ sym (joined_push o L (beyond o b seen) p)
      ∙ ap (joined o) (sym (beyond_append b seen (p ∷ []) ∙ ap (λ (s : Bool). beyond o b seen ++ cond s [] (p ∷ [])) u))

  -- what is beyond b is under each value that all parts beyond b are under, and with b above every part
  beyond_least : (L : Lattice o) (b z : K) (ps : List Part) → All (λ p. o.under (alone o p) b ≡ false → o.under (alone o p) z ≡ true) ps
      → o.under (joined o (beyond o b ps)) z ≡ true
  unfolding beyond joined
  beyond_least L b z [] h = L.bottom_under z
  beyond_least L b z (p ∷ ps) h = go (o.under (alone o p) b) refl (beyond_least L b z ps h.1)
    where
      go : (t : Bool) → o.under (alone o p) b ≡ t → o.under (joined o (beyond o b ps)) z ≡ true
          → o.under (joined o (cond t (beyond o b ps) (p ∷ beyond o b ps))) z ≡ true
      go true e r = r
      go false e r = L.least (alone o p) (joined o (beyond o b ps)) z (h.0 e) r

  beyond_above : (L : Lattice o) (b z : K) (ps : List Part) → o.under b z ≡ true → o.under (joined o (beyond o b ps)) z ≡ true
      → All (λ p. o.under (alone o p) z ≡ true) ps
  unfolding beyond joined
  beyond_above L b z [] hb h = tt
  beyond_above L b z (p ∷ ps) hb h = go (o.under (alone o p) b) refl (beyond_above L b z ps hb) h
    where
      go : (t : Bool) → o.under (alone o p) b ≡ t
          → (o.under (joined o (beyond o b ps)) z ≡ true → All (λ q. o.under (alone o q) z ≡ true) ps)
          → o.under (joined o (cond t (beyond o b ps) (p ∷ beyond o b ps))) z ≡ true
          → All (λ q. o.under (alone o q) z ≡ true) (p ∷ ps)
      go true e more r = (L.trans (alone o p) b z e hb, more r)
      go false e more r = (
        L.trans (alone o p) (joined o (p ∷ beyond o b ps)) z (L.above_left (alone o p) (joined o (beyond o b ps))) r,
        more (L.trans (joined o (beyond o b ps)) (joined o (p ∷ beyond o b ps)) z (L.above_right (alone o p) (joined o (beyond o b ps))) r),
      )

  module _ (L : Laws o) where
    pub difference_under : (a b : K) → o.under (difference o a b) a ≡ true
    unfolding difference
    difference_under a b =
        beyond_least L.lattice b a (parts o a)
        (parts_all o (λ p. o.under (alone o p) b ≡ false → o.under (alone o p) a ≡ true) a o.width (λ s l p n. part_under o L a s p))

    difference_join : (a b : K) → o.join (difference o a b) b ≡ o.join a b
    unfolding difference
    difference_join a b =
        let d = difference o a b in
        let up : o.under a (o.join d b) ≡ true = subst (λ (w : K). o.under w (o.join d b) ≡ true) (L.whole a)
        (joined_least o L.lattice (parts o a) (o.join d b)
        (beyond_above L.lattice b (o.join d b) (parts o a) (L.lattice.above_right d b) (L.lattice.above_left d b))) in
        L.lattice.antisym (o.join d b) (o.join a b)
        (join_mono o L.lattice d b a b (difference_under a b) (L.lattice.refl b))
        (L.lattice.least a b (o.join d b) up (L.lattice.above_right d b))

    difference_lowest : (a b x : K) → o.join x b ≡ o.join a b → o.under (difference o a b) x ≡ true
    unfolding difference
    difference_lowest a b x e =
        beyond_least L.lattice b x (parts o a)
        (parts_all o (λ p. o.under (alone o p) b ≡ false → o.under (alone o p) x ≡ true) a o.width go)
      where
        go : (s : ℕ) → s < o.width → 0 < o.level a s → o.under (o.part s (o.level a s)) b ≡ false → o.under (o.part s (o.level a s)) x ≡ true
        go s l p n =
            let q = o.part s (o.level a s) in
            ⊎_elim (λ (h : o.under q x ≡ true). h) (λ (h : o.under q b ≡ true). absurd (both_ways (o.under q b) n h))
            (L.prime x b s (o.level a s) (L.levels.admitted a s p)
            (under_eq o L.lattice q (o.join a b) (o.join x b) (sym e) (under_left o L.lattice q a b (part_under o L a s p))))

    pub difference_least : (a b : K) → Least o a b (difference o a b)
    difference_least a b = record { joins = difference_join a b; lowest = difference_lowest a b }
