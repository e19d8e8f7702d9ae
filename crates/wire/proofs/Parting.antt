-- Which parts may follow others. Assumes nothing.
use Rattle.std.proofs.Common.{◌≡◌, ℕ, Bool, true, false, cond, not, ◌&&◌, ltb, List, [], ◌∷◌, sym, refl, ap, ap₂, ◌∙◌, ⊎_elim}
use Rattle.std.specs.List.{list_all, AllByRecursion as All}
use Rattle.std.proofs.lemmas.Bool.{and_parts, cond-true, and_left, and_right, both_ways, not_from_false, not_from_true}
use Rattle.lattice.specs.Laws.{Laws, Lattice}
use Rattle.lattice.specs.Ops.{Ops, covered, parts, joined}
use Rattle.lattice.specs.declared.part.Part.{Part}
use Rattle.lattice.proofs.Order.{bottom_join}
use Rattle.lattice.proofs.Parts.{part_not_bottom, part_of, parts_admitted}
use Rattle.wire.specs.Drafts.{follows_on}

-- a test that is one of two tests
list_all_and : (f g : Part → Bool) (ps : List Part) → list_all (λ p. f p && g p) ps ≡ (list_all f ps && list_all g ps)
list_all_and f g [] = refl
list_all_and f g (p ∷ ps) = ap (λ (t : Bool). (f p && g p) && t) (list_all_and f g ps) ∙ go (f p) (g p) (list_all f ps) (list_all g ps)
  where
    go : (a b c d : Bool) → ((a && b) && (c && d)) ≡ ((a && c) && (b && d))
    go true true c d = refl
    go true false true d = refl
    go true false false d = refl
    go false b c d = refl

and_true : (t : Bool) → (t && true) ≡ t
and_true true = refl
and_true false = refl

-- two tests that answer alike wherever a fact holds
list_all_same : (f g : Part → Bool) (P : Part → Type 0) → ((p : Part) → P p → f p ≡ g p) → (ps : List Part) → All P ps → list_all f ps ≡ list_all g ps
list_all_same f g P e [] a = refl
list_all_same f g P e (p ∷ ps) a = ap₂ (λ (t u : Bool). t && u) (e p a.0) (list_all_same f g P e ps a.1)

module _ {K : Type 0} (o : Ops K) where
  -- lower, and not under
  abbrev pub low : ℕ → ℕ → Part → Bool
  low s l p = ltb p.slot s && not (o.under (o.part p.slot p.level) (o.part s l))

  -- not above
  abbrev pub clear : ℕ → ℕ → Part → Bool
  clear s l p = not (o.under (o.part s l) (o.part p.slot p.level))

  pub follows_is : (ps : List Part) (s l : ℕ) → follows_on o ps s l ≡ (o.admits s l && (list_all (low s l) ps && list_all (clear s l) ps))
  unfolding follows_on
  follows_is ps s l = ap (λ (t : Bool). o.admits s l && t) (list_all_and (low s l) (clear s l) ps)

  module _ (L : Laws o) where
    -- a part is under a join of parts just if it is under one of them
    clear_joined : (s l : ℕ) → o.admits s l ≡ true → (ps : List Part) → list_all (clear s l) ps ≡ not (o.under (o.part s l) (joined o ps))
    unfolding joined
    clear_joined s l a [] = sym (not_from_false (o.under (o.part s l) o.bottom) (part_not_bottom o L s l a))
    clear_joined s l a (p ∷ ps) =
        let q = o.part s l in
        let x = o.part p.slot p.level in
        let y = joined o ps in
        ap (λ (t : Bool). not (o.under q x) && t) (clear_joined s l a ps)
        ∙ go (o.under q x) (o.under q y) (o.under q (o.join x y)) refl refl refl
      where
        go : (u v w : Bool) → o.under (o.part s l) (o.part p.slot p.level) ≡ u → o.under (o.part s l) (joined o ps) ≡ v
            → o.under (o.part s l) (o.join (o.part p.slot p.level) (joined o ps)) ≡ w → (not u && not v) ≡ not w
        go true v true e f h = refl
        go true v false e f h = absurd (both_ways _ h (L.lattice.trans _ _ _ e (L.lattice.above_left (o.part p.slot p.level) (joined o ps))))
        go false true true e f h = refl
        go false true false e f h = absurd (both_ways _ h (L.lattice.trans _ _ _ f (L.lattice.above_right (o.part p.slot p.level) (joined o ps))))
        go false false false e f h = refl
        go false false true e f h = ⊎_elim (λ k. absurd (both_ways _ e k)) (λ k. absurd (both_ways _ f k)) (L.prime (o.part p.slot p.level) (joined o ps) s l a h)

    pub clear_value : (s l : ℕ) → o.admits s l ≡ true → (v : K) → list_all (clear s l) (parts o v) ≡ not (o.under (o.part s l) v)
    clear_value s l a v = clear_joined s l a (parts o v) ∙ ap (λ (x : K). not (o.under (o.part s l) x)) (L.whole v)

  pub follows_not_admitted : (ps : List Part) (s l : ℕ) → o.admits s l ≡ false → false ≡ follows_on o ps s l
  follows_not_admitted ps s l h = sym (follows_is ps s l ∙ and_left (o.admits s l) _ h)

  pub follows_not_clear : (L : Laws o) (v : K) (s l : ℕ) → true ≡ o.admits s l → true ≡ covered o v (part_of s l) → false ≡ follows_on o (parts o v) s l
  follows_not_clear L v s l a c =
      let u : o.under (o.part s l) v ≡ true = (and_parts (o.admits s l) (o.under (o.part s l) v) (sym c)).1 in
      sym (follows_is (parts o v) s l
      ∙ and_right (o.admits s l) _ (and_right (list_all (low s l) (parts o v)) _ (clear_value L s l (sym a) v ∙ not_from_true (o.under (o.part s l) v) u)))

  -- the test of each part as the code makes it
  abbrev pub lower : K → ℕ → Part → Bool
  lower q s p = ltb p.slot s && not (covered o q p)

  pub follows_lower : (L : Laws o) (v q : K) (s l : ℕ) → true ≡ o.admits s l → false ≡ covered o v (part_of s l) → q ≡ o.part s l
      → list_all (lower q s) (parts o v) ≡ follows_on o (parts o v) s l
  follows_lower L v q s l a c e =
      let u : o.under (o.part s l) v ≡ false = ap (λ (t : Bool). t && o.under (o.part s l) v) a ∙ sym c in
      list_all_same (lower q s) (low s l) (λ p. o.admits p.slot p.level ≡ true)
      (λ p h. ap (λ (t : Bool). ltb p.slot s && not t)
      (ap (λ (t : Bool). t && o.under (o.part p.slot p.level) q) h ∙ ap (o.under (o.part p.slot p.level)) e))
      (parts o v) (parts_admitted o L v)
      ∙ sym (follows_is (parts o v) s l
      ∙ ap (λ (t : Bool). t && (list_all (low s l) (parts o v) && list_all (clear s l) (parts o v))) (sym a)
      ∙ ap (λ (t : Bool). list_all (low s l) (parts o v) && t) (clear_value L s l (sym a) v ∙ not_from_false (o.under (o.part s l) v) u)
      ∙ and_true (list_all (low s l) (parts o v)))

  pub alone_is : (L : Lattice o) (s l : ℕ) (x y : K) → x ≡ o.bottom → true ≡ o.admits s l → y ≡ cond (o.admits s l) (o.join x (o.part s l)) x → y ≡ o.part s l
  alone_is L s l x y e a f =
      f ∙ cond-true (o.admits s l) _ _ (sym a) ∙ ap (λ (z : K). o.join z (o.part s l)) e ∙ bottom_join o L (o.part s l)
