-- One part more that bytes list: what is left to read and what was read. Assumes nothing.
use Rattle.std.specs.Prelude.{MatchOption, is_some}
use Rattle.std.proofs.Common.{◌≡◌, ℕ, suc, ◌+◌, ◌<◌, ◌≤◌, Bool, true, false, cond, not, ◌&&◌, eqb, leb, List, [], ◌∷◌, Some, None, Option, sym, refl, ap, ◌∙◌, add-one}
use Rattle.std.proofs.lemmas.Bool.{le-leb, lt-leb, eq-eqb, ne_eqb, and_left, and_right, cond-true}
use Rattle.lattice.specs.Laws.{Lattice}
use Rattle.lattice.specs.Ops.{Ops, joined}
use Rattle.lattice.specs.declared.part.Part.{Part}
use Rattle.lattice.proofs.Order.{join_assoc, join_bottom}
use Rattle.wire.specs.Datagrams.{ranged, same}

pub same_more : (ps qs ps' qs' : List Part) (s l : ℕ) → ps ≡ record { slot = s; level = l } ∷ ps' → qs ≡ record { slot = s; level = l } ∷ qs'
    → same ps qs ≡ same ps' qs'
unfolding same
same_more ps qs ps' qs' s l e f =
    ap (λ (xs : List Part). same xs qs) e ∙ ap (same (record { slot = s; level = l } ∷ ps')) f
    ∙ ap (λ (t : Bool). t && (eqb l l && same ps' qs')) (eq-eqb s s refl) ∙ ap (λ (t : Bool). t && same ps' qs') (eq-eqb l l refl)

pub same_not_slot : (ps qs ps' qs' : List Part) (s l t m : ℕ) → ps ≡ record { slot = s; level = l } ∷ ps' → qs ≡ record { slot = t; level = m } ∷ qs'
    → (s ≡ t → ⊥) → same ps qs ≡ false
unfolding same
same_not_slot ps qs ps' qs' s l t m e f h =
    ap (λ (xs : List Part). same xs qs) e ∙ ap (same (record { slot = s; level = l } ∷ ps')) f ∙ and_left (eqb s t) _ (ne_eqb s t h)

pub same_not_level : (ps qs ps' qs' : List Part) (s l t m : ℕ) → ps ≡ record { slot = s; level = l } ∷ ps' → qs ≡ record { slot = t; level = m } ∷ qs'
    → (l ≡ m → ⊥) → same ps qs ≡ false
unfolding same
same_not_level ps qs ps' qs' s l t m e f h =
    ap (λ (xs : List Part). same xs qs) e ∙ ap (same (record { slot = s; level = l } ∷ ps')) f
    ∙ and_right (eqb s t) _ (and_left (eqb l m) _ (ne_eqb l m h))

pub same_short : (ps qs ps' : List Part) (p : Part) → ps ≡ p ∷ ps' → qs ≡ [] → same ps qs ≡ false
unfolding same
same_short ps qs ps' p e f = ap (λ (xs : List Part). same xs qs) e ∙ ap (same (p ∷ ps')) f

pub same_long : (ps qs qs' : List Part) (q : Part) → ps ≡ [] → qs ≡ q ∷ qs' → same ps qs ≡ false
unfolding same
same_long ps qs qs' q e f = ap (λ (xs : List Part). same xs qs) e ∙ ap (same []) f

pub same_none : (ps qs : List Part) → ps ≡ [] → qs ≡ [] → same ps qs ≡ true
unfolding same
same_none ps qs e f = ap (λ (xs : List Part). same xs qs) e ∙ ap (same []) f

-- what is listed beyond the last part of a value
pub same_over : (r : Option Part) (t : Bool) (ps qs qs' : List Part) → is_some r ≡ not t → ps ≡ [] → MatchOption r ((qs ≡ []) × (qs' ≡ [])) (λ q. qs ≡ q ∷ qs') → t ≡ same ps qs
same_over None true ps qs qs' n e f = sym (same_none ps qs e f.0)
same_over None false ps qs qs' n e f = cc
same_over (Some q) true ps qs qs' n e f = cc
same_over (Some q) false ps qs qs' n e f = sym (same_long ps qs qs' q e f)

module _ {K : Type 0} (o : Ops K) where
  pub ranged_low : (m : ℕ) (ps qs : List Part) (s l : ℕ) → ps ≡ record { slot = s; level = l } ∷ qs → s < m → ranged o m ps ≡ false
  unfolding ranged
  ranged_low m ps qs s l e h = ap (ranged o m) e ∙ and_left (leb m s) _ (lt-leb m s h)

  pub ranged_bad : (m : ℕ) (ps qs : List Part) (s l : ℕ) → ps ≡ record { slot = s; level = l } ∷ qs → o.admits s l ≡ false → ranged o m ps ≡ false
  unfolding ranged
  ranged_bad m ps qs s l e h = ap (ranged o m) e ∙ and_right (leb m s) _ (and_left (o.admits s l) _ h)

  pub ranged_more : (m : ℕ) (ps qs : List Part) (s l : ℕ) → ps ≡ record { slot = s; level = l } ∷ qs → m ≤ s → o.admits s l ≡ true → ranged o m ps ≡ ranged o (s + 1) qs
  unfolding ranged
  ranged_more m ps qs s l e h a =
      ap (ranged o m) e ∙ ap (λ (t : Bool). t && (o.admits s l && ranged o (suc s) qs)) (le-leb m s h)
      ∙ ap (λ (t : Bool). t && ranged o (suc s) qs) a ∙ ap (λ (k : ℕ). ranged o k qs) (sym (add-one s))

  -- a part that was joined was admitted
  pub part_joined : (v w : K) (s l : ℕ) → true ≡ o.admits s l → w ≡ cond (o.admits s l) (o.join v (o.part s l)) v → w ≡ o.join v (o.part s l)
  part_joined v w s l a e = e ∙ cond-true (o.admits s l) _ _ (sym a)

  pub ranged_none : (m : ℕ) (ps : List Part) → ps ≡ [] → ranged o m ps ≡ true
  unfolding ranged
  ranged_none m ps e = ap (ranged o m) e

  module _ (L : Lattice o) where
    pub join_more : (v : K) (ps qs : List Part) (s l : ℕ) → ps ≡ record { slot = s; level = l } ∷ qs
        → o.join v (joined o ps) ≡ o.join (o.join v (o.part s l)) (joined o qs)
    unfolding joined
    join_more v ps qs s l e = ap (λ (xs : List Part). o.join v (joined o xs)) e ∙ sym (join_assoc o L v (o.part s l) (joined o qs))

    pub join_none : (v : K) (ps : List Part) → ps ≡ [] → o.join v (joined o ps) ≡ v
    unfolding joined
    join_none v ps e = ap (λ (xs : List Part). o.join v (joined o xs)) e ∙ join_bottom o L v
