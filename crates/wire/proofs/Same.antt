-- Two iterators over parts compared item by item: what `eq` answers of them. Assumes nothing.
use Rattle.std.proofs.Common.{◌≡◌, Bool, true, false, ◌&&◌, eqb, List, [], ◌∷◌, ◌++◌, Some, None, Option, refl, sym, ap, ◌∙◌}
use Rattle.std.specs.Prelude.{IfSome, MatchOption}
use Rattle.std.specs.Iterator.{ComparesItemsByEq, Yields, YieldsFirst}
use Rattle.std.specs.List.{AllZip}
use Rattle.lattice.specs.declared.part.Part.{Part}
use Rattle.wire.specs.Datagrams.{same}

abbrev equal_parts : Part → Part → Bool
equal_parts p q = eqb p.slot q.slot && eqb p.level q.level

both : (a b c : Bool) → (a && (b && c)) ≡ ((a && b) && c)
both true b c = refl
both false b c = refl

same_on : (p q : Part) (ps qs : List Part) → same (p ∷ ps) (q ∷ qs) ≡ (equal_parts p q && same ps qs)
unfolding same
same_on p q ps qs = both (eqb p.slot q.slot) (eqb p.level q.level) (same ps qs)

same_from : (xs ys ps qs : List Part) → AllZip (λ x y. equal_parts x y ≡ true) xs ys → same (xs ++ ps) (ys ++ qs) ≡ same ps qs
same_from [] [] ps qs a = refl
same_from [] (y ∷ ys) ps qs a = absurd a
same_from (x ∷ xs) [] ps qs a = absurd a
same_from (x ∷ xs) (y ∷ ys) ps qs a =
    same_on x y (xs ++ ps) (ys ++ qs) ∙ ap (λ (t : Bool). t && same (xs ++ ps) (ys ++ qs)) a.0 ∙ same_from xs ys ps qs a.1

-- by the last two answers, with what was left before and after them
same_last : (o p : Option Part) (r : Bool) (ps qs ps' qs' : List Part)
    → MatchOption o ((ps ≡ []) × (ps' ≡ [])) (λ x. ps ≡ x ∷ ps') → MatchOption p ((qs ≡ []) × (qs' ≡ [])) (λ y. qs ≡ y ∷ qs')
    → MatchOption o (MatchOption p (r ≡ true) (λ _. r ≡ false)) (λ x. (r ≡ false) × IfSome p (λ y. equal_parts x y ≡ false)) → r ≡ same ps qs
unfolding same
same_last None None r ps qs ps' qs' e f m = m ∙ sym (ap (λ xs. same xs qs) e.0 ∙ ap (same []) f.0)
same_last None (Some y) r ps qs ps' qs' e f m = m ∙ sym (ap (λ xs. same xs qs) e.0 ∙ ap (same []) f)
same_last (Some x) None r ps qs ps' qs' e f m = m.0 ∙ sym (ap (λ xs. same xs qs) e ∙ ap (same (x ∷ ps')) f.0)
same_last (Some x) (Some y) r ps qs ps' qs' e f m =
    m.0 ∙ sym (ap (λ xs. same xs qs) e ∙ ap (same (x ∷ ps')) f ∙ same_on x y ps' qs' ∙ ap (λ (t : Bool). t && same ps' qs') m.1)

module _ {S : Type 0} (rest : S → List Part) where
  came : (s : S) (xs : List Part) (t : S) → Yields (YieldsFirst rest) s xs t → rest s ≡ xs ++ rest t
  came s [] t e = ap rest e
  came s (x ∷ xs) t e = e.1 ∙ ap (λ ys. x ∷ ys) (came e.0 xs t e.2)

module _ {S T : Type 0} (rest : S → List Part) (others : T → List Part) where
  pub same_by_eq : (s : S) (other : T) (r : Bool)
      → ComparesItemsByEq (YieldsFirst rest) (λ x y. y ≡ x) (YieldsFirst others) s other equal_parts r → r ≡ same (rest s) (others other)
  same_by_eq s other r d =
      same_last d.3 d.4 r (rest d.8.0) (others d.9.0) (rest d.5) (others d.6) d.8.2 d.9.2 d.11
      ∙ sym (ap (λ ps. same ps (others other)) (came rest s d.1 d.8.0 d.8.1)
      ∙ ap (same (d.1 ++ rest d.8.0)) (ap others (sym d.7) ∙ came others d.0 d.2 d.9.0 d.9.1)
      ∙ same_from d.1 d.2 (rest d.8.0) (others d.9.0) d.10)
