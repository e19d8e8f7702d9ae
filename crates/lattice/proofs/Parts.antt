-- The list of a value's parts, and joins of listed parts. Assumes nothing.
use Rattle.std.specs.Prelude.{Err, Ok, min, nat_lt}
use Rattle.std.proofs.Common.{◌≡◌, ℕ, zero, suc, ◌+◌, ◌-◌, ◌<◌, ◌≤◌, true, false, List, [], ◌∷◌, ◌++◌, length, sym, refl, ap, ap₂, ◌∙◌, subst, ⊎_elim, add-zero, add-suc, add-one, arith, length-append}
use Rattle.std.specs.List.{AllByRecursion as All}
use Rattle.std.proofs.ByRecursion.{All-append}
use Rattle.std.proofs.lemmas.List.{append-nil, append_assoc, length_push}
use Rattle.std.proofs.lemmas.Bool.{cases_order, cases_Bool, cond-false, le-ltb}
use Rattle.lattice.specs.Laws.{Laws, Lattice, Usable}
use Rattle.lattice.specs.Ops.{Ops, alone, parts_at, parts_below, parts, joined, walked}
use Rattle.lattice.specs.Walks.{parts_from}
use Rattle.lattice.specs.declared.part.Part.{Part}
use Rattle.lattice.proofs.Order.{join_comm, join_assoc}

abbrev pub part_of : ℕ → ℕ → Part
part_of s l = record { slot = s; level = l }

all_left : {X : Type 0} (P : X → Type 0) (xs ys : List X) → All P (xs ++ ys) → All P xs
all_left P [] ys h = tt
all_left P (x ∷ xs) ys h = (h.0, all_left P xs ys h.1)

all_right : {X : Type 0} (P : X → Type 0) (xs ys : List X) → All P (xs ++ ys) → All P ys
all_right P [] ys h = h
all_right P (x ∷ xs) ys h = all_right P xs ys h.1

-- a walk of which some items came: another comes, or it is over
pub walk_on : {X : Type 0} (seen : List X) (x : X) (left next whole : List X) → seen ++ left ≡ whole → left ≡ x ∷ next → seen ++ x ∷ [] ++ next ≡ whole
walk_on seen x left next whole e h = append_assoc seen (x ∷ []) next ∙ ap (λ ys. seen ++ ys) (sym h) ∙ e

pub walk_over : {X : Type 0} (seen left whole : List X) → seen ++ left ≡ whole → left ≡ [] → seen ≡ whole
walk_over seen left whole e h = sym (append-nil seen) ∙ ap (λ ys. seen ++ ys) (sym h) ∙ e

pub walk_length : {X : Type 0} (seen : List X) (x : X) (left next whole : List X) → seen ++ left ≡ whole → left ≡ x ∷ next → length seen + 1 ≤ length whole
walk_length seen x left next whole e h = omega (arith, ap length e, length-append seen left, ap length h)

module _ {K : Type 0} (o : Ops K) where
  pub at_none : (s l : ℕ) → l ≤ 0 → parts_at o s l ≡ []
  unfolding parts_at
  at_none s zero h = refl
  at_none s (suc l) h = absurd (omega arith)

  pub at_one : (s l : ℕ) → 0 < l → parts_at o s l ≡ part_of s l ∷ []
  unfolding parts_at
  at_one s zero h = absurd (omega arith)
  at_one s (suc l) h = refl

  -- one slot more, and the same for a level l that was read there
  pub parts_more : (x : K) (n : ℕ) → parts_below o x (n + 1) ≡ parts_below o x n ++ parts_at o n (o.level x n)
  unfolding parts_below
  parts_more x n = rw add-one

  pub below_none : (x : K) (n l : ℕ) → l ≡ o.level x n → l ≤ 0 → parts_below o x (n + 1) ≡ parts_below o x n
  below_none x n l e z =
      parts_more x n ∙ ap (λ (ps : List Part). parts_below o x n ++ ps) (at_none n (o.level x n) (omega arith)) ∙ append-nil (parts_below o x n)

  pub below_one : (x : K) (n l : ℕ) → l ≡ o.level x n → 0 < l → parts_below o x (n + 1) ≡ parts_below o x n ++ part_of n l ∷ []
  below_one x n l e p =
      parts_more x n ∙ ap (λ (ps : List Part). parts_below o x n ++ ps) (at_one n (o.level x n) (omega arith) ∙ ap (λ (k : ℕ). part_of n k ∷ []) (sym e))

  pub count_none : (x : K) (n l : ℕ) → l ≡ o.level x n → l ≤ 0 → length (parts_below o x (n + 1)) ≡ length (parts_below o x n)
  count_none x n l e z = ap length (below_none x n l e z)

  pub count_one : (x : K) (n l : ℕ) → l ≡ o.level x n → 0 < l → length (parts_below o x (n + 1)) ≡ length (parts_below o x n) + 1
  count_one x n l e p = ap length (below_one x n l e p) ∙ length_push (parts_below o x n) (part_of n l)

  -- there are no more parts than slots, and no fewer below a higher slot
  pub below_length : (x : K) (n : ℕ) → length (parts_below o x n) ≤ n
  unfolding parts_below parts_at
  below_length x zero = omega arith
  below_length x (suc n) = go (o.level x n) (below_length x n)
    where
      go : (l : ℕ) → length (parts_below o x n) ≤ n → length (parts_below o x n ++ parts_at o n l) ≤ suc n
      go zero h = simp append-nil (omega arith)
      go (suc l) h = simp length-append (omega arith)

  below_grows : (x : K) (n k : ℕ) → length (parts_below o x n) ≤ length (parts_below o x (n + k))
  unfolding parts_below
  below_grows x n zero = simp add-zero (omega arith)
  below_grows x n (suc k) = rw add-suc (simp length-append (omega (arith, below_grows x n k)))

  pub below_room : (x : K) (n : ℕ) → n ≤ o.width → length (parts_below o x n) ≤ length (parts o x)
  below_room x n h =
      let e : n + (o.width - n) ≡ o.width = omega arith in
      subst (λ (m : ℕ). length (parts_below o x n) ≤ length (parts_below o x m)) e (below_grows x n (o.width - n))

  -- a walk that begins at a slot comes to the parts that do not stand below it
  below_from : (x : K) (s n : ℕ) → parts_below o x s ++ parts_from o x s n ≡ parts_below o x (s + n)
  unfolding parts_from
  below_from x s zero = rw add-zero (append-nil (parts_below o x s))
  below_from x s (suc n) =
      sym (append_assoc (parts_below o x s) (parts_at o s (o.level x s)) (parts_from o x (suc s) n))
      ∙ ap (λ (ps : List Part). ps ++ parts_from o x (suc s) n) (rw add-one at (sym (parts_more x s)))
      ∙ below_from x (suc s) n
      ∙ ap (parts_below o x) (omega arith)

  pub from_all : (x : K) (n : ℕ) → parts_from o x 0 n ≡ parts_below o x n
  unfolding parts_below
  from_all x n = let start : 0 + n ≡ n = omega arith in below_from x 0 n ∙ ap (parts_below o x) start

  pub from_width : (x : K) (n : ℕ) → Usable o → n ≡ min o.width 4294967295 → parts_from o x 0 n ≡ parts o x
  from_width x n u e = let width : n ≡ o.width = omega arith in ap (parts_from o x 0) width ∙ from_all x o.width

  -- a walk ends at the last slot, and goes on to the next, with a part or without
  pub from_done : (x : K) (s e : ℕ) → e ≤ s → parts_from o x s (e - s) ≡ []
  unfolding parts_from
  from_done x s e h = let none : e - s ≡ 0 = omega arith in ap (parts_from o x s) none

  from_step : (x : K) (s e : ℕ) → s < e → parts_from o x s (e - s) ≡ parts_at o s (o.level x s) ++ parts_from o x (s + 1) (e - (s + 1))
  unfolding parts_from
  from_step x s e h =
      let n : e - s ≡ suc (e - (s + 1)) = omega arith in
      ap (parts_from o x s) n ∙ ap (λ (t : ℕ). parts_at o s (o.level x s) ++ parts_from o x t (e - (s + 1))) (sym (add-one s))

  module _ (x : K) (s e n l t f : ℕ) (open_ : 0 < e - s) (here : n ≡ s) (read : l ≡ o.level x n) (next : t ≡ s + 1) (end : f ≡ e) where
    rest : parts_from o x (s + 1) (e - (s + 1)) ≡ parts_from o x t (f - t)
    rest = ap₂ (parts_from o x) (sym next) (omega (arith, next, end))

    pub from_none : l ≤ 0 → parts_from o x s (e - s) ≡ parts_from o x t (f - t)
    from_none z =
        from_step x s e (omega arith)
        ∙ ap (λ (ps : List Part). ps ++ parts_from o x (s + 1) (e - (s + 1))) (at_none s (o.level x s) (omega (arith, read, ap (o.level x) here)))
        ∙ rest

    pub from_one : 0 < l → parts_from o x s (e - s) ≡ part_of n l ∷ parts_from o x t (f - t)
    from_one p =
        from_step x s e (omega arith)
        ∙ ap (λ (ps : List Part). ps ++ parts_from o x (s + 1) (e - (s + 1)))
        (at_one s (o.level x s) (omega (arith, read, ap (o.level x) here)) ∙ ap₂ (λ (m k : ℕ). part_of m k ∷ []) (sym here) (sym (read ∙ ap (o.level x) here)))
        ∙ ap (λ (ps : List Part). part_of n l ∷ ps) rest

  -- what a usable kind answers, where the slots are walked
  pub walked_is : {A : Type 0} (x y : A) → Usable o → x ≡ y → Ok x ≡ walked o (Ok y)
  walked_is x y u e = ap Ok e ∙ sym (cond-false (nat_lt 1024 o.width) (Err 3) (Ok y) (le-ltb 1024 o.width u))

  -- what holds of each part holds of the list of the parts, and back
  pub parts_all : (P : Part → Type 0) (x : K) (n : ℕ) → ((s : ℕ) → s < n → 0 < o.level x s → P (part_of s (o.level x s))) → All P (parts_below o x n)
  unfolding parts_at parts_below
  parts_all P x zero h = tt
  parts_all P x (suc n) h =
      All-append P (parts_below o x n) (parts_at o n (o.level x n)) (parts_all P x n (λ s l. h s (omega arith))) (go (o.level x n) refl)
    where
      go : (l : ℕ) → o.level x n ≡ l → All P (parts_at o n l)
      go zero e = tt
      go (suc l) e = (subst (λ (k : ℕ). P (part_of n k)) e (h n (omega arith) (omega arith)), tt)

  pub parts_each : (P : Part → Type 0) (x : K) (n : ℕ) → All P (parts_below o x n) → (s : ℕ) → s < n → 0 < o.level x s → P (part_of s (o.level x s))
  unfolding parts_at parts_below
  parts_each P x zero h s l p = absurd (omega arith)
  parts_each P x (suc n) h s l p =
      ⊎_elim
      (λ (e : s ≡ n). subst (λ (k : ℕ). P (part_of k (o.level x k))) (sym e)
      (go (o.level x n) refl (omega (arith, ap (o.level x) e)) (all_right P (parts_below o x n) (parts_at o n (o.level x n)) h)))
      (⊎_elim
      (λ (lt : s < n). parts_each P x n (all_left P (parts_below o x n) (parts_at o n (o.level x n)) h) s lt p)
      (λ (lt : n < s). absurd (omega arith)))
      (cases_order s n)
    where
      go : (l : ℕ) → o.level x n ≡ l → 0 < l → All P (parts_at o n l) → P (part_of n (o.level x n))
      go zero e q a = absurd (omega arith)
      go (suc l) e q a = subst (λ (k : ℕ). P (part_of n k)) (sym e) a.0

  module _ (L : Lattice o) where
    pub joined_least : (ps : List Part) (z : K) → All (λ p. o.under (alone o p) z ≡ true) ps → o.under (joined o ps) z ≡ true
    unfolding joined
    joined_least [] z h = L.bottom_under z
    joined_least (p ∷ ps) z h = L.least (alone o p) (joined o ps) z h.0 (joined_least ps z h.1)

    pub joined_above : (ps : List Part) (z : K) → o.under (joined o ps) z ≡ true → All (λ p. o.under (alone o p) z ≡ true) ps
    unfolding joined
    joined_above [] z h = tt
    joined_above (p ∷ ps) z h = (
      L.trans (alone o p) (joined o (p ∷ ps)) z (L.above_left (alone o p) (joined o ps)) h,
      joined_above ps z (L.trans (joined o ps) (joined o (p ∷ ps)) z (L.above_right (alone o p) (joined o ps)) h),
    )

    pub joined_push : (ps : List Part) (p : Part) → joined o (ps ++ p ∷ []) ≡ o.join (joined o ps) (alone o p)
    unfolding joined
    joined_push [] p = join_comm o L (alone o p) o.bottom
    joined_push (q ∷ ps) p =
        ap (o.join (alone o q)) (joined_push ps p) ∙ sym (join_assoc o L (alone o q) (joined o ps) (alone o p))

  module _ (L : Laws o) where
    -- a value's parts are admitted, and so is each to which a walk comes
    pub parts_admitted : (x : K) → All (λ p. o.admits p.slot p.level ≡ true) (parts o x)
    parts_admitted x = parts_all (λ p. o.admits p.slot p.level ≡ true) x o.width (λ s _ l. L.levels.admitted x s l)

    pub come_admitted : (x : K) (seen left next : List Part) (p : Part) → seen ++ left ≡ parts o x → left ≡ p ∷ next → o.admits p.slot p.level ≡ true
    come_admitted x seen left next p e h =
        (subst (All (λ q. o.admits q.slot q.level ≡ true)) h
        (all_right (λ q. o.admits q.slot q.level ≡ true) seen left (subst (All (λ q. o.admits q.slot q.level ≡ true)) (sym e) (parts_admitted x)))).0

    -- each part of a value is under it, and it is under what is above them all
    pub part_under : (x : K) (s : ℕ) → 0 < o.level x s → o.under (o.part s (o.level x s)) x ≡ true
    part_under x s h =
        parts_each (λ p. o.under (alone o p) x ≡ true) x o.width
        (joined_above L.lattice (parts o x) x (subst (λ (w : K). o.under w x ≡ true) (sym (L.whole x)) (L.lattice.refl x)))
        s (L.levels.admits_slot s (o.level x s) (L.levels.admitted x s h)) h

    pub whole_under : (x z : K) → ((s : ℕ) → s < o.width → 0 < o.level x s → o.under (o.part s (o.level x s)) z ≡ true) → o.under x z ≡ true
    whole_under x z h =
        subst (λ (w : K). o.under w z ≡ true) (L.whole x)
        (joined_least L.lattice (parts o x) z (parts_all (λ p. o.under (alone o p) z ≡ true) x o.width h))

    -- no part is under the bottom
    pub part_not_bottom : (s l : ℕ) → o.admits s l ≡ true → o.under (o.part s l) o.bottom ≡ false
    part_not_bottom s l a = ⊎_elim
        (λ (u : o.under (o.part s l) o.bottom ≡ true).
        let e = L.lattice.antisym (o.part s l) o.bottom u (L.lattice.bottom_under (o.part s l)) in
        absurd (omega (arith, L.levels.part_level s l a, (L.levels.admits_level s l a).0, L.levels.bottom_level s, ap (λ (w : K). o.level w s) e)))
        (λ (u : o.under (o.part s l) o.bottom ≡ false). u)
        (cases_Bool (o.under (o.part s l) o.bottom))
