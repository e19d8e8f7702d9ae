-- A replica that records what is new, and one whose marks alone change. Assumes nothing.
use Rattle.std.proofs.Common.{◌≡◌, ℕ, suc, ◌+◌, ◌-◌, ◌<◌, ◌≤◌, eqb, ◌≢◌, ◌⊎◌, List, [], ◌∷◌, ◌++◌, length, get_or, drop, set, sym, refl, ap, ◌∙◌, subst, ⊎_elim, add-one, arith, length-drop, length-set}
use mathlib.Core.List.{Memᴰ}
use lib.Seq.{drop-append-le}
use borrow.Author.Tests.{eqb-false}
use Rattle.std.proofs.lemmas.Bool.{cond_both, cases_eq}
use Rattle.std.proofs.lemmas.List.{length_push}
use Rattle.lattice.specs.Ops.{Ops, difference}
use Rattle.lattice.proofs.Order.{join_mono, under_left}
use Rattle.channel.specs.Meaning.{Waiting}
use Rattle.history.specs.declared.kept.Kept.{Kept}
use Rattle.history.specs.Group.{Group, Replica, size, replica, mark, blank, with_replica, Recording, stays, grows, at_end, newest, extended, recording}
use Rattle.history.specs.Book.{Page, Account, worth, but, older}
use Rattle.history.proofs.Joins.{Under, Order, of_equal, worth_union, difference_under, difference_lowest, difference_joins, difference_none}
use Rattle.history.proofs.Invariant.{but_same, but_other, but_all, set_all, past, held, Extends, Sane, Link, Links, Good, Sound, Inv, links_on, good_on, marked_on, sound_on, links_drop, links_push}

module _ {V : Type 0} (o : Ops V) (L : Order o) where
  -- what is sane stays so where each page is at most one age older
  sane_on : (P Q : ℕ → Page V) → Extends o P Q → ((r : ℕ) → (Q r).age ≤ (P r).age + 1) → Sane o P → Sane o Q
  sane_on P Q x one s = record {
    start = λ r. x.pasts r 0 (omega arith) ∙ s.start r;
    rises = λ r k h. ⊎_elim (λ e. of_equal o L (past o Q r k) (held o Q r) (ap (past o Q r) e)) (λ ne. before r k (let a = one r in omega arith)) (cases_eq k (Q r).age);
  }
    where
      before : (r k : ℕ) → k ≤ (P r).age → Under o (past o Q r k) (held o Q r)
      before r k h = subst (λ v. Under o v (held o Q r)) (sym (x.pasts r k h)) (L.lattice.trans (past o P r k) (held o P r) (held o Q r) (s.rises r k h) (x.helds r))

  -- Pages one age older

  module _ (P : ℕ → Page V) (r : ℕ) (more : Account V) where
    abbrev pub NextPages : ℕ → Page V
    NextPages = but P r (older (P r) more)

    pub next_page : NextPages r ≡ older (P r) more
    next_page = but_same P r (older (P r) more)

    pub next_age : (NextPages r).age ≡ (P r).age + 1
    unfolding older
    next_age = ap (λ (y : Page V). y.age) next_page

    pub next_marks : (j : ℕ) → (NextPages r).marks j ≡ (P r).marks j
    unfolding older
    next_marks j = ap (λ (y : Page V). y.marks j) next_page

    older_old : (k : ℕ) → k ≤ (P r).age → (older (P r) more).at k ≡ (P r).at k
    unfolding older
    older_old k h = but_other (P r).at ((P r).age + 1) ((P r).at (P r).age ++ more) k (λ e. omega arith)

    older_new : (older (P r) more).at ((P r).age + 1) ≡ (P r).at (P r).age ++ more
    unfolding older
    older_new = but_same (P r).at ((P r).age + 1) ((P r).at (P r).age ++ more)

    older_age : (older (P r) more).age ≡ (P r).age + 1
    unfolding older
    older_age = refl

    pub next_old : (k : ℕ) → k ≤ (P r).age → past o NextPages r k ≡ past o P r k
    next_old k h = ap (λ (y : Page V). worth o (y.at k)) next_page ∙ ap (worth o) (older_old k h)

    older_held : worth o ((older (P r) more).at (older (P r) more).age) ≡ o.join (held o P r) (worth o more)
    older_held = ap (λ i. worth o ((older (P r) more).at i)) older_age ∙ ap (worth o) older_new ∙ worth_union o L ((P r).at (P r).age) more

    pub next_held : held o NextPages r ≡ o.join (held o P r) (worth o more)
    next_held = ap (λ (y : Page V). worth o (y.at y.age)) next_page ∙ older_held

    pub next_new : past o NextPages r (suc (P r).age) ≡ o.join (held o P r) (worth o more)
    next_new = ap (λ (i : ℕ). past o NextPages r i) (sym (add-one (P r).age) ∙ sym next_age) ∙ next_held

    pub next_extends : Extends o P NextPages
    next_extends = record {
      ages = but_all P r (older (P r) more) (λ s y. (P s).age ≤ y.age) (let e = older_age in omega arith) (λ s ne. omega arith);
      pasts = but_all P r (older (P r) more) (λ s y. (k : ℕ) → k ≤ (P s).age → worth o (y.at k) ≡ past o P s k) (λ k h. ap (worth o) (older_old k h)) (λ s ne k h. refl);
      helds = but_all P r (older (P r) more) (λ s y. Under o (held o P s) (worth o (y.at y.age))) (subst (λ v. Under o (held o P r) v) (sym older_held) (L.lattice.above_left (held o P r) (worth o more))) (λ s ne. L.lattice.refl (held o P s));
    }

    pub next_sane : Sane o P → Sane o NextPages
    next_sane = sane_on P NextPages next_extends (but_all P r (older (P r) more) (λ i y. y.age ≤ (P i).age + 1) (let e = older_age in omega arith) (λ i ne. omega arith))

  -- Pages of which only marks differ

  module _ (P : ℕ → Page V) (r : ℕ) (marks : ℕ → ℕ) where
    abbrev StillPages : ℕ → Page V
    StillPages = but P r (record { age = (P r).age; at = (P r).at; marks = marks })

    pub still_extends : Extends o P StillPages
    still_extends = record {
      ages = but_all P r _ (λ s y. (P s).age ≤ y.age) (omega arith) (λ s ne. omega arith);
      pasts = but_all P r _ (λ s y. (k : ℕ) → k ≤ (P s).age → worth o (y.at k) ≡ past o P s k) (λ k h. refl) (λ s ne k h. refl);
      helds = but_all P r _ (λ s y. Under o (held o P s) (worth o (y.at y.age))) (L.lattice.refl (held o P r)) (λ s ne. L.lattice.refl (held o P s));
    }

    pub still_sane : Sane o P → Sane o StillPages
    still_sane = sane_on P StillPages still_extends (but_all P r _ (λ s y. y.age ≤ (P s).age + 1) (omega arith) (λ s ne. omega arith))

  -- Recording

  abbrev pub Recorded : (limit : ℕ) (p : Replica V) (d : V) (origin : ℕ) → Recording V → Type 0
  Recorded limit p d origin stays = Under o d p.value
  Recorded limit p d origin (grows q) = (q ≡ extended o limit p d origin) × (p.clock ≢ 4294967295)
  Recorded limit p d origin at_end = Unit {0}

  pub recorded : (limit : ℕ) (p : Replica V) (d : V) (origin : ℕ) → Recorded limit p d origin (recording o limit p d origin)
  unfolding recording
  recorded limit p d origin =
      cond_both (o.under (difference o d p.value) o.bottom) stays _ (Recorded limit p d origin) (λ e. difference_none o L d p.value e) (λ e. cond_both (eqb p.clock 4294967295) at_end _ (Recorded limit p d origin) (λ f. tt) (λ f. (refl, eqb-false p.clock 4294967295 f)))

  -- a ring that takes one more: it drops so many of its oldest, and still links
  pub taken_in : {A : Type 0} (limit : ℕ) (xs : List A) (x : A) → 1 ≤ limit → newest limit (xs ++ x ∷ []) ≡ drop (length xs + 1 - limit) xs ++ x ∷ []
  taken_in limit xs x h =
      let k = length xs + 1 - limit in
      let long : length (xs ++ x ∷ []) ≡ length xs + 1 = length_push xs x in
      let few : k ≤ length xs = omega arith in
      ap (λ (i : ℕ). drop (i - limit) (xs ++ x ∷ [])) long ∙ drop-append-le k xs (x ∷ []) few

  -- the replica that has recorded `x`, which is on its page as `more`
  pub grown_good : (P : ℕ → Page V) (limit r : ℕ) (p : Replica V) (x : V) (origin : ℕ) (more : Account V) → 1 ≤ limit → Good o P r p → p.clock ≢ 4294967295 → Under o x (worth o more) → Under o (worth o more) (o.join (held o P r) x) → (origin ≡ r) ⊎ Under o x (held o P origin) → Good o (NextPages P r more) r (extended o limit p x origin)
  unfolding extended
  grown_good P limit r p x origin more h g top low high whence = record {
    value_is = ap (λ v. o.join v x) g.value_is ∙ held_x ∙ sym (next_held P r more);
    clock_is = ap (λ i. i + 1) g.clock_is ∙ sym (next_age P r more);
    small = let a = g.small in omega arith;
    numbered = subst (λ (ds : List (Kept V)). oldest' + length ds ≡ p.clock + 1) (sym ring_is) length_push_is;
    links = subst (Links o Q r oldest') (sym ring_is) (links_push o L Q r oldest' rest kept (links_on o L P Q ext r oldest' rest (links_drop o L P r p.oldest (length p.ring + 1 - limit) p.ring g.links)) (subst (λ i. Link o Q r i kept) (sym (numbers ∙ g.clock_is)) link));
    marks_long = g.marks_long;
    marks_are = λ j k. g.marks_are j k ∙ sym (next_marks P r more j);
    marks_good = λ j k. marked_on o L P Q ext r j (mark p j) (g.marks_good j k);
  }
    where
      Q : ℕ → Page V
      Q = NextPages P r more

      ext : Extends o P Q
      ext = next_extends P r more

      D : V
      D = difference o x p.value

      oldest' : ℕ
      oldest' = p.oldest + (length p.ring + 1 - limit)

      rest : List (Kept V)
      rest = drop (length p.ring + 1 - limit) p.ring

      kept : Kept V
      kept = record { delta = D; origin = origin }

      ring_is : newest limit (p.ring ++ kept ∷ []) ≡ rest ++ kept ∷ []
      ring_is = taken_in limit p.ring kept h

      numbers : oldest' + length rest ≡ p.clock
      numbers = let a = g.numbered in let b = length-drop (length p.ring + 1 - limit) p.ring in omega arith

      length_push_is : oldest' + length (rest ++ kept ∷ []) ≡ p.clock + 1
      length_push_is = let a = length_push rest kept in let b = numbers in omega arith

      held_x : o.join (held o P r) x ≡ o.join (held o P r) (worth o more)
      held_x = L.lattice.antisym (o.join (held o P r) x) (o.join (held o P r) (worth o more)) (join_mono o L.lattice (held o P r) x (held o P r) (worth o more) (L.lattice.refl (held o P r)) low) (L.lattice.least (held o P r) (worth o more) (o.join (held o P r) x) (L.lattice.above_left (held o P r) x) high)

      held_D : o.join (held o P r) D ≡ o.join (held o P r) (worth o more)
      held_D = subst (λ v. o.join v D ≡ o.join v x) g.value_is (difference_joins o L x p.value) ∙ held_x

      here : past o Q r (P r).age ≡ held o P r
      here = next_old P r more (P r).age (omega arith)

      D_under : Under o D x
      D_under = difference_under o L x p.value

      known_now : Under o D (held o Q origin)
      known_now =
          ⊎_elim (λ e. subst (λ i. Under o D (held o Q i)) (sym e) (subst (λ v. Under o D v) (sym (next_held P r more)) (subst (λ v. Under o D v) held_D (L.lattice.above_right (held o P r) D)))) (λ u. L.lattice.trans D x (held o Q origin) D_under (L.lattice.trans x (held o P origin) (held o Q origin) u (ext.helds origin))) whence

      link : Link o Q r (P r).age kept
      link = record {
        below = let a = next_age P r more in omega arith;
        leads = ap (λ v. o.join v D) here ∙ held_D ∙ sym (next_new P r more);
        least = λ v e. difference_lowest o L x p.value v (ap (λ u. o.join u v) (g.value_is ∙ sym here) ∙ e ∙ next_new P r more ∙ sym held_x ∙ ap (λ u. o.join u x) (sym g.value_is));
        known = known_now;
      }

  -- A group in which the replica `r` is replaced, and its page with it

  pub replaced : (ws : List Waiting) (P Q : ℕ → Page V) (g : Group V) (r : ℕ) (p : Replica V) → Inv o ws P g → r < size g → ((s : ℕ) → s ≢ r → Q s ≡ P s) → Extends o P Q → Sane o Q → Good o Q r p → Inv o ws Q (with_replica g r p)
  unfolding with_replica
  replaced ws P Q g r p i h others ext sane-Q new = record {
    room = i.room;
    sane = sane-Q;
    few = subst (λ n. n ≤ 8) (sym long) i.few;
    good = subst (λ n. (s : ℕ) → s < n → Good o Q s (get_or (set g.replicas r p) s (blank o))) (sym long) each;
    sound = λ x m. subst (λ n. Sound o Q n x.to x.bytes) (sym long) (sound_on o L P Q ext (size g) x.to x.bytes (i.sound x m));
  }
    where
      long : length (set g.replicas r p) ≡ size g
      long = length-set g.replicas r p

      each : (s : ℕ) → s < size g → Good o Q s (get_or (set g.replicas r p) s (blank o))
      each = set_all g.replicas r p (blank o) (λ s y. s < size g → Good o Q s y) h (λ k. new) (λ s ne k. good_on o L P Q ext s (replica o g s) (others s ne) (i.good s k))

  -- the same group over another channel
  pub rerouted : (from to : List Waiting) (P : ℕ → Page V) (g : Group V) → Inv o from P g → ((x : Waiting) → Memᴰ x to → Memᴰ x from ⊎ Sound o P (size g) x.to x.bytes) → Inv o to P g
  rerouted from to P g i f = record {
    few = i.few;
    room = i.room;
    sane = i.sane;
    good = i.good;
    sound = λ x m. ⊎_elim (i.sound x) (λ s. s) (f x m);
  }
