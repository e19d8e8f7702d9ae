-- What every reached state keeps, by the pages of the book; and that it stays so as the book grows. Assumes nothing.
use Rattle.std.proofs.Common.{◌≡◌, ℕ, zero, suc, ◌+◌, ◌<◌, ◌≤◌, Bool, true, false, cond, eqb, ◌≢◌, List, [], ◌∷◌, ◌++◌, length, get_or, drop, set, sym, refl, ap, ◌∙◌, subst, ⊎_elim, add-zero, arith, eq-eqb, ne_eqb, eqb-true}
use mathlib.Core.List.{Memᴰ}
use borrow.Author.Tests.{eqb-false}
use Rattle.std.proofs.lemmas.Bool.{cond-true, cond-false, cond_both, cases_eq}
use Rattle.std.proofs.lemmas.List.{get_or-set_same, get_or-set_other}
use Rattle.lattice.specs.Ops.{Ops}
use Rattle.lattice.proofs.Order.{join_mono}
use Rattle.wire.specs.Datagrams.{header_of, written}
use Rattle.wire.specs.declared.datagram.Datagram.{Datagram}
use Rattle.wire.specs.declared.datagram.Datagram.TheVariants.{Delta as delta, Ack as ack}
use Rattle.channel.specs.Meaning.{Waiting}
use Rattle.history.specs.declared.kept.Kept.{Kept}
use Rattle.history.specs.Group.{Group, Replica, size, replica, mark, not_from, join_all}
use Rattle.history.specs.Book.{Page, worth, but}
use Rattle.history.proofs.Joins.{Under, Order}

pub but_same : {X : Type 0} (f : ℕ → X) (i : ℕ) (x : X) → but f i x i ≡ x
but_same f i x = cond-true (eqb i i) x (f i) (eq-eqb i i refl)

pub but_other : {X : Type 0} (f : ℕ → X) (i : ℕ) (x : X) (j : ℕ) → j ≢ i → but f i x j ≡ f j
but_other f i x j ne = cond-false (eqb j i) x (f j) (ne_eqb j i ne)

-- what holds of the new one at its place, and of each other, holds of all
pub but_all : {X : Type 0} (f : ℕ → X) (i : ℕ) (x : X) (P : ℕ → X → Type 0) → P i x → ((j : ℕ) → j ≢ i → P j (f j)) → (j : ℕ) → P j (but f i x j)
but_all f i x P here there j = cond_both (eqb j i) x (f j) (P j) (λ e. subst (λ k. P k x) (sym (eqb-true j i e)) here) (λ e. there j (eqb-false j i e))

-- and so of a list in which one is set
pub set_all : {X : Type 0} (xs : List X) (i : ℕ) (x d : X) (P : ℕ → X → Type 0) → i < length xs → P i x → ((j : ℕ) → j ≢ i → P j (get_or xs j d)) → (j : ℕ) → P j (get_or (set xs i x) j d)
set_all xs i x d P h here there j =
    ⊎_elim (λ e. subst (λ k. P k (get_or (set xs i x) k d)) (sym e) (subst (P i) (sym (get_or-set_same xs i x d h)) here)) (λ ne. subst (P j) (sym (get_or-set_other xs i j x d ne)) (there j ne)) (cases_eq j i)

module _ {V : Type 0} (o : Ops V) where
  -- the value of a replica at a number, and now, by the book
  abbrev pub past : (ℕ → Page V) → ℕ → ℕ → V
  past P r k = worth o ((P r).at k)

  abbrev pub held : (ℕ → Page V) → ℕ → V
  held P r = worth o ((P r).at (P r).age)

  -- ages and values only rise, and what was stays
  pub record Extends (P Q : ℕ → Page V) : Type 0 where
    pub ages : (r : ℕ) → (P r).age ≤ (Q r).age
    pub pasts : (r k : ℕ) → k ≤ (P r).age → past Q r k ≡ past P r k
    pub helds : (r : ℕ) → Under o (held P r) (held Q r)

  pub record Sane (P : ℕ → Page V) : Type 0 where
    pub start : (r : ℕ) → past P r 0 ≡ o.bottom
    pub rises : (r k : ℕ) → k ≤ (P r).age → Under o (past P r k) (held P r)

  -- a mark `m` of `r` for `j`
  pub record Marked (P : ℕ → Page V) (r j m : ℕ) : Type 0 where
    pub reached : m ≤ (P r).age
    pub there : Under o (past P r m) (held P j)

  -- a delta that `r` keeps under the number `k`
  pub record Link (P : ℕ → Page V) (r k : ℕ) (d : Kept V) : Type 0 where
    pub below : suc k ≤ (P r).age
    pub leads : o.join (past P r k) d.delta ≡ past P r (suc k)
    pub least : (x : V) → o.join (past P r k) x ≡ past P r (suc k) → Under o d.delta x
    pub known : Under o d.delta (held P d.origin)

  -- the deltas of a ring, numbered from `k` on
  abbrev pub Links : (ℕ → Page V) → ℕ → ℕ → List (Kept V) → Type 0
  Links P r k [] = Unit {0}
  Links P r k (d ∷ ds) = Link P r k d × Links P r (suc k) ds

  -- the replica `r`
  pub record Good (P : ℕ → Page V) (r : ℕ) (p : Replica V) : Type 0 where
    pub value_is : p.value ≡ held P r
    pub clock_is : p.clock ≡ (P r).age
    pub small : p.clock ≤ 4294967295
    pub numbered : p.oldest + length p.ring ≡ p.clock
    pub links : Links P r p.oldest p.ring
    pub marks_long : length p.marks ≡ 8
    pub marks_are : (j : ℕ) → j < 8 → mark p j ≡ (P r).marks j
    pub marks_good : (j : ℕ) → j < 8 → Marked P r j (mark p j)

  -- what a datagram on its way says holds
  abbrev pub Says : (ℕ → Page V) → Datagram V → Type 0
  Says P (delta h v) = (h.number ≤ (P h.from).age) × Under o v (past P h.from h.number) × Under o (past P h.from h.number) (o.join (held P h.to) v)
  Says P (ack h) = (h.number ≤ (P h.to).age) × Under o (past P h.to h.number) (held P h.from)

  pub record Sound (P : ℕ → Page V) (n r : ℕ) (b : List ℕ) : Type 0 where
    pub datagram : Datagram V
    pub bytes_are : b ≡ written o datagram
    pub for : (header_of datagram).to ≡ r
    pub from_in : (header_of datagram).from < n
    pub to_in : (header_of datagram).to < n
    pub apart : (header_of datagram).from ≢ (header_of datagram).to
    pub says : Says P datagram

  pub record Inv (ws : List Waiting) (P : ℕ → Page V) (g : Group V) : Type 0 where
    pub few : size g ≤ 8
    pub room : 1 ≤ g.limit
    pub sane : Sane P
    pub good : (r : ℕ) → r < size g → Good P r (replica o g r)
    pub sound : (x : Waiting) → Memᴰ x ws → Sound P (size g) x.to x.bytes

module _ {V : Type 0} (o : Ops V) (L : Order o) where
  -- Growth

  pub marked_on : (P Q : ℕ → Page V) → Extends o P Q → (r j m : ℕ) → Marked o P r j m → Marked o Q r j m
  marked_on P Q x r j m k = record {
    reached = let a = x.ages r in let b = k.reached in omega arith;
    there = subst (λ y. Under o y (held o Q j)) (sym (x.pasts r m k.reached)) (L.lattice.trans (past o P r m) (held o P j) (held o Q j) k.there (x.helds j));
  }

  pub link_on : (P Q : ℕ → Page V) → Extends o P Q → (r k : ℕ) (d : Kept V) → Link o P r k d → Link o Q r k d
  link_on P Q x r k d l =
      let a = x.ages r in
      let b = l.below in
      let here = x.pasts r k (omega arith) in
      let next = x.pasts r (suc k) b in
      record {
        below = omega arith;
        leads = ap (λ y. o.join y d.delta) here ∙ l.leads ∙ sym next;
        least = λ v e. l.least v (ap (λ y. o.join y v) (sym here) ∙ e ∙ next);
        known = L.lattice.trans d.delta (held o P d.origin) (held o Q d.origin) l.known (x.helds d.origin);
      }

  pub links_on : (P Q : ℕ → Page V) → Extends o P Q → (r k : ℕ) (ds : List (Kept V)) → Links o P r k ds → Links o Q r k ds
  links_on P Q x r k [] l = tt
  links_on P Q x r k (d ∷ ds) l = (link_on P Q x r k d l.0, links_on P Q x r (suc k) ds l.1)

  -- a replica whose page is as it was stays good
  pub good_on : (P Q : ℕ → Page V) → Extends o P Q → (r : ℕ) (p : Replica V) → Q r ≡ P r → Good o P r p → Good o Q r p
  good_on P Q x r p e g = record {
    value_is = g.value_is ∙ sym (ap (λ (y : Page V). worth o (y.at y.age)) e);
    clock_is = g.clock_is ∙ sym (ap (λ (y : Page V). y.age) e);
    small = g.small;
    numbered = g.numbered;
    links = links_on P Q x r p.oldest p.ring g.links;
    marks_long = g.marks_long;
    marks_are = λ j h. g.marks_are j h ∙ sym (ap (λ (y : Page V). y.marks j) e);
    marks_good = λ j h. marked_on P Q x r j (mark p j) (g.marks_good j h);
  }

  pub says_on : (P Q : ℕ → Page V) → Extends o P Q → (d : Datagram V) → Says o P d → Says o Q d
  says_on P Q x (delta h v) s =
      let from = h.from in
      let to = h.to in
      let k = h.number in
      let a = x.ages from in
      let b = s.0 in
      let here = x.pasts from k b in
      (omega arith, subst (λ y. Under o v y) (sym here) s.1, subst (λ y. Under o y (o.join (held o Q to) v)) (sym here) (L.lattice.trans (past o P from k) (o.join (held o P to) v) (o.join (held o Q to) v) s.2 (join_mono o L.lattice (held o P to) v (held o Q to) v (x.helds to) (L.lattice.refl v))))
  says_on P Q x (ack h) s =
      let from = h.from in
      let to = h.to in
      let k = h.number in
      let a = x.ages to in
      let b = s.0 in
      let here = x.pasts to k b in
      (omega arith, subst (λ y. Under o y (held o Q from)) (sym here) (L.lattice.trans (past o P to k) (held o P from) (held o Q from) s.1 (x.helds from)))

  pub sound_on : (P Q : ℕ → Page V) → Extends o P Q → (n r : ℕ) (b : List ℕ) → Sound o P n r b → Sound o Q n r b
  sound_on P Q x n r b s = record {
    datagram = s.datagram;
    bytes_are = s.bytes_are;
    for = s.for;
    from_in = s.from_in;
    to_in = s.to_in;
    apart = s.apart;
    says = says_on P Q x s.datagram s.says;
  }

  -- Rings

  pub links_drop : (P : ℕ → Page V) (r k m : ℕ) (ds : List (Kept V)) → Links o P r k ds → Links o P r (k + m) (drop m ds)
  links_drop P r k zero ds l = subst (λ i. Links o P r i ds) (sym (add-zero k)) l
  links_drop P r k (suc m) [] l = tt
  links_drop P r k (suc m) (d ∷ ds) l = subst (λ i. Links o P r i (drop m ds)) (omega arith) (links_drop P r (suc k) m ds l.1)

  pub links_push : (P : ℕ → Page V) (r k : ℕ) (ds : List (Kept V)) (d : Kept V) → Links o P r k ds → Link o P r (k + length ds) d → Links o P r k (ds ++ d ∷ [])
  links_push P r k [] d l n = (subst (λ i. Link o P r i d) (add-zero k) n, tt)
  links_push P r k (x ∷ ds) d l n = (l.0, links_push P r (suc k) ds d l.1 (subst (λ i. Link o P r i d) (omega arith) n))

  pub links_at : (P : ℕ → Page V) (r k i : ℕ) (ds : List (Kept V)) (d : Kept V) → Links o P r k ds → i < length ds → Link o P r (k + i) (get_or ds i d)
  links_at P r k i [] d l h = absurd (omega arith)
  links_at P r k zero (x ∷ ds) d l h = subst (λ m. Link o P r m x) (sym (add-zero k)) l.0
  links_at P r k (suc i) (x ∷ ds) d l h = subst (λ m. Link o P r m (get_or ds i d)) (omega arith) (links_at P r (suc k) i ds d l.1 (omega arith))

  -- Shipping: what was not from `j` lies under the value, and with what `j` has it makes up the value

  pub shipped_under : (P : ℕ → Page V) → Sane o P → (r j k : ℕ) (ds : List (Kept V)) → Links o P r k ds → Under o (join_all o (not_from j ds)) (held o P r)
  shipped_under P s r j k [] l = L.lattice.bottom_under (held o P r)
  shipped_under P s r j k (d ∷ ds) l =
      let rest = shipped_under P s r j (suc k) ds l.1 in
      let this : Under o d.delta (held o P r) = L.lattice.trans d.delta (past o P r (suc k)) (held o P r) (subst (λ y. Under o d.delta y) l.0.leads (L.lattice.above_right (past o P r k) d.delta)) (s.rises r (suc k) l.0.below) in
      cond_both (eqb d.origin j) (not_from j ds) (d.delta ∷ not_from j ds) (λ y. Under o (join_all o y) (held o P r)) (λ e. rest) (λ e. L.lattice.least d.delta (join_all o (not_from j ds)) (held o P r) this rest)

  pub shipped_covers : (P : ℕ → Page V) (r j k : ℕ) (ds : List (Kept V)) (c : V) → Links o P r k ds → k + length ds ≡ (P r).age → Under o (past o P r k) c → Under o (held o P j) c → Under o (join_all o (not_from j ds)) c → Under o (held o P r) c
  shipped_covers P r j k [] c l e a b d = subst (λ i. Under o (past o P r i) c) (sym (add-zero k) ∙ e) a
  shipped_covers P r j k (x ∷ ds) c l e a b d =
      let split : Under o x.delta c × Under o (join_all o (not_from j ds)) c = parts_of in
      shipped_covers P r j (suc k) ds c l.1 (omega arith) (subst (λ y. Under o y c) l.0.leads (L.lattice.least (past o P r k) x.delta c a split.0)) b split.1
    where
      from_j : x.origin ≡ j → Under o x.delta c
      from_j i-is = L.lattice.trans x.delta (held o P j) c (subst (λ i. Under o x.delta (held o P i)) i-is l.0.known) b

      go : (t : Bool) → eqb x.origin j ≡ t → Under o (join_all o (cond t (not_from j ds) (x.delta ∷ not_from j ds))) c → Under o x.delta c × Under o (join_all o (not_from j ds)) c
      go true q u = (from_j (eqb-true x.origin j q), u)
      go false q u = (L.lattice.trans x.delta (o.join x.delta (join_all o (not_from j ds))) c (L.lattice.above_left x.delta (join_all o (not_from j ds))) u, L.lattice.trans (join_all o (not_from j ds)) (o.join x.delta (join_all o (not_from j ds))) c (L.lattice.above_right x.delta (join_all o (not_from j ds))) u)

      parts_of : Under o x.delta c × Under o (join_all o (not_from j ds)) c
      parts_of = go (eqb x.origin j) refl d
