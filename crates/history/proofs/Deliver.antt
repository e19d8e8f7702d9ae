-- A deliver keeps the invariant. Assumes nothing.
use Rattle.std.proofs.Common.{◌≡◌, ℕ, suc, ◌-◌, ◌<◌, ◌≤◌, min, max, Bool, true, false, cond, eqb, ltb, leb, ◌≢◌, List, [], ◌∷◌, ◌++◌, length, get_or, take, drop, set, Some, None, Ok, Err, Option, Result, sym, refl, ap, ◌∙◌, subst, inl, inr, ⊎_elim, arith, length-drop, length-set, ltb-true, lt-ltb, eq-eqb, ne_eqb}
use Rattle.std.proofs.lemmas.Bool.{cond-true, cond_both, cases_lt, and_from, not_from_false}
use Rattle.lattice.specs.Laws.{Usable}
use Rattle.lattice.specs.Ops.{Ops, difference}
use Rattle.lattice.specs.declared.refusal.Layer.TheVariants.{Replica as of_replica}
use Rattle.lattice.specs.declared.refusal.Refusal.{Refusal}
use Rattle.wire.specs.Datagrams.{ReadsBack, body, header_of, reading, written}
use Rattle.wire.specs.declared.datagram.Datagram.{Datagram}
use Rattle.wire.specs.declared.datagram.Datagram.TheVariants.{Delta as delta, Ack as ack}
use Rattle.channel.specs.Meaning.{Waiting, waiting}
use Rattle.history.specs.declared.answers.Outcome.TheVariants.{Grown, Same}
use Rattle.history.specs.declared.answers.Delivered.{Delivered}
use Rattle.history.specs.declared.kept.Kept.{Kept}
use Rattle.history.specs.Group.{Group, Replica, header, refusal, size, replica, mark, with_replica, Recording, stays, grows, at_end, extended, recording, declines, joins, hears, lowest, raised, addressed, accept_ends, accept_datagram, accept_opened, accepting}
use Rattle.history.specs.Book.{Page, Account, Book, deliver, worth, but, older, marked, with_page, entered, entered_taken, entered_datagram, delivery_grew}
use Rattle.history.specs.Lines.{Line, Lawful, Takes, got}
use Rattle.history.specs.History.{Accepts, Taken, Refused, Delivers, NewestOf, NewestRead, NewestTaken}
use Rattle.history.proofs.Joins.{Under, Order}
use Rattle.history.proofs.Invariant.{but_same, but_other, set_all, past, held, Extends, Marked, Links, Good, Says, Sound, Inv, marked_on, links_on, links_drop}
use Rattle.history.proofs.Growth.{NextPages, next_extends, next_sane, next_held, still_extends, still_sane, Recorded, recorded, grown_good, replaced, rerouted}
use Rattle.history.proofs.Reading.{reads_as}
use Rattle.history.proofs.Steps.{extends_self, size_kept, newest_ring, put_sound, After}

lowest_top : (own top i : ℕ) (ms : List ℕ) → lowest own top i ms ≤ top
lowest_top own top i [] = omega arith
lowest_top own top i (m ∷ ms) =
    let below = lowest_top own top (suc i) ms in
    cond_both (eqb i own) (lowest own top (suc i) ms) (min m (lowest own top (suc i) ms)) (λ x. x ≤ top) (λ e. below) (λ e. omega arith)

module _ {V : Type 0} (o : Ops V) (L : Order o) where
  -- a mark raised
  raised_good : (P : ℕ → Page V) (n r : ℕ) (p : Replica V) (from k : ℕ) → Good o P r p → from < 8 → k ≤ (P r).age → Under o (past o P r k) (held o P from) → Good o (but P r (marked (P r) from k)) r (raised n r p from k)
  unfolding raised marked
  raised_good P n r p from k g h reach there = record {
    value_is = g.value_is ∙ sym (ap (λ (y : Page V). worth o (y.at y.age)) page);
    clock_is = g.clock_is ∙ sym (ap (λ (y : Page V). y.age) page);
    small = g.small;
    numbered = let a = length-drop (low - p.oldest) p.ring in let b = g.numbered in let c = low_top in omega arith;
    links = subst (λ i. Links o Q r i (drop (low - p.oldest) p.ring)) (omega arith) (links_drop o L Q r p.oldest (low - p.oldest) p.ring (links_on o L P Q ext r p.oldest p.ring g.links));
    marks_long = length-set p.marks from top ∙ g.marks_long;
    marks_are = λ j l. are j l ∙ sym (ap (λ (y : Page V). y.marks j) page);
    marks_good = λ j l. marked_on o L P Q ext r j (get_or ms j 0) (goods j l);
  }
    where
      top : ℕ
      top = max (mark p from) k

      ms : List ℕ
      ms = set p.marks from top

      low : ℕ
      low = lowest r p.clock 0 (take n ms)

      low_top : low ≤ p.clock
      low_top = lowest_top r p.clock 0 (take n ms)

      Q : ℕ → Page V
      Q = but P r (marked (P r) from k)

      page : Q r ≡ marked (P r) from k
      page = but_same P r (marked (P r) from k)

      ext : Extends o P Q
      ext = still_extends o L P r (marked (P r) from k).marks

      inside : from < length p.marks
      inside = let e = g.marks_long in omega arith

      are : (j : ℕ) → j < 8 → get_or ms j 0 ≡ but (P r).marks from (max ((P r).marks from) k) j
      are = set_all p.marks from top 0 (λ j m. j < 8 → m ≡ but (P r).marks from (max ((P r).marks from) k) j) inside (λ l. ap (λ i. max i k) (g.marks_are from h) ∙ sym (but_same (P r).marks from (max ((P r).marks from) k))) (λ j ne l. g.marks_are j l ∙ sym (but_other (P r).marks from (max ((P r).marks from) k) j ne))

      risen : Marked o P r from top
      risen = ⊎_elim (λ l. subst (Marked o P r from) (omega arith) (record { reached = reach; there = there })) (λ l. subst (Marked o P r from) (omega arith) (g.marks_good from h)) (cases_lt (mark p from) k)

      goods : (j : ℕ) → j < 8 → Marked o P r j (get_or ms j 0)
      goods = set_all p.marks from top 0 (λ j m. j < 8 → Marked o P r j m) inside (λ l. risen) (λ j ne l. g.marks_good j l)

  module _ {C : Type 0} (U : Usable o) (R : ReadsBack o) (ch : Line C) (M : Lawful ch) where
    -- what is sound reads back, and is for `r`

    small : (P : ℕ → Page V) (g : Group V) (ws : List Waiting) → Inv o ws P g → (r : ℕ) (bytes : List ℕ) (s : Sound o P (size g) r bytes) → (header_of s.datagram).number < 4294967296
    small P g ws i r bytes s = number_small s.datagram s.from_in s.to_in s.says
      where
        clock_small : (q : ℕ) → q < size g → (P q).age ≤ 4294967295
        clock_small q h = let a = (i.good q h).small in let b = (i.good q h).clock_is in omega arith

        number_small : (d : Datagram V) → (header_of d).from < size g → (header_of d).to < size g → Says o P d → (header_of d).number < 4294967296
        number_small (delta h v) a b y = let z = clock_small h.from a in let u = y.0 in omega arith
        number_small (ack h) a b y = let z = clock_small h.to b in let u = y.0 in omega arith

    reads : (P : ℕ → Page V) (g : Group V) (ws : List Waiting) → Inv o ws P g → (r : ℕ) (bytes : List ℕ) (s : Sound o P (size g) r bytes) → reading o bytes ≡ Ok s.datagram
    reads P g ws i r bytes s = ap (reading o) s.bytes_are ∙ R U s.datagram (small P g ws i r bytes s)

    accepted_is : (P : ℕ → Page V) (g : Group V) (ws : List Waiting) → Inv o ws P g → (limit r : ℕ) (p : Replica V) (bytes : List ℕ) (s : Sound o P (size g) r bytes) → accepting o (size g) limit r p bytes ≡ accept_datagram o (size g) limit r p (Ok s.datagram)
    unfolding accepting
    accepted_is P g ws i limit r p bytes s =
        let h = header_of s.datagram in
        let two = reads_as o bytes s.datagram (reads P g ws i r bytes s) in
        let test : addressed (size g) r h ≡ true = and_from _ _ (lt-ltb h.from (size g) s.from_in) (and_from _ _ (lt-ltb h.to (size g) s.to_in) (and_from _ _ (not_from_false _ (ne_eqb h.from h.to s.apart)) (eq-eqb h.to r s.for))) in
        ap (accept_opened o (size g) limit r p bytes) two.opens
        ∙ cond-true (addressed (size g) r h) (accept_datagram o (size g) limit r p (body o bytes two.sort h)) (declines (refusal of_replica 15)) test
        ∙ ap (accept_datagram o (size g) limit r p) two.rest

    -- a group and a channel that are what they were
    unmoved : (P : ℕ → Page V) (g g' : Group V) (c d : C) → Inv o (ch.waits c) P g → g' ≡ g → d ≡ c → Inv o (ch.waits d) P g'
    unmoved P g g' c d i grp chn = subst (λ x. Inv o (ch.waits d) P x) (sym grp) (subst (λ x. Inv o (ch.waits x) P g) (sym chn) i)

    -- what is then known, by the datagram read
    abbrev Got : Book V → ℕ → Result Delivered Refusal → Group V → C → Result (Datagram V) ℕ → Type 0
    Got b r answer g d x = Inv o (ch.waits d) (entered_datagram o b r answer x).pages g × NewestRead o b r (delivery_grew answer) x g

    module _ (b : Book V) (g : Group V) (m : C) (i : Inv o (ch.waits m) b.pages g) (r : ℕ) (h : r < size g) where
      abbrev P : ℕ → Page V
      P = b.pages

      abbrev p : Replica V
      p = replica o g r

      -- the acknowledgement that is put
      ack_sound : (Q : ℕ → Page V) (n from k : ℕ) → from < n → r < n → r ≢ from → k ≤ (Q from).age → Under o (past o Q from k) (held o Q r) → Sound o Q n from (written o (ack (header r from k)))
      ack_sound Q n from k a c ne reach u = record {
        datagram = ack (header r from k);
        bytes_are = refl;
        for = refl;
        from_in = c;
        to_in = a;
        apart = ne;
        says = (reach, u);
      }

      -- a deliver that records nothing new
      same_got : (from to k : ℕ) (v : V) (d : C) (answer : Result Delivered Refusal) (g' : Group V) → from < size g → from ≢ r → Says o P (delta (header from r k) v) → Under o v p.value → Accepts o ch r (joins Same p (header from to k)) answer g m g' d → Got b r answer g' d (Ok (delta (header from to k) v))
      same_got from to k v d answer g' a ne y u (t, put, ans, grp) = subst (λ x. Got b r x g' d (Ok (delta (header from to k) v))) (sym ans) (subst (λ x. Inv o (ch.waits d) P x × Unit {0}) (sym grp) (put_sound o L ch M P (with_replica g r p) m d from (written o (ack (header r from k))) t put (subst (λ n. Sound o P n from (written o (ack (header r from k)))) (sym long) (ack_sound P (size g) from k a h (λ e. ne (sym e)) y.0 known)) kept, tt))
        where
          is_good : Good o P r p
          is_good = i.good r h

          kept : Inv o (ch.waits m) P (with_replica g r p)
          kept = replaced o L (ch.waits m) P P g r p i h (λ s n. refl) (extends_self o L P) i.sane is_good

          long : size (with_replica g r p) ≡ size g
          long = size_kept o L g r p

          v_held : Under o v (held o P r)
          v_held = subst (λ x. Under o v x) is_good.value_is u

          known : Under o (past o P from k) (held o P r)
          known = L.lattice.trans (past o P from k) (o.join (held o P r) v) (held o P r) y.2 (L.lattice.least (held o P r) v (held o P r) (L.lattice.refl (held o P r)) v_held)

      -- a deliver that grows the replica
      grown_got : (from to k : ℕ) (v : V) (d : C) (answer : Result Delivered Refusal) (g' : Group V) → from < size g → from ≢ r → Says o P (delta (header from r k) v) → p.clock ≢ 4294967295 → Accepts o ch r (joins Grown (extended o g.limit p v from) (header from to k)) answer g m g' d → Got b r answer g' d (Ok (delta (header from to k) v))
      unfolding with_page
      grown_got from to k v d answer g' a ne y top (t, put, ans, grp) = subst (λ x. Got b r x g' d (Ok (delta (header from to k) v))) (sym ans) (subst (λ x. Inv o (ch.waits d) Q x × NewestOf o b r true v from x) (sym grp) (put_sound o L ch M Q (with_replica g r q) m d from (written o (ack (header r from k))) t put (subst (λ n. Sound o Q n from (written o (ack (header r from k)))) (sym long) (ack_sound Q (size g) from k a h (λ e. ne (sym e)) reach known)) kept, ring))
        where
          is_good : Good o P r p
          is_good = i.good r h

          more : Account V
          more = (P from).at k

          Q : ℕ → Page V
          Q = NextPages o L P r more

          ext : Extends o P Q
          ext = next_extends o L P r more

          q : Replica V
          q = extended o g.limit p v from

          new : Good o Q r q
          new = grown_good o L P g.limit r p v from more i.room is_good top y.1 y.2 (inr (L.lattice.trans v (past o P from k) (held o P from) y.1 (i.sane.rises from k y.0)))

          kept : Inv o (ch.waits m) Q (with_replica g r q)
          kept = replaced o L (ch.waits m) P Q g r q i h (λ s n. but_other P r (older (P r) more) s n) ext (next_sane o L P r more i.sane) new

          long : size (with_replica g r q) ≡ size g
          long = size_kept o L g r q

          reach : k ≤ (Q from).age
          reach = let c = ext.ages from in let e = y.0 in omega arith

          known : Under o (past o Q from k) (held o Q r)
          known = subst (λ x. Under o x (held o Q r)) (sym (ext.pasts from k y.0)) (subst (λ x. Under o (past o P from k) x) (sym (next_held o L P r more)) (L.lattice.above_right (held o P r) (worth o more)))

          ring : NewestOf o b r true v from (with_replica g r q)
          ring = subst (λ x. (front : List (Kept V)) × ((replica o (with_replica g r q) r).ring ≡ front ++ record { delta = difference o v x; origin = from } ∷ [])) is_good.value_is (newest_ring o L g r g.limit p v from i.room h)

      delta_got : (from to k : ℕ) (v : V) (d : C) (answer : Result Delivered Refusal) (g' : Group V) → from < size g → from ≢ r → Says o P (delta (header from r k) v) → (x : Recording V) → Recorded o L g.limit p v from x → Accepts o ch r (accept_ends o p (header from to k) x) answer g m g' d → Got b r answer g' d (Ok (delta (header from to k) v))
      delta_got from to k v d answer g' a ne y stays u acc = same_got from to k v d answer g' a ne y u acc
      delta_got from to k v d answer g' a ne y (grows q) u acc = grown_got from to k v d answer g' a ne y u.1 (subst (λ z. Accepts o ch r (joins Grown z (header from to k)) answer g m g' d) u.0 acc)
      delta_got from to k v d answer g' a ne y at_end u (ans, grp, chn) = subst (λ x. Got b r x g' d (Ok (delta (header from to k) v))) (sym ans) (unmoved P g g' m d i grp chn, tt)

      ack_got : (from to k : ℕ) (d : C) (answer : Result Delivered Refusal) (g' : Group V) → from < size g → Says o P (ack (header from r k)) → Accepts o ch r (cond (leb k p.clock) (hears (raised (size g) r p from k) (header from to k)) (declines (refusal of_replica 17))) answer g m g' d → Got b r answer g' d (Ok (ack (header from to k)))
      unfolding with_page marked
      ack_got from to k d answer g' a y acc = go (leb k p.clock) acc
        where
          Q : ℕ → Page V
          Q = but P r (marked (P r) from k)

          heard_inv : Inv o (ch.waits m) Q (with_replica g r (raised (size g) r p from k))
          heard_inv = replaced o L (ch.waits m) P Q g r (raised (size g) r p from k) i h (λ s n. but_other P r (marked (P r) from k) s n) (still_extends o L P r (marked (P r) from k).marks) (still_sane o L P r (marked (P r) from k).marks i.sane) (raised_good P (size g) r p from k (i.good r h) (let few = i.few in omega arith) y.0 y.1)

          go : (t : Bool) → Accepts o ch r (cond t (hears (raised (size g) r p from k) (header from to k)) (declines (refusal of_replica 17))) answer g m g' d → Got b r answer g' d (Ok (ack (header from to k)))
          go true (ans, grp, chn) = subst (λ x. Got b r x g' d (Ok (ack (header from to k)))) (sym ans) (unmoved Q (with_replica g r (raised (size g) r p from k)) g' m d heard_inv grp chn, tt)
          go false (ans, grp, chn) = subst (λ x. Got b r x g' d (Ok (ack (header from to k)))) (sym ans) (unmoved P g g' m d i grp chn, tt)

      datagram_got : (z : Datagram V) (d : C) (answer : Result Delivered Refusal) (g' : Group V) → (header_of z).to ≡ r → (header_of z).from < size g → (header_of z).from ≢ (header_of z).to → Says o P z → Accepts o ch r (accept_datagram o (size g) g.limit r p (Ok z)) answer g m g' d → Got b r answer g' d (Ok z)
      datagram_got (delta h v) d answer g' e a ne y acc = delta_got h.from h.to h.number v d answer g' a (λ k. ne (k ∙ sym e)) (subst (λ j. Says o P (delta (header h.from j h.number) v)) e y) (recording o g.limit p v h.from) (recorded o L g.limit p v h.from) acc
      datagram_got (ack h) d answer g' e a ne y acc = ack_got h.from h.to h.number d answer g' a (subst (λ j. Says o P (ack (header h.from j h.number))) e y) acc

    -- Deliver

    took_keeps : (b : Book V) (g g' : Group V) (c m d : C) (r : ℕ) (bytes : List ℕ) (answer : Result Delivered Refusal) → Inv o (ch.waits c) b.pages g → r < size g → ch.ready c r ≡ Some bytes → ch.takes c r m → Accepts o ch r (accepting o (size g) g.limit r (replica o g r) bytes) answer g m g' d → Got b r answer g' d (reading o bytes)
    took_keeps b g g' c m d r bytes answer i h is-ready take acc =
        let s : Sound o b.pages (size g) r bytes = i.sound (waiting r bytes) (M.ready_waits c r bytes is-ready) in
        let after : Inv o (ch.waits m) b.pages g = rerouted o L (ch.waits c) (ch.waits m) b.pages g i (λ x n. inl (M.take_waits c m r take x n)) in
        subst (Got b r answer g' d) (sym (reads b.pages g (ch.waits c) i r bytes s)) (datagram_got b g m after r h s.datagram d answer g' s.for s.from_in s.apart s.says (subst (λ x. Accepts o ch r x answer g m g' d) (accepted_is b.pages g (ch.waits c) i g.limit r (replica o g r) bytes s) acc))

    -- the book and the newest delta after a deliver
    abbrev DeliveredSo : Book V → ℕ → Result Delivered Refusal → Option (List ℕ) → C → Group V → Type 0
    DeliveredSo b r answer t d g = Inv o (ch.waits d) (entered_taken o b r answer t).pages g × NewestTaken o b r (delivery_grew answer) t g

    idle : (b : Book V) (g g' : Group V) (c m d : C) (r : ℕ) (t : Option (List ℕ)) (answer : Result Delivered Refusal) → Inv o (ch.waits c) b.pages g → t ≡ None → m ≡ c → g' ≡ g → d ≡ m → DeliveredSo b r answer t d g'
    idle b g g' c m d r t answer i none-taken e grp chn = subst (λ x. DeliveredSo b r answer x d g') (sym none-taken) (unmoved b.pages g g' c d i grp (chn ∙ e), tt)

    taken_keeps : (b : Book V) (g g' : Group V) (c m d : C) (r room : ℕ) (a : Result (Option ℕ) ℕ) (t : Option (List ℕ)) (answer : Result Delivered Refusal) → Inv o (ch.waits c) b.pages g → r < size g → Takes ch c r room a m → t ≡ got a (ch.ready c r) → Taken o ch r a t answer g m g' d → DeliveredSo b r answer t d g'
    taken_keeps b g g' c m d r room (Err n) t answer i h take e (ans, grp, chn) = idle b g g' c m d r t answer i e take.1 grp chn
    taken_keeps b g g' c m d r room (Ok None) t answer i h take e (ans, grp, chn) = idle b g g' c m d r t answer i e take.1 grp chn
    taken_keeps b g g' c m d r room (Ok (Some n)) None answer i h take e no_way = absurd no_way
    taken_keeps b g g' c m d r room (Ok (Some n)) (Some bytes) answer i h take e acc = took_keeps b g g' c m d r bytes answer i h (sym e) take.1 acc

    refused_keeps : (b : Book V) (g g' : Group V) (c d : C) (r n : ℕ) (t : Option (List ℕ)) (answer : Result Delivered Refusal) → Inv o (ch.waits c) b.pages g → Refused o ch n t answer g c g' d → DeliveredSo b r answer t d g'
    refused_keeps b g g' c d r n t answer i (ans, none-taken, grp, chn) = idle b g g' c c d r t answer i none-taken refl grp chn

    delivers_keeps : (b : Book V) (g g' : Group V) (c d : C) (r room : ℕ) (t : Option (List ℕ)) (answer : Result Delivered Refusal) (too_wide in_group long : Bool) → ltb r (size g) ≡ in_group → Inv o (ch.waits c) b.pages g → Delivers o ch too_wide in_group long r room t answer g c g' d → DeliveredSo b r answer t d g'
    delivers_keeps b g g' c d r room t answer true in_group long e i s = refused_keeps b g g' c d r 3 t answer i s
    delivers_keeps b g g' c d r room t answer false false long e i s = refused_keeps b g g' c d r 4 t answer i s
    delivers_keeps b g g' c d r room t answer false true false e i s = refused_keeps b g g' c d r 11 t answer i s
    delivers_keeps b g g' c d r room t answer false true true e i (m, a, take, is, rest) = taken_keeps b g g' c m d r room a t answer i (ltb-true r (size g) e) take is rest

    pub deliver_keeps : (b : Book V) (g g' : Group V) (c d : C) (r room : ℕ) (t : Option (List ℕ)) (answer : Result Delivered Refusal) (too_wide long : Bool) → Inv o (ch.waits c) b.pages g → Delivers o ch too_wide (ltb r (size g)) long r room t answer g c g' d → After o L ch M b (deliver r room t answer) (ch.waits d) g'
    unfolding entered
    deliver_keeps b g g' c d r room t answer too_wide long i s = delivers_keeps b g g' c d r room t answer too_wide (ltb r (size g)) long refl i s
