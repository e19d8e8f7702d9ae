-- Each call keeps the invariant, and a grown one leaves its delta newest. Assumes nothing.
use Rattle.std.proofs.Common.{◌≡◌, ℕ, ◌+◌, ◌-◌, ◌<◌, ◌≤◌, true, false, not, ◌&&◌, eqb, ltb, leb, ◌≢◌, List, [], ◌∷◌, ◌++◌, length, drop, Ok, Err, Result, sym, refl, ap, ◌∙◌, subst, inl, inr, ⊎_elim, add-zero, arith, length-drop, length-set, ltb-true, leb-true}
use lib.ListN.{get_or-replicate}
use borrow.Author.Tests.{eqb-false, not-true}
use Rattle.std.proofs.lemmas.Bool.{cond_both, and_parts}
use Rattle.std.proofs.lemmas.List.{get_or-set_same}
use Rattle.lattice.specs.Ops.{Ops, difference}
use Rattle.lattice.specs.declared.part.Act.{Act}
use Rattle.lattice.specs.declared.refusal.Layer.TheVariants.{Group as of_group}
use Rattle.lattice.specs.declared.refusal.Refusal.{Refusal}
use Rattle.lattice.proofs.Order.{under_left, under_right}
use Rattle.wire.specs.Datagrams.{written}
use Rattle.wire.specs.declared.datagram.Datagram.TheVariants.{Delta as delta}
use Rattle.channel.specs.Meaning.{Waiting}
use Rattle.history.specs.declared.answers.Outcome.{Outcome}
use Rattle.history.specs.declared.answers.Outcome.TheVariants.{Grown}
use Rattle.history.specs.declared.answers.Shipped.{Shipped}
use Rattle.history.specs.declared.kept.Kept.{Kept}
use Rattle.history.specs.Group.{Group, Replica, header, refusal, size, replica, mark, blank, wide, with_replica, Recording, stays, grows, at_end, extended, recording, act_ends, act_records, Shipping, answers, puts, not_from, shipment, two_of, shipping, restarted, join_all}
use Rattle.history.specs.Group as calls
use Rattle.history.specs.Book.{Page, Book, Event, act, ship, restart, Mutation, worth, but, older, unmarked, with_page, mutation, with_mutation, or_bottom, entered}
use Rattle.history.specs.Lines.{Line, Lawful, Puts}
use Rattle.history.specs.History.{Ships, NewestOf, Newest}
use Rattle.history.proofs.Joins.{Under, Order, of_equal, worth_one}
use Rattle.history.proofs.Invariant.{but_same, but_other, past, held, Extends, Sane, Marked, Links, Good, Says, Sound, Inv, links_drop, shipped_under, shipped_covers}
use Rattle.history.proofs.Growth.{NextPages, next_extends, next_sane, still_extends, still_sane, Recorded, recorded, grown_good, replaced, rerouted, taken_in}

module _ {V : Type 0} (o : Ops V) (L : Order o) where
  pub extends_self : (P : ℕ → Page V) → Extends o P P
  extends_self P = record { ages = λ r. omega arith; pasts = λ r k h. refl; helds = λ r. L.lattice.refl (held o P r) }

  pub size_kept : (g : Group V) (r : ℕ) (p : Replica V) → size (with_replica g r p) ≡ size g
  unfolding with_replica
  size_kept g r p = length-set g.replicas r p

  -- the replica put in is the one found
  pub found : (g : Group V) (r : ℕ) (p : Replica V) → r < size g → replica o (with_replica g r p) r ≡ p
  unfolding with_replica
  found g r p h = get_or-set_same g.replicas r p (blank o) h

  -- what a recording leaves newest
  pub newest_ring : (g : Group V) (r limit : ℕ) (p : Replica V) (d : V) (origin : ℕ) → 1 ≤ limit → r < size g → (front : List (Kept V)) × ((replica o (with_replica g r (extended o limit p d origin)) r).ring ≡ front ++ record { delta = difference o d p.value; origin = origin } ∷ [])
  unfolding extended
  newest_ring g r limit p d origin one h = (drop (length p.ring + 1 - limit) p.ring, ap (λ (y : Replica V). y.ring) (found g r (extended o limit p d origin) h) ∙ taken_in o L limit p.ring (record { delta = difference o d p.value; origin = origin }) one)

  -- Ship

  abbrev pub WellShipped : Group V → (r j : ℕ) → Shipping → Type 0
  WellShipped g r j (answers a) = Unit {0}
  WellShipped g r j (puts bytes k) = (r < size g) × (j < size g) × (r ≢ j) × (bytes ≡ written o (delta (header r j (replica o g r).clock) (shipment o (replica o g r) j)))

  pub well_shipped : (g : Group V) (r j room : ℕ) → WellShipped g r j (shipping o g r j room)
  unfolding shipping
  well_shipped g r j room =
      cond_both (wide o) _ _ (WellShipped g r j) (λ e. tt) (λ e. cond_both (two_of o (size g) r j) _ _ (WellShipped g r j) (λ e. cond_both (leb 10252 room) _ _ (WellShipped g r j) (λ f. cond_both (eqb (mark (replica o g r) j) (replica o g r).clock) _ _ (WellShipped g r j) (λ u. tt) (λ u. inside e)) (λ f. tt)) (λ e. tt))
    where
      bytes : List ℕ
      bytes = written o (delta (header r j (replica o g r).clock) (shipment o (replica o g r) j))

      inside : two_of o (size g) r j ≡ true → (r < size g) × (j < size g) × (r ≢ j) × (bytes ≡ bytes)
      inside e =
          let a = and_parts (ltb r (size g)) (ltb j (size g) && not (eqb r j)) e in
          let b = and_parts (ltb j (size g)) (not (eqb r j)) a.1 in
          (ltb-true r (size g) a.0, ltb-true j (size g) b.0, eqb-false r j (not-true (eqb r j) b.1), refl)

  -- what is shipped says what holds
  pub shipment_says : (P : ℕ → Page V) (r j : ℕ) (p : Replica V) → Sane o P → Good o P r p → j < 8 → Says o P (delta (header r j p.clock) (shipment o p j))
  unfolding shipment
  shipment_says P r j p s g h =
      subst (λ k. Says o P (delta (header r j k) (shipment o p j))) (sym g.clock_is) (cond_both (leb p.oldest (mark p j)) (join_all o (not_from j (drop (mark p j - p.oldest) p.ring))) p.value (λ v. Says o P (delta (header r j (P r).age) v)) since whole)
    where
      m : Marked o P r j (mark p j)
      m = g.marks_good j h

      since : leb p.oldest (mark p j) ≡ true → Says o P (delta (header r j (P r).age) (join_all o (not_from j (drop (mark p j - p.oldest) p.ring))))
      since e =
          let le = leb-true p.oldest (mark p j) e in
          let low = m.reached in
          let ca = g.clock_is in
          let nu = g.numbered in
          let rest = drop (mark p j - p.oldest) p.ring in
          let v = join_all o (not_from j rest) in
          let long = length-drop (mark p j - p.oldest) p.ring in
          let at : Links o P r (mark p j) rest = subst (λ k. Links o P r k rest) (omega arith) (links_drop o L P r p.oldest (mark p j - p.oldest) p.ring g.links) in
          (omega arith, shipped_under o L P s r j (mark p j) rest at, shipped_covers o L P r j (mark p j) rest (o.join (held o P j) v) at (omega arith) (under_left o L.lattice (past o P r (mark p j)) (held o P j) v m.there) (L.lattice.above_left (held o P j) v) (L.lattice.above_right (held o P j) v))

      whole : leb p.oldest (mark p j) ≡ false → Says o P (delta (header r j (P r).age) p.value)
      whole e = (omega arith, of_equal o L p.value (held o P r) g.value_is, under_right o L.lattice (held o P r) (held o P j) p.value (of_equal o L (held o P r) p.value (sym g.value_is)))

  -- Putting what is sound

  module _ {C : Type 0} (ch : Line C) (M : Lawful ch) where
    pub put_sound : (P : ℕ → Page V) (g : Group V) (c d : C) (j : ℕ) (bytes : List ℕ) (a : Result (Unit {0}) ℕ) → Puts ch c j bytes a d → Sound o P (size g) j bytes → Inv o (ch.waits c) P g → Inv o (ch.waits d) P g
    put_sound P g c d j bytes (Ok u) put s i = rerouted o L (ch.waits c) (ch.waits d) P g i (λ x m. ⊎_elim inl (λ e. inr (subst (λ (y : Waiting). Sound o P (size g) y.to y.bytes) (sym e) s)) (M.put_waits c d j bytes put.1 x m))
    put_sound P g c d j bytes (Err n) put s i = subst (λ x. Inv o (ch.waits x) P g) (sym put.1) i

    pub ship_keeps : (P : ℕ → Page V) (g : Group V) (c d : C) (r j : ℕ) (answer : Result Shipped Refusal) (x : Shipping) → WellShipped g r j x → Ships ch x j answer c d → Inv o (ch.waits c) P g → Inv o (ch.waits d) P g
    ship_keeps P g c d r j answer (answers a) v s i = subst (λ y. Inv o (ch.waits y) P g) (sym s.1) i
    ship_keeps P g c d r j answer (puts bytes k) v s i =
        put_sound P g c d j bytes s.0 s.1 (record {
          datagram = delta (header r j (replica o g r).clock) (shipment o (replica o g r) j);
          bytes_are = v.3;
          for = refl;
          from_in = v.0;
          to_in = v.1;
          apart = v.2;
          says = shipment_says P r j (replica o g r) i.sane (i.good r v.0) (let few = i.few in let h = v.1 in omega arith);
        }) i

    -- Act

    abbrev pub After : Book V → Event → List Waiting → Group V → Type 0
    After b e ws g = Inv o ws (entered o b e).pages g × Newest o b e g

    pub ship_after : (b : Book V) (r j room : ℕ) (answer : Result Shipped Refusal) (ws : List Waiting) (g : Group V) → Inv o ws b.pages g → After b (ship r j room answer) ws g
    unfolding entered
    ship_after b r j room answer ws g i = (i, tt)

    module _ (b : Book V) (g : Group V) (ws : List Waiting) (i : Inv o ws b.pages g) where
      act_grows : (r : ℕ) (deed : Act) (e : V) → r < size g → o.effect (replica o g r).value r deed ≡ Ok e → (replica o g r).clock ≢ 4294967295 → After b (act r deed (Ok (Grown, (extended o g.limit (replica o g r) e r).clock))) ws (with_replica g r (extended o g.limit (replica o g r) e r))
      unfolding entered with_mutation mutation
      act_grows r deed e h f top = (replaced o L ws b.pages Q g r q i h (λ s ne. but_other b.pages r (older (b.pages r) (m ∷ [])) s ne) (next_extends o L b.pages r (m ∷ [])) (next_sane o L b.pages r (m ∷ []) i.sane) new, ring)
        where
          p : Replica V
          p = replica o g r

          is_good : Good o b.pages r p
          is_good = i.good r h

          m : Mutation V
          m = mutation o b r deed

          effect_is : m.effect ≡ e
          effect_is = ap (λ v. or_bottom o (o.effect v r deed)) (sym is_good.value_is) ∙ ap (or_bottom o) f

          Q : ℕ → Page V
          Q = NextPages o L b.pages r (m ∷ [])

          q : Replica V
          q = extended o g.limit p e r

          worth_is : worth o (m ∷ []) ≡ e
          worth_is = worth_one o L m ∙ effect_is

          new : Good o Q r q
          new = grown_good o L b.pages g.limit r p e r (m ∷ []) i.room is_good top (of_equal o L e (worth o (m ∷ [])) (sym worth_is)) (under_right o L.lattice (worth o (m ∷ [])) (held o b.pages r) e (of_equal o L (worth o (m ∷ [])) e worth_is)) (inl refl)

          ring : NewestOf o b r true m.effect r (with_replica g r q)
          ring = subst (λ v. (front : List (Kept V)) × ((replica o (with_replica g r q) r).ring ≡ front ++ record { delta = v; origin = r } ∷ [])) (ap (difference o e) is_good.value_is ∙ ap (λ v. difference o v (held o b.pages r)) (sym effect_is)) (newest_ring g r g.limit p e r i.room h)

      act_recorded : (r : ℕ) (deed : Act) (e : V) → r < size g → o.effect (replica o g r).value r deed ≡ Ok e → (x : Recording V) → Recorded o L g.limit (replica o g r) e r x → After b (act r deed (act_ends o g r (replica o g r) x).0) ws (act_ends o g r (replica o g r) x).1
      unfolding entered
      act_recorded r deed e h f stays v = (i, tt)
      act_recorded r deed e h f (grows q) v = subst (λ (y : Replica V). After b (act r deed (Ok (Grown, y.clock))) ws (with_replica g r y)) (sym v.0) (act_grows r deed e h f v.1)
      act_recorded r deed e h f at_end v = (i, tt)

      act_effect : (r : ℕ) (deed : Act) → r < size g → (x : Result V ℕ) → o.effect (replica o g r).value r deed ≡ x → After b (act r deed (act_records o g r (replica o g r) x).0) ws (act_records o g r (replica o g r) x).1
      unfolding entered
      act_effect r deed h (Ok e) f = act_recorded r deed e h f (recording o g.limit (replica o g r) e r) (recorded o L g.limit (replica o g r) e r)
      act_effect r deed h (Err n) f = (i, tt)

      pub act_keeps : (r : ℕ) (deed : Act) → After b (act r deed (calls.act o g r deed).0) ws (calls.act o g r deed).1
      unfolding entered calls.act
      act_keeps r deed =
          cond_both (wide o) _ _ KeptSo (λ e. (i, tt)) (λ e. cond_both (ltb r (size g)) (act_records o g r (replica o g r) (o.effect (replica o g r).value r deed)) _ KeptSo (λ e. act_effect r deed (ltb-true r (size g) e) (o.effect (replica o g r).value r deed) refl) (λ e. (i, tt)))
        where
          KeptSo : Result (Outcome × ℕ) Refusal × Group V → Type 0
          KeptSo x = After b (act r deed x.0) ws x.1

      -- Restart

      restart_good : (r : ℕ) → r < size g → Good o (but b.pages r (unmarked (b.pages r))) r (restarted (replica o g r))
      unfolding unmarked
      restart_good r h =
          let old = i.good r h in
          let page = but_same b.pages r (unmarked (b.pages r)) in
          record {
            value_is = old.value_is ∙ sym (ap (λ (y : Page V). worth o (y.at y.age)) page);
            clock_is = old.clock_is ∙ sym (ap (λ (y : Page V). y.age) page);
            small = old.small;
            numbered = add-zero (replica o g r).clock;
            links = tt;
            marks_long = refl;
            marks_are = λ j k. get_or-replicate 8 j 0 0 k ∙ sym (ap (λ (y : Page V). y.marks j) page);
            marks_good = λ j k. subst (Marked o (but b.pages r (unmarked (b.pages r))) r j) (sym (get_or-replicate 8 j 0 0 k)) (record { reached = omega arith; there = subst (λ v. Under o v (held o (but b.pages r (unmarked (b.pages r))) j)) (sym (ap (λ (y : Page V). worth o (y.at 0)) page ∙ i.sane.start r)) (L.lattice.bottom_under (held o (but b.pages r (unmarked (b.pages r))) j)) });
          }

      restart_in : (r : ℕ) → r < size g → After b (restart r (Ok (replica o g r).clock)) ws (with_replica g r (restarted (replica o g r)))
      unfolding entered with_page unmarked
      restart_in r h = (replaced o L ws b.pages (but b.pages r (unmarked (b.pages r))) g r (restarted (replica o g r)) i h (λ s ne. but_other b.pages r (unmarked (b.pages r)) s ne) (still_extends o L b.pages r (unmarked (b.pages r)).marks) (still_sane o L b.pages r (unmarked (b.pages r)).marks i.sane) (restart_good r h), tt)

      pub restart_keeps : (r : ℕ) → After b (restart r (calls.restart o g r).0) ws (calls.restart o g r).1
      unfolding entered calls.restart
      restart_keeps r = cond_both {A = Result ℕ Refusal × Group V} (ltb r (size g)) (Ok (replica o g r).clock, with_replica g r (restarted (replica o g r))) (Err (refusal of_group 4), g) (λ x. After b (restart r x.0) ws x.1) (λ e. restart_in r (ltb-true r (size g) e)) (λ e. (i, tt))
