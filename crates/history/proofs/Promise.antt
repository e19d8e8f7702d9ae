-- What stands after every list of calls. Assumes nothing.
use Rattle.std.proofs.Common.{◌≡◌, ℕ, ◌+◌, ◌<◌, ◌≤◌, leb, List, [], ◌∷◌, length, get_or, replicate, Result, sym, refl, ap, ◌∙◌, subst, inl, add-one, arith}
use mathlib.Core.List.Memᴰ
use lib.ListN.{length-replicate, get_or-replicate}
use Rattle.lattice.specs.Laws.{Laws, Usable}
use Rattle.lattice.specs.Ops.{Ops}
use Rattle.lattice.specs.declared.refusal.Refusal.{Refusal}
use Rattle.wire.specs.Datagrams.{ReadsBack}
use Rattle.channel.specs.Meaning.{Waiting}
use Rattle.history.specs.declared.answers.Outcome.{Outcome}
use Rattle.history.specs.declared.kept.Kept.{Kept}
use Rattle.history.specs.Group.{Group, size, replica, mark, blank, made, wide, shipping}
use Rattle.history.specs.Group as calls
use Rattle.history.specs.Book.{Book, Event, act, ship, deliver, restart, History, account, value_at, worth, empty_book, book}
use Rattle.history.specs.Lines.{Line, Lawful}
use Rattle.history.specs.History.{State, Step, Reached, making, call, between, NewestCall, Holds, Knows, Keeps, Stands, HistoryStands, CarriesOn}
use Rattle.history.proofs.Joins.{Under, Order, order_of, worth_same, worth_none}
use Rattle.history.proofs.Invariant.{past, held, Sane, Marked, Link, Good, Inv, links_at}
use Rattle.history.proofs.Growth.{rerouted}
use Rattle.history.proofs.Steps.{After, ship_after, well_shipped, ship_keeps, act_keeps, restart_keeps}
use Rattle.history.proofs.Deliver.{deliver_keeps}

module _ {V : Type 0} (o : Ops V) (L : Order o) where
  -- The making

  made_sane : Sane o (empty_book {V = V}).pages
  unfolding empty_book
  made_sane = record { start = λ r. worth_none o L; rises = λ r k h. L.lattice.refl (worth o []) }

  made_good : (r : ℕ) → Good o (empty_book {V = V}).pages r (blank o)
  unfolding empty_book blank
  made_good r = record {
    value_is = sym (worth_none o L);
    clock_is = refl;
    small = omega arith;
    numbered = refl;
    links = tt;
    marks_long = refl;
    marks_are = λ j h. get_or-replicate 8 j 0 0 h;
    marks_good = λ j h. subst (Marked o (empty_book {V = V}).pages r j) (sym (get_or-replicate 8 j 0 0 h)) (record { reached = omega arith; there = L.lattice.refl (worth o []) });
  }

  made_inv : (n q : ℕ) → n ≤ 8 → 1 ≤ q → Inv o [] (empty_book {V = V}).pages (made o n q)
  unfolding made
  made_inv n q few room = record {
    few = subst (λ m. m ≤ 8) (sym long) few;
    room = room;
    sane = made_sane;
    good = subst (λ m. (r : ℕ) → r < m → Good o (empty_book {V = V}).pages r (get_or (replicate n (blank o)) r (blank o))) (sym long) (λ r h. subst (Good o (empty_book {V = V}).pages r) (sym (get_or-replicate n r (blank o) (blank o) h)) (made_good r));
    sound = λ x m. absurd (Memᴰ.not-nil m);
  }
    where
      long : length (replicate n (blank o)) ≡ n
      long = length-replicate n (blank o)

  module _ {C : Type 0} (U : Usable o) (R : ReadsBack o) (ch : Line C) (M : Lawful ch) where
    -- One call

    step_keeps : (b : Book V) (e : Event) (s t : State V C) → Inv o (ch.waits s.channel) b.pages s.group → Step o ch e s t → After o L ch M b e (ch.waits t.channel) t.group
    step_keeps b (act r deed answer) s t i (e, chn) = subst (λ (x : Result (Outcome × ℕ) Refusal × Group V). After o L ch M b (act r deed x.0) (ch.waits t.channel) x.1) (sym e) (subst (λ c. After o L ch M b (act r deed (calls.act o s.group r deed).0) (ch.waits c) (calls.act o s.group r deed).1) (sym chn) (act_keeps o L ch M b s.group (ch.waits s.channel) i r deed))
    step_keeps b (ship r j room answer) s t i (sh, grp) = shipped_keeps
      where
        kept : Inv o (ch.waits t.channel) b.pages s.group
        kept = ship_keeps o L ch M b.pages s.group s.channel t.channel r j answer (shipping o s.group r j room) (well_shipped o L s.group r j room) sh i

        shipped_keeps : After o L ch M b (ship r j room answer) (ch.waits t.channel) t.group
        shipped_keeps = ship_after o L ch M b r j room answer (ch.waits t.channel) t.group (subst (λ x. Inv o (ch.waits t.channel) b.pages x) (sym grp) kept)
    step_keeps b (deliver r room taken answer) s t i st = deliver_keeps o L U R ch M b s.group t.group s.channel t.channel r room taken answer (wide o) (leb 10252 room) i st
    step_keeps b (restart r answer) s t i (e, chn) = subst (λ (x : Result ℕ Refusal × Group V). After o L ch M b (restart r x.0) (ch.waits t.channel) x.1) (sym e) (subst (λ c. After o L ch M b (restart r (calls.restart o s.group r).0) (ch.waits c) (calls.restart o s.group r).1) (sym chn) (restart_keeps o L ch M b s.group (ch.waits s.channel) i r))

    -- Every list of calls

    reached_keeps : {h : History} {s : State V C} → Reached o ch h s → Inv o (ch.waits s.channel) (book o h).pages s.group × NewestCall o h s.group
    reached_keeps (making {s} n q two few one many narrow grp empty) = (subst (λ x. Inv o (ch.waits s.channel) (empty_book {V = V}).pages x) (sym grp) (subst (λ x. Inv o x (empty_book {V = V}).pages (made o n q)) (sym empty) (made_inv n q few one)), tt)
    reached_keeps (call {h} {s} {t} e before st) = step_keeps (book o h) e s t (reached_keeps before).0 st
    reached_keeps (between {h} {s} {t} before grp wait) =
        let old = reached_keeps before in
        (subst (λ x. Inv o (ch.waits t.channel) (book o h).pages x) (sym grp) (rerouted o L (ch.waits s.channel) (ch.waits t.channel) (book o h).pages s.group old.0 (λ x m. inl (wait x m))), subst (NewestCall o h) (sym grp) old.1)

  -- What the invariant says

  inv_holds : (ws : List Waiting) (b : Book V) (g : Group V) → Inv o ws b.pages g → Holds o b g
  inv_holds ws b g i = record {
    worth_held = λ r h. (i.good r h).value_is;
    equal_accounts = λ r s h k e. (i.good r h).value_is ∙ worth_same o L (account b r) (account b s) e ∙ sym (i.good s k).value_is;
  }

  inv_level : (ws : List Waiting) (b : Book V) (g : Group V) → Inv o ws b.pages g → (r j : ℕ) → r < size g → j < size g → mark (replica o g r) j ≡ (replica o g r).clock → Under o (replica o g r).value (replica o g j).value
  inv_level ws b g i r j h k e =
      let p = i.good r h in
      let q = i.good j k in
      let few = i.few in
      let low : j < 8 = omega arith in
      subst (λ v. Under o v (replica o g j).value) (sym p.value_is) (subst (λ v. Under o (held o b.pages r) v) (sym q.value_is) (subst (λ m. Under o (past o b.pages r m) (held o b.pages j)) (e ∙ p.clock_is) (p.marks_good j low).there))

  inv_knows : (ws : List Waiting) (b : Book V) (g : Group V) → Inv o ws b.pages g → Knows o b g
  inv_knows ws b g i = record {
    clocks = λ r h. (i.good r h).clock_is;
    marks = λ r j h k ne. (i.good r h).marks_are j (let few = i.few in omega arith);
    level_with = λ r j h k ne e. inv_level ws b g i r j h k e;
    both_level = λ r j h k ne e f. L.lattice.antisym (replica o g r).value (replica o g j).value (inv_level ws b g i r j h k e) (inv_level ws b g i j r k h f);
  }

  inv_link : (ws : List Waiting) (b : Book V) (g : Group V) → Inv o ws b.pages g → (r k : ℕ) (d : Kept V) → r < size g → k < length (replica o g r).ring → get_or (replica o g r).ring k d ≡ d → Link o b.pages r ((replica o g r).oldest + k) d
  inv_link ws b g i r k d h l e = subst (Link o b.pages r ((replica o g r).oldest + k)) e (links_at o L b.pages r (replica o g r).oldest k (replica o g r).ring d (i.good r h).links l)

  inv_keeps : (ws : List Waiting) (b : Book V) (g : Group V) → Inv o ws b.pages g → Keeps o b g
  inv_keeps ws b g i = record {
    numbered = λ r h. (i.good r h).numbered;
    leads_on = λ r k d h l e. (inv_link ws b g i r k d h l e).leads ∙ ap (value_at o b r) (sym (add-one ((replica o g r).oldest + k)));
    least = λ r k d x h l e f. (inv_link ws b g i r k d h l e).least x (f ∙ ap (value_at o b r) (add-one ((replica o g r).oldest + k)));
  }

  inv_stands : (ws : List Waiting) (h : History) (g : Group V) → Inv o ws (book o h).pages g → NewestCall o h g → Stands o h g
  inv_stands ws h g i n = record {
    holds = inv_holds ws (book o h) g i;
    knows = inv_knows ws (book o h) g i;
    newest = n;
    keeps = inv_keeps ws (book o h) g i;
  }

module _ {V C : Type 0} (o : Ops V) (ch : Line C) where
  -- a group is made of a narrow kind only
  reached_usable : {h : History} {s : State V C} → Reached o ch h s → Usable o
  reached_usable (making n q two few one many narrow grp empty) = narrow
  reached_usable (call e before st) = reached_usable before
  reached_usable (between before grp wait) = reached_usable before

  module _ (lawful : Usable o → Laws o) (R : ReadsBack o) (M : Lawful ch) where
    pub history_stands_lem : HistoryStands o ch
    history_stands_lem h s reached =
        let narrow = reached_usable reached in
        let L = order_of o (lawful narrow) in
        let k = reached_keeps o L narrow R ch M reached in
        inv_stands o L (ch.waits s.channel) h s.group k.0 k.1

    -- a call that does its step carries the promise on
    pub goes_on : CarriesOn o ch
    goes_on e s t st = record {
      steps = st;
      reaches = λ h before. call e before st;
      stands = λ h before. history_stands_lem (e ∷ h) t (call e before st);
    }
