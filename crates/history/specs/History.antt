-- What stands after every list of calls, from a group's making over an empty channel on. Assumes nothing.
use Rattle.std.specs.Prelude.{◌≡◌, ℕ, ◌+◌, ◌<◌, ◌≤◌, Bool, true, false, ◌≢◌, ◌↔◌, List, [], ◌∷◌, ◌++◌, length, Some, None, Ok, Err, Option, Result, nat_le, nat_lt, slice_index_or}
use mathlib.Core.List.{Memᴰ}
use Rattle.lattice.specs.Laws.{Usable}
use Rattle.lattice.specs.Ops.{Ops, difference}
use Rattle.lattice.specs.declared.refusal.Layer.TheVariants.{Channel as of_channel, Group as of_group}
use Rattle.lattice.specs.declared.refusal.Refusal.{Refusal}
use Rattle.wire.specs.Datagrams.{reading, written}
use Rattle.wire.specs.declared.datagram.Datagram.{Datagram}
use Rattle.wire.specs.declared.datagram.Datagram.TheVariants.{Delta as delta, Ack as ack}
use Rattle.history.specs.declared.answers.Shipped.{Shipped}
use Rattle.history.specs.declared.answers.Shipped.TheVariants.{Sent}
use Rattle.history.specs.declared.answers.Delivered.{Delivered}
use Rattle.history.specs.declared.answers.Delivered.TheVariants.{Nothing, Joined, Heard}
use Rattle.history.specs.declared.kept.Kept.{Kept}
use Rattle.history.specs.Group.{Group, header, refusal, size, mark, replica, made, wide, with_replica, Shipping, answers, puts, shipping, Acceptance, declines, joins, hears, accepting}
use Rattle.history.specs.Group as calls
use Rattle.history.specs.Book.{Event, act, ship, deliver, restart, History, Mutation, Account, Book, account, value_at, worth, mutation, book, act_grew, delivery_grew}
use Rattle.history.specs.Lines.{Line, Puts, Takes, Waited, got}

-- a group and its channel
pub record State (V C : Type 0) : Type 0 where
  pub group : Group V
  pub channel : C

abbrev pub state : {V C : Type 0} → Group V → C → State V C
state g c = record { group = g; channel = c }

-- WHAT A CALL DOES, from group g and channel c to g' and d

-- a ship that puts answers by its put
abbrev pub sent : Result (Unit {0}) ℕ → (len clock : ℕ) → Result Shipped Refusal
sent (Ok x) len clock = Ok (Sent len clock)
sent (Err n) len clock = Err (refusal of_channel n)

abbrev pub Ships : {C : Type 0} → Line C → Shipping → ℕ → Result Shipped Refusal → C → C → Type 0
Ships l (answers a) j answer c d = (answer ≡ a) × (d ≡ c)
Ships l (puts bytes clock) j answer c d = (p : Result (Unit {0}) ℕ) × Puts l c j bytes p d × (answer ≡ sent p (length bytes) clock)

-- whether a put was accepted
abbrev pub acked : Result (Unit {0}) ℕ → Bool
acked (Ok x) = true
acked (Err n) = false

module _ {V C : Type 0} (o : Ops V) (l : Line C) where
  -- bytes taken are declined, or recorded and then acknowledged, or heard
  abbrev pub Accepts : ℕ → Acceptance V → Result Delivered Refusal → Group V → C → Group V → C → Type 0
  Accepts r (declines e) answer g c g' d = (answer ≡ Err e) × (g' ≡ g) × (d ≡ c)
  Accepts r (joins outcome p h) answer g c g' d =
      (a : Result (Unit {0}) ℕ) × Puts l c h.from (written o (ack (header r h.from h.number))) a d
      × (answer ≡ Ok (Joined outcome p.clock (acked a))) × (g' ≡ with_replica g r p)
  Accepts r (hears p h) answer g c g' d = (answer ≡ Ok (Heard h.from h.number)) × (g' ≡ with_replica g r p) × (d ≡ c)

  -- what a deliver does by what its take answered and got
  abbrev pub Taken : ℕ → Result (Option ℕ) ℕ → Option (List ℕ) → Result Delivered Refusal → Group V → C → Group V → C → Type 0
  Taken r (Err n) t answer g c g' d = (answer ≡ Err (refusal of_channel n)) × (g' ≡ g) × (d ≡ c)
  Taken r (Ok None) t answer g c g' d = (answer ≡ Ok Nothing) × (g' ≡ g) × (d ≡ c)
  Taken r (Ok (Some n)) None answer g c g' d = ⊥
  Taken r (Ok (Some n)) (Some bytes) answer g c g' d = Accepts r (accepting o (size g) g.limit r (replica o g r) bytes) answer g c g' d

  -- a deliver is refused at once, or takes
  abbrev pub Refused : ℕ → Option (List ℕ) → Result Delivered Refusal → Group V → C → Group V → C → Type 0
  Refused n t answer g c g' d = (answer ≡ Err (refusal of_group n)) × (t ≡ None) × (g' ≡ g) × (d ≡ c)

  abbrev pub Delivers : (too_wide in_group long : Bool) → (r room : ℕ) → Option (List ℕ) → Result Delivered Refusal → Group V → C → Group V → C → Type 0
  Delivers true in_group long r room t answer g c g' d = Refused 3 t answer g c g' d
  Delivers false false long r room t answer g c g' d = Refused 4 t answer g c g' d
  Delivers false true false r room t answer g c g' d = Refused 11 t answer g c g' d
  Delivers false true true r room t answer g c g' d =
      (m : C) × (a : Result (Option ℕ) ℕ) × Takes l c r room a m × (t ≡ got a (l.ready c r)) × Taken r a t answer g m g' d

  abbrev pub Step : Event → State V C → State V C → Type 0
  Step (act r a answer) s t = ((answer, t.group) ≡ calls.act o s.group r a) × (t.channel ≡ s.channel)
  Step (ship r j room answer) s t = Ships l (shipping o s.group r j room) j answer s.channel t.channel × (t.group ≡ s.group)
  Step (deliver r room x answer) s t =
      Delivers (wide o) (nat_lt r (size s.group)) (nat_le 10252 room) r room x answer s.group s.channel t.group t.channel
  Step (restart r answer) s t = ((answer, t.group) ≡ calls.restart o s.group r) × (t.channel ≡ s.channel)

-- THE STATES THAT A LIST OF CALLS REACHES, from a making over a channel in which nothing waits. Between calls the channel may
-- change by itself, as long as all that waits waited before.
pub data Reached {V C : Type 0} (o : Ops V) (l : Line C) : History → State V C → Type 0 where
  making : {s : State V C} (n q : ℕ) → 2 ≤ n → n ≤ 8 → 1 ≤ q → q ≤ 64 → Usable o → s.group ≡ made o n q → l.waits s.channel ≡ [] → Reached o l [] s
  call : {h : History} {s t : State V C} (e : Event) → Reached o l h s → Step o l e s t → Reached o l (e ∷ h) t
  between : {h : History} {s t : State V C} → Reached o l h s → t.group ≡ s.group → Waited l s.channel t.channel → Reached o l h t

-- THE PROMISE, of a book b and a group g

-- two accounts with the same mutations
abbrev pub SameAccount : {V : Type 0} → Account V → Account V → Type 0
SameAccount {V} a b = (m : Mutation V) → Memᴰ m a ↔ Memᴰ m b

module _ {V : Type 0} (o : Ops V) where
  -- each replica holds the join of the effects on its account
  pub record Holds (b : Book V) (g : Group V) : Type 0 where
    pub worth_held : (r : ℕ) → r < size g → (replica o g r).value ≡ worth o (account b r)
    pub equal_accounts : (r s : ℕ) → r < size g → s < size g → SameAccount (account b r) (account b s) → (replica o g r).value ≡ (replica o g s).value

  -- clocks and marks are the book's; a mark that equals the own clock says that the other holds as much
  pub record Knows (b : Book V) (g : Group V) : Type 0 where
    pub clocks : (r : ℕ) → r < size g → (replica o g r).clock ≡ (b.pages r).age
    pub marks : (r j : ℕ) → r < size g → j < size g → r ≢ j → mark (replica o g r) j ≡ (b.pages r).marks j
    pub level_with : (r j : ℕ) → r < size g → j < size g → r ≢ j → mark (replica o g r) j ≡ (replica o g r).clock
        → o.under (replica o g r).value (replica o g j).value ≡ true
    pub both_level : (r j : ℕ) → r < size g → j < size g → r ≢ j → mark (replica o g r) j ≡ (replica o g r).clock
        → mark (replica o g j) r ≡ (replica o g j).clock → (replica o g r).value ≡ (replica o g j).value

  -- the ring has the deltas numbered from `oldest` up to the clock; each takes the value at its number to the value at the next, and lies
  -- under every value that does (d is the delta at place i)
  pub record Keeps (b : Book V) (g : Group V) : Type 0 where
    pub numbered : (r : ℕ) → r < size g → (replica o g r).oldest + length (replica o g r).ring ≡ (replica o g r).clock
    pub leads_on : (r i : ℕ) (d : Kept V) → r < size g → i < length (replica o g r).ring → slice_index_or (replica o g r).ring i d ≡ d
        → o.join (value_at o b r ((replica o g r).oldest + i)) d.delta ≡ value_at o b r ((replica o g r).oldest + i + 1)
    pub least : (r i : ℕ) (d : Kept V) (x : V) → r < size g → i < length (replica o g r).ring → slice_index_or (replica o g r).ring i d ≡ d
        → o.join (value_at o b r ((replica o g r).oldest + i)) x ≡ value_at o b r ((replica o g r).oldest + i + 1) → o.under d.delta x ≡ true

  -- a replica that grew has newest in its ring what of x was new to the value at the number before
  abbrev pub NewestOf : Book V → ℕ → Bool → V → ℕ → Group V → Type 0
  NewestOf b r true x origin g =
      (front : List (Kept V)) × ((replica o g r).ring ≡ front ++ record { delta = difference o x (value_at o b r (b.pages r).age); origin = origin } ∷ [])
  NewestOf b r false x origin g = Unit {0}

  abbrev pub NewestRead : Book V → ℕ → Bool → Result (Datagram V) ℕ → Group V → Type 0
  NewestRead b r grown (Ok (delta h v)) g = NewestOf b r grown v h.from g
  NewestRead b r grown (Ok (ack h)) g = Unit {0}
  NewestRead b r grown (Err n) g = Unit {0}

  abbrev pub NewestTaken : Book V → ℕ → Bool → Option (List ℕ) → Group V → Type 0
  NewestTaken b r grown None g = Unit {0}
  NewestTaken b r grown (Some bytes) g = NewestRead b r grown (reading o bytes) g

  -- a grown act or delivery leaves its delta newest in the ring; b is the book before the call
  abbrev pub Newest : Book V → Event → Group V → Type 0
  Newest b (act r a answer) g = NewestOf b r (act_grew answer) (mutation o b r a).effect r g
  Newest b (ship r j room answer) g = Unit {0}
  Newest b (deliver r room taken answer) g = NewestTaken b r (delivery_grew answer) taken g
  Newest b (restart r answer) g = Unit {0}

  abbrev pub NewestCall : History → Group V → Type 0
  NewestCall [] g = Unit {0}
  NewestCall (e ∷ h) g = Newest (book o h) e g

  pub record Stands (h : History) (g : Group V) : Type 0 where
    pub holds : Holds (book o h) g
    pub knows : Knows (book o h) g
    pub newest : NewestCall h g
    pub keeps : Keeps (book o h) g

module _ {V C : Type 0} (o : Ops V) (l : Line C) where
  -- THE THEOREM, for one kind and one channel: after every list of calls the promise stands
  abbrev pub HistoryStands : Type 0
  HistoryStands = (h : History) (s : State V C) → Reached o l h s → Stands o h s.group

  -- What each call carries: it does its step, and whatever list of calls came before it, the state after it is reached by
  -- the list with this call, and the promise stands there.
  pub record GoesOn (e : Event) (s t : State V C) : Type 0 where
    pub steps : Step o l e s t
    pub reaches : (h : History) → Reached o l h s → Reached o l (e ∷ h) t
    pub stands : (h : History) → Reached o l h s → Stands o (e ∷ h) t.group

  -- every call that does its step goes on
  abbrev pub CarriesOn : Type 0
  CarriesOn = (e : Event) (s t : State V C) → Step o l e s t → GoesOn e s t
