-- The book of a group's calls: what each replica should know, from the calls' arguments, their answers and the datagrams taken alone.
-- It looks at no replica and at no channel. Assumes nothing.
use Rattle.std.specs.Prelude.{ℕ, ◌+◌, max, Bool, true, false, cond, List, [], ◌∷◌, ◌++◌, map, Some, None, Ok, Err, Option, Result, ◌==◌}
use Rattle.lattice.specs.Ops.{Ops}
use Rattle.lattice.specs.declared.part.Act.{Act}
use Rattle.lattice.specs.declared.refusal.Refusal.{Refusal}
use Rattle.wire.specs.Datagrams.{reading}
use Rattle.wire.specs.declared.datagram.Datagram.{Datagram}
use Rattle.wire.specs.declared.datagram.Datagram.TheVariants.{Delta as delta, Ack as ack}
use Rattle.history.specs.declared.answers.Outcome.{Outcome}
use Rattle.history.specs.declared.answers.Outcome.TheVariants.{Grown, Same}
use Rattle.history.specs.declared.answers.Shipped.{Shipped}
use Rattle.history.specs.declared.answers.Delivered.{Delivered}
use Rattle.history.specs.declared.answers.Delivered.TheVariants.{Nothing, Joined, Heard}
use Rattle.history.specs.Group.{join_all}

-- a call: its arguments, its answer and, for a deliver, the bytes that it took
pub data Event : Type 0 where
  act : (r : ℕ) → Act → Result (Outcome × ℕ) Refusal → Event
  ship : (r j room : ℕ) → Result Shipped Refusal → Event
  deliver : (r room : ℕ) → Option (List ℕ) → Result Delivered Refusal → Event
  restart : (r : ℕ) → Result ℕ Refusal → Event

-- the calls so far, the newest first
abbrev pub History : Type 0
History = List Event

-- an act that was answered grown: the how manieth it was, and its effect
pub record Mutation (V : Type 0) : Type 0 where
  pub number : ℕ
  pub effect : V

-- a set of mutations, as a list
abbrev pub Account : Type 0 → Type 0
Account V = List (Mutation V)

-- what the book has of a replica: its age, its account at each age (none, if the age is not reached), and its mark for each other
pub record Page (V : Type 0) : Type 0 where
  pub age : ℕ
  pub at : ℕ → Account V
  pub marks : ℕ → ℕ

-- the number of mutations so far, and a page for each replica
pub record Book (V : Type 0) : Type 0 where
  pub count : ℕ
  pub pages : ℕ → Page V

abbrev pub account : {V : Type 0} → Book V → ℕ → Account V
account b r = (b.pages r).at (b.pages r).age

-- f but for x at i
abbrev pub but : {X : Type 0} → (ℕ → X) → ℕ → X → ℕ → X
but f i x j = cond (j == i) x (f j)

abbrev pub no_page : {V : Type 0} → Page V
no_page = record { age = 0; at = λ k. []; marks = λ j. 0 }

unfoldable pub empty_book : {V : Type 0} → Book V
empty_book = record { count = 0; pages = λ r. no_page }

-- a page one age older, with more on its account
unfoldable pub older : {V : Type 0} → Page V → Account V → Page V
older p more = record { age = p.age + 1; at = but p.at (p.age + 1) (p.at p.age ++ more); marks = p.marks }

-- a page with one mark raised, never down
unfoldable pub marked : {V : Type 0} → Page V → (j k : ℕ) → Page V
marked p j k = record { age = p.age; at = p.at; marks = but p.marks j (max (p.marks j) k) }

-- a page with all its marks at 0
unfoldable pub unmarked : {V : Type 0} → Page V → Page V
unmarked p = record { age = p.age; at = p.at; marks = λ j. 0 }

unfoldable pub with_page : {V : Type 0} → Book V → ℕ → Page V → Book V
with_page b r p = record { count = b.count; pages = but b.pages r p }

unfoldable pub with_mutation : {V : Type 0} → Book V → ℕ → Mutation V → Book V
with_mutation b r m = record { count = b.count + 1; pages = but b.pages r (older (b.pages r) (m ∷ [])) }

-- WHAT AN ANSWER SAYS

abbrev pub is_grown : Outcome → Bool
is_grown Grown = true
is_grown Same = false

abbrev pub act_grew : Result (Outcome × ℕ) Refusal → Bool
act_grew (Ok a) = is_grown a.0
act_grew (Err e) = false

abbrev pub delivery_grew : Result Delivered Refusal → Bool
delivery_grew (Ok Nothing) = false
delivery_grew (Ok (Joined outcome clock acked)) = is_grown outcome
delivery_grew (Ok (Heard from number)) = false
delivery_grew (Err e) = false

abbrev pub succeeded : {A : Type 0} → Result A Refusal → Bool
succeeded (Ok x) = true
succeeded (Err e) = false

module _ {V : Type 0} (o : Ops V) where
  -- the join of the effects on an account
  unfoldable pub worth : Account V → V
  worth a = join_all o (map (λ m. m.effect) a)

  -- a replica's value at a number, by the book
  abbrev pub value_at : Book V → ℕ → ℕ → V
  value_at b r k = worth ((b.pages r).at k)

  -- an effect, and bottom where it is refused
  abbrev pub or_bottom : Result V ℕ → V
  or_bottom (Ok e) = e
  or_bottom (Err n) = o.bottom

  -- the mutation that an act is, by the actor's account
  unfoldable pub mutation : Book V → ℕ → Act → Mutation V
  mutation b r a = record { number = b.count; effect = or_bottom (o.effect (worth (account b r)) r a) }

  -- a grown delta adds the sender's account at the age that its number gives; an acknowledgement raises a mark
  abbrev pub entered_datagram : Book V → ℕ → Result Delivered Refusal → Result (Datagram V) ℕ → Book V
  entered_datagram b r answer (Ok (delta h v)) = cond (delivery_grew answer) (with_page b r (older (b.pages r) ((b.pages h.from).at h.number))) b
  entered_datagram b r answer (Ok (ack h)) = cond (succeeded answer) (with_page b r (marked (b.pages r) h.from h.number)) b
  entered_datagram b r answer (Err n) = b

  abbrev pub entered_taken : Book V → ℕ → Result Delivered Refusal → Option (List ℕ) → Book V
  entered_taken b r answer None = b
  entered_taken b r answer (Some bytes) = entered_datagram b r answer (reading o bytes)

  -- the book with one call more
  unfoldable pub entered : Book V → Event → Book V
  entered b (act r a answer) = cond (act_grew answer) (with_mutation b r (mutation b r a)) b
  entered b (ship r j room answer) = b
  entered b (deliver r room taken answer) = entered_taken b r answer taken
  entered b (restart r answer) = cond (succeeded answer) (with_page b r (unmarked (b.pages r))) b

  -- THE BOOK of a list of calls
  abbrev pub book : History → Book V
  book [] = empty_book
  book (e ∷ h) = entered (book h) e
