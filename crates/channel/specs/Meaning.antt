-- What a channel means: the datagrams that wait, each receiver's ready one, and what the two calls answer and leave.
-- Assumes nothing.
use Rattle.std.specs.Prelude.{◌≡◌, ℕ, Bool, false, cond, ◌⊎◌, List, ◌++◌, length, drop, Some, None, Ok, Err, Option, Result, nat_le}
use mathlib.Core.List.{Memᴰ}

-- a datagram that waits for a receiver
pub record Waiting : Type 0 where
  pub to : ℕ
  pub bytes : List ℕ

abbrev pub waiting : ℕ → List ℕ → Waiting
waiting to b = record { to = to; bytes = b }

-- THE LAWS that every channel keeps, whatever it is made of
pub record Laws {S : Type 0} (waits : S → List Waiting) (ready : S → ℕ → Option (List ℕ)) (puts : S → ℕ → List ℕ → S → Type 0) (takes : S → ℕ → S → Type 0) : Type 0 where
  -- after an accepted put, each waiting datagram waited before or is the one put
  pub put_waits : (s t : S) (to : ℕ) (b : List ℕ) → puts s to b t → (d : Waiting) → Memᴰ d (waits t) → Memᴰ d (waits s) ⊎ (d ≡ waiting to b)
  -- the ready datagram waits for that receiver
  pub ready_waits : (s : S) (to : ℕ) (b : List ℕ) → ready s to ≡ Some b → Memᴰ (waiting to b) (waits s)
  -- after a taking, all that waits waited before
  pub take_waits : (s t : S) (to : ℕ) → takes s to t → (d : Waiting) → Memᴰ d (waits t) → Memᴰ d (waits s)

-- what comes first in every call: the receiver is one of eight
abbrev pub addressed : ℕ → Result (Unit {0}) ℕ
addressed to = cond (nat_le 8 to) (Err 4) (Ok tt)

-- PUTTING

-- a datagram has 1 to 10,252 bytes
abbrev pub sized : ℕ → Bool
sized n = cond (nat_le 1 n) (nat_le n 10252) false

-- what comes first in every channel: the receiver, then the length
abbrev pub admits : ℕ → ℕ → Result (Unit {0}) ℕ
admits to n = cond (nat_le 8 to) (Err 4) (cond (sized n) (Ok tt) (Err 12))

abbrev pub denied : Option ℕ → Result (Unit {0}) ℕ
denied None = Ok tt
denied (Some n) = Err n

abbrev pub then_own : Result (Unit {0}) ℕ → Option ℕ → Result (Unit {0}) ℕ
then_own (Ok x) own = denied own
then_own (Err n) own = Err n

-- what a put answers, by what the channel itself has against it
abbrev pub put_answer : ℕ → List ℕ → Option ℕ → Result (Unit {0}) ℕ
put_answer to b own = then_own (admits to (length b)) own

-- what a put leaves: a refused one, the channel as it was
abbrev pub PutLeaves : {S E : Type 0} → (S → ℕ → List ℕ → S → Type 0) → S → ℕ → List ℕ → S → Result (Unit {0}) E → Type 0
PutLeaves puts s to b t (Ok x) = puts s to b t
PutLeaves puts s to b t (Err e) = t ≡ s

-- TAKING

abbrev pub fetched : ℕ → Option (List ℕ) → Result (Option ℕ) ℕ
fetched room None = Ok None
fetched room (Some b) = cond (nat_le (length b) room) (Ok (Some (length b))) (Err 11)

-- what a take answers, by its receiver's ready datagram and the length of its buffer
abbrev pub take_answer : ℕ → ℕ → Option (List ℕ) → Result (Option ℕ) ℕ
take_answer to room r = cond (nat_le 8 to) (Err 4) (fetched room r)

-- what a take leaves: the channel as it was, where nothing was taken
abbrev pub TakeLeaves : {S E : Type 0} → (S → ℕ → S → Type 0) → S → ℕ → S → Result (Option ℕ) E → Type 0
TakeLeaves takes s to t (Ok None) = t ≡ s
TakeLeaves takes s to t (Ok (Some n)) = takes s to t
TakeLeaves takes s to t (Err e) = t ≡ s

-- a datagram at the front of a buffer, which beyond it is as it was
abbrev pub in_front : Option (List ℕ) → List ℕ → List ℕ
in_front None out = out
in_front (Some b) out = b ++ drop (length b) out

-- what the buffer holds after a take: the ready datagram at its front, if it was taken
abbrev pub copied : {E : Type 0} → Result (Option ℕ) E → Option (List ℕ) → List ℕ → List ℕ
copied (Ok None) r out = out
copied (Ok (Some n)) r out = in_front r out
copied (Err e) r out = out

-- handing a ready datagram over, the last step of a take: its answer, and what the buffer holds then
abbrev pub handed : ℕ → List ℕ → Result ℕ ℕ
handed room b = cond (nat_le (length b) room) (Ok (length b)) (Err 11)

abbrev pub copied_over : {A E : Type 0} → Result A E → List ℕ → List ℕ → List ℕ
copied_over (Ok n) b out = in_front (Some b) out
copied_over (Err e) b out = out

-- MAKING

-- the sizes of memory that a queue or a mailbox is made in
abbrev pub lendable : ℕ → Bool
lendable n = cond (nat_le 128 n) (nat_le n 65536) false
