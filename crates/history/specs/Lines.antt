-- A channel as a group uses it. Assumes nothing.
use Rattle.std.specs.Prelude.{◌≡◌, ℕ, List, Some, None, Ok, Err, Option, Result}
use mathlib.Core.List.{Memᴰ}
use Rattle.channel.specs.Meaning.{Waiting, Laws, PutLeaves, TakeLeaves, put_answer, take_answer}

-- the parts of a channel's meaning, gathered
pub record Line (C : Type 0) : Type 1 where
  pub waits : C → List Waiting
  pub ready : C → ℕ → Option (List ℕ)
  pub denies : C → ℕ → List ℕ → Option ℕ
  pub puts : C → ℕ → List ℕ → C → Type 0
  pub takes : C → ℕ → C → Type 0

module _ {C : Type 0} where
  abbrev pub line : (C → List Waiting) → (C → ℕ → Option (List ℕ)) → (C → ℕ → List ℕ → Option ℕ) → (C → ℕ → List ℕ → C → Type 0) → (C → ℕ → C → Type 0) → Line C
  line waits ready denies puts takes = record { waits = waits; ready = ready; denies = denies; puts = puts; takes = takes }

  -- it keeps a channel's laws
  abbrev pub Lawful : Line C → Type 0
  Lawful l = Laws l.waits l.ready l.puts l.takes

  -- putting bytes into c answers a and leaves d
  abbrev pub Puts : Line C → C → ℕ → List ℕ → Result (Unit {0}) ℕ → C → Type 0
  Puts l c to b a d = (a ≡ put_answer to b (l.denies c to b)) × PutLeaves l.puts c to b d a

  -- taking from c into so much room answers a and leaves d
  abbrev pub Takes : Line C → C → (to room : ℕ) → Result (Option ℕ) ℕ → C → Type 0
  Takes l c to room a d = (a ≡ take_answer to room (l.ready c to)) × TakeLeaves l.takes c to d a

  -- all that waits in d waited in c
  abbrev pub Waited : Line C → C → C → Type 0
  Waited l c d = (x : Waiting) → Memᴰ x (l.waits d) → Memᴰ x (l.waits c)

-- what a take got, by its answer and what was ready
abbrev pub got : Result (Option ℕ) ℕ → Option (List ℕ) → Option (List ℕ)
got (Ok None) ready = None
got (Ok (Some n)) ready = ready
got (Err e) ready = None
