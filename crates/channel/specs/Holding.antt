-- The holding layer: an accepted put reads a bit and turns the pattern; bit 1 keeps the datagram back if none is held.
-- Assumes nothing but the laws below.
use Rattle.std.specs.Prelude.{◌≡◌, ℕ, min, Bool, true, false, cond, List, [], ◌∷◌, ◌++◌, take, Some, None, Ok, Err, Option, Result, ◌==◌}
use Rattle.channel.specs.declared.holding.Holding.{Holding}
use Rattle.channel.specs.declared.holding.Tag.{Tag}
use Rattle.channel.specs.Meaning.{Waiting, put_answer, waiting}
use Rattle.channel.specs.Patterns.{low_bit, rotated}

-- the datagram that is held
abbrev pub kept : Option Tag → List ℕ → Option Waiting
kept None bs = None
kept (Some t) bs = Some (waiting t.receiver (take (min t.len 10252) bs))

abbrev pub listed : Option Waiting → List Waiting
listed None = []
listed (Some d) = d ∷ []

-- it is ready for its receiver, unless another is
abbrev pub held_for : ℕ → Option Waiting → Option (List ℕ)
held_for to None = None
held_for to (Some d) = cond (d.to == to) (Some d.bytes) None

abbrev pub or_else : Option (List ℕ) → Option (List ℕ) → Option (List ℕ)
or_else None o = o
or_else (Some b) o = Some b

-- whether a put is kept back
abbrev pub keeps : Option Waiting → ℕ → Bool
keeps None p = low_bit p
keeps (Some d) p = false

module _ {C : Type 0} where
  abbrev pub held : Holding C → Option Waiting
  held s = kept s.held s.bytes

  abbrev pub holding_waits : (C → List Waiting) → Holding C → List Waiting
  holding_waits waits s = listed (held s) ++ waits s.below

  abbrev pub holding_ready : (C → ℕ → Option (List ℕ)) → Holding C → ℕ → Option (List ℕ)
  holding_ready ready s to = or_else (ready s.below to) (held_for to (held s))

  -- a datagram that is kept back is not refused
  abbrev pub holding_denies : (C → ℕ → List ℕ → Option ℕ) → Holding C → ℕ → List ℕ → Option ℕ
  holding_denies denies s to b = cond (keeps (held s) s.pattern) None (denies s.below to b)

-- WHAT IS HELD AND WHAT IS BELOW, from before (h, s) to after (k, c)
module _ {C : Type 0} (denies : C → ℕ → List ℕ → Option ℕ) (puts : C → ℕ → List ℕ → C → Type 0) where
  -- the held datagram goes below, and stays held if it is refused there
  abbrev pub ReleasedBy : Result (Unit {0}) ℕ → Waiting → C → Option Waiting → C → Type 0
  ReleasedBy (Ok x) d s k c = (k ≡ None) × puts s d.to d.bytes c
  ReleasedBy (Err n) d s k c = (k ≡ Some d) × (c ≡ s)

  abbrev pub Releases : Option Waiting → C → Option Waiting → C → Type 0
  Releases None s k c = (k ≡ None) × (c ≡ s)
  Releases (Some d) s k c = ReleasedBy (put_answer d.to d.bytes (denies s d.to d.bytes)) d s k c

  -- a put is kept back, or it passes below and then the held datagram
  abbrev pub KeepsOrPasses : Bool → Option Waiting → C → ℕ → List ℕ → Option Waiting → C → Type 0
  KeepsOrPasses true h s to b k c = (k ≡ Some (waiting to b)) × (c ≡ s)
  KeepsOrPasses false h s to b k c = (m : C) × puts s to b m × Releases h m k c

  abbrev pub HoldingPuts : Holding C → ℕ → List ℕ → Holding C → Type 0
  HoldingPuts s to b t = (t.pattern ≡ rotated s.pattern) × KeepsOrPasses (keeps (held s) s.pattern) (held s) s.below to b (held t) t.below

module _ {C : Type 0} (ready : C → ℕ → Option (List ℕ)) (takes : C → ℕ → C → Type 0) where
  -- what is ready below is taken there; else the held datagram is, and none is held
  abbrev pub TakenFrom : Option (List ℕ) → Option Waiting → C → ℕ → Option Waiting → C → Type 0
  TakenFrom None h s to k c = (k ≡ None) × (c ≡ s)
  TakenFrom (Some b) h s to k c = (k ≡ h) × takes s to c

  abbrev pub HoldingTakes : Holding C → ℕ → Holding C → Type 0
  HoldingTakes s to t = (t.pattern ≡ s.pattern) × TakenFrom (ready s.below to) (held s) s.below to (held t) t.below
