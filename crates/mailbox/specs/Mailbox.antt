-- What a mailbox means. Assumes nothing.
use Rattle.std.specs.Prelude.{◌≡◌, ℕ, zero, suc, ◌+◌, ◌<◌, true, false, cond, List, [], ◌∷◌, ◌++◌, length, Some, None, Ok, Err, Option, Result, ◌==◌, nat_le}
use Rattle.channel.specs.declared.memory.Unfit.{Unfit}
use Rattle.channel.specs.Meaning.{Waiting, lendable, waiting}
use Rattle.mailbox.specs.declared.mailbox.Mailbox.{Mailbox}
use Rattle.mailbox.specs.Cells.{cell, contents}

-- the datagram in cell i
abbrev pub in_cell : Mailbox → ℕ → Option (List ℕ)
in_cell m i = contents m.buf.now i

-- what is in cell i, as it waits
abbrev pub listed : ℕ → Option (List ℕ) → List Waiting
listed i None = []
listed i (Some b) = waiting i b ∷ []

-- what waits in the first k cells
unfoldable pub cells : (ℕ → Option (List ℕ)) → ℕ → List Waiting
cells f zero = []
cells f (suc k) = listed k (f k) ++ cells f k

-- what waits in all of them
abbrev pub boxed : Mailbox → List Waiting
boxed m = cells (in_cell m) 8

-- a receiver's ready datagram is the one in its cell
abbrev pub box_ready : Mailbox → ℕ → Option (List ℕ)
box_ready m to = cond (nat_le 8 to) None (in_cell m to)

-- a datagram that the cell is too short for is refused
abbrev pub box_denies : Mailbox → ℕ → List ℕ → Option ℕ
box_denies m to b = cond (nat_le (length b + 2) (cell m.buf.now)) None (Some 12)

-- a put replaces the cell's datagram, and no other
abbrev pub Replaces : (ℕ → Option (List ℕ)) → ℕ → List ℕ → (ℕ → Option (List ℕ)) → Type 0
Replaces f to b g = (i : ℕ) → i < 8 → g i ≡ cond (i == to) (Some b) (f i)

abbrev pub BoxPuts : Mailbox → ℕ → List ℕ → Mailbox → Type 0
BoxPuts m to b r = Replaces (in_cell m) to b (in_cell r) × (length r.buf.now ≡ length m.buf.now)

-- a taking leaves it
abbrev pub BoxTakes : Mailbox → ℕ → Mailbox → Type 0
BoxTakes m to r = r ≡ m

-- what memory makes: a mailbox in it where nothing waits, or none, and then it is as it was
abbrev pub Made : List ℕ → Result Mailbox Unfit → Type 0
Made bs (Ok m) = (lendable (length bs) ≡ true) × (boxed m ≡ []) × (length m.buf.now ≡ length bs)
Made bs (Err u) = (lendable (length bs) ≡ false) × (u.memory.now ≡ bs)
