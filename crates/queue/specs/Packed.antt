-- Datagrams packed one after the other: each is a record of its receiver, its length in two bytes, the low one first, a 0, and its bytes.
-- Assumes nothing.
use Rattle.std.specs.Prelude.{◌≡◌, ℕ, zero, suc, ◌+◌, ◌*◌, ◌/◌, ◌%◌, ◌≤◌, Bool, true, cond, ◌&&◌, List, [], ◌∷◌, ◌++◌, length, take, drop, Some, None, Option, ◌==◌, nat_le, nat_lt, slice_index}
use Rattle.channel.specs.Meaning.{Waiting, waiting, sized}

-- the record of a datagram
unfoldable pub encode : Waiting → List ℕ
encode w = w.to ∷ (length w.bytes % 256) ∷ (length w.bytes / 256) ∷ 0 ∷ w.bytes

-- the records of some datagrams, one after the other
unfoldable pub encodes : List Waiting → List ℕ
encodes [] = []
encodes (w ∷ ws) = encode w ++ encodes ws

-- the length that the two bytes behind the first say
abbrev pub told : List ℕ → ℕ
told bs = slice_index bs 1 + 256 * slice_index bs 2

-- a record's head stands at the front of some bytes, and the bytes hold the record
abbrev pub stands : List ℕ → Bool
stands bs = nat_lt (slice_index bs 0) 8 && (nat_lt (slice_index bs 1) 256 && (slice_index bs 3 == 0 && (sized (told bs) && nat_le (4 + told bs) (length bs))))

-- the length of the datagram whose record is at the front, if one stands there
unfoldable pub lead : List ℕ → Option ℕ
lead bs = cond (stands bs) (Some (told bs)) None

-- the datagrams of the records at the front of some bytes, at most so many
unfoldable pub records : ℕ → List ℕ → List Waiting
records zero bs = []
records (suc n) bs = elim (lead bs) [ None ↦ [] | Some k ↦ waiting (slice_index bs 0) (take k (drop 4 bs)) ∷ records n (drop (4 + k) bs) ]

-- the datagrams that some bytes hold: their records up to the first place where none stands
unfoldable pub decode : List ℕ → List Waiting
decode bs = records (length bs) bs

-- the first datagram that waits for a receiver
unfoldable pub first_for : ℕ → List Waiting → Option (List ℕ)
first_for to [] = None
first_for to (w ∷ ws) = cond (w.to == to) (Some w.bytes) (first_for to ws)

-- all but that one
unfoldable pub without : ℕ → List Waiting → List Waiting
without to [] = []
without to (w ∷ ws) = cond (w.to == to) ws (w ∷ without to ws)

-- the bytes that the records of some datagrams take
unfoldable pub cost : List Waiting → ℕ
cost [] = 0
cost (w ∷ ws) = 4 + length w.bytes + cost ws

-- a datagram that may wait: for one of eight receivers, and of 1 to 10,252 bytes
abbrev pub fine : Waiting → Bool
fine w = nat_lt w.to 8 && sized (length w.bytes)

-- each of some may
unfoldable pub all_fine : List Waiting → Bool
all_fine [] = true
all_fine (w ∷ ws) = fine w && all_fine ws

-- where the walk for a receiver stands: at a byte place, past records for others
pub record Walk (bs : List ℕ) (to at : ℕ) : Type 0 where
  pub past : List Waiting
  pub suffix : List ℕ
  pub split : bs ≡ encodes past ++ suffix
  pub place : at ≡ length (encodes past)
  pub good : all_fine past ≡ true
  pub others : first_for to past ≡ None

-- the walk for a receiver came to a place where no record stands
pub record Ended (bs : List ℕ) (to : ℕ) : Type 0 where
  pub at : ℕ
  pub walk : Walk bs to at
  pub over : lead walk.suffix ≡ None

-- it came to a record for the receiver, with a datagram of so many bytes
pub record Reached (bs : List ℕ) (to at len : ℕ) : Type 0 where
  pub walk : Walk bs to at
  pub body : List ℕ
  pub more : List ℕ
  pub is : walk.suffix ≡ encode (waiting to body) ++ more
  pub good : fine (waiting to body) ≡ true
  pub long : len ≡ length body

-- what the search for a receiver's first record answers: its place and length, or none
abbrev pub Found : List ℕ → ℕ → Option (ℕ × ℕ) → Type 0
Found bs to None = Ended bs to
Found bs to (Some r) = Reached bs to r.0 r.1

-- the first record for a receiver, by what it means: its datagram is the first that waits for the receiver, and once its bytes are cut out all others wait as before
pub record First (bs : List ℕ) (to at : ℕ) (b : List ℕ) : Type 0 where
  pub ready : first_for to (decode bs) ≡ Some b
  pub room : at + (4 + length b) ≤ length bs
  pub leaves : decode (take at bs ++ drop (at + (4 + length b)) bs) ≡ without to (decode bs)
