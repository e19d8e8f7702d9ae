-- The bytes of a datagram, and what bytes read as. Assumes nothing.
use Rattle.std.specs.Prelude.{◌≡◌, ℕ, zero, suc, ◌+◌, ◌*◌, ◌<◌, Bool, true, false, cond, not, ◌&&◌, ◌||◌, List, [], ◌∷◌, ◌++◌, length, drop, Ok, Err, Result, ◌==◌, nat_le, nat_lt, slice_index}
use Rattle.std.specs.List.{AllByRecursion}
use Rattle.lattice.specs.Laws.{Usable}
use Rattle.lattice.specs.Ops.{Ops, parts, joined, walked}
use Rattle.lattice.specs.declared.part.Part.{Part}
use Rattle.wire.specs.Bytes.{le, field}
use Rattle.wire.specs.declared.datagram.Datagram.{Datagram}
use Rattle.wire.specs.declared.datagram.Datagram.TheVariants.{Delta as delta, Ack as ack}
use Rattle.wire.specs.declared.datagram.Header.{Header}
use Rattle.wire.specs.declared.datagram.Sort.{Sort}
use Rattle.wire.specs.declared.datagram.Sort.TheVariants.{Delta, Ack}

-- WRITING

-- the whole length, the sort, from, to and number
unfoldable pub head : ℕ → ℕ → Header → List ℕ
head len sort h = le 2 len ++ (le 2 sort ++ (h.from ∷ h.to ∷ le 4 h.number))

unfoldable pub part_bytes : ℕ → ℕ → List ℕ
part_bytes s l = le 2 s ++ le 8 l

unfoldable pub list_bytes : List Part → List ℕ
list_bytes [] = []
list_bytes (p ∷ ps) = part_bytes p.slot p.level ++ list_bytes ps

-- a datagram of the sort given that lists parts: the header, a count, and each part
unfoldable pub listing : ℕ → Header → List Part → List ℕ
listing sort h ps = head (12 + 10 * length ps) sort h ++ (le 2 (length ps) ++ list_bytes ps)

abbrev pub delta_bytes : Header → List Part → List ℕ
delta_bytes h ps = listing 1 h ps

unfoldable pub ack_bytes : Header → List ℕ
ack_bytes h = head 10 2 h

-- READING

abbrev pub header_in : List ℕ → Header
header_in b = record { from = slice_index b 4; to = slice_index b 5; number = field b 6 4 }

-- the sort and the header, or a refusal: 13 under 10 bytes or where the length field differs from the bytes given, 14 at another sort
abbrev pub opening : List ℕ → Result (Sort × Header) ℕ
opening b =
    cond (nat_lt (length b) 10 || not (field b 0 2 == length b)) (Err 13)
    (cond (field b 2 2 == 1) (Ok (Delta, header_in b)) (cond (field b 2 2 == 2) (Ok (Ack, header_in b)) (Err 14)))

-- the next n parts that bytes list
unfoldable pub listed : ℕ → List ℕ → List Part
listed zero bs = []
listed (suc n) bs = record { slot = field bs 0 2; level = field bs 2 8 } ∷ listed n (drop 10 bs)

-- the parts that a delta lists
abbrev pub parts_in : List ℕ → List Part
parts_in b = listed (field b 10 2) (drop 12 b)

unfoldable pub same : List Part → List Part → Bool
same [] [] = true
same [] (q ∷ qs) = false
same (p ∷ ps) [] = false
same (p ∷ ps) (q ∷ qs) = p.slot == q.slot && (p.level == q.level && same ps qs)

module _ {K : Type 0} (o : Ops K) where
  -- the slots rise, from m or more, and each part is admitted
  unfoldable pub ranged : ℕ → List Part → Bool
  ranged m [] = true
  ranged m (p ∷ ps) = nat_le m p.slot && (o.admits p.slot p.level && ranged (suc p.slot) ps)

  -- the parts of the join are those listed
  abbrev pub unmixed : List Part → Bool
  unmixed ps = same (parts o (joined o ps)) ps

  -- the value of a delta, or 16: the length does not fit the count, or the parts are not in range or are mixed
  abbrev pub content : List ℕ → Result K ℕ
  content b =
      cond (length b == 12 + 10 * field b 10 2 && (ranged 0 (parts_in b) && unmixed (parts_in b))) (Ok (joined o (parts_in b))) (Err 16)

abbrev pub with_value : {K : Type 0} → Header → Result K ℕ → Result (Datagram K) ℕ
with_value h (Ok v) = Ok (delta h v)
with_value h (Err e) = Err e

module _ {K : Type 0} (o : Ops K) where
  -- the datagram, once its sort and header are read
  abbrev pub body : List ℕ → Sort → Header → Result (Datagram K) ℕ
  body b Delta h = with_value h (content o b)
  body b Ack h = cond (length b == 10) (Ok (ack h)) (Err 16)

  abbrev pub opened : List ℕ → Result (Sort × Header) ℕ → Result (Datagram K) ℕ
  opened b (Ok p) = body b p.0 p.1
  opened b (Err e) = Err e

  -- what bytes read as, or the number of the refusal
  abbrev pub reading : List ℕ → Result (Datagram K) ℕ
  reading b = walked o (opened b (opening b))

  -- the bytes of a datagram
  unfoldable pub written : Datagram K → List ℕ
  written (delta h v) = delta_bytes h (parts o v)
  written (ack h) = ack_bytes h

  -- the length of a value's delta, and what writing it into so much room answers: that, or 11 where it has no place
  abbrev pub delta_length : K → ℕ
  delta_length v = 12 + 10 * length (parts o v)

  abbrev pub writing : K → ℕ → Result ℕ ℕ
  writing v room = walked o (cond (nat_lt room (delta_length v)) (Err 11) (Ok (delta_length v)))

-- THE TWO THEOREMS

abbrev pub header_of : {K : Type 0} → Datagram K → Header
header_of (delta h v) = h
header_of (ack h) = h

-- each is a byte
abbrev pub Bytes : List ℕ → Type 0
Bytes b = AllByRecursion (λ x. x < 256) b

module _ {K : Type 0} (o : Ops K) where
  -- what is written reads back equal, for numbers of 32 bits
  abbrev pub ReadsBack : Type 0
  ReadsBack = Usable o → (d : Datagram K) → (header_of d).number < 4294967296 → reading o (written o d) ≡ Ok d

  -- each datagram that reads is the one its contents write
  abbrev pub ReadsOnce : Type 0
  ReadsOnce = (b : List ℕ) → Bytes b → (d : Datagram K) → reading o b ≡ Ok d → written o d ≡ b
