-- Drafts: which parts may be added, and what the buffer then holds. Assumes nothing.
use Rattle.std.specs.Prelude.{◌≡◌, ℕ, ◌+◌, ◌*◌, ◌<◌, ◌≤◌, Bool, true, false, cond, not, ◌&&◌, List, [], ◌∷◌, ◌++◌, length, take, Some, None, Ok, Err, Option, Result, ◌==◌, nat_lt}
use Rattle.std.specs.List.{list_all}
use Rattle.lattice.specs.Laws.{Usable}
use Rattle.lattice.specs.Ops.{Ops, parts, walked}
use Rattle.lattice.specs.declared.part.Part.{Part}
use Rattle.wire.specs.Bytes.{placed}
use Rattle.wire.specs.Datagrams.{header_of, reading, parts_in, delta_bytes}
use Rattle.wire.specs.declared.datagram.Datagram.{Datagram}
use Rattle.wire.specs.declared.datagram.Datagram.TheVariants.{Delta as delta, Ack as ack}
use Rattle.wire.specs.declared.datagram.Header.{Header}
use Rattle.wire.specs.declared.datagram.Sort.{Sort}
use Rattle.wire.specs.declared.datagram.Sort.TheVariants.{Delta, Ack}
use Rattle.wire.specs.declared.draft.Draft.{Draft}
use Rattle.wire.specs.declared.draft.Sealed.{Sealed}

abbrev pub same_header : Header → Header → Bool
same_header g h = g.from == h.from && (g.to == h.to && g.number == h.number)

module _ {K : Type 0} (o : Ops K) where
  -- the part is at a lower slot, and neither under nor above the part at s of level l
  abbrev pub before : ℕ → ℕ → Part → Bool
  before s l p = (nat_lt p.slot s && not (o.under (o.part p.slot p.level) (o.part s l))) && not (o.under (o.part s l) (o.part p.slot p.level))

  -- whether a part may come after those given
  unfoldable pub follows_on : List Part → ℕ → ℕ → Bool
  follows_on ps s l = o.admits s l && list_all (before s l) ps

  abbrev pub of_datagram : Header → Datagram K → Option K
  of_datagram h (delta g v) = cond (same_header g h) (Some v) None
  of_datagram h (ack g) = None

  abbrev pub of_delta : Header → Result (Datagram K) ℕ → Option K
  of_delta h (Ok d) = of_datagram h d
  of_delta h (Err e) = None

  -- the value of the parts so far, if the buffer opens with a delta of the draft's header and count
  abbrev pub so_far : Draft → List ℕ → Option K
  so_far d b = of_delta d.header (reading o (take (12 + 10 * d.count) b))

  abbrev pub takes : Option K → ℕ → ℕ → Bool
  takes None s l = false
  takes (Some v) s l = follows_on (parts o v) s l

  -- what adding a part answers
  abbrev pub adding : Draft → List ℕ → ℕ → ℕ → Result (Unit {0}) ℕ
  adding d b s l =
      walked o (cond (nat_lt (length b) (22 + 10 * d.count)) (Err 11) (cond (takes (so_far d b) s l) (Ok tt) (Err 16)))

-- a draft with one part more, and the bytes of its datagram
abbrev pub longer : Draft → Draft
longer d = record { header = d.header; count = d.count + 1 }

abbrev pub longer_bytes : Draft → List ℕ → ℕ → ℕ → List ℕ
longer_bytes d b s l = delta_bytes d.header (parts_in (take (12 + 10 * d.count) b) ++ record { slot = s; level = l } ∷ [])

-- the bytes of a sealed datagram
abbrev pub length_by : Sort → ℕ → ℕ
length_by Delta n = 12 + 10 * n
length_by Ack n = 10

abbrev pub sealed_length : Sealed → ℕ
sealed_length d = length_by d.sort d.count

-- what sending makes of the bytes: as reading, and 16 at a header or a count other than the sealed datagram's
module _ {K : Type 0} (o : Ops K) (d : Sealed) (b : List ℕ) where
  abbrev pub checked : Result (Datagram K) ℕ → Result (Unit {0}) ℕ
  checked (Err e) = Err e
  checked (Ok g) = cond (same_header (header_of g) d.header && length b == sealed_length d) (Ok tt) (Err 16)

  abbrev pub checking : Result (Unit {0}) ℕ
  checking = checked (reading o b)

-- THE DRAFT'S THEOREM

module _ {K : Type 0} (o : Ops K) where
  -- a draft begun has its buffer open with it, without parts
  abbrev pub DraftsBegin : Type 0
  DraftsBegin = Usable o → (h : Header) (b : List ℕ) → h.number < 4294967296
      → so_far o (record { header = h; count = 0 }) (placed (delta_bytes h []) b) ≡ Some o.bottom

  -- and after a part is added, with that part joined to those so far
  abbrev pub DraftsGrow : Type 0
  DraftsGrow = Usable o → (d : Draft) (b : List ℕ) (s l : ℕ) (v : K) → d.header.number < 4294967296 → 22 + 10 * d.count ≤ length b
      → so_far o d b ≡ Some v → follows_on o (parts o v) s l ≡ true
      → so_far o (longer d) (placed (longer_bytes d b s l) b) ≡ Some (o.join v (o.part s l))
