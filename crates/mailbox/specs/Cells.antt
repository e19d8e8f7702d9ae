-- A buffer cut in eight cells, each with a datagram's length in two bytes, the low one first, and then the datagram. Assumes nothing.
use Rattle.std.specs.Prelude.{ℕ, ◌+◌, ◌*◌, ◌/◌, cond, List, length, take, drop, Some, None, Option, ◌==◌, nat_le, slice_index}

-- how many bytes a cell has
abbrev pub cell : List ℕ → ℕ
cell bs = length bs / 8

-- the bytes of cell i
unfoldable pub region : List ℕ → ℕ → List ℕ
region bs i = take (cell bs) (drop (i * cell bs) bs)

-- the number in a cell's first two bytes
abbrev pub told : List ℕ → ℕ
told c = slice_index c 0 + 256 * slice_index c 1

-- a cell's datagram, if it has one: as long as that number says, which is none where it is 0 or the cell is too short
unfoldable pub content : List ℕ → Option (List ℕ)
content c = cond (told c == 0) None (cond (nat_le (told c + 2) (length c)) (Some (take (told c) (drop 2 c))) None)

-- the datagram in cell i of a buffer
abbrev pub contents : List ℕ → ℕ → Option (List ℕ)
contents bs i = content (region bs i)
