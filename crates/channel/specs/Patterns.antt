-- The patterns of the layers, 32 bits each. Assumes nothing.
use Rattle.std.specs.Prelude.{ℕ, ◌+◌, ◌*◌, ◌/◌, ◌%◌, ◌^◌, Bool, ◌==◌}

-- the bit that a put reads
abbrev pub low_bit : ℕ → Bool
low_bit p = p % 2 == 1

-- the pattern rotated right by one
abbrev pub rotated : ℕ → ℕ
rotated p = p / 2 + (p % 2) * 2 ^ 31
