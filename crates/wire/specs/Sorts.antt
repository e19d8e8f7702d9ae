-- The numbers of the sorts. Assumes nothing.
use Rattle.std.specs.Prelude.{◌≡◌, ℕ, cond, Ok, Err, Result, ◌==◌}
use Rattle.wire.specs.declared.datagram.Sort.{Sort}
use Rattle.wire.specs.declared.datagram.Sort.TheVariants.{Delta, Ack}
use Rattle.wire.specs.declared.fault.WireFault.{WireFault}
use Rattle.wire.specs.Faults.{numbered}

abbrev pub code : Sort → ℕ
code Delta = 1
code Ack = 2

-- the sort of a number, or 14
abbrev pub sort_of : ℕ → Result Sort ℕ
sort_of n = cond (n == 1) (Ok Delta) (cond (n == 2) (Ok Ack) (Err 14))

abbrev pub Decodes : ℕ → Result Sort WireFault → Type 0
Decodes n r = numbered r ≡ sort_of n
