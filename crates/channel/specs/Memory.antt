-- The memory that is lent to a channel. Assumes nothing.
use Rattle.std.specs.Prelude.{◌≡◌, true, false, ℕ, List, length, Ok, Err, Result}
use Rattle.std.specs.Borrow.{MutBor}
use Rattle.channel.specs.declared.memory.Unfit.{Unfit}
use Rattle.channel.specs.Meaning.{lendable}

-- memory that fits is passed on, and other memory is given back, each as it was
abbrev pub Fitted : List ℕ → Result (MutBor (List ℕ)) Unfit → Type 0
Fitted bs (Ok m) = (lendable (length bs) ≡ true) × (m.now ≡ bs)
Fitted bs (Err u) = (lendable (length bs) ≡ false) × (u.memory.now ≡ bs)
