-- What may wait after datagrams were carried from one channel to another. Assumes nothing.
use Rattle.std.specs.Prelude.{◌⊎◌, List}
use mathlib.Core.List.{Memᴰ}
use Rattle.channel.specs.Meaning.{Waiting}

-- all that waits after waited before
abbrev pub NoneNew : List Waiting → List Waiting → Type 0
NoneNew before after = (d : Waiting) → Memᴰ d after → Memᴰ d before

-- all that waits after waited before, here or there
abbrev pub NoneMadeUp : List Waiting → List Waiting → List Waiting → Type 0
NoneMadeUp here there after = (d : Waiting) → Memᴰ d after → Memᴰ d here ⊎ Memᴰ d there
