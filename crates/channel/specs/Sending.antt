-- Sending: the bytes are checked against the sealed datagram, and then put. Assumes nothing.
use Rattle.std.specs.Prelude.{ℕ, Ok, Err, Result}
use Rattle.lattice.specs.Refusals.{by}
use Rattle.lattice.specs.declared.refusal.Layer.TheVariants.{Wire, Channel}
use Rattle.lattice.specs.declared.refusal.Refusal.{Refusal}
use Rattle.wire.specs.Faults.{number as wire_number}
use Rattle.channel.specs.Faults.{number}
use Rattle.channel.specs.declared.send.SendFault.{SendFault}
use Rattle.channel.specs.declared.send.SendFault.TheVariants.{Wire as from_wire, Channel as from_channel}

-- the layer and the number of each refusal
abbrev pub refusal : SendFault → Refusal
refusal (from_wire e) = record { layer = Wire; number = wire_number e }
refusal (from_channel e) = record { layer = Channel; number = number e }

abbrev pub told : {A : Type 0} → Result A SendFault → Result A Refusal
told (Ok x) = Ok x
told (Err e) = Err (refusal e)

-- what sending answers, by the check and by the put that follows it
abbrev pub sending : Result (Unit {0}) ℕ → Result (Unit {0}) ℕ → Result (Unit {0}) Refusal
sending (Err n) put = by Wire (Err n)
sending (Ok x) put = by Channel put
