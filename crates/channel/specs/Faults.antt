-- The numbers of a channel's refusals. Assumes nothing.
use Rattle.std.specs.Prelude.{ℕ, Result}
use Rattle.std.specs.Result.{result_map_both}
use Rattle.channel.specs.declared.fault.ChannelFault.{ChannelFault}
use Rattle.channel.specs.declared.fault.ChannelFault.TheVariants.{Receiver, Room, Space, Size}

abbrev pub number : ChannelFault → ℕ
number Receiver = 4
number Room = 11
number Space = 12
number Size = 18

-- an answer, a refusal by its number
abbrev pub numbered : {A : Type 0} → Result A ChannelFault → Result A ℕ
numbered r = result_map_both (λ x. x) number r
