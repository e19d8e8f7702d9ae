-- The numbers of the wire's refusals. Assumes nothing.
use Rattle.std.specs.Prelude.{ℕ, Result}
use Rattle.std.specs.Result.{result_map_both}
use Rattle.wire.specs.declared.fault.WireFault.{WireFault}
use Rattle.wire.specs.declared.fault.WireFault.TheVariants.{Wide, Room, Length, Sort, Body}

abbrev pub number : WireFault → ℕ
number Wide = 3
number Room = 11
number Length = 13
number Sort = 14
number Body = 16

-- an answer, a refusal by its number
abbrev pub numbered : {A : Type 0} → Result A WireFault → Result A ℕ
numbered r = result_map_both (λ x. x) number r

-- the same of a call that shows something and tells nothing else
abbrev pub granted : {A : Type 0} → Result A WireFault → Result (Unit {0}) ℕ
granted r = result_map_both (λ _. tt) number r
