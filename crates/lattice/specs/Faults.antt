-- The numbers of a kind's refusals. Assumes nothing.
use Rattle.std.specs.Prelude.{ℕ, Result}
use Rattle.std.specs.Result.{result_map_both}
use Rattle.lattice.specs.declared.fault.KindFault.{KindFault}
use Rattle.lattice.specs.declared.fault.KindFault.TheVariants.{Wide, Actor, Place, Verb, Amount, Barred, Overflow}

abbrev pub number : KindFault → ℕ
number Wide = 3
number Actor = 4
number Place = 5
number Verb = 6
number Amount = 7
number Barred = 8
number Overflow = 9

-- an answer, a refusal by its number
abbrev pub numbered : {A : Type 0} → Result A KindFault → Result A ℕ
numbered r = result_map_both (λ x. x) number r

-- the same of a call that shows something and tells nothing else
abbrev pub granted : {A : Type 0} → Result A KindFault → Result (Unit {0}) ℕ
granted r = result_map_both (λ _. tt) number r
