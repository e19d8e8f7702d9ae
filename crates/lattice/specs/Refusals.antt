-- A refusal by the layer that gives it and its number. Assumes nothing.
use Rattle.std.specs.Prelude.{ℕ, Result}
use Rattle.std.specs.Result.{result_map_both}
use Rattle.lattice.specs.declared.refusal.Layer.{Layer}
use Rattle.lattice.specs.declared.refusal.Refusal.{Refusal}

-- an answer of a layer, its refusals with the layer's name
abbrev pub by : {A : Type 0} → Layer → Result A ℕ → Result A Refusal
by l r = result_map_both (λ x. x) (λ n. record { layer = l; number = n }) r
