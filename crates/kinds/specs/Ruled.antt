-- The values of a kind under acts of their own. Assumes nothing.
use Rattle.std.specs.Prelude.{ℕ, Result, refl}
use Rattle.lattice.specs.Laws.{Laws, Lattice}
use Rattle.lattice.specs.Ops.{Ops}
use Rattle.lattice.specs.Wrapped.{wrapped_ops}
use Rattle.lattice.specs.declared.part.Act.{Act}
use Rattle.lattice.proofs.Wraps.{wrapped_lattice, wrapped_laws}
use Rattle.kinds.specs.declared.ruled.Ruled.{Ruled}

-- a value under a rule
abbrev pub ruled : {K R : Type 0} → K → Ruled K R
ruled x = record { held = x; rule = record {} }

module _ {K R : Type 0} (k : Ops K) (effect : Ruled K R → ℕ → Act → Result (Ruled K R) ℕ) where
  -- the slots, the order and the join are those of the value held
  abbrev pub ruled_ops : Ops (Ruled K R)
  ruled_ops = wrapped_ops k (λ x. x.held) ruled effect

  pub ruled_lattice : Lattice k → Lattice ruled_ops
  ruled_lattice = wrapped_lattice k (λ x. x.held) ruled effect (λ _. refl) (λ _. refl)

  pub ruled_laws : Laws k → Laws ruled_ops
  ruled_laws = wrapped_laws k (λ x. x.held) ruled effect (λ _. refl) (λ _. refl)
