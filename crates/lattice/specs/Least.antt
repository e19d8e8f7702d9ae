-- What the difference is for. Assumes nothing.
use Rattle.std.specs.Prelude.{◌≡◌, true}
use Rattle.lattice.specs.Ops.{Ops, difference}

-- joined with b, d gives the join of a and b, and it lies under every value that does
pub record Least {K : Type 0} (o : Ops K) (a b d : K) : Type 0 where
  pub joins : o.join d b ≡ o.join a b
  pub lowest : (x : K) → o.join x b ≡ o.join a b → o.under d x ≡ true

-- so for the difference of any two values
abbrev pub DifferenceLeast : {K : Type 0} → Ops K → Type 0
DifferenceLeast {K} o = (a b : K) → Least o a b (difference o a b)
