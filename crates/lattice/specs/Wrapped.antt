-- A kind whose values are those of another kind under a type of their own, with an effect of its own. Assumes nothing.
use Rattle.std.specs.Prelude.{ℕ, Result}
use Rattle.lattice.specs.declared.part.Act.{Act}
use Rattle.lattice.specs.Ops.{Ops}

module _ {K W : Type 0} (o : Ops K) (inner : W → K) (outer : K → W) where
  abbrev pub wrapped_ops : (W → ℕ → Act → Result W ℕ) → Ops W
  wrapped_ops effect = record {
    width = o.width;
    level = λ x s. o.level (inner x) s;
    admits = o.admits;
    bottom = outer o.bottom;
    part = λ s l. outer (o.part s l);
    under = λ x y. o.under (inner x) (inner y);
    join = λ x y. outer (o.join (inner x) (inner y));
    effect = effect;
  }
