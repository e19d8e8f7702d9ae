-- The counter is a simple kind. Assumes nothing.
use Rattle.std.specs.Prelude.{◌≡◌}
use mathlib.Core.HLevel.{is_prop→PathP}
use Rattle.std.proofs.Common.{lit<}
use Rattle.lattice.specs.Laws.{Laws}
use Rattle.lattice.specs.Simple.{Shaped}
use Rattle.lattice.proofs.Simples.{simple_laws}
use Rattle.kinds.specs.Levels.{Bounded}
use Rattle.kinds.specs.Counters.{counter_shape, counter_ops, counter_effect}
use Rattle.kinds.specs.declared.counter.Counter.{Counter}
use Rattle.kinds.specs.Bounds.{bounded_prop, bounded_same, bounded_past, levels_at}

counter_path : (x y : Counter) → x.levels ≡ y.levels → x ≡ y
counter_path x y p = λ i. record {
  levels = p i;
  ok = is_prop→PathP (λ j. Bounded 8 4294967295 (p j)) (λ j. bounded_prop 8 4294967295 (p j)) x.ok y.ok i;
}

pub counter_shaped : Shaped counter_shape
counter_shaped = record {
  small = lit< tt;
  past = λ x s h. bounded_past 8 4294967295 x.levels x.ok s h;
  capped = λ x s. x.ok.1 s;
  made = λ f s h. levels_at 8 4294967295 f s h;
  same = λ x y h. counter_path x y (bounded_same 8 4294967295 x.levels y.levels x.ok y.ok h);
}

pub counter_laws : Laws counter_ops
counter_laws = simple_laws counter_shape counter_shaped counter_effect
