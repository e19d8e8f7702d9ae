-- The set is a simple kind. Assumes nothing.
use Rattle.std.specs.Prelude.{◌≡◌}
use mathlib.Core.HLevel.{is_prop→PathP}
use Rattle.std.proofs.Common.{lit<}
use Rattle.lattice.specs.Laws.{Laws}
use Rattle.lattice.specs.Simple.{Shaped}
use Rattle.lattice.proofs.Simples.{simple_laws}
use Rattle.kinds.specs.Levels.{Bounded}
use Rattle.kinds.specs.Sets.{set_shape, set_ops, set_effect}
use Rattle.kinds.specs.declared.set.Set.{Set}
use Rattle.kinds.specs.Bounds.{bounded_prop}
use Rattle.kinds.specs.Words.{row_at, row_past, row_le, rows_same}

set_path : (x y : Set) → x.words ≡ y.words → x ≡ y
set_path x y p = λ i. record {
  words = p i;
  ok = is_prop→PathP (λ j. Bounded 4 18446744073709551615 (p j)) (λ j. bounded_prop 4 18446744073709551615 (p j)) x.ok y.ok i;
}

pub set_shaped : Shaped set_shape
set_shaped = record {
  small = lit< tt;
  past = λ x s h. row_past 4 x.words x.ok.0 s h;
  capped = λ x s. row_le x.words s;
  made = λ f s h. row_at 4 f s h;
  same = λ x y h. set_path x y (rows_same 4 x.words y.words x.ok y.ok h);
}

pub set_laws : Laws set_ops
set_laws = simple_laws set_shape set_shaped set_effect
