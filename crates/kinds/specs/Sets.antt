-- The set: 256 slots of level 1, one for each member. Assumes nothing.
use Rattle.std.specs.Prelude.{ℕ, Bool, cond, not, Ok, Err, Result, ◌==◌}
use Rattle.lattice.specs.Ops.{Ops}
use Rattle.lattice.specs.Simple.{Shape, simple_ops, simple_part}
use Rattle.lattice.specs.declared.part.Act.{Act}
use Rattle.kinds.specs.Bits.{row_bit, row, row_bounded}
use Rattle.kinds.specs.Leaf.{leaf, member}
use Rattle.kinds.specs.Levels.{sum_below}
use Rattle.kinds.specs.declared.set.Set.{Set}

abbrev pub set_shape : Shape Set
set_shape = record {
  width = 256;
  cap = 1;
  level = λ x s. row_bit x.words s;
  make = λ f. record { words = row 4 f; ok = row_bounded 4 f };
}

-- verb 1 adds the member, 0 to 255, that the amount names
abbrev pub set_effect : Set → ℕ → Act → Result Set ℕ
set_effect x actor act =
    leaf actor act.place
    (cond (not (act.verb == 1)) (Err 6)
    (member act.amount (Ok (simple_part set_shape act.amount 1))))

abbrev pub set_ops : Ops Set
set_ops = simple_ops set_shape set_effect

-- whether a number is a member
abbrev pub has : Set → ℕ → Bool
has x m = set_shape.level x m == 1

-- the number of members: one for each slot with a level
abbrev pub count : Set → ℕ
count x = sum_below (set_shape.level x) 256
