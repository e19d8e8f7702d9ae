-- The counter: slot i of eight counts for replica i. Assumes nothing.
use Rattle.std.specs.Prelude.{ℕ, ◌+◌, cond, not, Ok, Err, Result, ◌==◌, nat_lt, slice_index}
use Rattle.lattice.specs.Ops.{Ops}
use Rattle.lattice.specs.Simple.{Shape, simple_ops, simple_part}
use Rattle.lattice.specs.declared.part.Act.{Act}
use Rattle.kinds.specs.Leaf.{leaf}
use Rattle.kinds.specs.Levels.{levels_of, levels_bounded, sum_below}
use Rattle.kinds.specs.declared.counter.Counter.{Counter}

abbrev pub counter_shape : Shape Counter
counter_shape = record {
  width = 8;
  cap = 4294967295;
  level = λ x s. slice_index x.levels s;
  make = λ f. record { levels = levels_of 8 4294967295 f; ok = levels_bounded 8 4294967295 f };
}

-- verb 1 adds an amount of 1 or more to the actor's own level
abbrev pub counter_effect : Counter → ℕ → Act → Result Counter ℕ
counter_effect x actor act =
    let sum = counter_shape.level x actor + act.amount in
    leaf actor act.place
    (cond (not (act.verb == 1)) (Err 6)
    (cond (act.amount == 0) (Err 7)
    (cond (nat_lt 4294967295 sum) (Err 9)
    (Ok (simple_part counter_shape actor sum)))))

abbrev pub counter_ops : Ops Counter
counter_ops = simple_ops counter_shape counter_effect

-- the sum of the levels
abbrev pub total : Counter → ℕ
total x = sum_below (counter_shape.level x) 8
