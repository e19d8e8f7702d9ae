-- The pair of two kinds: the left kind's slots, then the right kind's. Assumes nothing.
use Rattle.std.specs.Prelude.{ℕ, ◌+◌, ◌-◌, ◌/◌, ◌%◌, cond, ◌&&◌, Ok, Err, Result, ◌==◌, nat_lt}
use Rattle.lattice.specs.Ops.{Ops}
use Rattle.kinds.specs.declared.pair.Pair.{Pair}

-- an effect carried into a larger value
abbrev pub carried : {A K : Type 0} → (A → K) → Result A ℕ → Result K ℕ
carried f (Ok x) = Ok (f x)
carried f (Err e) = Err e

module _ {A B : Type 0} (p : Ops A) (q : Ops B) where
  abbrev pub on_left : A → Pair A B
  on_left x = record { left = x; right = q.bottom }

  abbrev pub on_right : B → Pair A B
  on_right y = record { left = p.bottom; right = y }

  abbrev pub pair_ops : Ops (Pair A B)
  pair_ops = record {
    width = p.width + q.width;
    level = λ x s. cond (nat_lt s p.width) (p.level x.left s) (q.level x.right (s - p.width));
    admits = λ s l. cond (nat_lt s p.width) (p.admits s l) (q.admits (s - p.width) l);
    bottom = record { left = p.bottom; right = q.bottom };
    part = λ s l. cond (nat_lt s p.width) (on_left (p.part s l)) (on_right (q.part (s - p.width) l));
    under = λ x y. p.under x.left y.left && q.under x.right y.right;
    join = λ x y. record { left = p.join x.left y.left; right = q.join x.right y.right };
    -- an even place goes left as its half, an odd one right as the half of the place before it
    effect = λ x actor act.
        cond (act.place % 2 == 0)
        (carried on_left (p.effect x.left actor (record act { place = act.place / 2 })))
        (carried on_right (q.effect x.right actor (record act { place = (act.place - 1) / 2 })));
  }
