-- Four values of one kind, by key. Assumes nothing.
use Rattle.std.specs.Prelude.{◌≡◌, ℕ, ◌+◌, ◌*◌, ◌/◌, ◌%◌, ◌<◌, cond, Result, ◌==◌}
use Rattle.lattice.specs.Ops.{Ops}
use Rattle.lattice.specs.declared.part.Act.{Act}
use Rattle.kinds.specs.Pairs.{pair_ops, on_left, on_right, carried}
use Rattle.kinds.specs.Ruled.{ruled, ruled_ops}
use Rattle.kinds.specs.declared.four.ByKey.{ByKey}
use Rattle.kinds.specs.declared.pair.Pair.{Pair}
use Rattle.kinds.specs.declared.ruled.Ruled.{Ruled}

-- the source's `Four`, since antt has no name for an alias
abbrev pub Four : Type 0 → Type 0
Four K = Ruled (Pair (Pair K K) (Pair K K)) ByKey

module _ {K : Type 0} (k : Ops K) where
  abbrev pub two_ops : Ops (Pair K K)
  two_ops = pair_ops k k

  abbrev pub keys_ops : Ops (Pair (Pair K K) (Pair K K))
  keys_ops = pair_ops two_ops two_ops

  -- the value at a key, and the value that has no other
  abbrev pub at_key : Four K → ℕ → K
  at_key x i =
      cond (i == 0) x.held.left.left (cond (i == 1) x.held.left.right (cond (i == 2) x.held.right.left x.held.right.right))

  abbrev pub on_key : ℕ → K → Four K
  on_key i v = ruled
      (cond (i == 0) (on_left two_ops two_ops (on_left k k v))
      (cond (i == 1) (on_left two_ops two_ops (on_right k k v))
      (cond (i == 2) (on_right two_ops two_ops (on_left k k v)) (on_right two_ops two_ops (on_right k k v)))))

  -- place p goes to key p mod 4, as the whole part of p / 4
  abbrev pub four_effect : Four K → ℕ → Act → Result (Four K) ℕ
  four_effect x actor act = carried (on_key (act.place % 4)) (k.effect (at_key x (act.place % 4)) actor (record act { place = act.place / 4 }))

  -- the slots, the order and the join are those of a pair of pairs
  abbrev pub four_ops : Ops (Four K)
  four_ops = ruled_ops keys_ops four_effect

  -- so key i has the slots from i times the kind's width
  abbrev pub Keyed : Four K → ℕ → Type 0
  Keyed x i = i < 4 → (t : ℕ) → t < k.width → four_ops.level x (i * k.width + t) ≡ k.level (at_key x i) t
