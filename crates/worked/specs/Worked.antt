-- The worked values, of the definitions. Assumes nothing.
use Rattle.std.specs.Prelude.{◌≡◌, ℕ, false, [], ◌∷◌, Ok, Err}
use Rattle.lattice.specs.Ops.{Ops, difference, joined}
use Rattle.lattice.specs.declared.part.Act.{Act}
use Rattle.lattice.specs.declared.part.Part.{Part}
use Rattle.kinds.specs.Counters.{counter_ops}
use Rattle.kinds.specs.Fours.{Four, four_ops}
use Rattle.kinds.specs.Pairs.{pair_ops}
use Rattle.kinds.specs.Sets.{set_ops}
use Rattle.kinds.specs.TwoPhases.{added, present, removed, two_phase_ops}
use Rattle.kinds.specs.declared.counter.Counter.{Counter}
use Rattle.kinds.specs.declared.pair.Pair.{Pair}
use Rattle.kinds.specs.declared.set.Set.{Set}
use Rattle.wire.specs.Datagrams.{written}
use Rattle.wire.specs.declared.datagram.Datagram.TheVariants.{Delta as delta, Ack as ack}
use Rattle.wire.specs.declared.datagram.Header.{Header}

-- a level at a slot
abbrev pub at : ℕ → ℕ → Part
at s l = record { slot = s; level = l }

-- an act at a place, with a verb and an amount
abbrev pub act : ℕ → ℕ → ℕ → Act
act place verb amount = record { place = place; verb = verb; amount = amount }

abbrev pub both : Ops (Pair Counter Set)
both = pair_ops counter_ops set_ops

abbrev pub four_sets : Ops (Four Set)
four_sets = four_ops set_ops

-- from, to and number
abbrev pub header : ℕ → ℕ → ℕ → Header
header from to number = record { from = from; to = to; number = number }

-- a counter whose first replica has counted to n
abbrev pub counted : ℕ → Counter
counted n = counter_ops.part 0 n

pub record WorkedValues : Type 0 where
  -- counter {0:5, 1:3} from {0:5, 1:2} differs by {1:3}
  pub lacks_one : difference counter_ops (joined counter_ops (at 0 5 ∷ at 1 3 ∷ [])) (joined counter_ops (at 0 5 ∷ at 1 2 ∷ [])) ≡ joined counter_ops (at 1 3 ∷ [])
  -- counter {0:4} from {0:5} differs by bottom
  pub lacks_none : difference counter_ops (counted 4) (counted 5) ≡ counter_ops.bottom
  -- a delta 0 to 1, number 1, of part 0:5, and an acknowledgement 1 to 0, number 1, as bytes
  pub delta_is : written counter_ops (delta (header 0 1 1) (counted 5))
      ≡ 0x16 ∷ 0 ∷ 1 ∷ 0 ∷ 0 ∷ 1 ∷ 1 ∷ 0 ∷ 0 ∷ 0 ∷ 1 ∷ 0 ∷ 0 ∷ 0 ∷ 5 ∷ 0 ∷ 0 ∷ 0 ∷ 0 ∷ 0 ∷ 0 ∷ 0 ∷ []
  pub ack_is : written counter_ops (ack (header 1 0 1)) ≡ 0x0A ∷ 0 ∷ 2 ∷ 0 ∷ 1 ∷ 0 ∷ 1 ∷ 0 ∷ 0 ∷ 0 ∷ []
  -- in a pair of a counter and a set, place 1, verb 1, amount 4 acts on slot 12, whatever is held
  pub acts_right : (x : Pair Counter Set) → both.effect x 0 (act 1 1 4) ≡ Ok (both.part 12 1)
  -- removed 9 joined with added 9: 9 is absent
  pub absent : present (two_phase_ops.join (removed 9) (added 9)) 9 ≡ false
  -- in four sets, member 255 at key 3 is slot 1,023, whatever is held
  pub last_slot : (x : Four Set) → four_sets.effect x 0 (act 3 1 255) ≡ Ok (four_sets.part 1023 1)
  -- a counter slot at 4,294,967,294 takes 1, and then refuses 1 by 9
  pub takes_last : counter_ops.effect (counted 4294967294) 0 (act 0 1 1) ≡ Ok (counted 4294967295)
  pub takes_no_more : counter_ops.effect (counted 4294967295) 0 (act 0 1 1) ≡ Err 9
