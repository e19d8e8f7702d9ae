-- The two-phase set: a pair of sets, added and removed. Assumes nothing.
use Rattle.std.specs.Prelude.{ℕ, Bool, cond, not, ◌&&◌, Ok, Err, Result, ◌==◌}
use Rattle.lattice.specs.Ops.{Ops}
use Rattle.lattice.specs.declared.part.Act.{Act}
use Rattle.kinds.specs.Leaf.{leaf, member}
use Rattle.kinds.specs.Pairs.{pair_ops, on_left, on_right}
use Rattle.kinds.specs.Ruled.{ruled, ruled_ops}
use Rattle.kinds.specs.Sets.{set_ops, has}
use Rattle.kinds.specs.declared.pair.Pair.{Pair}
use Rattle.kinds.specs.declared.ruled.Ruled.{Ruled}
use Rattle.kinds.specs.declared.set.Set.{Set}
use Rattle.kinds.specs.declared.two_phase.AddRemove.{AddRemove}
use Rattle.kinds.specs.declared.two_phase.Change.{Change}
use Rattle.kinds.specs.declared.two_phase.Change.TheVariants.{Add, Remove}
use Rattle.lattice.specs.declared.fault.KindFault.{KindFault}
use Rattle.lattice.specs.declared.fault.KindFault.TheVariants.{Verb}

-- the source's `TwoPhase`, since antt has no name for an alias
abbrev pub TwoPhase : Type 0
TwoPhase = Ruled (Pair Set Set) AddRemove

-- a member is present if added and not removed
abbrev pub present : TwoPhase → ℕ → Bool
present x m = has x.held.left m && not (has x.held.right m)

abbrev pub added : ℕ → TwoPhase
added m = ruled (on_left set_ops set_ops (set_ops.part m 1))

abbrev pub removed : ℕ → TwoPhase
removed m = ruled (on_right set_ops set_ops (set_ops.part m 1))

-- the change that a verb names
abbrev pub change_of : ℕ → Result Change KindFault
change_of verb = cond (verb == 1) (Ok Add) (cond (verb == 2) (Ok Remove) (Err Verb))

-- verb 1 adds, and is barred if the member was removed; verb 2 removes, and is barred unless the member is present
abbrev pub two_phase_effect : TwoPhase → ℕ → Act → Result TwoPhase ℕ
two_phase_effect x actor act =
    let m = act.amount in
    leaf actor act.place
    (cond (act.verb == 1) (member m (cond (has x.held.right m) (Err 8) (Ok (added m))))
    (cond (act.verb == 2) (member m (cond (present x m) (Ok (removed m)) (Err 8)))
    (Err 6)))

abbrev pub two_phase_ops : Ops TwoPhase
two_phase_ops = ruled_ops (pair_ops set_ops set_ops) two_phase_effect
