use Rattle.std.proofs.Common.{◌≡◌, ℕ, ◌<◌, ◌≤◌, max, get_or}
use Rattle.kinds.specs.Levels.{Bounded}
use Rattle.kinds.proofs.counter.as_kind.CounterKind.join.Given as goal

abbrev pub invariant-loop-slot : goal.invariant-loop-slot
invariant-loop-slot l = record {
  bounded : Bounded 8 4294967295 l.mine-items;
  joined : (k : ℕ) → k < l.slot → get_or l.mine-items k 0 ≡ max (get_or l.fn.self.levels k 0) (get_or l.other.levels k 0);
  kept : (k : ℕ) → l.slot ≤ k → get_or l.mine-items k 0 ≡ get_or l.fn.self.levels k 0;
}
