use Rattle.std.proofs.Common.{◌≡◌, ℕ, ◌<◌, ◌≤◌, get_or}
use lib.Bits.{bit_or}
use Rattle.kinds.specs.Levels.{Bounded}
use Rattle.kinds.proofs.set.as_kind.SetKind.join.Given as goal

abbrev pub invariant-loop-i : goal.invariant-loop-i
invariant-loop-i l = record {
  bounded : Bounded 4 18446744073709551615 l.mine-items;
  joined : (k : ℕ) → k < l.i → get_or l.mine-items k 0 ≡ bit_or (get_or l.fn.self.words k 0) (get_or l.other.words k 0);
  kept : (k : ℕ) → l.i ≤ k → get_or l.mine-items k 0 ≡ get_or l.fn.self.words k 0;
}
