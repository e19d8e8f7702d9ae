-- The laws that every kind keeps. Assumes nothing.
use Rattle.std.specs.Prelude.{◌≡◌, ℕ, ◌<◌, ◌≤◌, true, false, ◌⊎◌, ◌≢◌}
use Rattle.lattice.specs.Ops.{Ops, parts, joined}

-- An order with a join and a bottom.
pub record Lattice {K : Type 0} (o : Ops K) : Type 0 where
  -- under is an order
  pub refl : (x : K) → o.under x x ≡ true
  pub trans : (x y z : K) → o.under x y ≡ true → o.under y z ≡ true → o.under x z ≡ true
  pub antisym : (x y : K) → o.under x y ≡ true → o.under y x ≡ true → x ≡ y
  -- the join is the least value above both
  pub above_left : (x y : K) → o.under x (o.join x y) ≡ true
  pub above_right : (x y : K) → o.under y (o.join x y) ≡ true
  pub least : (x y z : K) → o.under x z ≡ true → o.under y z ≡ true → o.under (o.join x y) z ≡ true
  -- the bottom is under every value
  pub bottom_under : (x : K) → o.under o.bottom x ≡ true

-- Which levels there are, and what a part is.
pub record Levels {K : Type 0} (o : Ops K) : Type 0 where
  pub bottom_level : (s : ℕ) → o.level o.bottom s ≡ 0
  -- levels stand at the kind's slots and are admitted there; an admitted level is 1 or more and has 64 bits
  pub past : (x : K) (s : ℕ) → o.width ≤ s → o.level x s ≡ 0
  pub admitted : (x : K) (s : ℕ) → 0 < o.level x s → o.admits s (o.level x s) ≡ true
  pub admits_slot : (s l : ℕ) → o.admits s l ≡ true → s < o.width
  pub admits_level : (s l : ℕ) → o.admits s l ≡ true → (0 < l) × (l < 18446744073709551616)
  -- a part is a value whose only part is itself
  pub part_level : (s l : ℕ) → o.admits s l ≡ true → o.level (o.part s l) s ≡ l
  pub part_else : (s l t : ℕ) → o.admits s l ≡ true → t ≢ s → o.level (o.part s l) t ≡ 0

pub record Laws {K : Type 0} (o : Ops K) : Type 0 where
  pub lattice : Lattice o
  pub levels : Levels o
  -- a value is the join of its parts, and none of them is under another
  pub whole : (x : K) → joined o (parts o x) ≡ x
  pub apart : (x : K) (s t : ℕ) → s ≢ t → 0 < o.level x s → 0 < o.level x t
      → o.under (o.part s (o.level x s)) (o.part t (o.level x t)) ≡ false
  -- a part under a join is under one of the two
  pub prime : (x y : K) (s l : ℕ) → o.admits s l ≡ true → o.under (o.part s l) (o.join x y) ≡ true
      → (o.under (o.part s l) x ≡ true) ⊎ (o.under (o.part s l) y ≡ true)

-- A kind that values can be kept and sent of: it has at most 1,024 slots.
abbrev pub Usable : {K : Type 0} → Ops K → Type 0
Usable o = o.width ≤ 1024
