-- What a kind of value consists of, and the difference of two values, in one definition for all kinds. Assumes nothing.
use Rattle.std.specs.Prelude.{ℕ, zero, suc, Bool, cond, ◌&&◌, List, [], ◌∷◌, ◌++◌, Err, Result, nat_lt}
use Rattle.lattice.specs.declared.part.Act.{Act}
use Rattle.lattice.specs.declared.part.Part.{Part}

pub record Ops (K : Type 0) : Type 0 where
  -- the number of slots
  pub width : ℕ
  -- the level at a slot, 0 for none
  pub level : K → ℕ → ℕ
  -- whether a slot may have a level
  pub admits : ℕ → ℕ → Bool
  -- the value with no part
  pub bottom : K
  -- the value whose only part is the slot with the level
  pub part : ℕ → ℕ → K
  -- the order
  pub under : K → K → Bool
  -- what two values come to together
  pub join : K → K → K
  -- what an act adds, from the value held and the acting replica, or the number of the refusal
  pub effect : K → ℕ → Act → Result K ℕ

module _ {K : Type 0} (o : Ops K) where
  -- a part as a value
  abbrev pub alone : Part → K
  alone p = o.part p.slot p.level

  -- whether a part is admitted and lies under a value
  abbrev pub covered : K → Part → Bool
  covered x p = o.admits p.slot p.level && o.under (alone p) x

  -- a value joined with a part, or left as it is where the part is not admitted
  abbrev pub with_part : K → Part → K
  with_part x p = cond (o.admits p.slot p.level) (o.join x (alone p)) x

  -- the part at a slot, if there is a level
  unfoldable pub parts_at : ℕ → ℕ → List Part
  parts_at s zero = []
  parts_at s (suc l) = record { slot = s; level = suc l } ∷ []

  -- the parts at the slots below n, in rising order
  unfoldable pub parts_below : K → ℕ → List Part
  parts_below x zero = []
  parts_below x (suc n) = parts_below x n ++ parts_at n (o.level x n)

  abbrev pub parts : K → List Part
  parts x = parts_below x o.width

  -- the join of the parts listed
  unfoldable pub joined : List Part → K
  joined [] = o.bottom
  joined (p ∷ ps) = o.join (alone p) (joined ps)

  -- those of the parts that are not under b
  unfoldable pub beyond : K → List Part → List Part
  beyond b [] = []
  beyond b (p ∷ ps) = cond (o.under (alone p) b) (beyond b ps) (p ∷ beyond b ps)

  -- the join of the parts of a that are not under b
  unfoldable pub difference : K → K → K
  difference a b = joined (beyond b (parts a))

  -- an answer for which the slots are walked: refused by 3 where they are more than 1,024
  abbrev pub walked : {A : Type 0} → Result A ℕ → Result A ℕ
  walked r = cond (nat_lt 1024 o.width) (Err 3) r
