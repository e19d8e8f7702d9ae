-- Refusals that several kinds share. Assumes nothing.
use Rattle.std.specs.Prelude.{ℕ, cond, not, Err, Result, ◌==◌, nat_le, nat_lt}

-- of a kind with no places of its own: 4 for an actor of 8 or more, 5 for a place other than 0, and else the answer given
abbrev pub leaf : {A : Type 0} → ℕ → ℕ → Result A ℕ → Result A ℕ
leaf actor place r = cond (nat_le 8 actor) (Err 4) (cond (not (place == 0)) (Err 5) r)

-- of an amount that names a member: 7 past 255, and else the answer given
abbrev pub member : {A : Type 0} → ℕ → Result A ℕ → Result A ℕ
member amount r = cond (nat_lt 255 amount) (Err 7) r
