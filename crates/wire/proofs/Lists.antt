-- The parts that bytes list, one after another, beside the parts of a value. Assumes nothing.
use Rattle.std.proofs.Common.{◌≡◌, ℕ, suc, ◌+◌, ◌/◌, ◌<◌, ◌≤◌, List, [], ◌∷◌, ◌-◌, length, take, drop, sym, refl, ap, ◌∙◌, length-drop, arith}
use Rattle.std.proofs.lemmas.List.{take_all, drop-drop}
use Rattle.lattice.specs.Ops.{Ops, parts}
use Rattle.lattice.specs.Walks.{parts_from}
use Rattle.lattice.specs.declared.part.Part.{Part}
use Rattle.lattice.proofs.Parts.{from_all, from_none, from_one, from_done}
use Rattle.wire.specs.Bytes.{value, field}
use Rattle.wire.specs.Datagrams.{listed}
use Rattle.wire.specs.Listed.{all_listed}

-- a number further on
pub field_drop : (b : List ℕ) (at n w : ℕ) → field (drop at b) n w ≡ field b (at + n) w
unfolding field
field_drop b at n w = ap (λ (xs : List ℕ). value (take w xs)) (drop-drop n at b)

pub listed_none : (b : List ℕ) → length b < 10 → all_listed b ≡ []
unfolding listed
listed_none b h = let e : length b / 10 ≡ 0 = omega arith in ap (λ (n : ℕ). listed n b) e

pub listed_some : (b : List ℕ) (s l : ℕ) → 10 ≤ length b → s ≡ field b 0 2 → l ≡ field b 2 8
    → all_listed b ≡ record { slot = s; level = l } ∷ all_listed (drop 10 b)
unfolding listed
listed_some b s l h es el =
    let e : length b / 10 ≡ suc (length (drop 10 b) / 10) = omega (arith, length-drop 10 b) in
    ap (λ (n : ℕ). listed n b) e
    ∙ ap (λ (t : ℕ). record { slot = t; level = field b 2 8 } ∷ all_listed (drop 10 b)) (sym es)
    ∙ ap (λ (t : ℕ). record { slot = s; level = t } ∷ all_listed (drop 10 b)) (sym el)

-- the bytes from a place on, as a slice
pub from_is : (b : List ℕ) (n : ℕ) → take (length b - n) (drop n b) ≡ drop n b
from_is b n = take_all (length b - n) (drop n b) (omega (arith, length-drop n b))

module _ {K : Type 0} (o : Ops K) where
  -- the parts of a value at the slots from s on
  abbrev pub ahead : K → ℕ → List Part
  ahead x s = parts_from o x s (o.width - s)

  pub ahead_start : (x : K) → parts o x ≡ ahead x 0
  ahead_start x = let e : o.width - 0 ≡ o.width = omega arith in sym (ap (parts_from o x 0) e ∙ from_all o x o.width)

  pub ahead_none : (x : K) (s l : ℕ) → s < o.width → l ≡ o.level x s → l ≤ 0 → ahead x s ≡ ahead x (s + 1)
  ahead_none x s l h e z = from_none o x s o.width s l (s + 1) o.width (omega arith) refl e refl refl z

  pub ahead_some : (x : K) (s l : ℕ) → s < o.width → l ≡ o.level x s → 0 < l → ahead x s ≡ record { slot = s; level = l } ∷ ahead x (s + 1)
  ahead_some x s l h e p = from_one o x s o.width s l (s + 1) o.width (omega arith) refl e refl refl p

  pub ahead_end : (x : K) (s : ℕ) → o.width ≤ s → ahead x s ≡ []
  ahead_end x s h = from_done o x s o.width h
