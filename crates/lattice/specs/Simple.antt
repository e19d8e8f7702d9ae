-- The simple kinds: the join takes the larger level at each slot, and under means at most at every slot. Assumes nothing.
use Rattle.std.specs.Prelude.{◌≡◌, ℕ, zero, suc, ◌<◌, ◌≤◌, min, max, Bool, true, cond, ◌&&◌, Result, ◌==◌, nat_le, nat_lt}
use Rattle.lattice.specs.declared.part.Act.{Act}
use Rattle.lattice.specs.Ops.{Ops}

-- whether a test passes at each number below n
unfoldable pub all_below : (ℕ → Bool) → ℕ → Bool
all_below f zero = true
all_below f (suc n) = f n && all_below f n

-- How values stand for levels, none above the cap: the levels of a value, and the value of given levels.
pub record Shape (K : Type 0) : Type 0 where
  pub width : ℕ
  pub cap : ℕ
  pub level : K → ℕ → ℕ
  pub make : (ℕ → ℕ) → K

-- a value is known by its levels, and each choice of levels has a value
pub record Shaped {K : Type 0} (h : Shape K) : Type 0 where
  pub small : h.cap < 18446744073709551616
  pub past : (x : K) (s : ℕ) → h.width ≤ s → h.level x s ≡ 0
  pub capped : (x : K) (s : ℕ) → h.level x s ≤ h.cap
  pub made : (f : ℕ → ℕ) (s : ℕ) → s < h.width → h.level (h.make f) s ≡ min (f s) h.cap
  pub same : (x y : K) → ((s : ℕ) → s < h.width → h.level x s ≡ h.level y s) → x ≡ y

module _ {K : Type 0} (h : Shape K) where
  abbrev pub simple_bottom : K
  simple_bottom = h.make (λ _. 0)

  abbrev pub simple_part : ℕ → ℕ → K
  simple_part s l = h.make (λ t. cond (t == s) l 0)

  -- a kind of this shape, with the effect given
  abbrev pub simple_ops : (K → ℕ → Act → Result K ℕ) → Ops K
  simple_ops effect = record {
    width = h.width;
    level = h.level;
    admits = λ s l. nat_lt s h.width && (nat_lt 0 l && nat_le l h.cap);
    bottom = simple_bottom;
    part = simple_part;
    under = λ x y. all_below (λ s. nat_le (h.level x s) (h.level y s)) h.width;
    join = λ x y. h.make (λ s. max (h.level x s) (h.level y s));
    effect = effect;
  }
