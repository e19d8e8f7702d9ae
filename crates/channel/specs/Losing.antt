-- The losing layer: an accepted put reads a bit and turns the pattern; bit 1 drops the datagram. Assumes nothing but the laws below.
use Rattle.std.specs.Prelude.{◌≡◌, ℕ, Bool, true, false, cond, ◌⊎◌, List, None, Option}
use Rattle.std.proofs.Common.{subst, inl}
use mathlib.Core.List.{Memᴰ}
use Rattle.channel.specs.declared.losing.Losing.{Losing}
use Rattle.channel.specs.Meaning.{Waiting, Laws, waiting}
use Rattle.channel.specs.Patterns.{low_bit, rotated}

module _ {C : Type 0} where
  -- what waits and is ready is what waits and is ready below
  abbrev pub losing_waits : (C → List Waiting) → Losing C → List Waiting
  losing_waits waits s = waits s.below

  abbrev pub losing_ready : (C → ℕ → Option (List ℕ)) → Losing C → ℕ → Option (List ℕ)
  losing_ready ready s to = ready s.below to

  -- a datagram that is dropped is not refused
  abbrev pub losing_denies : (C → ℕ → List ℕ → Option ℕ) → Losing C → ℕ → List ℕ → Option ℕ
  losing_denies denies s to b = cond (low_bit s.pattern) None (denies s.below to b)

  abbrev pub DropsOrPasses : (C → ℕ → List ℕ → C → Type 0) → Bool → C → ℕ → List ℕ → C → Type 0
  DropsOrPasses puts true s to b t = t ≡ s
  DropsOrPasses puts false s to b t = puts s to b t

  abbrev pub LosingPuts : (C → ℕ → List ℕ → C → Type 0) → Losing C → ℕ → List ℕ → Losing C → Type 0
  LosingPuts puts s to b t = (t.pattern ≡ rotated s.pattern) × DropsOrPasses puts (low_bit s.pattern) s.below to b t.below

  abbrev pub LosingTakes : (C → ℕ → C → Type 0) → Losing C → ℕ → Losing C → Type 0
  LosingTakes takes s to t = (t.pattern ≡ s.pattern) × takes s.below to t.below

-- it keeps the laws
module _ {C : Type 0} {waits : C → List Waiting} {ready : C → ℕ → Option (List ℕ)} {puts : C → ℕ → List ℕ → C → Type 0} {takes : C → ℕ → C → Type 0}
    (laws : Laws waits ready puts takes) where
  passed : (bit : Bool) (s t : C) (to : ℕ) (b : List ℕ) → DropsOrPasses puts bit s to b t → (d : Waiting) → Memᴰ d (waits t) → Memᴰ d (waits s) ⊎ (d ≡ waiting to b)
  passed true s t to b h d m = inl (subst (λ (u : C). Memᴰ d (waits u)) h m)
  passed false s t to b h d m = laws.put_waits s t to b h d m

  pub losing_laws : Laws (losing_waits waits) (losing_ready ready) (LosingPuts puts) (LosingTakes takes)
  losing_laws = record {
    put_waits = λ s t to b h d m. passed (low_bit s.pattern) s.below t.below to b h.1 d m;
    ready_waits = λ s to b e. laws.ready_waits s.below to b e;
    take_waits = λ s t to h d m. laws.take_waits s.below t.below to h.1 d m;
  }
