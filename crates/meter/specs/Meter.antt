-- The counting layer: what waits, is ready and is refused is as below. Assumes nothing but the laws below.
use Rattle.std.specs.Prelude.{◌≡◌, ℕ, ◌+◌, min, List, Option}
use Rattle.channel.specs.Meaning.{Waiting, Laws}
use Rattle.meter.specs.declared.Meter.{Meter}

-- one more, up to the largest 32-bit number
abbrev pub counted : ℕ → ℕ
counted n = min (n + 1) 4294967295

module _ {C : Type 0} where
  abbrev pub meter_waits : (C → List Waiting) → Meter C → List Waiting
  meter_waits waits s = waits s.below

  abbrev pub meter_ready : (C → ℕ → Option (List ℕ)) → Meter C → ℕ → Option (List ℕ)
  meter_ready ready s to = ready s.below to

  abbrev pub meter_denies : (C → ℕ → List ℕ → Option ℕ) → Meter C → ℕ → List ℕ → Option ℕ
  meter_denies denies s to b = denies s.below to b

  abbrev pub MeterPuts : (C → ℕ → List ℕ → C → Type 0) → Meter C → ℕ → List ℕ → Meter C → Type 0
  MeterPuts puts s to b t = (t.accepted ≡ counted s.accepted) × (t.taken ≡ s.taken) × puts s.below to b t.below

  abbrev pub MeterTakes : (C → ℕ → C → Type 0) → Meter C → ℕ → Meter C → Type 0
  MeterTakes takes s to t = (t.accepted ≡ s.accepted) × (t.taken ≡ counted s.taken) × takes s.below to t.below

-- it keeps the laws, because the channel below does
module _ {C : Type 0} {waits : C → List Waiting} {ready : C → ℕ → Option (List ℕ)} {puts : C → ℕ → List ℕ → C → Type 0} {takes : C → ℕ → C → Type 0} where
  pub meter_laws : Laws waits ready puts takes → Laws (meter_waits waits) (meter_ready ready) (MeterPuts puts) (MeterTakes takes)
  meter_laws laws = record {
    put_waits = λ s t to b h d m. laws.put_waits s.below t.below to b h.2 d m;
    ready_waits = λ s to b e. laws.ready_waits s.below to b e;
    take_waits = λ s t to h d m. laws.take_waits s.below t.below to h.2 d m;
  }
