-- The holding layer keeps the laws, whatever is below.
use Rattle.std.specs.Prelude.{◌≡◌, ℕ, Bool, true, false, cond, ◌⊎◌, List, [], ◌∷◌, ◌++◌, Some, None, Ok, Err, Option, Result, ◌==◌, refl}
use Rattle.std.proofs.Common.{sym, ap₂, subst, ◌∙◌, inl, inr, eqb-true}
use mathlib.Core.List.Memᴰ
use mathlib.Core.List.{Memᴰ}
use Rattle.channel.specs.Meaning.{Waiting, Laws, put_answer, waiting}
use Rattle.channel.specs.Holding.{HoldingPuts, HoldingTakes, KeepsOrPasses, ReleasedBy, Releases, TakenFrom, held, held_for, holding_ready, holding_waits, keeps, listed, or_else}

-- the held datagram is the one that is ready for its receiver
held_waits : (k : Option Waiting) (to : ℕ) (b : List ℕ) → held_for to k ≡ Some b → Memᴰ (waiting to b) (listed k)
held_waits None to b e = cc
held_waits (Some d) to b e = go (d.to == to) (λ x. eqb-true d.to to x) e
  where
    go : (t : Bool) → (t ≡ true → d.to ≡ to) → cond t (Some d.bytes) None ≡ Some b → Memᴰ (waiting to b) (d ∷ [])
    go true x y = let u : d.bytes ≡ b = cc in Memᴰ.head (sym (ap₂ (λ (p : ℕ) (q : List ℕ). waiting p q) (x refl) u))
    go false x y = cc

module _ {C : Type 0} {waits : C → List Waiting} {ready : C → ℕ → Option (List ℕ)} (denies : C → ℕ → List ℕ → Option ℕ)
    {puts : C → ℕ → List ℕ → C → Type 0} {takes : C → ℕ → C → Type 0} (laws : Laws waits ready puts takes) where
  -- what waits, of what is held and what is below
  abbrev In : Waiting → Option Waiting → C → Type 0
  In d k c = Memᴰ d (listed k ++ waits c)

  moved : (d : Waiting) (h k : Option Waiting) (s c : C) → k ≡ h → c ≡ s → In d k c → In d h s
  moved d h k s c e f i = subst (λ (x : Option Waiting). In d x s) e (subst (λ (x : C). In d k x) f i)

  released : (h : Option Waiting) (s : C) (k : Option Waiting) (c : C) → Releases denies puts h s k c → (d : Waiting) → In d k c → In d h s
  released None s k c r d i = moved d None k s c r.0 r.1 i
  released (Some h) s k c r d i = go (put_answer h.to h.bytes (denies s h.to h.bytes)) r
    where
      went : Memᴰ d (waits s) ⊎ (d ≡ waiting h.to h.bytes) → Memᴰ d (h ∷ waits s)
      went (inl e) = Memᴰ.tail e
      went (inr e) = Memᴰ.head e

      go : (a : Result (Unit {0}) ℕ) → ReleasedBy denies puts a h s k c → Memᴰ d (h ∷ waits s)
      go (Ok x) q = went (laws.put_waits s c h.to h.bytes q.1 d (subst (λ (y : Option Waiting). In d y c) q.0 i))
      go (Err n) q = moved d (Some h) k s c q.0 q.1 i

  passed : (t : Bool) (h : Option Waiting) (s : C) (to : ℕ) (b : List ℕ) (k : Option Waiting) (c : C) → KeepsOrPasses denies puts t h s to b k c
      → (d : Waiting) → In d k c → In d h s ⊎ (d ≡ waiting to b)
  passed true h s to b k c r d i = go (Memᴰ.append_cases (waiting to b ∷ []) (moved d (Some (waiting to b)) k s c r.0 r.1 i))
    where
      go : Memᴰ d (waiting to b ∷ []) ⊎ Memᴰ d (waits s) → In d h s ⊎ (d ≡ waiting to b)
      go (inl e) = inr (Memᴰ.eq_of_singleton e)
      go (inr e) = inl (Memᴰ.append_right (listed h) e)
  passed false h s to b k c r d i = go (Memᴰ.append_cases (listed h) (released h r.0 k c r.2 d i))
    where
      went : Memᴰ d (waits s) ⊎ (d ≡ waiting to b) → In d h s ⊎ (d ≡ waiting to b)
      went (inl e) = inl (Memᴰ.append_right (listed h) e)
      went (inr e) = inr e

      go : Memᴰ d (listed h) ⊎ Memᴰ d (waits r.0) → In d h s ⊎ (d ≡ waiting to b)
      go (inl e) = inl (Memᴰ.append_left (waits s) e)
      go (inr e) = went (laws.put_waits s r.0 to b r.1 d e)

  readied : (o : Option (List ℕ)) (k : Option Waiting) (c : C) (to : ℕ) (b : List ℕ) → ready c to ≡ o → or_else o (held_for to k) ≡ Some b → In (waiting to b) k c
  readied None k c to b e f = Memᴰ.append_left (waits c) (held_waits k to b f)
  readied (Some x) k c to b e f = Memᴰ.append_right (listed k) (laws.ready_waits c to b (e ∙ f))

  taken : (o : Option (List ℕ)) (h k : Option Waiting) (s c : C) (to : ℕ) → TakenFrom ready takes o h s to k c → (d : Waiting) → In d k c → In d h s
  taken None h k s c to r d i = Memᴰ.append_right (listed h) (moved d None k s c r.0 r.1 i)
  taken (Some b) h k s c to r d i = go (Memᴰ.append_cases (listed h) (subst (λ (x : Option Waiting). In d x c) r.0 i))
    where
      go : Memᴰ d (listed h) ⊎ Memᴰ d (waits c) → In d h s
      go (inl e) = Memᴰ.append_left (waits s) e
      go (inr e) = Memᴰ.append_right (listed h) (laws.take_waits s c to r.1 d e)

  pub holding_laws : Laws (holding_waits waits) (holding_ready ready) (HoldingPuts denies puts) (HoldingTakes ready takes)
  holding_laws = record {
    put_waits = λ s t to b h d m. passed (keeps (held s) s.pattern) (held s) s.below to b (held t) t.below h.1 d m;
    ready_waits = λ s to b e. readied (ready s.below to) (held s) s.below to b refl e;
    take_waits = λ s t to h d m. taken (ready s.below to) (held s) (held t) s.below t.below to h.1 d m;
  }
