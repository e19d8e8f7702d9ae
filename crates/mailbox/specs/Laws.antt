-- A mailbox keeps the laws of a channel. Assumes nothing.
use Rattle.std.specs.Prelude.{◌≡◌, ℕ, zero, suc, ◌<◌, Bool, true, false, cond, ◌⊎◌, List, ◌++◌, Some, None, Option, ◌==◌, nat_le, refl}
use Rattle.std.proofs.Common.{sym, ap, ap₂, subst, ◌∙◌, inl, inr, arith, eqb-true, leb-false}
use mathlib.Core.List.Memᴰ
use mathlib.Core.List.{Memᴰ}
use Rattle.std.proofs.lemmas.Bool.{eqb-false}
use Rattle.channel.specs.Meaning.{Waiting, Laws, waiting}
use Rattle.mailbox.specs.declared.mailbox.Mailbox.{Mailbox}
use Rattle.mailbox.specs.Mailbox.{in_cell, listed, cells, boxed, box_ready, BoxPuts, BoxTakes}

-- what is in a cell waits
among : (f : ℕ → Option (List ℕ)) (n i : ℕ) (b : List ℕ) → i < n → f i ≡ Some b → Memᴰ (waiting i b) (cells f n)
unfolding cells
among f zero i b h e = absurd (omega arith)
among f (suc k) i b h e = go (i == k) refl (among f k i b)
  where
    here : i ≡ k → Memᴰ (waiting i b) (listed k (f k))
    here x = subst (λ (o : Option (List ℕ)). Memᴰ (waiting i b) (listed k o)) (sym e ∙ ap f x) (Memᴰ.head (ap (λ (j : ℕ). waiting j b) x))

    go : (t : Bool) → (i == k) ≡ t → (i < k → f i ≡ Some b → Memᴰ (waiting i b) (cells f k)) → Memᴰ (waiting i b) (listed k (f k) ++ cells f k)
    go true x r = Memᴰ.append_left (cells f k) (here (eqb-true i k x))
    go false x r = Memᴰ.append_right (listed k (f k)) (r (let z = eqb-false i k x in omega arith) e)

-- what waits is in a cell
record Source (f : ℕ → Option (List ℕ)) (n : ℕ) (d : Waiting) : Type 0 where
  i : ℕ
  b : List ℕ
  below : i < n
  holds : f i ≡ Some b
  is : d ≡ waiting i b

source : (f : ℕ → Option (List ℕ)) (n : ℕ) (d : Waiting) → Memᴰ d (cells f n) → Source f n d
unfolding cells
source f zero d m = absurd (Memᴰ.not-nil m)
source f (suc k) d m = go (Memᴰ.append_cases (listed k (f k)) m) (source f k d)
  where
    first : (o : Option (List ℕ)) → f k ≡ o → Memᴰ d (listed k o) → Source f (suc k) d
    first None e h = absurd (Memᴰ.not-nil h)
    first (Some b) e h = record { i = k; b = b; below = omega arith; holds = e; is = Memᴰ.eq_of_singleton h }

    more : Source f k d → Source f (suc k) d
    more s = record { i = s.i; b = s.b; below = omega (arith, s.below); holds = s.holds; is = s.is }

    go : Memᴰ d (listed k (f k)) ⊎ Memᴰ d (cells f k) → (Memᴰ d (cells f k) → Source f k d) → Source f (suc k) d
    go (inl h) r = first (f k) refl h
    go (inr h) r = more (r h)

pub box_laws : Laws boxed box_ready BoxPuts BoxTakes
box_laws = record {
  put_waits = λ s t to b h d m. came s t to b h d (source (in_cell t) 8 d m);
  ready_waits = λ s to b e. waits s to b (nat_le 8 to) refl e;
  take_waits = λ s t to h d m. subst (λ (x : Mailbox). Memᴰ d (boxed x)) h m;
}
  where
    came : (s t : Mailbox) (to : ℕ) (b : List ℕ) → BoxPuts s to b t → (d : Waiting) → Source (in_cell t) 8 d → Memᴰ d (boxed s) ⊎ (d ≡ waiting to b)
    came s t to b h d k = go (k.i == to) refl (sym k.holds ∙ h.0 k.i k.below)
      where
        go : (x : Bool) → (k.i == to) ≡ x → Some k.b ≡ cond x (Some b) (in_cell s k.i) → Memᴰ d (boxed s) ⊎ (d ≡ waiting to b)
        go true x e = let u : k.b ≡ b = cc in inr (k.is ∙ ap₂ (λ (p : ℕ) (q : List ℕ). waiting p q) (eqb-true k.i to x) u)
        go false x e = inl (subst (λ (y : Waiting). Memᴰ y (boxed s)) (sym k.is) (among (in_cell s) 8 k.i k.b k.below (sym e)))

    waits : (s : Mailbox) (to : ℕ) (b : List ℕ) (x : Bool) → nat_le 8 to ≡ x → cond x None (in_cell s to) ≡ Some b → Memᴰ (waiting to b) (boxed s)
    waits s to b true x e = cc
    waits s to b false x e = among (in_cell s) 8 to b (leb-false 8 to x) e
