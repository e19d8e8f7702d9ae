-- A queue keeps the laws of a channel. Assumes nothing.
use Rattle.std.specs.Prelude.{◌≡◌, ℕ, Bool, true, false, cond, ◌⊎◌, List, [], ◌∷◌, ◌++◌, Some, ◌==◌, refl}
use Rattle.std.proofs.Common.{sym, ap₂, subst, inl, inr, ⊎_elim, eqb-true}
use mathlib.Core.List.Memᴰ
use mathlib.Core.List.{Memᴰ}
use Rattle.channel.specs.Meaning.{Waiting, Laws, waiting}
use Rattle.queue.specs.Packed.{first_for, without}
use Rattle.queue.specs.Queue.{queued, queue_ready, QueuePuts, QueueTakes}

-- the first that waits for a receiver waits
first_waits : (to : ℕ) (ws : List Waiting) (b : List ℕ) → first_for to ws ≡ Some b → Memᴰ (waiting to b) ws
unfolding first_for
first_waits to [] b e = cc
first_waits to (w ∷ ws) b e = go (w.to == to) refl e (first_waits to ws b)
  where
    go : (t : Bool) → (w.to == to) ≡ t → cond t (Some w.bytes) (first_for to ws) ≡ Some b
        → (first_for to ws ≡ Some b → Memᴰ (waiting to b) ws) → Memᴰ (waiting to b) (w ∷ ws)
    go true x y k =
        let u : w.bytes ≡ b = cc in
        Memᴰ.head (sym (ap₂ (λ (p : ℕ) (q : List ℕ). waiting p q) (eqb-true w.to to x) u))
    go false x y k = Memᴰ.tail (k y)

-- all but that one waited before
without_waits : (to : ℕ) (ws : List Waiting) (d : Waiting) → Memᴰ d (without to ws) → Memᴰ d ws
unfolding without
without_waits to [] d m = m
without_waits to (w ∷ ws) d m = go (w.to == to) m (without_waits to ws d)
  where
    go : (t : Bool) → Memᴰ d (cond t ws (w ∷ without to ws)) → (Memᴰ d (without to ws) → Memᴰ d ws) → Memᴰ d (w ∷ ws)
    go true x k = Memᴰ.tail x
    go false x k = ⊎_elim (λ e. Memᴰ.head e) (λ r. Memᴰ.tail (k r)) (Memᴰ.cases_cons x)

-- what waits behind others is all that is new
push_waits : (ws : List Waiting) (x d : Waiting) → Memᴰ d (ws ++ (x ∷ [])) → Memᴰ d ws ⊎ (d ≡ x)
push_waits ws x d m = ⊎_elim inl (λ y. inr (Memᴰ.eq_of_singleton y)) (Memᴰ.append_cases ws m)

pub queue_laws : Laws queued queue_ready QueuePuts QueueTakes
queue_laws = record {
  put_waits = λ s t to b h d m. push_waits (queued s) (waiting to b) d (subst (λ (x : List Waiting). Memᴰ d x) h.0 m);
  ready_waits = λ s to b e. first_waits to (queued s) b e;
  take_waits = λ s t to h d m. without_waits to (queued s) d (subst (λ (x : List Waiting). Memᴰ d x) h.0 m);
}
