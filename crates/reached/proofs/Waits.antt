-- A queue of 128 bytes in which given datagrams wait, and its puts and takes. Assumes nothing.
use Rattle.std.proofs.Common.{◌≡◌, ℕ, ◌+◌, ◌-◌, Bool, true, false, cond, leb, List, [], ◌∷◌, ◌++◌, length, take, replicate, Some, None, Ok, Option, Result, sym, refl, ap, ◌∙◌, subst, ap₂, arith, length-append, take_at, leb-true}
use mathlib.Core.List.Memᴰ
use mathlib.Core.List.{Memᴰ}
use lib.ListN.{length-replicate}
use Rattle.channel.specs.Meaning.{Waiting, waiting, admits, then_own, take_answer}
use Rattle.queue.specs.Packed.{encodes, decode, cost, first_for, without, all_fine}
use Rattle.queue.specs.Queue.{queued, size, queue_denies, queue_ready}
use Rattle.queue.specs.declared.queue.Queue.{Queue}
use Rattle.queue.proofs.Packing.{both, cost_nil, decode_encodes, length_encodes}
use Rattle.history.specs.Lines.{Puts, Takes, Waited}
use Rattle.reached.specs.Run.{queue_line}

-- the records of the datagrams, and zeros
abbrev bytes : List Waiting → List ℕ
bytes ws = encodes ws ++ replicate (128 - cost ws) 0

-- they have their place in 128 bytes
abbrev pub fit : List Waiting → Bool
fit ws = cond (all_fine ws) (leb (cost ws) 128) false

module _ (ws : List Waiting) where
  read_back : fit ws ≡ true → decode (take (cost ws) (bytes ws)) ≡ ws
  read_back f =
      ap decode (take_at (encodes ws) (replicate (128 - cost ws) 0) (cost ws) (length_encodes ws)) ∙ decode_encodes ws (both (all_fine ws) (leb (cost ws) 128) f).0

  long : fit ws ≡ true → length (bytes ws) ≡ 128
  long f =
      let r = leb-true (cost ws) 128 (both (all_fine ws) (leb (cost ws) 128) f).1 in
      omega (arith, length-append (encodes ws) (replicate (128 - cost ws) 0), length_encodes ws, length-replicate {A = ℕ} (128 - cost ws) 0)

  -- the queue of them; of what has no place, an empty one
  queue_of : (t : Bool) → fit ws ≡ t → Queue
  queue_of true f = record {
    buf = record { ref_ptr = (0, 0); ghost_name = 0; now = bytes ws };
    used = cost ws;
    within = omega (arith, length-append (encodes ws) (replicate (128 - cost ws) 0), length_encodes ws);
    packed = ap cost (read_back f);
  }
  queue_of false f = record { buf = record { ref_ptr = (0, 0); ghost_name = 0; now = [] }; used = 0; within = omega arith; packed = cost_nil }

  pub holding : Queue
  holding = queue_of (fit ws) refl

  pub queued_holding : fit ws ≡ true → queued holding ≡ ws
  unfolding holding queue_of
  queued_holding f = go (fit ws) refl f
    where
      go : (t : Bool) (e : fit ws ≡ t) → t ≡ true → queued (queue_of t e) ≡ ws
      go true e h = read_back e
      go false e h = cc

  pub size_holding : fit ws ≡ true → size holding ≡ 128
  unfolding holding queue_of
  size_holding f = go (fit ws) refl f
    where
      go : (t : Bool) (e : fit ws ≡ t) → t ≡ true → size (queue_of t e) ≡ 128
      go true e h = long e
      go false e h = cc

module _ (ws : List Waiting) (f : fit ws ≡ true) where
  -- a put leaves the datagram behind the others
  pub puts_holding : (to : ℕ) (b : List ℕ) → fit (ws ++ (waiting to b ∷ [])) ≡ true → admits to (length b) ≡ Ok tt → leb (cost ws + (4 + length b)) 128 ≡ true
      → Puts queue_line (holding ws) to b (Ok tt) (holding (ws ++ (waiting to b ∷ [])))
  puts_holding to b f' a e =
      let vs = ws ++ (waiting to b ∷ []) in
      let here = queued_holding ws f in
      let long = size_holding ws f in
      let free : queue_denies (holding ws) to b ≡ None =
      ap₂ (λ (x : List Waiting) (n : ℕ). cond (leb (cost x + (4 + length b)) n) None (Some 12)) here long ∙ ap (λ (t : Bool). cond t None (Some 12)) e in (
        sym (ap₂ (λ (x : Result (Unit {0}) ℕ) (y : Option ℕ). then_own x y) a free),
        (queued_holding vs f' ∙ ap (λ (x : List Waiting). x ++ (waiting to b ∷ [])) (sym here), size_holding vs f' ∙ sym long),
      )

  -- what is ready is the first
  pub ready_holding : (to : ℕ) (b : List ℕ) → first_for to ws ≡ Some b → queue_ready (holding ws) to ≡ Some b
  ready_holding to b e = ap (first_for to) (queued_holding ws f) ∙ e

  -- a take leaves the others
  pub takes_holding : (to room : ℕ) (b : List ℕ) → fit (without to ws) ≡ true → first_for to ws ≡ Some b → take_answer to room (Some b) ≡ Ok (Some (length b))
      → Takes queue_line (holding ws) to room (Ok (Some (length b))) (holding (without to ws))
  takes_holding to room b f' e a = (
    sym (ap (take_answer to room) (ready_holding to b e) ∙ a),
    (
      queued_holding (without to ws) f' ∙ ap (without to) (sym (queued_holding ws f)),
      size_holding (without to ws) f' ∙ sym (size_holding ws f),
    ),
  )

  -- all of them may be lost
  pub lost_holding : fit [] ≡ true → Waited queue_line (holding ws) (holding [])
  lost_holding n x m = absurd (Memᴰ.not-nil (subst (λ (xs : List Waiting). Memᴰ x xs) (queued_holding [] n) m))
