-- Steps of a group of counters over a queue of 128 bytes. Assumes nothing.
use Rattle.std.proofs.Common.{◌≡◌, ℕ, ◌+◌, Bool, true, false, ltb, leb, List, [], ◌∷◌, ◌++◌, length, Some, Ok, Result, sym, refl, subst}
use Rattle.lattice.specs.declared.refusal.Refusal.{Refusal}
use Rattle.kinds.specs.Counters.{counter_ops}
use Rattle.kinds.specs.declared.counter.Counter.{Counter}
use Rattle.wire.specs.Datagrams.{written}
use Rattle.wire.specs.declared.datagram.Datagram.TheVariants.{Ack as ack}
use Rattle.wire.specs.declared.datagram.Header.{Header}
use Rattle.channel.specs.Meaning.{Waiting, waiting, admits, take_answer}
use Rattle.queue.specs.Packed.{cost, first_for, without}
use Rattle.history.specs.declared.answers.Outcome.{Outcome}
use Rattle.history.specs.declared.answers.Shipped.TheVariants.{Sent}
use Rattle.history.specs.declared.answers.Delivered.{Delivered}
use Rattle.history.specs.declared.answers.Delivered.TheVariants.{Joined, Heard}
use Rattle.history.specs.Group.{Group, Replica, header, size, replica, with_replica, Shipping, puts, shipping, Acceptance, joins, hears, accepting}
use Rattle.history.specs.Book.{Event, ship, deliver}
use Rattle.history.specs.History.{state, Ships, Accepts, Delivers, Step}
use Rattle.reached.specs.Run.{queue_line}
use Rattle.reached.proofs.Waits.{holding, fit, puts_holding, ready_holding, takes_holding}

-- a call's step, from a group and what waits to a group and what waits then
abbrev pub Goes : Event → Group Counter → List Waiting → Group Counter → List Waiting → Type 0
Goes e g ws g' vs = Step counter_ops queue_line e (state g (holding ws)) (state g' (holding vs))

-- the datagram may be put behind those that wait
pub record MayPut (ws : List Waiting) (to : ℕ) (b : List ℕ) : Type 0 where
  pub after : fit (ws ++ (waiting to b ∷ [])) ≡ true
  pub admitted : admits to (length b) ≡ Ok tt
  pub room : leb (cost ws + (4 + length b)) 128 ≡ true

module _ (g : Group Counter) (ws : List Waiting) (before : fit ws ≡ true) where
  -- a ship that puts
  pub ships_on : (r j room clock : ℕ) (b : List ℕ) → shipping counter_ops g r j room ≡ puts b clock → MayPut ws j b
      → Goes (ship r j room (Ok (Sent (length b) clock))) g ws g (ws ++ (waiting j b ∷ []))
  ships_on r j room clock b e p = (
    subst (λ (x : Shipping). Ships queue_line x j (Ok (Sent (length b) clock)) (holding ws) (holding (ws ++ (waiting j b ∷ [])))) (sym e)
        (Ok tt, puts_holding ws before j b p.after p.admitted p.room, refl),
    refl,
  )

  module _ (r : ℕ) (in_group : ltb r (size g) ≡ true) (b : List ℕ) (ready : first_for r ws ≡ Some b)
      (taken : take_answer r 10252 (Some b) ≡ Ok (Some (length b))) (after : fit (without r ws) ≡ true) where
    -- what the bytes taken come to
    abbrev accepted : Acceptance Counter
    accepted = accepting counter_ops (size g) g.limit r (replica counter_ops g r) b

    delivers_on : (answer : Result Delivered Refusal) (g' : Group Counter) (vs : List Waiting)
        → Accepts counter_ops queue_line r accepted answer g (holding (without r ws)) g' (holding vs)
        → Goes (deliver r 10252 (Some b) answer) g ws g' vs
    delivers_on answer g' vs p =
        subst (λ (t : Bool). Delivers counter_ops queue_line false t true r 10252 (Some b) answer g (holding ws) g' (holding vs)) (sym in_group)
        (holding (without r ws), Ok (Some (length b)), takes_holding ws before r 10252 b after ready taken, sym (ready_holding ws before r b ready), p)

    -- they are recorded and acknowledged
    pub joins_on : (outcome : Outcome) (p : Replica Counter) (h : Header) → accepted ≡ joins outcome p h
        → MayPut (without r ws) h.from (written counter_ops (ack (header r h.from h.number)))
        → Goes (deliver r 10252 (Some b) (Ok (Joined outcome p.clock true))) g ws
        (with_replica g r p) (without r ws ++ (waiting h.from (written counter_ops (ack (header r h.from h.number))) ∷ []))
    joins_on outcome p h e q =
        let a = written counter_ops (ack (header r h.from h.number)) in
        let vs = without r ws ++ (waiting h.from a ∷ []) in
        delivers_on (Ok (Joined outcome p.clock true)) (with_replica g r p) vs
        (subst (λ (x : Acceptance Counter). Accepts counter_ops queue_line r x (Ok (Joined outcome p.clock true)) g (holding (without r ws)) (with_replica g r p) (holding vs)) (sym e)
        (Ok tt, puts_holding (without r ws) after h.from a q.after q.admitted q.room, refl, refl))

    -- they are heard
    pub hears_on : (p : Replica Counter) (h : Header) → accepted ≡ hears p h
        → Goes (deliver r 10252 (Some b) (Ok (Heard h.from h.number))) g ws (with_replica g r p) (without r ws)
    hears_on p h e =
        delivers_on (Ok (Heard h.from h.number)) (with_replica g r p) (without r ws)
        (subst (λ (x : Acceptance Counter). Accepts counter_ops queue_line r x (Ok (Heard h.from h.number)) g (holding (without r ws)) (with_replica g r p) (holding (without r ws))) (sym e)
        (refl, refl, refl))
