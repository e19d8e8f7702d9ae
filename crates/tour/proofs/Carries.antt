-- A difference that goes over as a datagram. Assumes nothing.
use Rattle.std.proofs.Common.{◌≡◌, ℕ, List, Ok, Result, ap, ◌∙◌, arith}
use Rattle.lattice.specs.Laws.{Lattice}
use Rattle.lattice.specs.Least.{Least}
use Rattle.lattice.specs.Ops.{Ops}
use Rattle.lattice.proofs.Order.{join_comm}
use Rattle.wire.specs.Datagrams.{reading}
use Rattle.wire.specs.declared.datagram.Datagram.{Datagram}
use Rattle.wire.specs.declared.datagram.Datagram.TheVariants.{Delta, Ack}
use Rattle.wire.specs.declared.datagram.Header.{Header}

module _ {K : Type 0} (o : Ops K) (here there d : K) (h : Header) (b f : List ℕ) (g : Datagram K)
    (same : f ≡ b) (back : reading o b ≡ Ok (Delta h d)) (read : Ok g ≡ reading o f) where
  arrives : ◌≡◌ {A = Result (Datagram K) ℕ} (Ok g) (Ok (Delta h d))
  arrives = read ∙ ap (reading o) same ∙ back

  -- the value that arrives is the difference, so the receiver ends at the join
  pub arrives_delta : (L : Lattice o) (own : Header) (v after : K) → g ≡ Delta own v → Least o here there d → after ≡ o.join there v → after ≡ o.join here there
  arrives_delta L own v after q l e =
      let i = arrives in
      let z : v ≡ d = cc in
      e ∙ ap (o.join there) z ∙ join_comm o L there d ∙ l.joins

  -- and no acknowledgement arrives
  pub arrives_ack : (own : Header) → g ≡ Ack own → ⊥
  arrives_ack own q = let i = arrives in let z : ◌≡◌ {A = ℕ} 0 1 = cc in omega arith
