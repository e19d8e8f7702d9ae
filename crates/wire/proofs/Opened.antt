-- The value of a delta with a header given. Assumes nothing.
use Rattle.std.proofs.Common.{◌≡◌, ℕ, Bool, true, false, cond, eqb, ltb, List, length, Some, None, Ok, Err, Result, sym, refl, ap, ◌∙◌, arith}
use Rattle.std.proofs.lemmas.Bool.{and_parts, eqb-true, cond-true}
use Rattle.lattice.specs.Ops.{Ops, parts}
use Rattle.wire.specs.Datagrams.{opening, content, with_value, body, opened, reading, written, delta_bytes, parts_in}
use Rattle.wire.specs.Drafts.{same_header, of_delta}
use Rattle.wire.specs.declared.datagram.Datagram.{Datagram}
use Rattle.wire.specs.declared.datagram.Datagram.TheVariants.{Delta as delta, Ack as ack}
use Rattle.wire.specs.declared.datagram.Header.{Header}
use Rattle.wire.specs.declared.datagram.Sort.{Sort}
use Rattle.wire.specs.declared.datagram.Sort.TheVariants.{Delta, Ack}
use Rattle.wire.proofs.Once.{content_once}

none≢some : {A : Type 0} (x : A) → None ≡ Some x → ⊥
none≢some x e = let z : ◌≡◌ {A = ℕ} 0 1 = cc in omega arith

same_header_eq : (g h : Header) → same_header g h ≡ true → g ≡ h
same_header_eq g h e =
    let p = and_parts (eqb g.from h.from) _ e in
    let q = and_parts (eqb g.to h.to) _ p.1 in
    ap (λ (x : ℕ). record { from = x; to = g.to; number = g.number }) (eqb-true g.from h.from p.0)
    ∙ ap (λ (x : ℕ). record { from = h.from; to = x; number = g.number }) (eqb-true g.to h.to q.0)
    ∙ ap (λ (x : ℕ). record { from = h.from; to = h.to; number = x }) (eqb-true g.number h.number q.1)

module _ {K : Type 0} (o : Ops K) where
  -- the value of a delta with a header is its content
  pub content_of : (h : Header) (f : List ℕ) (v : K) → of_delta o h (reading o f) ≡ Some v → content o f ≡ Ok v
  content_of h f v e = go1 (ltb 1024 o.width) e
    where
      go5 : (t : Bool) (u : K) → content o f ≡ Ok u → cond t (Some u) None ≡ Some v → content o f ≡ Ok v
      go5 true u g k = let q : u ≡ v = cc in g ∙ ap Ok q
      go5 false u g k = absurd (none≢some v k)

      go4 : (g : Header) (r : Result K ℕ) → content o f ≡ r → of_delta o h (with_value g r) ≡ Some v → content o f ≡ Ok v
      go4 g (Ok u) j k = go5 (same_header g h) u j k
      go4 g (Err n) j k = absurd (none≢some v k)

      go6 : (g : Header) (t : Bool) → of_delta o h (cond t (Ok (ack g)) (Err 16)) ≡ Some v → content o f ≡ Ok v
      go6 g true k = absurd (none≢some v k)
      go6 g false k = absurd (none≢some v k)

      go3 : (s : Sort) (g : Header) → of_delta o h (body o f s g) ≡ Some v → content o f ≡ Ok v
      go3 Delta g k = go4 g (content o f) refl k
      go3 Ack g k = go6 g (eqb (length f) 10) k

      go2 : (r : Result (Sort × Header) ℕ) → of_delta o h (opened o f r) ≡ Some v → content o f ≡ Ok v
      go2 (Ok p) k = go3 p.0 p.1 k
      go2 (Err n) k = absurd (none≢some v k)

      go1 : (t : Bool) → of_delta o h (cond t (Err 3) (opened o f (opening f))) ≡ Some v → content o f ≡ Ok v
      go1 true k = absurd (none≢some v k)
      go1 false k = go2 (opening f) k

  -- what is known of a delta that was read with the header given
  pub delta_read : (h own : Header) (b : List ℕ) (v : K) (d : Datagram K) → d ≡ delta own v → Ok d ≡ reading o b → true ≡ same_header own h → written o d ≡ b
      → (Some v ≡ of_delta o h (reading o b)) × (delta_bytes h (parts o v) ≡ b) × (parts o v ≡ parts_in b)
  unfolding written
  delta_read h own b v d q e s y =
      let f : of_delta o h (reading o b) ≡ Some v = ap (of_delta o h) (sym e ∙ ap Ok q) ∙ cond-true (same_header own h) (Some v) None (sym s) in (
        sym f,
        ap (λ (k : Header). delta_bytes k (parts o v)) (sym (same_header_eq own h (sym s))) ∙ sym (ap (written o) q) ∙ y,
        (content_once o b v (content_of h b v f)).1,
      )
