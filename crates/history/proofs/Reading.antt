-- A datagram that reads, read in two stages. Assumes nothing.
use Rattle.std.proofs.Common.{◌≡◌, ℕ, eqb, ltb, List, length, Ok, Err, Result, sym, refl, ap, ◌∙◌}
use Rattle.lattice.specs.Ops.{Ops}
use Rattle.wire.specs.Datagrams.{body, content, header_of, opened, opening, reading, with_value}
use Rattle.wire.specs.declared.datagram.Datagram.{Datagram}
use Rattle.wire.specs.declared.datagram.Datagram.TheVariants.{Ack as ack}
use Rattle.wire.specs.declared.datagram.Header.{Header}
use Rattle.wire.specs.declared.datagram.Sort.{Sort}
use Rattle.wire.specs.declared.datagram.Sort.TheVariants.{Delta, Ack}
use Rattle.wire.proofs.Once.{cond_err, cond_last}

module _ {V : Type 0} (o : Ops V) (b : List ℕ) (d : Datagram V) where
  -- its sort, that its header opens it, and that the rest reads as it
  pub record ReadsAs : Type 0 where
    pub sort : Sort
    pub opens : opening b ≡ Ok (sort, header_of d)
    pub rest : body o b sort (header_of d) ≡ Ok d

  valued : (h : Header) (x : Result V ℕ) → with_value h x ≡ Ok d → h ≡ header_of d
  valued h (Ok v) e = cc
  valued h (Err n) e = cc

  header_is : (s : Sort) (h : Header) → body o b s h ≡ Ok d → h ≡ header_of d
  header_is Delta h e = valued h (content o b) e
  header_is Ack h e = ap header_of (cond_last (eqb (length b) 10) (ack h) 16 d e).1

  by_opening : (x : Result (Sort × Header) ℕ) → opening b ≡ x → opened o b x ≡ Ok d → ReadsAs
  by_opening (Ok (s, h)) e f =
      let same = header_is s h f in
      record { sort = s; opens = e ∙ ap (λ (k : Header). Ok (s, k)) same; rest = ap (body o b s) (sym same) ∙ f }
  by_opening (Err n) e f = cc

  pub reads_as : reading o b ≡ Ok d → ReadsAs
  reads_as e = by_opening (opening b) refl (cond_err (ltb 1024 o.width) 3 (opened o b (opening b)) d e).1
