-- The two stages of reading together. Assumes nothing.
use Rattle.std.proofs.Common.{◌≡◌, ℕ, suc, ◌<◌, Bool, true, false, cond, ltb, List, [], ◌∷◌, get_or, IfOk, Ok, Err, Result, sym, ap, ◌∙◌}
use Rattle.lattice.specs.Ops.{Ops, walked}
use Rattle.wire.specs.Datagrams.{Bytes, opening, body, opened, reading, written}
use Rattle.wire.specs.Faults.{numbered}
use Rattle.wire.specs.declared.datagram.Datagram.{Datagram}
use Rattle.wire.specs.declared.datagram.Header.{Header}
use Rattle.wire.specs.declared.datagram.Sort.{Sort}
use Rattle.wire.specs.declared.fault.WireFault.{WireFault}
use Rattle.wire.proofs.Once.{reads_once}

all_bytes : (b : List ℕ) → ((i : ℕ) → get_or b i 0 < 256) → Bytes b
all_bytes [] h = tt
all_bytes (x ∷ b) h = (h 0, all_bytes b (λ i. h (suc i)))

module _ {K : Type 0} (o : Ops K) (b : List ℕ) where
  -- the second stage after the first
  pub both_stages : (s : Sort) (h : Header) (r : Result (Datagram K) ℕ) → Ok (s, h) ≡ walked o (opening b) → r ≡ walked o (body o b s h) → r ≡ reading o b
  both_stages s h r e f = go (ltb 1024 o.width) e f
    where
      go : (t : Bool) → Ok (s, h) ≡ cond t (Err 3) (opening b) → r ≡ cond t (Err 3) (body o b s h) → r ≡ cond t (Err 3) (opened o b (opening b))
      go true g k = cc
      go false g k = k ∙ ap (opened o b) g

  pub made_once : (r : Result (Datagram K) WireFault) → numbered r ≡ reading o b → ((i : ℕ) → get_or b i 0 < 256) → IfOk r (λ d. written o d ≡ b)
  made_once (Ok d) e y = reads_once o b (all_bytes b y) d (sym e)
  made_once (Err n) e y = tt
