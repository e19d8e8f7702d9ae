-- What good bytes read as. Assumes nothing.
use Rattle.std.proofs.Common.{◌≡◌, ℕ, ◌+◌, ◌*◌, ◌≤◌, true, cond, eqb, ltb, List, length, Ok, Err, sym, ◌∙◌, arith}
use Rattle.std.proofs.lemmas.Bool.{le-ltb, eq-eqb, ne_eqb, and_from, or_from, not_from_true, cond-true, cond-false}
use Rattle.lattice.specs.Ops.{Ops, joined}
use Rattle.wire.specs.Bytes.{field}
use Rattle.wire.specs.Datagrams.{header_in, opening, parts_in, ranged, unmixed, content}
use Rattle.wire.specs.declared.datagram.Sort.TheVariants.{Delta, Ack}

-- opening
opening_sorts : (b : List ℕ) → 10 ≤ length b → field b 0 2 ≡ length b
    → opening b ≡ cond (eqb (field b 2 2) 1) (Ok (Delta, header_in b)) (cond (eqb (field b 2 2) 2) (Ok (Ack, header_in b)) (Err 14))
opening_sorts b h e =
    cond-false _ _ _ (or_from (ltb (length b) 10) _ (le-ltb (length b) 10 h) (not_from_true (eqb (field b 0 2) (length b)) (eq-eqb (field b 0 2) (length b) e)))

pub opening_delta : (b : List ℕ) → 10 ≤ length b → field b 0 2 ≡ length b → field b 2 2 ≡ 1 → Ok (Delta, header_in b) ≡ opening b
opening_delta b h e s = sym (opening_sorts b h e ∙ cond-true _ _ _ (eq-eqb (field b 2 2) 1 s))

pub opening_ack : (b : List ℕ) → 10 ≤ length b → field b 0 2 ≡ length b → field b 2 2 ≡ 2 → Ok (Ack, header_in b) ≡ opening b
opening_ack b h e s = sym (opening_sorts b h e ∙ cond-false _ _ _ (ne_eqb (field b 2 2) 1 (omega arith)) ∙ cond-true _ _ _ (eq-eqb (field b 2 2) 2 s))

-- the content of a delta
module _ {K : Type 0} (o : Ops K) (b : List ℕ) where
  pub content_good : length b ≡ 12 + 10 * field b 10 2 → ranged o 0 (parts_in b) ≡ true → unmixed o (parts_in b) ≡ true → Ok (joined o (parts_in b)) ≡ content o b
  content_good e r u =
      sym (cond-true _ _ _ (and_from (eqb (length b) (12 + 10 * field b 10 2)) _ (eq-eqb (length b) (12 + 10 * field b 10 2) e) (and_from (ranged o 0 (parts_in b)) _ r u)))
