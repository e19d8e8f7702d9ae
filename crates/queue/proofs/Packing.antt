-- Records written and read back, and what stays before others.
use Rattle.std.proofs.Common.{◌≡◌, ℕ, zero, suc, ◌+◌, ◌≤◌, Bool, true, false, cond, eqb, List, [], ◌∷◌, ◌++◌, length, get_or, take, drop, Some, None, Option, sym, refl, ap, ◌∙◌, ap₂, append_assoc, append-nil, arith, length-append, length-drop, drop-drop, take_at, drop_at}
use Rattle.std.proofs.lemmas.Bool.{and_parts, and_from}
use Rattle.std.proofs.lemmas.Bool.Decides.{nat_tests}
use Rattle.channel.specs.Meaning.{Waiting, waiting}
use Rattle.queue.specs.Packed.{encode, encodes, lead, records, decode, first_for, without, cost, fine, all_fine}
use Rattle.queue.proofs.Heads.{fine_is, stands_lead, lead_none, led}

pub length_encode : (w : Waiting) → length (encode w) ≡ 4 + length w.bytes
unfolding encode
length_encode w = omega arith

pub encodes_append : (us vs : List Waiting) → encodes (us ++ vs) ≡ encodes us ++ encodes vs
unfolding encodes
encodes_append [] vs = refl
encodes_append (u ∷ us) vs = ap (λ (xs : List ℕ). encode u ++ xs) (encodes_append us vs) ∙ sym (append_assoc (encode u) (encodes us) (encodes vs))

pub encodes_snoc : (us : List Waiting) (w : Waiting) → encodes (us ++ (w ∷ [])) ≡ encodes us ++ encode w
unfolding encodes
encodes_snoc us w = encodes_append us (w ∷ []) ∙ ap (λ (x : List ℕ). encodes us ++ x) (append-nil (encode w))

pub length_encodes : (ws : List Waiting) → length (encodes ws) ≡ cost ws
unfolding encodes cost
length_encodes [] = refl
length_encodes (w ∷ ws) = omega (arith, length-append (encode w) (encodes ws), length_encode w, length_encodes ws)

-- a record says its datagram's length
lead_encode : (w : Waiting) (rest : List ℕ) → fine w ≡ true → lead (encode w ++ rest) ≡ Some (length w.bytes)
unfolding encode
lead_encode w rest e =
    let f = fine_is w e in
    let long : length (w.bytes ++ rest) ≡ length w.bytes + length rest = length-append w.bytes rest in
    stands_lead (encode w ++ rest) (length w.bytes) (record { to_is = f.to_is; byte = omega arith; zeroed = refl; long = omega arith; low = f.low; high = f.high; fits = omega arith })

-- records by what their front says; their bound does not change them once it covers the bytes
next : ℕ → List ℕ → Option ℕ → List Waiting
unfolding records
next n bs o = elim o [ None ↦ [] | Some k ↦ waiting (get_or bs 0 0) (take k (drop 4 bs)) ∷ records n (drop (4 + k) bs) ]

no_lead : (bs : List ℕ) → length bs ≤ 0 → lead bs ≡ None
no_lead bs h = lead_none bs (λ n s. omega (arith, s.fits))

fuel : (n m : ℕ) (bs : List ℕ) → length bs ≤ n → length bs ≤ m → records n bs ≡ records m bs
unfolding records next
fuel zero zero bs h k = refl
fuel zero (suc m) bs h k = sym (ap (next m bs) (no_lead bs h))
fuel (suc n) zero bs h k = ap (next n bs) (no_lead bs k)
fuel (suc n) (suc m) bs h k = go (lead bs) (λ i. let l = length-drop (4 + i) bs in fuel n m (drop (4 + i) bs) (omega arith) (omega arith))
  where
    go : (o : Option ℕ) → ((i : ℕ) → records n (drop (4 + i) bs) ≡ records m (drop (4 + i) bs)) → next n bs o ≡ next m bs o
    go None f = refl
    go (Some i) f = ap (λ (x : List Waiting). waiting (get_or bs 0 0) (take i (drop 4 bs)) ∷ x) (f i)

pub decode_none : (bs : List ℕ) → lead bs ≡ None → decode bs ≡ []
unfolding decode records next
decode_none bs e = go (length bs)
  where
    go : (n : ℕ) → records n bs ≡ []
    go zero = refl
    go (suc n) = ap (next n bs) e

records_cons : (n : ℕ) (w : Waiting) (rest : List ℕ) → fine w ≡ true → length rest ≤ n → records (suc n) (encode w ++ rest) ≡ w ∷ decode rest
unfolding records next decode encode
records_cons n w rest e h =
    let xs = encode w ++ rest in
    let len = length w.bytes in
    let after : drop (4 + len) xs ≡ rest = sym (drop-drop len 4 xs) ∙ drop_at w.bytes rest len refl in
    ap (next n xs) (lead_encode w rest e)
    ∙ ap₂ (λ (x : List ℕ) (y : List Waiting). waiting w.to x ∷ y) (take_at w.bytes rest len refl) (ap (records n) after ∙ fuel n (length rest) rest h (omega arith))

pub decode_cons : (w : Waiting) (rest : List ℕ) → fine w ≡ true → decode (encode w ++ rest) ≡ w ∷ decode rest
unfolding decode
decode_cons w rest e =
    let n = 3 + (length w.bytes + length rest) in
    let one : length (encode w ++ rest) ≡ suc n = omega (arith, length-append (encode w) rest, length_encode w) in
    ap (λ (x : ℕ). records x (encode w ++ rest)) one ∙ records_cons n w rest e (omega arith)

-- two tests that both say yes, as `reached` asks
pub both : (a b : Bool) → cond a b false ≡ true → (a ≡ true) × (b ≡ true)
both a b e = (grind (arith, nat_tests), grind (arith, nat_tests))

pub decode_append : (us : List Waiting) (rest : List ℕ) → all_fine us ≡ true → decode (encodes us ++ rest) ≡ us ++ decode rest
unfolding encodes all_fine
decode_append [] rest e = refl
decode_append (u ∷ us) rest e =
    let b = and_parts (fine u) (all_fine us) e in
    ap decode (append_assoc (encode u) (encodes us) rest)
    ∙ decode_cons u (encodes us ++ rest) b.0 ∙ ap (λ (x : List Waiting). u ∷ x) (decode_append us rest b.1)

pub decode_nil : decode [] ≡ []
unfolding decode records
decode_nil = refl

pub cost_nil : cost (decode []) ≡ 0
unfolding decode records cost
cost_nil = refl

pub decode_encodes : (us : List Waiting) → all_fine us ≡ true → decode (encodes us) ≡ us
decode_encodes us e =
    ap decode (sym (append-nil (encodes us))) ∙ decode_append us [] e ∙ ap (λ (x : List Waiting). us ++ x) decode_nil ∙ append-nil us

pub fine_snoc : (us : List Waiting) (w : Waiting) → all_fine us ≡ true → fine w ≡ true → all_fine (us ++ (w ∷ [])) ≡ true
unfolding all_fine
fine_snoc [] w e f = and_from (fine w) true f refl
fine_snoc (u ∷ us) w e f =
    let b = and_parts (fine u) (all_fine us) e in
    and_from (fine u) (all_fine (us ++ (w ∷ []))) b.0 (fine_snoc us w b.1 f)

-- any bytes are records, and then a rest
record Parsed (ws : List Waiting) (bs : List ℕ) : Type 0 where
  rest : List ℕ
  is : bs ≡ encodes ws ++ rest
  good : all_fine ws ≡ true

parsed : (n : ℕ) (bs : List ℕ) → Parsed (records n bs) bs
unfolding records next encodes all_fine
parsed zero bs = record { rest = bs; is = refl; good = refl }
parsed (suc n) bs = go (lead bs) refl (λ k. parsed n (drop (4 + k) bs))
  where
    go : (o : Option ℕ) → lead bs ≡ o → ((k : ℕ) → Parsed (records n (drop (4 + k) bs)) (drop (4 + k) bs)) → Parsed (next n bs o) bs
    go None e f = record { rest = bs; is = refl; good = refl }
    go (Some k) e f =
        let l = led bs k e in
        let p = f k in
        let w = waiting (get_or bs 0 0) (take k (drop 4 bs)) in
        let ws = records n (drop (4 + k) bs) in
        record {
          rest = p.rest;
          is = l.is ∙ ap (λ (x : List ℕ). encode w ++ x) p.is ∙ sym (append_assoc (encode w) (encodes ws) p.rest);
          good = and_from (fine w) (all_fine ws) l.good p.good;
        }

-- bytes that are all records
pub record Whole (bs : List ℕ) : Type 0 where
  pub is : bs ≡ encodes (decode bs)
  pub good : all_fine (decode bs) ≡ true

pub whole : (bs : List ℕ) → cost (decode bs) ≡ length bs → Whole bs
unfolding decode
whole bs h = go p.rest p.is
  where
    p : Parsed (decode bs) bs
    p = parsed (length bs) bs

    go : (r : List ℕ) → bs ≡ encodes (decode bs) ++ r → Whole bs
    go [] e = record { is = e ∙ append-nil (encodes (decode bs)); good = p.good }
    go (x ∷ r) e = absurd (omega (arith, ap length e, length-append (encodes (decode bs)) (x ∷ r), length_encodes (decode bs)))

pub cost_append : (us vs : List Waiting) → cost (us ++ vs) ≡ cost us + cost vs
unfolding cost
cost_append [] vs = omega arith
cost_append (u ∷ us) vs = omega (arith, cost_append us vs)

-- what waits for others changes nothing for a receiver
not_first : (t : Bool) (b : List ℕ) (o : Option (List ℕ)) → cond t (Some b) o ≡ None → (o ≡ None) × (t ≡ false)
not_first true b o e = cc
not_first false b o e = (e, refl)

pub first_append : (to : ℕ) (us vs : List Waiting) → first_for to us ≡ None → first_for to (us ++ vs) ≡ first_for to vs
unfolding first_for
first_append to [] vs e = refl
first_append to (u ∷ us) vs e =
    let h = not_first (eqb u.to to) u.bytes (first_for to us) e in
    ap (λ (t : Bool). cond t (Some u.bytes) (first_for to (us ++ vs))) h.1 ∙ first_append to us vs h.0

pub without_append : (to : ℕ) (us vs : List Waiting) → first_for to us ≡ None → without to (us ++ vs) ≡ us ++ without to vs
unfolding first_for without
without_append to [] vs e = refl
without_append to (u ∷ us) vs e =
    let h = not_first (eqb u.to to) u.bytes (first_for to us) e in
    ap (λ (t : Bool). cond t (us ++ vs) (u ∷ without to (us ++ vs))) h.1 ∙ ap (λ (x : List Waiting). u ∷ x) (without_append to us vs h.0)
