-- Bytes that read are those that the datagram writes. Assumes nothing.
use Rattle.std.proofs.Common.{◌≡◌, ℕ, zero, suc, ◌+◌, ◌*◌, ◌≤◌, Bool, true, false, cond, eqb, ltb, ◌⊎◌, List, [], ◌∷◌, ◌++◌, length, get_or, take, drop, Ok, Err, Result, sym, refl, ap, ◌∙◌, inl, inr, ⊎_elim, arith}
use Rattle.std.proofs.lemmas.List.{append-nil, drop_all, append_assoc, length-take-le, length-drop, take-append-drop, drop-drop, drop_more}
use Rattle.std.proofs.lemmas.Bool.{ltb-false, eqb-true, and_parts, or_parts, not-false}
use Rattle.lattice.specs.Ops.{Ops, parts, joined}
use Rattle.lattice.specs.declared.part.Part.{Part}
use Rattle.wire.specs.Bytes.{le, value, field}
use Rattle.wire.specs.Datagrams.{Bytes, head, part_bytes, list_bytes, delta_bytes, listing, ack_bytes, header_in, opening, listed, parts_in, same, ranged, content, with_value, body, opened, written, ReadsOnce}
use Rattle.wire.specs.declared.datagram.Datagram.{Datagram}
use Rattle.wire.specs.declared.datagram.Datagram.TheVariants.{Delta as delta, Ack as ack}
use Rattle.wire.specs.declared.datagram.Header.{Header}
use Rattle.wire.specs.declared.datagram.Sort.{Sort}
use Rattle.wire.specs.declared.datagram.Sort.TheVariants.{Delta, Ack}
use Rattle.wire.proofs.Little.{le_value}

all_take : (n : ℕ) (b : List ℕ) → Bytes b → Bytes (take n b)
all_take zero b h = tt
all_take (suc n) [] h = tt
all_take (suc n) (x ∷ b) h = (h.0, all_take n b h.1)

all_drop : (n : ℕ) (b : List ℕ) → Bytes b → Bytes (drop n b)
all_drop zero b h = h
all_drop (suc n) [] h = tt
all_drop (suc n) (x ∷ b) h = all_drop n b h.1

-- the bytes of a field are those that stand there
le_field : (b : List ℕ) (at w : ℕ) → Bytes b → at + w ≤ length b → le w (field b at w) ≡ take w (drop at b)
unfolding field
le_field b at w h r =
    let c = take w (drop at b) in
    let n : length c ≡ w = length-take-le w (drop at b) (simp length-drop (omega arith)) in
    ap (λ (k : ℕ). le k (value c)) (sym n) ∙ le_value c (all_take w (drop at b) (all_drop at b h))

piece : (b : List ℕ) (at w n : ℕ) → at + w ≡ n → take w (drop at b) ++ drop n b ≡ drop at b
piece b at w n e = ap (λ (k : ℕ). take w (drop at b) ++ drop k b) (sym e) ∙ ap (λ (c : List ℕ). take w (drop at b) ++ c) (sym (drop-drop w at b)) ∙ take-append-drop w (drop at b)

-- the header of bytes, and what comes after it
head_once : (b : List ℕ) → Bytes b → 10 ≤ length b → head (field b 0 2) (field b 2 2) (header_in b) ++ drop 10 b ≡ b
unfolding head
head_once b h r =
    let H = get_or b 4 0 ∷ get_or b 5 0 ∷ take 4 (drop 6 b) in
    ap (λ (c : List ℕ). (c ++ (le 2 (field b 2 2) ++ (get_or b 4 0 ∷ get_or b 5 0 ∷ le 4 (field b 6 4)))) ++ drop 10 b) (le_field b 0 2 h (omega arith))
    ∙ ap (λ (c : List ℕ). (take 2 b ++ (c ++ (get_or b 4 0 ∷ get_or b 5 0 ∷ le 4 (field b 6 4)))) ++ drop 10 b) (le_field b 2 2 h (omega arith))
    ∙ ap (λ (c : List ℕ). (take 2 b ++ (take 2 (drop 2 b) ++ (get_or b 4 0 ∷ get_or b 5 0 ∷ c))) ++ drop 10 b) (le_field b 6 4 h (omega arith))
    ∙ append_assoc (take 2 b) (take 2 (drop 2 b) ++ H) (drop 10 b)
    ∙ ap (λ (c : List ℕ). take 2 b ++ c)
    (append_assoc (take 2 (drop 2 b)) H (drop 10 b)
    ∙ ap (λ (c : List ℕ). take 2 (drop 2 b) ++ c)
    (ap (λ (c : List ℕ). get_or b 4 0 ∷ get_or b 5 0 ∷ c) (piece b 6 4 10 refl)
    ∙ ap (λ (c : List ℕ). get_or b 4 0 ∷ c) (sym (drop_more b 5 0 (omega arith)))
    ∙ sym (drop_more b 4 0 (omega arith)))
    ∙ piece b 2 2 4 refl)
    ∙ take-append-drop 2 b

list_once : (n : ℕ) (b : List ℕ) → Bytes b → length b ≡ 10 * n → list_bytes (listed n b) ≡ b
unfolding listed list_bytes part_bytes
list_once zero [] h e = refl
list_once zero (x ∷ b) h e = absurd (omega arith)
list_once (suc n) b h e =
    ap (λ (c : List ℕ). (c ++ le 8 (field b 2 8)) ++ list_bytes (listed n (drop 10 b))) (le_field b 0 2 h (omega arith))
    ∙ ap (λ (c : List ℕ). (take 2 b ++ c) ++ list_bytes (listed n (drop 10 b))) (le_field b 2 8 h (omega arith))
    ∙ ap (λ (c : List ℕ). (take 2 b ++ take 8 (drop 2 b)) ++ c) (list_once n (drop 10 b) (all_drop 10 b h) (length-drop 10 b ∙ omega arith))
    ∙ append_assoc (take 2 b) (take 8 (drop 2 b)) (drop 10 b)
    ∙ ap (λ (c : List ℕ). take 2 b ++ c) (piece b 2 8 10 refl)
    ∙ take-append-drop 2 b

pub length_listed : (n : ℕ) (b : List ℕ) → length (listed n b) ≡ n
unfolding listed
length_listed zero b = refl
length_listed (suc n) b = ap suc (length_listed n (drop 10 b))

pub same_eq : (ps qs : List Part) → same ps qs ≡ true → ps ≡ qs
unfolding same
same_eq [] [] h = refl
same_eq [] (q ∷ qs) h = cc
same_eq (p ∷ ps) [] h = cc
same_eq (p ∷ ps) (q ∷ qs) h =
    let u = and_parts (eqb p.slot q.slot) _ h in
    let v = and_parts (eqb p.level q.level) _ u.1 in
    ap (λ (s : ℕ). record { slot = s; level = p.level } ∷ ps) (eqb-true p.slot q.slot u.0)
    ∙ ap (λ (l : ℕ). record { slot = q.slot; level = l } ∷ ps) (eqb-true p.level q.level v.0)
    ∙ ap (λ (rs : List Part). q ∷ rs) (same_eq ps qs v.1)

delta_once : (b : List ℕ) → Bytes b → 10 ≤ length b → field b 0 2 ≡ length b → field b 2 2 ≡ 1 → length b ≡ 12 + 10 * field b 10 2
    → delta_bytes (header_in b) (parts_in b) ≡ b
unfolding listing
delta_once b h r e s l =
    let n = field b 10 2 in
    let k : length (parts_in b) ≡ n = length_listed n (drop 12 b) in
    let t : le 2 (length (parts_in b)) ++ list_bytes (parts_in b) ≡ drop 10 b =
    ap (λ (m : ℕ). le 2 m ++ list_bytes (parts_in b)) k
    ∙ ap (λ (c : List ℕ). c ++ list_bytes (parts_in b)) (le_field b 10 2 h (omega arith))
    ∙ ap (λ (c : List ℕ). take 2 (drop 10 b) ++ c) (list_once n (drop 12 b) (all_drop 12 b h) (length-drop 12 b ∙ omega arith))
    ∙ piece b 10 2 12 refl in
    ap (λ (m : ℕ). head (12 + 10 * m) 1 (header_in b) ++ (le 2 (length (parts_in b)) ++ list_bytes (parts_in b))) k
    ∙ ap (λ (m : ℕ). head m 1 (header_in b) ++ (le 2 (length (parts_in b)) ++ list_bytes (parts_in b))) (sym l ∙ sym e)
    ∙ ap (λ (m : ℕ). head (field b 0 2) m (header_in b) ++ (le 2 (length (parts_in b)) ++ list_bytes (parts_in b))) (sym s)
    ∙ ap (λ (c : List ℕ). head (field b 0 2) (field b 2 2) (header_in b) ++ c) t
    ∙ head_once b h r

ack_once : (b : List ℕ) → Bytes b → length b ≡ 10 → field b 0 2 ≡ length b → field b 2 2 ≡ 2 → ack_bytes (header_in b) ≡ b
unfolding ack_bytes
ack_once b h l e s =
    ap (λ (m : ℕ). head m 2 (header_in b)) (sym (e ∙ l)) ∙ ap (λ (m : ℕ). head (field b 0 2) m (header_in b)) (sym s)
    ∙ sym (append-nil (head (field b 0 2) (field b 2 2) (header_in b)))
    ∙ ap (λ (c : List ℕ). head (field b 0 2) (field b 2 2) (header_in b) ++ c) (sym (drop_all 10 b (omega arith)))
    ∙ head_once b h (omega arith)

-- which way an answer came
pub cond_err : {A : Type 0} (t : Bool) (e : ℕ) (y : Result A ℕ) (d : A) → cond t (Err e) y ≡ Ok d → (t ≡ false) × (y ≡ Ok d)
cond_err true e y d h = (cc, cc)
cond_err false e y d h = (refl, h)

cond_ok : {A : Type 0} (t : Bool) (x : A) (y : Result A ℕ) (d : A) → cond t (Ok x) y ≡ Ok d → ((t ≡ true) × (x ≡ d)) ⊎ ((t ≡ false) × (y ≡ Ok d))
cond_ok true x y d h = inl (refl, cc)
cond_ok false x y d h = inr (refl, h)

pub cond_last : {A : Type 0} (t : Bool) (x : A) (e : ℕ) (d : A) → cond t (Ok x) (Err e) ≡ Ok d → (t ≡ true) × (x ≡ d)
cond_last true x e d h = (refl, cc)
cond_last false x e d h = (cc, cc)

-- what bytes that open are
pub record Opens (b : List ℕ) (s : Sort) (h : Header) : Type 0 where
  pub long : 10 ≤ length b
  pub fits : field b 0 2 ≡ length b
  pub sort : ((Delta ≡ s) × (field b 2 2 ≡ 1)) ⊎ ((Ack ≡ s) × (field b 2 2 ≡ 2))
  pub same : header_in b ≡ h

pub opens : (b : List ℕ) (s : Sort) (h : Header) → opening b ≡ Ok (s, h) → Opens b s h
opens b s h e =
    let p = cond_err _ 13 _ (s, h) e in
    let q = or_parts (ltb (length b) 10) _ p.0 in
    let l : 10 ≤ length b = ltb-false (length b) 10 q.0 in
    let f : field b 0 2 ≡ length b = eqb-true (field b 0 2) (length b) (not-false (eqb (field b 0 2) (length b)) q.1) in
    ⊎_elim
    (λ (u : (eqb (field b 2 2) 1 ≡ true) × ((Delta, header_in b) ≡ (s, h))).
    record { long = l; fits = f; sort = inl (ap (λ (x : Sort × Header). x.0) u.1, eqb-true (field b 2 2) 1 u.0); same = ap (λ (x : Sort × Header). x.1) u.1 })
    (λ (u : (eqb (field b 2 2) 1 ≡ false) × (cond (eqb (field b 2 2) 2) (Ok (Ack, header_in b)) (Err 14) ≡ Ok (s, h))).
    let v = cond_last (eqb (field b 2 2) 2) (Ack, header_in b) 14 (s, h) u.1 in
    record { long = l; fits = f; sort = inr (ap (λ (x : Sort × Header). x.0) v.1, eqb-true (field b 2 2) 2 v.0); same = ap (λ (x : Sort × Header). x.1) v.1 })
    (cond_ok (eqb (field b 2 2) 1) (Delta, header_in b) (cond (eqb (field b 2 2) 2) (Ok (Ack, header_in b)) (Err 14)) (s, h) p.1)

delta≢ack : Delta ≡ Ack → ⊥
delta≢ack e = let z : ◌≡◌ {A = ℕ} 0 1 = cc in omega arith

one_of : (b : List ℕ) (h : Header) → Opens b Delta h → field b 2 2 ≡ 1
one_of b h p = ⊎_elim (λ u. u.1) (λ u. absurd (delta≢ack (sym u.0))) p.sort

two_of : (b : List ℕ) (h : Header) → Opens b Ack h → field b 2 2 ≡ 2
two_of b h p = ⊎_elim (λ u. absurd (delta≢ack u.0)) (λ u. u.1) p.sort

module _ {K : Type 0} (o : Ops K) where
  pub content_once : (b : List ℕ) (v : K) → content o b ≡ Ok v → (length b ≡ 12 + 10 * field b 10 2) × (parts o v ≡ parts_in b)
  content_once b v e =
      let p = cond_last _ (joined o (parts_in b)) 16 v e in
      let q = and_parts (eqb (length b) (12 + 10 * field b 10 2)) _ p.0 in
      let r = and_parts (ranged o 0 (parts_in b)) _ q.1 in
      (eqb-true (length b) (12 + 10 * field b 10 2) q.0, ap (parts o) (sym p.1) ∙ same_eq (parts o (joined o (parts_in b))) (parts_in b) r.1)

  pub body_once : (b : List ℕ) → Bytes b → (s : Sort) (h : Header) (d : Datagram K) → Opens b s h → body o b s h ≡ Ok d → written o d ≡ b
  unfolding written
  body_once b y Delta h d p e = go (content o b) refl e
    where
      go : (r : Result K ℕ) → content o b ≡ r → with_value h r ≡ Ok d → written o d ≡ b
      go (Err n) f g = cc
      go (Ok v) f g =
          let c = content_once b v f in
          let q : d ≡ delta h v = cc in
          ap (written o) q ∙ ap (delta_bytes h) c.1 ∙ ap (λ (k : Header). delta_bytes k (parts_in b)) (sym p.same)
          ∙ delta_once b y p.long p.fits (one_of b h p) c.0
  body_once b y Ack h d p e =
      let c = cond_last (eqb (length b) 10) (ack h) 16 d e in
      ap (written o) (sym c.1) ∙ ap ack_bytes (sym p.same) ∙ ack_once b y (eqb-true (length b) 10 c.0) p.fits (two_of b h p)

  pub reads_once : ReadsOnce o
  reads_once b y d e = go (opening b) refl (cond_err (ltb 1024 o.width) 3 (opened o b (opening b)) d e).1
    where
      go : (r : Result (Sort × Header) ℕ) → opening b ≡ r → opened o b r ≡ Ok d → written o d ≡ b
      go (Err n) f g = cc
      go (Ok p) f g = body_once b y p.0 p.1 d (opens b p.0 p.1 f) g
