-- Writes to a buffer, one after another. Assumes nothing.
use Rattle.std.proofs.Common.{◌≡◌, ℕ, ◌+◌, ◌*◌, ◌≤◌, List, [], ◌∷◌, ◌++◌, length, take, drop, sym, refl, ap, ◌∙◌, add-zero, zero-add, arith}
use Rattle.std.proofs.lemmas.List.{length_push, append-nil, append_assoc, length-append, length-take-le, length-drop, take-append-drop, take_at, drop_at, drop-drop}
use Rattle.lattice.specs.declared.part.Part.{Part}
use Rattle.wire.specs.Bytes.{le, over, placed}
use Rattle.wire.specs.Datagrams.{head, part_bytes, list_bytes, delta_bytes, listing}
use Rattle.wire.specs.declared.datagram.Header.{Header}
use Rattle.wire.proofs.Little.{length_le}

pub over_none : (b : List ℕ) (at : ℕ) → b ≡ over b at []
unfolding over
over_none b at = sym (ap (λ (n : ℕ). take at b ++ drop n b) (add-zero at) ∙ take-append-drop at b)

-- the two parts of a written buffer
over_front : (b : List ℕ) (at : ℕ) (xs : List ℕ) (n : ℕ) → at ≤ length b → at + length xs ≡ n → take n (over b at xs) ≡ take at b ++ xs
unfolding over
over_front b at xs n h e =
    ap (take n) (sym (append_assoc (take at b) xs (drop (at + length xs) b)))
    ∙ take_at (take at b ++ xs) (drop (at + length xs) b) n (length-append (take at b) xs ∙ omega (arith, length-take-le at b h))

over_back : (b : List ℕ) (at : ℕ) (xs : List ℕ) (n : ℕ) → at ≤ length b → at + length xs ≡ n → drop n (over b at xs) ≡ drop n b
unfolding over
over_back b at xs n h e =
    ap (drop n) (sym (append_assoc (take at b) xs (drop (at + length xs) b)))
    ∙ drop_at (take at b ++ xs) (drop (at + length xs) b) n (length-append (take at b) xs ∙ omega (arith, length-take-le at b h))
    ∙ ap (λ (k : ℕ). drop k b) e

pub over_more : (b : List ℕ) (at : ℕ) (xs ys : List ℕ) (n : ℕ) → at ≤ length b → at + length xs ≡ n → over (over b at xs) n ys ≡ over b at (xs ++ ys)
unfolding over
over_more b at xs ys n h e =
    let c = over b at xs in
    let p : drop (n + length ys) c ≡ drop (at + length (xs ++ ys)) b =
    sym (drop-drop (length ys) n c) ∙ ap (drop (length ys)) (over_back b at xs n h e) ∙ drop-drop (length ys) n b
    ∙ ap (λ (k : ℕ). drop k b) (omega (arith, length-append xs ys)) in
    ap (λ (zs : List ℕ). zs ++ (ys ++ drop (n + length ys) c)) (over_front b at xs n h e)
    ∙ append_assoc (take at b) xs (ys ++ drop (n + length ys) c)
    ∙ ap (λ (zs : List ℕ). take at b ++ zs) (sym (append_assoc xs ys (drop (n + length ys) c)) ∙ ap (λ (zs : List ℕ). (xs ++ ys) ++ zs) p)

-- a front that is written last
pub over_front_last : (b : List ℕ) (at : ℕ) (xs ys : List ℕ) → at ≤ length b → length ys ≡ at → over (over b at xs) 0 ys ≡ placed (ys ++ xs) b
unfolding over placed
over_front_last b at xs ys h e =
    let c = over b at xs in
    let p : drop (0 + length ys) c ≡ xs ++ drop (at + length xs) b =
    ap (λ (k : ℕ). drop k c) (zero-add (length ys) ∙ e) ∙ drop_at (take at b) (xs ++ drop (at + length xs) b) at (length-take-le at b h) in
    let q : at + length xs ≡ length (ys ++ xs) = omega (arith, length-append ys xs) in
    ap (λ (zs : List ℕ). ys ++ zs) (p ∙ ap (λ (k : ℕ). xs ++ drop k b) q) ∙ sym (append_assoc ys xs (drop (length (ys ++ xs)) b))

pub over_placed : (b xs : List ℕ) → over b 0 xs ≡ placed xs b
unfolding over placed
over_placed b xs = ap (λ (k : ℕ). xs ++ drop k b) (zero-add (length xs))

-- how long the pieces are
pub length_head : (n s : ℕ) (h : Header) → length (head n s h) ≡ 10
unfolding head
length_head n s h = simp (length-append, length_le)

pub length_part_bytes : (s l : ℕ) → length (part_bytes s l) ≡ 10
unfolding part_bytes
length_part_bytes s l = simp (length-append, length_le)

pub length_list_bytes : (ps : List Part) → length (list_bytes ps) ≡ 10 * length ps
unfolding list_bytes
length_list_bytes [] = refl
length_list_bytes (p ∷ ps) = length-append (part_bytes p.slot p.level) (list_bytes ps) ∙ omega (arith, length_part_bytes p.slot p.level, length_list_bytes ps)

pub length_delta_bytes : (h : Header) (ps : List Part) → length (delta_bytes h ps) ≡ 12 + 10 * length ps
unfolding listing
length_delta_bytes h ps =
    simp (length-append, length_head, length_le, length_list_bytes) (omega arith)

pub list_bytes_push : (ps : List Part) (s l : ℕ) → list_bytes (ps ++ record { slot = s; level = l } ∷ []) ≡ list_bytes ps ++ part_bytes s l
unfolding list_bytes
list_bytes_push [] s l = append-nil (part_bytes s l)
list_bytes_push (p ∷ ps) s l =
    ap (λ (zs : List ℕ). part_bytes p.slot p.level ++ zs) (list_bytes_push ps s l)
    ∙ sym (append_assoc (part_bytes p.slot p.level) (list_bytes ps) (part_bytes s l))

-- the head, then the count, after the parts
pub delta_written : (b : List ℕ) (h : Header) (ps : List Part) → 12 ≤ length b
    → over (over (over b 12 (list_bytes ps)) 0 (head (12 + 10 * length ps) 1 h)) 10 (le 2 (length ps)) ≡ placed (delta_bytes h ps) b
unfolding listing
delta_written b h ps r =
    let H = head (12 + 10 * length ps) 1 h in
    let C = le 2 (length ps) in
    over_more (over b 12 (list_bytes ps)) 0 H C 10 (omega arith) (omega (arith, length_head (12 + 10 * length ps) 1 h))
    ∙ over_front_last b 12 (list_bytes ps) (H ++ C) r (length-append H C ∙ omega (arith, length_head (12 + 10 * length ps) 1 h, length_le 2 (length ps)))
    ∙ ap (λ (zs : List ℕ). placed zs b) (append_assoc H C (list_bytes ps))

-- a part, its two numbers one by one
pub part_over : (b : List ℕ) (at s l : ℕ) → at ≤ length b → over (over b at (le 2 s)) (at + 2) (le 8 l) ≡ over b at (part_bytes s l)
unfolding part_bytes
part_over b at s l h = over_more b at (le 2 s) (le 8 l) (at + 2) h (omega (arith, length_le 2 s))

-- one part more
pub part_written : (b0 b b' : List ℕ) (ps qs : List Part) (n s l : ℕ) (xs : List ℕ) → 12 ≤ length b0 → n ≡ length ps → b ≡ over b0 12 (list_bytes ps)
    → xs ≡ part_bytes s l → b' ≡ over b (12 + 10 * n) xs → qs ≡ ps ++ record { slot = s; level = l } ∷ [] → b' ≡ over b0 12 (list_bytes qs)
part_written b0 b b' ps qs n s l xs r en eb ex e eq =
    e ∙ ap (λ (c : List ℕ). over c (12 + 10 * n) xs) eb ∙ ap (over (over b0 12 (list_bytes ps)) (12 + 10 * n)) ex
    ∙ over_more b0 12 (list_bytes ps) (part_bytes s l) (12 + 10 * n) r (omega (arith, length_list_bytes ps))
    ∙ ap (over b0 12) (sym (list_bytes_push ps s l) ∙ ap list_bytes (sym eq))

-- the header and the count, put before the parts
pub delta_put : (b0 b1 b2 : List ℕ) (h : Header) (ps : List Part) (n : ℕ) → 12 ≤ length b0 → n ≡ length ps → b1 ≡ over b0 12 (list_bytes ps)
    → b2 ≡ over (over b1 0 (head (12 + 10 * n) 1 h)) 10 (le 2 n) → b2 ≡ placed (delta_bytes h ps) b0
delta_put b0 b1 b2 h ps n r en e1 e2 =
    e2
    ∙ ap (λ (m : ℕ). over (over b1 0 (head (12 + 10 * m) 1 h)) 10 (le 2 m)) en
    ∙ ap (λ (b : List ℕ). over (over b 0 (head (12 + 10 * length ps) 1 h)) 10 (le 2 (length ps))) e1
    ∙ delta_written b0 h ps r

pub begin_put : (b0 b2 : List ℕ) (h : Header) → 12 ≤ length b0 → b2 ≡ over (over b0 0 (head 12 1 h)) 10 (le 2 0) → b2 ≡ placed (delta_bytes h []) b0
unfolding list_bytes
begin_put b0 b2 h r e = delta_put b0 b0 b2 h [] 0 r refl (over_none b0 12) e

over_same : (b : List ℕ) (at w : ℕ) (xs : List ℕ) → at + w ≤ length b → xs ≡ take w (drop at b) → over b at xs ≡ b
unfolding over
over_same b at w xs r e =
    let n : length xs ≡ w = ap length e ∙ length-take-le w (drop at b) (simp length-drop (omega arith)) in
    ap (λ (k : ℕ). take at b ++ (xs ++ drop (at + k) b)) n
    ∙ ap (λ (c : List ℕ). take at b ++ (c ++ drop (at + w) b)) e
    ∙ ap (λ (c : List ℕ). take at b ++ (take w (drop at b) ++ c)) (sym (drop-drop w at b))
    ∙ ap (λ (c : List ℕ). take at b ++ c) (take-append-drop w (drop at b))
    ∙ take-append-drop at b

-- a part is put after those that stand there
pub add_put : (b0 b1 b2 P : List ℕ) (h : Header) (ps : List Part) (n s l : ℕ) → 22 + 10 * n ≤ length b0 → n ≡ length ps
    → list_bytes ps ≡ take (10 * n) (drop 12 b0) → P ≡ part_bytes s l → b1 ≡ over b0 (12 + 10 * n) P
    → b2 ≡ over (over b1 0 (head (12 + 10 * (n + 1)) 1 h)) 10 (le 2 (n + 1))
    → b2 ≡ placed (delta_bytes h (ps ++ record { slot = s; level = l } ∷ [])) b0
add_put b0 b1 b2 P h ps n s l r en el ep e1 e2 =
    let qs = ps ++ record { slot = s; level = l } ∷ [] in
    delta_put b0 b1 b2 h qs (n + 1) (omega arith) (ap (λ (k : ℕ). k + 1) en ∙ sym (length_push ps (record { slot = s; level = l })))
    (part_written b0 b0 b1 ps qs n s l P (omega arith) en (sym (over_same b0 12 (10 * n) (list_bytes ps) (omega arith) el)) ep e1 refl)
    e2
