-- What is written reads back. Assumes nothing.
use Rattle.std.proofs.Common.{◌≡◌, ℕ, zero, suc, ◌+◌, ◌*◌, ◌/◌, ◌%◌, ◌<◌, ◌≤◌, true, eqb, ltb, leb, List, [], ◌∷◌, ◌++◌, length, take, drop, Ok, sym, refl, ap, ◌∙◌, subst, arith}
use Rattle.std.specs.List.{AllByRecursion as All}
use Rattle.std.proofs.lemmas.Bool.{le-ltb, le-leb, eq-eqb, and_from, cond-true, cond-false}
use Rattle.std.proofs.lemmas.List.{append-nil, take_at}
use Rattle.lattice.specs.Laws.{Laws, Usable}
use Rattle.lattice.specs.Ops.{Ops, parts_at, parts, joined}
use Rattle.lattice.specs.Walks.{parts_from}
use Rattle.lattice.specs.declared.part.Part.{Part}
use Rattle.wire.specs.Bytes.{le, value, field, placed}
use Rattle.wire.specs.Datagrams.{delta_length, head, part_bytes, list_bytes, delta_bytes, listing, ack_bytes, header_in, listed, parts_in, same, ranged, content, with_value, opened, reading, written, ReadsBack}
use Rattle.wire.specs.declared.datagram.Datagram.TheVariants.{Delta as delta, Ack as ack}
use Rattle.wire.specs.declared.datagram.Header.{Header}
use Rattle.wire.proofs.Little.{value_le}
use Rattle.wire.proofs.Over.{length_delta_bytes, length_head}
use Rattle.lattice.proofs.Parts.{below_length, from_all, parts_all}
use Rattle.wire.proofs.Good.{opening_delta, opening_ack, content_good}

abbrev Small : Part → Type 0
Small p = (p.slot < 65536) × (p.level < 18446744073709551616)

pub listed_back : (ps : List Part) → All Small ps → listed (length ps) (list_bytes ps) ≡ ps
unfolding listed list_bytes part_bytes le value field
listed_back [] h = refl
listed_back (p ∷ ps) h =
    let s : p.slot % 256 + 256 * (p.slot / 256 % 256 + 256 * 0) ≡ p.slot = omega (arith, h.0.0) in
    ap (λ (t : ℕ). record { slot = t; level = value (le 8 p.level) } ∷ listed (length ps) (list_bytes ps)) s
    ∙ ap (λ (t : ℕ). record { slot = p.slot; level = t } ∷ listed (length ps) (list_bytes ps)) (value_le 8 p.level h.0.1)
    ∙ ap (λ (qs : List Part). p ∷ qs) (listed_back ps h.1)

pub same_refl : (ps : List Part) → same ps ps ≡ true
unfolding same
same_refl [] = refl
same_refl (p ∷ ps) = and_from (eqb p.slot p.slot) _ (eq-eqb p.slot p.slot refl) (and_from (eqb p.level p.level) _ (eq-eqb p.level p.level refl) (same_refl ps))

-- the head of a delta and of an acknowledgement
head_reads : (h : Header) (n s : ℕ) (t : List ℕ) → h.number < 4294967296 → n < 65536 → s < 65536
    → (header_in (head n s h ++ t) ≡ h) × (field (head n s h ++ t) 0 2 ≡ n) × (field (head n s h ++ t) 2 2 ≡ s)
unfolding head le value field
head_reads h n s t q k j =
    let e : value (le 4 h.number) ≡ h.number = value_le 4 h.number q in
    (ap (λ (m : ℕ). record { from = h.from; to = h.to; number = m }) e, omega arith, omega arith)

count_reads : (h : Header) (len s n : ℕ) (t : List ℕ) → n < 65536
    → (field (head len s h ++ (le 2 n ++ t)) 10 2 ≡ n) × (drop 12 (head len s h ++ (le 2 n ++ t)) ≡ t)
unfolding head le value field
count_reads h len s n t k = (omega arith, refl)

module _ {K : Type 0} (o : Ops K) (L : Laws o) where
  ranged_from : (x : K) (n s m : ℕ) → m ≤ s → ranged o m (parts_from o x s n) ≡ true
  unfolding ranged parts_from parts_at
  ranged_from x zero s m h = refl
  ranged_from x (suc n) s m h = go (o.level x s) refl (λ k q. ranged_from x n (suc s) k q)
    where
      go : (l : ℕ) → o.level x s ≡ l → ((k : ℕ) → k ≤ suc s → ranged o k (parts_from o x (suc s) n) ≡ true)
          → ranged o m (parts_at o s l ++ parts_from o x (suc s) n) ≡ true
      go zero e r = r m (omega arith)
      go (suc l) e r =
          and_from (leb m s) _ (le-leb m s h)
          (and_from (o.admits s (suc l)) _
          (subst (λ (k : ℕ). o.admits s k ≡ true) e (L.levels.admitted x s (omega (arith, e))))
          (r (suc s) (omega arith)))

  pub ranged_parts : (x : K) → ranged o 0 (parts o x) ≡ true
  ranged_parts x = ap (ranged o 0) (sym (from_all o x o.width)) ∙ ranged_from x o.width 0 0 (omega arith)

  small_parts : o.width ≤ 1024 → (x : K) → All Small (parts o x)
  small_parts w x =
      parts_all o Small x o.width (λ s l p. (omega arith, (L.levels.admits_level s (o.level x s) (L.levels.admitted x s p)).1))

  content_back : o.width ≤ 1024 → (h : Header) (v : K) → content o (delta_bytes h (parts o v)) ≡ Ok v
  unfolding listing
  content_back w h v =
      let ps = parts o v in
      let b = delta_bytes h ps in
      let few : length ps < 65536 = omega (arith, below_length o v o.width) in
      let n : field b 10 2 ≡ length ps = (count_reads h (12 + 10 * length ps) 1 (length ps) (list_bytes ps) few).0 in
      let q : parts_in b ≡ ps =
      ap (λ (m : ℕ). listed m (drop 12 b)) n ∙ ap (listed (length ps)) (count_reads h (12 + 10 * length ps) 1 (length ps) (list_bytes ps) few).1
      ∙ listed_back ps (small_parts w v) in
      let j : joined o (parts_in b) ≡ v = ap (joined o) q ∙ L.whole v in
      sym (content_good o b (length_delta_bytes h ps ∙ ap (λ (m : ℕ). 12 + 10 * m) (sym n))
      (subst (λ (rs : List Part). ranged o 0 rs ≡ true) (sym q) (ranged_parts v))
      (subst (λ (rs : List Part). same (parts o (joined o rs)) rs ≡ true) (sym q)
      (subst (λ (x : K). same (parts o x) ps ≡ true) (sym (L.whole v)) (same_refl ps))))
      ∙ ap Ok j

  pub reads_back : ReadsBack o
  unfolding written listing ack_bytes
  reads_back w (delta h v) fit =
      let ps = parts o v in
      let b = delta_bytes h ps in
      let few : 12 + 10 * length ps < 65536 = omega (arith, below_length o v o.width) in
      let r = head_reads h (12 + 10 * length ps) 1 (le 2 (length ps) ++ list_bytes ps) fit few (omega arith) in
      let long : length b ≡ 12 + 10 * length ps = length_delta_bytes h ps in
      cond-false (ltb 1024 o.width) _ _ (le-ltb 1024 o.width w)
      ∙ ap (opened o b) (sym (opening_delta b (omega arith) (r.1 ∙ sym long) r.2))
      ∙ ap (λ (g : Header). with_value g (content o b)) r.0
      ∙ ap (with_value h) (content_back w h v)
  reads_back w (ack h) fit =
      let b = ack_bytes h in
      let r = head_reads h 10 2 [] fit (omega arith) (omega arith) in
      let e : head 10 2 h ++ [] ≡ b = append-nil (head 10 2 h) in
      let long : length b ≡ 10 = length_head 10 2 h in
      let r0 : header_in b ≡ h = subst (λ (c : List ℕ). header_in c ≡ h) e r.0 in
      let r1 : field b 0 2 ≡ 10 = subst (λ (c : List ℕ). field c 0 2 ≡ 10) e r.1 in
      let r2 : field b 2 2 ≡ 2 = subst (λ (c : List ℕ). field c 2 2 ≡ 2) e r.2 in
      cond-false (ltb 1024 o.width) _ _ (le-ltb 1024 o.width w)
      ∙ ap (opened o b) (sym (opening_ack b (omega arith) (r1 ∙ sym long) r2))
      ∙ cond-true (eqb (length b) 10) _ _ (eq-eqb (length b) 10 long)
      ∙ ap (λ (g : Header). Ok (ack g)) r0

  -- a delta at the front of a buffer
  pub placed_back : Usable o → (h : Header) (v : K) (b c : List ℕ) (n : ℕ) → h.number < 4294967296 → n ≡ delta_length o v
      → c ≡ placed (delta_bytes h (parts o v)) b → reading o (take n c) ≡ Ok (delta h v)
  unfolding placed written
  placed_back w h v b c n fit en ec =
      let xs = delta_bytes h (parts o v) in
      ap (λ (z : List ℕ). reading o (take n z)) ec
      ∙ ap (reading o) (take_at xs (drop (length xs) b) n (length_delta_bytes h (parts o v) ∙ sym en))
      ∙ reads_back w (delta h v) fit
