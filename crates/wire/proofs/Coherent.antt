-- What a draft's buffer opens with. Assumes nothing.
use Rattle.std.proofs.Common.{◌≡◌, ℕ, zero, suc, ◌+◌, ◌*◌, true, eqb, List, [], ◌∷◌, ◌++◌, length, take, drop, Some, None, Ok, sym, refl, ap, ◌∙◌, arith}
use Rattle.std.proofs.lemmas.Bool.{eq-eqb, and_from, cond-true}
use Rattle.std.proofs.lemmas.List.{take_at, length-take-le, length_push}
use Rattle.lattice.specs.Laws.{Laws}
use Rattle.lattice.specs.Ops.{Ops, parts_at, parts_below, parts}
use Rattle.lattice.specs.declared.part.Part.{Part}
use Rattle.wire.specs.Bytes.{field, placed}
use Rattle.wire.specs.Datagrams.{reading, written, delta_bytes, parts_in}
use Rattle.wire.specs.declared.datagram.Datagram.TheVariants.{Delta as delta}
use Rattle.wire.specs.Drafts.{same_header, of_delta, so_far, longer_bytes, DraftsBegin, DraftsGrow}
use Rattle.wire.specs.declared.datagram.Header.{Header}
use Rattle.wire.proofs.Over.{length_delta_bytes}
use Rattle.wire.proofs.Back.{reads_back}
use Rattle.wire.proofs.Once.{content_once, length_listed}
use Rattle.wire.proofs.Grows.{follows_grows}
use Rattle.wire.proofs.Opened.{content_of}

same_self : (h : Header) → same_header h h ≡ true
same_self h =
    and_from (eqb h.from h.from) _ (eq-eqb h.from h.from refl)
    (and_from (eqb h.to h.to) _ (eq-eqb h.to h.to refl) (eq-eqb h.number h.number refl))

module _ {K : Type 0} (o : Ops K) where
  -- a delta at the front of a buffer
  placed_opens : (h : Header) (n : ℕ) (xs b : List ℕ) (v : K) → length xs ≡ 12 + 10 * n → reading o xs ≡ Ok (delta h v)
      → so_far o (record { header = h; count = n }) (placed xs b) ≡ Some v
  unfolding placed
  placed_opens h n xs b v e r =
      ap (λ (c : List ℕ). of_delta o h (reading o c)) (take_at xs (drop (length xs) b) (12 + 10 * n) e)
      ∙ ap (of_delta o h) r ∙ cond-true (same_header h h) (Some v) None (same_self h)

  module _ (L : Laws o) where
    bottom_parts : (n : ℕ) → parts_below o o.bottom n ≡ []
    unfolding parts_below parts_at
    bottom_parts zero = refl
    bottom_parts (suc n) =
        ap (λ (ps : List Part). ps ++ parts_at o n (o.level o.bottom n)) (bottom_parts n) ∙ ap (parts_at o n) (L.levels.bottom_level n)

    pub drafts_begin : DraftsBegin o
    unfolding written
    drafts_begin w h b q =
        placed_opens h 0 (delta_bytes h []) b o.bottom (length_delta_bytes h [])
        (ap (λ (ps : List Part). reading o (delta_bytes h ps)) (sym (bottom_parts o.width)) ∙ reads_back o L w (delta h o.bottom) q)

    pub drafts_grow : DraftsGrow o
    unfolding written
    drafts_grow w d b s l v q r e g =
        let F = take (12 + 10 * d.count) b in
        let c = content_once o F v (content_of o d.header F v e) in
        let p : Part = record { slot = s; level = l } in
        let ps : parts_in F ++ p ∷ [] ≡ parts o (o.join v (o.part s l)) =
        ap (λ (qs : List Part). qs ++ p ∷ []) (sym c.1) ∙ sym (follows_grows o L v s l g) in
        let n : length (parts_in F) ≡ d.count =
        omega (arith, length_listed (field F 10 2) (drop 12 F), c.0, length-take-le (12 + 10 * d.count) b (omega arith)) in
        placed_opens d.header (d.count + 1) (longer_bytes d b s l) b (o.join v (o.part s l))
        (length_delta_bytes d.header (parts_in F ++ p ∷ []) ∙ ap (λ (k : ℕ). 12 + 10 * k) (length_push (parts_in F) p ∙ ap (λ (k : ℕ). k + 1) n))
        (ap (λ (qs : List Part). reading o (delta_bytes d.header qs)) ps ∙ reads_back o L w (delta d.header (o.join v (o.part s l))) q)
