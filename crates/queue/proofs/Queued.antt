-- What a search and the calls of a queue say of the datagrams that its bytes hold.
use Rattle.std.proofs.Common.{◌≡◌, ℕ, ◌+◌, ◌-◌, ◌<◌, ◌≤◌, Bool, true, false, cond, eqb, List, [], ◌∷◌, ◌++◌, length, take, drop, Some, None, sym, refl, subst, ap, ◌∙◌, ap₂, append_assoc, append-nil, arith, length-append, length-take, drop-drop, take_at, drop_at, eq-eqb}
use lib.Seq.{take-append-le}
use borrow.Rule.Slice.PartMut.{put_mid, post_of}
use Rattle.channel.specs.Meaning.{Waiting, waiting}
use Rattle.queue.specs.Packed.{encode, encodes, decode, first_for, without, cost, Walk, Ended, Reached, First}
use Rattle.queue.proofs.Heads.{is_fine}
use Rattle.queue.proofs.Packing.{length_encode, encodes_snoc, whole, cost_append, fine_snoc, first_append, without_append}
use Rattle.queue.proofs.Packing.{decode_none, decode_append, decode_cons, decode_encodes}

all_past : {bs : List ℕ} {to at : ℕ} (w : Walk bs to at) → decode w.suffix ≡ [] → decode bs ≡ w.past
all_past w e =
    ap decode w.split ∙ decode_append w.past w.suffix w.good ∙ ap (λ (x : List Waiting). w.past ++ x) e ∙ append-nil w.past

-- a search that found nothing
pub none_ready : {bs : List ℕ} {to : ℕ} → Ended bs to → first_for to (decode bs) ≡ None
none_ready {to = to} e = ap (first_for to) (all_past e.walk (decode_none e.walk.suffix e.over)) ∙ e.walk.others

-- a search that found a record, whose datagram is then cut from the bytes
pub first_is : {bs : List ℕ} {to at len : ℕ} → Reached bs to at len → First bs to at (take ((at + 4 + len) - (at + 4)) (drop (at + 4) bs))
unfolding encode first_for without
first_is {bs = bs} {to = to} {at = at} {len = len} r =
    let b = r.body in
    let more = r.more in
    let d = waiting to b in
    let past = r.walk.past in
    let is : bs ≡ encodes past ++ (encode d ++ more) = r.walk.split ∙ ap (λ (x : List ℕ). encodes past ++ x) r.is in
    let all : decode bs ≡ past ++ (d ∷ decode more) =
    ap decode is ∙ decode_append past (encode d ++ more) r.walk.good ∙ ap (λ (x : List Waiting). past ++ x) (decode_cons d more r.good) in
    let same : eqb to to ≡ true = eq-eqb to to refl in
    let from : drop at bs ≡ encode d ++ more = ap (drop at) is ∙ drop_at (encodes past) (encode d ++ more) at (sym r.walk.place) in
    let size : (at + 4 + len) - (at + 4) ≡ length b = omega (arith, r.long) in
    let cut : take ((at + 4 + len) - (at + 4)) (drop (at + 4) bs) ≡ b = ap (take _) (sym (drop-drop 4 at bs) ∙ ap (drop 4) from) ∙ take_at b more _ (sym size) in
    let behind : drop (at + (4 + length b)) bs ≡ more =
    sym (drop-drop (4 + length b) at bs) ∙ ap (drop (4 + length b)) from ∙ drop_at (encode d) more (4 + length b) (length_encode d) in
    let front : take at bs ≡ encodes past = ap (take at) is ∙ take_at (encodes past) (encode d ++ more) at (sym r.walk.place) in
    subst (First bs to at) (sym cut) (record {
      ready = ap (first_for to) all ∙ first_append to past (d ∷ decode more) r.walk.others ∙ ap (λ (t : Bool). cond t (Some b) (first_for to (decode more))) same;
      room = omega (arith, ap length is, length-append (encodes past) (encode d ++ more), length-append (encode d) more, length_encode d, r.walk.place);
      leaves =
          ap₂ (λ (x y : List ℕ). decode (x ++ y)) front behind ∙ decode_append past more r.walk.good
          ∙ sym (ap (without to) all ∙ without_append to past (d ∷ decode more) r.walk.others
          ∙ ap (λ (t : Bool). past ++ cond t (decode more) (d ∷ without to (decode more))) same);
    })

-- where it is cut
pub reached_room : {bs : List ℕ} {to at len : ℕ} → Reached bs to at len → at + (4 + len) ≤ length bs
reached_room {bs = bs} {to = to} r =
    let past = r.walk.past in
    let d = waiting to r.body in
    omega (arith, ap length (r.walk.split ∙ ap (λ (x : List ℕ). encodes past ++ x) r.is), length-append (encodes past) (encode d ++ r.more), length-append (encode d) r.more, length_encode d, r.walk.place, r.long)

-- a record stored behind others, at the front of the free bytes
module _ (xs zs r : List ℕ) (u k to : ℕ) (b : List ℕ) (within : u ≤ length xs) (packed : cost (decode (take u xs)) ≡ u) (known : to < 8) (some : 1 ≤ length b) (short : length b ≤ 10252)
    (is : zs ≡ encode (waiting to b) ++ r) where
  pub stored_decodes : decode (take (u + (4 + length b)) (put_mid u k xs zs)) ≡ decode (take u xs) ++ (waiting to b ∷ [])
  stored_decodes =
      let d = waiting to b in
      let bs = take u xs in
      let ws = decode bs in
      let free = post_of u k xs in
      let long : length bs ≡ u = omega (arith, length-take u xs) in
      let p = whole bs (packed ∙ sym long) in
      let one : bs ++ encode d ≡ encodes (ws ++ (d ∷ [])) = ap (λ (x : List ℕ). x ++ encode d) p.is ∙ sym (encodes_snoc ws d) in
      let end : length (bs ++ encode d) ≡ u + (4 + length b) = omega (arith, length-append bs (encode d), length_encode d) in
      let all : put_mid u k xs zs ≡ (bs ++ encode d) ++ (r ++ free) =
      ap (λ (x : List ℕ). bs ++ (x ++ free)) is ∙ ap (λ (x : List ℕ). bs ++ x) (append_assoc (encode d) r free) ∙ sym (append_assoc bs (encode d) (r ++ free)) in
      ap decode (ap (take (u + (4 + length b))) all ∙ take_at (bs ++ encode d) (r ++ free) _ end ∙ one)
      ∙ decode_encodes (ws ++ (d ∷ [])) (fine_snoc ws d p.good (is_fine d (record { to_is = known; low = some; high = short })))

  -- and so the bytes in use are still all records
  pub stored_cost : cost (decode (take (u + (4 + length b)) (put_mid u k xs zs))) ≡ u + (4 + length b)
  unfolding cost
  stored_cost = ap cost stored_decodes ∙ omega (arith, cost_append (decode (take u xs)) (waiting to b ∷ []))

-- what a datagram that is taken frees
cost_without : (to : ℕ) (ws : List Waiting) (b : List ℕ) → first_for to ws ≡ Some b → cost ws ≡ 4 + length b + cost (without to ws)
unfolding first_for without cost
cost_without to [] b e = cc
cost_without to (w ∷ ws) b e = go (eqb w.to to) e (cost_without to ws b)
  where
    go : (t : Bool) → cond t (Some w.bytes) (first_for to ws) ≡ Some b → (first_for to ws ≡ Some b → cost ws ≡ 4 + length b + cost (without to ws))
        → 4 + length w.bytes + cost ws ≡ 4 + length b + cost (cond t ws (w ∷ without to ws))
    go true x k = let y : w.bytes ≡ b = cc in omega (arith, ap length y)
    go false x k = omega (arith, k x)

-- what is left of the first u bytes once that record's gap is closed
module _ (xs zs : List ℕ) (u to at len : ℕ) (b : List ℕ) (within : u ≤ length xs) (same : length zs ≡ length (take u xs)) (f : First (take u xs) to at b) (l : len ≡ length b)
    (is : take (length (take u xs) - (4 + len)) zs ≡ take at (take u xs) ++ drop (at + (4 + len)) (take u xs)) where
  pub closed : decode (take (u - (4 + len)) (zs ++ drop u xs)) ≡ without to (decode (take u xs))
  closed =
      let long : length (take u xs) ≡ u = omega (arith, length-take u xs) in
      ap decode (take-append-le (u - (4 + len)) zs (drop u xs) (omega (arith, same, long)) ∙ ap (λ (x : ℕ). take (x - (4 + len)) zs) (sym long)
      ∙ is ∙ ap (λ (n : ℕ). take at (take u xs) ++ drop (at + (4 + n)) (take u xs)) l) ∙ f.leaves

  pub closed_cost : cost (decode (take u xs)) ≡ u → cost (decode (take (u - (4 + len)) (zs ++ drop u xs))) ≡ u - (4 + len)
  closed_cost k = ap cost closed ∙ omega (arith, cost_without to (decode (take u xs)) b f.ready, k, l)
