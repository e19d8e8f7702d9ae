-- The walk over packed records, and bytes moved.
use Rattle.std.proofs.Common.{◌≡◌, ℕ, ◌+◌, ◌-◌, ◌≤◌, Bool, false, cond, eqb, List, [], ◌∷◌, ◌++◌, length, get_or, take, drop, Some, None, sym, refl, ap, ◌∙◌, ap₂, append_assoc, arith, length-append, length-drop, get_or-drop, take_all, drop_at, ne_eqb}
use lib.Seq.{paste, take-paste}
use Rattle.channel.specs.Meaning.{Waiting, waiting}
use Rattle.queue.specs.Packed.{encode, encodes, lead, first_for, fine, all_fine, Walk, Ended, Reached}
use Rattle.queue.proofs.Heads.{Led, led}
use Rattle.queue.proofs.Packing.{length_encode, encodes_snoc, fine_snoc, first_append}

pub walk_start : (bs : List ℕ) (to : ℕ) → Walk bs to 0
unfolding encodes first_for all_fine
walk_start bs to = record { past = []; suffix = bs; split = refl; place = refl; good = refl; others = refl }

module _ {bs : List ℕ} {to at : ℕ} (w : Walk bs to at) where
  -- the bytes from the walk's place on, as the code cuts them
  suffix_is : take (length bs - at) (drop at bs) ≡ w.suffix
  suffix_is =
      take_all (length bs - at) (drop at bs) (omega (arith, length-drop at bs))
      ∙ ap (drop at) w.split ∙ drop_at (encodes w.past) w.suffix at (sym w.place)

  -- the record at the walk's place
  at_record : (n : ℕ) → Some n ≡ lead (take (length bs - at) (drop at bs)) → Led w.suffix n
  at_record n e = led w.suffix n (ap lead (sym suffix_is) ∙ sym e)

  head_is : get_or bs at 0 ≡ get_or w.suffix 0 0
  head_is =
      let z : at + 0 ≡ at = omega arith in
      ap (λ (x : ℕ). get_or bs x 0) (sym z) ∙ sym (get_or-drop at bs 0 0)
      ∙ ap (λ (x : List ℕ). get_or x 0 0) (ap (drop at) w.split ∙ drop_at (encodes w.past) w.suffix at (sym w.place))

  pub walk_next : (n : ℕ) → Some n ≡ lead (take (length bs - at) (drop at bs)) → (get_or bs at 0 ≡ to → ⊥) → Walk bs to (at + (4 + n))
  unfolding first_for
  walk_next n e away =
      let k = at_record n e in
      let head = waiting (get_or w.suffix 0 0) (take n (drop 4 w.suffix)) in
      let rest = drop (4 + n) w.suffix in
      let apart : eqb head.to to ≡ false = ne_eqb head.to to (λ x. away (head_is ∙ x)) in
      let one = encodes_snoc w.past head in
      record {
        past = w.past ++ (head ∷ []);
        suffix = rest;
        split =
            w.split ∙ ap (λ (x : List ℕ). encodes w.past ++ x) k.is ∙ sym (append_assoc (encodes w.past) (encode head) rest)
            ∙ ap (λ (x : List ℕ). x ++ rest) (sym one);
        place = sym (ap length one ∙ omega (arith, length-append (encodes w.past) (encode head), length_encode head, k.long, w.place));
        good = fine_snoc w.past head w.good k.good;
        others = first_append to w.past (head ∷ []) w.others ∙ ap (λ (t : Bool). cond t (Some head.bytes) None) apart;
      }

  pub walk_found : (n : ℕ) → Some n ≡ lead (take (length bs - at) (drop at bs)) → get_or bs at 0 ≡ to → Reached bs to at n
  walk_found n e same =
      let k = at_record n e in
      let b = take n (drop 4 w.suffix) in
      let rest = drop (4 + n) w.suffix in
      let is : waiting (get_or w.suffix 0 0) b ≡ waiting to b = ap (λ (x : ℕ). waiting x b) (sym head_is ∙ same) in
      record {
        walk = w;
        body = b;
        more = rest;
        is = k.is ∙ ap (λ (x : Waiting). encode x ++ rest) is;
        good = sym (ap fine is) ∙ k.good;
        long = sym k.long;
      }

  pub walk_none : None ≡ lead (take (length bs - at) (drop at bs)) → Ended bs to
  walk_none e = record { at = at; walk = w; over = ap lead (sym suffix_is) ∙ sym e }

-- what stood behind a gap moved down over it
pub moved : (old cur : List ℕ) (at gap n : ℕ) → at + gap ≤ length old → n ≡ length old - (at + gap) → cur ≡ paste old at (drop (at + gap) old) n
    → take (length old - gap) cur ≡ take at old ++ drop (at + gap) old
moved old cur at gap n h en e =
    let s = drop (at + gap) old in
    let long : length s ≡ n = length-drop (at + gap) old ∙ sym en in
    let to : length old - gap ≡ at + n = omega arith in
    ap₂ take to e ∙ take-paste old at s n (omega arith) (omega arith) ∙ ap (λ (x : List ℕ). take at old ++ x) (take_all n s (omega arith))
