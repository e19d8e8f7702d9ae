-- What adding a part answers. Assumes nothing.
use Rattle.std.proofs.Common.{◌≡◌, ℕ, ◌+◌, ◌-◌, ◌*◌, ◌≤◌, Bool, List, length, take, drop, Some, Option, ap, subst, ◌∙◌, arith}
use native.Mathlib.Nat.{sub-zero}
use Rattle.std.proofs.lemmas.List.{length-take-le, drop-take}
use Rattle.lattice.specs.Ops.{Ops, parts}
use Rattle.wire.specs.Bytes.{le}
use Rattle.std.specs.Prelude.{IfSome}
use Rattle.wire.specs.Datagrams.{head, list_bytes, delta_bytes, listing, parts_in, reading}
use Rattle.wire.specs.declared.datagram.Header.{Header}
use Rattle.wire.specs.Drafts.{of_delta, so_far, follows_on, takes}
use Rattle.wire.specs.declared.draft.Draft.{Draft}
use Rattle.wire.proofs.Over.{length_delta_bytes}
use Rattle.lattice.proofs.Parts.{below_length}

-- a part of a buffer from its start, as a slice
pub front_is : (b : List ℕ) (n : ℕ) → take (n - 0) b ≡ take n b
front_is b n = ap (λ (k : ℕ). take k b) (sub-zero n)

module _ {K : Type 0} (o : Ops K) (d : Draft) (b : List ℕ) where
  -- the parts that stand in the buffer
  pub standing : (f : List ℕ) (v : K) → o.width ≤ 1024 → 22 + 10 * d.count ≤ length b → f ≡ take (12 + 10 * d.count) b → delta_bytes d.header (parts o v) ≡ f
      → (d.count ≡ length (parts o v)) × (d.count ≤ 1024) × (list_bytes (parts o v) ≡ take (10 * d.count) (drop 12 b))
  unfolding listing head le
  standing f v w r e x =
      let ps = parts o v in
      let m : length (delta_bytes d.header ps) ≡ 12 + 10 * d.count = ap length (x ∙ e) ∙ length-take-le (12 + 10 * d.count) b (omega arith) in
      let n : d.count ≡ length ps = omega (arith, length_delta_bytes d.header ps) in
      (n, omega (arith, below_length o v o.width), ap (drop 12) (x ∙ e) ∙ drop-take 12 (10 * d.count) b)

  -- so they are few
  pub few : (v : K) → o.width ≤ 1024 → 22 + 10 * d.count ≤ length b → delta_bytes d.header (parts o v) ≡ take ((12 + 10 * d.count) - 0) b → d.count ≤ 1024
  few v w r x = (standing (take ((12 + 10 * d.count) - 0) b) v w r (front_is b (12 + 10 * d.count)) x).1

-- what is known of the delta that an option holds
pub written_is : {K : Type 0} (o : Ops K) (h : Header) (f : List ℕ) (v : K) (r : Option K) → r ≡ Some v
    → IfSome r (λ w. (delta_bytes h (parts o w) ≡ f) × (parts o w ≡ parts_in f)) → (delta_bytes h (parts o v) ≡ f) × (parts o v ≡ parts_in f)
written_is o h f v r e w = subst (λ x. IfSome x (λ y. (delta_bytes h (parts o y) ≡ f) × (parts o y ≡ parts_in f))) e w
