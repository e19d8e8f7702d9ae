-- What a caller learns from a take that got a datagram.
use Rattle.std.proofs.Common.{◌≡◌, ℕ, ◌<◌, ◌≤◌, Bool, true, false, cond, leb, List, length, take, drop, Some, None, Ok, Err, Option, Result, refl, ap, ◌∙◌, subst, arith, take_at, leb-false, leb-true}
use Rattle.channel.specs.declared.fault.ChannelFault.{ChannelFault}
use Rattle.channel.specs.Meaning.{TakeLeaves, copied, fetched, in_front, take_answer}

-- the ready datagram, n bytes long, stands at the front of the buffer
pub record Got (to n : ℕ) (ready : Option (List ℕ)) (before after : List ℕ) : Type 0 where
  pub body : List ℕ
  pub was_ready : ready ≡ Some body
  pub low : to < 8
  pub long : n ≡ length body
  pub room : n ≤ length before
  pub front : take n after ≡ body

module _ (to n : ℕ) (ready : Option (List ℕ)) (before after : List ℕ) where
  fits : (b : List ℕ) (y : Bool) → leb (length b) (length before) ≡ y → ◌≡◌ {A = Result (Option ℕ) ℕ} (Ok (Some n)) (cond y (Ok (Some (length b))) (Err 11)) → (n ≡ length b) × (length b ≤ length before)
  fits b true k e = (cc, leb-true (length b) (length before) k)
  fits b false k e = cc

  by_case : (x : Bool) → leb 8 to ≡ x → (r : Option (List ℕ)) → ready ≡ r → ◌≡◌ {A = Result (Option ℕ) ℕ} (Ok (Some n)) (cond x (Err 4) (fetched (length before) r)) → after ≡ in_front r before
      → Got to n ready before after
  by_case true x r e a o = cc
  by_case false x None e a o = cc
  by_case false x (Some b) e a o =
      let f = fits b (leb (length b) (length before)) refl a in
      record {
        body = b;
        was_ready = e;
        low = leb-false 8 to x;
        long = f.0;
        room = omega (arith, f.0, f.1);
        front = ap (take n) o ∙ take_at b (drop (length b) before) n (omega (arith, f.0));
      }

  pub got : (o : Option ℕ) → o ≡ Some n → ◌≡◌ {A = Result (Option ℕ) ℕ} (Ok o) (take_answer to (length before) ready) → after ≡ copied {E = ChannelFault} (Ok o) ready before → Got to n ready before after
  got o e a k =
      by_case (leb 8 to) refl ready refl (subst (λ (x : Option ℕ). ◌≡◌ {A = Result (Option ℕ) ℕ} (Ok x) (take_answer to (length before) ready)) e a)
      (subst (λ (x : Option ℕ). after ≡ copied {E = ChannelFault} (Ok x) ready before) e k)

-- and the channel is as after a taking
pub took : {S : Type 0} (takes : S → ℕ → S → Type 0) (s t : S) (to n : ℕ) (o : Option ℕ) → o ≡ Some n → TakeLeaves {E = ChannelFault} takes s to t (Ok o) → takes s to t
took takes s t to n o e h = subst (λ (x : Option ℕ). TakeLeaves {E = ChannelFault} takes s to t (Ok x)) e h
