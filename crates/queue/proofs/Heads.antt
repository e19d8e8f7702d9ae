-- The head of a record, read from bytes.
use Rattle.std.proofs.Common.{◌≡◌, ℕ, ◌+◌, ◌/◌, ◌%◌, ◌<◌, ◌≤◌, true, List, [], ◌∷◌, ◌++◌, length, get_or, take, drop, Some, None, Option, sym, refl, ap, ◌∙◌, ap₂, arith, take-append-drop, length-take, drop-drop}
use Rattle.std.proofs.lemmas.Bool.Decides.{nat_tests}
use Rattle.channel.specs.Meaning.{Waiting, waiting}
use Rattle.queue.specs.Packed.{encode, told, lead, fine}

-- a datagram that may wait, in plain facts
pub record Fine (w : Waiting) : Type 0 where
  pub to_is : w.to < 8
  pub low : 1 ≤ length w.bytes
  pub high : length w.bytes ≤ 10252

pub fine_is : (w : Waiting) → fine w ≡ true → Fine w
fine_is w e = record { to_is = grind (arith, nat_tests); low = grind (arith, nat_tests); high = grind (arith, nat_tests) }

pub is_fine : (w : Waiting) → Fine w → fine w ≡ true
is_fine w f = grind (arith, nat_tests)

-- a head that stands, in plain facts
pub record Stands (bs : List ℕ) (n : ℕ) : Type 0 where
  pub to_is : get_or bs 0 0 < 8
  pub byte : get_or bs 1 0 < 256
  pub zeroed : get_or bs 3 0 ≡ 0
  pub long : told bs ≡ n
  pub low : 1 ≤ n
  pub high : n ≤ 10252
  pub fits : 4 + n ≤ length bs

pub lead_facts : (bs : List ℕ) (n : ℕ) → lead bs ≡ Some n → Stands bs n
unfolding lead
lead_facts bs n e = record {
  to_is = grind (arith, nat_tests);
  byte = grind (arith, nat_tests);
  zeroed = grind (arith, nat_tests);
  long = grind (arith, nat_tests);
  low = grind (arith, nat_tests);
  high = grind (arith, nat_tests);
  fits = grind (arith, nat_tests);
}

pub stands_lead : (bs : List ℕ) (n : ℕ) → Stands bs n → lead bs ≡ Some n
unfolding lead
stands_lead bs n s = grind (arith, nat_tests)

pub lead_none : (bs : List ℕ) → ((n : ℕ) → Stands bs n → ⊥) → lead bs ≡ None
lead_none bs h = go (lead bs) refl
  where
    go : (o : Option ℕ) → lead bs ≡ o → o ≡ None
    go None e = refl
    go (Some n) e = absurd (h n (lead_facts bs n e))

-- the record that stands at the front of some bytes
pub record Led (bs : List ℕ) (n : ℕ) : Type 0 where
  pub is : bs ≡ encode (waiting (get_or bs 0 0) (take n (drop 4 bs))) ++ drop (4 + n) bs
  pub good : fine (waiting (get_or bs 0 0) (take n (drop 4 bs))) ≡ true
  pub long : length (take n (drop 4 bs)) ≡ n

led_at : (a b c d : ℕ) (r : List ℕ) (n : ℕ) → Stands (a ∷ b ∷ c ∷ d ∷ r) n → Led (a ∷ b ∷ c ∷ d ∷ r) n
unfolding encode
led_at a b c d r n s =
    let bs = a ∷ b ∷ c ∷ d ∷ r in
    let len = length (take n r) in
    let long : len ≡ n = length-take n r ∙ omega (arith, s.fits) in
    let lo : b ≡ len % 256 = omega (arith, s.long, s.byte) in
    let hi : c ≡ len / 256 = omega (arith, s.long, s.byte) in
    let rest : drop (4 + n) bs ≡ drop n r = sym (drop-drop n 4 bs) in
    let body : r ≡ take n r ++ drop (4 + n) bs = sym (take-append-drop n r) ∙ ap (λ (x : List ℕ). take n r ++ x) (sym rest) in
    let header : bs ≡ a ∷ (len % 256) ∷ (len / 256) ∷ 0 ∷ r =
    ap₂ (λ (x y : ℕ). a ∷ x ∷ y ∷ d ∷ r) lo hi ∙ ap (λ (x : ℕ). a ∷ (len % 256) ∷ (len / 256) ∷ x ∷ r) s.zeroed in
    record {
      is = header ∙ ap (λ (x : List ℕ). a ∷ (len % 256) ∷ (len / 256) ∷ 0 ∷ x) body;
      good = is_fine (waiting a (take n r)) (record { to_is = s.to_is; low = omega (arith, s.low); high = omega (arith, s.high) });
      long = long;
    }

pub led : (bs : List ℕ) (n : ℕ) → lead bs ≡ Some n → Led bs n
led bs n e = go bs (lead_facts bs n e)
  where
    go : (bs : List ℕ) → Stands bs n → Led bs n
    go [] s = absurd (omega (arith, s.fits))
    go (a ∷ []) s = absurd (omega (arith, s.fits))
    go (a ∷ b ∷ []) s = absurd (omega (arith, s.fits))
    go (a ∷ b ∷ c ∷ []) s = absurd (omega (arith, s.fits))
    go (a ∷ b ∷ c ∷ d ∷ r) s = led_at a b c d r n s
