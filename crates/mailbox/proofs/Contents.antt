-- Lemmas on what a cell says.
use Rattle.std.proofs.Common.{◌≡◌, ℕ, ◌+◌, ◌*◌, ◌/◌, ◌%◌, ◌<◌, ◌≤◌, List, [], ◌∷◌, ◌++◌, length, take, drop, Some, None, refl, ap, ◌∙◌, ap₂, arith, length-append, take_at}
use Rattle.std.proofs.lemmas.Bool.Decides.{nat_tests}
use Rattle.mailbox.specs.Cells.{told, content}

pub content_some : (c : List ℕ) (n : ℕ) → told c ≡ n → 0 < n → n + 2 ≤ length c → content c ≡ Some (take n (drop 2 c))
unfolding content
content_some c n e h l = let k : content c ≡ Some (take (told c) (drop 2 c)) = grind (arith, nat_tests) in k ∙ ap (λ (x : ℕ). Some (take x (drop 2 c))) e

pub content_none : (c : List ℕ) → (told c + 2 ≤ length c → 0 < told c → ⊥) → content c ≡ None
unfolding content
content_none c h = grind (arith, nat_tests)

-- a cell after a datagram's length and the datagram were written to it
pub stored : (b h c rest : List ℕ) → 0 < length b → h ≡ (length b % 256) ∷ (length b / 256) ∷ [] → c ≡ b → content (h ++ (c ++ rest)) ≡ Some b
stored b h c rest pos eh ec =
    let xs = (length b % 256) ∷ (length b / 256) ∷ (b ++ rest) in
    let sum : length b % 256 + 256 * (length b / 256) ≡ length b = omega arith in
    ap₂ (λ (x y : List ℕ). content (x ++ (y ++ rest))) eh ec
    ∙ content_some xs (length b) sum pos (omega (arith, length-append b rest)) ∙ ap Some (take_at b rest (length b) refl)
