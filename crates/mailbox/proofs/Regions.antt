-- Lemmas on the cells of a buffer.
use Rattle.std.proofs.Common.{◌≡◌, ℕ, zero, suc, ◌+◌, ◌-◌, ◌*◌, ◌/◌, ◌<◌, ◌≤◌, Bool, true, false, cond, eqb, leb, List, [], ◌++◌, length, get_or, take, drop, replicate, Some, None, Option, sym, refl, ap, ◌∙◌, ap₂, mul-le-mul_right, suc-mul, arith, length-drop, length-take, get_or-drop, get_or-take, take_at, drop_at, eqb-true, leb-false, leb-true}
use borrow.Rule.Slice.PartMut.{put_mid, post_of, same_len_mid}
use borrow.Author.Tests.{eqb-false}
use Rattle.std.proofs.lemmas.Slice.{take-put_mid_below, drop-put_mid}
use Rattle.std.proofs.lemmas.List.{drop-take}
use Rattle.mailbox.specs.Mailbox.{Replaces, cells, listed}
use Rattle.mailbox.specs.Cells.{cell, region, told, content, contents}
use Rattle.mailbox.proofs.Contents.{content_none}

-- cell i ends where cell i + 1 begins
steps : (i j c : ℕ) → i < j → i * c + c ≤ j * c
steps i j c h = omega (arith, mul-le-mul_right c h, suc-mul i c)

within : (bs : List ℕ) (i : ℕ) → i < 8 → i * cell bs + cell bs ≤ length bs
within bs i h = omega (arith, steps i 8 (cell bs) h)

-- a buffer with other bytes in the place of cell i
module _ (bs : List ℕ) (i : ℕ) (zs : List ℕ) (h : i < 8) (long : length zs ≡ cell bs) where
  abbrev written : List ℕ
  written = put_mid (i * cell bs) (cell bs) bs zs

  front_long : length (take (i * cell bs) bs) ≡ i * cell bs
  front_long = omega (arith, length-take (i * cell bs) bs, within bs i h)

  same_cell : cell written ≡ cell bs
  same_cell =
      ap (λ (x : ℕ). x / 8) (same_len_mid (i * cell bs) (cell bs) bs zs (long ∙ omega (arith, length-take (cell bs) (drop (i * cell bs) bs), length-drop (i * cell bs) bs, within bs i h)))

  -- the cell itself
  region_here : region written i ≡ zs
  unfolding region
  region_here =
      let p = i * cell bs in
      let rest = post_of p (cell bs) bs in
      ap (λ (x : ℕ). take x (drop (i * x) written)) same_cell
      ∙ ap (take (cell bs)) (drop_at (take p bs) (zs ++ rest) p front_long) ∙ take_at zs rest (cell bs) long

  -- every other cell
  region_below : (j : ℕ) → j < i → region written j ≡ region bs j
  unfolding region
  region_below j l =
      let p = i * cell bs in
      let q = j * cell bs in
      ap (λ (x : ℕ). take x (drop (j * x) written)) same_cell
      ∙ sym (drop-take q (cell bs) written)
      ∙ ap (drop q) (take-put_mid_below p (cell bs) bs zs (q + cell bs) (steps j i (cell bs) l) (omega (arith, within bs i h)))
      ∙ drop-take q (cell bs) bs

  region_above : (j : ℕ) → i < j → region written j ≡ region bs j
  unfolding region
  region_above j l =
      let p = i * cell bs in
      ap (λ (x : ℕ). take x (drop (j * x) written)) same_cell
      ∙ ap (take (cell bs)) (drop-put_mid p (cell bs) bs zs (j * cell bs) (steps i j (cell bs) l) (omega (arith, within bs i h)) long)

  region_there : (j : ℕ) → (j ≡ i → ⊥) → region written j ≡ region bs j
  region_there j ne = go (leb i j) refl
    where
      go : (t : Bool) → leb i j ≡ t → region written j ≡ region bs j
      go true e = region_above j (omega (arith, leb-true i j e))
      go false e = region_below j (leb-false i j e)

  content_after : (b : List ℕ) → content zs ≡ Some b → Replaces (contents bs) i b (contents written)
  content_after b is j below = go (eqb j i) refl
    where
      go : (t : Bool) → eqb j i ≡ t → contents written j ≡ cond t (Some b) (contents bs j)
      go true e = ap (contents written) (eqb-true j i e) ∙ ap content region_here ∙ is
      go false e = ap content (region_there j (eqb-false j i e))

-- the same by the place that the code has
pub replaced : (xs zs b : List ℕ) (to s e : ℕ) → to < 8 → s ≡ to * cell xs → e ≡ to * cell xs + cell xs → length zs ≡ length (take (e - s) (drop s xs)) → content zs ≡ Some b
    → Replaces (contents xs) to b (contents (put_mid s (e - s) xs zs))
replaced xs zs b to s e h es ee long is j below = ap (λ (x : List ℕ). contents x j) all ∙ content_after xs to zs h size b is j below
  where
    wide : e - s ≡ cell xs
    wide = omega (arith, es, ee)

    size : length zs ≡ cell xs
    size = omega (arith, long, es, ee, length-take (e - s) (drop s xs), length-drop s xs, within xs to h)

    all : put_mid s (e - s) xs zs ≡ put_mid (to * cell xs) (cell xs) xs zs
    all = ap₂ (λ (x y : ℕ). put_mid x y xs zs) es wide

-- the number that a cell begins with
told_region : (bs : List ℕ) (i : ℕ) → 2 ≤ cell bs → told (region bs i) ≡ get_or bs (i * cell bs) 0 + 256 * get_or bs (i * cell bs + 1) 0
unfolding region
told_region bs i h =
    let p = i * cell bs in
    let z : p + 0 ≡ p = omega arith in
    ap₂ (λ (x y : ℕ). x + 256 * y)
    (get_or-take (cell bs) (drop p bs) 0 0 (omega arith) ∙ get_or-drop p bs 0 0 ∙ ap (λ (x : ℕ). get_or bs x 0) z)
    (get_or-take (cell bs) (drop p bs) 1 0 (omega arith) ∙ get_or-drop p bs 1 0)

-- a cleared buffer
zeros : (n k : ℕ) → ◌≡◌ {A = ℕ} (get_or (replicate n 0) k 0) 0
zeros zero k = refl
zeros (suc n) zero = refl
zeros (suc n) (suc k) = zeros n k

no_cells : (f : ℕ → Option (List ℕ)) (n : ℕ) → ((i : ℕ) → f i ≡ None) → cells f n ≡ []
unfolding cells
no_cells f zero h = refl
no_cells f (suc k) h = ap (λ (o : Option (List ℕ)). listed k o ++ cells f k) (h k) ∙ no_cells f k h

cleared : (n i : ℕ) → contents (replicate n 0) i ≡ None
unfolding region
cleared n i =
    let bs : List ℕ = replicate n 0 in
    content_none (region bs i) (λ room pos.
    let wide : 2 ≤ cell bs = omega (arith, length-take (cell bs) (drop (i * cell bs) bs)) in
    omega (arith, told_region bs i wide, zeros n (i * cell bs), zeros n (i * cell bs + 1)))

pub all_cleared : (n : ℕ) (bs : List ℕ) → bs ≡ replicate n 0 → cells (contents bs) 8 ≡ []
all_cleared n bs e = no_cells (contents bs) 8 (λ i. ap (λ (x : List ℕ). contents x i) e ∙ cleared n i)
