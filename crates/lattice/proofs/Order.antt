-- What the laws give of joins. Assumes nothing.
use Rattle.std.proofs.Common.{◌≡◌, true, ◌∙◌, subst}
use Rattle.lattice.specs.Laws.{Lattice}
use Rattle.lattice.specs.Ops.{Ops}

module _ {K : Type 0} (o : Ops K) (L : Lattice o) where
  pub under_left : (x y z : K) → o.under x y ≡ true → o.under x (o.join y z) ≡ true
  under_left x y z h = L.trans x y (o.join y z) h (L.above_left y z)

  pub under_right : (x y z : K) → o.under x z ≡ true → o.under x (o.join y z) ≡ true
  under_right x y z h = L.trans x z (o.join y z) h (L.above_right y z)

  pub under_eq : (x y z : K) → y ≡ z → o.under x y ≡ true → o.under x z ≡ true
  under_eq x y z e h = subst (λ (w : K). o.under x w ≡ true) e h

  pub join_mono : (x y x' y' : K) → o.under x x' ≡ true → o.under y y' ≡ true → o.under (o.join x y) (o.join x' y') ≡ true
  join_mono x y x' y' p q = L.least x y (o.join x' y') (under_left x x' y' p) (under_right y x' y' q)

  pub join_comm : (x y : K) → o.join x y ≡ o.join y x
  join_comm x y =
      L.antisym (o.join x y) (o.join y x)
      (L.least x y (o.join y x) (L.above_right y x) (L.above_left y x))
      (L.least y x (o.join x y) (L.above_right x y) (L.above_left x y))

  pub join_assoc : (x y z : K) → o.join (o.join x y) z ≡ o.join x (o.join y z)
  join_assoc x y z =
      L.antisym (o.join (o.join x y) z) (o.join x (o.join y z))
      (L.least (o.join x y) z (o.join x (o.join y z))
      (L.least x y (o.join x (o.join y z)) (L.above_left x (o.join y z)) (under_right y x (o.join y z) (L.above_left y z)))
      (under_right z x (o.join y z) (L.above_right y z)))
      (L.least x (o.join y z) (o.join (o.join x y) z)
      (under_left x (o.join x y) z (L.above_left x y))
      (L.least y z (o.join (o.join x y) z) (under_left y (o.join x y) z (L.above_right x y)) (L.above_right (o.join x y) z)))

  pub under_join : (x y : K) → o.under x y ≡ true → o.join x y ≡ y
  under_join x y h = L.antisym (o.join x y) y (L.least x y y h (L.refl y)) (L.above_right x y)

  pub bottom_join : (x : K) → o.join o.bottom x ≡ x
  bottom_join x = under_join o.bottom x (L.bottom_under x)

  pub join_bottom : (x : K) → o.join x o.bottom ≡ x
  join_bottom x = join_comm x o.bottom ∙ bottom_join x
