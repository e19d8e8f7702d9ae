-- What a kind's laws give of joins, differences and accounts. Assumes nothing.
use Rattle.std.proofs.Common.{◌≡◌, true, [], ◌∷◌, ◌++◌, sym, refl, ap, ◌∙◌, subst, inl, inr}
use mathlib.Core.List.Memᴰ
use mathlib.Core.List.{Memᴰ}
use Rattle.lattice.specs.Laws.{Lattice, Laws}
use Rattle.lattice.specs.Least.{DifferenceLeast}
use Rattle.lattice.specs.Ops.{Ops, difference}
use Rattle.lattice.proofs.Differences.{difference_least}
use Rattle.lattice.proofs.Order.{bottom_join, join_assoc, join_bottom, join_comm, under_eq, under_right}
use Rattle.history.specs.Book.{Mutation, Account, worth}
use Rattle.history.specs.History.{SameAccount}

abbrev pub Under : {V : Type 0} → Ops V → V → V → Type 0
Under o a b = o.under a b ≡ true

-- the order, and what the difference is for: the history rests on no other law of a kind
pub record Order {V : Type 0} (o : Ops V) : Type 0 where
  pub lattice : Lattice o
  pub least_difference : DifferenceLeast o

pub order_of : {V : Type 0} (o : Ops V) → Laws o → Order o
order_of o L = record { lattice = L.lattice; least_difference = difference_least o L }

module _ {V : Type 0} (o : Ops V) (L : Order o) where
  pub of_equal : (a b : V) → a ≡ b → Under o a b
  of_equal a b e = under_eq o L.lattice a a b e (L.lattice.refl a)

  -- the difference lies under what it is taken of
  pub difference_under : (a b : V) → Under o (difference o a b) a
  difference_under a b = (L.least_difference a b).lowest a refl

  -- a value joined with the difference is the join
  pub difference_joins : (a b : V) → o.join b (difference o a b) ≡ o.join b a
  difference_joins a b = join_comm o L.lattice b (difference o a b) ∙ (L.least_difference a b).joins ∙ join_comm o L.lattice a b

  -- and the difference is the least that does so
  pub difference_lowest : (a b x : V) → o.join b x ≡ o.join b a → Under o (difference o a b) x
  difference_lowest a b x e = (L.least_difference a b).lowest x (join_comm o L.lattice x b ∙ e ∙ join_comm o L.lattice b a)

  -- nothing is new just where all lies under
  pub difference_none : (a b : V) → Under o (difference o a b) o.bottom → Under o a b
  difference_none a b u =
      let d = difference o a b in
      let low : Under o d b = L.lattice.trans d o.bottom b u (L.lattice.bottom_under b) in
      L.lattice.trans a (o.join b a) b (L.lattice.above_right b a) (subst (λ x. Under o x b) (difference_joins a b) (L.lattice.least b d b (L.lattice.refl b) low))

  -- accounts

  worth_upper : (a : Account V) (m : Mutation V) → Memᴰ m a → Under o m.effect (worth o a)
  unfolding worth
  worth_upper [] m i = absurd (Memᴰ.not-nil i)
  worth_upper (x ∷ xs) m i =
      elim (Memᴰ.cases_cons i) [
        | inl e ↦ subst (λ (y : Mutation V). Under o y.effect (o.join x.effect (worth o xs))) (sym e) (L.lattice.above_left x.effect (worth o xs))
        | inr n ↦ under_right o L.lattice m.effect x.effect (worth o xs) (worth_upper xs m n)
      ]

  worth_least : (a : Account V) (c : V) → ((m : Mutation V) → Memᴰ m a → Under o m.effect c) → Under o (worth o a) c
  unfolding worth
  worth_least [] c f = L.lattice.bottom_under c
  worth_least (x ∷ xs) c f = L.lattice.least x.effect (worth o xs) c (f x (Memᴰ.head refl)) (worth_least xs c (λ p m. f p (Memᴰ.tail m)))

  pub worth_same : (a b : Account V) → SameAccount a b → worth o a ≡ worth o b
  worth_same a b s =
      L.lattice.antisym (worth o a) (worth o b) (worth_least a (worth o b) (λ m i. worth_upper b m ((s m).0 i))) (worth_least b (worth o a) (λ m i. worth_upper a m ((s m).1 i)))

  pub worth_union : (a b : Account V) → worth o (a ++ b) ≡ o.join (worth o a) (worth o b)
  unfolding worth
  worth_union [] b = sym (bottom_join o L.lattice (worth o b))
  worth_union (x ∷ xs) b = ap (o.join x.effect) (worth_union xs b) ∙ sym (join_assoc o L.lattice x.effect (worth o xs) (worth o b))

  pub worth_one : (m : Mutation V) → worth o (m ∷ []) ≡ m.effect
  unfolding worth
  worth_one m = join_bottom o L.lattice m.effect

  pub worth_none : worth o [] ≡ o.bottom
  unfolding worth
  worth_none = refl
