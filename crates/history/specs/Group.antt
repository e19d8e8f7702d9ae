-- A group of replicas, and what each of its calls makes of it. Assumes nothing.
use Rattle.std.specs.Prelude.{ℕ, suc, ◌+◌, ◌-◌, min, max, Bool, cond, not, ◌&&◌, List, [], ◌∷◌, ◌++◌, length, take, drop, replicate, Ok, Err, Result, ◌==◌, nat_le, nat_lt, slice_index, slice_index_or, slice_set}
use Rattle.lattice.specs.Ops.{Ops, difference}
use Rattle.lattice.specs.declared.part.Act.{Act}
use Rattle.lattice.specs.declared.refusal.Layer.{Layer}
use Rattle.lattice.specs.declared.refusal.Layer.TheVariants.{Kind as of_kind, Wire as of_wire, Replica as of_replica, Group as of_group}
use Rattle.lattice.specs.declared.refusal.Refusal.{Refusal}
use Rattle.wire.specs.Datagrams.{body, opening, written}
use Rattle.wire.specs.declared.datagram.Datagram.{Datagram}
use Rattle.wire.specs.declared.datagram.Datagram.TheVariants.{Delta as delta, Ack as ack}
use Rattle.wire.specs.declared.datagram.Header.{Header}
use Rattle.wire.specs.declared.datagram.Sort.{Sort}
use Rattle.history.specs.declared.answers.Outcome.{Outcome}
use Rattle.history.specs.declared.answers.Outcome.TheVariants.{Grown, Same}
use Rattle.history.specs.declared.answers.Shipped.{Shipped}
use Rattle.history.specs.declared.answers.Shipped.TheVariants.{Even}
use Rattle.history.specs.declared.kept.Kept.{Kept}

-- `ring` has the deltas numbered from `oldest` on, the oldest first; `marks` has a mark for each of eight replicas, the own one and those that the
-- group does not have unused
pub record Replica (V : Type 0) : Type 0 where
  pub value : V
  pub clock : ℕ
  pub ring : List (Kept V)
  pub oldest : ℕ
  pub marks : List ℕ

-- the replicas, and how many deltas a ring holds
pub record Group (V : Type 0) : Type 0 where
  pub replicas : List (Replica V)
  pub limit : ℕ

abbrev pub header : ℕ → ℕ → ℕ → Header
header from to number = record { from = from; to = to; number = number }

abbrev pub refusal : Layer → ℕ → Refusal
refusal l n = record { layer = l; number = n }

abbrev pub size : {V : Type 0} → Group V → ℕ
size g = length g.replicas

abbrev pub no_marks : List ℕ
no_marks = replicate 8 0

abbrev pub mark : {V : Type 0} → Replica V → ℕ → ℕ
mark p j = slice_index p.marks j

unfoldable pub with_replica : {V : Type 0} → Group V → ℕ → Replica V → Group V
with_replica g r p = record { replicas = slice_set g.replicas r p; limit = g.limit }

module _ {V : Type 0} (o : Ops V) where
  unfoldable pub blank : Replica V
  blank = record { value = o.bottom; clock = 0; ring = []; oldest = 0; marks = no_marks }

  -- a group of n replicas with rings of q, as it is made
  unfoldable pub made : ℕ → ℕ → Group V
  made n q = record { replicas = replicate n blank; limit = q }

  abbrev pub replica : Group V → ℕ → Replica V
  replica g r = slice_index_or g.replicas r blank

  -- No group is made of a kind with more than 1,024 slots; a call that would walk the slots of one is refused by 3.
  abbrev pub wide : Bool
  wide = nat_lt 1024 o.width

  -- the join of a list of values; of none, bottom
  abbrev pub join_all : List V → V
  join_all [] = o.bottom
  join_all (x ∷ xs) = o.join x (join_all xs)

-- RECORDING a delta: nothing of it is new, or the replica grows, or its clock is at its end

pub data Recording (V : Type 0) : Type 0 where
  stays : Recording V
  grows : Replica V → Recording V
  at_end : Recording V

-- the newest of a list, at most so many: a full ring has dropped its oldest
abbrev pub newest : {A : Type 0} → ℕ → List A → List A
newest limit xs = drop (length xs - limit) xs

module _ {V : Type 0} (o : Ops V) where
  -- the replica with the delta joined, and what of it is new kept under the number that the clock reads
  unfoldable pub extended : ℕ → Replica V → V → ℕ → Replica V
  extended limit p d origin = record {
    value = o.join p.value d;
    clock = p.clock + 1;
    ring = newest limit (p.ring ++ record { delta = difference o d p.value; origin = origin } ∷ []);
    oldest = p.oldest + (length p.ring + 1 - limit);
    marks = p.marks;
  }

  unfoldable pub recording : ℕ → Replica V → V → ℕ → Recording V
  recording limit p d origin =
      cond (o.under (difference o d p.value) o.bottom) stays (cond (p.clock == 4294967295) at_end (grows (extended limit p d origin)))

-- ACT records the kind's effect

module _ {V : Type 0} (o : Ops V) where
  abbrev pub act_ends : Group V → ℕ → Replica V → Recording V → Result (Outcome × ℕ) Refusal × Group V
  act_ends g r p stays = (Ok (Same, p.clock), g)
  act_ends g r p (grows p') = (Ok (Grown, p'.clock), with_replica g r p')
  act_ends g r p at_end = (Err (refusal of_replica 10), g)

  abbrev pub act_records : Group V → ℕ → Replica V → Result V ℕ → Result (Outcome × ℕ) Refusal × Group V
  act_records g r p (Ok e) = act_ends g r p (recording o g.limit p e r)
  act_records g r p (Err n) = (Err (refusal of_kind n), g)

  unfoldable pub act : Group V → ℕ → Act → Result (Outcome × ℕ) Refusal × Group V
  act g r a =
      cond (wide o) (Err (refusal of_group 3), g)
      (cond (nat_lt r (size g)) (act_records g r (replica o g r) (o.effect (replica o g r).value r a)) (Err (refusal of_group 4), g))

-- SHIP answers at once, or puts these bytes at this clock

pub data Shipping : Type 0 where
  answers : Result Shipped Refusal → Shipping
  puts : List ℕ → (clock : ℕ) → Shipping

-- the deltas whose origin is not j
abbrev pub not_from : {V : Type 0} → ℕ → List (Kept V) → List V
not_from j [] = []
not_from j (x ∷ xs) = cond (x.origin == j) (not_from j xs) (x.delta ∷ not_from j xs)

module _ {V : Type 0} (o : Ops V) where
  -- what goes to j: the deltas kept from the mark on that did not come from j, or else the whole value
  unfoldable pub shipment : Replica V → ℕ → V
  shipment p j = cond (nat_le p.oldest (mark p j)) (join_all o (not_from j (drop (mark p j - p.oldest) p.ring))) p.value

  abbrev pub ships : ℕ → ℕ → Replica V → Shipping
  ships r j p = cond (mark p j == p.clock) (answers (Ok Even)) (puts (written o (delta (header r j p.clock) (shipment p j))) p.clock)

  -- both are replicas of n, and not the same
  abbrev pub two_of : ℕ → ℕ → ℕ → Bool
  two_of n r j = nat_lt r n && (nat_lt j n && not (r == j))

  unfoldable pub shipping : Group V → (r j room : ℕ) → Shipping
  shipping g r j room =
      cond (wide o) (answers (Err (refusal of_group 3)))
      (cond (two_of (size g) r j) (cond (nat_le 10252 room) (ships r j (replica o g r)) (answers (Err (refusal of_group 11)))) (answers (Err (refusal of_group 4))))

-- ACCEPTING bytes at a replica: they are declined; recorded, and then to be acknowledged; or heard

pub data Acceptance (V : Type 0) : Type 0 where
  declines : Refusal → Acceptance V
  joins : Outcome → Replica V → Header → Acceptance V
  hears : Replica V → Header → Acceptance V

-- the lowest of the marks but the own, at most `top`; the first mark listed is that of replica i
abbrev pub lowest : (own top i : ℕ) → List ℕ → ℕ
lowest own top i [] = top
lowest own top i (m ∷ ms) = cond (i == own) (lowest own top (suc i) ms) (min m (lowest own top (suc i) ms))

-- the deltas numbered below `low` are let go
abbrev pub let_go : {V : Type 0} → ℕ → Replica V → List ℕ → Replica V
let_go low p ms = record { value = p.value; clock = p.clock; ring = drop (low - p.oldest) p.ring; oldest = max p.oldest low; marks = ms }

-- an acknowledgement raises its sender's mark, never down, and deltas numbered below every mark are let go
unfoldable pub raised : {V : Type 0} → (n r : ℕ) → Replica V → (from number : ℕ) → Replica V
raised n r p from number =
    let_go (lowest r p.clock 0 (take n (slice_set p.marks from (max (mark p from) number)))) p (slice_set p.marks from (max (mark p from) number))

-- from and to are replicas of n, not the same, and to is r
abbrev pub addressed : ℕ → ℕ → Header → Bool
addressed n r h = nat_lt h.from n && (nat_lt h.to n && (not (h.from == h.to) && h.to == r))

module _ {V : Type 0} (o : Ops V) where
  abbrev pub accept_ends : Replica V → Header → Recording V → Acceptance V
  accept_ends p h stays = joins Same p h
  accept_ends p h (grows p') = joins Grown p' h
  accept_ends p h at_end = declines (refusal of_replica 10)

  abbrev pub accept_datagram : (n limit r : ℕ) → Replica V → Result (Datagram V) ℕ → Acceptance V
  accept_datagram n limit r p (Ok (delta h v)) = accept_ends p h (recording o limit p v h.from)
  accept_datagram n limit r p (Ok (ack h)) = cond (nat_le h.number p.clock) (hears (raised n r p h.from h.number) h) (declines (refusal of_replica 17))
  accept_datagram n limit r p (Err e) = declines (refusal of_wire e)

  abbrev pub accept_opened : (n limit r : ℕ) → Replica V → List ℕ → Result (Sort × Header) ℕ → Acceptance V
  accept_opened n limit r p b (Ok s) = cond (addressed n r s.1) (accept_datagram n limit r p (body o b s.0 s.1)) (declines (refusal of_replica 15))
  accept_opened n limit r p b (Err e) = declines (refusal of_wire e)

  -- replica r of n accepts bytes
  unfoldable pub accepting : (n limit r : ℕ) → Replica V → List ℕ → Acceptance V
  accepting n limit r p b = accept_opened n limit r p b (opening b)

-- RESTART empties the ring and sets the marks to 0; value and clock remain

abbrev pub restarted : {V : Type 0} → Replica V → Replica V
restarted p = record { value = p.value; clock = p.clock; ring = []; oldest = p.clock; marks = no_marks }

unfoldable pub restart : {V : Type 0} → Ops V → Group V → ℕ → Result ℕ Refusal × Group V
restart o g r =
    cond (nat_lt r (size g)) (Ok (replica o g r).clock, with_replica g r (restarted (replica o g r))) (Err (refusal of_group 4), g)
