-- The run, state by state. Assumes nothing.
use Rattle.std.proofs.Common.{◌≡◌, ℕ, ◌-◌, true, List, [], ◌∷◌, drop, refl, arith}
use Rattle.lattice.specs.Ops.{difference, joined, beyond, parts_below, parts_at}
use Rattle.lattice.specs.Simple.{all_below}
use Rattle.kinds.specs.Counters.{counter_ops}
use Rattle.kinds.specs.Levels.{levels_of}
use Rattle.kinds.specs.declared.counter.Counter.{Counter}
use Rattle.channel.specs.Meaning.{Waiting, waiting}
use Rattle.wire.specs.Bytes.{le, field, value}
use Rattle.wire.specs.Datagrams.{written, listing, listed, same, ranged, list_bytes, part_bytes, head, ack_bytes}
use Rattle.queue.specs.Packed.{all_fine, cost, first_for, without}
use Rattle.history.specs.Group.{Group, Replica, made, blank, header, with_replica, no_marks, extended, recording, shipment, shipping, raised, accepting}
use Rattle.history.specs.Group as calls
use Rattle.history.specs.History.{state, Reached, making, call, between}
use Rattle.reached.specs.Run.{queue_line, five, sent_five, heard_five, run}
use Rattle.reached.proofs.Waits.{holding, fit, queued_holding, lost_holding}
use Rattle.reached.proofs.Calls.{ships_on, joins_on, hears_on}

-- REPLICAS

-- as made
abbrev pub blank_two : Replica Counter
blank_two = record { value = counter_ops.bottom; clock = 0; ring = []; oldest = 0; marks = no_marks }

-- the delta that is kept
abbrev pub kept : Counter
kept = counter_ops.join five counter_ops.bottom

-- 0 after its act
abbrev pub acted : Replica Counter
acted = record { value = counter_ops.join counter_ops.bottom five; clock = 1; ring = record { delta = kept; origin = 0 } ∷ []; oldest = 0; marks = no_marks }

-- 0 after it heard, after its restart, and after it heard again
abbrev pub heard : Replica Counter
heard = record { value = acted.value; clock = 1; ring = []; oldest = 1; marks = 0 ∷ 1 ∷ 0 ∷ 0 ∷ 0 ∷ 0 ∷ 0 ∷ 0 ∷ [] }

abbrev pub begun_again : Replica Counter
begun_again = record { value = acted.value; clock = 1; ring = []; oldest = 1; marks = no_marks }

-- 1 after the first delivery
abbrev pub given : Replica Counter
given = record { value = counter_ops.join counter_ops.bottom kept; clock = 1; ring = record { delta = kept; origin = 0 } ∷ []; oldest = 0; marks = no_marks }

abbrev pub two : Replica Counter → Replica Counter → Group Counter
two p q = record { replicas = p ∷ q ∷ []; limit = 1 }

-- WHAT WAITS

abbrev pub for_1 : Waiting
for_1 = waiting 1 sent_five

abbrev pub for_0 : Waiting
for_0 = waiting 0 heard_five

-- THE STATES

-- the first k calls of the run, and then a group and what waits
abbrev pub After : ℕ → Group Counter → List Waiting → Type 0
After k g ws = Reached counter_ops queue_line (drop (11 - k) run) (state g (holding ws))

pub fit_none : fit [] ≡ true
unfolding all_fine cost
fit_none = refl

after_0 : After 0 (two blank_two blank_two) []
unfolding made blank
after_0 = making 2 1 (omega arith) (omega arith) (omega arith) (omega arith) (omega arith) refl (queued_holding [] fit_none)

-- 0 acts, and a ship to itself is refused
after_1 : After 1 (two acted blank_two) []
unfolding calls.act recording extended difference joined beyond parts_below parts_at all_below levels_of with_replica blank
after_1 = call _ after_0 (refl, refl)

after_2 : After 2 (two acted blank_two) []
unfolding shipping
after_2 = call _ after_1 ((refl, refl), refl)

-- 0 ships to 1, and what waits is lost
after_3 : After 3 (two acted blank_two) (for_1 ∷ [])
unfolding shipping shipment written listing list_bytes part_bytes head le parts_below parts_at levels_of all_fine cost
after_3 = call _ after_2 (ships_on (two acted blank_two) [] refl 0 1 10252 _ sent_five refl (record { after = refl; admitted = refl; room = refl }))

after_loss : After 3 (two acted blank_two) []
unfolding written listing list_bytes part_bytes head le parts_below parts_at levels_of all_fine cost
after_loss = between after_3 refl (lost_holding (for_1 ∷ []) refl refl)

-- so it ships again, and once more
after_4 : After 4 (two acted blank_two) (for_1 ∷ [])
unfolding shipping shipment written listing list_bytes part_bytes head le parts_below parts_at levels_of all_fine cost
after_4 = call _ after_loss (ships_on (two acted blank_two) [] refl 0 1 10252 _ sent_five refl (record { after = refl; admitted = refl; room = refl }))

after_5 : After 5 (two acted blank_two) (for_1 ∷ for_1 ∷ [])
unfolding shipping shipment written listing list_bytes part_bytes head le parts_below parts_at levels_of all_fine cost
after_5 = call _ after_4 (ships_on (two acted blank_two) (for_1 ∷ []) refl 0 1 10252 _ sent_five refl (record { after = refl; admitted = refl; room = refl }))

-- 1 gets both
after_6 : After 6 (two acted given) (for_1 ∷ for_0 ∷ [])
unfolding accepting recording extended difference joined beyond all_below with_replica blank first_for without field value listed same ranged written listing list_bytes part_bytes ack_bytes head le parts_below parts_at levels_of all_fine cost
after_6 =
    call _ after_5
    (joins_on (two acted blank_two) (for_1 ∷ for_1 ∷ []) refl 1 refl sent_five refl refl refl _ given (header 0 1 1) refl
    (record { after = refl; admitted = refl; room = refl }))

after_7 : After 7 (two acted given) (for_0 ∷ for_0 ∷ [])
unfolding accepting recording extended difference joined beyond all_below with_replica blank first_for without field value listed same ranged written listing list_bytes part_bytes ack_bytes head le parts_below parts_at levels_of all_fine cost
after_7 =
    call _ after_6
    (joins_on (two acted given) (for_1 ∷ for_0 ∷ []) refl 1 refl sent_five refl refl refl _ given (header 0 1 1) refl
    (record { after = refl; admitted = refl; room = refl }))

-- 0 hears of it, restarts, and hears of it again
after_8 : After 8 (two heard given) (for_0 ∷ [])
unfolding accepting raised with_replica blank first_for without field value written ack_bytes head le all_fine cost
after_8 = call _ after_7 (hears_on (two acted given) (for_0 ∷ for_0 ∷ []) refl 0 refl heard_five refl refl refl heard (header 1 0 1) refl)

after_9 : After 9 (two begun_again given) (for_0 ∷ [])
unfolding calls.restart with_replica blank
after_9 = call _ after_8 (refl, refl)

after_10 : After 10 (two heard given) []
unfolding accepting raised with_replica blank first_for without field value written ack_bytes head le all_fine cost
after_10 = call _ after_9 (hears_on (two begun_again given) (for_0 ∷ []) refl 0 refl heard_five refl refl refl heard (header 1 0 1) refl)

-- and it has no more to ship
pub after_11 : After 11 (two heard given) []
unfolding shipping
after_11 = call _ after_10 ((refl, refl), refl)
