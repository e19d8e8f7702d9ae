-- What stands at the run's end. Assumes nothing.
use Rattle.std.proofs.Common.{◌≡◌, [], ◌∷◌, refl}
use Rattle.lattice.specs.Ops.{parts_below, parts_at, joined}
use Rattle.lattice.specs.Simple.{all_below}
use Rattle.kinds.specs.Counters.{counter_ops, total}
use Rattle.kinds.specs.Levels.{levels_of, sum_below}
use Rattle.kinds.specs.Counts.{counter_laws}
use Rattle.wire.specs.Bytes.{le, field, value}
use Rattle.wire.specs.Datagrams.{written, listing, listed, same, ranged, list_bytes, part_bytes, head, ack_bytes}
use Rattle.wire.proofs.Back.{reads_back}
use Rattle.queue.specs.Laws.{queue_laws}
use Rattle.history.specs.Book.{account, book, empty_book, older, marked, unmarked, with_page, with_mutation, worth, mutation, entered}
use Rattle.history.specs.History.{state}
use Rattle.history.proofs.Promise.{history_stands_lem}
use Rattle.reached.specs.Run.{queue_line, five, first, run, RunReached}
use Rattle.reached.proofs.Waits.{holding, queued_holding}
use Rattle.reached.proofs.States.{heard, given, two, fit_none, after_11}

-- values of the same levels are equal
held_0 : heard.value ≡ five
unfolding all_below levels_of
held_0 = counter_laws.lattice.antisym heard.value five refl refl

held_1 : given.value ≡ five
unfolding all_below levels_of
held_1 = counter_laws.lattice.antisym given.value five refl refl

total_five : total given.value ≡ 5
unfolding sum_below levels_of
total_five = refl

-- the book of the run
on_0 : account (book counter_ops run) 0 ≡ first ∷ []
unfolding empty_book older marked unmarked with_page with_mutation worth mutation entered joined all_below field value listed same ranged written listing list_bytes part_bytes ack_bytes head le parts_below parts_at levels_of
on_0 = refl

on_1 : account (book counter_ops run) 1 ≡ first ∷ []
unfolding empty_book older marked unmarked with_page with_mutation worth mutation entered joined all_below field value listed same ranged written listing list_bytes part_bytes ack_bytes head le parts_below parts_at levels_of
on_1 = refl

pub run_reached : RunReached
run_reached = (
  state (two heard given) (holding []),
  after_11,
  record {
    replicas = refl;
    rings = refl;
    value_0 = held_0;
    value_1 = held_1;
    total_1 = total_five;
    clock_0 = refl;
    clock_1 = refl;
    marked = refl;
    none_waits = queued_holding [] fit_none;
    account_0 = on_0;
    account_1 = on_1;
    promise = history_stands_lem counter_ops queue_line (λ n. counter_laws) (reads_back counter_ops counter_laws) queue_laws run (state (two heard given) (holding [])) after_11;
  },
)
