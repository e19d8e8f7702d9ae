-- A run of two replicas over a queue, in which a datagram is lost and another arrives twice. Assumes nothing.
use Rattle.std.specs.Prelude.{◌≡◌, ℕ, true, List, [], ◌∷◌, Some, Ok, Err}
use Rattle.lattice.specs.declared.part.Act.{Act}
use Rattle.lattice.specs.declared.refusal.Layer.TheVariants.{Group as of_group}
use Rattle.kinds.specs.Counters.{counter_ops, total}
use Rattle.kinds.specs.declared.counter.Counter.{Counter}
use Rattle.wire.specs.Datagrams.{written}
use Rattle.wire.specs.declared.datagram.Datagram.TheVariants.{Delta as delta, Ack as ack}
use Rattle.queue.specs.Queue.{queued, queue_ready, queue_denies, QueuePuts, QueueTakes}
use Rattle.queue.specs.declared.queue.Queue.{Queue}
use Rattle.history.specs.Group.{header, refusal, size, mark, replica}
use Rattle.history.specs.Book.{act, ship, deliver, restart, History, Mutation, account, book}
use Rattle.history.specs.Lines.{Line, line}
use Rattle.history.specs.History.{State, Reached, Stands}
use Rattle.history.specs.declared.answers.Outcome.TheVariants.{Grown, Same}
use Rattle.history.specs.declared.answers.Shipped.TheVariants.{Even, Sent}
use Rattle.history.specs.declared.answers.Delivered.TheVariants.{Joined, Heard}

-- the queue, as a group uses it
abbrev pub queue_line : Line Queue
queue_line = line queued queue_ready queue_denies QueuePuts QueueTakes

-- the act that adds 5
abbrev pub add_five : Act
add_five = record { place = 0; verb = 1; amount = 5 }

-- a counter at which replica 0 has counted to 5
abbrev pub five : Counter
five = counter_ops.part 0 5

-- the datagrams that are delivered: a delta from 0 to 1, and the acknowledgement of it
abbrev pub sent_five : List ℕ
sent_five = written counter_ops (delta (header 0 1 1) five)

abbrev pub heard_five : List ℕ
heard_five = written counter_ops (ack (header 1 0 1))

-- THE RUN, the newest call first: so it is read from below. What the first ship of a delta put is lost before the second.
abbrev pub run : History
run =
    ship 0 1 10252 (Ok Even)
    ∷ deliver 0 10252 (Some heard_five) (Ok (Heard 1 1))
    ∷ restart 0 (Ok 1)
    ∷ deliver 0 10252 (Some heard_five) (Ok (Heard 1 1))
    ∷ deliver 1 10252 (Some sent_five) (Ok (Joined Same 1 true))
    ∷ deliver 1 10252 (Some sent_five) (Ok (Joined Grown 1 true))
    ∷ ship 0 1 10252 (Ok (Sent 22 1))
    ∷ ship 0 1 10252 (Ok (Sent 22 1))
    ∷ ship 0 1 10252 (Ok (Sent 22 1))
    ∷ ship 0 0 10252 (Err (refusal of_group 4))
    ∷ act 0 add_five (Ok (Grown, 1))
    ∷ []

-- the mutation that the act is
abbrev pub first : Mutation Counter
first = record { number = 0; effect = five }

-- what stands at its end
pub record RunEnds (s : State Counter Queue) : Type 0 where
  pub replicas : size s.group ≡ 2
  pub rings : s.group.limit ≡ 1
  pub value_0 : (replica counter_ops s.group 0).value ≡ five
  pub value_1 : (replica counter_ops s.group 1).value ≡ five
  pub total_1 : total (replica counter_ops s.group 1).value ≡ 5
  pub clock_0 : (replica counter_ops s.group 0).clock ≡ 1
  pub clock_1 : (replica counter_ops s.group 1).clock ≡ 1
  pub marked : mark (replica counter_ops s.group 0) 1 ≡ 1
  -- three deltas were put and two were taken, and none waits
  pub none_waits : queued s.channel ≡ []
  pub account_0 : account (book counter_ops run) 0 ≡ first ∷ []
  pub account_1 : account (book counter_ops run) 1 ≡ first ∷ []
  -- what the history theorem says of it
  pub promise : Stands counter_ops run s.group

abbrev pub RunReached : Type 0
RunReached = (s : State Counter Queue) × Reached counter_ops queue_line run s × RunEnds s
