-- What a queue means. Assumes nothing.
use Rattle.std.specs.Prelude.{◌≡◌, ℕ, ◌+◌, true, false, cond, List, [], ◌∷◌, ◌++◌, length, take, Some, None, Ok, Err, Option, Result, nat_le}
use Rattle.channel.specs.declared.memory.Unfit.{Unfit}
use Rattle.channel.specs.Meaning.{Waiting, lendable, waiting}
use Rattle.queue.specs.declared.queue.Queue.{Queue}
use Rattle.queue.specs.Packed.{decode, cost, first_for, without}

-- the bytes in use
abbrev pub used_bytes : Queue → List ℕ
used_bytes q = take q.used q.buf.now

-- the datagrams that wait, in the order of their puts: what the used bytes say
abbrev pub queued : Queue → List Waiting
queued q = decode (used_bytes q)

-- the bytes of its memory
abbrev pub size : Queue → ℕ
size q = length q.buf.now

abbrev pub queue_ready : Queue → ℕ → Option (List ℕ)
queue_ready q to = first_for to (queued q)

-- it refuses just when the free bytes are too few for the record
abbrev pub queue_denies : Queue → ℕ → List ℕ → Option ℕ
queue_denies q to b = cond (nat_le (cost (queued q) + (4 + length b)) (size q)) None (Some 12)

-- the datagram put waits behind all others
abbrev pub QueuePuts : Queue → ℕ → List ℕ → Queue → Type 0
QueuePuts q to b r = (queued r ≡ queued q ++ (waiting to b ∷ [])) × (size r ≡ size q)

-- all others wait as before
abbrev pub QueueTakes : Queue → ℕ → Queue → Type 0
QueueTakes q to r = (queued r ≡ without to (queued q)) × (size r ≡ size q)

-- what memory makes: a queue in it where nothing waits, or none, and then it is as it was
abbrev pub Made : List ℕ → Result Queue Unfit → Type 0
Made bs (Ok q) = (lendable (length bs) ≡ true) × (queued q ≡ []) × (size q ≡ length bs)
Made bs (Err u) = (lendable (length bs) ≡ false) × (u.memory.now ≡ bs)
