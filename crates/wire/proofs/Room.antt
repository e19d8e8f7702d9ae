-- The room for a datagram. Assumes nothing.
use Rattle.std.proofs.Common.{◌≡◌, ℕ, ◌≤◌, cond, ltb, Ok, Err, Result, sym, arith}
use Rattle.std.proofs.lemmas.Bool.{cond-false, le-ltb}
use Rattle.lattice.specs.Laws.{Usable}
use Rattle.lattice.specs.Ops.{Ops}
use Rattle.lattice.proofs.Parts.{below_length}
use Rattle.wire.specs.Datagrams.{delta_length}

abbrev done : Result (Unit {0}) ℕ
done = Ok tt

-- the longest datagram has place for every value
pub room_for_all : {K : Type 0} (o : Ops K) (x : K) (room : ℕ) → Usable o → 10252 ≤ room → done ≡ cond (ltb room (delta_length o x)) (Err 11) done
room_for_all o x room u h =
    sym (cond-false (ltb room (delta_length o x)) _ _ (le-ltb room (delta_length o x) (omega (arith, below_length o x o.width))))
