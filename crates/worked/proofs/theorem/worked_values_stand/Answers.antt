use Rattle.std.proofs.Common.{refl}
use Rattle.lattice.specs.Ops.{difference, joined, beyond, parts_below, parts_at}
use Rattle.lattice.specs.Simple.{all_below}
use Rattle.kinds.specs.Bits.{row, word}
use Rattle.kinds.specs.Levels.{levels_of}
use Rattle.wire.specs.Bytes.{le}
use Rattle.wire.specs.Datagrams.{written, listing, list_bytes, part_bytes, head, ack_bytes}
use Rattle.worked.proofs.theorem.worked_values_stand.Goals as goal

pub returns : goal.returns
unfolding written listing list_bytes part_bytes head ack_bytes le difference joined beyond parts_below parts_at all_below row word levels_of
returns c = record {
  lacks_one = refl;
  lacks_none = refl;
  delta_is = refl;
  ack_is = refl;
  acts_right = λ _. refl;
  absent = refl;
  last_slot = λ _. refl;
  takes_last = refl;
  takes_no_more = refl;
}
