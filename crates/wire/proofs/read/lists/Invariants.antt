use Rattle.std.proofs.Common.{◌≡◌, ◌-◌}
use Rattle.lattice.specs.Ops.{parts}
use Rattle.lattice.specs.Walks.{parts_from}
use Rattle.wire.specs.Datagrams.{same}
use Rattle.wire.specs.Listed.{all_listed, to_come}
use Rattle.wire.proofs.read.lists.Given as goal

abbrev pub invariant-loop-slot : goal.invariant-loop-slot
invariant-loop-slot g l =
    let o = g.K.Kind.ops in
    same (parts o l.value) (all_listed l.list) ≡ same (parts_from o l.value l.slot (o.width - l.slot)) (to_come l.listed)
