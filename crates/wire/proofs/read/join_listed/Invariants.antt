use Rattle.std.proofs.Common.{◌≡◌}
use Rattle.lattice.specs.Ops.{joined}
use Rattle.wire.specs.Datagrams.{ranged}
use Rattle.wire.specs.Listed.{all_listed, to_come}
use Rattle.wire.proofs.read.join_listed.Given as goal

abbrev pub invariant-loop-part : goal.invariant-loop-part
invariant-loop-part g l =
    let o = g.K.Kind.ops in
    let ps = all_listed l.list in
    (ranged o 0 ps ≡ ranged o l.least (to_come l.part-iterator))
    × (joined o ps ≡ o.join l.value (joined o (to_come l.part-iterator)))
