use Rattle.std.proofs.Common.{◌≡◌, ◌≤◌, length}
use Rattle.lattice.specs.Ops.{parts_below}
use Rattle.wire.specs.Bytes.{over}
use Rattle.wire.specs.Datagrams.{list_bytes}
use Rattle.wire.proofs.write.write_parts.Given as goal

abbrev pub invariant-loop-slot : goal.invariant-loop-slot
invariant-loop-slot g l =
    let ps = parts_below g.K.Kind.ops l.value l.slot in
    (l.count ≤ l.slot) × (l.count ≡ length ps) × (l.buf ≡ over l.initial.buf 12 (list_bytes ps))
