use Rattle.std.proofs.Common.{arith}
use Rattle.lattice.specs.Ops.{parts_below}
use Rattle.lattice.proofs.Parts.{count_none, count_one}
use Rattle.lattice.proofs.narrow.parts_of.Goals as goal
use Rattle.lattice.proofs.narrow.parts_of.Goals.{then-level-gt0, else-level-gt0}

pub loop-slot-init : goal.loop-slot-init
unfolding parts_below
loop-slot-init g c = (omega arith, omega arith)

pub loop-slot-preserved : goal.loop-slot-preserved
loop-slot-preserved g c =
    let o = g.K.Kind.ops in
    let x = c.args.value.now in
    let n = c.loop-slot.slot in
    elim c.if-level-gt0.branch [
      | then-level-gt0 w ↦ let more = count_one o x n c.level.result c.level.ensures w.if-level-gt0.true in (omega (arith, w.count-is), omega (arith, w.count-is))
      | else-level-gt0 w ↦ let more = count_none o x n c.level.result c.level.ensures w.if-level-gt0.false in (omega (arith, w.count-is), omega (arith, w.count-is))
    ]
