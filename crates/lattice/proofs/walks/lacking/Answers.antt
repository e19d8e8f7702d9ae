use Rattle.std.proofs.Common.{◌≡◌, sym, subst, rules}
use Rattle.lattice.specs.Least.{Least}
use Rattle.lattice.specs.Ops.{difference, joined, beyond, parts_below}
use Rattle.lattice.proofs.Differences.{turn_none, turn_covered, turn_joined, difference_least}
use Rattle.lattice.proofs.walks.lacking.Goals as goal
use Rattle.lattice.proofs.walks.lacking.Goals.{then-level-gt0+then-not-covers, then-level-gt0+else-not-covers, else-level-gt0}

pub loop-slot-init : goal.loop-slot-init
unfolding joined beyond parts_below
loop-slot-init g c = c.bottom-out.ensures

pub loop-slot-preserved : goal.loop-slot-preserved
loop-slot-preserved g c =
    let o = g.K.Kind.ops in
    let L = g.met.K.Kind.lawful c.args._narrow.now.fits in
    let a = c.args.a.now in
    let b = c.args.b.now in
    let n = c.loop-slot.slot in
    let l = c.level-level.result in
    let acc = c.loop-slot.out in
    let out = c.if-level-gt0.out in
    elim c.if-level-gt0.branch [
      | then-level-gt0+then-not-covers w ↦ turn_joined o L a b n l w.covers.result acc w.join_part.new.self out c.level-level.ensures w.if-level-gt0.true
          w.covers.ensures w.if-not-covers.true c.loop-slot.invariant w.join_part.ensures.after w.out-is
      | then-level-gt0+else-not-covers w ↦ turn_covered o L a b n l w.covers.result acc out c.level-level.ensures w.if-level-gt0.true
          w.covers.ensures w.if-not-covers.false c.loop-slot.invariant w.out-is
      | else-level-gt0 w ↦ turn_none o a b n l acc out c.level-level.ensures w.if-level-gt0.false c.loop-slot.invariant w.out-is
    ]

pub returns : goal.returns
unfolding difference
returns g c =
    let o = g.K.Kind.ops in
    let a = c.args.a.now in
    let b = c.args.b.now in
    let is : c.loop-slot.out ≡ difference o a b = search rules in
    record { answer = is; least = subst (Least o a b) (sym is) (difference_least o (g.met.K.Kind.lawful c.args._narrow.now.fits) a b) }
