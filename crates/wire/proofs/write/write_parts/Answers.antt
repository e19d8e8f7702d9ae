use Rattle.std.proofs.Common.{◌≡◌, ℕ, ◌+◌, List, [], ◌∷◌, ◌++◌, length, refl, sym, ap, ◌∙◌, arith}
use Rattle.std.proofs.lemmas.List.{length_push}
use Rattle.wire.specs.Datagrams.{list_bytes, part_bytes}
use Rattle.wire.specs.Bytes.{over}
use Rattle.lattice.specs.Ops.{parts_below}
use Rattle.lattice.specs.declared.part.Part.{Part}
use Rattle.wire.proofs.Over.{over_none, part_written}
use Rattle.lattice.proofs.Parts.{below_none, below_one, below_room}
use Rattle.wire.proofs.write.write_parts.Goals as goal
use Rattle.wire.proofs.write.write_parts.Goals.{then-level-gt0, else-level-gt0}

pub loop-slot-init : goal.loop-slot-init
unfolding parts_below list_bytes
loop-slot-init g c = (omega arith, omega arith, over_none c.args.buf.now 12)

pub put_part-requires : goal.put_part-requires
put_part-requires g c =
    let o = g.K.Kind.ops in
    let v = c.args.value.now in
    let s = c.loop-slot.slot in
    let l = c.level-level.result in
    let more = ap length (below_one o v s l c.level-level.ensures c.if-level-gt0.true) ∙ length_push (parts_below o v s) (record { slot = s; level = l }) in
    omega (
      arith,
      c.loop-slot.invariant.1,
      c.loop-slot.auto.buf,
      c.requires,
      below_room o v (s + 1) (omega (arith, c.loop-slot-test.true, c.width-slot-end.ensures)),
    )

pub loop-slot-preserved : goal.loop-slot-preserved
loop-slot-preserved g c =
    let o = g.K.Kind.ops in
    let v = c.args.value.now in
    let s = c.loop-slot.slot in
    let l = c.level-level.result in
    let ps = parts_below o v s in
    let qs = parts_below o v (s + 1) in
    elim c.if-level-gt0.branch [
      | then-level-gt0 w ↦
          let e : qs ≡ ps ++ record { slot = s; level = l } ∷ [] = below_one o v s l c.level-level.ensures w.if-level-gt0.true in (
            omega (arith, w.count-is, c.loop-slot.invariant.0),
            w.count-is ∙ ap (λ (k : ℕ). k + 1) c.loop-slot.invariant.1 ∙ sym (ap length e ∙ length_push ps (record { slot = s; level = l })),
            part_written c.args.buf.now c.loop-slot.buf c.if-level-gt0.buf ps qs c.loop-slot.count s l (part_bytes s l)
                (omega (arith, c.requires)) c.loop-slot.invariant.1 c.loop-slot.invariant.2 refl (w.buf-is ∙ w.put_part.ensures) e,
          )
      | else-level-gt0 w ↦
          let e : qs ≡ ps = below_none o v s l c.level-level.ensures w.if-level-gt0.false in (
            omega (arith, w.count-is, c.loop-slot.invariant.0),
            w.count-is ∙ c.loop-slot.invariant.1 ∙ sym (ap length e),
            w.buf-is ∙ c.loop-slot.invariant.2 ∙ ap (λ (rs : List Part). over c.args.buf.now 12 (list_bytes rs)) (sym e),
          )
    ]

pub returns : goal.returns
returns g c =
    let o = g.K.Kind.ops in
    let v = c.args.value.now in
    let e : c.loop-slot.slot ≡ o.width =
    omega (arith, c.loop-slot-test.false, c.loop-slot.auto.slot-end, c.width-slot-end.ensures, c.args._narrow.now.fits) in
    record {
      count = c.loop-slot.invariant.1 ∙ ap (λ (n : ℕ). length (parts_below o v n)) e;
      few = omega (arith, c.loop-slot.invariant.0, c.args._narrow.now.fits);
      buffer = c.loop-slot.invariant.2 ∙ ap (λ (n : ℕ). over c.args.buf.now 12 (list_bytes (parts_below o v n))) e;
    }
