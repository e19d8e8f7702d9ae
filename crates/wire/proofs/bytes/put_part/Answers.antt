use native.Mathlib.Nat.{div-div-eq-div-mul}
use Rattle.std.proofs.Common.{◌≡◌, ◌+◌, ap, ◌∙◌, arith}
use Rattle.wire.specs.Bytes.{le, over}
use Rattle.wire.proofs.Over.{part_over}
use Rattle.wire.proofs.bytes.put_part.Goals as goal

pub returns : goal.returns
unfolding le
returns c =
    let b = c.args.buf.now in
    let i = c.args.at in
    let p = c.args.part in
    let level : c.to_le_bytes-2.result ≡ le 8 p.level = simp (c.to_le_bytes-2.ensures, div-div-eq-div-mul) in
    c.put-2.ensures
    ∙ ap (λ bs. over c.put.new.buf (i + 2) bs) level
    ∙ ap (λ d. over d (i + 2) (le 8 p.level)) (c.put.ensures ∙ ap (over b i) c.to_le_bytes.ensures)
    ∙ part_over b i p.slot p.level (omega (arith, c.requires))
