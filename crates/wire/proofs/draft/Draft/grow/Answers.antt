use Rattle.std.proofs.Common.{◌≡◌, ◌+◌, ◌-◌, ◌*◌, List, [], ◌∷◌, ◌++◌, take, refl, ap, ◌∙◌, arith}
use Rattle.lattice.specs.Ops.{parts}
use Rattle.lattice.specs.declared.part.Part.{Part}
use Rattle.wire.specs.Bytes.{placed}
use Rattle.wire.specs.Datagrams.{delta_bytes, part_bytes, parts_in}
use Rattle.wire.proofs.Adding.{few, front_is, standing, written_is}
use Rattle.wire.proofs.Over.{add_put}
use Rattle.wire.proofs.draft.Draft.grow.Goals as goal

pub overflow_add-more : goal.overflow_add-more
overflow_add-more g c =
    let o = g.K.Kind.ops in
    let d = c.args.self.now in
    let b = c.args.buf.now in
    let v = c.in_ok-value.value in
    let w = written_is o d.header (take ((12 + 10 * d.count) - 0) b) v c.delta_of.result c.in_ok-value.ensures.ok_part c.delta_of.ensures.written in
    omega (arith, few o d b v c.args.narrow.now.fits c.requires w.0)

pub put_head-requires-clause-short : goal.put_head-requires-clause-short
put_head-requires-clause-short g c =
    let o = g.K.Kind.ops in
    let d = c.args.self.now in
    let b = c.args.buf.now in
    let v = c.in_ok-value.value in
    let w = written_is o d.header (take ((12 + 10 * d.count) - 0) b) v c.delta_of.result c.in_ok-value.ensures.ok_part c.delta_of.ensures.written in
    omega (arith, few o d b v c.args.narrow.now.fits c.requires w.0)

pub returns-clause-buffer : goal.returns-clause-buffer
returns-clause-buffer g c =
    let o = g.K.Kind.ops in
    let d = c.args.self.now in
    let b = c.args.buf.now in
    let s = c.args.part.slot in
    let l = c.args.part.level in
    let v = c.in_ok-value.value in
    let f = take ((12 + 10 * d.count) - 0) b in
    let e : f ≡ take (12 + 10 * d.count) b = front_is b (12 + 10 * d.count) in
    let w = written_is o d.header f v c.delta_of.result c.in_ok-value.ensures.ok_part c.delta_of.ensures.written in
    let st = standing o d b f v c.args.narrow.now.fits c.requires e w.0 in
    add_put b c.put_part.new.buf c.put_head.new.buf (part_bytes s l) d.header (parts o v) d.count s l c.requires st.0 st.2
    refl c.put_part.ensures c.put_head.ensures.buffer
    ∙ ap (λ (ps : List Part). placed (delta_bytes d.header (ps ++ record { slot = s; level = l } ∷ [])) b) (w.1 ∙ ap parts_in e)
