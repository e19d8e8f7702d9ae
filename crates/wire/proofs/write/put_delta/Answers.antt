use Rattle.std.proofs.Common.{ℕ, ◌+◌, ◌*◌, ap, arith}
use Rattle.lattice.specs.Ops.{parts}
use Rattle.wire.proofs.Back.{placed_back}
use Rattle.wire.proofs.Over.{delta_put}
use Rattle.wire.proofs.write.put_delta.Goals as goal

pub returns : goal.returns
returns g c =
    let o = g.K.Kind.ops in
    let v = c.args.value.now in
    let b = c.args.buf.now in
    let h = c.args.header in
    let n = c.write_parts-count.result in
    let long = ap (λ (k : ℕ). 12 + 10 * k) c.write_parts-count.ensures.count in
    let put = delta_put b c.write_parts-count.new.buf c.put_head.new.buf h (parts o v) n (omega (arith, c.requires)) c.write_parts-count.ensures.count
    c.write_parts-count.ensures.buffer c.put_head.ensures.buffer in
    record {
      answer = long;
      buffer = put;
      back = placed_back o (g.met.K.Kind.lawful c.args.narrow.now.fits) c.args.narrow.now.fits h v b c.put_head.new.buf (12 + 10 * n) c.put_head.ensures.fits long put;
    }
