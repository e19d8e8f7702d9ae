use Rattle.std.proofs.Common.{ap, ◌∙◌}
use Rattle.wire.specs.Bytes.{le, over}
use Rattle.wire.proofs.bytes.put_head.Goals as goal

pub returns-clause-buffer : goal.returns-clause-buffer
unfolding le
returns-clause-buffer c =
    c.put-2.ensures
    ∙ ap (λ bs. over c.put.new.buf 10 bs) c.to_le_bytes.ensures
    ∙ ap (λ b. over b 10 (le 2 c.args.count)) (c.put.ensures ∙ ap (over c.args.buf.now 0) c.head_bytes.ensures.bytes)
