use Rattle.std.proofs.Common.{ap, ◌∙◌, rules}
use Rattle.wire.specs.Datagrams.{ack_bytes}
use Rattle.wire.proofs.Over.{over_placed}
use Rattle.wire.specs.Bytes.{over}
use Rattle.wire.proofs.write.write_ack.Goals as goal

pub returns : goal.returns
unfolding ack_bytes
returns c = record {
  answer = search rules;
  buffer = c.put.ensures ∙ ap (over c.args.buf.now 0) c.head_bytes.ensures.bytes ∙ over_placed c.args.buf.now (ack_bytes c.args.header);
}
