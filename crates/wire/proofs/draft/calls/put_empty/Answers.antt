use Rattle.wire.proofs.Over.{begin_put}
use Rattle.wire.proofs.draft.calls.put_empty.Goals as goal

pub returns : goal.returns
returns c = begin_put c.args.buf.now c.put_head.new.buf c.args.header c.requires c.put_head.ensures.buffer
