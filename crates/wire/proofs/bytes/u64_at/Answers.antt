use Rattle.std.proofs.Common.{◌∙◌}
use Rattle.wire.proofs.Little.{field_8}
use Rattle.wire.proofs.bytes.u64_at.Goals as goal

pub returns : goal.returns
returns c = c.from_le_bytes.ensures ∙ field_8 c.args.b.now c.args.at c.bytes_at.result c.requires c.bytes_at.ensures
