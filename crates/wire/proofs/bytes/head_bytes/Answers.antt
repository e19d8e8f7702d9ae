use native.Mathlib.Nat.{div-div-eq-div-mul}
use Rattle.wire.specs.Bytes.{le}
use Rattle.wire.specs.Datagrams.{head}
use Rattle.wire.proofs.bytes.head_bytes.Goals as goal

pub returns-clause-bytes : goal.returns-clause-bytes
unfolding head le
returns-clause-bytes c = simp (c.to_le_bytes-a.ensures, c.to_le_bytes-b.ensures, c.code.ensures, c.to_le_bytes-n.ensures, div-div-eq-div-mul)
