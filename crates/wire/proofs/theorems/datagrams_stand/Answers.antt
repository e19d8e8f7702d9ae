use Rattle.wire.proofs.Back.{reads_back}
use Rattle.wire.proofs.Once.{reads_once}
use Rattle.wire.proofs.theorems.datagrams_stand.Goals as goal

pub returns : goal.returns
returns g c =
    let o = g.K.Kind.ops in
    record { back = λ usable. reads_back o (g.met.K.Kind.lawful usable) usable; once = reads_once o }
