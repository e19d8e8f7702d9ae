use Rattle.wire.proofs.Back.{reads_back}
use Rattle.history.specs.Lines.{line}
use Rattle.history.proofs.Promise.{history_stands_lem}
use Rattle.history.proofs.theorem.history_stands.Goals as goal

pub returns : goal.returns
returns g c =
    let o = g.K.Kind.ops in
    let p = g.C.Channel in
    history_stands_lem o (line p.waits p.ready p.denies p.puts p.takes) g.met.K.Kind.lawful (λ narrow. reads_back o (g.met.K.Kind.lawful narrow) narrow) p.sound
