use Rattle.wire.proofs.Coherent.{drafts_begin, drafts_grow}
use Rattle.wire.proofs.theorems.drafts_stand.Goals as goal

pub returns : goal.returns
returns g c =
    let o = g.K.Kind.ops in
    record {
      begin = λ usable. drafts_begin o (g.met.K.Kind.lawful usable) usable;
      grow = λ usable. drafts_grow o (g.met.K.Kind.lawful usable) usable;
    }
