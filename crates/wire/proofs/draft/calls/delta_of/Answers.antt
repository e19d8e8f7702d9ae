use Rattle.std.proofs.Common.{◌≡◌, sym, ap, ◌∙◌, subst, IfOk}
use Rattle.wire.specs.Datagrams.{written}
use Rattle.wire.specs.Faults.{numbered}
use Rattle.wire.proofs.Opened.{delta_read}
use Rattle.wire.proofs.draft.calls.delta_of.Goals as goal

pub returns-in-Ok-Delta-clause-written : goal.returns-in-Ok-Delta-clause-written
returns-in-Ok-Delta-clause-written g c =
    let o = g.K.Kind.ops in
    let b = c.args.bytes.now in
    let r = c.in-Ok-Delta in
    let d = delta_read o c.args.header r.own b r.value r.field-0 r.field-0-is (ap numbered (sym r.is) ∙ c.read.ensures.answer) c.if-eq.ensures
    (subst (λ x. IfOk x (λ y. written o y ≡ b)) r.is c.read.ensures.once) in
    (d.1, d.2)
