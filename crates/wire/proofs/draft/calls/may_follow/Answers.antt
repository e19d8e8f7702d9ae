use Rattle.std.proofs.Common.{sym, ◌∙◌, rules, tests}
use Rattle.std.proofs.lemmas.Iterator.Consumers.{YieldsList-from_first}
use Rattle.std.proofs.lemmas.Iterator.Search.{all_from_yields_List}
use Rattle.lattice.specs.Ops.{parts}
use Rattle.lattice.specs.Walks.{to_come}
use Rattle.wire.proofs.Parting.{alone_is, follows_lower, follows_not_admitted, follows_not_clear, lower}
use Rattle.wire.proofs.draft.calls.may_follow.Goals as goal

pub returns-then-not-join_part : goal.returns-then-not-join_part
returns-then-not-join_part g c =
    follows_not_admitted g.K.Kind.ops (parts g.K.Kind.ops c.args.value.now) c.args.part.slot c.args.part.level (sym c.if-not-join_part.ensures.answer)

pub returns-then-covers : goal.returns-then-covers
returns-then-covers g c =
    follows_not_clear g.K.Kind.ops (g.met.K.Kind.lawful c.args.narrow.now.fits) c.args.value.now c.args.part.slot c.args.part.level
    c.if-not-join_part.ensures.answer c.if-covers.ensures

pub returns : goal.returns
returns g c =
    let o = g.K.Kind.ops in
    let v = c.args.value.now in
    let s = c.args.part.slot in
    let l = c.args.part.level in
    let q = c.join_part.new.self in
    all_from_yields_List (lower o q s) c.all.new.self _ c.all.result c.all.ensures.ran (YieldsList-from_first (λ x. x) (to_come o) (parts o v) c.parts.ensures) (λ x b k r. search (rules, tests))
    ∙ follows_lower o (g.met.K.Kind.lawful c.args.narrow.now.fits) v q s l c.if-not-join_part.ensures.answer c.if-covers.ensures
    (alone_is o g.met.K.Kind.ordered s l c.bottom-alone.result q c.bottom-alone.ensures c.if-not-join_part.ensures.answer c.join_part.ensures.after)
