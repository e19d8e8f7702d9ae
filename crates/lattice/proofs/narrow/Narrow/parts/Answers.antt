use Rattle.std.proofs.Common.{◌∙◌}
use Rattle.lattice.proofs.Parts.{from_width}
use Rattle.lattice.proofs.narrow.Narrow.parts.Goals as goal

pub returns : goal.returns
returns g c =
    let o = g.K.Kind.ops in
    c.first.ensures ∙ from_width o c.args.value.now c.width.result c.args.self.now.fits c.width.ensures
