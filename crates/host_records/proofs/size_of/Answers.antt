-- `host_records::size_of` meets its contract: each side is the leaf's.
use mathlib.Core.Path.{ap, ◌∙◌}
use borrow.Author.Rules.{rules}
use lib.IntN.{ℤ}
use mir.Syntax.{w32}
use mir.Val.{SFits}
use mir.Facts.{to_z-of_z}
use Rattle.signed.specs.Signed.{floor0}
use Rattle.geometry.proofs.Fields.{size_by_fields}
use Rattle.host_records.proofs.size_of.Goals as goal

pub returns : goal.returns
returns c =
    let width_fits : SFits w32 c.args.width = search rules in
    let height_fits : SFits w32 c.args.height = search rules in
    size_by_fields (c.floor0.ensures ∙ ap (λ (z : ℤ). floor0 z) (to_z-of_z width_fits))
    (c.floor0-2.ensures ∙ ap (λ (z : ℤ). floor0 z) (to_z-of_z height_fits))
