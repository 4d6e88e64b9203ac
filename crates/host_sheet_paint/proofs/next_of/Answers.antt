-- `host_sheet_paint::next_of` meets its contract: what `next_at` answers, where there is such a place.
use mathlib.Core.Path.{refl}
use borrow.Author.Rules.{rules}
use borrow.Author.Tests.{lt-ltb, le-ltb}
use mir.Facts.{to_z-of_z}
use Rattle.geometry.specs.Limits.{max_layers}
use Rattle.host_sheet_paint.proofs.next_of.Goals as goal

pub returns-then-layer-ge-MAX_LAYERS : goal.returns-then-layer-ge-MAX_LAYERS
returns-then-layer-ge-MAX_LAYERS c = rw (le-ltb _ max_layers c.if-layer-ge-MAX_LAYERS.true) (record { is = refl; fits = search rules })

pub returns : goal.returns
returns c =
    rw (lt-ltb c.args.layer max_layers c.if-layer-ge-MAX_LAYERS.false, to_z-of_z c.next_at.ensures.fits) c.next_at.ensures
