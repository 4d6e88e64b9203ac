-- `sheet_remove::lay_over` meets its contract. Invariant: the layers that are left, laid over the canvas, make the whole.
use mathlib.Core.Path.{◌≡◌, refl, sym, ap, ap₂, ◌∙◌}
use mathlib.Core.List.{List, map}
use Prim.Native.Nat.{ℕ, ◌+◌, ◌-◌, ◌<◌, min, max}
use native.Mathlib.Omega.{arith}
use lib.IntN.{pos}
use lib.ListN.{length, take, drop, get_or}
use Rattle.signed.specs.Signed.{floor0}
use Rattle.book.specs.Whole.{paint_rows}
use Rattle.drawing.specs.Drawing.{styled_figure, drawing}
use Rattle.sheet_layers.specs.declared.Layer.{Layer}
use Rattle.sheet_layers.specs.Layers.{blank_layer, layer_of, layer_rows}
use Rattle.sheet_layers.proofs.RowTests.{no_rows, place_here, place_past}
use Rattle.sheet_layers.proofs.LayerRules.{LayerWithin}
use Rattle.sheet_remove.specs.Removal.{laid_over}
use Rattle.sheet_remove.proofs.Restored.{row_held, laid_over_none, laid_over_one, painted, painted_length}
use Rattle.sheet_remove.proofs.lay_over.Lts
use Rattle.sheet_remove.proofs.lay_over.Reads
use Rattle.sheet_remove.proofs.lay_over.Tie
use Rattle.sheet_remove.proofs.lay_over.Goals as goal

-- the facts known at these places
abbrev Start : Type 0
Start = Lts.Start Tie.the-claims Reads.Pre Reads.Post goal.the-invariant-loop-j goal.the-decreases-loop-j Tie.handed_clauses

abbrev After-least-bottom : Type 0
After-least-bottom = Lts.After-least Tie.the-claims Reads.Pre Reads.Post goal.the-invariant-loop-j goal.the-decreases-loop-j Tie.handed_clauses

sixteen : (c : Start) → length c.args.layers ≡ 16
sixteen c = omega arith

abbrev place : After-least-bottom → ℕ
place c = c.loop-j.j

abbrev layer : After-least-bottom → Layer
layer c = get_or c.args.layers (place c) blank_layer

left : (c : After-least-bottom) → place c < c.args.end
left c = c.loop-j-test.true

within : (c : After-least-bottom) → LayerWithin (layer c)
within c = c.requires.end_le_max_layers.1.within (place c) (left c)

rows_are : (c : After-least-bottom) → get_or c.args.rows (place c) no_rows ≡ layer_rows (layer c)
rows_are c = c.requires.end_le_max_layers.1.rows_are (place c) (left c)

-- its first and its last row among those laid over
top_is : (c : After-least-bottom)
    → c.most-top.result ≡ max c.args.from (floor0 (layer_rows (layer c)).first)
top_is c =
    c.most-top.ensures
    ∙ ap (max c.args.from)
    (c.floor0.ensures
    ∙ ap floor0 (row_held (rows_are c) (λ r. r.first) (within c).rows.first))

bottom_is : (c : After-least-bottom)
    → c.least-bottom.result ≡ min c.args.to (floor0 (layer_rows (layer c)).next)
bottom_is c =
    c.least-bottom.ensures
    ∙ ap (min c.args.to)
    (c.floor0-in-loop-j.ensures
    ∙ ap floor0 (row_held (rows_are c) (λ r. r.next) (within c).rows.next))

pub loop-j-init : goal.loop-j-init
loop-j-init c = (refl, refl)

pub paint_rows-requires : goal.paint_rows-requires
paint_rows-requires c =
    let walk = c.loop-j in
    let high = c.requires.width_le_max_canvas_side.1 in record { canvas_len = c.loop-j.invariant.1 ∙ c.requires.canvas_len; width_le_max_canvas_side = (c.requires.width_le_max_canvas_side.0, omega (arith, bottom_is c.before.before)); layer_within = within c.before.before }

pub loop-j-preserved : goal.loop-j-preserved
loop-j-preserved c =
    let walk = c.loop-j in
    let a = c.args in
    let W = a.size.width in
    let H = a.size.height in
    let item = styled_figure (layer c.before.before.before.before.before.before).figure (layer c.before.before.before.before.before.before).style in
    let rest = map layer_of (drop (c.loop-j.j + 1) (take a.end a.layers)) in
    let size = c.loop-j.invariant.1 ∙ c.requires.canvas_len in
    let few = c.requires.end_le_max_layers.0 in
    let done : c.paint_rows.new.canvas ≡ painted W H a.from a.to (layer c.before.before.before.before.before.before) c.loop-j.canvas =
    c.paint_rows.ensures
    ∙ ap₂ (λ (t b : ℕ). paint_rows drawing W H item (pos t) (b - t) c.loop-j.canvas) (top_is c.before.before.before.before.before.before) (bottom_is c.before.before.before.before.before.before) in (
      ap (laid_over W H a.from a.to rest) done
          ∙ sym (laid_over_one W H a.from a.to (layer c.before.before.before.before.before.before) rest c.loop-j.canvas size)
          ∙ ap (λ (l : List Layer). laid_over W H a.from a.to (map layer_of l) c.loop-j.canvas)
          (sym (place_here a.layers a.end c.loop-j.j blank_layer (left c.before.before.before.before.before.before) (omega (arith, sixteen c.before.before.before.before.before.before.before.before.before.before.before.before.before.before.before.before))))
          ∙ c.loop-j.invariant.0,
      ap length done ∙ painted_length W H a.from a.to (layer c.before.before.before.before.before.before) rest c.loop-j.canvas size ∙ sym c.requires.canvas_len,
    )

pub shape_of-canvas : goal.shape_of-canvas
shape_of-canvas c = c.loop-j.invariant.1

pub returns : goal.returns
returns c =
    let walk = c.loop-j in
    let a = c.args in
    sym (laid_over_none a.size.width a.size.height a.from a.to c.loop-j.canvas (c.loop-j.invariant.1 ∙ c.requires.canvas_len))
    ∙ ap (λ (l : List Layer). laid_over a.size.width a.size.height a.from a.to (map layer_of l) c.loop-j.canvas)
    (sym (place_past a.layers a.end c.loop-j.j (omega arith)))
    ∙ c.loop-j.invariant.0
