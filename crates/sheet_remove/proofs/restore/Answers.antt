-- `sheet_remove::restore` meets its contract: the rows found are those that the layer has painted on the canvas, and the steps made are
-- those of `restored_by_layers`.
use mathlib.Core.Path.{◌≡◌, sym, ap, ap₂, ◌∙◌}
use mathlib.Core.List.{List, map}
use Prim.Native.Nat.{ℕ, ◌+◌, ◌*◌, ◌≤◌, min}
use native.Mathlib.Nat.{mul-le-mul_right}
use native.Mathlib.Omega.{arith}
use lib.ListN.{length, take, drop, get_or}
use lib.Seq.{sets, slice, length-sets}
use Rattle.signed.specs.Signed.{floor0}
use Rattle.geometry.specs.Limits.{max_canvas_side}
use Rattle.book.specs.Sheet.{Layers}
use Rattle.drawing.specs.Drawing.{drawing}
use Rattle.sheet_layers.specs.declared.Layer.{Layer}
use Rattle.sheet_layers.specs.declared.rows.LayerRows.{LayerRows}
use Rattle.sheet_layers.specs.Layers.{blank_layer, layer_of, layer_rows}
use Rattle.sheet_layers.proofs.RowTests.{no_rows}
use Rattle.sheet_layers.proofs.LayerRules.{Ready}
use Rattle.sheet_remove.specs.Removal.{laid_over}
use Rattle.sheet_remove.proofs.Restored.{row_held, laid_over_length, restored_by_layers}
use Rattle.sheet_remove.proofs.restore.Lts
use Rattle.sheet_remove.proofs.restore.Reads
use Rattle.sheet_remove.proofs.restore.Tie
use Rattle.sheet_remove.proofs.restore.Goals as goal

-- the facts known at these places
abbrev Start : Type 0
Start = Lts.Start Tie.the-claims Reads.Pre Reads.Post Tie.handed_clauses

abbrev After-least-to : Type 0
After-least-to = Lts.After-least2 Tie.the-claims Reads.Pre Reads.Post Tie.handed_clauses

abbrev After-copy_bytes : Type 0
After-copy_bytes = Lts.After-copy_bytes Tie.the-claims Reads.Pre Reads.Post Tie.handed_clauses

abbrev layer : After-least-to → Layer
layer c = get_or c.args.layers c.args.place blank_layer

rows_are : (c : After-least-to) → get_or c.args.rows c.args.place no_rows ≡ layer_rows (layer c)
rows_are c = c.requires.place_lt_count.2.rows_are c.args.place c.requires.place_lt_count.0

from_is : (c : After-least-to)
    → c.least-from.result ≡ min c.args.size.height (floor0 (layer_rows (layer c)).first)
from_is c =
    let fits = (c.requires.place_lt_count.2.within c.args.place c.requires.place_lt_count.0).rows in
    c.least-from.ensures
    ∙ ap (min c.args.size.height)
    (c.floor0.ensures ∙ ap floor0 (row_held (rows_are c) (λ r. r.first) fits.first))

to_is : (c : After-least-to) → c.least-to.result ≡ min c.args.size.height (floor0 (layer_rows (layer c)).next)
to_is c =
    let fits = (c.requires.place_lt_count.2.within c.args.place c.requires.place_lt_count.0).rows in
    c.least-to.ensures
    ∙ ap (min c.args.size.height)
    (c.floor0-2.ensures ∙ ap floor0 (row_held (rows_are c) (λ r. r.next) fits.next))

-- they lie on the canvas
row_within : (W H n r : ℕ) → r ≡ min H n → W * r ≤ W * H
row_within W H n r is = let low : r ≤ H = omega (arith, is) in omega (arith, mul-le-mul_right W low)

area_fits : (W H : ℕ) → W ≤ max_canvas_side → H ≤ max_canvas_side → W * H ≤ 1048576
area_fits W H wide high = omega (arith, mul-le-mul_right W high, mul-le-mul_right 1024 wide)

-- the other layers, and the steps by which the canvas is made of a first row and an end
abbrev earlier_of : After-least-to → Layers drawing
earlier_of c = map layer_of (drop 0 (take c.args.place c.args.layers))

abbrev later_of : After-least-to → Layers drawing
later_of c = map layer_of (drop (c.args.place + 1) (take c.args.count c.args.layers))

abbrev steps_of : After-least-to → ℕ → ℕ → List ℕ
steps_of c from to =
    let a = c.args in
    let W = a.size.width in
    let H = a.size.height in
    laid_over W H from to (later_of c)
    (laid_over W H from to (earlier_of c) (sets a.canvas.now (W * from) (slice (W * from) (W * to) a.background.now)))

-- fewer layers are ready too
ready_fewer : (layers : List Layer) (rows : List LayerRows) (n m : ℕ) → m ≤ n → Ready layers rows n → Ready layers rows m
ready_fewer layers rows n m fewer ready =
    record { within = λ i h. ready.within i (omega arith); rows_are = λ i h. ready.rows_are i (omega arith) }

-- the canvas keeps its length
copied_long : (c : After-copy_bytes)
    → length c.copy_bytes.new.canvas
    ≡ c.args.size.width * c.args.size.height
copied_long c =
    let a = c.args in
    let W = a.size.width in
    let from = c.least-from.result in
    ap length c.copy_bytes.ensures
    ∙ length-sets a.canvas.now (W * c.least-from.result) (slice (W * c.least-from.result) (W * c.least-to.result) a.background.now)
    ∙ c.requires.canvas_len

pub overflow_mul-width : goal.overflow_mul-width
overflow_mul-width c =
    let a = c.args in
    let wide = c.requires.width_le_max_canvas_side.0 in
    let high = c.requires.width_le_max_canvas_side.1 in
    let area = area_fits a.size.width a.size.height wide high in
    record { fits = omega (arith, area, row_within a.size.width a.size.height _ _ (from_is c.before.before.before)) }

pub overflow_mul-width-2 : goal.overflow_mul-width-2
overflow_mul-width-2 c =
    let a = c.args in
    let wide = c.requires.width_le_max_canvas_side.0 in
    let high = c.requires.width_le_max_canvas_side.1 in
    let area = area_fits a.size.width a.size.height wide high in
    record { fits = omega (arith, area, row_within a.size.width a.size.height _ _ (to_is c.before.before.before)) }

pub copy_bytes-requires : goal.copy_bytes-requires
copy_bytes-requires c =
    let a = c.args in record { background_len = c.requires.background_len ∙ sym c.requires.canvas_len; to_in_bounds = omega (arith, c.requires.canvas_len, row_within a.size.width a.size.height _ _ (to_is c.before.before.before)) }

pub lay_over-requires : goal.lay_over-requires
lay_over-requires c =
    let a = c.args in
    let limits = c.requires.width_le_max_canvas_side in
    let high = limits.1 in
    let places = c.requires.place_lt_count in
    let before = places.0 in
    let few = places.1 in record { canvas_len = copied_long c.before.before.before.before; width_le_max_canvas_side = (limits.0, omega (arith, to_is c.before.before.before.before.before.before.before)); end_le_max_layers = (omega arith, ready_fewer a.layers a.rows a.count a.place (omega arith) places.2) }

pub lay_over-requires-2 : goal.lay_over-requires-2
lay_over-requires-2 c =
    let a = c.args in
    let limits = c.requires.width_le_max_canvas_side in
    let high = limits.1 in
    let places = c.requires.place_lt_count in
    let few = places.1 in record {
      canvas_len = ap length c.lay_over.ensures
          ∙ laid_over_length a.size.width a.size.height _ _ (earlier_of c.before.before.before.before.before.before.before.before.before.before.before) _
          (copied_long c.before.before.before.before.before.before.before.before);
      width_le_max_canvas_side = (limits.0, omega (arith, to_is c.before.before.before.before.before.before.before.before.before.before.before));
      end_le_max_layers = (few, places.2);
    }

pub returns : goal.returns
returns c =
    let a = c.args in
    let W = a.size.width in
    let H = a.size.height in
    c.lay_over-2.ensures
    ∙ ap (laid_over W H c.least-from.result c.least-to.result (later_of c.before.before.before.before.before.before.before.before.before.before.before.before.before.before))
    (c.lay_over.ensures
    ∙ ap (laid_over W H c.least-from.result c.least-to.result (earlier_of c.before.before.before.before.before.before.before.before.before.before.before.before.before.before))
    c.copy_bytes.ensures)
    ∙ ap₂ (steps_of c.before.before.before.before.before.before.before.before.before.before.before.before.before.before) (from_is c.before.before.before.before.before.before.before.before.before.before.before.before.before.before) (to_is c.before.before.before.before.before.before.before.before.before.before.before.before.before.before)
    ∙ restored_by_layers W H a.background.now a.canvas.now c.requires.background_len c.requires.canvas_len a.layers a.place a.count
    c.requires.place_lt_count.0
