-- The record after a call is the sheet of `book`'s definitions after it: a layer put behind the first `count` places is one more
-- layer, a layer put in place i of them is that layer of the sheet, and places moved down over place i leave that layer out.
-- Assumes nothing.
use Rattle.std.specs.Prelude.{Ok, Err}
use mathlib.Core.Path.{◌≡◌, refl, sym, ap, ap₂, ◌∙◌}
use mathlib.Core.List.{List, [], ◌∷◌, ◌++◌, map, map-append}
use mathlib.Core.Option.{some}
use Prim.Native.Nat.{ℕ, suc, ◌+◌, ◌-◌, ◌≤◌}
use native.Mathlib.Omega.{arith}
use native.Mathlib.Numerals.{add-one}
use lib.ListN.{length, take, set, get_or, length-set, length-append}
use lib.Seq.{take-suc-set, take-set-lt}
use Rattle.refusal.specs.declared.Refusal.{Refusal}
use Rattle.refusal.specs.Refusal.{keeping, Checked, passed}
use Rattle.book.specs.Book.{without, Call, add, paint, remove}
use Rattle.book.specs.Sheet.{Layers, State, answer, carried_out, after, paint_row, restored}
use Rattle.book.proofs.Lists.{set_map, without_map, take_without, length_without}
use Rattle.book.proofs.LowestNumber.{add_any_canvas, refused_changes_nothing, accepted_is_carried_out}
use Rattle.drawing.specs.Drawing.{StyledFigure, styled_figure, drawing}
use Rattle.sheet_layers.specs.declared.Layer.{Layer}
use Rattle.sheet_layers.specs.Layers.{layer_of, blank_layer, layers_of}
use Rattle.sheet.specs.declared.Sheet.{Sheet}
use Rattle.sheet.specs.Sheet.{state_of, sheet_answer, added_layer, painted_layer, carried_out_sheet, sheet_after, canvas_after}
use Rattle.sheet.specs.SheetDemand3.{AddTakesNoCanvas}
use Rattle.sheet_checks.proofs.Places.{layers_are, layer_at, kept_few}
use Rattle.sheet_checks.proofs.Answers.{added_room, PaintAccepted, painted_accepted, RemoveAccepted, removed_accepted}

module _ (s : Sheet) (sixteen : length s.layers ≡ 16) (canvas : List ℕ) where
  -- ---- refused: the record
  pub refused_record : (call : Call StyledFigure) (refusal : Refusal) → sheet_answer s canvas call ≡ Err refusal
      → sheet_after s canvas call ≡ s
  refused_record call refusal e = rw e

  -- ---- added
  module _ (item : StyledFigure) (e : sheet_answer s canvas (add item) ≡ passed) where
    pub added_record : sheet_after s canvas (add item) ≡ carried_out_sheet s (add item)
    added_record = rw e

    added_layers : layers_of (s.count + 1) (set s.layers s.count (added_layer item))
        ≡ layers_of s.count s.layers ++ (layer_of (added_layer item) ∷ [])
    added_layers =
        let room = added_room s.width s.height s.count s.layers sixteen item canvas e in
        let put : List Layer = set s.layers s.count (added_layer item) in
        layers_are (s.count + 1) put (length-set s.layers s.count (added_layer item) ∙ sixteen) (omega arith)
        ∙ ap (λ (m : ℕ). map layer_of (take m put)) (add-one s.count)
        ∙ ap (map layer_of) (take-suc-set s.layers s.count (added_layer item) (omega arith))
        ∙ map-append layer_of (take s.count s.layers) (added_layer item ∷ [])
        ∙ ap (λ (l : Layers drawing). l ++ (layer_of (added_layer item) ∷ [])) (sym (layers_are s.count s.layers sixteen (omega arith)))

    added_state : state_of (carried_out_sheet s (add item)) canvas ≡ carried_out drawing s.width s.height (state_of s canvas) (add item)
    unfolding carried_out_sheet carried_out
    added_state = ap (λ (l : Layers drawing). record { layers = l; canvas = canvas }) added_layers

  -- ---- painted
  module _ (i : ℕ) (e : sheet_answer s canvas (paint i) ≡ passed) where
    told : PaintAccepted s.width s.height s.count s.layers sixteen i canvas
    told = painted_accepted s.width s.height s.count s.layers sixteen i canvas e

    few : s.count ≤ 16
    few = kept_few s.width s.height s.count s.layers sixteen told.rules

    abbrev layer : Layer
    layer = get_or s.layers i blank_layer

    pub painted_record : sheet_after s canvas (paint i) ≡ carried_out_sheet s (paint i)
    painted_record = rw e

    painted_layers : layers_of s.count (set s.layers i (painted_layer layer)) ≡ set (layers_of s.count s.layers) i
        (layer_of (painted_layer layer))
    painted_layers =
        layers_are s.count (set s.layers i (painted_layer layer)) (length-set s.layers i (painted_layer layer) ∙ sixteen) few
        ∙ ap (map layer_of) (take-set-lt s.count s.layers i (painted_layer layer) told.within)
        ∙ sym (set_map layer_of (take s.count s.layers) i (painted_layer layer))
        ∙ ap (λ (l : Layers drawing). set l i (layer_of (painted_layer layer))) (sym (layers_are s.count s.layers sixteen few))

    painted_carried_out : carried_out drawing s.width s.height (state_of s canvas) (paint i)
        ≡ record {
          layers = set (layers_of s.count s.layers) i (layer_of (painted_layer layer));
          canvas = paint_row drawing s.width s.height (styled_figure layer.figure layer.style) layer.next_row canvas;
        }
    unfolding carried_out
    painted_carried_out = rw (layer_at s.count s.layers sixteen few i told.within)

    pub painted_canvas : canvas_after s canvas (paint i)
        ≡ paint_row drawing s.width s.height (styled_figure layer.figure layer.style) layer.next_row canvas
    painted_canvas =
        ap (λ (t : State StyledFigure). t.canvas)
        (accepted_is_carried_out drawing s.width s.height (state_of s canvas) (paint i) e ∙ painted_carried_out)

    painted_state : state_of (carried_out_sheet s (paint i)) (canvas_after s canvas (paint i))
        ≡ carried_out drawing s.width s.height (state_of s canvas) (paint i)
    unfolding carried_out_sheet
    painted_state =
        ap₂ (λ (l : Layers drawing) (bytes : List ℕ). record { layers = l; canvas = bytes }) painted_layers painted_canvas
        ∙ sym painted_carried_out

  -- ---- removed
  module _ (i : ℕ) (background : List ℕ) (e : sheet_answer s canvas (remove i background) ≡ passed) where
    accepted : RemoveAccepted s.width s.height s.count s.layers sixteen i background canvas
    accepted = removed_accepted s.width s.height s.count s.layers sixteen i background canvas e

    at_most : s.count ≤ 16
    at_most = kept_few s.width s.height s.count s.layers sixteen accepted.rules

    pub removed_record : sheet_after s canvas (remove i background) ≡ carried_out_sheet s (remove i background)
    removed_record = rw e

    abbrev moved : List Layer
    moved = without i s.layers ++ (blank_layer ∷ [])

    pub removed_places : length moved ≡ 16
    removed_places =
        let within = accepted.within in
        length-append (without i s.layers) (blank_layer ∷ [])
        ∙ omega (arith, at_most, length_without i s.layers (omega (arith, at_most)))

    removed_layers : layers_of (s.count - 1) moved ≡ without i (layers_of s.count s.layers)
    removed_layers =
        let within = accepted.within in
        let whole : suc (s.count - 1) ≡ s.count = omega arith in
        layers_are (s.count - 1) moved removed_places (omega (arith, at_most))
        ∙ ap (map layer_of)
        (take_without (s.count - 1) i s.layers (blank_layer ∷ []) (omega arith) (omega (arith, at_most))
        ∙ ap (λ (n : ℕ). without i (take n s.layers)) whole)
        ∙ sym (without_map layer_of i (take s.count s.layers))
        ∙ ap (without i) (sym (layers_are s.count s.layers sixteen at_most))

    removed_carried_out : carried_out drawing s.width s.height (state_of s canvas) (remove i background)
        ≡ record {
          layers = without i (layers_of s.count s.layers);
          canvas = restored drawing s.width s.height (some (layer_of (get_or s.layers i blank_layer)))
              (without i (layers_of s.count s.layers)) background canvas;
        }
    unfolding carried_out
    removed_carried_out = rw (layer_at s.count s.layers sixteen at_most i accepted.within)

    pub removed_canvas : canvas_after s canvas (remove i background)
        ≡ restored drawing s.width s.height (some (layer_of (get_or s.layers i blank_layer)))
        (without i (layers_of s.count s.layers)) background canvas
    removed_canvas =
        ap (λ (t : State StyledFigure). t.canvas)
        (accepted_is_carried_out drawing s.width s.height (state_of s canvas) (remove i background) e ∙ removed_carried_out)

    removed_state : state_of (carried_out_sheet s (remove i background)) (canvas_after s canvas (remove i background))
        ≡ carried_out drawing s.width s.height (state_of s canvas) (remove i background)
    unfolding carried_out_sheet
    removed_state =
        ap₂ (λ (l : Layers drawing) (bytes : List ℕ). record { layers = l; canvas = bytes }) removed_layers removed_canvas
        ∙ sym removed_carried_out

  -- ---- refused: the canvas
  pub refused_canvas : (call : Call StyledFigure) (refusal : Refusal) → sheet_answer s canvas call ≡ Err refusal
      → canvas_after s canvas call ≡ canvas
  refused_canvas call refusal e =
      ap (λ (t : State StyledFigure). t.canvas) (refused_changes_nothing drawing s.width s.height (state_of s canvas) call e)

  -- ---- The record and the canvas after a call are the sheet and the canvas of `book`'s definitions after it.
  pub state_after : (call : Call StyledFigure)
      → state_of (sheet_after s canvas call) (canvas_after s canvas call) ≡ after drawing s.width s.height (state_of s canvas) call
  state_after call = by_answer call (sheet_answer s canvas call) refl
    where
      by_answer : (call : Call StyledFigure) (a : Checked) → sheet_answer s canvas call ≡ a
          → state_of (sheet_after s canvas call) (canvas_after s canvas call) ≡ after drawing s.width s.height (state_of s canvas) call
      by_answer call (Err refusal) e =
          ap₂ state_of (refused_record call refusal e) (refused_canvas call refusal e)
          ∙ sym (refused_changes_nothing drawing s.width s.height (state_of s canvas) call e)
      by_answer (add item) (Ok _) e =
          let out = accepted_is_carried_out drawing s.width s.height (state_of s canvas) (add item) e in
          ap₂ state_of (added_record item e) (ap (λ (t : State StyledFigure). t.canvas) (out ∙ sym (added_state item e)))
          ∙ added_state item e
          ∙ sym out
      by_answer (paint i) (Ok _) e =
          ap (λ (t : Sheet). state_of t (canvas_after s canvas (paint i))) (painted_record i e)
          ∙ painted_state i e
          ∙ sym (accepted_is_carried_out drawing s.width s.height (state_of s canvas) (paint i) e)
      by_answer (remove i background) (Ok _) e =
          ap (λ (t : Sheet). state_of t (canvas_after s canvas (remove i background))) (removed_record i background e)
          ∙ removed_state i background e
          ∙ sym (accepted_is_carried_out drawing s.width s.height (state_of s canvas) (remove i background) e)

  -- ---- A call leaves the size and the number of places.
  pub record SameFrame (r : Sheet) : Type 0 where
    pub width : r.width ≡ s.width
    pub height : r.height ≡ s.height
    pub places : length r.layers ≡ 16

  pub same_frame_after : (call : Call StyledFigure) → SameFrame (sheet_after s canvas call)
  unfolding carried_out_sheet
  same_frame_after call = by_answer call (sheet_answer s canvas call) refl
    where
      by_answer : (call : Call StyledFigure) (a : Checked) → sheet_answer s canvas call ≡ a
          → SameFrame (keeping a s (carried_out_sheet s call))
      by_answer call (Err refusal) e = record { width = refl; height = refl; places = sixteen }
      by_answer (add item) (Ok _) e =
          record { width = refl; height = refl; places = length-set s.layers s.count (added_layer item) ∙ sixteen }
      by_answer (paint i) (Ok _) e =
          record { width = refl; height = refl; places = length-set s.layers i (painted_layer (get_or s.layers i blank_layer)) ∙ sixteen }
      by_answer (remove i background) (Ok _) e =
          record { width = refl; height = refl; places = removed_places i background e }

-- ---- An add call takes no canvas.
pub add_takes_no_canvas : (s : Sheet) (canvas : List ℕ) (item : StyledFigure) → AddTakesNoCanvas s canvas item
unfolding answer
add_takes_no_canvas s canvas item =
    record {
      same_answer = refl;
      same_sheet = refl;
      canvas_kept = ap (λ (t : State StyledFigure). t.canvas)
          (add_any_canvas drawing s.width s.height (state_of s canvas) item []);
    }
