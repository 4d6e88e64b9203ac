-- A sheet's layers, its rules and its calls (document 01, "Sheet"), over any drawing: what the promises of the code say of
-- the answer, the sheet and the canvas. `Rules` has the rules in the paper's words. Number 7 is answered by the test
-- `keeps_rules`; the law `keeps_rules_iff` (proofs/RulesTest.antt) says that the two agree.
-- Assumes nothing.
use Rattle.std.specs.Prelude.{◌≡◌, ◌↔◌, List, [], ◌∷◌, ◌++◌, Bool, true, false, cond, not, ◌&&◌, ◌||◌, ℕ, ◌*◌, ◌≤◌, leb, ltb, eqb, ℤ, pos, negsuc, ◌+ℤ◌, length, take, set, Ok, Err}
use Rattle.std.proofs.Math.Option.{Option, none, some}
use Rattle.std.specs.Int.Signed.{le_z, lt_z}
use Rattle.std.proofs.Math.ListN.{get_elem?}
use Rattle.refusal.specs.declared.Refusal.TheVariants.{SheetRule, CanvasLength, SheetFull, NoLayer, NoRowLeft, RowOwed}
use Rattle.refusal.specs.Refusal.{refuse_if, or_else, keeping, Checked, passed}
use Rattle.book.specs.Each.{Each, EachTwo}
use Rattle.book.specs.Canvas.{canvas_row, put_row, canvas_of}
use Rattle.book.specs.Book.{in_run, without, Drawing, Call, add, paint, remove, end_row, has_row, overpainted}

-- A layer of a sheet ("The records"): a figure with its style, and its next row.
pub record Layer (A : Type 0) : Type 0 where
  pub item : A
  pub next : ℤ

-- A sheet's layers in the order of adding, and the canvas that its paint calls and removals get (demand 3).
pub record State (A : Type 0) : Type 0 where
  pub layers : List (Layer A)
  pub canvas : List ℕ

-- True of the answer of an accepted call ("Sheet": figures and styles within limits).
abbrev pub is_accepted : Checked → Bool
is_accepted (Ok _) = true
is_accepted (Err refusal) = false

-- A canvas of W by H with its row y made into another, by a function of the row's number and its bytes; as it was where y is not a
-- row of the canvas ("Sheet": pixels off the canvas are skipped).
unfoldable pub with_row : (ℤ → List ℕ → List ℕ) → ℕ → ℕ → ℤ → List ℕ → List ℕ
with_row over W H (pos y) canvas = cond (ltb y H) (put_row W y (over (pos y) (canvas_row W y canvas)) canvas) canvas
with_row over W H (negsuc y) canvas = canvas

module _ (d : Drawing) where
  -- The layers of a sheet, the earliest first ("Sheet").
  abbrev pub Layers : Type 0
  Layers = List (Layer d.Item)

  -- A layer owes y ("Sheet"): y is among its rows, and its next row is not past y.
  unfoldable pub layer_owes : Layer d.Item → ℤ → Bool
  layer_owes l y = has_row d l.item y && le_z l.next y

  -- Some layer of a list owes y ("Sheet").
  unfoldable pub some_layer_owes : Layers → ℤ → Bool
  some_layer_owes [] y = false
  some_layer_owes (l ∷ rest) y = layer_owes l y || some_layer_owes rest y

  -- A number of columns or rows of a canvas ("The records").
  abbrev pub WithinSide : ℕ → Type 0
  WithinSide n = (1 ≤ n) × (n ≤ d.max_side)

  -- The rules of one layer ("Sheet"): its figure and style are within limits, and its next row is from the first row to
  -- the one after the last.
  pub record LayerRules (l : Layer d.Item) : Type 0 where
    pub allowed : d.refuse l.item ≡ passed
    pub from_first : le_z (d.first l.item) l.next ≡ true
    pub to_end : le_z l.next (end_row d l.item) ≡ true

  -- The rule of two layers ("Sheet"): a row y of the later that lies above its next row is none that the earlier owes.
  abbrev pub OrderRule : Layer d.Item → Layer d.Item → Type 0
  OrderRule earlier later =
      (y : ℤ) → layer_owes earlier y ≡ true → has_row d later.item y ≡ true → lt_z y later.next ≡ true → ⊥

  -- The rules of a sheet ("Sheet").
  pub record Rules (W H : ℕ) (layers : Layers) : Type 0 where
    -- the canvas has sides within limits
    pub width : WithinSide W
    pub height : WithinSide H
    -- there are no more layers than places
    pub few : length layers ≤ d.max_layers
    -- each layer keeps its own rules, and each two keep theirs
    pub each : Each LayerRules layers
    pub order : EachTwo OrderRule layers

  -- The test of one layer's rules ("Sheet").
  unfoldable pub layer_keeps_rules : Layer d.Item → Bool
  layer_keeps_rules l =
      is_accepted (d.refuse l.item) && (le_z (d.first l.item) l.next && le_z l.next (end_row d l.item))

  -- The test that two layers break the order ("Sheet"): the rows that the later has painted, first..next, and those that
  -- the earlier has left, next..end, meet. Two runs meet where each one's start is less than each one's end.
  unfoldable pub overtakes : Layer d.Item → Layer d.Item → Bool
  overtakes earlier later =
      (lt_z (d.first later.item) later.next && lt_z (d.first later.item) (end_row d earlier.item))
      && (lt_z earlier.next later.next && lt_z earlier.next (end_row d earlier.item))

  -- No layer of a list overtakes an earlier one ("Sheet").
  unfoldable pub none_overtakes : Layer d.Item → Layers → Bool
  none_overtakes l [] = true
  none_overtakes l (later ∷ rest) = not (overtakes l later) && none_overtakes l rest

  -- The test of the layers' rules, one by one and two by two ("Sheet").
  unfoldable pub layers_keep_rules : Layers → Bool
  layers_keep_rules [] = true
  layers_keep_rules (l ∷ rest) = (layer_keeps_rules l && none_overtakes l rest) && layers_keep_rules rest

  -- The test of a canvas side ("The records").
  abbrev pub fits_side : ℕ → Bool
  fits_side n = leb 1 n && leb n d.max_side

  -- The test of the rules of a sheet, by which number 7 is answered ("Sheet").
  unfoldable pub keeps_rules : ℕ → ℕ → Layers → Bool
  keeps_rules W H layers =
      (fits_side W && fits_side H) && (leb (length layers) d.max_layers && layers_keep_rules layers)

  -- The test is true exactly when the rules hold: `keeps_rules_iff` (proofs/RulesTest.antt).
  abbrev pub TestIsRules : Type 0
  TestIsRules = (W H : ℕ) (layers : Layers) → (keeps_rules W H layers ≡ true) ↔ Rules W H layers

  -- The answer to a paint call, by the layer that stands at its number ("The records", the table): 10, then 11, then 12.
  abbrev pub layer_answer : Layers → ℕ → Option (Layer d.Item) → Checked
  layer_answer layers i none = Err NoLayer
  layer_answer layers i (some l) =
      or_else (refuse_if (le_z (end_row d l.item) l.next) NoRowLeft)
      (refuse_if (some_layer_owes (take i layers) l.next) RowOwed)

  -- The answer to a call on a sheet of W by H with its canvas ("The records", the table, lowest number first): an add call
  -- gets 1, 2, 3 or 5 by its item, then 7, then 9; a paint call gets 7, then 8, then 10, 11 or 12; a removal gets 7, then 8 for
  -- the canvas or the background, then 10 (document 02, "Five").
  unfoldable pub answer : ℕ → ℕ → State d.Item → Call d.Item → Checked
  answer W H s (add item) =
      or_else (d.refuse item)
      (or_else (refuse_if (not (keeps_rules W H s.layers)) SheetRule)
      (refuse_if (leb d.max_layers (length s.layers)) SheetFull))
  answer W H s (paint i) =
      or_else (refuse_if (not (keeps_rules W H s.layers)) SheetRule)
      (or_else (refuse_if (not (eqb (length s.canvas) (W * H))) CanvasLength)
      (layer_answer s.layers i (get_elem? s.layers i)))
  answer W H s (remove i background) =
      or_else (refuse_if (not (keeps_rules W H s.layers)) SheetRule)
      (or_else (refuse_if (not (eqb (length s.canvas) (W * H))) CanvasLength)
      (or_else (refuse_if (not (eqb (length background) (W * H))) CanvasLength)
      (refuse_if (leb (length s.layers) i) NoLayer)))

  -- The styled row of an item at y written onto the canvas ("Sheet"): nothing where y is not a row of the canvas.
  abbrev pub paint_row : ℕ → ℕ → d.Item → ℤ → List ℕ → List ℕ
  paint_row W H item y canvas = with_row (d.over item) W H y canvas

  -- An accepted paint call ("Sheet"): the layer's row at its next row is written, and next row moves down by one.
  abbrev pub painted_layer : ℕ → ℕ → State d.Item → ℕ → Option (Layer d.Item) → State d.Item
  painted_layer W H s i none = s
  painted_layer W H s i (some l) =
      record {
        layers = set s.layers i (record { item = l.item; next = l.next +ℤ pos 1 });
        canvas = paint_row W H l.item l.next s.canvas;
      }

  -- A layer has painted y ("Sheet"): y is from its first row on, and above its next row.
  unfoldable pub layer_has_painted : Layer d.Item → ℤ → Bool
  layer_has_painted l y = in_run (d.first l.item) l.next y

  -- The items of the layers that have painted y, in the order of adding (document 02, "Five").
  unfoldable pub layer_painters : Layers → ℤ → List d.Item
  layer_painters [] y = []
  layer_painters (l ∷ rest) y = cond (layer_has_painted l y) (l.item ∷ layer_painters rest y) (layer_painters rest y)

  -- Row y after a layer is removed (document 02, "Five"): a row that the layer had painted is the background's, overpainted by
  -- the other layers that had painted it, the first added first; any other row stays.
  unfoldable pub restored_row : ℕ → Layer d.Item → Layers → List ℕ → List ℕ → ℕ → List ℕ
  restored_row W l others background canvas y =
      cond (layer_has_painted l (pos y))
      (overpainted d (layer_painters others (pos y)) (pos y) (canvas_row W y background))
      (canvas_row W y canvas)

  -- The canvas after a layer is removed, all H rows of it (document 02, "Five").
  abbrev pub restored : ℕ → ℕ → Option (Layer d.Item) → Layers → List ℕ → List ℕ → List ℕ
  restored W H none others background canvas = canvas
  restored W H (some l) others background canvas = canvas_of (restored_row W l others background canvas) H

  -- An accepted call ("Sheet"): an added item goes on top, its next row its first; a removed layer is taken out, and the later
  -- ones move down one number (document 02, "Five").
  unfoldable pub carried_out : ℕ → ℕ → State d.Item → Call d.Item → State d.Item
  carried_out W H s (add item) =
      record { layers = s.layers ++ (record { item = item; next = d.first item } ∷ []); canvas = s.canvas }
  carried_out W H s (paint i) = painted_layer W H s i (get_elem? s.layers i)
  carried_out W H s (remove i background) =
      record {
        layers = without i s.layers;
        canvas = restored W H (get_elem? s.layers i) (without i s.layers) background s.canvas;
      }

  -- Sheet and canvas after a call ("The records", below the table): a refused one changes neither.
  unfoldable pub after : ℕ → ℕ → State d.Item → Call d.Item → State d.Item
  after W H s call = keeping (answer W H s call) s (carried_out W H s call)

  -- The answers to a list of calls, each on the sheet that the last one returned (demand 3).
  unfoldable pub answers : ℕ → ℕ → State d.Item → List (Call d.Item) → List Checked
  answers W H s [] = []
  answers W H s (call ∷ calls) = answer W H s call ∷ answers W H (after W H s call) calls

  -- Sheet and canvas after a list of calls (demand 3).
  unfoldable pub after_all : ℕ → ℕ → State d.Item → List (Call d.Item) → State d.Item
  after_all W H s [] = s
  after_all W H s (call ∷ calls) = after_all W H (after W H s call) calls

  -- A sheet just opened ("Sheet": it has no layers), and the canvas lent to its paint calls and removals.
  abbrev pub opened : List ℕ → State d.Item
  opened lent = record { layers = []; canvas = lent }

  -- A call on any sheet that keeps the rules leaves one that keeps them ("Sheet"), also on one that no calls have led to, and
  -- whatever canvas and background come with it: an add call does not look at the canvas, and a paint call or a removal gets 8
  -- if one of them has another length than W × H. That it holds is `rules_kept_lem` (proofs/RulesKept.antt).
  abbrev pub RulesKept : Type 0
  RulesKept =
      (W H : ℕ) (s : State d.Item) → Rules W H s.layers → (call : Call d.Item)
      → Rules W H (after W H s call).layers

  -- So does every list of calls: `rules_kept_by_all` (proofs/RulesKept.antt).
  abbrev pub RulesKeptByAll : Type 0
  RulesKeptByAll =
      (W H : ℕ) (s : State d.Item) → Rules W H s.layers → (calls : List (Call d.Item))
      → Rules W H (after_all W H s calls).layers
