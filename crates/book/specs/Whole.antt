-- An item painted in one call without a sheet (document 01, "Sheet", last paragraph), over any drawing, and what it
-- means that a sheet with that one layer comes to the same bytes.
-- Assumes nothing.
use Rattle.refusal.specs.Refusal.{passed}
use Rattle.std.specs.Prelude.{◌≡◌, List, [], ◌∷◌, ◌++◌, ℕ, zero, suc, ℤ, pos, ◌+ℤ◌, take, drop, replicate}
use Rattle.book.specs.Book.{Drawing, Call, add, paint, end_row}
use Rattle.book.specs.Sheet.{paint_row, answers, after_all, opened}

module _ (d : Drawing) where
  -- n rows of an item from row y down, each written onto the canvas in turn where the canvas has it ("Sheet").
  unfoldable pub paint_rows : ℕ → ℕ → d.Item → ℤ → ℕ → List ℕ → List ℕ
  paint_rows W H item y zero canvas = canvas
  paint_rows W H item y (suc n) canvas = paint_rows W H item (y +ℤ pos 1) n (paint_row d W H item y canvas)

  -- The whole item: all its rows from the first on ("Sheet", last paragraph).
  abbrev pub paint_whole : ℕ → ℕ → d.Item → List ℕ → List ℕ
  paint_whole W H item canvas = paint_rows W H item (d.first item) (d.rows item) canvas

  -- n canvas rows from row y down, each overpainted by the item's styled row there ("The book"): what the one call makes of
  -- a canvas, row by row. The law `whole_by_rows` (proofs/WholeRows.antt) says that it is the same as `paint_whole`.
  unfoldable pub overpaint_rows : ℕ → d.Item → ℕ → ℕ → List ℕ → List ℕ
  overpaint_rows W item y zero canvas = canvas
  overpaint_rows W item y (suc n) canvas =
      d.over item (pos y) (take W canvas) ++ overpaint_rows W item (suc y) n (drop W canvas)

  -- The calls by which a sheet with that one layer is painted to the end ("Sheet", last paragraph): the item is added,
  -- and layer 0 is painted as often as it has rows.
  abbrev pub whole_calls : d.Item → List (Call d.Item)
  whole_calls item = add item ∷ replicate (d.rows item) (paint 0)

  -- That sheet accepts every call, its one layer comes to its end, and its canvas is the lent one with the whole item
  -- painted ("Sheet", last paragraph).
  pub record SingleLayerWhole (W H : ℕ) (lent : List ℕ) (item : d.Item) : Type 0 where
    pub all_accepted : answers d W H (opened d lent) (whole_calls item) ≡ replicate (suc (d.rows item)) passed
    pub finished : after_all d W H (opened d lent) (whole_calls item)
        ≡ record { layers = record { item = item; next = end_row d item } ∷ []; canvas = paint_whole W H item lent }
