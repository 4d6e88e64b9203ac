-- `host_sheet_place::area_rows` meets its contract: by the kind, and for an ellipse that is higher than wide by the test of its
-- first row.
use mathlib.Core.Path.{sym, ◌∙◌}
use Prim.Native.Nat.{◌+◌, ◌*◌}
use native.Mathlib.Omega.{arith}
use borrow.Author.Tests.{ltb-true, leb-true}
use lib.Dec.{leb, ltb}
use Rattle.book.proofs.Tests.{and_true_parts}
use Rattle.host_sheet_place.proofs.WideEllipse.{wide_rows}
use Rattle.host_sheet_place.proofs.area_rows.Goals as goal

pub returns-then-is_wide : goal.returns-then-is_wide
returns-then-is_wide c =
    let a = c.args in
    let parts = and_true_parts (ltb 0 a.height) (leb a.height a.width)
    (sym c.is_wide.ensures ∙ c.if-is_wide.true) in
    let tall = ltb-true 0 a.height parts.0 in
    let wide = leb-true a.height a.width parts.1 in
    let rows = wide_rows (a.width + 2 * a.outside) (a.height + 2 * a.outside) (omega arith) (omega arith) in record { value = rw (c.if-ellipse.true, rows); upper_bound = omega arith }

pub returns-then-not-has_rows : goal.returns-then-not-has_rows
returns-then-not-has_rows c = record {
  value = rw (
    c.if-ellipse.true,
    sym c.has_rows.ensures
        ∙ c.if-not-has_rows.true,
  );
  upper_bound = omega arith;
}

pub returns-else-not-has_rows : goal.returns-else-not-has_rows
returns-else-not-has_rows c = record {
  value = rw (
    c.if-ellipse.true,
    sym c.has_rows.ensures
        ∙ c.if-not-has_rows.false,
  );
  upper_bound = omega arith;
}

pub returns-else-ellipse : goal.returns-else-ellipse
returns-else-ellipse c = record { value = rw c.if-ellipse.false; upper_bound = omega arith }
