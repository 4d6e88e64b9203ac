-- `netpbm::write` meets its contract: passed, the checks leave room for the file, and what is put from the buffer's start is the file.
use mathlib.Core.Path.{sym, ◌∙◌}
use Rattle.canvas_size.proofs.Sides.{canvas_length_passed}
use Rattle.netpbm_header.proofs.Header.{length_header_u32}
use Rattle.netpbm_raster.proofs.Rows.{raster_length_fits}
use lib.ListN.{length}
use native.Mathlib.Omega.{arith}
use Rattle.netpbm.proofs.write.Goals as goal

pub overflow_add-header_length : goal.overflow_add-header_length
overflow_add-header_length c =
    let a = c.args in
    let canvas_small = c.well_formed.1.1.1.0.1 in
    omega (
      arith,
      length_header_u32 a.format a.width a.height (omega arith) (omega arith),
      raster_length_fits a.format a.width a.height (length a.canvas.now) (omega arith) (omega arith) (omega arith),
    )

pub put_picture-requires-clause-canvas_len : goal.put_picture-requires-clause-canvas_len
put_picture-requires-clause-canvas_len c = canvas_length_passed _ _ _ (sym c.check_length.ensures ∙ c.in_ok-check_length.was)
