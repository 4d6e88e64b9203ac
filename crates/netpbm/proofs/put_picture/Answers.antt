-- `netpbm::put_picture` meets its contract: the header and, from where it ended, the raster are one write.
use lib.ListN.{length-append}
use Rattle.netpbm_text.proofs.Written.{wrote_then}
use Rattle.netpbm_header.specs.Header.{header}
use Rattle.netpbm.specs.Netpbm.{raster}
use native.Mathlib.Omega.{arith}
use Rattle.netpbm.proofs.put_picture.Goals as goal

pub put_header-raster_at-requires : goal.put_header-raster_at-requires
put_header-raster_at-requires c =
    let a = c.args in
    omega (
      arith,
      length-append (header a.format a.size.width a.size.height)
          (raster a.format a.size.width a.size.height a.canvas.now),
    )

pub put_raster-requires : goal.put_raster-requires
put_raster-requires c =
    let a = c.args in record {
      canvas_len = c.requires.canvas_len;
      canvas_in_bounds = omega (
        arith,
        length-append (header a.format a.size.width a.size.height)
            (raster a.format a.size.width a.size.height a.canvas.now),
      );
    }

pub returns : goal.returns
returns c = wrote_then c.put_header-raster_at.ensures c.put_raster.ensures
