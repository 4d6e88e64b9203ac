-- `netpbm_header::header_length` meets its contract by the law of a header's length. Each number has at most ten digits, so the sum fits.
use native.Mathlib.Omega.{arith}
use Rattle.netpbm_text.proofs.Decimal.{length_decimal_u32}
use Rattle.netpbm_header.proofs.Header.{length_ending_most, length_header}
use Rattle.netpbm_header.proofs.header_length.Goals as goal

pub overflow_add-result : goal.overflow_add-result
overflow_add-result c =
    let a = c.args in
    omega (arith, length_ending_most a.format, length_decimal_u32 a.size.width (omega arith))

pub overflow_add-result-2 : goal.overflow_add-result-2
overflow_add-result-2 c =
    let a = c.args in
    omega (
      arith,
      length_ending_most a.format,
      length_decimal_u32 a.size.width (omega arith),
      length_decimal_u32 a.size.height
          (omega arith),
    )

pub returns : goal.returns
returns c =
    let a = c.args in
    omega (arith, length_header a.format a.size.width a.size.height)
