-- `netpbm_text::number_length` meets its contract. Invariant: the digits counted beyond one, with those that the rest has, are
-- those of the number. A turn takes one digit from the rest, and the rest falls with it, so the count never passes the number.
use native.Mathlib.Omega.{arith}
use Rattle.netpbm_text.proofs.Decimal.{length_decimal_below_ten, length_decimal_from_ten}
use Rattle.netpbm_text.proofs.number_length.Goals as goal

pub loop-rest-init : goal.loop-rest-init
loop-rest-init c = (omega arith, omega arith)

pub overflow_add-digits : goal.overflow_add-digits
overflow_add-digits c = omega arith

pub loop-rest-smaller : goal.loop-rest-smaller
loop-rest-smaller c = omega arith

pub loop-rest-preserved : goal.loop-rest-preserved
loop-rest-preserved c =
    (omega (arith, length_decimal_from_ten c.loop-rest.rest c.loop-rest-test.true), omega arith)

pub returns : goal.returns
returns c = omega (arith, length_decimal_below_ten c.loop-rest.rest c.loop-rest-test.false)
