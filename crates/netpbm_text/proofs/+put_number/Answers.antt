-- `netpbm_text::put_number`: below ten the number is its one digit; from ten on its decimal is that of its tenth and then its last
-- digit, and so it is put.
use Rattle.std.proofs.Common.{◌<◌, ◌≤◌, arith}
use Rattle.netpbm_text.proofs.Written.{wrote_then, wrote_length}
use Rattle.netpbm_text.proofs.Decimal.{decimal_below_ten, decimal_from_ten, length_decimal_below_ten, length_decimal_from_ten}
use Rattle.netpbm_text.proofs.+put_number.Goals as goal

-- below ten
pub put_digit-requires-clause-at_in_bounds : goal.put_digit-requires-clause-at_in_bounds
put_digit-requires-clause-at_in_bounds t c =
    let small : c.args.n < 10 = omega arith in
    omega (arith, length_decimal_below_ten c.args.n small)

pub returns-then-n-lt10 : goal.returns-then-n-lt10
returns-then-n-lt10 t c =
    let small : c.args.n < 10 = omega arith in
    rw (decimal_below_ten c.args.n small) c.put_digit.ensures

-- the tenth, and then the last digit
pub put_number-last-requires : goal.put_number-last-requires
put_number-last-requires t c =
    let large : 10 ≤ c.args.n = omega arith in
    (omega arith, omega (arith, length_decimal_from_ten c.args.n large))

pub put_digit-requires-2-clause-at_in_bounds : goal.put_digit-requires-2-clause-at_in_bounds
put_digit-requires-2-clause-at_in_bounds t c =
    let large : 10 ≤ c.args.n = omega arith in
    omega (arith, length_decimal_from_ten c.args.n large, wrote_length c.put_number-last.ensures)

pub returns : goal.returns
returns t c =
    let large : 10 ≤ c.args.n = omega arith in
    rw (decimal_from_ten c.args.n large) (wrote_then c.put_number-last.ensures c.put_digit-2.ensures)
