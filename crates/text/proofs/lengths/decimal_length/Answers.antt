-- One digit more than the tens that a number reaches; 0 has one digit.
use mathlib.Core.Path.{sym}
use native.Mathlib.Omega.{arith}
use Rattle.text.proofs.Decimals.{decimal_length_exact, decimal_few, decimal_one_length}
use Rattle.text.proofs.lengths.decimal_length.Goals as goal

pub returns-in-Some : goal.returns-in-Some
returns-in-Some c =
    let e = decimal_length_exact c.in-Some.tens c.args.n c.in-Some.ensures.power_le c.in-Some.ensures.next_power_gt in
    (e, omega (arith, e, decimal_few c.args.n))

pub returns-in-None : goal.returns-in-None
returns-in-None c = (sym (decimal_one_length c.args.n (omega (arith, c.in-None.ensures.none))), omega arith)
