use Rattle.std.proofs.Common.{arith}
use Rattle.tier_shape.proofs.Numerals.{width_digits, reads_one, reads_two}
use Rattle.tier_shape.proofs.widths.width_of.Goals as goal

pub returns-in-49-to-57 : goal.returns-in-49-to-57
returns-in-49-to-57 c = ((omega arith, omega arith), reads_one c.args.digits.now c.from.result (omega arith) (omega arith) (omega arith))

pub returns-else-width-le64 : goal.returns-else-width-le64
returns-else-width-le64 c = λ width is same. let d = width_digits width c.args.digits.now is same in omega (arith, d.one, d.two)

pub returns-in_default : goal.returns-in_default
returns-in_default c = λ width is same. let d = width_digits width c.args.digits.now is same in omega (arith, d.one, d.two)

pub returns-in_default-2 : goal.returns-in_default-2
returns-in_default-2 c = λ width is same. let d = width_digits width c.args.digits.now is same in omega (arith, d.one, d.two)

pub returns-in_default-3 : goal.returns-in_default-3
returns-in_default-3 c = λ width is same. let d = width_digits width c.args.digits.now is same in omega (arith, d.one, d.two)

pub returns-in_default-4 : goal.returns-in_default-4
returns-in_default-4 c = λ width is same. let d = width_digits width c.args.digits.now is same in omega (arith, d.one, d.two)

pub returns-in_default-5 : goal.returns-in_default-5
returns-in_default-5 c = λ width is same. let d = width_digits width c.args.digits.now is same in omega (arith, d.one, d.two)

pub returns-in_default-6 : goal.returns-in_default-6
returns-in_default-6 c = λ width is same. let d = width_digits width c.args.digits.now is same in omega (arith, d.one, d.two)

pub returns-in_default-7 : goal.returns-in_default-7
returns-in_default-7 c = λ width is same. let d = width_digits width c.args.digits.now is same in omega (arith, d.one, d.two)

pub returns-in_default-8 : goal.returns-in_default-8
returns-in_default-8 c = λ width is same. let d = width_digits width c.args.digits.now is same in omega (arith, d.one, d.two)

pub returns-then-width-le64 : goal.returns-then-width-le64
returns-then-width-le64 c = (
  (omega arith, omega arith),
  reads_two c.args.digits.now c.from-in-49-to-57-2.result c.from-in-49-to-57-2-2.result
      (omega arith) (omega arith) (omega arith) (omega arith) (omega arith) (omega arith),
)
