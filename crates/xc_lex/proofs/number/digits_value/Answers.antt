use Rattle.std.proofs.Common.{◌≤◌, ◌^◌, ◌+◌, ◌*◌, get_or, arith}
use Rattle.xc_lex.specs.Numbers.{digit_value}
use Rattle.xc_lex.proofs.Values.{le-value_from_at}
use Rattle.xc_lex.proofs.number.digits_value.Goals as goal

pub returns-in_err-checked_mul-clause-none : goal.returns-in_err-checked_mul-clause-none
returns-in_err-checked_mul-clause-none c =
    let large : 2 ^ 64 ≤ c.loop-b.value * c.args.base + digit_value (get_or c.args.digits.now c.loop-b.b-index 0) = omega (arith, c.in_err-checked_mul.ensures) in
    let big = le-value_from_at c.args.base c.loop-b.value (2 ^ 64) c.loop-b.b-index c.args.digits.now c.requires (omega arith) large in
    rw (c.from_residual.ensures, c.loop-b.invariant) big

pub returns-in_err-value-clause-none : goal.returns-in_err-value-clause-none
returns-in_err-value-clause-none c =
    let e = c.in_err-value.ensures in
    let d = c.digit_value.ensures in
    let m = c.in_ok-checked_mul.ensures in
    let large : 2 ^ 64 ≤ c.loop-b.value * c.args.base + digit_value (get_or c.args.digits.now c.loop-b.b-index 0) = omega (arith, e, d, m) in
    let big = le-value_from_at c.args.base c.loop-b.value (2 ^ 64) c.loop-b.b-index c.args.digits.now c.requires (omega arith) large in
    rw (c.from_residual-in_err-value.ensures, c.loop-b.invariant) big
