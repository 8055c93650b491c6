use Rattle.std.proofs.Common.{arith}
use Rattle.std.proofs.lemmas.Bool.Decides.{nat_tests}
use Rattle.byte_classes.specs.Sets.{digit, hex, any_hex}
use Rattle.number.specs.Numbers.{digit_value}
use Rattle.number.proofs.read.digit_value.Goals as goal

pub overflow_sub-result : goal.overflow_sub-result
unfolding digit
overflow_sub-result c = grind (arith, nat_tests)

pub overflow_sub-result-then-test-2 : goal.overflow_sub-result-then-test-2
unfolding digit hex
overflow_sub-result-then-test-2 c = grind (arith, nat_tests)

pub overflow_sub-result-then-test-3 : goal.overflow_sub-result-then-test-3
unfolding digit hex any_hex
overflow_sub-result-then-test-3 c = grind (arith, nat_tests)

pub returns-then-test : goal.returns-then-test
unfolding digit_value
returns-then-test c = grind (arith, nat_tests)

pub returns-then-test-2 : goal.returns-then-test-2
unfolding digit_value
returns-then-test-2 c = grind (arith, nat_tests)

pub returns-then-test-3 : goal.returns-then-test-3
unfolding digit_value
returns-then-test-3 c = grind (arith, nat_tests)

pub returns-else-test-3 : goal.returns-else-test-3
unfolding digit_value
returns-else-test-3 c = grind (arith, nat_tests)
