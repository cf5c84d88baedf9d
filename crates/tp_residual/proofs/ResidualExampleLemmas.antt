-- The spellings of the examples.
use Rattle.std.proofs.Common.{refl}
use Rattle.std.specs.Fmt.{digits}
use Rattle.tp_residual.specs.Examples.{ResidualExamples}

pub residual_examples : ResidualExamples
unfolding digits
residual_examples = record {
  goes_on = refl;
  ends = refl;
  nothing = refl;
  left_alone = refl;
  left_of_two = refl;
  left_is_split = refl;
  left_is_empty = refl;
  beside = refl;
  projection = refl;
  projected_twice = refl;
  place = refl;
  value = refl;
  loop = refl;
  loop_from_zero = refl;
  loop_within = refl;
  each_of_two = refl;
  loop_beside = refl;
  local = refl;
  no_operands = refl;
  one_operand = refl;
  chain = refl;
  next_of_two = refl;
  next_next = refl;
  next_of_next = refl;
  next_of_equation = refl;
  weak = refl;
  weak_of_weak = refl;
  at_end = refl;
  in_each = refl;
  branches = refl;
  chops = refl;
  chop_right = refl;
  proj_left = refl;
  assignment = refl;
  calls = refl;
  inputs = refl;
  displays = refl;
  negative = refl;
  sum_of_product = refl;
  product_of_sum = refl;
  difference_right = refl;
  items = refl;
  sizes = refl;
  one_of = refl;
  none_of = refl;
  chosen = refl;
}
