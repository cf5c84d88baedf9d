-- The lines of the examples.
use Rattle.std.proofs.Common.{refl}
use Rattle.std.specs.Fmt.{digits}
use Rattle.tp_show.specs.LineExamples.{LineExamples, EndLineExamples}

pub line_examples : LineExamples
unfolding digits
line_examples = record {
  nothing = refl;
  number = refl;
  truth_value = refl;
  whole_list = refl;
  no_items = refl;
  part_of_list = refl;
  length_alone = refl;
  item_alone = refl;
  part_of_item = refl;
  whole_item = refl;
  nothing_shown = refl;
  values_shown = refl;
  nothing_told = refl;
  state_told = refl;
  global_told = refl;
  local_told = refl;
  local_length = refl;
  global_cell = refl;
  local_cell = refl;
}

pub end_line_examples : EndLineExamples
unfolding digits
end_line_examples = record {
  goes_on = refl;
  finished = refl;
  two_facts = refl;
  lesser_first = refl;
  false_first = refl;
  shorter_first = refl;
  ends_and_goes_on = refl;
  never_true = refl;
  wrong_kind = refl;
  zero_divisor = refl;
  no_element = refl;
  place_open = refl;
  end_open = refl;
  state_limit = refl;
  reduction_limit = refl;
  number_limit = refl;
  list_limit = refl;
  call_limit = refl;
  nest_limit = refl;
  input_missing = refl;
}
