-- The examples, by computing.
use Rattle.std.proofs.Common.{refl}
use Rattle.int_ops.specs.Operators.{operator_of}
use Rattle.wasm_rules.specs.Accesses.{load_of, store_of}
use Rattle.wasm_reduction.specs.Examples.{NumericExamples, ParametricExamples, ControlExamples, TableExamples, MemoryExamples, InstantiationExamples, HostExamples}

pub numeric_examples : NumericExamples
unfolding operator_of load_of store_of
numeric_examples = record {
  sum_at_two_steps = (80, refl);
  sum_at_three_steps = (80, refl);
  sum_wraps = (80, refl);
  eqz = (80, refl);
  div_s_by_zero = (80, refl);
  rem_u_by_zero = (80, refl);
  div_s_overflow = (80, refl);
  div_s_overflow_64 = (80, refl);
  div_s_of_the_least = (80, refl);
  rem_s_of_the_least = (80, refl);
  div_u = (80, refl);
}

pub parametric_examples : ParametricExamples
unfolding operator_of load_of store_of
parametric_examples = record {
  discard = (80, refl);
  select_first = (80, refl);
  select_second = (80, refl);
  select_reference = (80, refl);
  select_null = (80, refl);
  local = (80, refl);
  global = (80, refl);
}

pub control_examples : ControlExamples
unfolding operator_of load_of store_of
control_examples = record {
  unreachable = (80, refl);
  endless_loop = (80, refl);
  block_with_params = (80, refl);
  branch_drops_the_others = (80, refl);
  branch_out_of_the_body = (80, refl);
  loop_at_18_steps = (80, refl);
  loop_at_19_steps = (80, refl);
  if_first = (80, refl);
  if_other = (80, refl);
  br_table_first = (80, refl);
  br_table_second = (80, refl);
  br_table_at_its_end = (80, refl);
  br_table_past_its_end = (80, refl);
  call_at_five_steps = (80, refl);
  call_at_six_steps = (80, refl);
  recursion = (80, refl);
  call_indirect = (80, refl);
  call_indirect_null = (80, refl);
  call_indirect_mismatch = (80, refl);
  call_indirect_past_the_end = (80, refl);
}

pub table_examples : TableExamples
unfolding operator_of load_of store_of
table_examples = record {
  get = (80, refl);
  get_past_the_end = (80, refl);
  set = (80, refl);
  set_past_the_end = (80, refl);
  size = (80, refl);
  grow_to_the_maximum = (80, refl);
  grow_past_the_maximum = (80, refl);
  fill = (80, refl);
  fill_past_the_end = (80, refl);
  copy_that_overlaps = (80, refl);
  init = (80, refl);
  init_past_the_segment = (80, refl);
  init_of_a_dropped_segment = (80, refl);
}

pub memory_examples : MemoryExamples
unfolding operator_of load_of store_of
memory_examples = record {
  load = (80, refl);
  load_past_the_end = (80, refl);
  load_of_the_last_byte = (80, refl);
  load_of_a_sign = (80, refl);
  offset_past_the_end = (80, refl);
  address_does_not_wrap = (80, refl);
  store = (80, refl);
  store_past_the_end = (80, refl);
  size = (80, refl);
  grow_by_none = (80, refl);
  grow_past_the_maximum = (80, refl);
  grow_past_all_maxima = (80, refl);
  fill = (80, refl);
  fill_none_at_the_end = (80, refl);
  fill_none_past_the_end = (80, refl);
  copy_forward = (80, refl);
  copy_backward = (80, refl);
  copy_from_past_the_end = (80, refl);
  init = (80, refl);
  init_of_a_dropped_segment = (80, refl);
}

pub instantiation_examples : InstantiationExamples
unfolding operator_of load_of store_of
instantiation_examples = record {
  global_by_one_before = (80, refl);
  global_by_one_after = refl;
  global_by_itself = refl;
  product_wraps = refl;
  difference_wraps = refl;
  wide_difference = refl;
  operand_left_over = refl;
  operand_lacks = refl;
  element_at_the_end = (80, refl);
  element_past_the_end = (80, refl);
  elements_first = (80, refl);
  then_data = (80, refl);
  then_start = (80, refl);
  active_segment_is_dropped = (80, refl);
  start_before_export = (80, refl);
  units_of_both = (80, refl);
  start_traps = (80, refl);
}

pub host_examples : HostExamples
unfolding operator_of load_of store_of
host_examples = record {
  symbols = (80, refl);
  assume_holds = (80, refl);
  assume_fails = (80, refl);
  assert_holds = (80, refl);
  assert_fails = (80, refl);
  host_call_is_one_unit = (80, refl);
  exported_symbol = (80, refl);
  exported_assume = (80, refl);
  generated_at_0 = (80, refl);
  generated_at_5 = (80, refl);
}
