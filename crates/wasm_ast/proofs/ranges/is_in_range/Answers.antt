use Rattle.wasm_ast.proofs.ranges.is_in_range.Goals as goal

pub returns : goal.returns
returns c = record {
  imports = c.see_list.ensures;
  funcs = c.see_list-2.ensures;
  tables = c.see_list-3.ensures;
  memories = c.see_list-4.ensures;
  globals = c.see_list-5.ensures;
  exports = c.see_list-6.ensures;
  start = c.see_option.ensures;
  elems = c.see_list-7.ensures;
  segments = c.see_list-8.ensures;
  customs = c.see_list-9.ensures;
}
