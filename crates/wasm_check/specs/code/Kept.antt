-- What the code keeps of the context of a body: the context, with flags in place of the test of which functions `ref.func`
-- may name. No public contract speaks of it.
use Rattle.std.specs.Prelude.{get_or, ℕ, List, ◌++◌, length, map, Bool, false}
use Rattle.wasm_ast.specs.declared.types.ValType.{ValType}
use Rattle.wasm_ast.specs.declared.types.FuncType.{FuncType}
use Rattle.wasm_ast.specs.declared.types.Limits.{Limits}
use Rattle.wasm_ast.specs.declared.types.TableType.{TableType}
use Rattle.wasm_ast.specs.declared.types.GlobalType.{GlobalType}
use Rattle.wasm_ast.specs.declared.modules.Module.{Module}
use Rattle.wasm_check.specs.declared.spaces.Spaces.{Spaces}
use Rattle.wasm_check.specs.Contexts.{Context}

pub record Kept : Type 0 where
  pub types : List FuncType
  pub funcs : List ℕ
  pub tables : List TableType
  pub memories : List Limits
  pub globals : List GlobalType
  pub elems : List ValType
  pub datas : ℕ
  pub flags : List Bool
  pub locals : List ValType
  pub results : List ValType

abbrev pub context : Kept → Context
context k = record {
  types = k.types;
  funcs = k.funcs;
  tables = k.tables;
  memories = k.memories;
  globals = k.globals;
  elems = k.elems;
  datas = k.datas;
  declared = λ x. get_or k.flags x false;
  locals = k.locals;
  results = k.results;
}

-- of a function of the module: its type, and its locals that aren't parameters
abbrev pub kept_of : Module → Spaces → List Bool → FuncType → List ValType → Kept
kept_of m spaces flags type locals = record {
  types = m.types;
  funcs = spaces.funcs.items;
  tables = spaces.tables.items;
  memories = spaces.memories.items;
  globals = spaces.globals.items;
  elems = map (λ e. e.kind) m.elems;
  datas = length m.segments;
  flags = flags;
  locals = type.params ++ locals;
  results = type.results;
}
