-- What is left of the instructions that hold no others once those of a single opcode are told apart.
use Rattle.std.specs.Prelude.{ℕ}
use Rattle.grammar_forms.specs.Forms.{gives, when◌form◌else◌}
use Rattle.wasm_ast.specs.Opcodes.{is_load, is_store}
use Rattle.wasm_ast.specs.declared.instructions.Instr.{Instr}
use Rattle.wasm_ast.specs.declared.instructions.Instr.TheVariants.{Load, Store, Num}
use Rattle.wasm_binary.specs.Values.{Grammar}
use Rattle.wasm_binary.specs.Instructions.{memory_argument}

-- a load, a store or an operator
abbrev pub access : ℕ → Grammar Instr
access b =
    when is_load b form memory_argument (Load b) else
    when is_store b form memory_argument (Store b) else
    gives (Num b)
