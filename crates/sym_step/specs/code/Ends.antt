-- What is made of how the machine ends.
use Rattle.std.specs.Prelude.{map, Option, Some, None}
use Rattle.bv_terms.specs.declared.words.Word.{Word}
use Rattle.wasm_machine.specs.declared.values.Reference.TheVariants.{Func, Extern}
use Rattle.wasm_machine.specs.declared.values.Value.{Value as CodeValue}
use Rattle.wasm_machine.specs.declared.values.Value.TheVariants.{I32 as CodeI32, I64 as CodeI64, Ref as CodeRef}
use Rattle.wasm_machine.specs.declared.next.End.{End as CodeEnd}
use Rattle.wasm_machine.specs.declared.next.End.TheVariants.{Returns as CodeReturns, Traps as CodeTraps, Fails as CodeFails, Assumes as CodeAssumes, Stuck as CodeStuck}
use Rattle.sym_state.specs.declared.config.End.{End}
use Rattle.sym_state.specs.declared.config.End.TheVariants.{Returns as EndReturns, Traps as EndTraps, Fails as EndFails}
use Rattle.sym_state.specs.declared.config.Given.{Given}
use Rattle.sym_state.specs.declared.config.Given.TheVariants.{I32 as GivenI32, I64 as GivenI64, Func as GivenFunc, Extern as GivenExtern}

-- a value as a result
abbrev pub given_of : CodeValue Word → Given
given_of (CodeI32 w) = GivenI32 w
given_of (CodeI64 w) = GivenI64 w
given_of (CodeRef (Func f)) = GivenFunc f
given_of (CodeRef Extern) = GivenExtern

-- the end of a path; a run of members fails no assume and is never stuck
abbrev pub ended : CodeEnd Word → Option End
ended (CodeReturns values) = Some (EndReturns (map given_of values.items))
ended (CodeTraps cause) = Some (EndTraps cause)
ended CodeFails = Some EndFails
ended CodeAssumes = None
ended CodeStuck = None
