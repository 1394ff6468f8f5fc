-- The configurations that runs of valid modules come to (Appendix, Soundness: Store Validity, Configuration Validity).
use Rattle.std.specs.Prelude.{◌≡◌, List, [], ◌∷◌, ◌++◌, length, map, Some, Result, Ok, Err}
use Rattle.std.specs.List.{AllByRecursion}
use Rattle.wasm_ast.specs.declared.types.ValType.{ValType}
use Rattle.wasm_ast.specs.declared.types.FuncType.{FuncType}
use Rattle.wasm_ast.specs.declared.instructions.Instr.{Instr}
use Rattle.wasm_ast.specs.declared.instructions.Instr.TheVariants.{Call}
use Rattle.wasm_ast.specs.declared.modules.Func.{Func}
use Rattle.wasm_ast.specs.declared.modules.Module.{Module}
use Rattle.wasm_check.specs.declared.operands.Operand.{Operand}
use Rattle.wasm_check.specs.Contexts.{Context, tables_of, globals_of, context_of}
use Rattle.wasm_check.specs.Instructions.{Labels}
use Rattle.wasm_check.specs.Operands.{operands}
use Rattle.wasm_image.specs.Functions.{function_type}
use Rattle.wasm_reduction.specs.Configurations.{Reference, Store, Label, Frame, Config, End, Returns, Traps, Stuck, Next, Goes, Draws, Asks, Ends}
use Rattle.wasm_reduction.specs.Steps.{with_symbol}
use Rattle.wasm_soundness.specs.Values.{ReferenceIs, Hold, ofs, HaveShape, IsTypedCode}

-- ---- the store

-- lists of references, each of its type
abbrev pub AreReferences : Module → List (List Reference) → List ValType → Type 0
AreReferences m [] [] = Unit {0}
AreReferences m (rs ∷ rest) (t ∷ ts) = AllByRecursion (ReferenceIs m t) rs × AreReferences m rest ts
AreReferences m [] (t ∷ ts) = ⊥
AreReferences m (rs ∷ rest) [] = ⊥

-- values, references and data segments as the module declares them
pub record StoreFits {W : Type 0} (m : Module) (s : Store W) : Type 0 where
  pub globals : Hold m s.globals (ofs (map (λ t. t.kind) (globals_of m)))
  pub tables : AreReferences m s.tables (map (λ t. t.kind) (tables_of m))
  pub elems : AreReferences m s.elems (map (λ e. e.kind) m.elems)
  pub datas : length s.datas ≡ length m.segments

-- ---- labels and frames

-- The labels around a label that ends with the types out, and to which a branch carries the types own and goes on with again.
-- What follows in the next label is typed both where the label ends and where a branch to it comes. A branch to the last
-- label, the body's, ends the body.
abbrev pub AreAround : {W : Type 0} → Module → Context → List (List Instr) → List ValType → List Instr → List ValType → Labels → List (Label W) → Type 0
AreAround m C seqs own again out ls [] = (ls ≡ []) × (own ≡ C.results) × (out ≡ C.results)
AreAround m C seqs own again out ls (l ∷ outer) =
    (own' out' : List ValType) × (ls' : Labels) × (ts : List Operand) × (ls ≡ own' ∷ ls') × (l.arity ≡ length own') × Hold m l.vals ts
    × IsTypedCode C ls seqs l.code (operands out ++ ts) (operands out')
    × IsTypedCode C ls seqs (again ++ l.code) (operands own ++ ts) (operands out')
    × AreAround m C seqs own' l.again out' ls' outer

-- the frame of a call, which waits for values of the types coming
pub record FrameFits {W : Type 0} (m : Module) (coming : List ValType) (fr : Frame W) : Type 0 where
  pub func : Func
  pub type : FuncType
  pub own : List ValType
  pub out : List ValType
  pub ls : Labels
  pub ts : List Operand
  pub shapes : AllByRecursion (λ code. HaveShape code) fr.seqs
  pub locals : Hold m fr.locals (ofs (context_of m func type).locals)
  pub arity : fr.arity ≡ length type.results
  pub own_arity : fr.here.arity ≡ length own
  pub vals : Hold m fr.here.vals ts
  pub code : IsTypedCode (context_of m func type) (own ∷ ls) fr.seqs fr.here.code (operands coming ++ ts) (operands out)
  pub around : AreAround m (context_of m func type) fr.seqs own fr.here.again out ls fr.outer

-- calls one after another lead from operands to results
abbrev pub AreTypedCalls : Module → List Instr → List Operand → List ValType → Type 0
AreTypedCalls m [] ts final = ts ≡ operands final
AreTypedCalls m (Call x ∷ code) ts final =
    (t : FuncType) × (rest : List Operand) × (function_type m x ≡ Some t) × (ts ≡ operands t.params ++ rest)
    × AreTypedCalls m code (operands t.results ++ rest) final
AreTypedCalls m _ ts final = ⊥

-- the outermost frame, of whoever runs the module
pub record OutermostFits {W : Type 0} (m : Module) (final coming : List ValType) (fr : Frame W) : Type 0 where
  pub ts : List Operand
  pub alone : fr.outer ≡ []
  pub vals : Hold m fr.here.vals ts
  pub calls : AreTypedCalls m fr.here.code (operands coming ++ ts) final

-- A frame that waits for values of the types coming, and those that wait for it. In the end there are results of the types
-- final.
abbrev pub FramesFit : {W : Type 0} → Module → List ValType → List ValType → Frame W → List (Frame W) → Type 0
FramesFit m final coming fr [] = OutermostFits m final coming fr
FramesFit m final coming fr (next ∷ callers) = (h : FrameFits m coming fr) × FramesFit m final h.type.results next callers

-- ---- configurations

pub record ConfigFits {W : Type 0} (m : Module) (final : List ValType) (c : Config W) : Type 0 where
  pub store : StoreFits m c.store
  pub frames : FramesFit m final [] c.frame c.callers

abbrev pub EndFits : {W : Type 0} → Module → List ValType → End W → Type 0
EndFits m final (Returns vs) = Hold m vs (ofs final)
EndFits m final Stuck = ⊥
EndFits m final _ = Unit {0}

-- What a step does that isn't stuck: it goes on with such a configuration, after a symbol whatever its word is, or it ends, and
-- where it returns there are results of the types final.
abbrev pub NextFits : {W : Type 0} → Module → List ValType → Next W → Type 0
NextFits m final (Goes c) = ConfigFits m final c
NextFits {W} m final (Draws wide c) = (w : W) → ConfigFits m final (with_symbol c wide w)
NextFits m final (Asks q w) = Unit {0}
NextFits m final (Ends e) = EndFits m final e

abbrev pub IsTrap : {W : Type 0} → End W → Type 0
IsTrap (Traps cause) = Unit {0}
IsTrap _ = ⊥

-- how a run starts: with such a configuration, or instantiation traps
abbrev pub StartFits : {W : Type 0} → Module → List ValType → Result (Config W) (End W) → Type 0
StartFits m final (Ok c) = ConfigFits m final c
StartFits m final (Err e) = IsTrap e
