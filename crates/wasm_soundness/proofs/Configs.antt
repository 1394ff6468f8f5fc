-- A step of a configuration that fits is not stuck, and leads to such a configuration.
use Rattle.std.proofs.Common.{◌≡◌, ℕ, List, [], ◌∷◌, ◌++◌, refl, sym, subst}
use Rattle.std.specs.Prelude.{slice_get}
use Rattle.wasm_ast.specs.declared.types.ValType.{ValType}
use Rattle.wasm_ast.specs.declared.instructions.Instr.{Instr}
use Rattle.wasm_ast.specs.declared.instructions.Instr.TheVariants.{Call}
use Rattle.wasm_ast.specs.declared.modules.Module.{Module}
use Rattle.wasm_rules.specs.Words.{Kind}
use Rattle.wasm_check.specs.Contexts.{context_of}
use Rattle.wasm_check.specs.Operands.{operands}
use Rattle.wasm_reduction.specs.Configurations.{Frame, Config, Next}
use Rattle.wasm_reduction.specs.Functions.{functions}
use Rattle.wasm_reduction.specs.Combinators.{past, holding}
use Rattle.wasm_reduction.specs.Control.{give_back, finish}
use Rattle.wasm_reduction.specs.Steps.{step, step_code, answered}
use Rattle.wasm_soundness.specs.Values.{Hold, IsTypedCode}
use Rattle.wasm_soundness.specs.Configurations.{StoreFits, FrameFits, OutermostFits, FramesFit, ConfigFits, NextFits, AreTypedCalls}
use Rattle.wasm_soundness.proofs.Holding.{hold-match, hold-reversed}
use Rattle.wasm_soundness.proofs.Modules.{ModuleFits, function-there}
use Rattle.wasm_soundness.proofs.Parts.{found-fits}
use Rattle.wasm_soundness.proofs.Inversions.{at-end}
use Rattle.wasm_soundness.proofs.Control.{Waits, finish-fits, called-fits}
use Rattle.wasm_soundness.proofs.Steps.{act-fits}

module _ {W : Type 0} (K : Kind W) (m : Module) (fits : ModuleFits m) (final : List ValType) (c : Config W) (store : StoreFits m c.store) where
  abbrev N : Next W → Type 0
  N x = NextFits m final x

  -- ---- in a function's frame

  body-fits : (h : FrameFits m [] c.frame) → Waits K m fits final h.type.results c.callers → (code : List Instr) → IsTypedCode (context_of m h.func h.type) (h.own ∷ h.ls) c.frame.seqs code h.ts (operands h.out) → N (step_code K m c code)
  body-fits h w [] t =
      finish-fits K m fits final c h.func h.type (record { store = store; shapes = h.shapes; locals = h.locals; arity = h.arity; waits = w })
      c.frame.here.vals h.own h.out c.frame.here.again h.ls c.frame.outer
      (hold-match m c.frame.here.vals h.ts (operands h.out) h.vals (at-end (context_of m h.func h.type) (h.own ∷ h.ls) c.frame.seqs h.ts (operands h.out) t)) h.around
  body-fits h w (i ∷ is) t =
      act-fits K m fits final (past c is) h.func h.type h.own h.out h.ls
      (record { base = record { store = store; shapes = h.shapes; locals = h.locals; arity = h.arity; waits = w }; own_arity = h.own_arity; around = h.around })
      h.ts h.vals c.answers i t

  -- ---- in the outermost frame

  calls-fit : (h : OutermostFits m final [] c.frame) → c.callers ≡ [] → (code : List Instr) → AreTypedCalls m code h.ts final → N (step_code K m c code)
  calls-fit h none [] t =
      subst (λ outer. N (finish c c.frame.here.vals outer)) (sym h.alone)
      (subst (λ callers. N (give_back c c.frame.here.vals callers)) (sym none) (hold-reversed m c.frame.here.vals final (subst (Hold m c.frame.here.vals) t h.vals)))
  calls-fit h none (Call x ∷ code) t =
      let there = function-there m x t.0 t.2 in
      found-fits m final (slice_get (functions m) x) there.0 _ there.1
      (called-fits K m fits final (past c code) store t.0 t.1
      (λ rest k. subst (λ callers. FramesFit m final t.0.results (holding (past c code) rest).frame callers) (sym none) (record { ts = t.1; alone = h.alone; vals = k; calls = t.4 }))
      (λ us k. record { store = store; frames = subst (λ callers. FramesFit m final [] (holding (past c code) us).frame callers) (sym none) (record { ts = operands t.0.results ++ t.1; alone = h.alone; vals = k; calls = t.4 }) })
      c.frame.here.vals c.answers x there.0 there.1 there.2 (subst (Hold m c.frame.here.vals) t.3 h.vals))
  calls-fit h none (i ∷ code) t = absurd t

  pub frames-step : (callers : List (Frame W)) → c.callers ≡ callers → FramesFit m final [] c.frame callers → N (step K m c)
  frames-step [] e h = calls-fit h e c.frame.here.code h.calls
  frames-step (next ∷ callers) e h = body-fits h.0 (subst (λ callers. Waits K m fits final h.0.type.results callers) (sym e) h.1) c.frame.here.code h.0.code

pub step-fits : {W : Type 0} (K : Kind W) (m : Module) → ModuleFits m → (final : List ValType) (c : Config W) → ConfigFits m final c → NextFits m final (step K m c)
step-fits K m fits final c h = frames-step K m fits final c h.store c.callers refl h.frames

pub answered-fits : {W : Type 0} (m : Module) (final : List ValType) (c : Config W) (n : ℕ) → ConfigFits m final c → ConfigFits m final (answered c n)
answered-fits m final c n h = record { store = h.store; frames = h.frames }
