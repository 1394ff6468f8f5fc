use Rattle.std.proofs.Common.{◌∙◌, ap}
use Rattle.wasm_check.specs.Contexts.{locals_of}
use Rattle.wasm_check.specs.code.Kept.{context}
use Rattle.wasm_check.proofs.ContextLemmas.{context-of, found-of}
use Rattle.wasm_check.proofs.functions.func_fault.Goals as goal

pub returns : goal.returns
returns c =
    found-of c.args.m.now c.args.f.now c.get-ty.result.now (context c.new-scope.result) c.in_ok-body_fault.field-0 c.get-ty.ensures
    (ap context c.new-scope.ensures
    ∙ context-of c.args.m.now c.args.spaces.now c.args.declared.now c.args.f.now c.get-ty.result.now c.in_ok-locals.locals c.requires.spaces c.requires.declared (c.in_ok-locals.ensures ∙ ap locals_of c.as_slice.ensures))
    c.in_ok-body_fault.ensures
