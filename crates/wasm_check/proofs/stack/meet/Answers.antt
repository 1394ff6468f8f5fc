use Rattle.std.proofs.Common.{◌++◌, length, min, refl, ap, ◌∙◌}
use Rattle.wasm_check.specs.declared.stack.Run.TheVariants.{First}
use Rattle.wasm_check.specs.code.Runs.{run_of}
use Rattle.wasm_check.specs.code.Checker.{popped}
use Rattle.wasm_check.proofs.RunLemmas.{run-is-cut, run-is-taken}
use Rattle.wasm_check.proofs.stack.meet.Goals as goal

pub returns-in_default-clause-same : goal.returns-in_default-clause-same
returns-in_default-clause-same c = λ dead rest. refl

pub returns-then-ends_with-clause-same : goal.returns-then-ends_with-clause-same
returns-then-ends_with-clause-same c = λ dead rest.
    let types = c.args.scope.now.types in
    ap (λ r. popped (run_of types (First c.args.list c.args.left)) (record { dead = dead; ops = run_of types r ++ rest })) c.in-First.is
    ∙ run-is-cut types c.in-First.count c.in-First.present c.args.list c.min-count.result c.args.left
    (c.min-count.ensures ∙ ap (λ l. min c.in-First.count (length l)) c.list.ensures) c.requires (c.if-ends_with.ensures refl) dead rest

pub returns-then-ends_with-2-clause-same : goal.returns-then-ends_with-2-clause-same
returns-then-ends_with-2-clause-same c = λ dead rest.
    let types = c.args.scope.now.types in
    ap (λ r. popped (run_of types (First c.args.list c.args.left)) (record { dead = dead; ops = run_of types r ++ rest })) c.in-First.is
    ∙ run-is-taken types c.in-First.count c.in-First.present c.args.list c.min-count.result c.args.left
    (c.min-count.ensures ∙ ap (λ l. min c.in-First.count (length l)) c.list.ensures) c.requires (c.if-ends_with-2.ensures refl) dead rest

pub returns-else-ends_with-clause-same : goal.returns-else-ends_with-clause-same
returns-else-ends_with-clause-same c = λ dead rest.
    let types = c.args.scope.now.types in
    ap (λ r. popped (run_of types (First c.args.list c.args.left)) (record { dead = dead; ops = run_of types r ++ rest })) c.in-First.is

pub returns-else-ends_with-2-clause-same : goal.returns-else-ends_with-2-clause-same
returns-else-ends_with-2-clause-same c = λ dead rest.
    let types = c.args.scope.now.types in
    ap (λ r. popped (run_of types (First c.args.list c.args.left)) (record { dead = dead; ops = run_of types r ++ rest })) c.in-First.is
