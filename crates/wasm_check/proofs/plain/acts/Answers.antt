use Rattle.std.proofs.Common.{◌∙◌, sym, ap, subst}
use Rattle.wasm_ast.specs.declared.instructions.Instr.TheVariants.{BrTable, SelectTyped}
use Rattle.wasm_check.specs.code.Checker.{Answers, acts}
use Rattle.wasm_check.specs.code.Runs.{known, labels_in}
use Rattle.wasm_check.specs.code.Kept.{context}
use Rattle.wasm_check.proofs.plain.acts.Goals as goal

pub returns-in_ok-choose-in-BrTable : goal.returns-in_ok-choose-in-BrTable
returns-in_ok-choose-in-BrTable c =
    subst (λ i. Answers c.in_ok-choose-in-BrTable.field-0 (acts (context c.args.scope.now) (labels_in c.args.scope.now.types c.args.own c.args.outer.now) i (known c.args.scope.now.types c.args.s.now)) (known c.args.scope.now.types c.choose.new.s))
    (ap (λ l. BrTable l c.in-BrTable.last) c.as_slice.ensures ∙ sym c.in-BrTable.is) (c.in_ok-choose-in-BrTable.ensures (context c.args.scope.now))

pub returns-in_ok-ref_is_null-in-RefIsNull : goal.returns-in_ok-ref_is_null-in-RefIsNull
returns-in_ok-ref_is_null-in-RefIsNull c =
    subst (λ i. Answers c.in_ok-ref_is_null-in-RefIsNull.field-0 (acts (context c.args.scope.now) (labels_in c.args.scope.now.types c.args.own c.args.outer.now) i (known c.args.scope.now.types c.args.s.now)) (known c.args.scope.now.types c.ref_is_null.new.s))
    (sym c.in-RefIsNull.is) (c.in_ok-ref_is_null-in-RefIsNull.ensures (context c.args.scope.now))

pub returns-in-Discard : goal.returns-in-Discard
returns-in-Discard c =
    subst (λ i. Answers c.discard.result (acts (context c.args.scope.now) (labels_in c.args.scope.now.types c.args.own c.args.outer.now) i (known c.args.scope.now.types c.args.s.now)) (known c.args.scope.now.types c.discard.new.s))
    (sym c.in-Discard.is) (c.discard.ensures (context c.args.scope.now))

pub returns-in_ok-select-in-Select : goal.returns-in_ok-select-in-Select
returns-in_ok-select-in-Select c =
    subst (λ i. Answers c.in_ok-select-in-Select.field-0 (acts (context c.args.scope.now) (labels_in c.args.scope.now.types c.args.own c.args.outer.now) i (known c.args.scope.now.types c.args.s.now)) (known c.args.scope.now.types c.select.new.s))
    (sym c.in-Select.is) (c.in_ok-select-in-Select.ensures (context c.args.scope.now))

pub returns-in_ok-select_typed-in-SelectTyped : goal.returns-in_ok-select_typed-in-SelectTyped
returns-in_ok-select_typed-in-SelectTyped c =
    subst (λ i. Answers c.in_ok-select_typed-in-SelectTyped.field-0 (acts (context c.args.scope.now) (labels_in c.args.scope.now.types c.args.own c.args.outer.now) i (known c.args.scope.now.types c.args.s.now)) (known c.args.scope.now.types c.select_typed.new.s))
    (ap (λ kinds. SelectTyped kinds) c.as_slice-in-SelectTyped.ensures ∙ sym c.in-SelectTyped.is) (c.in_ok-select_typed-in-SelectTyped.ensures (context c.args.scope.now))

pub returns-in_ok-operator-in-Num : goal.returns-in_ok-operator-in-Num
returns-in_ok-operator-in-Num c =
    subst (λ i. Answers c.in_ok-operator-in-Num.field-0 (acts (context c.args.scope.now) (labels_in c.args.scope.now.types c.args.own c.args.outer.now) i (known c.args.scope.now.types c.args.s.now)) (known c.args.scope.now.types c.operator.new.s))
    (sym c.in-Num.is) (c.in_ok-operator-in-Num.ensures (context c.args.scope.now))
