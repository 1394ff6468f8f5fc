use Rattle.std.proofs.Common.{◌≡◌, ◌-◌, length, sym, ap, ◌∙◌, arith}
use Rattle.std.specs.Prelude.{Some, None}
use Rattle.wasm_ast.specs.declared.types.ValType.TheVariants.{I32}
use Rattle.wasm_check.specs.declared.stack.Run.TheVariants.{First}
use Rattle.type_suffixes.specs.Lists.{listed}
use Rattle.wasm_check.specs.code.Runs.{run_of, peeked}
use Rattle.wasm_check.specs.code.Checker.{popped}
use Rattle.wasm_check.proofs.RunLemmas.{whole, none-wanted, taken-more}
use Rattle.wasm_check.proofs.stack.Peek.take_list.Goals as goal

pub loop-left-init : goal.loop-left-init
loop-left-init c =
    let types = c.args.scope.now.types in
    let long : length c.list-types.result.now ≡ length (listed types c.args.list) = ap (λ l. length l) c.list-types.ensures in
    (omega (arith, long), ap (λ w. popped w (peeked types c.args.self.now)) (sym (whole types c.args.list (length c.list-types.result.now) (omega (arith, long)))))

pub returns-then-left-eq0 : goal.returns-then-left-eq0
returns-then-left-eq0 c =
    let types = c.args.scope.now.types in
    c.loop-left.invariant.1 ∙ c.take_quickly-left.ensures.same
    ∙ ap (λ n. popped (run_of types (First c.args.list n)) (peeked types c.take_quickly-left.new.self)) c.if-left-eq0.true ∙ none-wanted types c.args.list (peeked types c.take_quickly-left.new.self)

pub bounds-types-left : goal.bounds-types-left
bounds-types-left c =
    let long : length c.list-types.result.now ≡ length (listed c.args.scope.now.types c.args.list) = ap (λ l. length l) c.list-types.ensures in
    omega (arith, long, c.take_quickly-left.ensures.within, c.loop-left.invariant.0, c.if-left-eq0.false)

pub returns-then-not-take : goal.returns-then-not-take
returns-then-not-take c =
    let types = c.args.scope.now.types in
    let left = c.take_quickly-left.result in
    c.loop-left.invariant.1 ∙ c.take_quickly-left.ensures.same
    ∙ taken-more types c.args.list c.list-types.result.now left (left - 1) I32 (peeked types c.take_quickly-left.new.self) None c.list-types.ensures (omega (arith, c.if-left-eq0.false))
    (omega (arith, c.take_quickly-left.ensures.within, c.loop-left.invariant.0)) c.if-not-take.ensures

pub loop-left-preserved : goal.loop-left-preserved
loop-left-preserved c =
    let types = c.args.scope.now.types in
    let left = c.take_quickly-left.result in (
      omega (arith, c.take_quickly-left.ensures.within, c.loop-left.invariant.0),
      c.loop-left.invariant.1 ∙ c.take_quickly-left.ensures.same
          ∙ taken-more types c.args.list c.list-types.result.now left (left - 1) I32 (peeked types c.take_quickly-left.new.self) (Some (peeked types c.take.new.self)) c.list-types.ensures (omega (arith, c.if-left-eq0.false))
          (omega (arith, c.take_quickly-left.ensures.within, c.loop-left.invariant.0)) c.if-not-take.ensures,
    )
