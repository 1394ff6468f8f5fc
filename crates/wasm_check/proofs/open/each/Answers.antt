use Rattle.std.proofs.Common.{◌∙◌, get_or, refl, subst}
use Rattle.wasm_check.specs.code.Carried.{CanCarry}
use Rattle.type_suffixes.specs.Lists.{listed}
use Rattle.wasm_check.specs.code.Runs.{known, labels_in}
use Rattle.wasm_check.proofs.Carrying.{none-seen, each-stops, each-on}
use Rattle.wasm_check.proofs.open.each.Goals as goal

pub loop-k-init : goal.loop-k-init
loop-k-init c =
    (refl, none-seen c.args.scope.now.types (listed c.args.scope.now.types c.args.wanted) (known c.args.scope.now.types c.args.s.now) c.new-seen.result c.new-seen.ensures)

pub returns-then-not-branch : goal.returns-then-not-branch
returns-then-not-branch c =
    let types = c.args.scope.now.types in
    let ls = labels_in types c.args.own c.args.outer.now in
    c.loop-k.invariant.0 ∙ each-stops ls (listed types c.args.wanted) c.args.labels.now c.loop-k.k-index (known types c.args.s.now) c.loop-k-test.true
    (subst (λ b. CanCarry b ls (listed types c.args.wanted) (known types c.args.s.now) (get_or c.args.labels.now c.loop-k.k-index 0)) c.if-not-branch.true c.in_ok-fits_one.ensures.fits)

pub loop-k-preserved : goal.loop-k-preserved
loop-k-preserved c =
    let types = c.args.scope.now.types in
    let ls = labels_in types c.args.own c.args.outer.now in (
      c.loop-k.invariant.0 ∙ each-on ls (listed types c.args.wanted) c.args.labels.now c.loop-k.k-index (known types c.args.s.now) c.loop-k-test.true
          (subst (λ b. CanCarry b ls (listed types c.args.wanted) (known types c.args.s.now) (get_or c.args.labels.now c.loop-k.k-index 0)) c.if-not-branch.false c.in_ok-fits_one.ensures.fits),
      c.in_ok-fits_one.ensures.pass,
    )
