use Rattle.std.proofs.Common.{◌≡◌, length, sym, ap, ◌∙◌}
use Rattle.type_suffixes.specs.Lists.{listed}
use Rattle.wasm_check.specs.code.Runs.{known, labels_in}
use Rattle.wasm_check.proofs.Carrying.{is-not-there, was-seen, has-other-count, is-refused, seen-more}
use Rattle.wasm_check.proofs.open.fits_one.Goals as goal

pub returns-in_default-clause-fits : goal.returns-in_default-clause-fits
returns-in_default-clause-fits c =
    let types = c.args.scope.now.types in
    is-not-there (labels_in types c.args.own c.args.outer.now) (listed types c.args.wanted) (known types c.args.s.now) c.args.k c.in_default.ensures

pub returns-then-has-clause-fits : goal.returns-then-has-clause-fits
returns-then-has-clause-fits c =
    let types = c.args.scope.now.types in
    was-seen types (labels_in types c.args.own c.args.outer.now) (listed types c.args.wanted) (known types c.args.s.now) c.args.k c.args.seen.now c.in-Some.list c.requires.pass c.in-Some.ensures
    (sym c.has.ensures ∙ c.if-has.true)

pub returns-then-list-clause-fits : goal.returns-then-list-clause-fits
returns-then-list-clause-fits c =
    let types = c.args.scope.now.types in
    let here : length c.list.result.now ≡ length (listed types c.in-Some.list) = ap (λ l. length l) c.list.ensures in
    let there : length c.list-2.result.now ≡ length (listed types c.args.wanted) = ap (λ l. length l) c.list-2.ensures in
    has-other-count (labels_in types c.args.own c.args.outer.now) (listed types c.args.wanted) (known types c.args.s.now) c.args.k (listed types c.in-Some.list) c.in-Some.ensures
    (λ e. c.if-list.true (here ∙ e ∙ sym there))

pub can_take-requires-clause-count : goal.can_take-requires-clause-count
can_take-requires-clause-count c =
    let types = c.args.scope.now.types in
    let here : length c.list.result.now ≡ length (listed types c.in-Some.list) = ap (λ l. length l) c.list.ensures in
    let there : length c.list-2.result.now ≡ length (listed types c.args.wanted) = ap (λ l. length l) c.list-2.ensures in
    sym here ∙ c.if-list.false ∙ there

pub returns-then-not-can_take-clause-fits : goal.returns-then-not-can_take-clause-fits
returns-then-not-can_take-clause-fits c =
    let types = c.args.scope.now.types in
    is-refused (labels_in types c.args.own c.args.outer.now) (listed types c.args.wanted) (known types c.args.s.now) c.args.k (listed types c.in-Some.list) c.in-Some.ensures
    c.if-not-can_take.ensures

pub returns-clause-fits : goal.returns-clause-fits
returns-clause-fits c =
    let types = c.args.scope.now.types in
    let here : length c.list.result.now ≡ length (listed types c.in-Some.list) = ap (λ l. length l) c.list.ensures in
    let there : length c.list-2.result.now ≡ length (listed types c.args.wanted) = ap (λ l. length l) c.list-2.ensures in
    (listed types c.in-Some.list, c.in-Some.ensures, (sym here ∙ c.if-list.false ∙ there, c.if-not-can_take.ensures.0, c.if-not-can_take.ensures.1))

pub returns-clause-pass : goal.returns-clause-pass
returns-clause-pass c =
    let types = c.args.scope.now.types in
    let here : length c.list.result.now ≡ length (listed types c.in-Some.list) = ap (λ l. length l) c.list.ensures in
    let there : length c.list-2.result.now ≡ length (listed types c.args.wanted) = ap (λ l. length l) c.list-2.ensures in
    seen-more types (listed types c.args.wanted) (known types c.args.s.now) c.args.seen.now c.put.new.self c.in-Some.list c.requires.pass c.in_ok-put.ensures
    (sym here ∙ c.if-list.false ∙ there, c.if-not-can_take.ensures.0, c.if-not-can_take.ensures.1)
