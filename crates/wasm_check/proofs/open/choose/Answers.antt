use Rattle.std.proofs.Common.{subst}
use Rattle.std.specs.Prelude.{true, false}
use Rattle.type_suffixes.specs.Lists.{listed}
use Rattle.wasm_check.specs.code.Runs.{known, peeked, labels_in}
use Rattle.wasm_check.specs.code.Checker.{SomeBy, each_fits}
use Rattle.wasm_check.specs.code.Carried.{CanTake}
use Rattle.wasm_check.proofs.Carrying.{take-answers, table-refused, table-stops, table-goes}
use Rattle.wasm_check.proofs.open.choose.Goals as goal

pub returns-then-not-take_list : goal.returns-then-not-take_list
returns-then-not-take_list c = λ C.
    let types = c.args.scope.now.types in
    let s = known types c.take.new.self in
    table-refused C (labels_in types c.args.own c.args.outer.now) c.args.labels.now c.args.last (known types c.args.s.now) s (listed types c.in-Some.wanted) c.if-not-take.ensures c.in-Some.ensures
    (take-answers false (listed types c.in-Some.wanted) s (peeked types c.peek-rest.result) (peeked types c.take_list.new.self) c.peek-rest.ensures c.if-not-take_list.ensures)

pub each-requires : goal.each-requires
each-requires c =
    let types = c.args.scope.now.types in
    let s = known types c.take.new.self in
    let taken : CanTake true (listed types c.in-Some.wanted) s = take-answers true (listed types c.in-Some.wanted) s (peeked types c.peek-rest.result) (peeked types c.take_list.new.self) c.peek-rest.ensures c.if-not-take_list.ensures in
    c.decisive-hold.ensures taken.0 taken.1

pub returns-then-not-branch : goal.returns-then-not-branch
returns-then-not-branch c = λ C.
    let types = c.args.scope.now.types in
    let ls = labels_in types c.args.own c.args.outer.now in
    let s = known types c.take.new.self in
    let own = listed types c.in-Some.wanted in
    let taken : CanTake true own s = take-answers true own s (peeked types c.peek-rest.result) (peeked types c.take_list.new.self) c.peek-rest.ensures c.if-not-take_list.ensures in
    table-stops C ls c.args.labels.now c.args.last (known types c.args.s.now) s own c.if-not-take.ensures c.in-Some.ensures taken
    (subst (λ b. SomeBy b (each_fits ls own c.args.labels.now s.dead s.ops) s.ops) c.if-not-branch.true c.in_ok-each.ensures)

pub returns : goal.returns
returns c = λ C.
    let types = c.args.scope.now.types in
    let ls = labels_in types c.args.own c.args.outer.now in
    let s = known types c.take.new.self in
    let own = listed types c.in-Some.wanted in
    let taken : CanTake true own s = take-answers true own s (peeked types c.peek-rest.result) (peeked types c.take_list.new.self) c.peek-rest.ensures c.if-not-take_list.ensures in
    table-goes C ls c.args.labels.now c.args.last (known types c.args.s.now) s (known types c.kill.new.self) own c.if-not-take.ensures c.in-Some.ensures taken
    (subst (λ b. SomeBy b (each_fits ls own c.args.labels.now s.dead s.ops) s.ops) c.if-not-branch.false c.in_ok-each.ensures) c.kill.ensures
