use Rattle.std.proofs.Common.{◌∙◌, ap, sym, ℕ, List, Result, Ok}
use Rattle.wasm_binary.specs.Faults.{Fault}
use Rattle.wasm_read.proofs.ByteLaws.{name_read, name_refused}
use Rattle.wasm_read.proofs.names.read_str.Goals as goal

pub returns-in-Ok-clause-text : goal.returns-in-Ok-clause-text
returns-in-Ok-clause-text c =
    name_read c.args.view.now c.args.at c.in_ok-count.count c.in_ok-count.start c.in_ok-bytes.bytes.now c.in_ok-bytes.next c.in_ok-count.ensures.agrees c.in_ok-bytes.ensures.slice c.in-Ok.ensures.cases.1
    ∙ ap (λ (l : List ℕ). let r : Result (List ℕ × ℕ) Fault = Ok (l, c.in_ok-bytes.next) in r) (sym c.in-Ok.ensures.cases.0)

pub returns-in-Err-clause-trouble : goal.returns-in-Err-clause-trouble
returns-in-Err-clause-trouble c =
    name_refused c.args.view.now c.args.at c.in_ok-count.count c.in_ok-count.start c.in_ok-bytes.bytes.now c.in_ok-bytes.next c.in_ok-count.ensures.agrees c.in_ok-bytes.ensures.slice c.in-Err.ensures.cases.0
