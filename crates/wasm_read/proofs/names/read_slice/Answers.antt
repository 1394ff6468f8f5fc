use Rattle.std.proofs.Common.{◌≡◌, ◌+◌, ◌-◌, take, drop, ap, sym, ◌∙◌, arith, ℕ, List, Result, Ok}
use Rattle.wasm_binary.specs.Faults.{Fault}
use Rattle.wasm_read.specs.Refusals.{fault_of}
use Rattle.wasm_read.proofs.ByteLaws.{bytes_there, bytes_missing}
use Rattle.wasm_read.proofs.names.read_slice.Goals as goal

pub returns-then-count-bytes-clause-slice : goal.returns-then-count-bytes-clause-slice
returns-then-count-bytes-clause-slice c =
    let long : c.args.count ≡ c.args.at + c.args.count - c.args.at = omega arith in
    let bytes = c.bytes-bytes.ensures in
    bytes_there c.args.count c.args.view.now c.args.at (rw bytes at c.if-count-bytes.true)
    ∙ ap (λ k. let r : Result (List ℕ × ℕ) Fault = Ok (take k (drop c.args.at c.args.view.now.bytes), c.args.at + c.args.count) in r) long
    ∙ ap (λ (l : List ℕ). let r : Result (List ℕ × ℕ) Fault = Ok (take (c.args.at + c.args.count - c.args.at) (drop c.args.at l), c.args.at + c.args.count) in r) (sym bytes)

pub returns-else-count-bytes-clause-trouble : goal.returns-else-count-bytes-clause-trouble
returns-else-count-bytes-clause-trouble c =
    bytes_missing c.args.count c.args.view.now c.args.at (fault_of c.ended.result) (rw c.bytes-bytes.ensures at c.if-count-bytes.false) c.ended.ensures
