use Rattle.std.proofs.Common.{◌≡◌, ℕ, List, map, ◌∙◌}
use Rattle.int_ops.specs.Bytes.{joined}
use Rattle.wasm_rules.specs.Words.{bits_where}
use Rattle.bv_terms.specs.Terms.{Term, Join, bytes_from, value_of}
use Rattle.bv_terms.specs.Making.{made}
use Rattle.bv_terms.specs.Graphs.{term_of}
use Rattle.bv_terms.proofs.MakeLemmas.{made-width, made-value, made-kept, joined-width, joined-value, if_ok}
use Rattle.bv_terms.proofs.algebra.GraphAlgebra.join.Goals as goal

pub make-requires-clause-typed : goal.make-requires-clause-typed
make-requires-clause-typed c =
    joined-width c.args.self.now c.args.wide c.args.bytes.now c.in_ok-bytes.bytes c.in_ok-bytes.ensures c.requires.count c.requires.bytes_width

pub returns-clause-width : goal.returns-clause-width
returns-clause-width c =
    made-width c.args.self.now c.make.new.self c.make.result (Join c.args.wide (bytes_from (map (term_of c.args.self.now) c.in_ok-bytes.bytes))) (bits_where c.args.wide)
    (joined-width c.args.self.now c.args.wide c.args.bytes.now c.in_ok-bytes.bytes c.in_ok-bytes.ensures c.requires.count c.requires.bytes_width) c.make.ensures.ok

pub returns-clause-value : goal.returns-clause-value
returns-clause-value c =
    let t : Term = Join c.args.wide (bytes_from (map (term_of c.args.self.now) c.in_ok-bytes.bytes)) in
    if_ok c.make.result (λ w. (input : List ℕ) → value_of input (term_of c.make.new.self w) ≡ value_of input t)
    (λ w. (input : List ℕ) → value_of input (term_of c.make.new.self w) ≡ joined (map (λ b. value_of input (term_of c.args.self.now b)) c.args.bytes.now))
    (λ w same input. same input ∙ joined-value c.args.self.now input c.args.wide c.args.bytes.now c.in_ok-bytes.bytes c.in_ok-bytes.ensures)
    (made-value c.args.self.now c.make.new.self c.make.result t (bits_where c.args.wide)
    (joined-width c.args.self.now c.args.wide c.args.bytes.now c.in_ok-bytes.bytes c.in_ok-bytes.ensures c.requires.count c.requires.bytes_width) c.make.ensures.ok)

pub returns-clause-keeps : goal.returns-clause-keeps
returns-clause-keeps c =
    made-kept c.args.self.now c.make.new.self c.make.result (made (Join c.args.wide (bytes_from (map (term_of c.args.self.now) c.in_ok-bytes.bytes)))) c.make.ensures.ok c.make.ensures.err
