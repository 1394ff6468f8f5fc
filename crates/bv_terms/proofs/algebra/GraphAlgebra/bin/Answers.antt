use Rattle.bv_terms.specs.Terms.{Binary}
use Rattle.bv_terms.specs.Making.{made}
use Rattle.bv_terms.specs.Graphs.{term_of}
use Rattle.std.proofs.Common.{refl}
use Rattle.int_ops.specs.Operators.{result_bits}
use Rattle.bv_terms.proofs.MakeLemmas.{made-width, made-value, made-kept}
use Rattle.bv_terms.proofs.algebra.GraphAlgebra.bin.Goals as goal

pub returns-clause-width : goal.returns-clause-width
returns-clause-width c =
    made-width c.args.self.now c.make.new.self c.make.result (Binary c.args.op (term_of c.args.self.now c.args.a) (term_of c.args.self.now c.args.b)) (result_bits c.args.op) (refl, c.requires.binary, c.requires.a_width, c.requires.b_width) c.make.ensures.ok

pub returns-clause-value : goal.returns-clause-value
returns-clause-value c =
    made-value c.args.self.now c.make.new.self c.make.result (Binary c.args.op (term_of c.args.self.now c.args.a) (term_of c.args.self.now c.args.b)) (result_bits c.args.op) (refl, c.requires.binary, c.requires.a_width, c.requires.b_width) c.make.ensures.ok

pub returns-clause-keeps : goal.returns-clause-keeps
returns-clause-keeps c =
    made-kept c.args.self.now c.make.new.self c.make.result (made (Binary c.args.op (term_of c.args.self.now c.args.a) (term_of c.args.self.now c.args.b))) c.make.ensures.ok c.make.ensures.err
