use Rattle.bv_terms.specs.Terms.{Byte}
use Rattle.bv_terms.specs.Making.{made}
use Rattle.bv_terms.specs.Graphs.{term_of}
use Rattle.std.proofs.Common.{refl}
use Rattle.bv_terms.proofs.MakeLemmas.{made-width, made-value, made-kept}
use Rattle.bv_terms.proofs.algebra.GraphAlgebra.byte.Goals as goal

pub returns-clause-width : goal.returns-clause-width
returns-clause-width c =
    made-width c.args.self.now c.make.new.self c.make.result (Byte (term_of c.args.self.now c.args.a) c.args.i) (8) (refl, c.requires.place, c.requires.a_width) c.make.ensures.ok

pub returns-clause-value : goal.returns-clause-value
returns-clause-value c =
    made-value c.args.self.now c.make.new.self c.make.result (Byte (term_of c.args.self.now c.args.a) c.args.i) (8) (refl, c.requires.place, c.requires.a_width) c.make.ensures.ok

pub returns-clause-keeps : goal.returns-clause-keeps
returns-clause-keeps c =
    made-kept c.args.self.now c.make.new.self c.make.result (made (Byte (term_of c.args.self.now c.args.a) c.args.i)) c.make.ensures.ok c.make.ensures.err
