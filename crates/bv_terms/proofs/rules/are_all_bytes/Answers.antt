use Rattle.std.proofs.Common.{refl, sym, ◌∙◌}
use Rattle.std.specs.Prelude.{slice_index_or}
use Rattle.std.proofs.lemmas.Bool.{false≢true}
use Rattle.bv_terms.specs.declared.words.Word.TheVariants.{Num}
use Rattle.bv_terms.specs.Graphs.{word_among, terms_of}
use Rattle.bv_terms.specs.Making.{bytes_where}
use Rattle.bv_terms.proofs.ListLemmas.{get-at}
use Rattle.bv_terms.proofs.FitLemmas.{count-apart, one-apart, bytes-more, bytes-all}
use Rattle.bv_terms.proofs.rules.are_all_bytes.Goals as goal

pub returns-then-bytes-count : goal.returns-then-bytes-count
returns-then-bytes-count c =
    sym (count-apart (terms_of c.args.forms.now) c.args.bytes.now (word_among (terms_of c.args.forms.now) c.args.a) (bytes_where c.args.wide)
    (λ e. c.if-bytes-count.true (e ∙ sym c.count.ensures)))

pub returns-then-not-is_byte : goal.returns-then-not-is_byte
returns-then-not-is_byte c =
    sym (one-apart (terms_of c.args.forms.now) c.args.bytes.now (word_among (terms_of c.args.forms.now) c.args.a) (bytes_where c.args.wide) c.loop-i.i
    (slice_index_or c.args.bytes.now c.loop-i.i (Num 0)) (get-at c.args.bytes.now c.loop-i.i (Num 0) c.loop-i-test.true)
    (λ e. false≢true (c.if-not-is_byte.ensures.1 e)))

pub loop-i-preserved : goal.loop-i-preserved
loop-i-preserved c =
    bytes-more (terms_of c.args.forms.now) c.args.bytes.now (word_among (terms_of c.args.forms.now) c.args.a) c.loop-i.i (slice_index_or c.args.bytes.now c.loop-i.i (Num 0))
    c.loop-i.invariant (get-at c.args.bytes.now c.loop-i.i (Num 0) c.loop-i-test.true) (c.if-not-is_byte.ensures.0 refl)

pub returns : goal.returns
returns c =
    sym (bytes-all (terms_of c.args.forms.now) c.args.bytes.now (word_among (terms_of c.args.forms.now) c.args.a) (bytes_where c.args.wide) c.loop-i.i
    (c.if-bytes-count.false ∙ c.count.ensures) c.loop-i-test.false c.loop-i.invariant)
