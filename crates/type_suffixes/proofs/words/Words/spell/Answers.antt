use Rattle.std.proofs.Common.{refl}
use Rattle.std.proofs.lemmas.Option.{slice_get_within}
use Rattle.wasm_ast.specs.declared.types.ValType.TheVariants.{I32}
use Rattle.type_suffixes.proofs.Trees.{keeps_trans}
use Rattle.type_suffixes.proofs.Beginnings.{begun, begun_more, next_begins}
use Rattle.type_suffixes.proofs.words.Words.spell.Goals as goal

pub loop-t-init : goal.loop-t-init
loop-t-init c = record { begins = begun _ _ _ _ _ c.in_ok-push.ensures.items c.empty-word.ensures; here = c.empty-word.ensures; keeps = λ k types there. there }

pub add-requires : goal.add-requires
add-requires c = slice_get_within _ _ _ c.loop-t.invariant.here

pub loop-t-preserved : goal.loop-t-preserved
loop-t-preserved c = record {
  begins = begun_more _ _ _ _ _ _ _ _ _ _ _ c.loop-t.invariant.begins c.in_ok-word.ensures.kept c.loop-t-test.true c.loop-t.invariant.here refl c.in_ok-word.ensures.spelled c.in_ok-push-2.ensures.items;
  here = next_begins c.loop-t.self c.add.new.self c.args.types.now c.loop-t.t-index c.loop-t.word c.in_ok-word.word _ I32 c.loop-t-test.true c.loop-t.invariant.here refl c.in_ok-word.ensures.spelled;
  keeps = keeps_trans _ _ _ c.loop-t.invariant.keeps c.in_ok-word.ensures.kept;
}

pub returns-in_err-push-clause-kept : goal.returns-in_err-push-clause-kept
returns-in_err-push-clause-kept c = λ k types there. there

pub returns-in_err-word-clause-kept : goal.returns-in_err-word-clause-kept
returns-in_err-word-clause-kept c = keeps_trans _ _ _ c.loop-t.invariant.keeps c.in_err-word.ensures.kept

pub returns-in_err-push-2-clause-kept : goal.returns-in_err-push-2-clause-kept
returns-in_err-push-2-clause-kept c = keeps_trans _ _ _ c.loop-t.invariant.keeps c.in_ok-word.ensures.kept

pub returns-clause-kept : goal.returns-clause-kept
returns-clause-kept c = c.loop-t.invariant.keeps
