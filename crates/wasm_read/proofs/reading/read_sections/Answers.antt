use Rattle.std.proofs.Common.{◌<◌, ◌≤◌, ◌-◌, length, arith}
use Rattle.std.proofs.lemmas.Result.{err_from_is_err_and}
use Rattle.wasm_read.specs.Refusals.{fault_of}
use Rattle.wasm_read.proofs.PassingLaws.{when_true, when_false, kept_goes_on, passed_goes_on, section_kept, section_passed, id_told, contents_told, passed_told, counts_kept, counts_refused}
use Rattle.wasm_read.proofs.reading.read_sections.Goals as goal

pub returns-in_err-id-clause-trouble : goal.returns-in_err-id-clause-trouble
returns-in_err-id-clause-trouble c =
    let told = id_told c.args.keeps c.args.view.now c.args.start c.sections.sections c.sections.at (fault_of c.in_err-id.field-0.0) (rw c.bytes.ensures at c.sections-test.true) c.sections.invariant.1 c.in_err-id.ensures.agrees in
    let p = err_from_is_err_and c.from_residual.result c.from_residual.ensures.1 in
    rw (p.1, p.2) told

pub returns-in_err-more-clause-trouble : goal.returns-in_err-more-clause-trouble
returns-in_err-more-clause-trouble c =
    let told = contents_told c.args.keeps c.args.view.now c.args.start c.sections.sections c.sections.at c.in_ok-id.id c.in_ok-id.contents (fault_of c.in_err-more.field-0.0) (rw c.bytes.ensures at c.sections-test.true) (when_true c.is_kept.result _ _ c.is_kept.ensures c.if-is_kept.true) c.sections.invariant.1 c.in_ok-id.ensures.agrees c.in_err-more.ensures.agrees in
    let p = err_from_is_err_and c.from_residual-in_err-more.result c.from_residual-in_err-more.ensures.1 in
    rw (p.1, p.2) told

pub sections-smaller-then-is_kept : goal.sections-smaller-then-is_kept
sections-smaller-then-is_kept c =
    let w = c.args.view.now in
    let on : c.sections.at < c.in_ok-more.next = kept_goes_on w c.sections.sections c.in_ok-more.more c.sections.at c.in_ok-id.id c.in_ok-id.contents c.in_ok-more.next c.in_ok-id.ensures.agrees c.in_ok-more.ensures.agrees in
    let within : c.in_ok-more.next ≤ length w.bytes = c.in_ok-more.ensures.within in
    let less : length w.bytes - c.in_ok-more.next < length w.bytes - c.sections.at = omega arith in
    less

pub sections-preserved-then-is_kept : goal.sections-preserved-then-is_kept
sections-preserved-then-is_kept c = (
  c.in_ok-more.ensures.within,
  section_kept c.args.keeps c.args.view.now c.args.start c.sections.sections c.in_ok-more.more c.sections.at c.in_ok-id.id c.in_ok-id.contents c.in_ok-more.next (rw c.bytes.ensures at c.sections-test.true) (when_true c.is_kept.result _ _ c.is_kept.ensures c.if-is_kept.true) c.sections.invariant.1 c.in_ok-id.ensures.agrees c.in_ok-more.ensures.agrees,
)

pub returns-in_err-at-clause-trouble : goal.returns-in_err-at-clause-trouble
returns-in_err-at-clause-trouble c =
    let told = passed_told c.args.keeps c.args.view.now c.args.start c.sections.sections c.sections.at c.in_ok-id.id c.in_ok-id.contents (fault_of c.in_err-at.field-0.0) (rw c.bytes.ensures at c.sections-test.true) (when_false c.is_kept.result _ _ c.is_kept.ensures c.if-is_kept.false).1 c.sections.invariant.1 c.in_ok-id.ensures.agrees c.in_err-at.ensures.passes in
    let p = err_from_is_err_and c.from_residual-in_err-at.result c.from_residual-in_err-at.ensures.1 in
    rw (p.1, p.2) told

pub sections-smaller : goal.sections-smaller
sections-smaller c =
    let w = c.args.view.now in
    let on : c.sections.at < c.in_ok-at.at = passed_goes_on w c.sections.sections c.sections.at c.in_ok-id.id c.in_ok-id.contents c.in_ok-at.at (when_false c.is_kept.result _ _ c.is_kept.ensures c.if-is_kept.false).1 c.in_ok-id.ensures.agrees c.in_ok-at.ensures.passes in
    let within : c.in_ok-at.at ≤ length w.bytes = c.in_ok-at.ensures.within in
    let less : length w.bytes - c.in_ok-at.at < length w.bytes - c.sections.at = omega arith in
    less

pub sections-preserved : goal.sections-preserved
sections-preserved c =
    let passed = when_false c.is_kept.result _ _ c.is_kept.ensures c.if-is_kept.false in (
      c.in_ok-at.ensures.within,
      section_passed c.args.keeps c.args.view.now c.args.start c.sections.sections c.sections.at c.in_ok-id.id c.in_ok-id.contents c.in_ok-at.at (rw c.bytes.ensures at c.sections-test.true) passed.0 passed.1 c.sections.invariant.1 c.in_ok-id.ensures.agrees c.in_ok-at.ensures.passes,
    )

pub returns-in_err-check_counts-clause-trouble : goal.returns-in_err-check_counts-clause-trouble
returns-in_err-check_counts-clause-trouble c =
    let told = counts_refused c.args.keeps c.args.view.now c.args.start c.sections.sections c.sections.at (fault_of c.in_err-check_counts.field-0.0) (rw c.bytes.ensures at c.sections-test.false) c.sections.invariant.1 c.in_err-check_counts.ensures in
    let p = err_from_is_err_and c.from_residual-in_err-check_counts.result c.from_residual-in_err-check_counts.ensures.1 in
    rw (p.1, p.2) told

pub returns-clause-read : goal.returns-clause-read
returns-clause-read c =
    counts_kept c.args.keeps c.args.view.now c.args.start c.sections.sections c.sections.at (rw c.bytes.ensures at c.sections-test.false) c.sections.invariant.1 c.in_ok-check_counts.ensures
