use Rattle.std.proofs.Common.{◌≡◌, ◌≢◌, ℕ, ◌+◌, ◌-◌, List, All, length, map, take, drop, codes, subst, take_all}
use Rattle.path_report.proofs.ReadLemmas.{is_text, rest_is}
use Rattle.path_report.proofs.ZipLemmas.{around, none_around}
use Rattle.path_report.proofs.reading.around_input.Goals as goal

-- src/reading.rt:122:13
pub returns-then-eq : goal.returns-then-eq
returns-then-eq c = λ before after others e.
    let parts = around (codes "input") c.args.words.now c.loop-i.i _ before after c.loop-i.invariant c.loop-i-test.true (is_text _ _ c.if-eq.ensures) others e in
    (parts.0, rw (rest_is c.args.words.now (c.loop-i.i + 1)) parts.1)

-- src/reading.rt:116:1
pub returns : goal.returns
returns c = λ before after others e.
    none_around (codes "input") c.args.words.now before after (subst (λ l. All (λ w. w.now ≢ codes "input") l) (take_all c.loop-i.i c.args.words.now c.loop-i-test.false) c.loop-i.invariant) e
