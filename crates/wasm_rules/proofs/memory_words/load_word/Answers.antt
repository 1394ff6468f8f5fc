use Rattle.std.proofs.Common.{ℕ, subst, sym, ◌∙◌}
use Rattle.wasm_rules.specs.Words.{CanJoin}
use Rattle.wasm_rules.proofs.AccessLemmas.{load_row, load_bytes-is, load_bits-is, extends_at}
use Rattle.wasm_rules.proofs.memory_words.load_word.Goals as goal

pub join-requires-clause-count : goal.join-requires-clause-count
join-requires-clause-count g c =
    let is = c.in-Some.ensures in
    subst (λ (n : ℕ). CanJoin c.in-Some.access.wide n) (sym (c.requires.whole ∙ load_bytes-is c.args.op c.in-Some.access is))
    (load_row c.args.op c.in-Some.access is).count

pub un-requires-clause-unary : goal.un-requires-clause-unary
un-requires-clause-unary g c =
    (extends_at c.args.op c.in-Some.access c.in-Some-extend.extend (load_row c.args.op c.in-Some.access c.in-Some.ensures) c.in-Some-extend.is).0

pub un-requires-clause-a_width : goal.un-requires-clause-a_width
un-requires-clause-a_width g c =
    let width = (extends_at c.args.op c.in-Some.access c.in-Some-extend.extend (load_row c.args.op c.in-Some.access c.in-Some.ensures) c.in-Some-extend.is).1 in
    subst (λ (n : ℕ). g.A.Algebra.Has n (g.A.Algebra.means c.join.new.self c.in_ok-word.word)) (sym width) c.in_ok-word.ensures.width

pub returns-in_ok-un-in-Some-extend-clause-width : goal.returns-in_ok-un-in-Some-extend-clause-width
returns-in_ok-un-in-Some-extend-clause-width g c =
    let width = (extends_at c.args.op c.in-Some.access c.in-Some-extend.extend (load_row c.args.op c.in-Some.access c.in-Some.ensures) c.in-Some-extend.is).2 in
    subst (λ (n : ℕ). g.A.Algebra.Has n (g.A.Algebra.means c.un.new.self c.in_ok-un-in-Some-extend.field-0))
    (width ∙ sym (load_bits-is c.args.op c.in-Some.access c.in-Some.ensures)) c.in_ok-un-in-Some-extend.ensures.width
