use Rattle.std.proofs.Common.{◌≡◌, ◌+◌, [], ◌∷◌, ◌++◌, get_or, string_bytes, sym, ap, ◌∙◌, append_assoc}
use Rattle.wasm_text.specs.PrintedInstructions.{head_text, inside_text, sequence_text}
use Rattle.wat_print.specs.declared.expressions.Open.{Open}
use Rattle.wat_print.specs.code.Walking.{left}
use Rattle.wat_print.proofs.WalkLaws.{next_is, next_left, inside_there}
use Rattle.wat_print.proofs.expressions.put_next.Goals as goal

pub open_inside-requires-clause-there : goal.open_inside-requires-clause-there
open_inside-requires-clause-there c =
    let top = c.args.top in
    let instrs = get_or c.args.seqs.now top.seq [] in
    let x = c.args.instr.now in
    inside_there c.args.seqs.now top.seq top.at x c.requires.numbered c.requires.top.there c.requires.more (next_is instrs top.at x c.requires.more c.requires.next)

pub returns-clause-left : goal.returns-clause-left
returns-clause-left c =
    let text_before = c.args.before.now in
    let seqs = c.args.seqs.now in
    let top = c.args.top in
    let x = c.args.instr.now in
    let old = string_bytes c.args.out.now in
    let outer = c.args.stack.now.items in
    let next : Open = record { seq = top.seq; at = top.at + 1; ending = top.ending } in
    let tail = inside_text text_before (sequence_text text_before 0 seqs) x in
    let front : string_bytes c.put_front.new.out ≡ old ++ (text_before ++ head_text x) = c.in_ok-put_front.ensures in
    let pushed : c.push_front.new.self.items ≡ next ∷ outer = c.in_ok-push_front.ensures.items in
    let inside : left text_before seqs c.open_inside.new.stack.items ≡ tail ++ left text_before seqs c.push_front.new.self.items = c.in_ok-open_inside.ensures.left in
    ap (λ l. string_bytes c.put_front.new.out ++ l) (inside ∙ ap (λ l. tail ++ left text_before seqs l) pushed)
    ∙ ap (λ l. l ++ (tail ++ left text_before seqs (next ∷ outer))) front
    ∙ append_assoc old (text_before ++ head_text x) (tail ++ left text_before seqs (next ∷ outer))
    ∙ ap (λ l. old ++ l) (sym (next_left text_before seqs top x outer c.requires.more (next_is (get_or seqs top.seq []) top.at x c.requires.more c.requires.next)))
