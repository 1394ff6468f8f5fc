use Rattle.std.proofs.Common.{◌≡◌, ◌+◌, [], ◌∷◌, ◌++◌, get_or, sym, ap, ◌∙◌, append_assoc}
use Rattle.wasm_write.specs.declared.expressions.Open.{Open}
use Rattle.wasm_write.specs.Instructions.{text_of}
use Rattle.wasm_write.specs.Writing.{front_bytes, tail_bytes, left}
use Rattle.wasm_write.proofs.WalkLaws.{next_is, next_left, inside_there}
use Rattle.wasm_write.proofs.expressions.put_next.Goals as goal

pub open_inside-requires-clause-there : goal.open_inside-requires-clause-there
open_inside-requires-clause-there c =
    let top = c.args.top in
    let instrs = get_or c.args.seqs.now top.seq [] in
    let x = c.args.instr.now in
    inside_there c.args.seqs.now top.seq top.at x c.requires.numbered c.requires.top.there c.requires.more (next_is instrs top.at x c.requires.more c.requires.next)

pub returns-clause-left : goal.returns-clause-left
returns-clause-left c =
    let seqs = c.args.seqs.now in
    let top = c.args.top in
    let x = c.args.instr.now in
    let before = c.args.out.now.items in
    let outer = c.args.stack.now.items in
    let next : Open = record { seq = top.seq; at = top.at + 1; other = top.other } in
    let tail = tail_bytes (text_of 0 seqs) x in
    let front : c.put_front.new.out.items ≡ before ++ front_bytes x = c.in_ok-put_front.ensures in
    let pushed : c.push_front.new.self.items ≡ next ∷ outer = c.in_ok-push_front.ensures.items in
    let inside : left seqs c.open_inside.new.stack.items ≡ tail ++ left seqs c.push_front.new.self.items = c.in_ok-open_inside.ensures.left in
    ap (λ l. c.put_front.new.out.items ++ l) (inside ∙ ap (λ l. tail ++ left seqs l) pushed)
    ∙ ap (λ l. l ++ (tail ++ left seqs (next ∷ outer))) front
    ∙ append_assoc before (front_bytes x) (tail ++ left seqs (next ∷ outer))
    ∙ ap (λ l. before ++ l) (sym (next_left seqs top x outer c.requires.more (next_is (get_or seqs top.seq []) top.at x c.requires.more c.requires.next)))
