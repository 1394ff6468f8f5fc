use Rattle.wasm_check.proofs.Walking.{next-instr, next-end, next-empty, next-else}
use Rattle.wasm_check.proofs.walk.Walker.next.Goals as goal

pub returns-in-Some-instr_at : goal.returns-in-Some-instr_at
returns-in-Some-instr_at c =
    next-instr c.args.seqs.now c.args.self.now.open.items c.pop.new.self.items c.push.new.self.items c.opens.new.self.open.items c.in-Some.place c.in-Some-instr_at.i.now
    c.in-Some.ensures.items c.in-Some-instr_at.ensures.0 c.in_ok-push.ensures.items c.in_ok-opens.ensures

pub returns-in_default-other : goal.returns-in_default-other
returns-in_default-other c =
    next-end c.args.seqs.now c.args.self.now.open.items c.pop.new.self.items c.in-Some.place c.in-Some.ensures.items c.in_default-instr_at.ensures c.in_default-other.is

pub returns-in_default-instr_at-2 : goal.returns-in_default-instr_at-2
returns-in_default-instr_at-2 c =
    next-empty c.args.seqs.now c.args.self.now.open.items c.pop.new.self.items c.in-Some.place c.in-Some-other.other c.in-Some.ensures.items c.in_default-instr_at.ensures c.in-Some-other.is c.in_default-instr_at-2.ensures

pub returns : goal.returns
returns c =
    next-else c.args.seqs.now c.args.self.now.open.items c.pop.new.self.items c.enter.new.self.open.items c.in-Some.place c.in-Some-other.other c.in-Some-instr_at-2.field-0.now
    c.in-Some.ensures.items c.in_default-instr_at.ensures c.in-Some-other.is c.in-Some-instr_at-2.ensures.0 c.in_ok-enter.ensures
