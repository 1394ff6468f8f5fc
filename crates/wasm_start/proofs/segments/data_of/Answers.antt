use Rattle.std.proofs.Common.{Some, sym, ap, ◌∙◌}
use Rattle.wasm_start.proofs.StartLemmas.{datas_there, datas_kept}
use Rattle.wasm_start.proofs.segments.data_of.Goals as goal

pub returns-then-gone : goal.returns-then-gone
returns-then-gone c = datas_there c.args.dropped.now c.args.m.now.segments c.args.k c.requires.within (sym c.in-Some.ensures ∙ ap (λ b. Some b) c.if-gone.true)

pub returns : goal.returns
returns c =
    datas_kept c.args.dropped.now c.args.m.now.segments c.args.k c.get.result.now (sym c.in-Some.ensures ∙ ap (λ b. Some b) c.if-gone.false) c.get.ensures
    ∙ ap (λ bytes. Some bytes) (sym c.as_slice.ensures)
