use Rattle.std.proofs.Common.{◌∙◌, ap, arith}
use Rattle.wasm_rules.specs.Words.{numbers}
use Rattle.wasm_rules.specs.Accesses.{loaded, load_bytes}
use Rattle.wasm_run.proofs.AccessLemmas.{load_most}
use Rattle.wasm_run.proofs.PageLemmas.{long-enough, read-front, room_in}
use Rattle.wasm_run.proofs.bytes.load_across.Goals as goal

pub loaded_number-requires-clause-within : goal.loaded_number-requires-clause-within
loaded_number-requires-clause-within c =
    long-enough c.args.pages.now c.args.at _ (load_bytes c.args.op) c.read.new.out c.requires.whole c.requires.within
    (room_in c.min-count.result (load_bytes c.args.op) _ (omega (arith, c.min-count.ensures, c.requires.within, load_most c.args.op c.requires.load)) (load_most c.args.op c.requires.load))
    c.read.ensures

pub returns-clause-exact : goal.returns-clause-exact
returns-clause-exact c =
    c.loaded_number.ensures.exact
    ∙ ap (λ b. loaded numbers c.args.op b)
    (read-front c.args.pages.now c.args.at _ (load_bytes c.args.op) c.read.new.out
    (room_in c.min-count.result (load_bytes c.args.op) _ (omega (arith, c.min-count.ensures, c.requires.within, load_most c.args.op c.requires.load)) (load_most c.args.op c.requires.load))
    c.read.ensures)
