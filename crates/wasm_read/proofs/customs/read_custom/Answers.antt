use Rattle.std.proofs.lemmas.Result.{err_from_is_err_and}
use Rattle.wasm_read.proofs.customs.read_custom.Goals as goal

pub returns-in_err-name-clause-agrees : goal.returns-in_err-name-clause-agrees
returns-in_err-name-clause-agrees c =
    let told = c.in_err-name.ensures.trouble c.args.slot in
    let p = err_from_is_err_and c.from_residual.result c.from_residual.ensures.1 in
    rw (p.1, p.2) told
