use Rattle.std.proofs.Common.{inr}
use Rattle.wat_resolve.proofs.WholeLaws.{resolved_ok, resolved_err}
use Rattle.wat_resolve.proofs.modules.resolve.Goals as goal

pub returns-in-None-clause-module : goal.returns-in-None-clause-module
returns-in-None-clause-module c =
    resolved_ok c.args.text.now c.as_bytes.result.now c.args.named.now c.args.uses.now c.in-Ok.module c.resolve_all_of.new.found c.as_bytes.ensures.value c.in-Ok.ensures.made c.in-Ok.ensures.found c.in-None.is

pub returns-in-Some-clause-trouble : goal.returns-in-Some-clause-trouble
returns-in-Some-clause-trouble c =
    inr (resolved_err c.args.text.now c.as_bytes.result.now c.args.named.now c.args.uses.now c.in-Some.bad c.resolve_all_of.new.found c.as_bytes.ensures.value c.in-Ok.ensures.found c.in-Some.is)
