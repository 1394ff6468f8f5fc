use Rattle.std.proofs.Common.{◌∙◌, ap₂}
use Rattle.std.specs.Prelude.{bytes_eq}
use Rattle.wasm_text.specs.Uses.{written_type}
use Rattle.wat_resolve.proofs.TypeLaws.{words_equal}
use Rattle.wat_resolve.proofs.types.agrees.Goals as goal

pub returns : goal.returns
returns c = c.eq.ensures ∙ ap₂ bytes_eq c.in_ok-named.ensures c.in_ok-written.ensures ∙ words_equal (written_type c.args.u.now) c.args.ty.now
