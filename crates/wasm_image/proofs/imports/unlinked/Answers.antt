use Rattle.std.proofs.Common.{subst}
use Rattle.std.specs.Prelude.{MatchOption}
use Rattle.wasm_image.specs.Hosts.{AreLinked, IsFirstUnlinked}
use Rattle.wasm_image.proofs.imports.unlinked.Goals as goal

pub returns : goal.returns
returns c = subst (λ m. MatchOption c.first_unlinked.result (AreLinked m) (IsFirstUnlinked m)) c.module.ensures.module c.first_unlinked.ensures
