use Rattle.owi_cmd.proofs.SourceLemmas.{of_unlinked}
use Rattle.owi_cmd.proofs.image.not_ready.Goals as goal

pub returns-in-Some-clause-refused : goal.returns-in-Some-clause-refused
returns-in-Some-clause-refused c =
    of_unlinked c.args.source.now c.args.image.now c.in-Some.number c.get-import.result.now c.in_ok-unlinked_import.field-0.status c.in_ok-unlinked_import.field-0.bytes.items c.requires c.in-Some.ensures (rw c.module.ensures.module at c.get-import.ensures) c.in_ok-unlinked_import.ensures.status c.in_ok-unlinked_import.ensures.bytes
