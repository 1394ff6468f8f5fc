use Rattle.wasm_image.proofs.HostLemmas.{AreHostsBelow}
use Rattle.wasm_image.proofs.images.hosts_of.Given as goal

abbrev pub invariant-loop-import : goal.invariant-loop-import
invariant-loop-import l = AreHostsBelow l.m l.import-index l.hosts.items
