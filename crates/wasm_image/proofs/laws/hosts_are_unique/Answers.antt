use Rattle.wasm_image.proofs.ImageLaws.{one_host, each_host}
use Rattle.wasm_image.proofs.laws.hosts_are_unique.Goals as goal

pub returns-clause-one : goal.returns-clause-one
returns-clause-one c = one_host

pub returns-clause-each : goal.returns-clause-each
returns-clause-each c = each_host
