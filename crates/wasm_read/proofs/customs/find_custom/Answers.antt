use Rattle.wasm_read.proofs.SectionLaws.{name_goes_on}
use Rattle.wasm_read.proofs.customs.find_custom.Goals as goal

pub overflow_sub-next : goal.overflow_sub-next
overflow_sub-next c = name_goes_on c.args.view.now c.args.at c.in_ok-name.name.now c.in_ok-name.next c.in_ok-name.ensures.text
