use Rattle.type_suffixes.proofs.Trees.{same_word, led_same, led_links}
use Rattle.type_suffixes.proofs.words.lead.Goals as goal

pub put-requires-clause-same : goal.put-requires-clause-same
put-requires-clause-same c = λ old there. same_word c.args.words.now.items c.args.from c.at-w.result old c.led.result c.at-w.ensures.is (led_same _ _ _ _ c.led.ensures) there

pub put-requires-clause-links : goal.put-requires-clause-links
put-requires-clause-links c = led_links _ _ _ _ _ _ c.led.ensures c.at-w.ensures.links c.requires.link
