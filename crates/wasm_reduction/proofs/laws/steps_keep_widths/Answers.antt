use Rattle.wasm_reduction.proofs.WideSteps.{step-wide, answered-wide, symbol-wide, wide-is}
use Rattle.wasm_reduction.proofs.WideStarts.{code-in-range, first-wide}
use Rattle.wasm_reduction.proofs.laws.steps_keep_widths.Goals as goal

pub returns-clause-steps : goal.returns-clause-steps
returns-clause-steps g c = λ given gives m d numbers w. step-wide (g.W.Words.Has given) g.W.Words.kind gives m (code-in-range m numbers) d w

pub returns-clause-answers : goal.returns-clause-answers
returns-clause-answers g c = λ given d n w. answered-wide (g.W.Words.Has given) d n w

pub returns-clause-symbols : goal.returns-clause-symbols
returns-clause-symbols g c = λ given d wide x w p. symbol-wide (g.W.Words.Has given) d wide x w p

pub returns-clause-wide : goal.returns-clause-wide
returns-clause-wide g c = λ given d w. wide-is (g.W.Words.Has given) d w

pub returns-clause-first : goal.returns-clause-first
returns-clause-first g c = λ given gives m entry args d h valid ready a is. first-wide (g.W.Words.Has given) g.W.Words.kind gives m entry args d h valid ready a is
