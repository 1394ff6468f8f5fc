use Rattle.std.specs.Prelude.{replicate}
use Rattle.std.proofs.Common.{◌≡◌, ◌++◌, ◌∷◌, ℕ, [], ap, ◌∙◌, arith, vec_len}
use Rattle.wasm_run.proofs.FastTableLemmas.{ones-put, index-below, index-past}
use Rattle.wasm_run.proofs.fast_path.put_index.Goals as goal

pub returns-in_ok-push : goal.returns-in_ok-push
returns-in_ok-push c =
    let at : c.min.result ≡ c.args.w = omega (arith, c.min.ensures, c.if-at-n.true) in
    c.in_ok-push.ensures.items
    ∙ ap (λ l. l ++ 0 ∷ []) (ones-put c.min.result (vec_len c.args.answers.now) c.args.answers.now.items c.resize.new.self.items c.requires c.args.answers.now.ok.0 c.in_ok-resize.ensures.items ∙ ap (λ k. replicate {A = ℕ} k 1) at)
    ∙ index-below c.args.n c.args.w (omega (arith, c.if-at-n.true))

pub returns-else-at-n : goal.returns-else-at-n
returns-else-at-n c =
    let at : c.min.result ≡ c.args.n = omega (arith, c.min.ensures, c.if-at-n.false) in
    ones-put c.min.result (vec_len c.args.answers.now) c.args.answers.now.items c.resize.new.self.items c.requires c.args.answers.now.ok.0 c.in_ok-resize.ensures.items
    ∙ ap (λ k. replicate {A = ℕ} k 1) at ∙ index-past c.args.n c.args.w (omega (arith, c.if-at-n.false))
