use Rattle.std.proofs.Common.{◌≡◌, ◌∙◌, ◌<◌, ◌^◌, ap, refl, sym, subst, map-id, arith, map, All}
use Rattle.std.specs.Prelude.{IfOk, OnOk, Result, Ok, Err}
use Rattle.wasm_rules.specs.Words.{numbers}
use Rattle.wasm_rules.specs.Accesses.{loaded, stored, load_bytes, store_bytes}
use Rattle.wasm_reduction.specs.Combinators.{written, part}
use Rattle.wasm_machine.proofs.CellLemmas.{All-written}
use Rattle.wasm_run.proofs.ByteLemmas.{lowest_bytes-held}
use Rattle.wasm_run.proofs.bytes.BytesMemoryNumbers.TheImpl.Goals as goal

pub load-tells : goal.load-tells
load-tells c =
    let bytes = part c.args.at (load_bytes c.args.op) c.args.self.now in
    record {
      held = search (arith, c.ensures.exact);
      means = subst (λ r. IfOk r (λ w. w ≡ loaded numbers c.args.op (map (λ b. b) bytes))) (sym c.ensures.exact) (ap (loaded numbers c.args.op) (sym (map-id bytes)));
      width = c.ensures.width;
      keeps = λ w held. (held, refl);
    }

pub store-tells : goal.store-tells
store-tells c = record {
  held = on_ok c.result c.ensures.exact (λ is. subst (All (λ b. b < 2 ^ 64)) (sym is)
      (All-written (λ b. b < 2 ^ 64) c.args.at (stored numbers c.args.op c.args.w) c.args.self.now (lowest_bytes-held (store_bytes c.args.op) c.args.w) c.requires.cells_held));
  means = on_ok c.result c.ensures.exact (λ is. map-id c.new.self.now ∙ is ∙ ap (written c.args.at (stored numbers c.args.op c.args.w)) (sym (map-id c.args.self.now)));
  keeps = λ w held. (held, refl);
}
  where
    on_ok : {T E P Q : Type 0} → (r : Result T E) → OnOk r P → (P → Q) → OnOk r Q
    on_ok (Ok x) p f = f p
    on_ok (Err e) p f = tt
