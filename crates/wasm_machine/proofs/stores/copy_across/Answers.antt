use Rattle.std.proofs.Common.{map, sym, arith}
use Rattle.std.specs.Prelude.{Vec}
use Rattle.std.specs.Global.{Global}
use Rattle.wasm_machine.specs.declared.values.Reference.{Reference}
use Rattle.wasm_machine.proofs.StoreLemmas.{list-short, across-starts, across-source, across-target_length, across-more}
use Rattle.wasm_machine.proofs.stores.copy_across.Goals as goal

pub loop-i-init : goal.loop-i-init
loop-i-init c = record { so_far = across-starts (map (λ (v : Vec Reference Global). v.items) c.args.lists.now.items) c.args.x c.args.to }

pub overflow_add-from : goal.overflow_add-from
overflow_add-from c = record { fits = omega (arith, c.requires.from_within, list-short c.args.lists.now.items c.args.y, c.loop-i-test.true) }

pub get_in-r-requires-clause-within : goal.get_in-r-requires-clause-within
get_in-r-requires-clause-within c =
    let same = across-source (map (λ (v : Vec Reference Global). v.items) c.args.lists.now.items) (map (λ (v : Vec Reference Global). v.items) c.loop-i.lists.items) c.args.x c.args.y c.args.to c.args.from c.args.count c.loop-i.i
    (λ e. c.requires.other (sym e)) c.requires.there c.requires.from_within c.requires.to_within c.loop-i-test.true c.loop-i.invariant.so_far in
    rw same (omega (arith, c.requires.from_within, c.loop-i-test.true))

pub overflow_add-to : goal.overflow_add-to
overflow_add-to c = record { fits = omega (arith, c.requires.to_within, list-short c.args.lists.now.items c.args.x, c.loop-i-test.true) }

pub set_in-requires-clause-within : goal.set_in-requires-clause-within
set_in-requires-clause-within c =
    let long = across-target_length (map (λ (v : Vec Reference Global). v.items) c.args.lists.now.items) (map (λ (v : Vec Reference Global). v.items) c.loop-i.lists.items) c.args.x c.args.y c.args.to c.args.from c.args.count c.loop-i.i
    (λ e. c.requires.other (sym e)) c.requires.there c.requires.from_within c.requires.to_within c.loop-i-test.true c.loop-i.invariant.so_far in
    omega (arith, long, c.requires.to_within, c.loop-i-test.true)

pub loop-i-preserved : goal.loop-i-preserved
loop-i-preserved c = record {
  so_far = across-more (map (λ (v : Vec Reference Global). v.items) c.args.lists.now.items) (map (λ (v : Vec Reference Global). v.items) c.loop-i.lists.items) c.args.x c.args.y c.args.to c.args.from c.args.count c.loop-i.i
      (λ e. c.requires.other (sym e)) c.requires.there c.requires.from_within c.requires.to_within c.loop-i-test.true c.loop-i.invariant.so_far
      (map (λ (v : Vec Reference Global). v.items) c.set_in.new.lists.items) c.get_in-r.result c.get_in-r.ensures c.set_in.ensures;
}
