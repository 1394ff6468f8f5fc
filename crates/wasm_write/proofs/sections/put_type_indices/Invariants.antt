use Rattle.std.proofs.Common.{◌≡◌, ◌++◌, take}
use Rattle.std.specs.List.{flat_map}
use Rattle.owi_base.specs.Leb.{unsigned_bytes}
use Rattle.wasm_write.proofs.sections.put_type_indices.Given as goal

abbrev pub invariant-loop-func : goal.invariant-loop-func
invariant-loop-func l = l.out.items ≡ l.initial.out.items ++ flat_map (λ f. unsigned_bytes f.ty) (take l.func-index l.funcs)
