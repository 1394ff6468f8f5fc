-- What is written for the code of a function is a spelling of it.
use Rattle.std.proofs.Common.{◌≡◌, ◌≢◌, ℕ, suc, ◌+◌, ◌^◌, ◌<◌, ◌≤◌, Bool, true, false, List, [], ◌∷◌, ◌++◌, length, get_or, Result, Ok, Err, All, refl, sym, ap, subst, ◌∙◌, append-nil, append_assoc, arith}
use Rattle.std.specs.Prelude.{◌==◌, nat_le, sum_by}
use Rattle.std.specs.List.{flat_map, AllAdjacentBelow}
use Rattle.std.proofs.lemmas.Bool.{le-leb, ne_eqb}
use Rattle.std.proofs.lemmas.List.Sums.{sum_by-cons}
use Rattle.owi_base.specs.Leb.{unsigned_bytes}
use Rattle.wasm_ast.specs.Shape.{FuncHasShape}
use Rattle.wasm_ast.specs.declared.types.ValType.{ValType}
use Rattle.wasm_ast.specs.declared.types.ValType.TheVariants.{I32, I64, FuncRef, ExternRef}
use Rattle.wasm_ast.specs.declared.modules.Group.{Group}
use Rattle.wasm_ast.specs.declared.modules.Func.{Func}
use Rattle.wasm_binary.specs.Faults.{Fault, locals}
use Rattle.wasm_binary.specs.Locals.{few, group, groups, same_kind, with_front, joined, Code, code_contents, code}
use Rattle.wasm_write.specs.Values.{vec_bytes}
use Rattle.wasm_write.specs.Types.{val_type_bytes}
use Rattle.wasm_write.specs.Instructions.{expr_bytes}
use Rattle.wasm_write.specs.SectionEntries.{group_bytes, code_bytes}
use Rattle.wasm_ast.specs.Ranges.{FuncInRange}
use Rattle.wasm_write.proofs.FormSpelled.{u32_spelled, val_type_spelled}
use Rattle.wasm_write.proofs.SequencesSpelled.{IsCounted, expr_spelled}
use Rattle.owi_base.proofs.Choices.{taken, passed}
use Rattle.wasm_binary.proofs.KindLaws.{same_kind_is}

abbrev total : List Group → ℕ
total gs = sum_by (λ g. g.count) gs

-- ---- groups in bytes

group_spelled : (before : ℕ) (g : Group) → before + g.count ≤ 50000 → (group before).Spells g (group_bytes g)
group_spelled before g le =
    let r : Result ℕ (ℕ → Fault) = Ok g.count in
    let passes : few before g.count ≡ Ok g.count = taken (nat_le (before + g.count) 50000) r (Err (locals (before + g.count))) (le-leb (before + g.count) 50000 le) in (
      g.count,
      unsigned_bytes g.count,
      val_type_bytes g.kind,
      refl,
      (g.count, u32_spelled g.count (omega arith), passes),
      (g.kind, val_type_bytes g.kind, [], refl, val_type_spelled g.kind, (refl, refl)),
    )

groups_spelled : (gs : List Group) (before : ℕ) → before + total gs ≤ 50000 → (groups (length gs) before).Spells gs (flat_map group_bytes gs)
groups_spelled [] before le = (refl, refl)
groups_spelled (g ∷ gs) before le =
    let sum = sum_by-cons (λ (h : Group). h.count) g gs in
    let rest = flat_map group_bytes gs in (
      g,
      group_bytes g,
      rest,
      refl,
      group_spelled before g (omega (arith, sum)),
      (gs, rest, [], sym (append-nil rest), groups_spelled gs (before + g.count) (omega (arith, sum)), (refl, refl)),
    )

-- ---- groups as a module has them stay as they are

differ : (a b : ValType) (r : Bool) → same_kind a b ≡ r → a ≢ b → r ≡ false
differ a b true e ne = absurd (ne (same_kind_is a b e))
differ a b false e ne = refl

front_kept : (g : Group) (gs : List Group) → AllAdjacentBelow (λ a b. a.kind ≢ b.kind) (g ∷ gs) (length (g ∷ gs)) → with_front g gs ≡ g ∷ gs
front_kept g [] neighbours = refl
front_kept g (h ∷ gs) neighbours =
    passed (same_kind g.kind h.kind) ((let k : Group = record { count = g.count + h.count; kind = h.kind } in k) ∷ gs) (g ∷ h ∷ gs)
    (differ g.kind h.kind (same_kind g.kind h.kind) refl (neighbours 0 g (omega arith)))

later_neighbours : (g : Group) (gs : List Group) → AllAdjacentBelow (λ a b. a.kind ≢ b.kind) (g ∷ gs) (length (g ∷ gs)) → AllAdjacentBelow (λ a b. a.kind ≢ b.kind) gs (length gs)
later_neighbours g gs neighbours = λ k d lt.
    let P : ℕ → Type 0 = λ i. (get_or gs k d).kind ≢ (get_or (g ∷ gs) i d).kind in
    let next : suc k + 1 ≡ suc (k + 1) = omega arith in
    subst P next (neighbours (suc k) d (omega arith))

groups_kept : (gs : List Group) → All (λ g. 1 ≤ g.count) gs → AllAdjacentBelow (λ a b. a.kind ≢ b.kind) gs (length gs) → joined gs ≡ gs
groups_kept [] each neighbours = refl
groups_kept (g ∷ gs) each neighbours =
    let some : 1 ≤ g.count = each 0 g (omega arith) in
    passed (g.count == 0) (joined gs) (with_front g (joined gs)) (ne_eqb g.count 0 (λ e. omega (arith, some)))
    ∙ ap (λ l. with_front g l) (groups_kept gs (λ k d lt. each (suc k) d (omega arith)) (later_neighbours g gs neighbours))
    ∙ front_kept g gs neighbours

-- ---- an entry

abbrev pub code_of : Func → Code
code_of f = record { locals = f.locals; body = f.body }

abbrev pub entry_bytes : Func → List ℕ
entry_bytes f = vec_bytes group_bytes f.locals ++ expr_bytes f.body

entry_spelled : (counted : Bool) (f : Func) → FuncHasShape f → FuncInRange f → IsCounted counted f.body → (code_contents counted).Spells (code_of f) (entry_bytes f)
entry_spelled counted f shape range data_counted =
    let gs = f.locals in
    let count = unsigned_bytes (length gs) in
    let all = flat_map group_bytes gs in
    let body = expr_bytes f.body in
    let kept : code_of f ≡ record { locals = joined gs; body = f.body } =
    ap (λ l. let c : Code = record { locals = l; body = f.body } in c) (sym (groups_kept gs shape.locals.each shape.locals.neighbours)) in (
      length gs,
      count,
      all ++ body,
      append_assoc count all body,
      u32_spelled (length gs) shape.locals.short,
      (
        gs,
        all,
        body,
        refl,
        groups_spelled gs 0 (omega (arith, shape.locals.few)),
        (f.body, body, [], sym (append-nil body), expr_spelled counted f.body shape.body range.body data_counted, (kept, refl)),
      ),
    )

pub code_spelled : (counted : Bool) (f : Func) → FuncHasShape f → FuncInRange f → IsCounted counted f.body → length (entry_bytes f) < 2 ^ 32 → (code counted).Spells (code_of f) (code_bytes f)
code_spelled counted f shape range data_counted short =
    (length (entry_bytes f), unsigned_bytes (length (entry_bytes f)), entry_bytes f, refl, u32_spelled (length (entry_bytes f)) short, (entry_spelled counted f shape range data_counted, refl))
