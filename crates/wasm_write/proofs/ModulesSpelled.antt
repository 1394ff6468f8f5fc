-- The shortest spelling of a module is a spelling of it.
use Rattle.std.proofs.Common.{◌≡◌, ℕ, zero, suc, ◌^◌, ◌<◌, ◌⊎◌, inr, Bool, true, false, cond, List, [], ◌∷◌, ◌++◌, length, map, get_or, Option, Some, None, Result, Ok, Err, All, refl, sym, ap, subst, ◌∙◌, append-nil, append_assoc, arith}
use Rattle.std.specs.Prelude.{◌==◌, IsTrue, IsUtf8}
use Rattle.std.specs.List.{flat_map, AllByRecursion as ByRecursion}
use Rattle.std.proofs.lemmas.Bool.{leb-false, eqb-true, eq-eqb}
use Rattle.std.proofs.lemmas.List.{length-map}
use Rattle.wasm_ast.specs.Sections.{is_written}
use Rattle.wasm_ast.specs.Shape.{CustomHasShape, HasShape}
use Rattle.wasm_ast.specs.declared.modules.Func.{Func}
use Rattle.wasm_ast.specs.declared.modules.Custom.{Custom}
use Rattle.wasm_ast.specs.declared.modules.Module.{Module}
use Rattle.wasm_binary.specs.Faults.{Fault, magic}
use Rattle.wasm_binary.specs.Modules.{Sections, no_sections, section, sections, fixed_bytes, funcs_of, without_customs, last_written, settled, module_of, HaveTheirCounts, IsBinary}
use Rattle.wasm_binary.proofs.BinaryLaws.{one_module}
use Rattle.wasm_write.specs.Modules as writing
use Rattle.wasm_write.specs.Modules.{Section, section_of, custom_section, customs_after, section_bytes, shortest, is_long, first_long}
use Rattle.wasm_ast.specs.Ranges.{IsInRange}
use Rattle.wasm_write.proofs.CustomLaws.{at_slot, gathered, all_gathered, HasPlace, place_within, last_is, all_settled}
use Rattle.wasm_binary.proofs.ShapeOfModules.{last_within, binary_shape, EachIsByte-from_all}
use Rattle.wasm_write.proofs.LocalsSpelled.{code_of}
use Rattle.wasm_write.proofs.SectionsSpelled.{CustomIsFine, custom_spelled, indices_of, codes_of, up_to, Step, types_step, imports_step, funcs_step, tables_step, memories_step, globals_step, exports_step, start_step, elems_step, data_count_step, code_step, data_step}
use Rattle.owi_base.proofs.Choices.{taken}

-- ---- sections one after another

-- the bytes are so many sections, which lead from one state to the other
record Reaches (s t : Sections) (bytes : List ℕ) : Type 0 where
  count : ℕ
  spelled : (sections count s).Spells t bytes

stays : (s : Sections) → Reaches s s []
stays s = record { count = 0; spelled = (refl, refl) }

one_section : (s t : Sections) (bytes : List ℕ) → (section s).Spells t bytes → Reaches s t bytes
one_section s t bytes p = record { count = 1; spelled = (t, bytes, [], sym (append-nil bytes), p, (refl, refl)) }

joined_at : (n : ℕ) (s t u : Sections) (a b : List ℕ) → (sections n s).Spells t a → Reaches t u b → Reaches s u (a ++ b)
joined_at zero s t u a b p r =
    let P : Sections → Type 0 = λ x. Reaches x u b in
    let Q : List ℕ → Type 0 = λ l. Reaches s u (l ++ b) in
    subst Q (sym p.1) (subst P p.0 r)
joined_at (suc n) s t u a b p r =
    let later = joined_at n p.0 t u p.2 b p.5 r in
    record { count = suc later.count; spelled = (p.0, p.1, p.2 ++ b, ap (λ l. l ++ b) p.3 ∙ append_assoc p.1 p.2 b, p.4, later.spelled) }

both : (s t u : Sections) (a b : List ℕ) → Reaches s t a → Reaches t u b → Reaches s u (a ++ b)
both s t u a b p r = joined_at p.count s t u a b p.spelled r

-- ---- sections that aren't too long

none_of_cond : (b : Bool) (x : ℕ) (p : Option ℕ) → cond b (Some x) p ≡ None → (b ≡ false) × (p ≡ None)
none_of_cond true x p e = absurd cc
none_of_cond false x p e = (refl, e)

first_short : (s : Section) (rest : List Section) → first_long (s ∷ rest) ≡ None → (length s.contents < 2 ^ 32) × (first_long rest ≡ None)
first_short s rest e =
    let w = none_of_cond (is_long s) s.id (first_long rest) e in
    (leb-false (2 ^ 32) (length s.contents) w.0, w.1)

none_split : (xs ys : List Section) → first_long (xs ++ ys) ≡ None → (first_long xs ≡ None) × (first_long ys ≡ None)
none_split [] ys e = (refl, e)
none_split (s ∷ xs) ys e =
    let w = none_of_cond (is_long s) s.id (first_long (xs ++ ys)) e in
    let others = none_split xs ys w.1 in
    (ap (λ b. cond b (let p : Option ℕ = Some s.id in p) (first_long xs)) w.0 ∙ others.0, others.1)

pub bytes_split : (xs ys : List Section) → flat_map section_bytes (xs ++ ys) ≡ flat_map section_bytes xs ++ flat_map section_bytes ys
bytes_split [] ys = refl
bytes_split (s ∷ xs) ys = ap (λ l. section_bytes s ++ l) (bytes_split xs ys) ∙ sym (append_assoc (section_bytes s) (flat_map section_bytes xs) (flat_map section_bytes ys))

-- ---- custom sections

customs_reach : (s : Sections) (cs : List Custom) → ByRecursion (CustomIsFine s.slot) cs → first_long (map custom_section cs) ≡ None → Reaches s (record s { customs = s.customs ++ cs }) (flat_map section_bytes (map custom_section cs))
customs_reach s [] fine short =
    let with : List Custom → Sections = λ cs. record s { customs = cs } in
    let P : Sections → Type 0 = λ t. Reaches s t [] in
    subst P (ap with (sym (append-nil s.customs))) (stays s)
customs_reach s (c ∷ cs) fine short =
    let first = first_short (custom_section c) (map custom_section cs) short in
    let t : Sections = record s { customs = s.customs ++ c ∷ [] } in
    let with : List Custom → Sections = λ l. record s { customs = l } in
    let bytes = flat_map section_bytes (map custom_section cs) in
    let P : Sections → Type 0 = λ u. Reaches s u (section_bytes (custom_section c) ++ bytes) in
    subst P (ap with (append_assoc s.customs (c ∷ []) cs))
    (both s t (record t { customs = t.customs ++ cs }) (section_bytes (custom_section c)) bytes
    (one_section s t (section_bytes (custom_section c)) (custom_spelled s c fine.0 first.0)) (customs_reach t cs fine.1 first.1))

-- what is known of each custom section
record CustomIsKnown (m : Module) (c : Custom) : Type 0 where
  place : HasPlace m c
  name_short : length c.name < 2 ^ 32
  text : IsUtf8 c.name

filter_known : (m : Module) (cs : List Custom) (slot b : ℕ) → ByRecursion (CustomIsKnown m) cs → ((slot ≡ 0) ⊎ IsTrue (is_written m slot) → b ≡ slot) → ByRecursion (CustomIsFine b) (at_slot slot cs)
filter_known m [] slot b known is = tt
filter_known m (c ∷ cs) slot b known is = by_test (c.after == slot) refl (filter_known m cs slot b known.1 is)
  where
    by_test : (t : Bool) → (c.after == slot) ≡ t → ByRecursion (CustomIsFine b) (at_slot slot cs) → ByRecursion (CustomIsFine b) (cond t (c ∷ at_slot slot cs) (at_slot slot cs))
    by_test true e others =
        let same : c.after ≡ slot = eqb-true c.after slot e in
        let P : ℕ → Type 0 = λ n. (n ≡ 0) ⊎ IsTrue (is_written m n) in
        let here : b ≡ slot = is (subst P same known.0.place) in
        (record { place = same ∙ sym here; name_short = known.0.name_short; text = known.0.text }, others)
    by_test false e others = others

-- ---- one slot

-- the section of the slot j, where it is written
slot_reaches : (m : Module) (i j a b : ℕ) (customs : List Custom) → Step m i j → a < j → (is_written m j ≡ true → b ≡ j) → (is_written m j ≡ false → b ≡ a) → first_long (section_of m j) ≡ None
    → Reaches (up_to m i a customs) (up_to m j b customs) (flat_map section_bytes (section_of m j))
slot_reaches m i j a b customs step lt is stays_at short = by_test (is_written m j) refl short
  where
    by_test : (t : Bool) → is_written m j ≡ t → first_long (cond t ((let s : Section = record { id = writing.id_of j; contents = writing.contents m j } in s) ∷ []) []) ≡ None
        → Reaches (up_to m i a customs) (up_to m j b customs) (flat_map section_bytes (cond t ((let s : Section = record { id = writing.id_of j; contents = writing.contents m j } in s) ∷ []) []))
    by_test true e none =
        let s : Section = record { id = writing.id_of j; contents = writing.contents m j } in
        let P : ℕ → Type 0 = λ n. Reaches (up_to m i a customs) (up_to m j n customs) (section_bytes s ++ []) in
        let Q : List ℕ → Type 0 = λ l. Reaches (up_to m i a customs) (up_to m j j customs) l in
        subst P (sym (is e)) (subst Q (sym (append-nil (section_bytes s))) (one_section (up_to m i a customs) (up_to m j j customs) (section_bytes s) (step.written e a customs lt (first_short s [] none).0)))
    by_test false e none =
        let P : ℕ → Type 0 = λ n. Reaches (up_to m i a customs) (up_to m j n customs) [] in
        let Q : Sections → Type 0 = λ t. Reaches (up_to m i a customs) t [] in
        subst P (sym (stays_at e)) (subst Q (step.not_written e a customs) (stays (up_to m i a customs)))

-- the section of a slot, the custom sections after it, and then the rest
on : (m : Module) (i j : ℕ) (rest : List Section) (t : Sections) (cs : List Custom) → Step m i j → j ≡ suc i → ByRecursion (CustomIsKnown m) m.customs
    → (first_long rest ≡ None → Reaches (up_to m j (last_written m j) (cs ++ at_slot j m.customs)) t (flat_map section_bytes rest))
    → first_long (section_of m j ++ customs_after m j ++ rest) ≡ None
    → Reaches (up_to m i (last_written m i) cs) t (flat_map section_bytes (section_of m j ++ customs_after m j ++ rest))
on m i j rest t cs step next known later short =
    let own = section_of m j in
    let customs = customs_after m j in
    let first = none_split (own ++ customs) rest short in
    let two = none_split own customs first.0 in
    let s = up_to m i (last_written m i) cs in
    let mid = up_to m j (last_written m j) cs in
    let end = up_to m j (last_written m j) (cs ++ at_slot j m.customs) in
    let W : ℕ → Type 0 = λ k. is_written m k ≡ false → last_written m k ≡ last_written m i in
    let kept : is_written m (suc i) ≡ false → last_written m (suc i) ≡ last_written m i = λ e. ap (λ b. cond b (suc i) (last_written m i)) e in
    let a = slot_reaches m i j (last_written m i) (last_written m j) cs step (omega (arith, next, last_within m i)) (λ e. last_is m j (inr e)) (subst W (sym next) kept) two.0 in
    let b = customs_reach mid (at_slot j m.customs) (filter_known m m.customs j (last_written m j) known (last_is m j)) two.1 in
    let P : List ℕ → Type 0 = λ l. Reaches s t l in
    let parts : flat_map section_bytes (own ++ customs ++ rest) ≡ flat_map section_bytes own ++ flat_map section_bytes customs ++ flat_map section_bytes rest =
    bytes_split (own ++ customs) rest ∙ ap (λ l. l ++ flat_map section_bytes rest) (bytes_split own customs) in
    subst P (sym parts) (both s end t (flat_map section_bytes own ++ flat_map section_bytes customs) (flat_map section_bytes rest)
    (both s mid end (flat_map section_bytes own) (flat_map section_bytes customs) a b) (later first.1))

-- ---- all slots

-- what is known of all custom sections
customs_known : (m : Module) (cs : List Custom) → All (CustomHasShape m) cs → All (λ c. IsUtf8 c.name) cs → ByRecursion (CustomIsKnown m) cs
customs_known m [] shape range = tt
customs_known m (c ∷ cs) shape range =
    let own = shape 0 c (omega arith) in (
      record { place = own.place; name_short = own.name_short; text = range 0 c (omega arith) },
      customs_known m cs (λ k d lt. shape (suc k) d (omega arith)) (λ k d lt. range (suc k) d (omega arith)),
    )

abbrev last_state : Module → Sections
last_state m = up_to m 12 (last_written m 12) (gathered m.customs 12)

all_slots : (m : Module) → HasShape m → IsInRange m → ByRecursion (CustomIsKnown m) m.customs → first_long (writing.sections m) ≡ None → Reaches no_sections (last_state m) (flat_map section_bytes (writing.sections m))
all_slots m shape range known short =
    let slots : ℕ → List Section = λ slot. section_of m slot ++ customs_after m slot in
    let rest = flat_map slots (1 ∷ 2 ∷ 3 ∷ 4 ∷ 5 ∷ 6 ∷ 7 ∷ 8 ∷ 9 ∷ 10 ∷ 11 ∷ 12 ∷ []) in
    let g : ℕ → List Custom = λ slot. gathered m.customs slot in
    let end = last_state m in
    let split = none_split (customs_after m 0) rest short in
    let short_0 = split.1 in
    let before = customs_reach no_sections (at_slot 0 m.customs) (filter_known m m.customs 0 0 known (λ h. refl)) split.0 in
    let P : List ℕ → Type 0 = λ l. Reaches no_sections end l in
    subst P (sym (bytes_split (customs_after m 0) rest)) (both no_sections (up_to m 0 (last_written m 0) (g 0)) end (flat_map section_bytes (customs_after m 0)) (flat_map section_bytes rest) before
    (on m 0 1 (flat_map slots (2 ∷ 3 ∷ 4 ∷ 5 ∷ 6 ∷ 7 ∷ 8 ∷ 9 ∷ 10 ∷ 11 ∷ 12 ∷ [])) end (g 0) (types_step m shape range) refl known (λ short_1.
    (on m 1 2 (flat_map slots (3 ∷ 4 ∷ 5 ∷ 6 ∷ 7 ∷ 8 ∷ 9 ∷ 10 ∷ 11 ∷ 12 ∷ [])) end (g 1) (imports_step m shape range) refl known (λ short_2.
    (on m 2 3 (flat_map slots (4 ∷ 5 ∷ 6 ∷ 7 ∷ 8 ∷ 9 ∷ 10 ∷ 11 ∷ 12 ∷ [])) end (g 2) (funcs_step m shape range) refl known (λ short_3.
    (on m 3 4 (flat_map slots (5 ∷ 6 ∷ 7 ∷ 8 ∷ 9 ∷ 10 ∷ 11 ∷ 12 ∷ [])) end (g 3) (tables_step m shape range) refl known (λ short_4.
    (on m 4 5 (flat_map slots (6 ∷ 7 ∷ 8 ∷ 9 ∷ 10 ∷ 11 ∷ 12 ∷ [])) end (g 4) (memories_step m shape range) refl known (λ short_5.
    (on m 5 6 (flat_map slots (7 ∷ 8 ∷ 9 ∷ 10 ∷ 11 ∷ 12 ∷ [])) end (g 5) (globals_step m shape range) refl known (λ short_6.
    (on m 6 7 (flat_map slots (8 ∷ 9 ∷ 10 ∷ 11 ∷ 12 ∷ [])) end (g 6) (exports_step m shape range) refl known (λ short_7.
    (on m 7 8 (flat_map slots (9 ∷ 10 ∷ 11 ∷ 12 ∷ [])) end (g 7) (start_step m shape range) refl known (λ short_8.
    (on m 8 9 (flat_map slots (10 ∷ 11 ∷ 12 ∷ [])) end (g 8) (elems_step m shape range) refl known (λ short_9.
    (on m 9 10 (flat_map slots (11 ∷ 12 ∷ [])) end (g 9) (data_count_step m shape range) refl known (λ short_10.
    (on m 10 11 (flat_map slots (12 ∷ [])) end (g 10) (code_step m shape range) refl known (λ short_11.
    (on m 11 12 (flat_map slots ([])) end (g 11) (data_step m shape range) refl known (λ short_12. stays end) short_11)) short_10)) short_9)) short_8)) short_7)) short_6)) short_5)) short_4)) short_3)) short_2)) short_1)) short_0))

-- ---- the module

fixed_spelled : (bytes : List ℕ) → (fixed_bytes bytes).Spells 0 bytes
fixed_spelled [] = (refl, refl)
fixed_spelled (b ∷ rest) =
    let r : Result ℕ (ℕ → Fault) = Ok b in
    (b, b ∷ [], rest, refl, (b, refl, taken (b == b) r (Err magic) (eq-eqb b b refl)), fixed_spelled rest)

funcs_again : (funcs : List Func) → funcs_of (indices_of funcs) (codes_of funcs) ≡ funcs
funcs_again [] = refl
funcs_again (f ∷ funcs) = ap (λ l. f ∷ l) (funcs_again funcs)

module_again : (m : Module) → HasShape m → m ≡ module_of (last_state m)
module_again m shape =
    let bare : Module = record m { customs = [] } in
    let all = gathered m.customs 12 in
    let funcs : without_customs (last_state m) ≡ bare = ap (λ l. let n : Module = record bare { funcs = l } in n) (funcs_again m.funcs) in
    let customs : all ≡ m.customs = all_gathered m.customs 12 shape.customs.in_order (λ k d lt. place_within m (get_or m.customs k d) (shape.customs.each k d lt).place) in
    let settle : Module → Module = λ w. record w { customs = map (settled w) all } in
    let with : List Custom → Module = λ l. record bare { customs = l } in
    sym (ap settle funcs ∙ ap (λ l. with (map (settled bare) l)) customs ∙ ap with (all_settled bare m.customs (λ k d lt. (shape.customs.each k d lt).place)))

announced_is : (k n : ℕ) (b : Bool) → (let p : Option ℕ = cond b (Some k) None in p) ≡ Some n → n ≡ k
announced_is k n true e = cc
announced_is k n false e = absurd cc

counts_of : (m : Module) → HaveTheirCounts (last_state m)
counts_of m = record {
  codes = length-map m.funcs (λ (f : Func). f.ty) ∙ sym (length-map m.funcs code_of);
  segments = λ n e. announced_is (length m.segments) n (is_written m 10) e;
}

pub shortest_spelled : (m : Module) → HasShape m → IsInRange m → first_long (writing.sections m) ≡ None → IsBinary m (shortest m)
shortest_spelled m shape range short =
    let known = customs_known m m.customs shape.customs.each range.customs in
    let r = all_slots m shape range known short in
    let front_bytes = 0x00 ∷ 0x61 ∷ 0x73 ∷ 0x6D ∷ 0x01 ∷ 0x00 ∷ 0x00 ∷ 0x00 ∷ [] in
    record {
      section_count = r.count;
      all = last_state m;
      spelled = (0, front_bytes, flat_map section_bytes (writing.sections m), refl, fixed_spelled front_bytes, r.spelled);
      counts = counts_of m;
      is = module_again m shape;
    }

pub read_again : (m n : Module) → HasShape m → IsInRange m → first_long (writing.sections m) ≡ None → IsBinary n (shortest m) → n ≡ m
read_again m n shape range short is = one_module (shortest m) n m is (shortest_spelled m shape range short)

pub written_again : (m n : Module) (bytes written : List ℕ) → All (λ b. b < 2 ^ 8) bytes → IsBinary m bytes → length m.customs < 2 ^ 32 → IsInRange m → first_long (writing.sections m) ≡ None → written ≡ shortest m → IsBinary n written → shortest n ≡ written
written_again m n bytes written are was few range short is next =
    let shape = binary_shape m bytes (EachIsByte-from_all bytes are) was few in
    ap shortest (read_again m n shape range short (subst (λ text. IsBinary n text) is next)) ∙ sym is
