-- Reference instructions and table instructions (Execution, Instructions: Reference Instructions, Table Instructions).
use Rattle.std.specs.Prelude.{ℕ, Bool, true, false, List, [], ◌∷◌, ◌++◌, length, replicate, slice_get, slice_set, Option, Some, None}
use Rattle.wasm_ast.specs.declared.types.ValType.{ValType}
use Rattle.wasm_ast.specs.declared.types.ValType.TheVariants.{FuncRef as FuncRefType, ExternRef as ExternRefType}
use Rattle.wasm_ast.specs.declared.runs.Cause.TheVariants.{Table}
use Rattle.wasm_ast.specs.declared.modules.Module.{Module}
use Rattle.int_ops.specs.Integers.{truth}
use Rattle.wasm_rules.specs.Words.{Kind}
use Rattle.wasm_image.specs.Sizes.{most_elements}
use Rattle.wasm_reduction.specs.Configurations.{Reference, FuncRef, ExternRef, Value, I32, Ref, Config, Next, Goes}
use Rattle.wasm_reduction.specs.Combinators.{holding, with_tables, with_elems, with_found, with_word, with_reference, written, part}
use Rattle.wasm_reduction.specs.Ranges.{indexing, filling, copying, with_copy, growth_limit, growing}

-- ---- references

-- the null of a reference type
abbrev pub null_of : ValType → Option Reference
null_of FuncRefType = Some (FuncRef None)
null_of ExternRefType = Some ExternRef
null_of _ = None

abbrev pub is_null : Reference → Bool
is_null (FuncRef None) = true
is_null (FuncRef (Some f)) = false
is_null ExternRef = true

-- ref.null
abbrev pub ref_null : {W : Type 0} → Config W → List (Value W) → ValType → Next W
ref_null c vs kind = with_found (null_of kind) (λ r. Goes (holding c (Ref r ∷ vs)))

-- ref.is_null
abbrev pub ref_is_null : {W : Type 0} → Kind W → Config W → List (Value W) → Next W
ref_is_null K c vs = with_reference vs (λ r rest. Goes (holding c (I32 (K.number (truth (is_null r))) ∷ rest)))

-- ref.func
abbrev pub ref_func : {W : Type 0} → Config W → List (Value W) → ℕ → Next W
ref_func c vs x = Goes (holding c (Ref (FuncRef (Some x)) ∷ vs))

-- ---- tables

-- the configuration with other elements in the table x
abbrev pub with_table : {W : Type 0} → Config W → ℕ → List Reference → Config W
with_table c x elements = with_tables c (slice_set c.store.tables x elements)

-- table.get
abbrev pub table_get : {W : Type 0} → Kind W → Config W → List (Value W) → List ℕ → ℕ → Next W
table_get K c vs ns x =
    with_found (slice_get c.store.tables x) (λ elements. with_word false vs (λ index rest.
    indexing K Table index elements ns (λ i r ns. Goes (holding c (Ref r ∷ rest)))))

-- table.set
abbrev pub table_set : {W : Type 0} → Kind W → Config W → List (Value W) → List ℕ → ℕ → Next W
table_set K c vs ns x =
    with_found (slice_get c.store.tables x) (λ elements. with_reference vs (λ r rest. with_word false rest (λ index rest.
    indexing K Table index elements ns (λ i old ns. Goes (with_table (holding c rest) x (slice_set elements i r))))))

-- table.size
abbrev pub table_size : {W : Type 0} → Kind W → Config W → List (Value W) → ℕ → Next W
table_size K c vs x =
    with_found (slice_get c.store.tables x) (λ elements. Goes (holding c (I32 (K.number (length elements)) ∷ vs)))

-- table.grow
abbrev pub table_grow : {W : Type 0} → Kind W → Module → Config W → List (Value W) → List ℕ → ℕ → Next W
table_grow K m c vs ns x =
    with_found (slice_get c.store.tables x) (λ elements. with_found (slice_get m.tables x) (λ type.
    with_word false vs (λ count rest. with_reference rest (λ r rest.
    growing K c rest count (length elements) (growth_limit type.limits.max most_elements) ns
    (λ n. with_table c x (elements ++ replicate n r))))))

-- table.fill
abbrev pub table_fill : {W : Type 0} → Kind W → Config W → List (Value W) → List ℕ → ℕ → Next W
table_fill K c vs ns x =
    with_found (slice_get c.store.tables x) (λ elements.
    with_word false vs (λ count rest. with_reference rest (λ r rest. with_word false rest (λ to rest.
    filling K Table to count (length elements) ns (λ t n.
    Goes (with_table (holding c rest) x (written t (replicate n r) elements)))))))

-- table.copy
abbrev pub table_copy : {W : Type 0} → Kind W → Config W → List (Value W) → List ℕ → ℕ → ℕ → Next W
table_copy K c vs ns x y =
    with_found (slice_get c.store.tables x) (λ target. with_found (slice_get c.store.tables y) (λ source.
    with_copy vs (λ to from count rest. copying K Table to from count (length target) (length source) ns (λ t f n.
    Goes (with_table (holding c rest) x (written t (part f n source) target))))))

-- table.init
abbrev pub table_init : {W : Type 0} → Kind W → Config W → List (Value W) → List ℕ → ℕ → ℕ → Next W
table_init K c vs ns e x =
    with_found (slice_get c.store.tables x) (λ target. with_found (slice_get c.store.elems e) (λ source.
    with_copy vs (λ to from count rest. copying K Table to from count (length target) (length source) ns (λ t f n.
    Goes (with_table (holding c rest) x (written t (part f n source) target))))))

-- elem.drop
abbrev pub elem_drop : {W : Type 0} → Config W → ℕ → Next W
elem_drop c e = with_found (slice_get c.store.elems e) (λ old. Goes (with_elems c (slice_set c.store.elems e [])))
