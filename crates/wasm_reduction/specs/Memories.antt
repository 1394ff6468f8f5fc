-- Memory instructions (Execution, Instructions: Memory Instructions). A module has at most one memory.
use Rattle.std.specs.Prelude.{ℕ, ◌+◌, ◌*◌, ◌/◌, false, List, [], ◌∷◌, ◌++◌, length, map, replicate, slice_get, slice_set}
use Rattle.wasm_ast.specs.declared.runs.Cause.TheVariants.{Memory}
use Rattle.wasm_ast.specs.declared.modules.Module.{Module}
use Rattle.wasm_rules.specs.Words.{Kind}
use Rattle.wasm_rules.specs.Accesses.{load_of, store_of, accessed, lowest_bytes}
use Rattle.wasm_image.specs.Sizes.{most_pages}
use Rattle.wasm_reduction.specs.Configurations.{Value, I32, Config, Next, Goes}
use Rattle.wasm_reduction.specs.Combinators.{holding, with_memory, with_datas, valued, with_found, with_word, written, part}
use Rattle.wasm_reduction.specs.Ranges.{addressing, filling, copying, with_copy, growth_limit, growing}

-- how many bytes a page has
abbrev pub page_bytes : ℕ
page_bytes = 65536

-- A load. The effective address is the operand plus the offset, and doesn't wrap.
abbrev pub load : {W : Type 0} → Kind W → Config W → List (Value W) → List ℕ → ℕ → ℕ → Next W
load K c vs ns op offset =
    with_found (load_of op) (λ access. with_word false vs (λ address rest.
    addressing K Memory address (offset + access.bytes) (length c.store.memory) ns (λ at.
    Goes (holding c (valued access.wide (accessed K access (part (at + offset) access.bytes c.store.memory)) ∷ rest)))))

-- a store
abbrev pub store : {W : Type 0} → Kind W → Config W → List (Value W) → List ℕ → ℕ → ℕ → Next W
store K c vs ns op offset =
    with_found (store_of op) (λ access. with_word access.wide vs (λ w rest. with_word false rest (λ address rest.
    addressing K Memory address (offset + access.bytes) (length c.store.memory) ns (λ at.
    Goes (with_memory (holding c rest) (written (at + offset) (lowest_bytes K access.bytes w) c.store.memory))))))

-- memory.size
abbrev pub memory_size : {W : Type 0} → Kind W → Config W → List (Value W) → Next W
memory_size K c vs = Goes (holding c (I32 (K.number (length c.store.memory / page_bytes)) ∷ vs))

-- memory.grow
abbrev pub memory_grow : {W : Type 0} → Kind W → Module → Config W → List (Value W) → List ℕ → Next W
memory_grow K m c vs ns =
    with_found (slice_get m.memories 0) (λ limits. with_word false vs (λ count rest.
    growing K c rest count (length c.store.memory / page_bytes) (growth_limit limits.max most_pages) ns
    (λ n. with_memory c (c.store.memory ++ replicate (n * page_bytes) (K.number 0)))))

-- memory.fill
abbrev pub memory_fill : {W : Type 0} → Kind W → Config W → List (Value W) → List ℕ → Next W
memory_fill K c vs ns =
    with_word false vs (λ count rest. with_word false rest (λ w rest. with_word false rest (λ to rest.
    filling K Memory to count (length c.store.memory) ns (λ t n.
    Goes (with_memory (holding c rest) (written t (replicate n (K.byte w 0)) c.store.memory))))))

-- memory.copy
abbrev pub memory_copy : {W : Type 0} → Kind W → Config W → List (Value W) → List ℕ → Next W
memory_copy K c vs ns =
    with_copy vs (λ to from count rest.
    copying K Memory to from count (length c.store.memory) (length c.store.memory) ns (λ t f n.
    Goes (with_memory (holding c rest) (written t (part f n c.store.memory) c.store.memory))))

-- memory.init
abbrev pub memory_init : {W : Type 0} → Kind W → Config W → List (Value W) → List ℕ → ℕ → Next W
memory_init K c vs ns x =
    with_found (slice_get c.store.datas x) (λ source. with_copy vs (λ to from count rest.
    copying K Memory to from count (length c.store.memory) (length source) ns (λ t f n.
    Goes (with_memory (holding c rest) (written t (map K.number (part f n source)) c.store.memory)))))

-- data.drop
abbrev pub data_drop : {W : Type 0} → Config W → ℕ → Next W
data_drop c x = with_found (slice_get c.store.datas x) (λ old. Goes (with_datas c (slice_set c.store.datas x [])))
