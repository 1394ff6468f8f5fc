-- Locals of one type in a row, one after another.
use Rattle.std.proofs.Common.{◌≡◌, ◌∙◌, ◌++◌, ◌∷◌, [], ℕ, ◌+◌, ◌<◌, Bool, true, false, List, length, map, take, get_or, refl, sym, ap}
use Rattle.std.specs.Prelude.{if◌then◌else◌}
use Rattle.std.proofs.lemmas.List.{map_more}
use Rattle.wasm_ast.specs.declared.types.ValType.{ValType}
use Rattle.wasm_ast.specs.declared.types.ValType.TheVariants.{I32, I64, FuncRef, ExternRef}
use Rattle.wasm_ast.specs.declared.modules.Group.{Group}
use Rattle.wasm_text.specs.declared.named.Local.{Local}
use Rattle.wasm_text.specs.Uses.{same_kind}
use Rattle.wasm_text.specs.Resolved.{with_kind, groups_of}
use Rattle.wat_resolve.specs.code.Spaces.{with_last}

kinds_are : (a b : ValType) → same_kind a b ≡ true → a ≡ b
kinds_are I32 I32 e = refl
kinds_are I64 I64 e = refl
kinds_are FuncRef FuncRef e = refl
kinds_are ExternRef ExternRef e = refl
kinds_are a b e = absurd cc

-- groups with one more local behind them
abbrev grown : List Group → ValType → List Group
grown [] k = record { count = 1; kind = k } ∷ []
grown (g ∷ []) k = if same_kind g.kind k then record { count = g.count + 1; kind = g.kind } ∷ [] else g ∷ record { count = 1; kind = k } ∷ []
grown (g ∷ h ∷ rest) k = g ∷ grown (h ∷ rest) k

cons_if : (b : Bool) (d : Group) (xs ys : List Group) → d ∷ (if b then xs else ys) ≡ (if b then d ∷ xs else d ∷ ys)
cons_if true d xs ys = refl
cons_if false d xs ys = refl

grown_last : (done : List Group) (g : Group) (k : ValType) → grown (done ++ g ∷ []) k ≡ with_last done g k
grown_last [] g k = refl
grown_last (d ∷ []) g k = cons_if (same_kind g.kind k) d _ _
grown_last (d ∷ e ∷ done) g k = ap (λ t. d ∷ t) (grown_last (e ∷ done) g k) ∙ cons_if (same_kind g.kind k) d _ _

-- a local before these groups and one behind them
both_ends : (x : ValType) (gs : List Group) (k : ValType) → with_kind x (grown gs k) ≡ grown (with_kind x gs) k
both_ends x [] k = refl
both_ends x (g ∷ []) k = go (same_kind x g.kind) (same_kind g.kind k) refl refl
  where
    go : (b c : Bool) → same_kind x g.kind ≡ b → same_kind g.kind k ≡ c
        → with_kind x (if c then record { count = g.count + 1; kind = g.kind } ∷ [] else g ∷ record { count = 1; kind = k } ∷ [])
        ≡ grown (if b then record { count = g.count + 1; kind = x } ∷ [] else record { count = 1; kind = x } ∷ g ∷ []) k
    go true true e f = rw (e, ap (λ t. same_kind t k) (kinds_are x g.kind e) ∙ f) refl
    go true false e f = rw (e, ap (λ t. same_kind t k) (kinds_are x g.kind e) ∙ f) refl
    go false true e f = rw (e, f) refl
    go false false e f = rw (e, f) refl
both_ends x (g ∷ h ∷ rest) k = go (same_kind x g.kind)
  where
    go : (b : Bool) → (if b then record { count = g.count + 1; kind = x } ∷ grown (h ∷ rest) k else record { count = 1; kind = x } ∷ g ∷ grown (h ∷ rest) k)
        ≡ grown (if b then record { count = g.count + 1; kind = x } ∷ h ∷ rest else record { count = 1; kind = x } ∷ g ∷ h ∷ rest) k
    go true = refl
    go false = refl

groups_snoc : (kinds : List ValType) (k : ValType) → groups_of (kinds ++ k ∷ []) ≡ grown (groups_of kinds) k
groups_snoc [] k = refl
groups_snoc (x ∷ rest) k = ap (λ t. with_kind x t) (groups_snoc rest k) ∙ both_ends x (groups_of rest) k

pub groups_grow : (first : ValType) (rest : List Local) (i : ℕ) (d : Local) (done next : List Group) (g : Group) → i < length rest
    → done ++ g ∷ [] ≡ groups_of (first ∷ map (λ p. p.kind) (take i rest)) → next ≡ with_last done g (get_or rest i d).kind
    → next ≡ groups_of (first ∷ map (λ p. p.kind) (take (i + 1) rest))
groups_grow first rest i d done next g below so_far one =
    let k = (get_or rest i d).kind in
    one ∙ sym (grown_last done g k) ∙ ap (λ t. grown t k) so_far ∙ sym (groups_snoc (first ∷ map (λ p. p.kind) (take i rest)) k)
    ∙ ap (λ t. groups_of (first ∷ t)) (sym (map_more (λ (p : Local). p.kind) rest i d below))
