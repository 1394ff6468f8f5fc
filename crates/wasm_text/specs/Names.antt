-- Identifiers and what they name (Text Format, Modules: Contexts).
use Rattle.std.specs.Prelude.{ℕ, suc, ◌-◌, Bool, if◌then◌else◌, List, [], ◌∷◌, take, drop, Option, Some, None, option_map, bytes_eq}
use Rattle.wasm_text.specs.declared.named.Id.{Id}
use Rattle.wasm_text.specs.declared.named.Idx.{Idx}
use Rattle.wasm_text.specs.declared.named.Idx.TheVariants.{Numbered, Called}

-- the characters of an identifier in a text
abbrev pub id_text : List ℕ → Id → List ℕ
id_text text id = take (id.end - id.start) (drop id.start text)

abbrev pub same_name : List ℕ → Id → Id → Bool
same_name text x y = bytes_eq (id_text text x) (id_text text y)

-- the position of the first of these that has the identifier's name
abbrev pub position_of : List ℕ → List (Option Id) → Id → Option ℕ
position_of text [] id = None
position_of text (None ∷ rest) id = option_map suc (position_of text rest id)
position_of text (Some other ∷ rest) id = if same_name text other id then Some 0 else option_map suc (position_of text rest id)

-- an index as a number, where it is one or its identifier is defined
abbrev pub position : List ℕ → List (Option Id) → Idx → Option ℕ
position text ids (Numbered n) = Some n
position text ids (Called id) = position_of text ids id
