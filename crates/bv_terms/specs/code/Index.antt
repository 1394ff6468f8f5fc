-- How a form is found: by its key, in an ordered map.
use Rattle.std.specs.Prelude.{◌≡◌, ◌↔◌, ℕ, List, [], ◌∷◌, ◌++◌, slice_get, Some}
use Rattle.std.specs.declared.cmp.Ordering.{Ordering}
use Rattle.std.specs.declared.cmp.Reverse.{Reverse}
use Rattle.std.specs.BTreeMap.{BTreeMap, get}
use Rattle.bv_terms.specs.declared.words.Form.{Form}
use Rattle.bv_terms.specs.declared.words.Form.TheVariants.{Symbol as SymbolForm, Un, Bin, Choose as ChooseForm, Byte as ByteForm, Join as JoinForm}
use Rattle.bv_terms.specs.declared.key.Key.{Key}
use Rattle.bv_terms.specs.declared.key.Key.TheVariants.{Symbol as SymbolKey, Un as UnKey, Bin as BinKey, Choose as ChooseKey, Byte as ByteKey, Join as JoinKey}
use Rattle.bv_terms.specs.contracts.key.KeyOrd.TheImpl as key_ord

-- which form a key is of
abbrev pub form_of : Key → Form
form_of (SymbolKey number wide) = SymbolForm number wide
form_of (UnKey op a) = Un op a
form_of (BinKey op a b) = Bin op a b
form_of (ChooseKey wide c a b) = ChooseForm wide c a b
form_of (ByteKey a i) = ByteForm a i
form_of (JoinKey wide words) = JoinForm wide words.items

-- the order of the keys, by their parts
abbrev pub parts_cmp : Key → Key → Ordering
parts_cmp = (key_ord.ghosts).cmp

-- the opposite order, in which a map has them
abbrev pub key_cmp : Reverse Key → Reverse Key → Ordering
key_cmp x y = parts_cmp y.0 x.0

-- each form is found at its place, and nothing else is
abbrev pub IsIndexed : List Form → BTreeMap (Reverse Key) ℕ → Type 0
IsIndexed forms places = (key : Reverse Key) (i : ℕ) → (get key_cmp places key ≡ Some i) ↔ (slice_get forms i ≡ Some (form_of key.0))

-- the forms of full segments in order, and then those of the last one
abbrev pub all_forms : List (List Form) → List Form → List Form
all_forms [] own = own
all_forms (segment ∷ segments) own = segment ++ all_forms segments own
