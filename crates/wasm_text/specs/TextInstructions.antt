-- Instructions and expressions in tokens (Text Format, Instructions).
--
-- A sequence is given with all sequences inside it in the order in which they open, which gives them their numbers (Numbering of
-- wasm_ast). The instructions of a folded one are those of its operands, and then its own. A label's identifier may be defined
-- again inside its block: what it names is told where it stands, among the labels of the open blocks, the innermost first.
use Rattle.std.specs.Prelude.{ℕ, zero, suc, ◌+◌, ◌^◌, Bool, true, false, ◌==◌, ◌&&◌, ◌||◌, not, if◌then◌else◌, List, [], ◌∷◌, ◌++◌, length, drop, flat_map, Option, Some, None, bytes_eq, codes}
use Rattle.wasm_ast.specs.declared.types.ValType.{ValType}
use Rattle.wasm_ast.specs.declared.types.ValType.TheVariants.{FuncRef, ExternRef}
use Rattle.wasm_ast.specs.declared.instructions.Instr.{Instr}
use Rattle.wasm_ast.specs.declared.instructions.Instr.TheVariants as instr
use Rattle.wasm_text.specs.declared.bad.TextBad.TheVariants.{NoMemory}
use Rattle.wasm_text.specs.declared.named.Id.{Id}
use Rattle.wasm_text.specs.declared.named.Idx.{Idx}
use Rattle.wasm_text.specs.declared.named.Idx.TheVariants.{Numbered}
use Rattle.wasm_text.specs.declared.named.OneIndex.{OneIndex}
use Rattle.wasm_text.specs.declared.named.OneIndex.TheVariants.{Br, BrIf}
use Rattle.wasm_text.specs.declared.named.Written.{Written}
use Rattle.wasm_text.specs.declared.named.Written.TheVariants as written
use Rattle.wasm_text.specs.declared.named.WrittenExpr.{WrittenExpr}
use Rattle.wasm_text.specs.declared.keywords.Keyword.{Keyword}
use Rattle.wasm_text.specs.declared.keywords.Keyword.TheVariants.{Alone, Index, TableIndex, Load, Store, Const32, Const64, BrTable, CallIndirect, RefNull, Select, TableInit, TableCopy, Block, Loop, If}
use Rattle.wasm_text.specs.Integers.{Literal, NoNumber, OutOfRange, Number, count_of}
use Rattle.wasm_text.specs.Keywords.{keyword_of, own_alignment}
use Rattle.wasm_text.specs.Names.{position, id_text}
use Rattle.wasm_text.specs.TokenForms.{Form, Rest, ◌>>=◌, gives, fails, next_is, next_word, source, opens, pass, pass_two, want, opening, closing, parts_end, keyword, is_open, is_word, as_long}
use Rattle.wasm_text.specs.TextValues.{integer, out_of_range, is_identifier, maybe_id, idx, idx_follows, table_idx}
use Rattle.wasm_text.specs.TextTypes.{begins_with, begins_outside, holds_outside, outside, told, result_parts, call_use, block_use}

-- ---- labels

-- the labels of the open blocks, the innermost first
abbrev pub Labels : Type 0
Labels = List (Option Id)

abbrev pub told_label : Idx → Option ℕ → Idx
told_label x None = x
told_label x (Some n) = Numbered n

-- a label: a number, or an identifier, which stays where no open block has that name
abbrev pub label : Labels → Form Idx
label labels = do
  x ← idx
  text ← source
  gives (told_label x (position text labels x))

abbrev pub is_label : List ℕ → Option Id → List ℕ → Bool
is_label text None w = false
is_label text (Some id) w = bytes_eq (id_text text id) w

abbrev pub passed : {A : Type 0} → A → Form A
passed x = do
  _ ← pass
  gives x

-- after `else` and `end`, an identifier repeats the block's label
abbrev pub label_again : Option Id → Form Bool
label_again own = do
  w ← next_word
  text ← source
  if is_identifier w then (if is_label text own w then passed true else want) else gives false

-- ---- what follows the word of an instruction

abbrev pub names_label : OneIndex → Bool
names_label Br = true
names_label BrIf = true
names_label _ = false

abbrev pub one_index : Labels → OneIndex → Form Written
one_index labels i = do
  x ← if names_label i then label labels else idx
  gives (written.One i x)

abbrev pub table_index : OneIndex → Form Written
table_index i = do
  x ← table_idx
  gives (written.One i x)

abbrev pub some_number : Literal → Form (Option ℕ)
some_number NoNumber = gives None
some_number OutOfRange = out_of_range
some_number (Number n) = passed (Some n)

-- a word that begins so and then has a number that counts things, where one comes next
abbrev pub number_after : List ℕ → Form (Option ℕ)
number_after front = do
  w ← next_word
  if begins_with front w then some_number (count_of (drop (length front) w)) else gives None

abbrev pub or_zero : Option ℕ → ℕ
or_zero None = 0
or_zero (Some n) = n

-- the exponent of a power of two below 2 ^ k
abbrev pub exponent_below : ℕ → ℕ → Option ℕ
exponent_below zero n = None
exponent_below (suc k) n = if 2 ^ k == n then Some k else exponent_below k n

abbrev pub exponent_or : ℕ → Option ℕ → ℕ
exponent_or own None = own
exponent_or own (Some k) = k

abbrev pub told_power : Option ℕ → Form (Option ℕ)
told_power None = out_of_range
told_power (Some k) = passed (Some k)

-- the exponent of a number that is a power of two from 1 to 2 ^ 31
abbrev pub power_of_two : Literal → Form (Option ℕ)
power_of_two NoNumber = gives None
power_of_two OutOfRange = out_of_range
power_of_two (Number n) = told_power (exponent_below 32 n)

abbrev pub alignment : ℕ → Form ℕ
alignment own = do
  w ← next_word
  k ← if begins_with (codes "align=") w then power_of_two (count_of (drop 6 w)) else gives None
  gives (exponent_or own k)

-- an offset and an alignment
abbrev pub access : ℕ → (ℕ → ℕ → Instr) → Form Written
access op made = do
  offset ← number_after (codes "offset=")
  align ← alignment (own_alignment op)
  gives (written.Plain (made align (or_zero offset)))

abbrev pub constant : ℕ → (ℕ → Instr) → Form Written
constant bits made = do
  n ← integer bits
  gives (written.Plain (made n))

-- all but the last, and the last
abbrev pub to_last : Idx → List Idx → List Idx × Idx
to_last x [] = ([], x)
to_last x (y ∷ rest) = (x ∷ (to_last y rest).0, (to_last y rest).1)

abbrev pub branch_table : Labels → Form Written
branch_table labels = do
  x ← label labels
  others ← as_long idx_follows (label labels)
  gives (written.BrTable (to_last x others).0 (to_last x others).1)

abbrev pub call_indirect : Form Written
call_indirect = do
  table ← table_idx
  ty ← call_use
  gives (written.CallIndirect table ty)

abbrev pub heap_type_word : List ℕ → Option ValType
heap_type_word w = if bytes_eq w (codes "func") then Some FuncRef else (if bytes_eq w (codes "extern") then Some ExternRef else None)

abbrev pub null_of : Form Written
null_of = do
  w ← next_word
  kind ← told (heap_type_word w) want
  gives (written.Plain (instr.RefNull kind))

-- of types, where a part says so, even if it has none
abbrev pub selected : List (List ValType) → Instr
selected [] = instr.Select
selected (part ∷ parts) = instr.SelectTyped (flat_map (λ kinds. kinds) (part ∷ parts))

abbrev pub select : Form Written
select = do
  parts ← result_parts
  gives (written.Plain (selected parts))

-- table.init has the table first; one index alone is the segment's
abbrev pub with_elem : Idx → Form Written
with_elem table = do
  elem ← idx
  gives (written.TableInit table elem)

abbrev pub table_init : Form Written
table_init = do
  x ← idx
  more ← idx_follows
  if more then with_elem x else gives (written.TableInit (Numbered 0) x)

-- one index alone is the target's
abbrev pub table_copy : Form Written
table_copy = do
  to ← table_idx
  from ← table_idx
  gives (written.TableCopy to from)

-- the instructions that hold no others
abbrev pub operands : Labels → Keyword → Form Written
operands labels (Alone i) = gives (written.Plain i)
operands labels (Index i) = one_index labels i
operands labels (TableIndex i) = table_index i
operands labels (Load op) = access op (instr.Load op)
operands labels (Store op) = access op (instr.Store op)
operands labels Const32 = constant 32 instr.Const32
operands labels Const64 = constant 64 instr.Const64
operands labels BrTable = branch_table labels
operands labels CallIndirect = call_indirect
operands labels RefNull = null_of
operands labels Select = select
operands labels TableInit = table_init
operands labels TableCopy = table_copy
operands labels Block = want
operands labels Loop = want
operands labels If = want

-- ---- sequences

-- instructions with all sequences inside them, in the order in which they open
pub record Sequence : Type 0 where
  pub instrs : List Written
  pub inside : List (List Written)

abbrev pub no_instrs : Sequence
no_instrs = record { instrs = []; inside = [] }

-- it and all inside it
abbrev pub all_of : Sequence → List (List Written)
all_of s = s.instrs ∷ s.inside

-- what comes after another
abbrev pub joined : Sequence → Sequence → Sequence
joined s t = record { instrs = s.instrs ++ t.instrs; inside = s.inside ++ t.inside }

abbrev pub alone : Written → Sequence
alone i = record { instrs = i ∷ []; inside = [] }

-- a block or a loop with its sequence
abbrev pub block_with : Written → Sequence → Sequence
block_with i body = record { instrs = i ∷ []; inside = all_of body }

-- an if after its conditions, with its two sequences
abbrev pub if_with : Sequence → Written → Sequence → Sequence → Sequence
if_with conditions i first second =
    record { instrs = conditions.instrs ++ i ∷ []; inside = conditions.inside ++ all_of first ++ all_of second }

-- what is repeated: instructions; folded ones; or folded ones as an if's conditions, before its `then`
pub data Part : Type 0 where
  Instructions : Part
  Folded : Part
  Conditions : Part

-- parts under the open blocks' labels, whose inner sequences are numbered from a number on
abbrev pub Parts : Type 0
Parts = Part → Labels → ℕ → Form Sequence

-- no form goes on with this word, or it is outside
abbrev pub no_instruction : {A : Type 0} → Form A
no_instruction = do
  w ← next_word
  if begins_outside w || holds_outside w then outside else want

-- ---- blocks, as they stand

abbrev pub block : (ℕ → ℕ → Written) → Parts → Labels → ℕ → Form Sequence
block made parts labels k = do
  _ ← pass
  own ← maybe_id
  ty ← block_use
  body ← parts Instructions (own ∷ labels) (k + 1)
  _ ← keyword (codes "end")
  _ ← label_again own
  gives (block_with (made ty k) body)

-- what follows an if's first sequence: `else` and a second one, or none
abbrev pub second_part : Parts → Option Id → Labels → ℕ → Form Sequence
second_part parts own labels k = do
  _ ← pass
  _ ← label_again own
  parts Instructions (own ∷ labels) (k + 1)

abbrev pub maybe_else : Parts → Option Id → Labels → ℕ → Form Sequence
maybe_else parts own labels k = do
  w ← next_word
  if bytes_eq w (codes "else") then second_part parts own labels k else gives no_instrs

abbrev pub if_block : Parts → Labels → ℕ → Form Sequence
if_block parts labels k = do
  _ ← pass
  own ← maybe_id
  ty ← block_use
  first ← parts Instructions (own ∷ labels) (k + 1)
  second ← maybe_else parts own labels (k + length (all_of first))
  _ ← keyword (codes "end")
  _ ← label_again own
  gives (if_with no_instrs (written.If ty k (k + length (all_of first))) first second)

abbrev pub plain : Labels → Keyword → Form Sequence
plain labels word = do
  _ ← pass
  i ← operands labels word
  gives (alone i)

abbrev pub unfolded_of : Parts → Labels → ℕ → Option Keyword → Form Sequence
unfolded_of parts labels k None = no_instruction
unfolded_of parts labels k (Some Block) = block written.Block parts labels k
unfolded_of parts labels k (Some Loop) = block written.Loop parts labels k
unfolded_of parts labels k (Some If) = if_block parts labels k
unfolded_of parts labels k (Some word) = plain labels word

-- ---- folded instructions

abbrev pub folded_block : (ℕ → ℕ → Written) → Parts → Labels → ℕ → Form Sequence
folded_block made parts labels k = do
  _ ← pass
  own ← maybe_id
  ty ← block_use
  body ← parts Instructions (own ∷ labels) (k + 1)
  _ ← closing
  gives (block_with (made ty k) body)

abbrev pub folded_else : Parts → Option Id → Labels → ℕ → Form Sequence
folded_else parts own labels k = do
  _ ← pass_two
  second ← parts Instructions (own ∷ labels) (k + 1)
  _ ← closing
  _ ← closing
  gives second

abbrev pub no_else : Form Sequence
no_else = do
  _ ← parts_end
  gives no_instrs

abbrev pub maybe_folded_else : Parts → Option Id → Labels → ℕ → Form Sequence
maybe_folded_else parts own labels k = do
  there ← opens (codes "else")
  if there then folded_else parts own labels k else no_else

-- the two sequences; the label isn't open in the conditions before them
abbrev pub folded_branches : Parts → Option Id → Labels → ℕ → ℕ → Sequence → Form Sequence
folded_branches parts own labels k ty conditions = do
  _ ← opening
  _ ← keyword (codes "then")
  first ← parts Instructions (own ∷ labels) (k + 1)
  _ ← closing
  second ← maybe_folded_else parts own labels (k + length (all_of first))
  gives (if_with conditions (written.If ty k (k + length (all_of first))) first second)

abbrev pub folded_if : Parts → Labels → ℕ → Form Sequence
folded_if parts labels k = do
  _ ← pass
  own ← maybe_id
  ty ← block_use
  conditions ← parts Conditions labels k
  folded_branches parts own labels (k + length conditions.inside) ty conditions

abbrev pub folded_plain : Parts → Labels → ℕ → Keyword → Form Sequence
folded_plain parts labels k word = do
  _ ← pass
  i ← operands labels word
  before ← parts Folded labels k
  _ ← closing
  gives (joined before (alone i))

abbrev pub folded_of : Parts → Labels → ℕ → Option Keyword → Form Sequence
folded_of parts labels k None = no_instruction
folded_of parts labels k (Some Block) = folded_block written.Block parts labels k
folded_of parts labels k (Some Loop) = folded_block written.Loop parts labels k
folded_of parts labels k (Some If) = folded_if parts labels k
folded_of parts labels k (Some word) = folded_plain parts labels k word

abbrev pub folded : Parts → Labels → ℕ → Form Sequence
folded parts labels k = do
  _ ← opening
  w ← next_word
  folded_of parts labels k (keyword_of w)

abbrev pub unfolded : Parts → Labels → ℕ → Form Sequence
unfolded parts labels k = do
  w ← next_word
  unfolded_of parts labels k (keyword_of w)

-- ---- all together

-- `else` and `end` end a sequence
abbrev pub ends_sequence : List ℕ → Bool
ends_sequence w = bytes_eq w (codes "end") || bytes_eq w (codes "else")

-- whether one more comes: a folded instruction, or the word of one
abbrev pub more_of : Part → Form Bool
more_of Instructions = do
  opened ← next_is is_open
  word ← next_is is_word
  w ← next_word
  gives (opened || (word && not (ends_sequence w)))
more_of Folded = next_is is_open
more_of Conditions = do
  opened ← next_is is_open
  ends ← opens (codes "then")
  gives (opened && not ends)

abbrev pub one_of : Parts → Part → Labels → ℕ → Form Sequence
one_of parts Instructions labels k = do
  opened ← next_is is_open
  if opened then folded parts labels k else unfolded parts labels k
one_of parts Folded labels k = folded parts labels k
one_of parts Conditions labels k = folded parts labels k

-- Parts by approximations: fewer than n stand in one another and one after another.
abbrev pub parts_below : ℕ → Parts
parts_below zero part labels k = fails NoMemory
parts_below (suc n) part labels k = do
  more ← more_of part
  if more
      then (one_of (parts_below n) part labels k >>= (λ one. parts_below n part labels (k + length one.inside) >>= (λ rest. gives (joined one rest))))
      else gives no_instrs

-- Each takes a token, so as many as there are tokens, and one more, are enough.
abbrev pub enough : Rest → ℕ
enough r = suc (length r.tokens)

abbrev pub expr_of : Sequence → WrittenExpr
expr_of s = record { seqs = all_of s }

-- instructions as an expression
abbrev pub instructions_here : Parts → Form WrittenExpr
instructions_here parts = do
  s ← parts Instructions [] 1
  gives (expr_of s)

unfoldable pub instructions : Form WrittenExpr
instructions r = instructions_here (parts_below (enough r)) r

-- one folded instruction as an expression
abbrev pub one_folded_here : Parts → Form WrittenExpr
one_folded_here parts = do
  s ← folded parts [] 1
  gives (expr_of s)

unfoldable pub one_folded : Form WrittenExpr
one_folded r = one_folded_here (parts_below (enough r)) r
