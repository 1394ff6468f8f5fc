-- The report of an exploration, as the bytes that are printed:
--
--     owi report 2
--     export NAME args LIST steps S forks F conflicts C
--     path CHOICES KIND input LIST
--     term K OP OPERAND ..
--     result LIST
--     paths P found M
--
-- with a line `path` for each row, without its input where the row is undecided or void. A row that returns goes on with a line
-- `term` for each of its lines of terms, K from 1, and the line `result`. S, F, C, P, M and K are decimal numbers. A text is the
-- list of its bytes. The format is this project's own.
use Rattle.std.specs.Prelude.{ℕ, ◌+◌, ◌/◌, ◌%◌, Bool, true, false, not, ◌==◌, ◌&&◌, nat_le, bytes_eq, if◌then◌else◌, List, [], ◌∷◌, ◌++◌, length, Some, None, map, flat_map, count_by, codes, decimal}
use Rattle.std.specs.List.{join_with_byte}
use Rattle.std.specs.Fmt.{digit_glyph}
use Rattle.wasm_ast.specs.declared.runs.Value.{Value}
use Rattle.wasm_ast.specs.declared.runs.Value.TheVariants.{I32, I64, Func, Extern}
use Rattle.wasm_ast.specs.declared.runs.Cause.{Cause}
use Rattle.wasm_ast.specs.declared.runs.Cause.TheVariants.{Unreachable, DivZero, Overflow, Memory, Table, Undefined, Uninitialized, Mismatch}
use Rattle.wasm_ast.specs.declared.runs.Draw.{Draw}
use Rattle.wasm_text.specs.Words.{word_of}
use Rattle.fork_tree.specs.declared.rows.Bounds.{Bounds}
use Rattle.fork_tree.specs.declared.rows.Kind.{Kind}
use Rattle.fork_tree.specs.declared.rows.Kind.TheVariants.{Returns, Traps, Fails, Bound, Deep, Cut, Undecided, Void}
use Rattle.fork_tree.specs.declared.rows.Operand.{Operand}
use Rattle.fork_tree.specs.declared.rows.Operand.TheVariants as operand
use Rattle.fork_tree.specs.declared.rows.LineOp.{LineOp}
use Rattle.fork_tree.specs.declared.rows.LineOp.TheVariants.{Op, Choose, Byte, Join}
use Rattle.fork_tree.specs.declared.rows.Line.{Line}
use Rattle.fork_tree.specs.declared.rows.Shown.{Shown}
use Rattle.fork_tree.specs.declared.rows.Shown.TheVariants as shown
use Rattle.fork_tree.specs.declared.rows.Terms.{Terms}
use Rattle.fork_tree.specs.declared.rows.Row.{Row}
use Rattle.path_report.specs.declared.heads.Head.{Head}

-- a text as a line
abbrev pub line : List ℕ → List ℕ
line text = text ++ codes "\n"

-- ---- names

-- a byte that stands for itself: one from `!` to `~`, but for the backslash
abbrev pub is_plain : ℕ → Bool
is_plain byte = nat_le 0x21 byte && nat_le byte 0x7E && not (byte == 0x5C)

-- a byte of a name: itself, or a backslash and two hexadecimal digits, in lower case
abbrev pub name_byte : ℕ → List ℕ
name_byte byte =
    if is_plain byte then byte ∷ []
    else codes "\\" ++ digit_glyph false (byte / 16) ∷ digit_glyph false (byte % 16) ∷ []

-- the empty name is `-`, so the name `-` is escaped
abbrev pub name_text : List ℕ → List ℕ
name_text [] = codes "-"
name_text name = if bytes_eq name (codes "-") then codes "\\2d" else flat_map name_byte name

-- ---- values and lists

-- the type of a value and its number, unsigned; a reference names a function by its index, or is null
abbrev pub value_text : Value → List ℕ
value_text (I32 n) = codes "i32:" ++ decimal n
value_text (I64 n) = codes "i64:" ++ decimal n
value_text (Func None) = codes "funcref:null"
value_text (Func (Some n)) = codes "funcref:" ++ decimal n
value_text Extern = codes "externref:null"

-- the number that a symbol took, as a value of the symbol's width
abbrev pub draw_value : Draw → Value
draw_value draw = if draw.wide then I64 draw.value else I32 draw.value

abbrev pub draw_text : Draw → List ℕ
draw_text draw = value_text (draw_value draw)

-- texts with single spaces between them, or `-` where there is none
abbrev pub list_text : List (List ℕ) → List ℕ
list_text [] = codes "-"
list_text texts = join_with_byte 32 texts

-- the sides of a path, each a digit 0 or 1, or `-` where there is none
abbrev pub choices_text : List ℕ → List ℕ
choices_text [] = codes "-"
choices_text choices = flat_map decimal choices

-- ---- rows

-- why a path traps
abbrev pub cause_text : Cause → List ℕ
cause_text Unreachable = codes "unreachable"
cause_text DivZero = codes "integer divide by zero"
cause_text Overflow = codes "integer overflow"
cause_text Memory = codes "out of bounds memory access"
cause_text Table = codes "out of bounds table access"
cause_text Undefined = codes "undefined element"
cause_text Uninitialized = codes "uninitialized element"
cause_text Mismatch = codes "indirect call type mismatch"

-- how a path ends
abbrev pub kind_text : Kind → List ℕ
kind_text (Returns values) = codes "returns " ++ list_text (map value_text values)
kind_text (Traps cause) = codes "traps " ++ cause_text cause
kind_text Fails = codes "fails"
kind_text Bound = codes "bound"
kind_text Deep = codes "deep"
kind_text Cut = codes "cut"
kind_text Undecided = codes "undecided"
kind_text Void = codes "void"

-- the input of a row: a value for each symbol; undecided and void rows have none
abbrev pub input_text : Kind → List Draw → List ℕ
input_text Undecided draws = []
input_text Void draws = []
input_text kind draws = codes " input " ++ list_text (map draw_text draws)

-- the line `path` of a row, without its line feed
abbrev pub path_text : Row → List ℕ
path_text row =
    codes "path " ++ choices_text row.choices ++ codes " " ++ kind_text row.kind
    ++ input_text row.kind row.draws

-- ---- terms

-- a number; a symbol by its number, from 0; an earlier line by its number, from 1
abbrev pub operand_text : Operand → List ℕ
operand_text (operand.Number n) = decimal n
operand_text (operand.Symbol k) = codes "s" ++ decimal k
operand_text (operand.Line k) = codes "t" ++ decimal k

-- the operation of a line: the instruction's word, a choice, a byte by its place, the join of bytes to 64 or to 32 bits
abbrev pub op_text : LineOp → List ℕ
op_text (Op op) = word_of op
op_text Choose = codes "choose"
op_text (Byte i) = codes "byte" ++ decimal i
op_text (Join true) = codes "join64"
op_text (Join false) = codes "join32"

-- the line of a term by its number
abbrev pub term_text : ℕ → Line → List ℕ
term_text k term =
    line (codes "term " ++ decimal k ++ codes " " ++ op_text term.op ++ flat_map (λ arg. 32 ∷ operand_text arg) term.args)

-- the lines of terms, numbered from k on
abbrev pub term_lines : ℕ → List Line → List ℕ
term_lines k [] = []
term_lines k (term ∷ rest) = term_text k term ++ term_lines (k + 1) rest

-- a result: its type and its operand; a reference names a function by its index, or is null
abbrev pub shown_text : Shown → List ℕ
shown_text (shown.I32 arg) = codes "i32:" ++ operand_text arg
shown_text (shown.I64 arg) = codes "i64:" ++ operand_text arg
shown_text (shown.Func None) = codes "funcref:null"
shown_text (shown.Func (Some n)) = codes "funcref:" ++ decimal n
shown_text shown.Extern = codes "externref:null"

-- what a row that returns goes on with; other rows have no such lines
abbrev pub terms_text : Kind → Terms → List ℕ
terms_text (Returns values) terms =
    term_lines 1 terms.lines ++ line (codes "result " ++ list_text (map shown_text terms.results))
terms_text kind terms = []

-- the lines of a row
abbrev pub row_text : Row → List ℕ
row_text row = line (path_text row) ++ terms_text row.kind row.terms

-- ---- the report

-- a row that is counted as found: it traps or fails
abbrev pub is_found : Row → Bool
is_found row = found row.kind
  where
    found : Kind → Bool
    found (Traps cause) = true
    found Fails = true
    found kind = false

-- the bounds of the exploration
abbrev pub bounds_text : Bounds → List ℕ
bounds_text bounds =
    codes "steps " ++ decimal bounds.steps ++ codes " forks " ++ decimal bounds.forks
    ++ codes " conflicts " ++ decimal bounds.conflicts

-- the first two lines
abbrev pub head_text : Head → List ℕ
head_text head =
    line (codes "owi report 2")
    ++ line (codes "export " ++ name_text head.name ++ codes " args " ++ list_text (map value_text head.args)
    ++ codes " " ++ bounds_text head.bounds)

-- the last line: how many rows there are, and how many are found
abbrev pub counts_text : List Row → List ℕ
counts_text rows =
    line (codes "paths " ++ decimal (length rows) ++ codes " found " ++ decimal (count_by is_found rows))

-- the whole report
abbrev pub report_of : Head → List Row → List ℕ
report_of head rows = head_text head ++ flat_map row_text rows ++ counts_text rows
