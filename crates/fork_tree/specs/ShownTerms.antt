-- The results of a path as they are shown: the terms below them as numbered lines, each once and after its operands.
use Rattle.std.specs.Prelude.{ℕ, ◌+◌, if◌then◌else◌, List, [], ◌∷◌, ◌++◌, map}
use Rattle.std.specs.List.{list_any}
use Rattle.bv_terms.specs.Terms.{Term, Number, Symbol, Unary, Binary, Choose, Byte, Join, Bytes, NoBytes, Then, is_same}
use Rattle.wasm_reduction.specs.Configurations.{Value, I32, I64, Ref, FuncRef, ExternRef}
use Rattle.fork_tree.specs.declared.rows.Operand.{Operand}
use Rattle.fork_tree.specs.declared.rows.Operand.TheVariants as operand
use Rattle.fork_tree.specs.declared.rows.LineOp.{LineOp}
use Rattle.fork_tree.specs.declared.rows.LineOp.TheVariants as op_of
use Rattle.fork_tree.specs.declared.rows.Line.{Line}
use Rattle.fork_tree.specs.declared.rows.Shown.{Shown}
use Rattle.fork_tree.specs.declared.rows.Shown.TheVariants as shown
use Rattle.fork_tree.specs.declared.rows.Terms.{Terms}

-- ---- which terms are lines

-- a term is a line after others where it isn't one yet
abbrev pub once_after : List Term → Term → List Term
once_after others t = if list_any (is_same t) others then others else others ++ t ∷ []

-- The lines so far, and then a term and the terms below it that are neither numbers nor symbols: each after its operands, which
-- go from left to right.
abbrev mutual
  pub lines_with : Term → List Term → List Term
  lines_with (Number n) others = others
  lines_with (Symbol k wide) others = others
  lines_with (Unary op a) others = once_after (lines_with a others) (Unary op a)
  lines_with (Binary op a b) others = once_after (lines_with b (lines_with a others)) (Binary op a b)
  lines_with (Choose wide c a b) others = once_after (lines_with b (lines_with a (lines_with c others))) (Choose wide c a b)
  lines_with (Byte a i) others = once_after (lines_with a others) (Byte a i)
  lines_with (Join wide bytes) others = once_after (lines_with_bytes bytes others) (Join wide bytes)

  pub lines_with_bytes : Bytes → List Term → List Term
  lines_with_bytes NoBytes others = others
  lines_with_bytes (Then t rest) others = lines_with_bytes rest (lines_with t others)

-- the lines of results, from the first on
abbrev pub lines_of : List (Value Term) → List Term → List Term
lines_of [] others = others
lines_of (I32 t ∷ rest) others = lines_of rest (lines_with t others)
lines_of (I64 t ∷ rest) others = lines_of rest (lines_with t others)
lines_of (Ref r ∷ rest) others = lines_of rest others

-- ---- how they are written

-- the number of a term's line, from k on
abbrev pub line_from : ℕ → List Term → Term → ℕ
line_from k [] t = k
line_from k (line ∷ rest) t = if is_same t line then k else line_from (k + 1) rest t

abbrev pub operand_of : List Term → Term → Operand
operand_of lines (Number n) = operand.Number n
operand_of lines (Symbol k wide) = operand.Symbol k
operand_of lines t = operand.Line (line_from 1 lines t)

abbrev pub operands_of : List Term → Bytes → List Operand
operands_of lines NoBytes = []
operands_of lines (Then t rest) = operand_of lines t ∷ operands_of lines rest

abbrev pub line : LineOp → List Operand → Line
line op args = record { op = op; args = args }

abbrev pub line_of : List Term → Term → Line
line_of lines (Unary op a) = line (op_of.Op op) (operand_of lines a ∷ [])
line_of lines (Binary op a b) = line (op_of.Op op) (operand_of lines a ∷ operand_of lines b ∷ [])
line_of lines (Choose wide c a b) = line op_of.Choose (operand_of lines c ∷ operand_of lines a ∷ operand_of lines b ∷ [])
line_of lines (Byte a i) = line (op_of.Byte i) (operand_of lines a ∷ [])
line_of lines (Join wide bytes) = line (op_of.Join wide) (operands_of lines bytes)
line_of lines t = line op_of.Choose []

abbrev pub shown_value : List Term → Value Term → Shown
shown_value lines (I32 t) = shown.I32 (operand_of lines t)
shown_value lines (I64 t) = shown.I64 (operand_of lines t)
shown_value lines (Ref (FuncRef f)) = shown.Func f
shown_value lines (Ref ExternRef) = shown.Extern

abbrev pub shown_by : List Term → List (Value Term) → Terms
shown_by lines results = record { lines = map (line_of lines) lines; results = map (shown_value lines) results }

-- the shown terms of results
abbrev pub shown_terms : List (Value Term) → Terms
shown_terms results = shown_by (lines_of results []) results

-- what is shown of a path that doesn't return
abbrev pub no_terms : Terms
no_terms = record { lines = []; results = [] }
