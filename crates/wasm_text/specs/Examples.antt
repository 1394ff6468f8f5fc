-- Small texts, whose tokens and modules are known.
use Rattle.std.specs.Prelude.{ℕ, List, [], ◌∷◌, ◌++◌, codes}
use Rattle.wasm_ast.specs.declared.instructions.Instr.TheVariants.{Const32, Const64, Num}
use Rattle.wasm_ast.specs.declared.modules.Module.{Module}
use Rattle.wasm_ast.specs.Straight.{straight_module}
use Rattle.wasm_text.specs.declared.tokens.Token.{Token}
use Rattle.wasm_text.specs.declared.tokens.TokenKind.{TokenKind}
use Rattle.wasm_text.specs.declared.tokens.TokenKind.TheVariants.{Open, Close, Str, Word}
use Rattle.wasm_text.specs.declared.tokens.LexBad.{LexBad}
use Rattle.wasm_text.specs.declared.tokens.LexReason.TheVariants.{Char, OpenComment}

abbrev pub at_places : TokenKind → ℕ → ℕ → Token
at_places kind start end = record { kind = kind; start = start; end = end }

-- words, parentheses and a comment
abbrev pub words_text : List ℕ
words_text = codes "(a $b(;;))"

abbrev pub words_tokens : List Token
words_tokens = at_places Open 0 1 ∷ at_places Word 1 2 ∷ at_places Word 3 5 ∷ at_places Close 9 10 ∷ []

-- a word and a string that adjoin, and a character that begins no token
abbrev pub adjoining_text : List ℕ
adjoining_text = codes "a\"b\","

abbrev pub adjoining_tokens : List Token
adjoining_tokens = at_places Word 0 1 ∷ at_places Str 1 4 ∷ []

abbrev pub adjoining_trouble : LexBad
adjoining_trouble = record { reason = Char; at = 4 }

-- comments that nest, the outermost of which isn't closed
abbrev pub open_comment_text : List ℕ
open_comment_text = codes "(;(;;)"

abbrev pub open_comment_trouble : LexBad
open_comment_trouble = record { reason = OpenComment; at = 0 }

-- the module that adds 2 and 3
abbrev pub sum_module : Module
sum_module = straight_module (0x66 ∷ []) (Const32 2 ∷ Const32 3 ∷ Num 0x6A ∷ [])

abbrev pub sum_text : List ℕ
sum_text =
    codes "(module\n  (type (func (result i32)))\n  (func (type 0)\n" ++ codes "    i32.const 2\n    i32.const 3\n    i32.add\n  )\n"
    ++ codes "  (export \"f\" (func 0))\n)\n"

-- the least constants
abbrev pub least_module : Module
least_module = straight_module [] (Const32 0x8000_0000 ∷ Const64 0x8000_0000_0000_0000 ∷ [])

abbrev pub least_text : List ℕ
least_text =
    codes "(module\n  (type (func (result i32)))\n  (func (type 0)\n" ++ codes "    i32.const -2147483648\n    i64.const -9223372036854775808\n  )\n"
    ++ codes "  (export \"\" (func 0))\n)\n"
