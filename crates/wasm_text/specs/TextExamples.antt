-- Small texts and what they are: modules, and first troubles.
use Rattle.std.specs.Prelude.{ℕ, List, [], ◌∷◌, None, codes}
use Rattle.wasm_ast.specs.declared.modules.Module.{Module}
use Rattle.wasm_text.specs.declared.tokens.Token.{Token}
use Rattle.wasm_text.specs.declared.tokens.TokenKind.TheVariants.{Open, Close, Str, Word}
use Rattle.wasm_text.specs.Examples.{at_places}

-- a module with nothing in it
abbrev pub empty_module : Module
empty_module = record { types = []; imports = []; funcs = []; tables = []; memories = []; globals = []; exports = []; start = None; elems = []; segments = []; customs = [] }

abbrev pub nothing_text : List ℕ
nothing_text = codes ""

abbrev pub nothing_tokens : List Token
nothing_tokens = []

abbrev pub fields_and_index_text : List ℕ
fields_and_index_text = codes "(func $f (result i32) i32.const 7)(export \"f\" (func $f))"

abbrev pub fields_and_index_tokens : List Token
fields_and_index_tokens = at_places Open 0 1 ∷ at_places Word 1 5 ∷ at_places Word 6 8 ∷ at_places Open 9 10 ∷ at_places Word 10 16 ∷ at_places Word 17 20 ∷ at_places Close 20 21 ∷ at_places Word 22 31 ∷ at_places Word 32 33 ∷ at_places Close 33 34 ∷ at_places Open 34 35 ∷ at_places Word 35 41 ∷ at_places Str 42 45 ∷ at_places Open 46 47 ∷ at_places Word 47 51 ∷ at_places Word 52 54 ∷ at_places Close 54 55 ∷ at_places Close 55 56 ∷ []

abbrev pub folded_sum_text : List ℕ
folded_sum_text = codes "(module (func (export \"f\") (result i32) (i32.add (i32.const 2) (i32.const 3))))"

abbrev pub folded_sum_tokens : List Token
folded_sum_tokens = at_places Open 0 1 ∷ at_places Word 1 7 ∷ at_places Open 8 9 ∷ at_places Word 9 13 ∷ at_places Open 14 15 ∷ at_places Word 15 21 ∷ at_places Str 22 25 ∷ at_places Close 25 26 ∷ at_places Open 27 28 ∷ at_places Word 28 34 ∷ at_places Word 35 38 ∷ at_places Close 38 39 ∷ at_places Open 40 41 ∷ at_places Word 41 48 ∷ at_places Open 49 50 ∷ at_places Word 50 59 ∷ at_places Word 60 61 ∷ at_places Close 61 62 ∷ at_places Open 63 64 ∷ at_places Word 64 73 ∷ at_places Word 74 75 ∷ at_places Close 75 76 ∷ at_places Close 76 77 ∷ at_places Close 77 78 ∷ at_places Close 78 79 ∷ []

abbrev pub sum_tokens : List Token
sum_tokens = at_places Open 0 1 ∷ at_places Word 1 7 ∷ at_places Open 10 11 ∷ at_places Word 11 15 ∷ at_places Open 16 17 ∷ at_places Word 17 21 ∷ at_places Open 22 23 ∷ at_places Word 23 29 ∷ at_places Word 30 33 ∷ at_places Close 33 34 ∷ at_places Close 34 35 ∷ at_places Close 35 36 ∷ at_places Open 39 40 ∷ at_places Word 40 44 ∷ at_places Open 45 46 ∷ at_places Word 46 50 ∷ at_places Word 51 52 ∷ at_places Close 52 53 ∷ at_places Word 58 67 ∷ at_places Word 68 69 ∷ at_places Word 74 83 ∷ at_places Word 84 85 ∷ at_places Word 90 97 ∷ at_places Close 100 101 ∷ at_places Open 104 105 ∷ at_places Word 105 111 ∷ at_places Str 112 115 ∷ at_places Open 116 117 ∷ at_places Word 117 121 ∷ at_places Word 122 123 ∷ at_places Close 123 124 ∷ at_places Close 124 125 ∷ at_places Close 126 127 ∷ []

abbrev pub word_after_parenthesis_text : List ℕ
word_after_parenthesis_text = codes "(i32.add)"

abbrev pub word_after_parenthesis_tokens : List Token
word_after_parenthesis_tokens = at_places Open 0 1 ∷ at_places Word 1 8 ∷ at_places Close 8 9 ∷ []

abbrev pub cut_short_text : List ℕ
cut_short_text = codes "(func"

abbrev pub cut_short_tokens : List Token
cut_short_tokens = at_places Open 0 1 ∷ at_places Word 1 5 ∷ []

abbrev pub floating_point_text : List ℕ
floating_point_text = codes "(func f32.add)"

abbrev pub floating_point_tokens : List Token
floating_point_tokens = at_places Open 0 1 ∷ at_places Word 1 5 ∷ at_places Word 6 13 ∷ at_places Close 13 14 ∷ []

abbrev pub floating_operand_text : List ℕ
floating_operand_text = codes "(func (i32.eqz f32.add))"

abbrev pub floating_operand_tokens : List Token
floating_operand_tokens = at_places Open 0 1 ∷ at_places Word 1 5 ∷ at_places Open 6 7 ∷ at_places Word 7 14 ∷ at_places Word 15 22 ∷ at_places Close 22 23 ∷ at_places Close 23 24 ∷ []

abbrev pub too_large_text : List ℕ
too_large_text = codes "(func i32.const 4294967296)"

abbrev pub too_large_tokens : List Token
too_large_tokens = at_places Open 0 1 ∷ at_places Word 1 5 ∷ at_places Word 6 15 ∷ at_places Word 16 26 ∷ at_places Close 26 27 ∷ []

abbrev pub too_large_with_sign_text : List ℕ
too_large_with_sign_text = codes "(func i32.const +2147483648)"

abbrev pub too_large_with_sign_tokens : List Token
too_large_with_sign_tokens = at_places Open 0 1 ∷ at_places Word 1 5 ∷ at_places Word 6 15 ∷ at_places Word 16 27 ∷ at_places Close 27 28 ∷ []

abbrev pub late_import_text : List ℕ
late_import_text = codes "(memory 1)(import \"a\" \"b\" (func))"

abbrev pub late_import_tokens : List Token
late_import_tokens = at_places Open 0 1 ∷ at_places Word 1 7 ∷ at_places Word 8 9 ∷ at_places Close 9 10 ∷ at_places Open 10 11 ∷ at_places Word 11 17 ∷ at_places Str 18 21 ∷ at_places Str 22 25 ∷ at_places Open 26 27 ∷ at_places Word 27 31 ∷ at_places Close 31 32 ∷ at_places Close 32 33 ∷ []

abbrev pub other_label_text : List ℕ
other_label_text = codes "(func block $a end $b)"

abbrev pub other_label_tokens : List Token
other_label_tokens = at_places Open 0 1 ∷ at_places Word 1 5 ∷ at_places Word 6 11 ∷ at_places Word 12 14 ∷ at_places Word 15 18 ∷ at_places Word 19 21 ∷ at_places Close 21 22 ∷ []

abbrev pub unknown_function_text : List ℕ
unknown_function_text = codes "(start $f)"

abbrev pub unknown_function_tokens : List Token
unknown_function_tokens = at_places Open 0 1 ∷ at_places Word 1 6 ∷ at_places Word 7 9 ∷ at_places Close 9 10 ∷ []

abbrev pub second_start_text : List ℕ
second_start_text = codes "(func)(start 0)(start 0)"

abbrev pub second_start_tokens : List Token
second_start_tokens = at_places Open 0 1 ∷ at_places Word 1 5 ∷ at_places Close 5 6 ∷ at_places Open 6 7 ∷ at_places Word 7 12 ∷ at_places Word 13 14 ∷ at_places Close 14 15 ∷ at_places Open 15 16 ∷ at_places Word 16 21 ∷ at_places Word 22 23 ∷ at_places Close 23 24 ∷ []

abbrev pub same_name_text : List ℕ
same_name_text = codes "(func $f)(func $f)"

abbrev pub same_name_tokens : List Token
same_name_tokens = at_places Open 0 1 ∷ at_places Word 1 5 ∷ at_places Word 6 8 ∷ at_places Close 8 9 ∷ at_places Open 9 10 ∷ at_places Word 10 14 ∷ at_places Word 15 17 ∷ at_places Close 17 18 ∷ []

abbrev pub other_params_text : List ℕ
other_params_text = codes "(type (func))(func (type 0) (param i32))"

abbrev pub other_params_tokens : List Token
other_params_tokens = at_places Open 0 1 ∷ at_places Word 1 5 ∷ at_places Open 6 7 ∷ at_places Word 7 11 ∷ at_places Close 11 12 ∷ at_places Close 12 13 ∷ at_places Open 13 14 ∷ at_places Word 14 18 ∷ at_places Open 19 20 ∷ at_places Word 20 24 ∷ at_places Word 25 26 ∷ at_places Close 26 27 ∷ at_places Open 28 29 ∷ at_places Word 29 34 ∷ at_places Word 35 38 ∷ at_places Close 38 39 ∷ at_places Close 39 40 ∷ []

abbrev pub label_in_condition_text : List ℕ
label_in_condition_text = codes "(func (if $l (br $l) (then)))"

abbrev pub label_in_condition_tokens : List Token
label_in_condition_tokens = at_places Open 0 1 ∷ at_places Word 1 5 ∷ at_places Open 6 7 ∷ at_places Word 7 9 ∷ at_places Word 10 12 ∷ at_places Open 13 14 ∷ at_places Word 14 16 ∷ at_places Word 17 19 ∷ at_places Close 19 20 ∷ at_places Open 21 22 ∷ at_places Word 22 26 ∷ at_places Close 26 27 ∷ at_places Close 27 28 ∷ at_places Close 28 29 ∷ []
