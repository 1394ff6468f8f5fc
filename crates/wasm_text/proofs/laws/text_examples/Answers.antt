use lib.Utf8.{encode}
use Rattle.std.proofs.lemmas.Str.{is_utf8-from_IsUtf8}
use Rattle.std.specs.Str.{is_utf8}
use Rattle.std.proofs.Common.{◌≡◌, [], ◌∷◌, true, refl, arith, None}
use Rattle.wasm_text.specs.Keywords.{keyword_of}
use Rattle.wasm_text.specs.Words.{word_of}
use Rattle.wasm_text.specs.TextInstructions.{instructions, one_folded}
use Rattle.wasm_text.specs.TextFields.{field, module_form}
use Rattle.wasm_text.specs.Examples.{sum_text}
use Rattle.wasm_text.specs.TextExamples.{nothing_text, nothing_tokens, fields_and_index_text, fields_and_index_tokens, folded_sum_text, folded_sum_tokens, sum_tokens, word_after_parenthesis_text, word_after_parenthesis_tokens, cut_short_text, cut_short_tokens, floating_point_text, floating_point_tokens, floating_operand_text, floating_operand_tokens, too_large_text, too_large_tokens, too_large_with_sign_text, too_large_with_sign_tokens, late_import_text, late_import_tokens, other_label_text, other_label_tokens, unknown_function_text, unknown_function_tokens, second_start_text, second_start_tokens, same_name_text, same_name_tokens, other_params_text, other_params_tokens, label_in_condition_text, label_in_condition_tokens}
use Rattle.wasm_text.proofs.laws.text_examples.Goals as goal

-- the name f
name_utf8 : is_utf8 (0x66 ∷ []) ≡ true
unfolding encode
name_utf8 = is_utf8-from_IsUtf8 (0x66 ∷ []) (0x66 ∷ [], (refl, refl))

pub returns-clause-nothing : goal.returns-clause-nothing
unfolding keyword_of word_of instructions one_folded field module_form encode
returns-clause-nothing c = record { utf8 = (nothing_text, (refl, refl)); short = omega arith; reads = record { tokens = nothing_tokens; bad = None; are = refl; is = refl } }

pub returns-clause-fields_and_index : goal.returns-clause-fields_and_index
unfolding keyword_of word_of instructions one_folded field module_form encode
returns-clause-fields_and_index c = record { utf8 = (fields_and_index_text, (refl, refl)); short = omega arith; reads = record { tokens = fields_and_index_tokens; bad = None; are = (refl, (refl, (refl, (refl, (refl, (refl, (refl, (refl, (refl, (refl, (refl, (refl, (refl, (refl, (refl, (refl, (refl, (refl, refl)))))))))))))))))); is = rw name_utf8 refl } }

pub returns-clause-folded_sum : goal.returns-clause-folded_sum
unfolding keyword_of word_of instructions one_folded field module_form encode
returns-clause-folded_sum c = record { utf8 = (folded_sum_text, (refl, refl)); short = omega arith; reads = record { tokens = folded_sum_tokens; bad = None; are = (refl, (refl, (refl, (refl, (refl, (refl, (refl, (refl, (refl, (refl, (refl, (refl, (refl, (refl, (refl, (refl, (refl, (refl, (refl, (refl, (refl, (refl, (refl, (refl, (refl, refl))))))))))))))))))))))))); is = rw name_utf8 refl } }

pub returns-clause-sum : goal.returns-clause-sum
unfolding keyword_of word_of instructions one_folded field module_form encode
returns-clause-sum c = record { utf8 = (sum_text, (refl, refl)); short = omega arith; reads = record { tokens = sum_tokens; bad = None; are = (refl, (refl, (refl, (refl, (refl, (refl, (refl, (refl, (refl, (refl, (refl, (refl, (refl, (refl, (refl, (refl, (refl, (refl, (refl, (refl, (refl, (refl, (refl, (refl, (refl, (refl, (refl, (refl, (refl, (refl, (refl, (refl, (refl, refl))))))))))))))))))))))))))))))))); is = rw name_utf8 refl } }

pub returns-clause-word_after_parenthesis : goal.returns-clause-word_after_parenthesis
unfolding keyword_of word_of instructions one_folded field module_form encode
returns-clause-word_after_parenthesis c = record { utf8 = (word_after_parenthesis_text, (refl, refl)); reads = record { tokens = word_after_parenthesis_tokens; bad = None; are = (refl, (refl, (refl, refl))); is = refl } }

pub returns-clause-cut_short : goal.returns-clause-cut_short
unfolding keyword_of word_of instructions one_folded field module_form encode
returns-clause-cut_short c = record { utf8 = (cut_short_text, (refl, refl)); reads = record { tokens = cut_short_tokens; bad = None; are = (refl, (refl, refl)); is = refl } }

pub returns-clause-floating_point : goal.returns-clause-floating_point
unfolding keyword_of word_of instructions one_folded field module_form encode
returns-clause-floating_point c = record { utf8 = (floating_point_text, (refl, refl)); reads = record { tokens = floating_point_tokens; bad = None; are = (refl, (refl, (refl, (refl, refl)))); is = refl } }

pub returns-clause-floating_operand : goal.returns-clause-floating_operand
unfolding keyword_of word_of instructions one_folded field module_form encode
returns-clause-floating_operand c = record { utf8 = (floating_operand_text, (refl, refl)); reads = record { tokens = floating_operand_tokens; bad = None; are = (refl, (refl, (refl, (refl, (refl, (refl, (refl, refl))))))); is = refl } }

pub returns-clause-too_large : goal.returns-clause-too_large
unfolding keyword_of word_of instructions one_folded field module_form encode
returns-clause-too_large c = record { utf8 = (too_large_text, (refl, refl)); reads = record { tokens = too_large_tokens; bad = None; are = (refl, (refl, (refl, (refl, (refl, refl))))); is = refl } }

pub returns-clause-too_large_with_sign : goal.returns-clause-too_large_with_sign
unfolding keyword_of word_of instructions one_folded field module_form encode
returns-clause-too_large_with_sign c = record { utf8 = (too_large_with_sign_text, (refl, refl)); reads = record { tokens = too_large_with_sign_tokens; bad = None; are = (refl, (refl, (refl, (refl, (refl, refl))))); is = refl } }

pub returns-clause-late_import : goal.returns-clause-late_import
unfolding keyword_of word_of instructions one_folded field module_form encode
returns-clause-late_import c = record { utf8 = (late_import_text, (refl, refl)); reads = record { tokens = late_import_tokens; bad = None; are = (refl, (refl, (refl, (refl, (refl, (refl, (refl, (refl, (refl, (refl, (refl, (refl, refl)))))))))))); is = refl } }

pub returns-clause-other_label : goal.returns-clause-other_label
unfolding keyword_of word_of instructions one_folded field module_form encode
returns-clause-other_label c = record { utf8 = (other_label_text, (refl, refl)); reads = record { tokens = other_label_tokens; bad = None; are = (refl, (refl, (refl, (refl, (refl, (refl, (refl, refl))))))); is = refl } }

pub returns-clause-unknown_function : goal.returns-clause-unknown_function
unfolding keyword_of word_of instructions one_folded field module_form encode
returns-clause-unknown_function c = record { utf8 = (unknown_function_text, (refl, refl)); reads = record { tokens = unknown_function_tokens; bad = None; are = (refl, (refl, (refl, (refl, refl)))); is = refl } }

pub returns-clause-second_start : goal.returns-clause-second_start
unfolding keyword_of word_of instructions one_folded field module_form encode
returns-clause-second_start c = record { utf8 = (second_start_text, (refl, refl)); reads = record { tokens = second_start_tokens; bad = None; are = (refl, (refl, (refl, (refl, (refl, (refl, (refl, (refl, (refl, (refl, (refl, refl))))))))))); is = refl } }

pub returns-clause-same_name : goal.returns-clause-same_name
unfolding keyword_of word_of instructions one_folded field module_form encode
returns-clause-same_name c = record { utf8 = (same_name_text, (refl, refl)); reads = record { tokens = same_name_tokens; bad = None; are = (refl, (refl, (refl, (refl, (refl, (refl, (refl, (refl, refl)))))))); is = refl } }

pub returns-clause-other_params : goal.returns-clause-other_params
unfolding keyword_of word_of instructions one_folded field module_form encode
returns-clause-other_params c = record { utf8 = (other_params_text, (refl, refl)); reads = record { tokens = other_params_tokens; bad = None; are = (refl, (refl, (refl, (refl, (refl, (refl, (refl, (refl, (refl, (refl, (refl, (refl, (refl, (refl, (refl, (refl, (refl, refl))))))))))))))))); is = refl } }

pub returns-clause-label_in_condition : goal.returns-clause-label_in_condition
unfolding keyword_of word_of instructions one_folded field module_form encode
returns-clause-label_in_condition c = record { utf8 = (label_in_condition_text, (refl, refl)); reads = record { tokens = label_in_condition_tokens; bad = None; are = (refl, (refl, (refl, (refl, (refl, (refl, (refl, (refl, (refl, (refl, (refl, (refl, (refl, (refl, refl)))))))))))))); is = refl } }
