-- What a text spells is one thing: a module, or a first trouble.
use Rattle.std.proofs.Common.{◌≡◌, ℕ, ◌<◌, ◌^◌, ◌⊎◌, inl, inr, List, length, suc, true, false, Option, Some, None, Result, Ok, Err, refl, sym, ap, subst, ◌∙◌, arith, IsUtf8}
use Rattle.wasm_ast.specs.declared.modules.Module.{Module}
use Rattle.wasm_text.specs.declared.tokens.Token.{Token}
use Rattle.wasm_text.specs.declared.tokens.LexBad.{LexBad}
use Rattle.wasm_text.specs.declared.bad.TextBad.{TextBad}
use Rattle.wasm_text.specs.declared.bad.TextBad.TheVariants.{NoMemory}
use Rattle.wasm_text.specs.declared.named.Named.{Named}
use Rattle.wasm_text.specs.NameTroubles.{troubles, least, unless}
use Rattle.wasm_text.specs.Resolved.{scope_of, module_in}
use Rattle.wasm_text.specs.TextFields.{module_form}
use Rattle.wasm_text.specs.TokenForms.{Rest}
use Rattle.wasm_text.proofs.FormLaws.{is_memory, Keeps}
use Rattle.wasm_text.proofs.FieldMoves.{module_moves}
use Rattle.wasm_text.proofs.NameLaws.{IsTold, least_told, troubles_told}
use Rattle.wasm_text.specs.Texts.{at_start, then_resolved, spelled, Reads, IsText, TextFault}
use Rattle.wasm_text.proofs.TokenLaws.{some_tokens, same_tokens}

pub reads_once : (text : List ℕ) (a b : Result Module TextBad) → Reads text a → Reads text b → a ≡ b
reads_once text a b p q =
    let same = same_tokens text 0 p.tokens q.tokens p.bad q.bad p.are q.are in
    sym p.is ∙ ap (λ (ts : List Token). spelled text ts p.bad) same.tokens ∙ ap (λ (d : Option LexBad). spelled text q.tokens d) same.bad ∙ q.is

pub same_module : (m n : Module) → (let r : Result Module TextBad = Ok m in r) ≡ Ok n → m ≡ n
same_module m n e = cc

pub same_fault : (a b : TextBad) → (let r : Result Module TextBad = Err a in r) ≡ Err b → a ≡ b
same_fault a b e = cc

pub not_both : (m : Module) (bad : TextBad) → (let r : Result Module TextBad = Ok m in r) ≡ Err bad → ⊥
not_both m bad e = absurd cc

-- what it reads
pub reads_some : (text : List ℕ) → (result : Result Module TextBad) × Reads text result
reads_some text =
    let all = some_tokens (length text) text 0 (omega arith) (omega arith) in
    (spelled text all.tokens all.bad, record { tokens = all.tokens; bad = all.bad; are = all.are; is = refl })

by_result : (text : List ℕ) (result : Result Module TextBad) → IsUtf8 text → length text < 2 ^ 32 → Reads text result → ((m : Module) × IsText m text) ⊎ ((bad : TextBad) × TextFault text bad)
by_result text (Ok m) utf8 short reads = inl (m, record { utf8 = utf8; short = short; reads = reads })
by_result text (Err bad) utf8 short reads = inr (bad, record { utf8 = utf8; reads = reads })

pub decided : (text : List ℕ) → IsUtf8 text → length text < 2 ^ 32 → ((m : Module) × IsText m text) ⊎ ((bad : TextBad) × TextFault text bad)
decided text utf8 short = let some = reads_some text in by_result text some.0 utf8 short some.1

-- ---- want of memory is no text's trouble

told_unless : (m : Module) (found : Option TextBad) (bad : TextBad) → IsTold found → unless m found ≡ Err bad → is_memory bad ≡ false
told_unless m None bad h e = absurd cc
told_unless m (Some why) bad h e = let same : why ≡ bad = cc in subst (λ w. is_memory w ≡ false) same h

err_is : (text : List ℕ) (why bad : TextBad) → then_resolved text (Err why) ≡ Err bad → why ≡ bad
err_is text why bad e = cc

told_then : (text : List ℕ) (tokens : List Token) (res : Result (Named × Rest) TextBad) (bad : TextBad) → Keeps 0 tokens res → then_resolved text res ≡ Err bad → is_memory bad ≡ false
told_then text tokens (Ok read) bad h e =
    let s = scope_of text read.0 read.1.uses in
    told_unless (module_in s read.0) (least (troubles s read.0)) bad (least_told (troubles s read.0) (troubles_told s read.0)) e
told_then text tokens (Err why) bad h e = let same : why ≡ bad = err_is text why bad e in subst (λ w. is_memory w ≡ false) same h

pub fault_told : (text : List ℕ) (bad : TextBad) → TextFault text bad → is_memory bad ≡ false
fault_told text bad f =
    let start = at_start text f.reads.tokens f.reads.bad in
    told_then text start.tokens (module_form start) bad ((module_moves (suc (length start.tokens))).each start (omega arith)) f.reads.is

pub no_want_of_memory : (text : List ℕ) → TextFault text NoMemory → ⊥
no_want_of_memory text f = let no : true ≡ false = fault_told text NoMemory f in absurd cc
