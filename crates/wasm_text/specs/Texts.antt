-- Which texts are those of which modules, and the first trouble of those that are of none (Text Format).
--
-- Three layers are put together: characters to tokens (Lexing), tokens to a module as it is written (TextFields), and names to positions
-- (Resolved, NameTroubles). What tokens and literals are at fault with comes before all that names and uses are at fault with.
use Rattle.std.specs.Prelude.{◌≡◌, ℕ, ◌<◌, ◌^◌, List, [], length, Option, Result, Ok, Err, IsUtf8}
use Rattle.wasm_ast.specs.declared.modules.Module.{Module}
use Rattle.wasm_text.specs.declared.tokens.Token.{Token}
use Rattle.wasm_text.specs.declared.tokens.LexBad.{LexBad}
use Rattle.wasm_text.specs.declared.bad.TextBad.{TextBad}
use Rattle.wasm_text.specs.declared.named.Named.{Named}
use Rattle.wasm_text.specs.Lexing.{AreTokens}
use Rattle.wasm_text.specs.NameTroubles.{resolved}
use Rattle.wasm_text.specs.TextFields.{module_form}
use Rattle.wasm_text.specs.TokenForms.{Rest}

-- a source with all of its tokens, before any is read
abbrev pub at_start : List ℕ → List Token → Option LexBad → Rest
at_start text tokens bad = record { source = text; tokens = tokens; bad = bad; uses = [] }

abbrev pub then_resolved : List ℕ → Result (Named × Rest) TextBad → Result Module TextBad
then_resolved text (Ok read) = resolved text read.0 read.1.uses
then_resolved text (Err bad) = Err bad

-- what the tokens of a text spell, which end with its end or with this trouble of its characters
abbrev pub spelled : List ℕ → List Token → Option LexBad → Result Module TextBad
spelled text tokens bad = then_resolved text (module_form (at_start text tokens bad))

pub record Reads (text : List ℕ) (result : Result Module TextBad) : Type 0 where
  pub tokens : List Token
  pub bad : Option LexBad
  pub are : AreTokens text tokens bad
  pub is : spelled text tokens bad ≡ result

-- The text is one of the module. Text of 2 ^ 32 bytes and more is of none: places and counts are below that number.
pub record IsText (m : Module) (text : List ℕ) : Type 0 where
  pub utf8 : IsUtf8 text
  pub short : length text < 2 ^ 32
  pub reads : Reads text (Ok m)

-- The text is of no module, and this is its first trouble. That a source isn't UTF-8 is told before, of its bytes.
pub record TextFault (text : List ℕ) (bad : TextBad) : Type 0 where
  pub utf8 : IsUtf8 text
  pub reads : Reads text (Err bad)
