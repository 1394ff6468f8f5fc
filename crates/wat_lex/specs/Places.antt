-- A source and a place in it, up to which its tokens have been given.
use Rattle.std.specs.Prelude.{ℕ, List, Option, Some, None, Result, Ok, Err}
use Rattle.wasm_text.specs.declared.tokens.Token.{Token}
use Rattle.wasm_text.specs.declared.tokens.LexBad.{LexBad}

pub record Place : Type 0 where
  pub source : List ℕ
  pub at : ℕ

abbrev pub at_start : List ℕ → Place
at_start source = record { source = source; at = 0 }

-- after a token at its end; else the place stays
abbrev pub after : Place → Result (Option Token) LexBad → Place
after p (Ok (Some t)) = record p { at = t.end }
after p (Ok None) = p
after p (Err bad) = p
