-- The characters of a text (Text Format, Lexical Format: Characters, White Space; Values: Strings, Names).
--
-- A text is its bytes in UTF-8. Each character that a form names is one byte below 0x80. All bytes of every other character
-- are from 0x80 on; such characters stand in strings and in comments alone.
use Rattle.std.specs.Prelude.{ℕ, ◌-◌, Bool, nat_le, nat_lt, ◌==◌, ◌&&◌, ◌||◌, not, if◌then◌else◌}
use Rattle.wasm_ast.specs.Opcodes.{is_from}

-- space, tab, line feed, carriage return
abbrev pub is_space : ℕ → Bool
is_space c = c == 0x20 || c == 0x09 || c == 0x0A || c == 0x0D

-- what a word is made of: letters, digits and ! # $ % & ' * + - . / : < = > ? @ \ ^ _ ` | ~
abbrev pub is_word_char : ℕ → Bool
is_word_char c =
    c == 0x21 || is_from 0x23 0x27 c || is_from 0x2A 0x2B c || is_from 0x2D 0x3A c || is_from 0x3C 0x5A c || c == 0x5C
    || is_from 0x5E 0x7A c || c == 0x7C || c == 0x7E

-- what isn't a line feed stands in a line comment
abbrev pub is_in_line : ℕ → Bool
is_in_line c = not (c == 0x0A)

-- What stands for itself in a string, where it isn't its quote or a backslash: characters from U+0020 on, but U+007F.
abbrev pub is_string_char : ℕ → Bool
is_string_char c = nat_le 0x20 c && not (c == 0x7F)

-- after a backslash: t n r " ' \
abbrev pub is_short_escape : ℕ → Bool
is_short_escape c = c == 0x74 || c == 0x6E || c == 0x72 || c == 0x22 || c == 0x27 || c == 0x5C

abbrev pub is_hex : ℕ → Bool
is_hex c = is_from 0x30 0x39 c || is_from 0x41 0x46 c || is_from 0x61 0x66 c

abbrev pub hex_value : ℕ → ℕ
hex_value c = if nat_le c 0x39 then c - 0x30 else (if nat_le c 0x46 then c - 0x37 else (c - 0x57))

-- the number of a character (a Unicode scalar value)
abbrev pub is_scalar : ℕ → Bool
is_scalar n = nat_lt n 0xD800 || is_from 0xE000 0x10FFFF n
