-- Whether a module is valid, and which fault is its first, doesn't hang on its custom sections.
use Rattle.std.proofs.Common.{◌≡◌, ◌≢◌, ℕ, List, [], Result, Ok, Err, IfOk, refl, subst, sym, codes}
use Rattle.wasm_ast.specs.declared.modules.Custom.{Custom}
use Rattle.wasm_ast.specs.declared.modules.Elem.{Elem}
use Rattle.wasm_ast.specs.declared.modules.Export.{Export}
use Rattle.wasm_ast.specs.declared.modules.Func.{Func}
use Rattle.wasm_ast.specs.declared.modules.ImportKind.{ImportKind}
use Rattle.wasm_ast.specs.declared.modules.ImportKind.TheVariants.{Func as FuncImport, Table as TableImport, Memory as MemoryImport, Global as GlobalImport}
use Rattle.wasm_ast.specs.declared.modules.Mode.{Mode}
use Rattle.wasm_ast.specs.declared.modules.Mode.TheVariants.{Passive, Declared, Active}
use Rattle.wasm_ast.specs.declared.modules.Module.{Module}
use Rattle.wasm_ast.specs.declared.modules.Space.{Space}
use Rattle.wasm_ast.specs.declared.modules.Space.TheVariants.{Func as FuncSpace, Table as TableSpace, Memory as MemorySpace, Global as GlobalSpace}
use Rattle.wasm_ast.specs.declared.types.Limits.{Limits}
use Rattle.wasm_ast.specs.declared.types.ValType.{ValType}
use Rattle.wasm_check.specs.declared.sections.Section.{Section}
use Rattle.wasm_check.specs.declared.sections.Section.TheVariants.{Imports, Functions, Tables, Memories, Globals, Exports, Start, Elements, Code, Data}
use Rattle.wasm_check.specs.declared.why.Why.{Why}
use Rattle.wasm_check.specs.declared.why.Why.TheVariants.{Field, Code as InCode, NoMemory}
use Rattle.wasm_check.specs.Modules.{ImportIsValid, MemoryIsValid, ExportIsValid, ElemModeIsValid, ElemIsValid, DataModeIsValid, BodyIsValid, space_size, EntryIsValid, IsValid}
use Rattle.wasm_check.specs.Faults.{BodyFailsAt, IsFirstInvalid, FirstFault}
use Rattle.wasm_binary.specs.Modules.{IsBinary}
use Rattle.wasm_read.specs.Stripped.{stripped}
use Rattle.owi_cmd.specs.Report.{line}
use Rattle.owi_cmd.specs.Faults.{why_text}
use Rattle.owi_cmd.specs.Sources.{AnswersShort, Validates}
use Rattle.owi_cmd.specs.declared.words.Command.TheVariants.{Validate}
use Rattle.owi_cmd.specs.declared.written.Written.{Written}
use Rattle.owi_cmd.specs.declared.status.Status.TheVariants.{Invalid}

-- the module with these custom sections
abbrev under : List Custom → Module → Module
under customs m = record m { customs = customs }

-- ---- the entries of sections

import_same : (m : Module) (cs ds : List Custom) (k : ℕ) (kind : ImportKind) → ImportIsValid (under cs m) k kind → ImportIsValid (under ds m) k kind
import_same m cs ds k (FuncImport ty) v = v
import_same m cs ds k (TableImport type) v = v
import_same m cs ds k (MemoryImport limits) v = v
import_same m cs ds k (GlobalImport type) v = v

memory_same : (m : Module) (cs ds : List Custom) (k : ℕ) (limits : Limits) → MemoryIsValid (under cs m) k limits → MemoryIsValid (under ds m) k limits
memory_same m cs ds k limits v = record { type = v.type; first = v.first; only = v.only }

size_same : (m : Module) (cs ds : List Custom) (space : Space) → space_size (under cs m) space ≡ space_size (under ds m) space
size_same m cs ds FuncSpace = refl
size_same m cs ds TableSpace = refl
size_same m cs ds MemorySpace = refl
size_same m cs ds GlobalSpace = refl

export_same : (m : Module) (cs ds : List Custom) (k : ℕ) (e : Export) → ExportIsValid (under cs m) k e → ExportIsValid (under ds m) k e
export_same m cs ds k e v = record { there = rw (size_same m cs ds e.space) at v.there; new_name = v.new_name }

elem_mode_same : (m : Module) (cs ds : List Custom) (kind : ValType) (mode : Mode) → ElemModeIsValid (under cs m) kind mode → ElemModeIsValid (under ds m) kind mode
elem_mode_same m cs ds kind Passive v = v
elem_mode_same m cs ds kind Declared v = v
elem_mode_same m cs ds kind (Active x offset) v = v

elem_same : (m : Module) (cs ds : List Custom) (e : Elem) → ElemIsValid (under cs m) e → ElemIsValid (under ds m) e
elem_same m cs ds e v = record { items = v.items; mode = elem_mode_same m cs ds e.kind e.mode v.mode }

data_mode_same : (m : Module) (cs ds : List Custom) (mode : Mode) → DataModeIsValid (under cs m) mode → DataModeIsValid (under ds m) mode
data_mode_same m cs ds Passive v = v
data_mode_same m cs ds Declared v = v
data_mode_same m cs ds (Active x offset) v = v

body_same : (m : Module) (cs ds : List Custom) (f : Func) → BodyIsValid (under cs m) f → BodyIsValid (under ds m) f
body_same m cs ds f v = record { type = v.type; has_type = v.has_type; tree = v.tree; is_tree = v.is_tree; typed = v.typed }

entry_same : (m : Module) (cs ds : List Custom) (s : Section) (k : ℕ) → EntryIsValid (under cs m) s k → EntryIsValid (under ds m) s k
entry_same m cs ds Imports k v = λ i there. import_same m cs ds k i.kind (v i there)
entry_same m cs ds Functions k v = v
entry_same m cs ds Tables k v = v
entry_same m cs ds Memories k v = λ limits there. memory_same m cs ds k limits (v limits there)
entry_same m cs ds Globals k v = v
entry_same m cs ds Exports k v = λ e there. export_same m cs ds k e (v e there)
entry_same m cs ds Start k v = v
entry_same m cs ds Elements k v = λ e there. elem_same m cs ds e (v e there)
entry_same m cs ds Code k v = λ f there. body_same m cs ds f (v f there)
entry_same m cs ds Data k v = λ s there. data_mode_same m cs ds s.mode (v s there)

-- ---- the module

pub valid_whole : (m : Module) → IsValid (stripped m) → IsValid m
valid_whole m v = λ s k. entry_same m [] m.customs s k (v s k)

invalid_whole : (m : Module) (s : Section) (k : ℕ) → IsFirstInvalid (stripped m) s k → IsFirstInvalid m s k
invalid_whole m s k h = record {
  first = record {
    invalid = λ v. h.first.invalid (entry_same m m.customs [] s k v);
    before = λ j lt. entry_same m [] m.customs s j (h.first.before j lt);
  };
  sections_before = λ r lt j. entry_same m [] m.customs r j (h.sections_before r lt j);
}

body_fails_whole : (m : Module) (f : Func) (place : ℕ) → BodyFailsAt (stripped m) f place → BodyFailsAt m f place
body_fails_whole m f place h = record { type = h.type; has_type = h.has_type; tree = h.tree; is_tree = h.is_tree; first = h.first }

pub fault_whole : (m : Module) (why : Why) → FirstFault (stripped m) why → FirstFault m why
fault_whole m (Field id k) h = (h.0, h.1, h.2, invalid_whole m h.0 k h.3)
fault_whole m (InCode function place) h = (h.0, h.1, h.2, h.3, invalid_whole m Code h.0 h.4, body_fails_whole m h.1 place h.5)
fault_whole m NoMemory h = h

-- ---- what is said of it

-- the module that the source spells, without its custom sections
abbrev IsToldBy : List ℕ → Module → Type 0
IsToldBy source m = (whole : Module) × IsBinary whole source × (m ≡ stripped whole)

pub of_valid : (source : List ℕ) (m : Module) (bytes : List ℕ) → IsToldBy source m → IsValid m → bytes ≡ line (codes "valid") → Validates source bytes
of_valid source m bytes told valid written = record {
  spelled = told.0;
  is = record { is = told.1; valid = valid_whole told.0 (subst IsValid told.2 valid) };
  written = written;
}

pub of_invalid : {E : Type 0} (source : List ℕ) (m : Module) (why : Why) (r : Result Written E) → IsToldBy source m → (why ≢ NoMemory → FirstFault m why)
    → IfOk r (λ w. why ≢ NoMemory) → IfOk r (λ w. w.status ≡ Invalid) → IfOk r (λ w. w.bytes.items ≡ line (why_text why)) → IfOk r (λ w. AnswersShort Validate source w.status w.bytes.items)
of_invalid source m why (Ok w) told fault known status written =
    subst (λ s. AnswersShort Validate source s w.bytes.items) (sym status)
    (tt, record { spelled = told.0; is = told.1; why = why; first = fault_whole told.0 why (subst (λ n. FirstFault n why) told.2 (fault known)); written = written })
of_invalid source m why (Err e) told fault known status written = tt
