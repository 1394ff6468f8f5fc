-- Reading sections of which custom ones are kept, or passed over.
use Rattle.std.proofs.Common.{◌≡◌, ◌≢◌, ℕ, ◌+◌, ◌<◌, ◌≤◌, Bool, true, false, cond, List, [], ◌∷◌, ◌++◌, length, map, Result, Ok, Err, Option, Some, None, IfSome, refl, sym, ap, ◌∙◌}
use Rattle.std.specs.Prelude.{◌==◌, MatchBool}
use Rattle.std.proofs.lemmas.Bool.{ne_eqb}
use Rattle.grammar_forms.specs.Forms.{Window, read_on, any_byte, checked, up_to, ends_at, left_over, when◌form◌else◌}
use Rattle.wasm_ast.specs.declared.modules.Custom.{Custom}
use Rattle.wasm_ast.specs.declared.modules.Module.{Module}
use Rattle.wasm_binary.specs.Faults.{Fault, size, count}
use Rattle.wasm_binary.specs.Values.{Grammar, u32, vec}
use Rattle.wasm_binary.specs.Types.{func_type, limits, table_type}
use Rattle.wasm_binary.specs.SectionEntries.{import, global, export, elem}
use Rattle.wasm_binary.specs.Modules.{Sections, no_sections, next_id, custom, code_section, data_section, into, contents, sized_contents, section, without_customs, settled, module_of}
use Rattle.wasm_binary.specs.Reading.{segments_counted, counted}
use Rattle.wasm_read.specs.Stripped.{Keeps, told}
use Rattle.wasm_read.proofs.SectionLaws.{sized_read, sized_told, section_goes_on, all_sections, section_read, section_told, sections_counted}

abbrev Answer : Type 0
Answer = Result (Sections × ℕ) Fault

abbrev ok : Sections → ℕ → Answer
ok s next = Ok (s, next)

-- the sections with these custom ones
abbrev pub under : List Custom → Sections → Sections
under all s = record s { customs = all }

abbrev put : List Custom → Answer → Answer
put all (Ok x) = Ok (under all x.0, x.1)
put all (Err fault) = Err fault

-- ---- a section that isn't custom goes by the others alone

record GoesUnder (all : List Custom) (more f : Grammar Sections) : Type 0 where
  each : (w : Window Fault) (at : ℕ) → more.read w at ≡ put all (f.read w at)

into_under : {A : Type 0} (all : List Custom) (f : Grammar A) (add more : A → Sections) → ((x : A) → more x ≡ under all (add x)) → GoesUnder all (into f more) (into f add)
into_under {A} all f add more same = record { each = λ w at. go (f.read w at) }
  where
    go : (r : Result (A × ℕ) Fault) → read_on r (λ x next. ok (more x) next) ≡ put all (read_on r (λ x next. ok (add x) next))
    go (Ok x) = ap (λ s. ok s x.1) (same x.0)
    go (Err fault) = refl

when_under : (all : List Custom) (b : Bool) (f g f' g' : Grammar Sections) → (b ≡ true → GoesUnder all f' f) → GoesUnder all g' g → GoesUnder all (when b form f' else g') (when b form f else g)
when_under all true f g f' g' p q = p refl
when_under all false f g f' g' p q = q

contents_under : (all : List Custom) (s : Sections) (id len : ℕ) → id ≢ 0 → GoesUnder all (contents (under all s) id len) (contents s id len)
contents_under all s id len other =
    when_under all (id == 0) _ _ _ _ (λ is. absurd (is_not (id == 0) (ne_eqb id 0 other) is))
    (when_under all (id == 1) _ _ _ _ (λ is. into_under all (vec func_type) _ _ (λ x. refl))
    (when_under all (id == 2) _ _ _ _ (λ is. into_under all (vec import) _ _ (λ x. refl))
    (when_under all (id == 3) _ _ _ _ (λ is. into_under all (vec u32) _ _ (λ x. refl))
    (when_under all (id == 4) _ _ _ _ (λ is. into_under all (vec table_type) _ _ (λ x. refl))
    (when_under all (id == 5) _ _ _ _ (λ is. into_under all (vec limits) _ _ (λ x. refl))
    (when_under all (id == 6) _ _ _ _ (λ is. into_under all (vec global) _ _ (λ x. refl))
    (when_under all (id == 7) _ _ _ _ (λ is. into_under all (vec export) _ _ (λ x. refl))
    (when_under all (id == 8) _ _ _ _ (λ is. into_under all u32 _ _ (λ x. refl))
    (when_under all (id == 9) _ _ _ _ (λ is. into_under all (vec elem) _ _ (λ x. refl))
    (when_under all (id == 12) _ _ _ _ (λ is. into_under all u32 _ _ (λ x. refl))
    (when_under all (id == 10) _ _ _ _ (λ is. into_under all (code_section s) _ _ (λ x. refl))
    (into_under all (data_section s) _ _ (λ x. refl)))))))))))))
  where
    is_not : (b : Bool) → b ≡ false → b ≡ true → ⊥
    is_not b e f = cc

ends_under : (all : List Custom) (w : Window Fault) (end : ℕ) (r : Answer) → read_on (put all r) (λ t next. ends_at size w end t next) ≡ put all (read_on r (λ t next. ends_at size w end t next))
ends_under all w end (Ok x) = go (x.1 == end)
  where
    go : (b : Bool) → cond b (ok (under all x.0) x.1) (Err (left_over size w x.1)) ≡ put all (cond b (ok x.0 x.1) (Err (left_over size w x.1)))
    go true = refl
    go false = refl
ends_under all w end (Err fault) = refl

sized_under : (all : List Custom) (s : Sections) (id : ℕ) (w : Window Fault) (at : ℕ) → id ≢ 0 → (sized_contents (under all s) id).read w at ≡ put all ((sized_contents s id).read w at)
sized_under all s id w at other = go (u32.read w at)
  where
    then_ends : ℕ → ℕ → Answer → Answer
    then_ends len mid r = read_on r (λ t next. ends_at size (up_to size w (mid + len)) (mid + len) t next)

    go : (r : Result (ℕ × ℕ) Fault) → read_on r (λ len mid. then_ends len mid ((contents (under all s) id len).read (up_to size w (mid + len)) mid))
        ≡ put all (read_on r (λ len mid. then_ends len mid ((contents s id len).read (up_to size w (mid + len)) mid)))
    go (Ok x) =
        ap (λ q. then_ends x.0 x.1 q) ((contents_under all s id x.0 other).each (up_to size w (x.1 + x.0)) x.1)
        ∙ ends_under all (up_to size w (x.1 + x.0)) (x.1 + x.0) ((contents s id x.0).read (up_to size w (x.1 + x.0)) x.1)
    go (Err fault) = refl

same_sections : (s t : Sections) (next : ℕ) → ok s next ≡ ok t next → s ≡ t
same_sections s t next e = ap sections_of e
  where
    sections_of : Answer → Sections
    sections_of (Ok x) = x.0
    sections_of (Err fault) = s

-- its custom sections stay
customs_stay : (s t : Sections) (id : ℕ) (w : Window Fault) (at next : ℕ) → id ≢ 0 → (sized_contents s id).read w at ≡ Ok (t, next) → t.customs ≡ s.customs
customs_stay s t id w at next other e =
    ap (λ (u : Sections). u.customs) (same_sections t (under s.customs t) next (sym e ∙ sized_under s.customs s id w at other ∙ ap (λ r. put s.customs r) e))

-- ---- a custom section

pub custom_read : (s : Sections) (w inner : Window Fault) (at len start end : ℕ) (c : Custom) (next : ℕ) → u32.read w at ≡ Ok (len, start) → end ≡ start + len → inner ≡ up_to size w end
    → (custom s.slot len).read inner start ≡ Ok (c, next) → next ≡ end → (sized_contents s 0).read w at ≡ Ok (under (s.customs ++ c ∷ []) s, next)
custom_read s w inner at len start end c next e place is f same =
    sized_read s 0 w inner at len start end (under (s.customs ++ c ∷ []) s) next e place is
    (ap (λ (r : Result (Custom × ℕ) Fault). read_on r (λ x then. ok (under (s.customs ++ x ∷ []) s) then)) f) same

pub custom_told : (s : Sections) (w inner : Window Fault) (at len start end : ℕ) (o : Option Fault) → u32.read w at ≡ Ok (len, start) → end ≡ start + len → inner ≡ up_to size w end
    → IfSome o (λ fault. (custom s.slot len).read inner start ≡ Err fault) → IfSome o (λ fault. (sized_contents s 0).read w at ≡ Err fault)
custom_told s w inner at len start end (Some fault) e place is h =
    sized_told s 0 w inner at len start end fault e place is
    (ap (λ (r : Result (Custom × ℕ) Fault). read_on r (λ x then. ok (under (s.customs ++ x ∷ []) s) then)) h)
custom_told s w inner at len start end None e place is h = h

-- ---- the sections so far

pub when_true : (b : Bool) (P Q : Type 0) → MatchBool b P Q → b ≡ true → P
when_true true P Q h e = h
when_true false P Q h e = absurd cc

pub when_false : (b : Bool) (P Q : Type 0) → MatchBool b P Q → b ≡ false → Q
when_false true P Q h e = absurd cc
when_false false P Q h e = h

-- What is read from the start is what is read from here on, where all are the custom sections so far.
pub record IsReadTo (keeps : Bool) (w : Window Fault) (start : ℕ) (s : Sections) (at : ℕ) : Type 0 where
  pub all : List Custom
  pub kept : Keeps keeps all s.customs
  pub read : all_sections w no_sections start ≡ all_sections w (under all s) at

-- a section after its id
after_id : (s : Sections) (w : Window Fault) (at id mid : ℕ) (r : Answer) → (checked any_byte (next_id s)).read w at ≡ Ok (id, mid) → (sized_contents s id).read w mid ≡ r → (section s).read w at ≡ r
after_id s w at id mid r e f = ap (λ (q : Result (ℕ × ℕ) Fault). read_on q (λ id next. (sized_contents s id).read w next)) e ∙ f

-- it goes on
pub kept_goes_on : (w : Window Fault) (s t : Sections) (at id mid next : ℕ) → (checked any_byte (next_id s)).read w at ≡ Ok (id, mid) → (sized_contents s id).read w mid ≡ Ok (t, next) → at < next
kept_goes_on w s t at id mid next e f = section_goes_on w s t at next (after_id s w at id mid (ok t next) e f)

-- a custom section's id
custom_id : (s : Sections) (w : Window Fault) (at id mid : ℕ) → id ≡ 0 → (checked any_byte (next_id s)).read w at ≡ Ok (id, mid) → (checked any_byte (next_id s)).read w at ≡ Ok (0, mid)
custom_id s w at id mid zero e = e ∙ ap (λ n. let r : Result (ℕ × ℕ) Fault = Ok (n, mid) in r) zero

pub passed_goes_on : (w : Window Fault) (s : Sections) (at id mid next : ℕ) → id ≡ 0 → (checked any_byte (next_id s)).read w at ≡ Ok (id, mid)
    → ((u : Sections) → (c : Custom) × ((sized_contents u 0).read w mid ≡ Ok (under (u.customs ++ c ∷ []) u, next))) → at < next
passed_goes_on w s at id mid next zero e passes = let p = passes s in kept_goes_on w s (under (s.customs ++ p.0 ∷ []) s) at 0 mid next (custom_id s w at id mid zero e) p.1

-- a section that is kept, or isn't custom
pub section_kept : (keeps : Bool) (w : Window Fault) (start : ℕ) (s t : Sections) (at id mid next : ℕ) → at < length w.bytes → (keeps ≡ false → id ≢ 0) → IsReadTo keeps w start s at
    → (checked any_byte (next_id s)).read w at ≡ Ok (id, mid) → (sized_contents s id).read w mid ≡ Ok (t, next) → IsReadTo keeps w start t next
section_kept true w start s t at id mid next lt other is e f = record {
  all = t.customs;
  kept = refl;
  read = is.read ∙ ap (λ cs. all_sections w (under cs s) at) (sym is.kept) ∙ section_read w s t at next lt (after_id s w at id mid (ok t next) e f);
}
section_kept false w start s t at id mid next lt other is e f = record {
  all = is.all;
  kept = customs_stay s t id w mid next (other refl) f ∙ is.kept;
  read =
      is.read
      ∙ section_read w (under is.all s) (under is.all t) at next lt
      (after_id (under is.all s) w at id mid (ok (under is.all t) next) e (sized_under is.all s id w mid (other refl) ∙ ap (λ r. put is.all r) f));
}

-- a custom section that is passed over
pub section_passed : (keeps : Bool) (w : Window Fault) (start : ℕ) (s : Sections) (at id mid next : ℕ) → at < length w.bytes → keeps ≡ false → id ≡ 0 → IsReadTo keeps w start s at
    → (checked any_byte (next_id s)).read w at ≡ Ok (id, mid) → ((u : Sections) → (c : Custom) × ((sized_contents u 0).read w mid ≡ Ok (under (u.customs ++ c ∷ []) u, next)))
    → IsReadTo keeps w start s next
section_passed true w start s at id mid next lt none zero is e passes = absurd cc
section_passed false w start s at id mid next lt none zero is e passes =
    let p = passes (under is.all s) in
    record {
      all = is.all ++ p.0 ∷ [];
      kept = is.kept;
      read =
          is.read
          ∙ section_read w (under is.all s) (under (is.all ++ p.0 ∷ []) s) at next lt
          (after_id (under is.all s) w at 0 mid (ok (under (is.all ++ p.0 ∷ []) s) next) (custom_id s w at id mid zero e) p.1);
    }

-- ---- troubles

abbrev pub Told : Option Fault → Result Module Fault → Type 0
Told o given = IfSome o (λ fault. given ≡ Err fault)

pub id_told : (keeps : Bool) (w : Window Fault) (start : ℕ) (s : Sections) (at : ℕ) (o : Option Fault) → at < length w.bytes → IsReadTo keeps w start s at
    → IfSome o (λ fault. (checked any_byte (next_id s)).read w at ≡ Err fault) → Told o (all_sections w no_sections start)
id_told keeps w start s at (Some fault) lt is h =
    section_told w (under is.all s) at (all_sections w no_sections start) (Some fault) lt is.read (ap (λ (q : Result (ℕ × ℕ) Fault). read_on q (λ id next. (sized_contents (under is.all s) id).read w next)) h)
id_told keeps w start s at None lt is h = h

pub contents_told : (keeps : Bool) (w : Window Fault) (start : ℕ) (s : Sections) (at id mid : ℕ) (o : Option Fault) → at < length w.bytes → (keeps ≡ false → id ≢ 0) → IsReadTo keeps w start s at
    → (checked any_byte (next_id s)).read w at ≡ Ok (id, mid) → IfSome o (λ fault. (sized_contents s id).read w mid ≡ Err fault) → Told o (all_sections w no_sections start)
contents_told keeps w start s at id mid None lt other is e h = h
contents_told true w start s at id mid (Some fault) lt other is e h =
    section_told w s at (all_sections w no_sections start) (Some fault) lt (is.read ∙ ap (λ cs. all_sections w (under cs s) at) (sym is.kept)) (after_id s w at id mid (Err fault) e h)
contents_told false w start s at id mid (Some fault) lt other is e h =
    section_told w (under is.all s) at (all_sections w no_sections start) (Some fault) lt is.read
    (after_id (under is.all s) w at id mid (Err fault) e (sized_under is.all s id w mid (other refl) ∙ ap (λ r. put is.all r) h))

pub passed_told : (keeps : Bool) (w : Window Fault) (start : ℕ) (s : Sections) (at id mid : ℕ) (o : Option Fault) → at < length w.bytes → id ≡ 0 → IsReadTo keeps w start s at
    → (checked any_byte (next_id s)).read w at ≡ Ok (id, mid) → ((u : Sections) → IfSome o (λ fault. (sized_contents u 0).read w mid ≡ Err fault)) → Told o (all_sections w no_sections start)
passed_told keeps w start s at id mid (Some fault) lt zero is e h =
    section_told w (under is.all s) at (all_sections w no_sections start) (Some fault) lt is.read (after_id (under is.all s) w at 0 mid (Err fault) (custom_id s w at id mid zero e) (h (under is.all s)))
passed_told keeps w start s at id mid None lt zero is e h = h no_sections

-- ---- the counts at the end

abbrev over : Module → Result Module Fault → Result Module Fault
over m (Ok n) = Ok m
over m (Err fault) = Err fault

segments_under : (all : List Custom) (s : Sections) (at : ℕ) (o : Option ℕ) → segments_counted (under all s) at o ≡ over (module_of (under all s)) (segments_counted s at o)
segments_under all s at None = refl
segments_under all s at (Some n) = go (n == length s.segments)
  where
    go : (b : Bool)
        → cond b (Ok (module_of (under all s))) (let r : Result Module Fault = Err (count n (length s.segments) at) in r) ≡ over (module_of (under all s)) (cond b (Ok (module_of s)) (Err (count n (length s.segments) at)))
    go true = refl
    go false = refl

counted_under : (all : List Custom) (s : Sections) (at : ℕ) → counted (under all s) at ≡ over (module_of (under all s)) (counted s at)
counted_under all s at = go (length s.type_indices == length s.codes)
  where
    other : Result Module Fault
    other = Err (count (length s.type_indices) (length s.codes) at)

    go : (b : Bool) → cond b (segments_counted (under all s) at s.data_count) other ≡ over (module_of (under all s)) (cond b (segments_counted s at s.data_count) other)
    go true = segments_under all s at s.data_count
    go false = refl

pub counts_kept : (keeps : Bool) (w : Window Fault) (start : ℕ) (s : Sections) (at : ℕ) → length w.bytes ≤ at → IsReadTo keeps w start s at → counted s at ≡ Ok (module_of s)
    → (all : List Custom) × Keeps keeps all s.customs × (all_sections w no_sections start ≡ Ok (module_of (under all s)))
counts_kept keeps w start s at le is h = (
  is.all,
  is.kept,
  sections_counted w (under is.all s) at (all_sections w no_sections start) (Ok (module_of (under is.all s))) le is.read
      (counted_under is.all s at ∙ ap (λ (r : Result Module Fault). over (module_of (under is.all s)) r) h),
)

pub counts_refused : (keeps : Bool) (w : Window Fault) (start : ℕ) (s : Sections) (at : ℕ) (o : Option Fault) → length w.bytes ≤ at → IsReadTo keeps w start s at
    → IfSome o (λ fault. counted s at ≡ Err fault) → Told o (all_sections w no_sections start)
counts_refused keeps w start s at (Some fault) le is h =
    sections_counted w (under is.all s) at (all_sections w no_sections start) (Err fault) le is.read
    (counted_under is.all s at ∙ ap (λ (r : Result Module Fault). over (module_of (under is.all s)) r) h)
counts_refused keeps w start s at None le is h = h

-- ---- the module

-- as it is told
pub told_is : (keeps : Bool) (all : List Custom) (s : Sections) (m : Module) → Keeps keeps all s.customs → m ≡ module_of s → m ≡ told keeps (module_of (under all s))
told_is true all s m e is = is ∙ ap (λ cs. module_of (under cs s)) e
told_is false all s m e is = is ∙ ap (λ cs. record (without_customs s) { customs = map (settled (without_customs s)) cs }) e
