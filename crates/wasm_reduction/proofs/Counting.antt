-- A bounded run asks at most 2^32 questions for each step.
use Rattle.std.proofs.Common.{◌≡◌, ℕ, zero, suc, ◌+◌, ◌*◌, ◌<◌, ◌≤◌, ◌⊎◌, List, [], ◌∷◌, ◌++◌, drop, length, refl, sym, ap, ◌∙◌, subst, inl, inr, arith}
use Rattle.std.specs.Prelude.{IsTrue, Bool, true, false, ◌&&◌, nat_lt, nat_le, if◌then◌else◌, Option, Some, None, slice_get}
use Rattle.std.proofs.lemmas.List.{length-append}
use Rattle.std.proofs.lemmas.Bool.Decides.{nat_tests}
use Rattle.wasm_ast.specs.declared.instructions.Instr.{Instr}
use Rattle.wasm_ast.specs.declared.instructions.Instr.TheVariants.{Call}
use Rattle.wasm_ast.specs.declared.modules.Func.{Func}
use Rattle.wasm_ast.specs.declared.modules.Module.{Module}
use Rattle.wasm_rules.specs.Words.{Kind}
use Rattle.wasm_reduction.specs.Configurations.{Value, Label, Frame, Config, Question, Next, Goes, Draws, Asks, Ends}
use Rattle.wasm_reduction.specs.Functions.{Body, Code, Imported, Function, functions}
use Rattle.wasm_reduction.specs.Combinators.{cost_under, past, holding}
use Rattle.wasm_check.specs.Trees.{seq_of}
use Rattle.wasm_reduction.specs.Control.{given, give_back, finish}
use Rattle.wasm_reduction.specs.Steps.{act, step, step_code, answered, with_symbol}
use Rattle.wasm_reduction.specs.Runs.{Trace, Going, Halt, Stands, Ended, Deep, Bound, Turned, On, Over, Reply, replied, follow_by, is_due, follow, then_follow, follows, most_frames}
use Rattle.wasm_reduction.proofs.Moves.{Same, IsAgain, Called, Moves, Stays, Enters, Leaves, GivesBack, Calls, most_questions, Legal, act-legal}
use Rattle.wasm_reduction.specs.Outermost.{bottom, AreCalls, IsOutermost, Ready}
use Rattle.wasm_reduction.proofs.Endings.{SameEnd, bottom-same, symbol-same, body_questions, function_questions, CallMoves, call-moves, moves-units, moves-answers, moves-bottom}

-- ---- no instruction asks 2^32 questions or more

abbrev pub most : ℕ
most = 4294967295

abbrev pub AreShort : List Instr → Type 0
AreShort [] = Unit {0}
AreShort (i ∷ is) = (most_questions i ≤ most) × AreShort is

abbrev pub AllShort : List (List Instr) → Type 0
AllShort [] = Unit {0}
AllShort (is ∷ rest) = AreShort is × AllShort rest

pub record LabelShort {W : Type 0} (l : Label W) : Type 0 where
  pub again : AreShort l.again
  pub code : AreShort l.code

abbrev pub LabelsShort : {W : Type 0} → List (Label W) → Type 0
LabelsShort [] = Unit {0}
LabelsShort (l ∷ ls) = LabelShort l × LabelsShort ls

pub record FrameShort {W : Type 0} (f : Frame W) : Type 0 where
  pub seqs : AllShort f.seqs
  pub here : LabelShort f.here
  pub outer : LabelsShort f.outer

abbrev pub FramesShort : {W : Type 0} → List (Frame W) → Type 0
FramesShort [] = Unit {0}
FramesShort (f ∷ fs) = FrameShort f × FramesShort fs

pub record ConfigShort {W : Type 0} (c : Config W) : Type 0 where
  pub frame : FrameShort c.frame
  pub callers : FramesShort c.callers

abbrev pub ModuleShort : Module → Type 0
ModuleShort m = (x : ℕ) (f : Function) (code : Func) → slice_get (functions m) x ≡ Some f → f.body ≡ Code code → AllShort code.body.seqs

short-append : (xs ys : List Instr) → AreShort xs → AreShort ys → AreShort (xs ++ ys)
short-append [] ys h k = k
short-append (x ∷ xs) ys h k = (h.0, short-append xs ys h.1 k)

short-seq : (seqs : List (List Instr)) (s : ℕ) → AllShort seqs → AreShort (seq_of seqs s)
short-seq [] s h = tt
short-seq (is ∷ rest) zero h = h.0
short-seq (is ∷ rest) (suc s) h = short-seq rest s h.1

short-again : (again : List Instr) → IsAgain again → AreShort again
short-again again h = elim h [
  | inl e ↦ rw e tt
  | inr l ↦ rw l.2 (omega arith, tt)
]

short-drop : {W : Type 0} (k : ℕ) (ls : List (Label W)) → LabelsShort ls → LabelsShort (drop k ls)
short-drop zero ls h = h
short-drop (suc k) [] h = tt
short-drop (suc k) (l ∷ ls) h = short-drop k ls h.1

frame-short : {W : Type 0} (f g : Frame W) → f.seqs ≡ g.seqs → f.here.again ≡ g.here.again → f.here.code ≡ g.here.code → f.outer ≡ g.outer → FrameShort g → FrameShort f
frame-short f g seqs again code outer h = record {
  seqs = subst AllShort (sym seqs) h.seqs;
  here = record { again = subst AreShort (sym again) h.here.again; code = subst AreShort (sym code) h.here.code };
  outer = subst LabelsShort (sym outer) h.outer;
}

moves-short : {W : Type 0} (m : Module) (c d : Config W) → ModuleShort m → ConfigShort c → Moves W m c d → ConfigShort d
moves-short m c d ms h (Stays s) = record { frame = frame-short d.frame c.frame s.seqs s.again s.code s.outer h.frame; callers = subst FramesShort (sym s.callers) h.callers }
moves-short m c d ms h (Enters s) = record {
  frame = record {
    seqs = subst AllShort (sym s.seqs) h.frame.seqs;
    here = record { again = short-again d.frame.here.again s.again; code = subst AreShort (sym s.code) (short-seq c.frame.seqs s.seq h.frame.seqs) };
    outer = subst LabelsShort (sym s.outer) (record { again = h.frame.here.again; code = h.frame.here.code }, h.frame.outer);
  };
  callers = subst FramesShort (sym s.callers) h.callers;
}
moves-short m c d ms h (Leaves s) =
    let ls : LabelShort s.target × (LabelShort s.outside × LabelsShort d.frame.outer) = subst LabelsShort s.labels (short-drop s.passed (c.frame.here ∷ c.frame.outer) (h.frame.here, h.frame.outer)) in
    record {
      frame = record {
        seqs = subst AllShort (sym s.seqs) h.frame.seqs;
        here = record { again = subst AreShort (sym s.again) ls.1.0.again; code = subst AreShort (sym s.code) (short-append s.target.again s.outside.code ls.0.again ls.1.0.code) };
        outer = ls.1.1;
      };
      callers = subst FramesShort (sym s.callers) h.callers;
    }
moves-short m c d ms h (GivesBack s) =
    let cs : FrameShort s.caller × FramesShort d.callers = subst FramesShort s.callers h.callers in
    record { frame = frame-short d.frame s.caller s.seqs s.again s.code s.outer cs.0; callers = cs.1 }
moves-short m c d ms h (Calls s) =
    let all : AllShort s.code.body.seqs = ms s.x s.f s.code s.found s.body in
    record {
      frame = record {
        seqs = subst AllShort (sym s.seqs) all;
        here = record { again = subst AreShort (sym s.again) tt; code = subst AreShort (sym s.here) (short-seq s.code.body.seqs 0 all) };
        outer = subst LabelsShort (sym s.outer) tt;
      };
      callers = subst FramesShort (sym s.callers) (record { seqs = h.frame.seqs; here = record { again = h.frame.here.again; code = h.frame.here.code }; outer = h.frame.outer }, h.callers);
    }

-- past its next instruction
past-short : {W : Type 0} (c : Config W) (i : Instr) (is : List Instr) → c.frame.here.code ≡ i ∷ is → ConfigShort c → (most_questions i ≤ most) × ConfigShort (past c is)
past-short c i is e h =
    let code : (most_questions i ≤ most) × AreShort is = subst AreShort e h.frame.here.code in
    (code.0, record { frame = record { seqs = h.frame.seqs; here = record { again = h.frame.here.again; code = code.1 }; outer = h.frame.outer }; callers = h.callers })

-- ---- how many answers there are

abbrev pub outer_questions : Module → Instr → ℕ
outer_questions m (Call x) = function_questions (slice_get (functions m) x)
outer_questions m _ = 0

-- how many questions the next instruction asks at most
abbrev pub most_here : {W : Type 0} → Module → List Instr → List (Frame W) → ℕ
most_here m [] fs = 0
most_here m (i ∷ is) [] = outer_questions m i
most_here m (i ∷ is) (f ∷ fs) = most_questions i

-- Each unit had at most so many answers, and each call of the outermost frame at most one; a call of a function with code had
-- none, and no unit is spent before it.
pub record Few {W : Type 0} (m : Module) (steps : ℕ) (c : Config W) (total : ℕ) : Type 0 where
  pub ready : Ready c
  pub short : ConfigShort c
  pub asked : length c.answers ≤ most_here m c.frame.here.code c.callers
  pub room : 1 ≤ length c.answers → 1 ≤ length c.callers → c.units < steps
  pub units : c.units ≤ steps
  pub few : total + length (bottom c.frame c.callers).here.code ≤ most * c.units + length c.answers + 2
  pub fewer : 1 ≤ length c.callers + c.units → total + length (bottom c.frame c.callers).here.code ≤ most * c.units + length c.answers + 1

zero_or : (n : ℕ) → (n ≡ 0) ⊎ (1 ≤ n)
zero_or zero = inl refl
zero_or (suc n) = inr (omega arith)

questions-one : (o : Option Function) → function_questions o ≤ 1
questions-one None = omega arith
questions-one (Some f) = at f.body
  where
    at : (b : Body) → body_questions b ≤ 1
    at (Code code) = omega arith
    at (Imported host) = omega arith

module _ {W : Type 0} (K : Kind W) (m : Module) (ms : ModuleShort m) (steps : ℕ) where
  abbrev Keeps : Config W → ℕ → Next W → Type 0
  Keeps c total (Goes d) = Few m steps d total
  Keeps c total (Draws wide d) = Few m steps d total
  Keeps c total (Asks q w) = (n : ℕ) → Few m steps (answered c n) (total + 1)
  Keeps c total (Ends e) = Unit {0}

  inner-few : (c d : Config W) (total : ℕ) (i : Instr) (is : List Instr) (f : Frame W) (fs : List (Frame W)) → c.frame.here.code ≡ i ∷ is → c.callers ≡ f ∷ fs →
      c.units < steps → Few m steps c total → Moves W m (past c is) d → Few m steps d total
  inner-few c d total i is f fs code cs u h s =
      let units : d.units ≡ c.units + 1 = moves-units m (past c is) d s ∙ ap (λ l. c.units + cost_under l) cs in
      let none : length d.answers ≡ 0 = ap (λ l. length l) (moves-answers m (past c is) d s) in
      let end : SameEnd (bottom d.frame d.callers) (bottom f fs) = moves-bottom m (past c is) d f fs cs s in
      let was : bottom c.frame c.callers ≡ bottom f fs = ap (λ l. bottom c.frame l) cs in
      let ready : IsOutermost (bottom f fs) = subst IsOutermost was h.ready in
      let short : (most_questions i ≤ most) × ConfigShort (past c is) = past-short c i is code h.short in
      let asked : length c.answers ≤ most_questions i = subst (λ l. length c.answers ≤ most_here m (i ∷ is) l) cs (subst (λ l. length c.answers ≤ most_here m l c.callers) code h.asked) in
      let fewer : total + length (bottom c.frame c.callers).here.code ≤ most * c.units + length c.answers + 1 = h.fewer (omega (arith, ap (λ l. length l) cs)) in
      let same : length (bottom d.frame d.callers).here.code ≡ length (bottom c.frame c.callers).here.code = ap (λ l. length l) end.code ∙ sym (ap (λ f. length f.here.code) was) in
      record {
        ready = record { outer = end.outer ∙ ready.outer; calls = subst AreCalls (sym end.code) ready.calls };
        short = moves-short m (past c is) d ms short.1 s;
        asked = omega (arith, none);
        room = λ one some. absurd (omega (arith, one, none));
        units = omega (arith, units, u);
        few = omega (arith, units, none, same, asked, short.0, fewer);
        fewer = λ some. omega (arith, units, none, same, asked, short.0, fewer);
      }

  outer-few : (c d : Config W) (total x : ℕ) (is : List Instr) → c.callers ≡ [] → c.frame.outer ≡ [] → c.frame.here.code ≡ Call x ∷ is → AreCalls is →
      Few m steps c total → Same (past c is) d ⊎ (Called m (past c is) d × (function_questions (slice_get (functions m) x) ≡ 0)) → Few m steps d total
  outer-few c d total x is cs o code calls h (inl s) =
      let callers : d.callers ≡ [] = s.callers ∙ cs in
      let units : d.units ≡ c.units = s.units ∙ ap (λ l. c.units + cost_under l) cs ∙ omega arith in
      let none : length d.answers ≡ 0 = ap (λ l. length l) s.answers in
      let bot : length (bottom d.frame d.callers).here.code ≡ length is = ap (λ l. length (bottom d.frame l).here.code) callers ∙ ap (λ l. length l) s.code in
      let was : length (bottom c.frame c.callers).here.code ≡ suc (length is) = ap (λ l. length (bottom c.frame l).here.code) cs ∙ ap (λ l. length l) code in
      let asked : length c.answers ≤ function_questions (slice_get (functions m) x) = subst (λ l. length c.answers ≤ most_here m (Call x ∷ is) l) cs (subst (λ l. length c.answers ≤ most_here m l c.callers) code h.asked) in
      let one : function_questions (slice_get (functions m) x) ≤ 1 = questions-one (slice_get (functions m) x) in
      record {
        ready = subst (λ l. IsOutermost (bottom d.frame l)) (sym callers) (record { outer = s.outer ∙ o; calls = subst AreCalls (sym s.code) calls });
        short = moves-short m (past c is) d ms (past-short c (Call x) is code h.short).1 (Stays s);
        asked = omega (arith, none);
        room = λ one some. absurd (omega (arith, one, none));
        units = omega (arith, units, h.units);
        few = omega (arith, units, none, bot, was, asked, one, h.few);
        fewer = λ some. omega (arith, units, none, bot, was, asked, one, h.fewer (omega (arith, some, units, ap (λ l. length l) callers)));
      }
  outer-few c d total x is cs o code calls h (inr called) =
      let s : Called m (past c is) d = called.0 in
      let callers : d.callers ≡ (holding (past c is) s.rest).frame ∷ [] = s.callers ∙ ap (λ l. (holding (past c is) s.rest).frame ∷ l) cs in
      let units : d.units ≡ c.units = s.units ∙ ap (λ l. c.units + cost_under l) cs ∙ omega arith in
      let none : length d.answers ≡ 0 = ap (λ l. length l) s.answers in
      let bot : length (bottom d.frame d.callers).here.code ≡ length is = ap (λ l. length (bottom d.frame l).here.code) callers in
      let was : length (bottom c.frame c.callers).here.code ≡ suc (length is) = ap (λ l. length (bottom c.frame l).here.code) cs ∙ ap (λ l. length l) code in
      let asked : length c.answers ≤ function_questions (slice_get (functions m) x) = subst (λ l. length c.answers ≤ most_here m (Call x ∷ is) l) cs (subst (λ l. length c.answers ≤ most_here m l c.callers) code h.asked) in
      record {
        ready = subst (λ l. IsOutermost (bottom d.frame l)) (sym callers) (record { outer = o; calls = calls });
        short = moves-short m (past c is) d ms (past-short c (Call x) is code h.short).1 (Calls s);
        asked = omega (arith, none);
        room = λ one some. absurd (omega (arith, one, none));
        units = omega (arith, units, h.units);
        few = omega (arith, units, none, bot, was, asked, called.1, h.few);
        fewer = λ some. omega (arith, units, none, bot, was, asked, called.1, h.few);
      }

  -- a question of an instruction that may ask another
  asks-few : (c : Config W) (total : ℕ) → (1 ≤ length c.callers → c.units < steps) → length c.answers < most_here m c.frame.here.code c.callers → Few m steps c total →
      (n : ℕ) → Few m steps (answered c n) (total + 1)
  asks-few c total u less h n = record {
    ready = h.ready;
    short = record { frame = h.short.frame; callers = h.short.callers };
    asked = omega (arith, less, length-append c.answers (n ∷ []));
    room = λ one some. u some;
    units = h.units;
    few = omega (arith, h.few, length-append c.answers (n ∷ []));
    fewer = λ some. omega (arith, h.fewer some, length-append c.answers (n ∷ []));
  }

  -- ---- the ends of labels and frames

  give_back-few : (c : Config W) (total : ℕ) (vs : List (Value W)) (fs : List (Frame W)) → c.callers ≡ fs → length c.answers ≡ 0 → Few m steps c total → Keeps c total (give_back c vs fs)
  give_back-few c total vs [] cs none h = tt
  give_back-few c total vs (f ∷ fs) cs none h =
      let was : bottom c.frame c.callers ≡ bottom f fs = ap (λ l. bottom c.frame l) cs in
      let end : SameEnd (bottom (record f { here = given vs f.here }) fs) (bottom f fs) = bottom-same (record f { here = given vs f.here }) f fs (record { code = refl; outer = refl }) in
      let ready : IsOutermost (bottom f fs) = subst IsOutermost was h.ready in
      let same : length (bottom (record f { here = given vs f.here }) fs).here.code ≡ length (bottom c.frame c.callers).here.code = ap (λ l. length l) end.code ∙ sym (ap (λ f. length f.here.code) was) in
      let fewer : total + length (bottom c.frame c.callers).here.code ≤ most * c.units + length c.answers + 1 = h.fewer (omega (arith, ap (λ l. length l) cs)) in
      let short : FrameShort f × FramesShort fs = subst FramesShort cs h.short.callers in
      record {
        ready = record { outer = end.outer ∙ ready.outer; calls = subst AreCalls (sym end.code) ready.calls };
        short = record { frame = record { seqs = short.0.seqs; here = record { again = short.0.here.again; code = short.0.here.code }; outer = short.0.outer }; callers = short.1 };
        asked = omega (arith, none);
        room = λ one some. absurd (omega (arith, one, none));
        units = h.units;
        few = omega (arith, same, fewer);
        fewer = λ some. omega (arith, same, fewer);
      }

  finish-few : (c : Config W) (total : ℕ) (vs : List (Value W)) (ls : List (Label W)) → c.frame.outer ≡ ls → length c.answers ≡ 0 → Few m steps c total → Keeps c total (finish c vs ls)
  finish-few c total vs [] e none h = give_back-few c total vs c.callers refl none h
  finish-few c total vs (l ∷ ls) e none h = at c.callers refl
    where
      at : (fs : List (Frame W)) → c.callers ≡ fs → Keeps c total (Goes (record c { frame = record (c.frame) { here = given vs l; outer = ls } }))
      at [] cs = let alone : c.frame.outer ≡ [] = (subst IsOutermost (ap (λ l. bottom c.frame l) cs) h.ready).outer in
          absurd (let both : l ∷ ls ≡ [] = sym e ∙ alone in cc)
      at (f ∷ fs) cs =
          let was : bottom c.frame c.callers ≡ bottom f fs = ap (λ l. bottom c.frame l) cs in
          let now : bottom (record (c.frame) { here = given vs l; outer = ls }) c.callers ≡ bottom f fs = ap (λ k. bottom (record (c.frame) { here = given vs l; outer = ls }) k) cs in
          let both : bottom (record (c.frame) { here = given vs l; outer = ls }) c.callers ≡ bottom c.frame c.callers = now ∙ sym was in
          let short : LabelShort l × LabelsShort ls = subst LabelsShort e h.short.frame.outer in
          let same : length (bottom (record (c.frame) { here = given vs l; outer = ls }) c.callers).here.code ≡ length (bottom c.frame c.callers).here.code = ap (λ f. length f.here.code) both in
          record {
            ready = subst IsOutermost (sym both) h.ready;
            short = record { frame = record { seqs = h.short.frame.seqs; here = record { again = short.0.again; code = short.0.code }; outer = short.1 }; callers = h.short.callers };
            asked = omega (arith, none);
            room = λ one some. absurd (omega (arith, one, none));
            units = h.units;
            few = omega (arith, same, h.few);
            fewer = λ some. omega (arith, same, h.fewer some);
          }

  -- ---- a step

  legal-few : (c : Config W) (total : ℕ) (i : Instr) (is : List Instr) (f : Frame W) (fs : List (Frame W)) (x : Next W) → c.frame.here.code ≡ i ∷ is → c.callers ≡ f ∷ fs →
      c.units < steps → Few m steps c total → Legal m (past c is) (length c.answers) (most_questions i) x → Keeps c total x
  legal-few c total i is f fs (Goes d) code cs u h l = inner-few c d total i is f fs code cs u h l
  legal-few c total i is f fs (Draws wide d) code cs u h l = inner-few c d total i is f fs code cs u h (Stays l)
  legal-few c total i is f fs (Asks q w) code cs u h l = asks-few c total (λ some. u) (rw (code, cs) l) h
  legal-few c total i is f fs (Ends e) code cs u h l = tt

  call-few : (c : Config W) (total x : ℕ) (is : List Instr) (y : Next W) → c.callers ≡ [] → c.frame.outer ≡ [] → c.frame.here.code ≡ Call x ∷ is → AreCalls is → Few m steps c total →
      CallMoves m (past c is) (length c.answers) (function_questions (slice_get (functions m) x)) y → Keeps c total y
  call-few c total x is (Goes d) cs o code calls h l = outer-few c d total x is cs o code calls h l
  call-few c total x is (Draws wide d) cs o code calls h l = outer-few c d total x is cs o code calls h (inl l)
  call-few c total x is (Asks q w) cs o code calls h l = asks-few c total (λ some. absurd (omega (arith, some, ap (λ l. length l) cs))) (rw (code, cs) l) h
  call-few c total x is (Ends e) cs o code calls h l = tt

  step-few : (c : Config W) (total : ℕ) → (IsTrue (is_due c.frame.here.code c.callers) → c.units < steps) → Few m steps c total → Keeps c total (step K m c)
  step-few c total u h = at c.frame.here.code refl
    where
      at : (code : List Instr) → c.frame.here.code ≡ code → Keeps c total (step_code K m c code)
      at [] e = finish-few c total c.frame.here.vals c.frame.outer refl (let none : length c.answers ≤ 0 = subst (λ l. length c.answers ≤ most_here m l c.callers) e h.asked in omega arith) h
      at (i ∷ is) e = under c.callers refl
        where
          under : (fs : List (Frame W)) → c.callers ≡ fs → Keeps c total (act K m (past c is) c.frame.here.vals c.answers i)
          under [] cs =
              let alone : IsOutermost c.frame = subst IsOutermost (ap (λ l. bottom c.frame l) cs) h.ready in
              let calls : AreCalls (i ∷ is) = subst AreCalls e alone.calls in
              subst (λ i. Keeps c total (act K m (past c is) c.frame.here.vals c.answers i)) (sym calls.0.1)
              (call-few c total calls.0.0 is _ cs alone.outer (e ∙ ap (λ i. i ∷ is) calls.0.1) calls.1 h
              (call-moves K m (past c is) c.frame.here.vals c.answers calls.0.0))
          under (f ∷ fs) cs =
              legal-few c total i is f fs _ e cs (u (rw (e, cs) refl)) h (act-legal K m (past c is) c.frame.here.vals c.answers i)

  -- ---- a turn, and many

  module _ (draw : ℕ → Bool → W) (reply : Reply W) where
    abbrev pub Fine : Going W → Type 0
    Fine g = Few m steps g.config (length g.trace.answers)

    symbol-few : (d : Config W) (wide : Bool) (w : W) (total : ℕ) → Few m steps d total → Few m steps (with_symbol d wide w) total
    symbol-few d wide w total h =
        let end : SameEnd (bottom (with_symbol d wide w).frame d.callers) (bottom d.frame d.callers) = symbol-same K m steps d wide w in
        record {
          ready = record { outer = end.outer ∙ h.ready.outer; calls = subst AreCalls (sym end.code) h.ready.calls };
          short = record { frame = record { seqs = h.short.frame.seqs; here = record { again = h.short.frame.here.again; code = h.short.frame.here.code }; outer = h.short.frame.outer }; callers = h.short.callers };
          asked = h.asked;
          room = h.room;
          units = h.units;
          few = omega (arith, h.few, ap (λ l. length l) end.code);
          fewer = λ some. omega (arith, h.fewer some, ap (λ l. length l) end.code);
        }

    -- what a turn comes to
    abbrev Goes-on : Turned W → Type 0
    Goes-on (On t) = Fine t
    Goes-on (Over halt trace) = Unit {0}

    replied-few : (g : Going W) (q : Question) (w : W) (n : Option ℕ) → ((n : ℕ) → Few m steps (answered g.config n) (length g.trace.answers + 1)) → Goes-on (replied g q w n)
    replied-few g q w None h = tt
    replied-few g q w (Some n) h = subst (λ total. Few m steps (answered g.config n) total) (sym (length-append g.trace.answers (n ∷ []))) (h n)

    followed-few : (g : Going W) (x : Next W) → Keeps g.config (length g.trace.answers) x → Goes-on (follow_by draw reply g x)
    followed-few g (Goes d) h = h
    followed-few g (Draws wide d) h = symbol-few d wide (draw (length g.trace.symbols) wide) _ h
    followed-few g (Asks q w) h = replied-few g q w (reply q w g.trace.answers) h
    followed-few g (Ends e) h = tt

    turn-few : (g : Going W) → Fine g → Goes-on (follow K draw reply m steps g)
    turn-few g h = deep (nat_lt most_frames (length g.config.callers))
      where
        due : (b : Bool) → is_due g.config.frame.here.code g.config.callers && nat_le steps g.config.units ≡ b →
            Goes-on (if b then Over Bound g.trace else follow_by draw reply g (step K m g.config))
        due true f = tt
        due false f = followed-few g (step K m g.config) (step-few g.config (length g.trace.answers) (λ d. grind (arith, nat_tests, f, d)) h)

        deep : (b : Bool) → Goes-on (if b then Over Deep g.trace else if is_due g.config.frame.here.code g.config.callers && nat_le steps g.config.units then Over Bound g.trace else follow_by draw reply g (step K m g.config))
        deep true = tt
        deep false = due (is_due g.config.frame.here.code g.config.callers && nat_le steps g.config.units) refl

    -- where it is over, nothing more was given
    over-replied : (g : Going W) (q : Question) (w : W) (n : Option ℕ) (i : Halt W) (s : Trace) → replied g q w n ≡ Over i s → s ≡ g.trace
    over-replied g q w None i s e = let f : Over (Stands q w) g.trace ≡ Over i s = e in cc
    over-replied g q w (Some n) i s e = absurd cc

    over-followed : (g : Going W) (x : Next W) (i : Halt W) (s : Trace) → follow_by draw reply g x ≡ Over i s → s ≡ g.trace
    over-followed g (Goes d) i s e = absurd cc
    over-followed g (Draws wide d) i s e = absurd cc
    over-followed g (Asks q w) i s e = over-replied g q w (reply q w g.trace.answers) i s e
    over-followed g (Ends x) i s e = let f : Over (Ended x) g.trace ≡ Over i s = e in cc

    over-trace : (g : Going W) (i : Halt W) (s : Trace) → follow K draw reply m steps g ≡ Over i s → s ≡ g.trace
    over-trace g i s e = deep (nat_lt most_frames (length g.config.callers)) e
      where
        due : (b : Bool) → (if b then Over Bound g.trace else follow_by draw reply g (step K m g.config)) ≡ Over i s → s ≡ g.trace
        due true e = let f : Over Bound g.trace ≡ Over i s = e in cc
        due false e = over-followed g (step K m g.config) i s e

        deep : (b : Bool) → (if b then Over Deep g.trace else if is_due g.config.frame.here.code g.config.callers && nat_le steps g.config.units then Over Bound g.trace else follow_by draw reply g (step K m g.config)) ≡ Over i s → s ≡ g.trace
        deep true e = let f : Over Deep g.trace ≡ Over i s = e in cc
        deep false e = due (is_due g.config.frame.here.code g.config.callers && nat_le steps g.config.units) e

    -- so many answers there are at most
    few-answers : (c : Config W) (total : ℕ) → 1 ≤ steps → Few m steps c total → total ≤ 4294967296 * steps
    few-answers c total some h = at c.frame.here.code c.callers refl refl
      where
        at : (code : List Instr) (fs : List (Frame W)) → c.frame.here.code ≡ code → c.callers ≡ fs → total ≤ 4294967296 * steps
        at [] [] e cs =
            let none : length c.answers ≤ 0 = subst (λ l. length c.answers ≤ most_here m l c.callers) e h.asked in
            elim (zero_or c.units) [
              | inl z ↦ omega (arith, z, none, h.few, some)
              | inr u ↦ omega (arith, u, none, h.fewer (omega arith), some, h.units)
            ]
        at [] (f ∷ fs) e cs =
            let none : length c.answers ≤ 0 = subst (λ l. length c.answers ≤ most_here m l c.callers) e h.asked in
            omega (arith, none, h.fewer (omega (arith, ap (λ l. length l) cs)), some, h.units)
        at (i ∷ is) [] e cs =
            let alone : IsOutermost c.frame = subst IsOutermost (ap (λ l. bottom c.frame l) cs) h.ready in
            let calls : AreCalls (i ∷ is) = subst AreCalls e alone.calls in
            let asked : length c.answers ≤ outer_questions m i = subst (λ l. length c.answers ≤ most_here m (i ∷ is) l) cs (subst (λ l. length c.answers ≤ most_here m l c.callers) e h.asked) in
            let asked : length c.answers ≤ function_questions (slice_get (functions m) calls.0.0) = subst (λ i. length c.answers ≤ outer_questions m i) calls.0.1 asked in
            let one : function_questions (slice_get (functions m) calls.0.0) ≤ 1 = questions-one (slice_get (functions m) calls.0.0) in
            let was : length (bottom c.frame c.callers).here.code ≡ suc (length is) = ap (λ l. length (bottom c.frame l).here.code) cs ∙ ap (λ l. length l) e in
            elim (zero_or c.units) [
              | inl z ↦ omega (arith, z, asked, one, was, h.few, some)
              | inr u ↦ omega (arith, u, asked, one, was, h.fewer (omega arith), some, h.units)
            ]
        at (i ∷ is) (f ∷ fs) e cs =
            let asked : length c.answers ≤ most_questions i = subst (λ l. length c.answers ≤ most_here m (i ∷ is) l) cs (subst (λ l. length c.answers ≤ most_here m l c.callers) e h.asked) in
            let short : most_questions i ≤ most = (past-short c i is e h.short).0 in
            let fewer : total + length (bottom c.frame c.callers).here.code ≤ most * c.units + length c.answers + 1 = h.fewer (omega (arith, ap (λ l. length l) cs)) in
            elim (zero_or (length c.answers)) [
              | inl z ↦ omega (arith, z, fewer, some, h.units)
              | inr u ↦ omega (arith, asked, short, fewer, some, h.room u (omega (arith, ap (λ l. length l) cs)))
            ]

    pub runs-few : (n : ℕ) (g : Going W) (halt : Halt W) (t : Trace) → 1 ≤ steps → Fine g → follows K draw reply m steps n g ≡ Over halt t → length t.answers ≤ 4294967296 * steps
    runs-few zero g halt t some h e = absurd cc
    runs-few (suc n) g halt t some h e = go {x = follow K draw reply m steps g} (λ x h e. runs-few n x halt t some h e) (turn-few g h) (over-trace g) e
      where
        go : {x : Turned W} → ((y : Going W) → Fine y → follows K draw reply m steps n y ≡ Over halt t → length t.answers ≤ 4294967296 * steps) →
            Goes-on x → ((i : Halt W) (s : Trace) → x ≡ Over i s → s ≡ g.trace) → then_follow x (follows K draw reply m steps n) ≡ Over halt t → length t.answers ≤ 4294967296 * steps
        go {x = On y} on fine over e = on y fine e
        go {x = Over i s} on fine over e =
            let same : s ≡ t = cc in
            let trace : g.trace ≡ t = sym (over i s refl) ∙ same in
            subst (λ t. length t.answers ≤ 4294967296 * steps) trace (few-answers g.config (length g.trace.answers) some h)
