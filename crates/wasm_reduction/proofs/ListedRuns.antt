-- A run whose answers begin as a list says is the run that is answered by the list.
use Rattle.std.proofs.Common.{◌≡◌, ℕ, zero, suc, ◌≤◌, List, [], ◌∷◌, ◌++◌, length, refl, sym, ap, ◌∙◌, subst, inl, inr, arith, append_assoc, append-nil}
use Rattle.std.specs.Prelude.{Bool, true, false, ◌&&◌, nat_lt, nat_le, if◌then◌else◌, Option, Some, None, slice_get, Result, Ok, Err}
use Rattle.std.proofs.lemmas.Bool.{cases_lt}
use Rattle.wasm_ast.specs.declared.modules.Module.{Module}
use Rattle.wasm_ast.specs.declared.runs.Value.{Value as Argument}
use Rattle.wasm_rules.specs.Words.{Kind, numbers, taken}
use Rattle.wasm_reduction.specs.Configurations.{Config, Question, End, Next, Goes, Draws, Asks, Ends}
use Rattle.wasm_reduction.specs.Steps.{step}
use Rattle.wasm_reduction.specs.Instantiation.{first_config}
use Rattle.wasm_reduction.specs.Runs.{Trace, Going, Halt, Stands, no_trace, started_by, Deep, Bound, Turned, On, Over, Reply, replied, follow_by, is_due, most_frames, follow, then_follow, follows, started, runs, answer_of, by_value, by_list, outcome_of, draws_from, Run, run_of, runs_at, IsRun}
use Rattle.wasm_reduction.specs.RunImages.{trace_of, IsAnswered, BeginsWith, AsksNext}
use Rattle.wasm_reduction.proofs.WideStarts.{map-of}

pub begins-self : (xs : List ℕ) → BeginsWith xs xs
begins-self xs = ([], sym (append-nil xs))

pub begins-trans : (xs ys zs : List ℕ) → BeginsWith ys xs → BeginsWith zs ys → BeginsWith zs xs
begins-trans xs ys zs h k = (h.0 ++ k.0, k.1 ∙ ap (λ l. l ++ k.0) h.1 ∙ append_assoc xs h.0 k.0)

pub next-get : (xs zs : List ℕ) (a : ℕ) → slice_get (xs ++ a ∷ zs) (length xs) ≡ Some a
next-get [] zs a = refl
next-get (x ∷ xs) zs a = next-get xs zs a

pub get-past : (xs : List ℕ) → slice_get xs (length xs) ≡ None
get-past [] = refl
get-past (x ∷ xs) = get-past xs

get-longer : (xs zs : List ℕ) (k a : ℕ) → slice_get xs k ≡ Some a → slice_get (xs ++ zs) k ≡ Some a
get-longer [] zs k a e = absurd cc
get-longer (x ∷ xs) zs zero a e = e
get-longer (x ∷ xs) zs (suc k) a e = get-longer xs zs k a e

-- the next of the list, past those that it begins with
next-within : (A given : List ℕ) (n : ℕ) → BeginsWith A given → slice_get A (length given) ≡ Some n → BeginsWith A (given ++ n ∷ [])
next-within A given n b e = at b.0 b.1
  where
    at : (zs : List ℕ) → A ≡ given ++ zs → BeginsWith A (given ++ n ∷ [])
    at [] f = absurd (let past : slice_get A (length given) ≡ None = ap (λ l. slice_get l (length given)) (f ∙ append-nil given) ∙ get-past given in let both : None ≡ Some n = sym past ∙ e in cc)
    at (z ∷ zs) f =
        let both : Some z ≡ Some n = sym (ap (λ l. slice_get l (length given)) f ∙ next-get given zs z) ∙ e in
        let same : z ≡ n = cc in
        (zs, f ∙ ap (λ z. given ++ z ∷ zs) same ∙ sym (append_assoc given (n ∷ []) zs))

-- nothing is past those that it begins with
pub all-given : (A given : List ℕ) → BeginsWith A given → slice_get A (length given) ≡ None → given ≡ A
all-given A given b e = at b.0 b.1
  where
    at : (zs : List ℕ) → A ≡ given ++ zs → given ≡ A
    at [] f = sym (f ∙ append-nil given)
    at (z ∷ zs) f = absurd (let both : Some z ≡ None = sym (ap (λ l. slice_get l (length given)) f ∙ next-get given zs z) ∙ e in cc)

-- ---- any kind: answers are never taken back, and more answers change nothing while the run goes on

module _ {W : Type 0} (K : Kind W) (draw : ℕ → Bool → W) (m : Module) (steps : ℕ) where
  abbrev Answers : Turned W → List ℕ
  Answers x = (trace_of x).answers

  module _ (reply : Reply W) where
    choice-grows : (b : Bool) (given : List ℕ) (x y : Turned W) → BeginsWith (Answers x) given → BeginsWith (Answers y) given → BeginsWith (Answers (if b then x else y)) given
    choice-grows true given x y p q = p
    choice-grows false given x y p q = q

    by-grows : (g : Going W) (x : Next W) → BeginsWith (Answers (follow_by draw reply g x)) g.trace.answers
    by-grows g (Goes c) = begins-self g.trace.answers
    by-grows g (Draws wide c) = begins-self g.trace.answers
    by-grows g (Asks q w) = at (reply q w g.trace.answers)
      where
        at : (o : Option ℕ) → BeginsWith (Answers (replied g q w o)) g.trace.answers
        at None = begins-self g.trace.answers
        at (Some n) = (n ∷ [], refl)
    by-grows g (Ends e) = begins-self g.trace.answers

    turn-grows : (g : Going W) → BeginsWith (Answers (follow K draw reply m steps g)) g.trace.answers
    turn-grows g =
        choice-grows (nat_lt most_frames (length g.config.callers)) g.trace.answers (Over Deep g.trace) _ (begins-self g.trace.answers)
        (choice-grows (is_due g.config.frame.here.code g.config.callers && nat_le steps g.config.units) g.trace.answers (Over Bound g.trace) _ (begins-self g.trace.answers) (by-grows g (step K m g.config)))

    then-grows : (x : Turned W) (go : Going W → Turned W) → ((g : Going W) → BeginsWith (Answers (go g)) g.trace.answers) → BeginsWith (Answers (then_follow x go)) (Answers x)
    then-grows (On g) go f = f g
    then-grows (Over halt trace) go f = begins-self trace.answers

    follows-grow : (n : ℕ) (g : Going W) → BeginsWith (Answers (follows K draw reply m steps n g)) g.trace.answers
    follows-grow zero g = begins-self g.trace.answers
    follows-grow (suc n) g =
        begins-trans g.trace.answers (Answers (follow K draw reply m steps g)) (Answers (follows K draw reply m steps (suc n) g)) (turn-grows g)
        (then-grows (follow K draw reply m steps g) (follows K draw reply m steps n) (λ g. follows-grow n g))

    pub later-grow : (n k : ℕ) → n ≤ k → (g : Going W) → BeginsWith (Answers (follows K draw reply m steps k g)) (Answers (follows K draw reply m steps n g))
    later-grow zero k l g = follows-grow k g
    later-grow (suc n) zero l g = absurd (omega (arith, l))
    later-grow (suc n) (suc k) l g = at (λ v. later-grow n k (omega (arith, l)) v) (follow K draw reply m steps g)
      where
        at : ((v : Going W) → BeginsWith (Answers (follows K draw reply m steps k v)) (Answers (follows K draw reply m steps n v))) → (x : Turned W) →
            BeginsWith (Answers (then_follow x (follows K draw reply m steps k))) (Answers (then_follow x (follows K draw reply m steps n)))
        at f (On v) = f v
        at f (Over halt trace) = begins-self trace.answers

    -- a run that is over stays over
    pub stays-over : (n k : ℕ) → n ≤ k → (g : Going W) (halt : Halt W) (trace : Trace) → follows K draw reply m steps n g ≡ Over halt trace → follows K draw reply m steps k g ≡ Over halt trace
    stays-over zero k l g halt trace e = absurd cc
    stays-over (suc n) zero l g halt trace e = absurd (omega (arith, l))
    stays-over (suc n) (suc k) l g halt trace e = at (λ v e. stays-over n k (omega (arith, l)) v halt trace e) (follow K draw reply m steps g) e
      where
        at : ((v : Going W) → follows K draw reply m steps n v ≡ Over halt trace → follows K draw reply m steps k v ≡ Over halt trace) → (x : Turned W) →
            then_follow x (follows K draw reply m steps n) ≡ Over halt trace → then_follow x (follows K draw reply m steps k) ≡ Over halt trace
        at f (On v) e = f v e
        at f (Over i t) e = e

  -- ---- more answers

  module _ (A zs : List ℕ) where
    -- what a turn comes to without a question that has no answer
    by-longer : (g : Going W) (x : Next W) (y : Turned W) → IsAnswered y → follow_by draw (by_list A) g x ≡ y → follow_by draw (by_list (A ++ zs)) g x ≡ y
    by-longer g (Goes c) y h e = e
    by-longer g (Draws wide c) y h e = e
    by-longer g (Asks q w) y h e = at (slice_get A (length g.trace.answers)) refl e
      where
        at : (o : Option ℕ) → slice_get A (length g.trace.answers) ≡ o → replied g q w o ≡ y → replied g q w (slice_get (A ++ zs) (length g.trace.answers)) ≡ y
        at None f e = absurd (subst IsAnswered (sym e) h)
        at (Some n) f e = ap (λ o. replied g q w o) (get-longer A zs (length g.trace.answers) n f) ∙ e
    by-longer g (Ends x) y h e = e

    choice-longer : (b : Bool) (over x y z : Turned W) → (x ≡ z → y ≡ z) → (if b then over else x) ≡ z → (if b then over else y) ≡ z
    choice-longer true over x y z f e = e
    choice-longer false over x y z f e = f e

    turn-longer : (g : Going W) (y : Turned W) → IsAnswered y → follow K draw (by_list A) m steps g ≡ y → follow K draw (by_list (A ++ zs)) m steps g ≡ y
    turn-longer g y h e =
        choice-longer (nat_lt most_frames (length g.config.callers)) (Over Deep g.trace) _ _ y
        (choice-longer (is_due g.config.frame.here.code g.config.callers && nat_le steps g.config.units) (Over Bound g.trace) _ _ y (by-longer g (step K m g.config) y h)) e

    pub follows-longer : (n : ℕ) (g : Going W) (y : Turned W) → IsAnswered y → follows K draw (by_list A) m steps n g ≡ y → follows K draw (by_list (A ++ zs)) m steps n g ≡ y
    follows-longer zero g y h e = e
    follows-longer (suc n) g y h e = at (λ v e. follows-longer n v y h e) (follow K draw (by_list A) m steps g) refl e
      where
        at : ((v : Going W) → follows K draw (by_list A) m steps n v ≡ y → follows K draw (by_list (A ++ zs)) m steps n v ≡ y) → (x : Turned W) → follow K draw (by_list A) m steps g ≡ x →
            then_follow x (follows K draw (by_list A) m steps n) ≡ y → follows K draw (by_list (A ++ zs)) m steps (suc n) g ≡ y
        at f (On v) is e = ap (λ x. then_follow x (follows K draw (by_list (A ++ zs)) m steps n)) (turn-longer g (On v) tt is) ∙ f v e
        at f (Over halt trace) is e =
            ap (λ x. then_follow x (follows K draw (by_list (A ++ zs)) m steps n)) (turn-longer g (Over halt trace) (subst IsAnswered (sym e) h) is) ∙ e

  -- ---- where a run that is answered by a list stands

  -- the turn asks this question, whoever answers
  abbrev pub IsAsking : Going W → Question → W → Type 0
  IsAsking g q w = (step K m g.config ≡ Asks q w) × ((reply : Reply W) → follow K draw reply m steps g ≡ follow_by draw reply g (step K m g.config))

  module _ (A : List ℕ) where
    -- a bound that isn't passed
    choice-asks : (b : Bool) (over : Turned W) (x : Reply W → Turned W) (y : Turned W) → (over ≡ y → ⊥) → (if b then over else x (by_list A)) ≡ y → ((reply : Reply W) → (if b then over else x reply) ≡ x reply) × (x (by_list A) ≡ y)
    choice-asks true over x y n e = absurd (n e)
    choice-asks false over x y n e = ((λ reply. refl), e)

    by-asks : (g : Going W) (x : Next W) (q : Question) (w : W) (trace : Trace) → follow_by draw (by_list A) g x ≡ Over (Stands q w) trace → (x ≡ Asks q w) × (g.trace ≡ trace) × (slice_get A (length g.trace.answers) ≡ None)
    by-asks g (Goes c) q w trace e = absurd cc
    by-asks g (Draws wide c) q w trace e = absurd cc
    by-asks g (Ends x) q w trace e = absurd cc
    by-asks g (Asks p v) q w trace e = at (slice_get A (length g.trace.answers)) refl e
      where
        at : (o : Option ℕ) → slice_get A (length g.trace.answers) ≡ o → replied g p v o ≡ Over (Stands q w) trace → (Asks p v ≡ Asks q w) × (g.trace ≡ trace) × (slice_get A (length g.trace.answers) ≡ None)
        at (Some n) f e = absurd cc
        at None f e =
            let question : p ≡ q = cc in
            let word : v ≡ w = cc in
            let trace : g.trace ≡ trace = cc in
            (ap (λ p. Asks p v) question ∙ ap (λ v. Asks q v) word, trace, f)

    pub turn-asks : (g : Going W) (q : Question) (w : W) (trace : Trace) → follow K draw (by_list A) m steps g ≡ Over (Stands q w) trace → IsAsking g q w × (g.trace ≡ trace) × (slice_get A (length g.trace.answers) ≡ None)
    turn-asks g q w trace e =
        let deep = choice-asks (nat_lt most_frames (length g.config.callers)) (Over Deep g.trace) (λ reply. if is_due g.config.frame.here.code g.config.callers && nat_le steps g.config.units then Over Bound g.trace else follow_by draw reply g (step K m g.config)) (Over (Stands q w) trace) (λ e. cc) e in
        let due = choice-asks (is_due g.config.frame.here.code g.config.callers && nat_le steps g.config.units) (Over Bound g.trace) (λ reply. follow_by draw reply g (step K m g.config)) (Over (Stands q w) trace) (λ e. cc) deep.1 in
        let asked = by-asks g (step K m g.config) q w trace due.1 in
        ((asked.0, λ reply. deep.0 reply ∙ due.0 reply), asked.1, asked.2)

    pub record Asked (g : Going W) (q : Question) (w : W) (trace : Trace) : Type 0 where
      pub turns : ℕ
      pub at : Going W
      pub comes : follows K draw (by_list A) m steps turns g ≡ On at
      pub asks : IsAsking at q w
      pub given : at.trace ≡ trace
      pub none : slice_get A (length at.trace.answers) ≡ None

    pub follows-ask : (n : ℕ) (g : Going W) (q : Question) (w : W) (trace : Trace) → follows K draw (by_list A) m steps n g ≡ Over (Stands q w) trace → Asked g q w trace
    follows-ask zero g q w trace e = absurd cc
    follows-ask (suc n) g q w trace e = at (λ v e. follows-ask n v q w trace e) (follow K draw (by_list A) m steps g) refl e
      where
        at : ((v : Going W) → follows K draw (by_list A) m steps n v ≡ Over (Stands q w) trace → Asked v q w trace) → (x : Turned W) → follow K draw (by_list A) m steps g ≡ x →
            then_follow x (follows K draw (by_list A) m steps n) ≡ Over (Stands q w) trace → Asked g q w trace
        at f (On v) is e =
            let a = f v e in
            record { turns = suc a.turns; at = a.at; comes = ap (λ x. then_follow x (follows K draw (by_list A) m steps a.turns)) is ∙ a.comes; asks = a.asks; given = a.given; none = a.none }
        at f (Over halt s) is e =
            let a = turn-asks g q w trace (is ∙ e) in
            record { turns = 0; at = g; comes = refl; asks = a.0; given = a.1; none = a.2 }

    -- what it has been given is a beginning of the list
    abbrev Within : Turned W → Type 0
    Within x = BeginsWith A (Answers x)

    choice-within : (b : Bool) (x y : Turned W) → Within x → Within y → Within (if b then x else y)
    choice-within true x y p q = p
    choice-within false x y p q = q

    by-within : (g : Going W) (x : Next W) → BeginsWith A g.trace.answers → Within (follow_by draw (by_list A) g x)
    by-within g (Goes c) b = b
    by-within g (Draws wide c) b = b
    by-within g (Ends x) b = b
    by-within g (Asks q w) b = at (slice_get A (length g.trace.answers)) refl
      where
        at : (o : Option ℕ) → slice_get A (length g.trace.answers) ≡ o → Within (replied g q w o)
        at None f = b
        at (Some n) f = next-within A g.trace.answers n b f

    turn-within : (g : Going W) → BeginsWith A g.trace.answers → Within (follow K draw (by_list A) m steps g)
    turn-within g b =
        choice-within (nat_lt most_frames (length g.config.callers)) (Over Deep g.trace) _ b
        (choice-within (is_due g.config.frame.here.code g.config.callers && nat_le steps g.config.units) (Over Bound g.trace) _ b (by-within g (step K m g.config) b))

    pub follows-within : (n : ℕ) (g : Going W) → BeginsWith A g.trace.answers → Within (follows K draw (by_list A) m steps n g)
    follows-within zero g b = b
    follows-within (suc n) g b = at (follow K draw (by_list A) m steps g) (turn-within g b) (λ v b. follows-within n v b)
      where
        at : (x : Turned W) → Within x → ((v : Going W) → BeginsWith A v.trace.answers → Within (follows K draw (by_list A) m steps n v)) → Within (then_follow x (follows K draw (by_list A) m steps n))
        at (On v) b f = f v b
        at (Over halt trace) b f = b

  -- one turn more
  pub follows-next : (reply : Reply W) (n : ℕ) (g : Going W) → follows K draw reply m steps (suc n) g ≡ then_follow (follows K draw reply m steps n g) (follow K draw reply m steps)
  follows-next reply zero g = at (follow K draw reply m steps g)
    where
      at : (x : Turned W) → then_follow x (follows K draw reply m steps 0) ≡ x
      at (On v) = refl
      at (Over halt trace) = refl
  follows-next reply (suc n) g = at (λ v. follows-next reply n v) (follow K draw reply m steps g)
    where
      at : ((v : Going W) → follows K draw reply m steps (suc n) v ≡ then_follow (follows K draw reply m steps n v) (follow K draw reply m steps)) → (x : Turned W) →
          then_follow x (follows K draw reply m steps (suc n)) ≡ then_follow (then_follow x (follows K draw reply m steps n)) (follow K draw reply m steps)
      at f (On v) = f v
      at f (Over halt trace) = refl

pub runs-longer : {W : Type 0} (K : Kind W) (draw : ℕ → Bool → W) (m : Module) (entry : ℕ) (args : List Argument) (steps n : ℕ) (A zs : List ℕ) (y : Turned W) → IsAnswered y →
    runs K draw (by_list A) m entry args steps n ≡ y → runs K draw (by_list (A ++ zs)) m entry args steps n ≡ y
runs-longer K draw m entry args steps n A zs y h e = at (started K m entry args) e
  where
    at : (x : Turned _) → then_follow x (follows K draw (by_list A) m steps n) ≡ y → then_follow x (follows K draw (by_list (A ++ zs)) m steps n) ≡ y
    at (On g) e = follows-longer K draw m steps A zs n g y h e
    at (Over halt trace) e = e

-- ---- numbers, each answering its question

module _ (K : Kind ℕ) (draw : ℕ → Bool → ℕ) (m : Module) (steps : ℕ) (A : List ℕ) where
  abbrev Listed : Turned ℕ → Turned ℕ → List ℕ → Type 0
  Listed x y given = (y ≡ x) × BeginsWith A given

  by-listed : (g : Going ℕ) (x : Next ℕ) → BeginsWith A (Answers K draw m steps (follow_by draw by_value g x)) → Listed (follow_by draw by_value g x) (follow_by draw (by_list A) g x) g.trace.answers
  by-listed g (Goes c) b = (refl, b)
  by-listed g (Draws wide c) b = (refl, b)
  by-listed g (Asks q w) b =
      let all : A ≡ g.trace.answers ++ answer_of q w ∷ b.0 = b.1 ∙ append_assoc g.trace.answers (answer_of q w ∷ []) b.0 in
      (ap (λ o. replied g q w o) (ap (λ l. slice_get l (length g.trace.answers)) all ∙ next-get g.trace.answers b.0 (answer_of q w)), (answer_of q w ∷ b.0, all))
  by-listed g (Ends e) b = (refl, b)

  choice-listed : (c : Bool) (over x y : Turned ℕ) (given : List ℕ) → (BeginsWith A (Answers K draw m steps over) → BeginsWith A given) → (BeginsWith A (Answers K draw m steps x) → Listed x y given) →
      BeginsWith A (Answers K draw m steps (if c then over else x)) → Listed (if c then over else x) (if c then over else y) given
  choice-listed true over x y given p f b = (refl, p b)
  choice-listed false over x y given p f b = f b

  turn-listed : (g : Going ℕ) → BeginsWith A (Answers K draw m steps (follow K draw by_value m steps g)) → Listed (follow K draw by_value m steps g) (follow K draw (by_list A) m steps g) g.trace.answers
  turn-listed g b =
      choice-listed (nat_lt most_frames (length g.config.callers)) (Over Deep g.trace) _ _ g.trace.answers (λ b. b)
      (λ b. choice-listed (is_due g.config.frame.here.code g.config.callers && nat_le steps g.config.units) (Over Bound g.trace) _ _ g.trace.answers (λ b. b) (by-listed g (step K m g.config)) b) b

  pub follows-listed : (n : ℕ) (g : Going ℕ) → BeginsWith A (Answers K draw m steps (follows K draw by_value m steps n g)) → Listed (follows K draw by_value m steps n g) (follows K draw (by_list A) m steps n g) g.trace.answers
  follows-listed zero g b = (refl, b)
  follows-listed (suc n) g b = at (λ v b. follows-listed n v b) (follow K draw by_value m steps g) refl b
    where
      at : ((v : Going ℕ) → BeginsWith A (Answers K draw m steps (follows K draw by_value m steps n v)) → Listed (follows K draw by_value m steps n v) (follows K draw (by_list A) m steps n v) v.trace.answers) →
          (x : Turned ℕ) → follow K draw by_value m steps g ≡ x → BeginsWith A (Answers K draw m steps (then_follow x (follows K draw by_value m steps n))) →
          Listed (then_follow x (follows K draw by_value m steps n)) (follows K draw (by_list A) m steps (suc n) g) g.trace.answers
      at f (On v) is b =
          let rest = f v b in
          let first = turn-listed g (subst (λ x. BeginsWith A (Answers K draw m steps x)) (sym is) rest.1) in
          (ap (λ x. then_follow x (follows K draw (by_list A) m steps n)) (first.0 ∙ is) ∙ rest.0, first.1)
      at f (Over halt trace) is b =
          let first = turn-listed g (subst (λ x. BeginsWith A (Answers K draw m steps x)) (sym is) b) in
          (ap (λ x. then_follow x (follows K draw (by_list A) m steps n)) (first.0 ∙ is), first.1)

-- ---- from the start

pub runs-listed : (m : Module) (entry : ℕ) (args : List Argument) (input : List ℕ) (steps n k : ℕ) (A : List ℕ) → n ≤ k → BeginsWith A (trace_of (runs_at m entry args input steps k)).answers →
    runs numbers (taken input) (by_list A) m entry args steps n ≡ runs_at m entry args input steps n
runs-listed m entry args input steps n k A l b = at (started numbers m entry args) b
  where
    at : (x : Turned ℕ) → BeginsWith A (trace_of (then_follow x (follows numbers (taken input) by_value m steps k))).answers →
        then_follow x (follows numbers (taken input) (by_list A) m steps n) ≡ then_follow x (follows numbers (taken input) by_value m steps n)
    at (On g) b =
        (follows-listed numbers (taken input) m steps A n g (begins-trans (trace_of (follows numbers (taken input) by_value m steps n g)).answers (trace_of (follows numbers (taken input) by_value m steps k g)).answers A
        (later-grow numbers (taken input) m steps by_value n k l g) b)).0
    at (Over halt trace) b = refl

-- where a run that is answered by a list comes without a question that has no answer, the bounded run whose answers begin with
-- the list comes, too
pub runs-there : (m : Module) (entry : ℕ) (args : List Argument) (input : List ℕ) (steps n : ℕ) (A : List ℕ) (run : Run) (y : Turned ℕ) → IsAnswered y → IsRun m entry args input steps run → BeginsWith run.answers A →
    runs numbers (taken input) (by_list A) m entry args steps n ≡ y → runs_at m entry args input steps n ≡ y
runs-there m entry args input steps n A run y h is b e =
    let longer : runs numbers (taken input) (by_list run.answers) m entry args steps n ≡ y = subst (λ l. runs numbers (taken input) (by_list l) m entry args steps n ≡ y) (sym b.1) (runs-longer numbers (taken input) m entry args steps n A b.0 y h e) in
    at (runs_at m entry args input steps is.0) refl is.1 longer
  where
    same-run : (n k : ℕ) → n ≤ k → (halt : Halt ℕ) (trace : Trace) → runs_at m entry args input steps k ≡ Over halt trace → trace.answers ≡ run.answers →
        runs numbers (taken input) (by_list run.answers) m entry args steps n ≡ runs_at m entry args input steps n
    same-run n k l halt trace e f = runs-listed m entry args input steps n k run.answers l (subst (BeginsWith run.answers) (sym (ap (λ x. (trace_of x).answers) e ∙ f)) (begins-self run.answers))

    at : (x : Turned ℕ) → runs_at m entry args input steps is.0 ≡ x → run_of input x ≡ Some run → runs numbers (taken input) (by_list run.answers) m entry args steps n ≡ y → runs_at m entry args input steps n ≡ y
    at (On g) f e longer = absurd cc
    at (Over halt trace) f e longer =
        let found = map-of (outcome_of halt) (λ outcome. record { outcome = outcome; draws = draws_from input 0 trace.symbols; answers = trace.answers }) run e in
        let answers : trace.answers ≡ run.answers = ap (λ run. run.answers) found.2 in
        elim (cases_lt n is.0) [
          | inl l ↦ sym (same-run n is.0 (omega (arith, l)) halt trace f answers) ∙ longer
          | inr l ↦
              let over : runs numbers (taken input) (by_list run.answers) m entry args steps is.0 ≡ Over halt trace = same-run is.0 is.0 (omega arith) halt trace f answers ∙ f in
              let listed : runs numbers (taken input) (by_list run.answers) m entry args steps n ≡ Over halt trace = still-over (by_list run.answers) (started numbers m entry args) is.0 n l halt trace over in
              let valued : runs_at m entry args input steps n ≡ Over halt trace = still-over by_value (started numbers m entry args) is.0 n l halt trace f in
              valued ∙ sym listed ∙ longer
        ]
      where
        still-over : (reply : Reply ℕ) (x : Turned ℕ) (n k : ℕ) → n ≤ k → (halt : Halt ℕ) (trace : Trace) → then_follow x (follows numbers (taken input) reply m steps n) ≡ Over halt trace →
            then_follow x (follows numbers (taken input) reply m steps k) ≡ Over halt trace
        still-over reply (On g) n k l halt trace e = stays-over numbers (taken input) m steps reply n k l g halt trace e
        still-over reply (Over i s) n k l halt trace e = e

-- ---- and where it stands at a question, the bounded run asks that question, and has the answer of its number next

-- a run that gives something is over
run-over : (m : Module) (entry : ℕ) (args : List Argument) (input : List ℕ) (steps n : ℕ) (run : Run) → (x : Turned ℕ) → run_of input x ≡ Some run → (halt : Halt ℕ) × (trace : Trace) × (x ≡ Over halt trace) × (trace.answers ≡ run.answers)
run-over m entry args input steps n run (On g) e = absurd cc
run-over m entry args input steps n run (Over halt trace) e =
    let found = map-of (outcome_of halt) (λ outcome. record { outcome = outcome; draws = draws_from input 0 trace.symbols; answers = trace.answers }) run e in
    (halt, trace, refl, ap (λ run. run.answers) found.2)

pub begins-empty : (x : Result (Config ℕ) (End ℕ)) (g : Going ℕ) → started_by x ≡ On g → g.trace.answers ≡ []
begins-empty (Ok c) g e = let same : record { config = c; trace = no_trace } ≡ g = cc in sym (ap (λ g. g.trace.answers) same)
begins-empty (Err x) g e = absurd cc

pub begins-unasked : (x : Result (Config ℕ) (End ℕ)) (q : Question) (w : ℕ) (trace : Trace) → started_by x ≡ Over (Stands q w) trace → ⊥
begins-unasked (Ok c) q w trace e = cc
begins-unasked (Err x) q w trace e = cc

pub runs-ask : (m : Module) (entry : ℕ) (args : List Argument) (input : List ℕ) (steps n : ℕ) (A : List ℕ) (run : Run) (q : Question) (w : ℕ) (trace : Trace) → IsRun m entry args input steps run → BeginsWith run.answers A →
    runs numbers (taken input) (by_list A) m entry args steps n ≡ Over (Stands q w) trace → AsksNext m entry args input steps A run q w
runs-ask m entry args input steps n A run q w trace is b e = at (started numbers m entry args) refl e
  where
    at : (x : Turned ℕ) → started numbers m entry args ≡ x → then_follow x (follows numbers (taken input) (by_list A) m steps n) ≡ Over (Stands q w) trace → AsksNext m entry args input steps A run q w
    at (Over halt s) f e = absurd (begins-unasked (first_config numbers m entry args) q w trace (f ∙ e))
    at (On g) f e =
        let a : Asked numbers (taken input) m steps A g q w trace = follows-ask numbers (taken input) m steps A n g q w trace e in
        let empty : g.trace.answers ≡ [] = begins-empty (first_config numbers m entry args) g f in
        let within : BeginsWith A a.at.trace.answers = subst (λ x. BeginsWith A (trace_of x).answers) a.comes (follows-within numbers (taken input) m steps A a.turns g (subst (BeginsWith A) (sym empty) (A, refl))) in
        let all : a.at.trace.answers ≡ A = all-given A a.at.trace.answers within a.none in
        let listed : runs numbers (taken input) (by_list A) m entry args steps a.turns ≡ On a.at = ap (λ x. then_follow x (follows numbers (taken input) (by_list A) m steps a.turns)) f ∙ a.comes in
        let comes : runs_at m entry args input steps a.turns ≡ On a.at = runs-there m entry args input steps a.turns A run (On a.at) tt is b listed in
        let here : follows numbers (taken input) by_value m steps a.turns g ≡ On a.at = sym (ap (λ x. then_follow x (follows numbers (taken input) by_value m steps a.turns)) f) ∙ comes in
        let next : follows numbers (taken input) by_value m steps (suc a.turns) g ≡ follow_by (taken input) by_value a.at (Asks q w) =
        follows-next numbers (taken input) m steps by_value a.turns g ∙ ap (λ x. then_follow x (follow numbers (taken input) by_value m steps)) here
        ∙ a.asks.1 by_value ∙ ap (follow_by (taken input) by_value a.at) a.asks.0 in
        let over = run-over m entry args input steps is.0 run (runs_at m entry args input steps is.0) is.1 in
        let ended : follows numbers (taken input) by_value m steps is.0 g ≡ Over over.0 over.1 = sym (ap (λ x. then_follow x (follows numbers (taken input) by_value m steps is.0)) f) ∙ over.2 in
        record {
          turns = a.turns;
          at = a.at;
          comes = comes;
          answered = all;
          asks = a.asks.0;
          next = elim (cases_lt a.turns is.0) [
            | inl l ↦
                let grown : BeginsWith (trace_of (follows numbers (taken input) by_value m steps is.0 g)).answers (trace_of (follows numbers (taken input) by_value m steps (suc a.turns) g)).answers =
                later-grow numbers (taken input) m steps by_value (suc a.turns) is.0 (omega (arith, l)) g in
                let long : BeginsWith over.1.answers (a.at.trace.answers ++ answer_of q w ∷ []) =
                subst (λ x. BeginsWith over.1.answers (trace_of x).answers) next (subst (λ x. BeginsWith (trace_of x).answers (trace_of (follows numbers (taken input) by_value m steps (suc a.turns) g)).answers) ended grown) in
                subst (λ l. BeginsWith l (A ++ answer_of q w ∷ [])) over.3 (subst (λ l. BeginsWith over.1.answers (l ++ answer_of q w ∷ [])) all long)
            | inr l ↦ absurd (let still : follows numbers (taken input) by_value m steps a.turns g ≡ Over over.0 over.1 = stays-over numbers (taken input) m steps by_value is.0 a.turns l g over.0 over.1 ended in
                let both : On a.at ≡ Over over.0 over.1 = sym here ∙ still in cc)
          ];
        }
