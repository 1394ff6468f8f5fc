-- Opening, turning and ending sequences, on what the code keeps.
use Rattle.std.proofs.Common.{◌≡◌, List, [], ◌∷◌, ◌++◌, refl, sym, ap, ◌∙◌, subst}
use Rattle.std.specs.Prelude.{Bool, true, false, Option, Some, None}
use Rattle.std.proofs.lemmas.List.{append-nil}
use Rattle.std.proofs.lemmas.Option.{same_Some}
use Rattle.wasm_ast.specs.declared.types.ValType.{ValType}
use Rattle.wasm_ast.specs.declared.types.FuncType.{FuncType}
use Rattle.wasm_ast.specs.declared.instructions.Instr.{Instr}
use Rattle.wasm_check.specs.declared.operands.Operand.{Operand}
use Rattle.wasm_check.specs.declared.operands.Operand.TheVariants.{Of}
use Rattle.type_suffixes.specs.declared.lists.Listed.{Listed}
use Rattle.type_suffixes.specs.declared.lists.Listed.TheVariants.{Nothing}
use Rattle.wasm_check.specs.declared.stack.Stack.{Stack as Runs}
use Rattle.wasm_check.specs.declared.open.OpenSeq.{OpenSeq}
use Rattle.wasm_check.specs.Contexts.{Context}
use Rattle.wasm_check.specs.Operands.{operands}
use Rattle.wasm_check.specs.Operators.{arrow}
use Rattle.type_suffixes.specs.Lists.{listed}
use Rattle.wasm_check.specs.code.Runs.{known, open_of, open_seqs, labels_in}
use Rattle.wasm_check.specs.Trees.{Token, Does}
use Rattle.wasm_check.specs.code.Checker.{Stack, bind, when, onto, pops, popped, acts, is_empty, Open, opened, opens, finished, finished_other, closes, second, ends, turns, on_open, reads, start_of, SomeBy}
use Rattle.wasm_check.proofs.Stacks.{bind-some}
use Rattle.wasm_check.proofs.RunLemmas.{open-more, popped-one}

-- ---- whether a sequence may end

-- whether a sequence with these results may end with these operands
abbrev pub MayEnd : Bool → List ValType → Stack → Type 0
MayEnd b results s = (go : Option (List Open)) → finished results s go ≡ when b go

pub ends-not : (results : List ValType) (s p : Stack) → p ≡ s → popped (operands results) p ≡ None → MayEnd false results s
ends-not results s p same e go = at (pops (operands results) s.dead s.ops) refl
  where
    with_ops : List Operand → Option Stack
    with_ops l = Some (record s { ops = l })

    at : (o : Option (List Operand)) → pops (operands results) s.dead s.ops ≡ o → bind o (λ ops. when (is_empty ops) go) ≡ None
    at None f = refl
    at (Some ops) f =
        let both : None ≡ Some (record s { ops = ops }) = sym e ∙ ap (popped (operands results)) same ∙ ap (λ o. bind o with_ops) f in cc

pub ends-as : (results : List ValType) (s p t : Stack) (b : Bool) → p ≡ s → popped (operands results) p ≡ Some t → b ≡ is_empty t.ops → MayEnd b results s
ends-as results s p t b same e f go =
    let g : (ops : List Operand) × (pops (operands results) s.dead s.ops ≡ Some ops) × (Some (record s { ops = ops }) ≡ Some t) = bind-some _ _ t (ap (popped (operands results)) (sym same) ∙ e) in
    let left : record s { ops = g.0 } ≡ t = same_Some (record s { ops = g.0 }) t g.2 in
    ap (λ o. bind o (λ (ops : List Operand). when (is_empty ops) go)) g.1 ∙ ap (λ b. when b go) (ap (λ (u : Stack). is_empty u.ops) left ∙ sym f)

-- ---- a sequence that opens

pub opens-not : (types : List FuncType) (o : OpenSeq) (wanted : List Operand) (new : Open) (os : List Open) → popped wanted (known types o.stack) ≡ None → opens wanted new (open_of types o) os ≡ None
unfolding open_of
opens-not types o wanted new os e = ap (λ p. bind p (λ (s : Stack). Some (new ∷ record (open_of types o) { stack = s } ∷ os))) e

pub opens-goes : (types : List FuncType) (o : OpenSeq) (stack fresh : Runs) (wanted : List Operand) (label params results : Listed) (first : Bool) (seqs one two : List OpenSeq) →
    popped wanted (known types o.stack) ≡ Some (known types stack) → known types fresh ≡ record { dead = false; ops = operands (listed types params) } →
    one ≡ seqs ++ record o { stack = stack } ∷ [] → two ≡ one ++ record { label = label; params = params; results = results; first = first; stack = fresh } ∷ [] →
    opens wanted (opened (listed types label) (arrow (listed types params) (listed types results)) first) (open_of types o) (open_seqs types seqs) ≡ Some (open_seqs types two)
unfolding open_of
opens-goes types o stack fresh wanted label params results first seqs one two e f p q =
    let new : Open = opened (listed types label) (arrow (listed types params) (listed types results)) first in
    let inner : OpenSeq = record { label = label; params = params; results = results; first = first; stack = fresh } in
    let with_stack : Stack → Option (List Open) = λ s. Some (record new { stack = s } ∷ open_of types (record o { stack = stack }) ∷ open_seqs types seqs) in
    let with_outer : List Open → Option (List Open) = λ os. Some (open_of types inner ∷ os) in
    ap (λ p. bind p (λ (s : Stack). Some (new ∷ record (open_of types o) { stack = s } ∷ open_seqs types seqs))) e
    ∙ ap with_stack (sym f) ∙ ap with_outer (sym (open-more types seqs one (record o { stack = stack }) p))
    ∙ ap (λ (os : List Open). Some os) (sym (open-more types one two inner q))

-- the operand of an if is taken before its params
pub first-not : (types : List FuncType) (o : OpenSeq) (t : ValType) (wanted : List Operand) → popped (Of t ∷ []) (known types o.stack) ≡ None → popped (Of t ∷ wanted) (known types o.stack) ≡ None
first-not types o t wanted e = popped-one (Of t) wanted (known types o.stack) ∙ ap (λ r. bind r (popped wanted)) e

pub first-taken : (types : List FuncType) (o : OpenSeq) (t : ValType) (wanted : List Operand) (s : Stack) (r : Option Stack) → popped (Of t ∷ []) (known types o.stack) ≡ Some s → popped wanted s ≡ r →
    popped (Of t ∷ wanted) (known types o.stack) ≡ r
first-taken types o t wanted s r e f = popped-one (Of t) wanted (known types o.stack) ∙ ap (λ r. bind r (popped wanted)) e ∙ f

-- ---- the second part of an if

pub turns-not : (types : List FuncType) (o : OpenSeq) (os : List Open) → o.first ≡ false → turns (open_of types o) os ≡ None
unfolding open_of
turns-not types o os e = ap (λ b. when b (finished (listed types o.results) (known types o.stack) (Some (second (open_of types o) ∷ os)))) e

pub turns-unfinished : (types : List FuncType) (o : OpenSeq) (os : List Open) → o.first ≡ true → MayEnd false (listed types o.results) (known types o.stack) → turns (open_of types o) os ≡ None
unfolding open_of
turns-unfinished types o os e f =
    ap (λ b. when b (finished (listed types o.results) (known types o.stack) (Some (second (open_of types o) ∷ os)))) e ∙ f (Some (second (open_of types o) ∷ os))

pub turns-goes : (types : List FuncType) (o : OpenSeq) (fresh : Runs) (seqs new : List OpenSeq) → o.first ≡ true → MayEnd true (listed types o.results) (known types o.stack) →
    known types fresh ≡ record { dead = false; ops = operands (listed types o.params) } → new ≡ seqs ++ record o { first = false; stack = fresh } ∷ [] → turns (open_of types o) (open_seqs types seqs) ≡ Some (open_seqs types new)
unfolding open_of
turns-goes types o fresh seqs new e f g p =
    let os : List Open = open_seqs types seqs in
    let with_stack : Stack → Option (List Open) = λ s. Some (record (open_of types o) { first = false; stack = s } ∷ os) in
    ap (λ b. when b (finished (listed types o.results) (known types o.stack) (Some (second (open_of types o) ∷ os)))) e ∙ f (Some (second (open_of types o) ∷ os))
    ∙ ap with_stack (sym g) ∙ ap (λ (os : List Open). Some os) (sym (open-more types seqs new (record o { first = false; stack = fresh }) p))

-- ---- a sequence that ends

-- whether the part of an if that isn't written may be empty, where there is one
abbrev pub OtherMayEnd : Bool → List FuncType → OpenSeq → Type 0
OtherMayEnd b types o = (go : Option (List Open)) → finished_other o.first (open_of types o) go ≡ when b go

pub no-other : (types : List FuncType) (o : OpenSeq) → o.first ≡ false → OtherMayEnd true types o
no-other types o e go = ap (λ b. finished_other b (open_of types o) go) e

pub other-as : (types : List FuncType) (o : OpenSeq) (fresh : Runs) (b : Bool) → o.first ≡ true → known types fresh ≡ record { dead = false; ops = operands (listed types o.params) } → MayEnd b (listed types o.results) (known types fresh) →
    OtherMayEnd b types o
unfolding open_of
other-as types o fresh b e f g go = ap (λ b. finished_other b (open_of types o) go) e ∙ ap (λ s. finished (listed types o.results) s go) (sym f) ∙ g go

pub ends-unfinished : (types : List FuncType) (o : OpenSeq) (os : List Open) → MayEnd false (listed types o.results) (known types o.stack) → ends (open_of types o) os ≡ None
unfolding open_of
ends-unfinished types o os f = f (finished_other o.first (open_of types o) (Some (closes (listed types o.results) os)))

pub ends-half : (types : List FuncType) (o : OpenSeq) (os : List Open) → MayEnd true (listed types o.results) (known types o.stack) → OtherMayEnd false types o → ends (open_of types o) os ≡ None
unfolding open_of
ends-half types o os f g = f (finished_other o.first (open_of types o) (Some (closes (listed types o.results) os))) ∙ g (Some (closes (listed types o.results) os))

ends-closed : (types : List FuncType) (o : OpenSeq) (os : List Open) → MayEnd true (listed types o.results) (known types o.stack) → OtherMayEnd true types o → ends (open_of types o) os ≡ Some (closes (listed types o.results) os)
unfolding open_of
ends-closed types o os f g = f (finished_other o.first (open_of types o) (Some (closes (listed types o.results) os))) ∙ g (Some (closes (listed types o.results) os))

pub ends-last : (types : List FuncType) (o : OpenSeq) (old new : List OpenSeq) → MayEnd true (listed types o.results) (known types o.stack) → OtherMayEnd true types o → old ≡ new ++ [] → new ≡ [] →
    ends (open_of types o) (open_seqs types old) ≡ Some (open_seqs types new)
unfolding open_seqs
ends-last types o old new f g h n =
    ends-closed types o (open_seqs types old) f g ∙ ap (λ l. Some (closes (listed types o.results) (open_seqs types l))) (h ∙ append-nil new ∙ n)
    ∙ ap (λ l. Some (open_seqs types l)) (sym n)

pub ends-goes : (types : List FuncType) (o around : OpenSeq) (stack : Runs) (old left new : List OpenSeq) → MayEnd true (listed types o.results) (known types o.stack) → OtherMayEnd true types o → old ≡ left ++ around ∷ [] →
    known types stack ≡ onto (operands (listed types o.results)) (known types around.stack) → new ≡ left ++ record around { stack = stack } ∷ [] → ends (open_of types o) (open_seqs types old) ≡ Some (open_seqs types new)
unfolding open_of
ends-goes types o around stack old left new f g h k n =
    let with_stack : Stack → Option (List Open) = λ s. Some (record (open_of types around) { stack = s } ∷ open_seqs types left) in
    ends-closed types o (open_seqs types old) f g ∙ ap (λ os. Some (closes (listed types o.results) os)) (open-more types left old around h)
    ∙ ap with_stack (sym k) ∙ ap (λ (os : List Open). Some os) (sym (open-more types left new (record around { stack = stack }) n))

-- ---- an instruction in the innermost sequence

pub plain-not : (C : Context) (types : List FuncType) (i : Instr) (o : OpenSeq) (seqs outer : List OpenSeq) → outer ≡ seqs → acts C (labels_in types o.label outer) i (known types o.stack) ≡ None →
    on_open C (Does i) (open_of types o) (open_seqs types seqs) ≡ None
unfolding open_of
plain-not C types i o seqs outer same e =
    ap (λ p. bind p (λ (s : Stack). Some (record (open_of types o) { stack = s } ∷ open_seqs types seqs))) (ap (λ l. acts C (labels_in types o.label l) i (known types o.stack)) (sym same) ∙ e)

pub plain-goes : (C : Context) (types : List FuncType) (i : Instr) (o : OpenSeq) (stack : Runs) (seqs outer new : List OpenSeq) → outer ≡ seqs → acts C (labels_in types o.label outer) i (known types o.stack) ≡ Some (known types stack) →
    new ≡ seqs ++ record o { stack = stack } ∷ [] → on_open C (Does i) (open_of types o) (open_seqs types seqs) ≡ Some (open_seqs types new)
unfolding open_of
plain-goes C types i o stack seqs outer new same e p =
    ap (λ p. bind p (λ (s : Stack). Some (record (open_of types o) { stack = s } ∷ open_seqs types seqs))) (ap (λ l. acts C (labels_in types o.label l) i (known types o.stack)) (sym same) ∙ e)
    ∙ ap (λ (os : List Open). Some os) (sym (open-more types seqs new (record o { stack = stack }) p))

pub reads-none : (C : Context) (types : List FuncType) (t : Token) (old new : List OpenSeq) → old ≡ new ++ [] → new ≡ [] → reads C t (open_seqs types old) ≡ None
unfolding open_seqs
reads-none C types t old new h n = ap (λ l. reads C t (open_seqs types l)) (h ∙ append-nil new ∙ n)

pub reads-some : (C : Context) (types : List FuncType) (t : Token) (o : OpenSeq) (old left : List OpenSeq) (next : List Open) (b : Bool) → old ≡ left ++ o ∷ [] → SomeBy b (on_open C t (open_of types o) (open_seqs types left)) next →
    SomeBy b (reads C t (open_seqs types old)) next
reads-some C types t o old left next b h k = subst (λ os. SomeBy b (reads C t os) next) (sym (open-more types left old o h)) k

pub started : (C : Context) (types : List FuncType) (label results : Listed) (stack : Runs) (none items : List OpenSeq) → listed types label ≡ C.results → listed types results ≡ C.results → known types stack ≡ record { dead = false; ops = [] } →
    none ≡ [] → items ≡ none ++ record { label = label; params = Nothing; results = results; first = false; stack = stack } ∷ [] → open_seqs types items ≡ start_of C
unfolding open_of open_seqs
started C types label results stack none items e f g n q =
    let o : OpenSeq = record { label = label; params = Nothing; results = results; first = false; stack = stack } in
    let with_label : List ValType → List Open = λ l. record { label = l; params = []; results = listed types results; first = false; stack = known types stack } ∷ [] in
    let with_results : List ValType → List Open = λ l. record { label = C.results; params = []; results = l; first = false; stack = known types stack } ∷ [] in
    let with_stack : Stack → List Open = λ s. record { label = C.results; params = []; results = C.results; first = false; stack = s } ∷ [] in
    open-more types none items o q ∙ ap (λ l. open_of types o ∷ open_seqs types l) n ∙ ap with_label e ∙ ap with_results f ∙ ap with_stack g
