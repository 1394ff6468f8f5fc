-- Laws of the names of lists, as they are collected one function type after another.
use Rattle.std.proofs.Common.{◌≡◌, ℕ, zero, suc, ◌+◌, ◌-◌, ◌<◌, ◌≤◌, List, [], ◌∷◌, ◌++◌, length, map, reverse, take, drop, refl, sym, ap, ◌∙◌, subst, arith, take-append-drop, take_all, length-drop, get_or, take-suc}
use Rattle.std.specs.Prelude.{Option, Some, None, IfSome, slice_get}
use Rattle.std.proofs.lemmas.List.{length-append, get_or-map}
use Rattle.std.proofs.lemmas.Option.{slice_get_within, get_or_from_slice_get}
use Rattle.wasm_ast.specs.declared.types.ValType.{ValType}
use Rattle.wasm_ast.specs.declared.types.FuncType.{FuncType}
use Rattle.type_suffixes.specs.Words.{word, EndsWith, Keeps}
use Rattle.type_suffixes.specs.declared.lists.Listed.{Listed}
use Rattle.type_suffixes.specs.declared.lists.Listed.TheVariants.{Takes, Gives}
use Rattle.type_suffixes.specs.Lists.{listed, AreNames, AreAmong}

-- what holds of each item, by its place, and of one more
each-push : {X : Type 0} (P : ℕ → X → Type 0) (xs : List X) (x : X) → ((j : ℕ) (y : X) → slice_get xs j ≡ Some y → P j y) → P (length xs) x → (j : ℕ) (y : X) → slice_get (xs ++ x ∷ []) j ≡ Some y → P j y
each-push P [] x holds here zero y at = let same : x ≡ y = cc in subst (P zero) same here
each-push P [] x holds here (suc j) y at = absurd cc
each-push P (z ∷ zs) x holds here zero y at = holds zero y at
each-push P (z ∷ zs) x holds here (suc j) y at = each-push (λ i. P (suc i)) zs x (λ i. holds (suc i)) here j y at

-- the names so far, of the first x function types
pub record Naming (types : List FuncType) (x : ℕ) (takes gives : List Listed) : Type 0 where
  pub takes_long : length takes ≡ x
  pub gives_long : length gives ≡ x
  pub of_takes : AreNames types (λ x. Takes x) takes
  pub of_gives : AreNames types (λ x. Gives x) gives

-- which of the words the lists of the first x function types are
pub record Placing (types : List FuncType) (x : ℕ) (all : List (List ValType)) (taken given : List (Option ℕ)) : Type 0 where
  pub taken_long : length taken ≡ x
  pub given_long : length given ≡ x
  pub of_taken : AreAmong types all (λ x. Takes x) taken
  pub of_given : AreAmong types all (λ x. Gives x) given

names-push : (types : List FuncType) (name : ℕ → Listed) (items : List Listed) (first : Listed) (x : ℕ) → length items ≡ x → AreNames types name items → listed types first ≡ listed types (name x) → AreNames types name (items ++ first ∷ [])
names-push types name items first x long names is = each-push (λ j y. listed types y ≡ listed types (name j)) items first names (rw long is)

if-some : (P : ℕ → Type 0) (o : Option ℕ) (k : ℕ) → IfSome o P → o ≡ Some k → P k
if-some P None k h is = absurd cc
if-some P (Some j) k h is = let same : j ≡ k = cc in subst P same h

among-push : (types : List FuncType) (all : List (List ValType)) (name : ℕ → Listed) (items : List (Option ℕ)) (o : Option ℕ) (x : ℕ) → length items ≡ x → AreAmong types all name items → IfSome o (λ k. slice_get all k ≡ Some (listed types (name x))) →
    AreAmong types all name (items ++ o ∷ [])
among-push types all name items o x long among is = λ j k at.
    each-push (λ j (y : Option ℕ). (k : ℕ) → y ≡ Some k → slice_get all k ≡ Some (listed types (name j))) items o
    (λ j y there k same. among j k (there ∙ ap (λ (p : Option ℕ). Some p) same)) (λ k same. rw long (if-some (λ k. slice_get all k ≡ Some (listed types (name x))) o k is same)) j (Some k) at k refl

among-keep : (types : List FuncType) (all new : List (List ValType)) (name : ℕ → Listed) (items : List (Option ℕ)) → Keeps all new → AreAmong types all name items → AreAmong types new name items
among-keep types all new name items keeps among = λ x k at. keeps k (listed types (name x)) (among x k at)

one-more : {X : Type 0} (xs : List X) (x : X) (n : ℕ) → length xs ≡ n → length (xs ++ x ∷ []) ≡ n + 1
one-more xs x n long = length-append xs (x ∷ []) ∙ ap (λ k. k + 1) long

pub naming-more : (types : List FuncType) (x : ℕ) (takes gives : List Listed) (t g : Listed) (takes' gives' : List Listed) → takes' ≡ takes ++ t ∷ [] → gives' ≡ gives ++ g ∷ [] →
    listed types t ≡ listed types (Takes x) → listed types g ≡ listed types (Gives x) → Naming types x takes gives → Naming types (x + 1) takes' gives'
naming-more types x takes gives t g takes' gives' et eg st sg n = rw (et, eg) (record {
  takes_long = one-more takes t x n.takes_long;
  gives_long = one-more gives g x n.gives_long;
  of_takes = names-push types (λ x. Takes x) takes t x n.takes_long n.of_takes st;
  of_gives = names-push types (λ x. Gives x) gives g x n.gives_long n.of_gives sg;
})

pub placing-more : (types : List FuncType) (x : ℕ) (all then new : List (List ValType)) (taken given : List (Option ℕ)) (u v : Option ℕ) (taken' given' : List (Option ℕ)) → taken' ≡ taken ++ u ∷ [] → given' ≡ given ++ v ∷ [] →
    Keeps all then → Keeps then new → IfSome u (λ k. slice_get then k ≡ Some (listed types (Takes x))) → IfSome v (λ k. slice_get new k ≡ Some (listed types (Gives x))) →
    Placing types x all taken given → Placing types (x + 1) new taken' given'
placing-more types x all then new taken given u v taken' given' eu ev keeps again su sv p = rw (eu, ev) (record {
  taken_long = one-more taken u x p.taken_long;
  given_long = one-more given v x p.given_long;
  of_taken = among-keep types then new (λ x. Takes x) (taken ++ u ∷ []) again (among-push types then (λ x. Takes x) taken u x p.taken_long (among-keep types all then (λ x. Takes x) taken keeps p.of_taken) su);
  of_given = among-push types new (λ x. Gives x) given v x p.given_long (among-keep types all new (λ x. Gives x) given (λ k ts at. again k ts (keeps k ts at)) p.of_given) sv;
})

-- a list among those that are read backward
backward-word : (all back : List (List ValType)) (k : ℕ) (types : List ValType) → back ≡ map (λ ts. reverse ts) all → slice_get all k ≡ Some types → word back k ≡ reverse types
backward-word all back k types is at =
    ap (λ (ls : List (List ValType)). word ls k) is ∙ get_or-map (λ (ts : List ValType). reverse ts) all k [] [] (slice_get_within all k types at)
    ∙ ap (λ (ts : List ValType). reverse ts) (get_or_from_slice_get all k types [] at)

pub alike-backward : (all back : List (List ValType)) (k l n : ℕ) (ts us : List ValType) → back ≡ map (λ types. reverse types) all → slice_get all k ≡ Some ts → slice_get all l ≡ Some us → take n (word back k) ≡ take n (word back l) → take n (reverse ts) ≡ take n (reverse us)
alike-backward all back k l n ts us is at there same =
    ap (λ (x : List ValType). take n x) (sym (backward-word all back k ts is at)) ∙ same ∙ ap (λ (x : List ValType). take n x) (backward-word all back l us is there)

-- a list that is the end of another, cut at a place
pub part-ends : (ts us : List ValType) (k : ℕ) → take (length ts - k) (drop k ts) ≡ us → EndsWith ts us
part-ends ts us k same = (
  take k ts,
  sym (take-append-drop k ts) ∙ ap (λ end. take k ts ++ end) (sym (take_all (length ts - k) (drop k ts) (omega (arith, length-drop k ts))) ∙ same),
)

-- ---- lists that are the same as far as they were looked at

pub same-on : (ts us : List ValType) (i : ℕ) (d e : ValType) → take i ts ≡ take i us → i < length ts → i < length us → get_or ts i d ≡ get_or us i e → take (i + 1) ts ≡ take (i + 1) us
same-on ts us i d e same h k r =
    let next : i + 1 ≡ suc i = omega arith in
    ap (λ n. take n ts) next ∙ take-suc ts i d h ∙ ap (λ l. l ++ get_or ts i d ∷ []) same ∙ ap (λ x. take i us ++ x ∷ []) r
    ∙ sym (take-suc us i e k) ∙ ap (λ n. take n us) (sym next)

pub same-all : (ts us : List ValType) (n : ℕ) → length ts ≡ length us → take n ts ≡ take n us → length ts ≤ n → ts ≡ us
same-all ts us n l e h = sym (take_all n ts h) ∙ e ∙ take_all n us (omega (arith, l, h))
