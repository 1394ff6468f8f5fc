-- What typing says of the next instruction of a body.
use Rattle.std.proofs.Common.{◌≡◌, ℕ, zero, suc, List, [], ◌∷◌, ◌++◌, sym, ap, ◌∙◌, subst}
use Rattle.std.specs.Prelude.{Some}
use Rattle.std.specs.List.{AllByRecursion}
use Rattle.wasm_ast.specs.declared.types.FuncType.{FuncType}
use Rattle.wasm_ast.specs.declared.types.BlockType.{BlockType}
use Rattle.wasm_ast.specs.declared.types.ValType.TheVariants.{I32}
use Rattle.wasm_ast.specs.declared.instructions.Instr.{Instr}
use Rattle.wasm_ast.specs.declared.instructions.Instr.TheVariants.{Block, Loop, If}
use Rattle.wasm_check.specs.declared.operands.Operand.{Operand}
use Rattle.wasm_check.specs.declared.operands.Operand.TheVariants.{Of}
use Rattle.wasm_check.specs.Contexts.{Context, block_type}
use Rattle.wasm_check.specs.Instructions.{Labels, Rule, IsTyped}
use Rattle.wasm_check.specs.Operands.{operands, Takes, AllMatch}
use Rattle.wasm_check.specs.Trees.{Tree, Nothing, Plain, Blocks, Loops, Ifs, IsPlain, seq_of, Makes}
use Rattle.wasm_soundness.specs.Values.{HaveShape, IsTypedCode}

pub seq-shape : (seqs : List (List Instr)) (s : ℕ) → AllByRecursion (λ code. HaveShape code) seqs → HaveShape (seq_of seqs s)
seq-shape [] s h = tt
seq-shape (is ∷ rest) zero h = h.0
seq-shape (is ∷ rest) (suc s) h = seq-shape rest s h.1

head-is : {A : Type 0} (x y : A) (xs ys : List A) → x ∷ xs ≡ y ∷ ys → x ≡ y
head-is x y xs ys e = cc

tail-is : {A : Type 0} (x y : A) (xs ys : List A) → x ∷ xs ≡ y ∷ ys → xs ≡ ys
tail-is x y xs ys e = cc

module _ (C : Context) (ls : Labels) (seqs : List (List Instr)) where
  -- ---- the end

  end-tree : (c : Tree) (ts us : List Operand) → Makes seqs [] c → IsTyped C ls c ts us → AllMatch ts us
  end-tree Nothing ts us m t = t
  end-tree (Plain i c) ts us m t = absurd (let e : [] ≡ i ∷ m.0 = m.1 in cc)
  end-tree (Blocks bt b c) ts us m t = absurd (let e : [] ≡ Block bt m.0 ∷ m.1 = m.2 in cc)
  end-tree (Loops bt b c) ts us m t = absurd (let e : [] ≡ Loop bt m.0 ∷ m.1 = m.2 in cc)
  end-tree (Ifs bt b o c) ts us m t = absurd (let e : [] ≡ If bt m.0 m.1 ∷ m.2 = m.3 in cc)

  pub at-end : (ts us : List Operand) → IsTypedCode C ls seqs [] ts us → AllMatch ts us
  at-end ts us h = end-tree h.tree ts us h.makes h.typed

  -- ---- plain instructions

  pub record AtPlain (i : Instr) (is : List Instr) (ts us : List Operand) : Type 0 where
    pub a : List Operand
    pub b : List Operand
    pub rest : List Operand
    pub rule : Rule C ls i a b
    pub takes : Takes ts a rest
    pub next : IsTypedCode C ls seqs is (b ++ rest) us

  plain-tree : (c : Tree) (i : Instr) (is : List Instr) (ts us : List Operand) → IsPlain i → HaveShape is → Makes seqs (i ∷ is) c → IsTyped C ls c ts us → AtPlain i is ts us
  plain-tree Nothing i is ts us p s m t = absurd (let e : i ∷ is ≡ [] = m in cc)
  plain-tree (Plain j c) i is ts us p s m t = record {
    a = t.0;
    b = t.1;
    rest = t.2;
    rule = subst (λ i. Rule C ls i t.0 t.1) (sym (head-is i j is m.0 m.1)) t.3;
    takes = t.4;
    next = record { tree = c; makes = subst (λ is. Makes seqs is c) (sym (tail-is i j is m.0 m.1)) m.3; typed = t.5; shape = s };
  }
  plain-tree (Blocks bt b c) i is ts us p s m t = absurd (subst IsPlain (head-is i (Block bt m.0) is m.1 m.2) p)
  plain-tree (Loops bt b c) i is ts us p s m t = absurd (subst IsPlain (head-is i (Loop bt m.0) is m.1 m.2) p)
  plain-tree (Ifs bt b o c) i is ts us p s m t = absurd (subst IsPlain (head-is i (If bt m.0 m.1) is m.2 m.3) p)

  pub at-plain : (i : Instr) (is : List Instr) (ts us : List Operand) → IsPlain i → IsTypedCode C ls seqs (i ∷ is) ts us → AtPlain i is ts us
  at-plain i is ts us p h = plain-tree h.tree i is ts us p h.shape.1 h.makes h.typed

  -- ---- blocks

  pub record AtBlock (own : FuncType → Labels) (ty : BlockType) (s : ℕ) (is : List Instr) (ts us : List Operand) : Type 0 where
    pub t : FuncType
    pub rest : List Operand
    pub type : block_type C ty ≡ Some t
    pub body : IsTypedCode C (own t) seqs (seq_of seqs s) (operands t.params) (operands t.results)
    pub takes : Takes ts (operands t.params) rest
    pub next : IsTypedCode C ls seqs is (operands t.results ++ rest) us

  block-same : (ty bt : BlockType) (s u : ℕ) (is rest : List Instr) → Block ty s ∷ is ≡ Block bt u ∷ rest → (ty ≡ bt) × (s ≡ u) × (is ≡ rest)
  block-same ty bt s u is rest e = (cc, cc, cc)

  loop-same : (ty bt : BlockType) (s u : ℕ) (is rest : List Instr) → Loop ty s ∷ is ≡ Loop bt u ∷ rest → (ty ≡ bt) × (s ≡ u) × (is ≡ rest)
  loop-same ty bt s u is rest e = (cc, cc, cc)

  if-same : (ty bt : BlockType) (s u o v : ℕ) (is rest : List Instr) → If ty s o ∷ is ≡ If bt u v ∷ rest → (ty ≡ bt) × (s ≡ u) × (o ≡ v) × (is ≡ rest)
  if-same ty bt s u o v is rest e = (cc, cc, cc, cc)

  block-tree : (c : Tree) (ty : BlockType) (s : ℕ) (is : List Instr) (ts us : List Operand) → HaveShape (seq_of seqs s) → HaveShape is → Makes seqs (Block ty s ∷ is) c → IsTyped C ls c ts us →
      AtBlock (λ t. t.results ∷ ls) ty s is ts us
  block-tree Nothing ty s is ts us q r m t = absurd (let e : Block ty s ∷ is ≡ [] = m in cc)
  block-tree (Plain j c) ty s is ts us q r m t = absurd (subst IsPlain (sym (head-is (Block ty s) j is m.0 m.1)) m.2)
  block-tree (Blocks bt b c) ty s is ts us q r m t =
      let e = block-same ty bt s m.0 is m.1 m.2 in
      record {
        t = t.0;
        rest = t.1;
        type = ap (block_type C) e.0 ∙ t.2;
        body = record { tree = b; makes = subst (λ s. Makes seqs (seq_of seqs s) b) (sym e.1) m.3; typed = t.3; shape = q };
        takes = t.4;
        next = record { tree = c; makes = subst (λ is. Makes seqs is c) (sym e.2) m.4; typed = t.5; shape = r };
      }
  block-tree (Loops bt b c) ty s is ts us q r m t = absurd (let e : Block ty s ≡ Loop bt m.0 = head-is (Block ty s) (Loop bt m.0) is m.1 m.2 in cc)
  block-tree (Ifs bt b o c) ty s is ts us q r m t = absurd (let e : Block ty s ≡ If bt m.0 m.1 = head-is (Block ty s) (If bt m.0 m.1) is m.2 m.3 in cc)

  pub at-block : (ty : BlockType) (s : ℕ) (is : List Instr) (ts us : List Operand) → AllByRecursion (λ code. HaveShape code) seqs → IsTypedCode C ls seqs (Block ty s ∷ is) ts us →
      AtBlock (λ t. t.results ∷ ls) ty s is ts us
  at-block ty s is ts us q h = block-tree h.tree ty s is ts us (seq-shape seqs s q) h.shape.1 h.makes h.typed

  loop-tree : (c : Tree) (ty : BlockType) (s : ℕ) (is : List Instr) (ts us : List Operand) → HaveShape (seq_of seqs s) → HaveShape is → Makes seqs (Loop ty s ∷ is) c → IsTyped C ls c ts us →
      AtBlock (λ t. t.params ∷ ls) ty s is ts us
  loop-tree Nothing ty s is ts us q r m t = absurd (let e : Loop ty s ∷ is ≡ [] = m in cc)
  loop-tree (Plain j c) ty s is ts us q r m t = absurd (subst IsPlain (sym (head-is (Loop ty s) j is m.0 m.1)) m.2)
  loop-tree (Loops bt b c) ty s is ts us q r m t =
      let e = loop-same ty bt s m.0 is m.1 m.2 in
      record {
        t = t.0;
        rest = t.1;
        type = ap (block_type C) e.0 ∙ t.2;
        body = record { tree = b; makes = subst (λ s. Makes seqs (seq_of seqs s) b) (sym e.1) m.3; typed = t.3; shape = q };
        takes = t.4;
        next = record { tree = c; makes = subst (λ is. Makes seqs is c) (sym e.2) m.4; typed = t.5; shape = r };
      }
  loop-tree (Blocks bt b c) ty s is ts us q r m t = absurd (let e : Loop ty s ≡ Block bt m.0 = head-is (Loop ty s) (Block bt m.0) is m.1 m.2 in cc)
  loop-tree (Ifs bt b o c) ty s is ts us q r m t = absurd (let e : Loop ty s ≡ If bt m.0 m.1 = head-is (Loop ty s) (If bt m.0 m.1) is m.2 m.3 in cc)

  pub at-loop : (ty : BlockType) (s : ℕ) (is : List Instr) (ts us : List Operand) → AllByRecursion (λ code. HaveShape code) seqs → IsTypedCode C ls seqs (Loop ty s ∷ is) ts us →
      AtBlock (λ t. t.params ∷ ls) ty s is ts us
  at-loop ty s is ts us q h = loop-tree h.tree ty s is ts us (seq-shape seqs s q) h.shape.1 h.makes h.typed

  pub record AtIf (ty : BlockType) (s o : ℕ) (is : List Instr) (ts us : List Operand) : Type 0 where
    pub t : FuncType
    pub rest : List Operand
    pub type : block_type C ty ≡ Some t
    pub first : IsTypedCode C (t.results ∷ ls) seqs (seq_of seqs s) (operands t.params) (operands t.results)
    pub other : IsTypedCode C (t.results ∷ ls) seqs (seq_of seqs o) (operands t.params) (operands t.results)
    pub takes : Takes ts (Of I32 ∷ operands t.params) rest
    pub next : IsTypedCode C ls seqs is (operands t.results ++ rest) us

  if-tree : (c : Tree) (ty : BlockType) (s o : ℕ) (is : List Instr) (ts us : List Operand) → HaveShape (seq_of seqs s) → HaveShape (seq_of seqs o) → HaveShape is → Makes seqs (If ty s o ∷ is) c → IsTyped C ls c ts us →
      AtIf ty s o is ts us
  if-tree Nothing ty s o is ts us q p r m t = absurd (let e : If ty s o ∷ is ≡ [] = m in cc)
  if-tree (Plain j c) ty s o is ts us q p r m t = absurd (subst IsPlain (sym (head-is (If ty s o) j is m.0 m.1)) m.2)
  if-tree (Ifs bt b d c) ty s o is ts us q p r m t =
      let e = if-same ty bt s m.0 o m.1 is m.2 m.3 in
      record {
        t = t.0;
        rest = t.1;
        type = ap (block_type C) e.0 ∙ t.2;
        first = record { tree = b; makes = subst (λ s. Makes seqs (seq_of seqs s) b) (sym e.1) m.4; typed = t.3; shape = q };
        other = record { tree = d; makes = subst (λ s. Makes seqs (seq_of seqs s) d) (sym e.2) m.5; typed = t.4; shape = p };
        takes = t.5;
        next = record { tree = c; makes = subst (λ is. Makes seqs is c) (sym e.3) m.6; typed = t.6; shape = r };
      }
  if-tree (Blocks bt b c) ty s o is ts us q p r m t = absurd (let e : If ty s o ≡ Block bt m.0 = head-is (If ty s o) (Block bt m.0) is m.1 m.2 in cc)
  if-tree (Loops bt b c) ty s o is ts us q p r m t = absurd (let e : If ty s o ≡ Loop bt m.0 = head-is (If ty s o) (Loop bt m.0) is m.1 m.2 in cc)

  pub at-if : (ty : BlockType) (s o : ℕ) (is : List Instr) (ts us : List Operand) → AllByRecursion (λ code. HaveShape code) seqs → IsTypedCode C ls seqs (If ty s o ∷ is) ts us → AtIf ty s o is ts us
  at-if ty s o is ts us q h = if-tree h.tree ty s o is ts us (seq-shape seqs s q) (seq-shape seqs o q) h.shape.1 h.makes h.typed
