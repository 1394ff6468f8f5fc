-- What the machine's moves do to its state. Of the code alone.
use Rattle.std.specs.Prelude.{ℕ, zero, suc, ◌+◌, ◌-◌, List, [], ◌∷◌, ◌++◌, Bool, true, false, take, drop, length, slice_set, slice_get, unwrap_or, Some}
use Rattle.wasm_machine.specs.declared.machine.Label.{Label}
use Rattle.wasm_machine.specs.declared.machine.Frame.{Frame}
use Rattle.wasm_machine.specs.declared.values.Reference.{Reference}
use Rattle.wasm_machine.specs.States.{State, cost}

-- ---- operands

abbrev pub pushed : {X : Type 0} → X → State X → State X
pushed x s = record s { operands = s.operands ++ x ∷ [] }

-- without the last n operands
abbrev pub without : {X : Type 0} → ℕ → State X → State X
without n s = record s { operands = take (length s.operands - n) s.operands }

-- with one operand in place of the last n
abbrev pub replaced : {X : Type 0} → ℕ → X → State X → State X
replaced n x s = pushed x (without n s)

-- ---- instructions

-- the next instruction's question has had an answer
abbrev pub noted : {X : Type 0} → ℕ → State X → State X
noted n s = record s { answers = s.answers ++ n ∷ [] }

-- ---- variables

abbrev pub with_local : {X : Type 0} → ℕ → X → State X → State X
with_local x v s = record s { locals = slice_set s.locals (s.frame.base + x) v }

abbrev pub with_global : {X : Type 0} → ℕ → X → State X → State X
with_global x v s = record s { globals = slice_set s.globals x v }

-- ---- labels

-- into a sequence, with the last n operands, by the control instruction that is next
abbrev pub entered : {X : Type 0} → ℕ → ℕ → ℕ → Bool → State X → State X
entered seq n arity again s = record s {
  labels = s.labels ++ s.frame.here ∷ [];
  frame = record (s.frame) { here = record { seq = seq; place = 0; height = length s.operands - n; arity = arity; again = again } };
  answers = [];
  units = s.units + cost s.callers;
}

-- the last n operands lie on this height
abbrev pub kept : {X : Type 0} → ℕ → ℕ → List X → List X
kept height n ops = take height ops ++ drop (length ops - n) ops

-- where a label that waits goes on: at its control instruction again, or past it
abbrev pub again_place : Bool → ℕ → ℕ
again_place true n = n
again_place false n = n + 1

-- out of a sequence, for which the label p waits
abbrev pub left : {X : Type 0} → Label → List Label → State X → State X
left p r s = record s { labels = r; frame = record (s.frame) { here = record p { place = p.place + 1 } }; answers = s.answers }

-- a branch to the label t, inside p, which goes on at a place
abbrev pub jumped : {X : Type 0} → Label → Label → List Label → ℕ → State X → State X
jumped t p r place s = record s { operands = kept t.height t.arity s.operands; labels = r; frame = record (s.frame) { here = record p { place = place } } }

-- the k-th label from the inside, of which the one at 0 is the innermost
abbrev pub from_end : Label → List Label → ℕ → Label
from_end here labels zero = here
from_end here labels (suc j) = unwrap_or (slice_get labels (length labels - suc j)) here

-- a branch past k labels
abbrev pub branched : {X : Type 0} → ℕ → State X → State X
branched k s =
    let t = from_end s.frame.here s.labels k in let p = from_end s.frame.here s.labels (k + 1) in
    jumped t p (take (length s.labels - (k + 1)) s.labels) (again_place t.again p.place) s

-- ---- frames

-- back to the frame p with n operands
abbrev pub returned : {X : Type 0} → Frame → List Frame → ℕ → State X → State X
returned p r n s = record s {
  operands = kept s.frame.floor n s.operands;
  locals = take s.frame.base s.locals;
  labels = take s.frame.labels s.labels;
  frame = p;
  callers = r;
}

-- into the function g of the module's own, with n arguments, the other locals, and so many results
abbrev pub called : {X : Type 0} → ℕ → ℕ → List X → ℕ → State X → State X
called g n others arity s = record s {
  operands = take (length s.operands - n) s.operands;
  locals = s.locals ++ (drop (length s.operands - n) s.operands ++ others);
  frame = record {
    func = Some g;
    arity = arity;
    base = length s.locals;
    labels = length s.labels;
    floor = length s.operands - n;
    here = record { seq = 0; place = 0; height = length s.operands - n; arity = arity; again = false };
  };
  callers = s.callers ++ s.frame ∷ [];
}

-- ---- tables and segments

-- with other elements in a table
abbrev pub with_table : {X : Type 0} → ℕ → List Reference → State X → State X
with_table x elements s = record s { tables = slice_set s.tables x elements }

-- without an element segment
abbrev pub without_elem : {X : Type 0} → ℕ → State X → State X
without_elem e s = record s { elems = slice_set s.elems e [] }

-- without a data segment
abbrev pub without_data : {X : Type 0} → ℕ → State X → State X
without_data x s = record s { dropped = slice_set s.dropped x true }
