-- What a map of words makes of values and configurations.
use Rattle.std.specs.Prelude.{List, map}
use Rattle.wasm_reduction.specs.Configurations.{Value, I32, I64, Ref, Store, Label, Frame, Config, End, Returns, Traps, Fails, Assumes, Stuck, Next, Goes, Draws, Asks, Ends}

abbrev pub value_image : {V W : Type 0} → (V → W) → Value V → Value W
value_image h (I32 w) = I32 (h w)
value_image h (I64 w) = I64 (h w)
value_image h (Ref r) = Ref r

abbrev pub values_image : {V W : Type 0} → (V → W) → List (Value V) → List (Value W)
values_image h vs = map (value_image h) vs

abbrev pub store_image : {V W : Type 0} → (V → W) → Store V → Store W
store_image h s = record {
  globals = values_image h s.globals;
  tables = s.tables;
  memory = map h s.memory;
  elems = s.elems;
  datas = s.datas;
}

abbrev pub label_image : {V W : Type 0} → (V → W) → Label V → Label W
label_image h l = record { arity = l.arity; again = l.again; vals = values_image h l.vals; code = l.code }

abbrev pub frame_image : {V W : Type 0} → (V → W) → Frame V → Frame W
frame_image h f = record {
  arity = f.arity;
  locals = values_image h f.locals;
  seqs = f.seqs;
  here = label_image h f.here;
  outer = map (label_image h) f.outer;
}

abbrev pub config_image : {V W : Type 0} → (V → W) → Config V → Config W
config_image h c = record {
  store = store_image h c.store;
  frame = frame_image h c.frame;
  callers = map (frame_image h) c.callers;
  answers = c.answers;
  units = c.units;
}

abbrev pub end_image : {V W : Type 0} → (V → W) → End V → End W
end_image h (Returns vs) = Returns (values_image h vs)
end_image h (Traps cause) = Traps cause
end_image h Fails = Fails
end_image h Assumes = Assumes
end_image h Stuck = Stuck

abbrev pub next_image : {V W : Type 0} → (V → W) → Next V → Next W
next_image h (Goes c) = Goes (config_image h c)
next_image h (Draws wide c) = Draws wide (config_image h c)
next_image h (Asks q w) = Asks q (h w)
next_image h (Ends e) = Ends (end_image h e)

-- the map to words that mean nothing
abbrev pub blank : {W : Type 0} → W → Unit {0}
blank w = tt
