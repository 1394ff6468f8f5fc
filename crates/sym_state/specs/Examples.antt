-- Nodes of a small run: an element of a table of two nulls is taken, at the place that a symbol says.
use Rattle.std.specs.Prelude.{◌≡◌, ℕ, List, [], ◌∷◌, true, false}
use Rattle.wasm_reduction.specs.Configurations.{Test, Pick}
use Rattle.wasm_reduction.specs.Runs.{Trace, Over, Stands}
use Rattle.wasm_reduction.specs.ScriptExamples.{looks_up}
use Rattle.bv_terms.specs.Terms.{Term, Number, Symbol, Binary}
use Rattle.sym_state.specs.Nodes.{Invocation, Node, root, IsMember}
use Rattle.sym_state.specs.NextNodes.{test_side, pick_side}
use Rattle.sym_state.specs.States.{over_terms}

abbrev pub looking_up : Invocation
looking_up = record { «module» = looks_up; entry = 4; args = []; steps = 100 }

-- the place, and whether it is past the end, and whether it is another than 1
abbrev pub place : Term
place = Symbol 0 false

abbrev pub past_the_end : Term
past_the_end = Binary 0x4F place (Number 2)

abbrev pub not_one : Term
not_one = Binary 0x47 place (Number 1)

abbrev pub within : Node
within = test_side (root looking_up) past_the_end false

abbrev pub past : Node
past = test_side (root looking_up) past_the_end true

abbrev pub first : Node
first = pick_side within not_one 1 false

abbrev pub others : Node
others = pick_side within not_one 1 true

abbrev pub drawn_one : List ℕ → Trace
drawn_one answers = record { symbols = false ∷ []; answers = answers }

pub record NodeExamples : Type 0 where
  -- what is asked of terms
  pub tests : over_terms (root looking_up) 80 ≡ Over (Stands Test past_the_end) (drawn_one [])
  pub picks : over_terms within 80 ≡ Over (Stands Pick place) (drawn_one (0 ∷ []))
  -- who is a member
  pub root_has_all : IsMember (root looking_up) (5 ∷ [])
  pub one_is_within : IsMember within (1 ∷ [])
  pub five_is_past : IsMember past (5 ∷ [])
  pub five_is_not_within : IsMember within (5 ∷ []) → ⊥
  pub one_is_picked : IsMember first (1 ∷ [])
  pub zero_is_another : IsMember others (0 ∷ [])
  pub one_is_excluded : IsMember others (1 ∷ []) → ⊥
