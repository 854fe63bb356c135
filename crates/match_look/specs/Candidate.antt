-- What is looked at before a candidate's inputs are entered.
-- Assumes nothing.
use Rattle.std.specs.Prelude.{Bool, cond, not, ◌&&◌, ◌||◌, ℕ, suc, eqb}
use Rattle.definitions.specs.Operators.{kind_empty}
use Rattle.definitions.specs.Graph.{Graph, slot_of, true_count}
use Rattle.definitions.specs.Rule.{Rule, source_of}
use Rattle.rule_uses.specs.Demands.{demand_of}
use Rattle.match_look.specs.Head.{Head, slot_head, pattern_head}

-- The look. A wildcard takes any slot that is not Empty; another pattern one of its kind, operator and counts.
unfoldable pub head_fits : Head → Head → Bool
head_fits pattern slot =
    cond (eqb pattern.kind kind_empty) (not (eqb slot.kind kind_empty))
    (eqb slot.kind pattern.kind
    && eqb slot.operator pattern.operator
    && eqb slot.inputs pattern.inputs
    && eqb slot.attributes pattern.attributes)

-- slot v passes the look for a vertex with that head
unfoldable pub passes_look : Head → Graph → ℕ → Bool
passes_look head g v = head_fits head (slot_head (slot_of g v))

-- a demand of 0 is none; another is one more than the uses that it allows
unfoldable pub uses_fit : ℕ → ℕ → Bool
uses_fit demand uses = eqb demand 0 || eqb demand (suc uses)

-- slot v passes the look for a vertex with that head, and is named as often as that demand allows
unfoldable pub suits : Head → ℕ → Graph → ℕ → Bool
suits head demand g v = passes_look head g v && uses_fit demand (true_count g v)

-- slot v is a candidate for source vertex j
unfoldable pub is_candidate : Graph → Rule → ℕ → ℕ → Bool
is_candidate g r j v = suits (pattern_head (source_of r j)) (demand_of r j) g v
