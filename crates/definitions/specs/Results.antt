-- Demand 3's words: results of vertices, and the results of a rule for one match.
-- Assumes nothing.
use Rattle.std.specs.Prelude.{◌≡◌, true, cond, not, ℕ, ◌<◌, T, ℤ, length, get_or}
use mathlib.Core.List.{List, [], map, Memᴰ}
use Rattle.definitions.specs.Fields.{word_of}
use Rattle.definitions.specs.Paths.{Reaches}
use Rattle.definitions.specs.Graph.{Graph, slot_of, inputs_of, is_vertex, is_variable, unused_place}
use Rattle.definitions.specs.Rule.{Origin, given, made, Rule, source_of, target_of, is_rule_input}
use Rattle.definitions.specs.Match.{image_of}
use Rattle.definitions.specs.Rewriting.{stays}

-- Whatever the operators, constants, tuples and projections mean: any function of kind, operator, attributes and input results in
-- order. Whatever results the variables have: any, by slot number. One meaning serves both tables and the rule.
pub record Meaning {ℓ} (R : Type ℓ) : Type ℓ where
  pub function : ℕ → ℕ → List ℕ → List R → R
  pub variable : ℕ → R

-- a target place has the rule input's result or the target vertex's
unfoldable pub origin_result {ℓ} : {R : Type ℓ} → (ℕ → R) → (ℕ → R) → Origin → R
origin_result source target (given j) = source j
origin_result source target (made t) = target t

module _ {ℓ} {R : Type ℓ} (m : Meaning R) where
  -- what the result of vertex v is, given those of its inputs
  unfoldable pub result_at : Graph → (ℕ → R) → ℕ → R
  result_at g results v =
      cond (is_variable g v) (m.variable v)
      (m.function (slot_of g v).kind (slot_of g v).operator (slot_of g v).attributes (map results (inputs_of g v)))

  -- `results` are the results of the table's vertices. On an acyclic table whose inputs name vertices there are some, and no two
  -- differ on a vertex.
  abbrev pub AreResults : Graph → (ℕ → R) → Type ℓ
  AreResults g results = (v : ℕ) → T (is_vertex g v) → results v ≡ result_at g results v

  -- The rule's results on the source side, for the match `images` in g: a rule input has any result; every other source vertex has
  -- the function's, for its kind, its operator, its image's attributes in the old table and the results of its own inputs.
  abbrev pub AreSourceResults : Graph → Rule → List ℕ → (ℕ → R) → Type ℓ
  AreSourceResults g r images source =
      (j : ℕ) → j < length r.source → T (not (is_rule_input r j))
      → source j ≡ m.function (source_of r j).kind (source_of r j).operator (slot_of g (image_of images j)).attributes
      (map source (source_of r j).inputs)

  -- on the target side likewise, the attributes being the results of its expressions for this match
  abbrev pub AreTargetResults : Rule → List (List ℤ) → (ℕ → R) → (ℕ → R) → Type ℓ
  AreTargetResults r values source target =
      (t : ℕ) → t < length r.target
      → target t ≡ m.function (target_of r t).kind (target_of r t).operator (map word_of (get_or values t []))
      (map (origin_result source target) (target_of r t).inputs)

  -- The hypothesis of demand 3: whatever results the rule's inputs take, each target output has the same result as its source output,
  -- with the attributes of this match.
  abbrev pub SameOutputs : Graph → Rule → List ℕ → List (List ℤ) → Type ℓ
  SameOutputs g r images values =
      (source target : ℕ → R) → AreSourceResults g r images source → AreTargetResults r values source target
      → (k : ℕ) → k < length r.source_outputs
      → origin_result source target (get_or r.target_outputs k (made 0)) ≡ source (get_or r.source_outputs k 0)

-- Where slots get new numbers, `to v` for v, "a Variable's result follows it to its new number": `after` has the functions of m, and
-- gives at `to v` what m gives at v, for every Variable v.
pub record Follows {ℓ} {R : Type ℓ} (g : Graph) (to : ℕ → ℕ) (m after : Meaning R) : Type ℓ where
  pub function : after.function ≡ m.function
  pub variable : (v : ℕ) → is_variable g v ≡ true → after.variable (to v) ≡ m.variable v

-- v has no path to it, in the old table, from a replaced output
abbrev pub Untouched : Graph → Rule → List ℕ → ℕ → Type 0
Untouched g r images v =
    (o : ℕ) → Memᴰ o r.source_outputs → Reaches (inputs_of g) (image_of images o) v → ⊥

-- The conclusions of demand 3 for results `before` of the old table g and `after` of the new one.
-- First half: a vertex that stays, with no path to it from a replaced output, has the same result.
abbrev pub KeepsUntouched {ℓ} : {R : Type ℓ} → Graph → Rule → List ℕ → (ℕ → R) → (ℕ → R) → Type ℓ
KeepsUntouched g r images before after =
    (v : ℕ) → T (stays g r images v) → Untouched g r images v → after v ≡ before v

-- Second half: every vertex that stays has the same result,
abbrev pub KeepsStaying {ℓ} : {R : Type ℓ} → Graph → Rule → List ℕ → (ℕ → R) → (ℕ → R) → Type ℓ
KeepsStaying g r images before after = (v : ℕ) → T (stays g r images v) → after v ≡ before v

-- and so has every graph output, place by place.
abbrev pub KeepsOutputs {ℓ} : {R : Type ℓ} → Graph → Graph → (ℕ → R) → (ℕ → R) → Type ℓ
KeepsOutputs g new before after =
    (i : ℕ) → i < length g.outputs → after (get_or new.outputs i unused_place) ≡ before (get_or g.outputs i unused_place)
