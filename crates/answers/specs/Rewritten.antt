-- The words of the theorems about lg_rewrite: when each of its replies is due, what else it keeps, and demand 3 sentence by sentence.
-- Assumes nothing.
use Rattle.std.specs.Prelude.{◌≡◌, Bool, true, false, not, ◌⊎◌, ℕ, ◌+◌, ◌<◌, ◌≤◌, T, ℤ, length, get_or}
use mathlib.Core.List.{List, Memᴰ}
use Rattle.std.proofs.Math.Option.{Option, none, some}
use Rattle.definitions.specs.Lists.{filter, range}
use Rattle.definitions.specs.Operators.{kind_proj}
use Rattle.definitions.specs.Paths.{Acyclic}
use Rattle.definitions.specs.Reply.{no_match, no_result, no_room, new_cycle}
use Rattle.definitions.specs.Graph.{Graph, inputs_of, is_vertex, at_least_one}
use Rattle.definitions.specs.Rule.{anything, Rule, target_of}
use Rattle.definitions.specs.Attributes.{result_of}
use Rattle.definitions.specs.Match.{image_of, read_attribute, is_const, Private, MatchFrom, output_images, LeastFrom}
use Rattle.definitions.specs.Rewriting.{target_results, is_removed, stays, new_graph}
use Rattle.definitions.specs.Results.{Meaning, AreResults, SameOutputs, KeepsUntouched, KeepsStaying, KeepsOutputs}

-- ---- reply 5: a target attribute has no result, or a Proj index is below 1

-- what attribute i, counted from 0, of target vertex t gives for the match `images`
abbrev pub target_result : Graph → Rule → List ℕ → ℕ → ℕ → Option ℤ
target_result g r images t i = result_of (read_attribute g images) (get_or (target_of r t).attributes i anything)

-- it gives nothing, or t is a Proj and it gives a number below 1
abbrev pub Unfit : Graph → Rule → List ℕ → ℕ → ℕ → Type 0
Unfit g r images t i =
    (target_result g r images t i ≡ none)
    ⊎ (((target_of r t).kind ≡ kind_proj) × ((z : ℤ) × (target_result g r images t i ≡ some z) × (at_least_one z ≡ false)))

-- some attribute of some target vertex is unfit
pub record NoFit (g : Graph) (r : Rule) (images : List ℕ) : Type 0 where
  pub vertex : ℕ
  pub place : ℕ
  pub vertex_below : vertex < length r.target
  pub place_below : place < length (target_of r vertex).attributes
  pub unfit : Unfit g r images vertex place

-- ---- reply 6: T exceeds Empty slots plus those really removed

-- how many slots of the table pass a test
abbrev pub slots_where : (ℕ → Bool) → Graph → ℕ
slots_where p g = length (filter p (range 0 (length g.slots)))

-- the Empty slots of the old table, and those really removed
abbrev pub room : Graph → Rule → List ℕ → ℕ
room g r images = slots_where (λ k. not (is_vertex g k)) g + slots_where (is_removed g r images) g

-- ---- when each reply is due, once map length, graph and rule are good; 5 to 7 and 0 concern the least match, "no other is tried"

pub data Due (g : Graph) (r : Rule) (s : ℕ) : ℕ → Type 0 where
  -- 4: there is no match from s
  unmatched : ((images : List ℕ) → MatchFrom g r s images → ⊥) → Due g r s no_match
  -- 5: there is a least match, and a target attribute is unfit for it
  unfit : (images : List ℕ) → LeastFrom g r s images → NoFit g r images → Due g r s no_result
  -- 6: all attributes are fit, and T exceeds the Empty slots plus those really removed
  full : (images : List ℕ) → LeastFrom g r s images → (NoFit g r images → ⊥)
      → room g r images < length r.target → Due g r s no_room
  -- 7: there is room too, and the table so made has a cycle
  cyclic : (images : List ℕ) (values : List (List ℤ)) → LeastFrom g r s images → (NoFit g r images → ⊥)
      → target_results (read_attribute g images) r.target ≡ some values → length r.target ≤ room g r images
      → (Acyclic (inputs_of (new_graph g r images values)) → ⊥) → Due g r s new_cycle
  -- 0: it has none
  done : (images : List ℕ) (values : List (List ℤ)) → LeastFrom g r s images → (NoFit g r images → ⊥)
      → target_results (read_attribute g images) r.target ≡ some values → length r.target ≤ room g r images
      → Acyclic (inputs_of (new_graph g r images values)) → Due g r s 0

-- ---- a shared constant

-- v is a matched Const, and something outside the match needs it: a graph output names it, or something reads it that is not the image of
-- a source vertex other than a rule input
pub record SharedConst (g : Graph) (r : Rule) (images : List ℕ) (v : ℕ) : Type 0 where
  pub vertex : ℕ
  pub inside : vertex < length r.source
  pub constant : is_const r vertex ≡ true
  pub image : image_of images vertex ≡ v
  pub needed : Private g r images v → ⊥

-- ---- 'Nothing else changes'

-- slot k reads no replaced output
abbrev pub ReadsNone : Graph → Rule → List ℕ → ℕ → Type 0
ReadsNone g r images k = (v : ℕ) → Memᴰ v (inputs_of g k) → Memᴰ v (output_images r images) → ⊥

-- ---- demand 3

-- of one accepted rewriting: g is the old table and `new` the new one, `images` is this match, and `values` are the results of the target
-- attributes for it. "Whatever the operators, constants, tuples and projections mean, and whatever results the variables have": m.
pub record Keeps {ℓ} {R : Type ℓ} (m : Meaning R) (g : Graph) (r : Rule) (images : List ℕ) (values : List (List ℤ)) (new : Graph) : Type ℓ where
  -- "the result" of a vertex, before and after: there are results of each table, and no two differ on a vertex
  pub some_before : (before : ℕ → R) × AreResults m g before
  pub some_after : (after : ℕ → R) × AreResults m new after
  pub one_before : (one other : ℕ → R) → AreResults m g one → AreResults m g other → (v : ℕ) → T (is_vertex g v) → one v ≡ other v
  pub one_after : (one other : ℕ → R) → AreResults m new one → AreResults m new other → (v : ℕ) → T (is_vertex new v) → one v ≡ other v
  -- a vertex that stays is one of both tables; both tables have as many outputs, and every one names a vertex
  pub remains : (v : ℕ) → T (stays g r images v) → T (is_vertex g v) × T (is_vertex new v)
  pub same_count : length new.outputs ≡ length g.outputs
  pub named : (v : ℕ) → Memᴰ v new.outputs → T (is_vertex new v)
  -- "Every vertex that stays and has no path to it from a replaced output has the same result after as before."
  pub untouched : (before after : ℕ → R) → AreResults m g before → AreResults m new after → KeepsUntouched g r images before after
  -- "Otherwise it is a staying vertex, in demand 3 too": a shared constant has the same result, whatever the rule
  pub constants : (before after : ℕ → R) → AreResults m g before → AreResults m new after
      → (v : ℕ) → SharedConst g r images v → after v ≡ before v
  -- "Now suppose also that, whatever results the rule's inputs take, each target output has the same result as its source output, with
  -- the attributes of this match. Then every vertex that stays has the same result after as before."
  pub staying : SameOutputs m g r images values
      → (before after : ℕ → R) → AreResults m g before → AreResults m new after → KeepsStaying g r images before after
  -- "So has every graph output, place by place: the vertex it names after has the result of the one it named before."
  pub outputs : SameOutputs m g r images values
      → (before after : ℕ → R) → AreResults m g before → AreResults m new after → KeepsOutputs g new before after
