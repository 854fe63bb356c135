-- Request 8/13, "Concatenations of any width": a variadic rule, and the fixed rule for which it stands, for each n. "One Tuple in the source
-- whose fields are n copies of a marked branch [...]. Branch vertices marked as templates are copied per field, others shared. The target may
-- hold one such Tuple over the same n".
-- Assumes nothing.
use Rattle.std.specs.Prelude.{Bool, cond, List, [], ◌∷◌, map, ℕ, suc, ◌+◌, ◌*◌, ◌/◌, ◌%◌, eqb, pos, length}
use Rattle.definitions.specs.Lists.{tabulate, foldl, concat_map, position}
use Rattle.definitions.specs.Paths.{visit}
use Rattle.definitions.specs.Rule.{side_limit, add, Expression, anything, constant, access, apply, index, sum, Origin, given, made, Pattern, Rule, source_of, target_of, source_inputs}

-- A rule as its block has it, and what the marks add to it.
pub record VariadicRule : Type 0 where
  -- vertices, outputs and expressions in the block's numbers, kinds without the marks
  pub plain : Rule
  pub source_template : ℕ → Bool
  pub target_template : ℕ → Bool
  -- the named Tuples; where there is no target one, a number that no target vertex has
  pub source_tuple : ℕ
  pub target_tuple : ℕ

-- ---- copies

-- A vertex of the fixed rule, on either side, is a vertex of the block, shared, or a copy of a template, of index 1 to n. As one
-- number, a shared vertex is itself, and copy i of template v is v + 16 i.
abbrev pub copy : ℕ → ℕ → ℕ
copy v i = v + side_limit * i

-- the block's vertex, and the index, which is 0 for a shared vertex
abbrev pub original : ℕ → ℕ
original c = c % side_limit

abbrev pub copy_index : ℕ → ℕ
copy_index c = c / side_limit

-- the target vertices among places
unfoldable pub made_of : Origin → List ℕ
made_of (given j) = []
made_of (made t) = t ∷ []

-- "its terms added from 1 up as by form 3"; with one term it is the term itself
unfoldable pub added : List Expression → Expression
added [] = constant (pos 0)
added (e ∷ es) = foldl (apply add) e es

module _ (r : VariadicRule) (n : ℕ) where
  -- "a template named is its copy of that index"; another vertex is shared
  unfoldable pub source_copy : ℕ → ℕ → ℕ
  source_copy i v = cond (r.source_template v) (copy v i) v

  -- and so a place of the target, a rule input or a target vertex
  unfoldable pub origin_copy : ℕ → Origin → Origin
  origin_copy i (given j) = given (source_copy i j)
  origin_copy i (made t) = made (cond (r.target_template t) (copy t i) t)

  -- what a vertex of index i names, `naming` by index; the named Tuple's field stands n times, once for each index from 1 to n
  unfoldable pub fields : {P : Type 0} → Bool → (ℕ → P → P) → ℕ → List P → List P
  fields is_tuple naming i places =
      cond is_tuple (concat_map (λ p. tabulate n (λ k. naming (suc k) p)) places) (map (naming i) places)

  -- ---- the vertices of the fixed rule, as copies: what each names, and their order

  unfoldable pub source_names : ℕ → List ℕ
  source_names c = fields (eqb c r.source_tuple) source_copy (copy_index c) (source_inputs r.plain (original c))

  unfoldable pub target_names : ℕ → List Origin
  target_names c = fields (eqb c r.target_tuple) origin_copy (copy_index c) (target_of r.plain (original c)).inputs

  -- "both sides numbered in visiting order", from the outputs; the rule inputs that the target names are not numbered there
  unfoldable pub source_order : List ℕ
  source_order = foldl (visit source_names (length r.plain.source)) [] r.plain.source_outputs

  unfoldable pub target_order : List ℕ
  target_order =
      foldl (visit (λ c. concat_map made_of (target_names c)) (length r.plain.target)) []
      (concat_map made_of r.plain.target_outputs)

  -- ---- the fixed rule: each copy by its number

  unfoldable pub source_number : ℕ → ℕ
  source_number c = position c source_order

  unfoldable pub numbered : Origin → Origin
  numbered (given c) = given (source_number c)
  numbered (made c) = made (position c target_order)

  -- an expression, where the index is i; under a sum that sum's own index counts ("the innermost sum's first")
  unfoldable pub seen : Expression → ℕ → Expression
  seen anything i = anything
  seen (constant z) i = constant z
  seen (access v b) i = access (source_number (source_copy i v)) b
  seen (apply o x y) i = apply o (seen x i) (seen y i)
  seen index i = constant (pos i)
  seen (sum x) i = added (tabulate n (λ k. seen x (suc k)))

  -- the pattern of copy c of block pattern p, which names these
  unfoldable pub copied : {P : Type 0} → Pattern P → ℕ → List P → Pattern P
  copied p c names = record {
    kind = p.kind;
    operator = p.operator;
    inputs = names;
    attributes = map (λ e. seen e (copy_index c)) p.attributes;
  }

  unfoldable pub expansion : Rule
  expansion = record {
    source = map (λ c. copied (source_of r.plain (original c)) c (map source_number (source_names c))) source_order;
    target = map (λ c. copied (target_of r.plain (original c)) c (map numbered (target_names c))) target_order;
    source_outputs = map source_number r.plain.source_outputs;
    target_outputs = map numbered r.plain.target_outputs;
  }
