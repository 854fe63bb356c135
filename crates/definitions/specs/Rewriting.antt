-- 'What a rewriting leaves', for a match that is given as its map.
-- Assumes nothing.
use Rattle.std.specs.Prelude.{◌≡◌, Bool, true, false, cond, not, ◌&&◌, ◌||◌, List, [], ◌∷◌, map, ℕ, ◌<◌, eqb, ltb, leb, ℤ, length, get_or}
use Rattle.std.proofs.Math.Option.{Option, none, some}
use Rattle.definitions.specs.Lists.{tabulate, all, filter, member, position, range}
use Rattle.definitions.specs.Fields.{word_of}
use Rattle.definitions.specs.Operators.{kind_proj}
use Rattle.definitions.specs.Graph.{unused_place, Slot, Graph, empty_slot, renamed, slot_of, is_vertex, at_least_one}
use Rattle.definitions.specs.Rule.{Expression, Origin, given, made, Pattern, Rule, target_of, is_rule_input}
use Rattle.definitions.specs.Attributes.{result_of}
use Rattle.definitions.specs.Match.{image_of, is_const, images_where, Private, is_private, output_images}

-- ---- attributes of the target vertices, read from the old table

-- the expressions' results, where each has one
unfoldable pub results : (ℕ → ℕ → Option ℤ) → List Expression → Option (List ℤ)
results read [] = some []
results read (e ∷ es) = elim (result_of read e) [
  | none ↦ none
  | some z ↦ elim (results read es) [ none ↦ none | some zs ↦ some (z ∷ zs) ]
]

-- a Proj's index is at least 1
unfoldable pub index_fits : ℕ → List ℤ → Bool
index_fits kind zs = not (eqb kind kind_proj) || all at_least_one zs

unfoldable pub vertex_results : (ℕ → ℕ → Option ℤ) → Pattern Origin → Option (List ℤ)
vertex_results read p = elim (results read p.attributes) [
  | none ↦ none
  | some zs ↦ cond (index_fits p.kind zs) (some zs) none
]

-- the attribute results of all target vertices, or none where one lacks a fit result (reply 5)
unfoldable pub target_results : (ℕ → ℕ → Option ℤ) → List (Pattern Origin) → Option (List (List ℤ))
target_results read [] = some []
target_results read (p ∷ ps) = elim (vertex_results read p) [
  | none ↦ none
  | some zs ↦ elim (target_results read ps) [ none ↦ none | some rest ↦ some (zs ∷ rest) ]
]

-- ---- slots that go, stay and are taken

-- The meaning: slot v is removed where it is the image of a source vertex that is no rule input. The image of a Const is removed only
-- where no graph output names it and nothing reads it but such images; else it stays.
pub record Removed (g : Graph) (r : Rule) (images : List ℕ) (v : ℕ) : Type 0 where
  pub vertex : ℕ
  pub inside : vertex < length r.source
  pub inner : is_rule_input r vertex ≡ false
  pub image : image_of images vertex ≡ v
  pub unneeded : is_const r vertex ≡ true → Private g r images v

-- What computes, and is proved to be the meaning. Source vertex j's image goes:
unfoldable pub goes : Graph → Rule → List ℕ → ℕ → Bool
goes g r images j = not (is_rule_input r j) && (not (is_const r j) || is_private g r images (image_of images j))

unfoldable pub is_removed : Graph → Rule → List ℕ → ℕ → Bool
is_removed g r images v = member v (images_where (goes g r images) r images)

-- a vertex of the old table that is not removed
unfoldable pub stays : Graph → Rule → List ℕ → ℕ → Bool
stays g r images k = is_vertex g k && not (is_removed g r images k)

-- the Empty slots after the removal, lowest first
unfoldable pub free_slots : Graph → Rule → List ℕ → List ℕ
free_slots g r images = filter (λ k. not (stays g r images k)) (range 0 (length g.slots))

-- the target vertices take the lowest of them, in order
unfoldable pub place_of : Graph → Rule → List ℕ → ℕ → ℕ
place_of g r images t = get_or (free_slots g r images) t unused_place

-- the slot that a target place names
unfoldable pub resolve : Graph → Rule → List ℕ → Origin → ℕ
resolve g r images (given j) = image_of images j
resolve g r images (made t) = place_of g r images t

-- T is at most the Empty slots plus those really removed (else reply 6)
unfoldable pub has_room : Graph → Rule → List ℕ → Bool
has_room g r images = leb (length r.target) (length (free_slots g r images))

-- ---- the new table

-- an input place of a staying vertex, or a graph output, that names the image of source output k names the place of target output k
unfoldable pub redirect : Graph → Rule → List ℕ → ℕ → ℕ
redirect g r images v =
    let replaced = output_images r images in
    cond (member v replaced) (resolve g r images (get_or r.target_outputs (position v replaced) (made (length r.target)))) v

unfoldable pub target_slot : Graph → Rule → List ℕ → List (List ℤ) → ℕ → Slot
target_slot g r images values t = record {
  kind = (target_of r t).kind;
  operator = (target_of r t).operator;
  inputs = map (resolve g r images) (target_of r t).inputs;
  attributes = map word_of (get_or values t []);
}

unfoldable pub staying_slot : Graph → Rule → List ℕ → ℕ → Slot
staying_slot g r images k = renamed (redirect g r images) (slot_of g k)

-- slot k of the new table: what stays, redirected; the target vertex that took it; or Empty
unfoldable pub new_slot : Graph → Rule → List ℕ → List (List ℤ) → ℕ → Slot
new_slot g r images values k =
    cond (stays g r images k) (staying_slot g r images k)
    (cond (ltb (position k (free_slots g r images)) (length r.target))
    (target_slot g r images values (position k (free_slots g r images)))
    empty_slot)

unfoldable pub new_graph : Graph → Rule → List ℕ → List (List ℤ) → Graph
new_graph g r images values = record {
  slots = tabulate (length g.slots) (new_slot g r images values);
  outputs = map (redirect g r images) g.outputs;
}
