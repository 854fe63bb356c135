-- Every slot of a new table follows its kind: what stays keeps its counts, a target vertex has those of its record in the rule and
-- results of its expressions for attributes, and the others are Empty. The attributes are 32-bit words.
-- Assumes nothing.
use mathlib.Core.Path.{◌≡◌}
use mathlib.Core.Bool.{true, false}
use mathlib.Core.List.Memᴰ
use mathlib.Core.List.{List, [], Memᴰ}
use mathlib.Core.Logic.{⊎_elim}
use mathlib.Core.Option.{some}
use Prim.Native.Nat.{ℕ, ◌^◌, ◌<◌}
use borrow.Author.Tests.{ltb-true}
use lib.Dec.{ltb}
use lib.IntN.{ℤ, pos}
use lib.ListN.{length, get_or, length-map, get_or-map}
use Rattle.definitions.specs.Lists.{all, position}
use Rattle.definitions.specs.Fields.{Bytes, signed, word_of}
use Rattle.definitions.specs.Operators.{kind_proj, shape_fits}
use Rattle.definitions.specs.Graph.{slot_count, Slot, Graph, empty_slot, renamed, graph_of, slot_of, at_least_one, SoundGraph}
use Rattle.definitions.specs.Rule.{Rule, target_of}
use Rattle.definitions.specs.FixedRule.{pattern_shaped, SoundFixed}
use Rattle.definitions.specs.Attributes.{in_range}
use Rattle.definitions.specs.Match.{read_attribute}
use Rattle.definitions.specs.Rewriting.{index_fits, target_results, stays, free_slots, redirect, resolve, target_slot, staying_slot, new_slot}
use Rattle.laws.proofs.Lists.{decided, all-at, all-member}
use Rattle.laws.proofs.Graph.{length-slots}
use Rattle.laws.proofs.Results.{vertex_index}
use Rattle.encoding.specs.Tables.{slot_fits}
use Rattle.encoding.proofs.Graphs.{follows, empty_fits, renamed-fits, table_of, words_of}
use Rattle.replacement.proofs.Values.{word_small, signed_word, target-values, value-count, values_small}

-- redirection keeps the counts
staying_shape : (graph : List ℕ) (r : Rule) (images : List ℕ) → SoundGraph graph → (k : ℕ) → k < slot_count graph
    → slot_fits (staying_slot (graph_of graph) r images k) ≡ true
unfolding staying_slot
staying_shape graph r images sound k l =
    renamed-fits (redirect (graph_of graph) r images) (slot_of (graph_of graph) k) ((table_of graph sound).shapes k (rw (length-slots graph) l))

-- ---- the slots of target vertices

module _ (g : Graph) (r : Rule) (images : List ℕ) (values : List (List ℤ)) (limit : ℕ) (sound : SoundFixed limit r)
    (found : target_results (read_attribute g images) r.target ≡ some values) (t : ℕ) (inside : t < length r.target) where
  abbrev slot : Slot
  slot = target_slot g r images values t

  small : all in_range (get_or values t []) ≡ true
  small = values_small g r images values found t inside (sound.target_uses t inside)

  -- the counts are those of the target vertex
  target-counts : shape_fits slot.kind slot.operator (length slot.inputs) (length slot.attributes) ≡ true
  unfolding target_slot pattern_shaped
  target-counts =
      simp (
        length-map (target_of r t).inputs (resolve g r images),
        length-map (get_or values t []) word_of,
        value-count g r images values found t inside,
      ) (sound.target_shapes t inside)

  -- a Proj's index had to be at least 1 to be a fit result
  target_index : slot.kind ≡ kind_proj → 0 < length slot.attributes → at_least_one (signed (get_or slot.attributes 0 0)) ≡ true
  unfolding target_slot word_of index_fits
  target_index proj l =
      let zs = get_or values t [] in
      let place : 0 < length zs = rw (length-map zs word_of) at l in
      let index : all at_least_one zs ≡ true = simp proj at
      (vertex_index (read_attribute g images) (target_of r t) zs (target-values g r images values found t inside)) in
      rw (
        get_or-map word_of zs 0 (pos 0),
        signed_word (get_or zs 0 (pos 0)) (all-at in_range (pos 0) zs 0 small place),
      )
      (all-at at_least_one (pos 0) zs 0 index place)

  target_shape : slot_fits (target_slot g r images values t) ≡ true
  target_shape = follows slot target-counts target_index

  target-words : (w : ℕ) → Memᴰ w (target_slot g r images values t).attributes → w < 2 ^ 32
  unfolding target_slot
  target-words w m =
      let from = Memᴰ.of_map word_of (get_or values t []) m in
      rw (← from.2) (word_small from.0 (all-member in_range small from.1))

-- ---- the slots of a new table

-- what holds of a slot that stays, of each target vertex's and of an Empty one holds of every slot
pub new-slot : (g : Graph) (r : Rule) (images : List ℕ) (values : List (List ℤ)) (k : ℕ) (P : Slot → Type 0)
    → P (staying_slot g r images k) → ((t : ℕ) → t < length r.target → P (target_slot g r images values t)) → P empty_slot
    → P (new_slot g r images values k)
unfolding new_slot
new-slot g r images values k P staying target empty =
    let t = position k (free_slots g r images) in
    ⊎_elim (λ (s : stays g r images k ≡ true). rw s staying)
    (λ (s : stays g r images k ≡ false).
    ⊎_elim (λ (u : ltb t (length r.target) ≡ true). rw (s, u) (target t (ltb-true t (length r.target) u)))
    (λ (u : ltb t (length r.target) ≡ false). rw (s, u) empty)
    (decided (ltb t (length r.target))))
    (decided (stays g r images k))

-- every slot of a new table follows its kind
pub new_shapes : (graph : List ℕ) (r : Rule) (images : List ℕ) (values : List (List ℤ)) (limit : ℕ) → SoundGraph graph → SoundFixed limit r
    → target_results (read_attribute (graph_of graph) images) r.target ≡ some values
    → (k : ℕ) → k < slot_count graph → slot_fits (new_slot (graph_of graph) r images values k) ≡ true
new_shapes graph r images values limit sound rules found k l =
    new-slot (graph_of graph) r images values k (λ (s : Slot). slot_fits s ≡ true)
    (staying_shape graph r images sound k l)
    (target_shape (graph_of graph) r images values limit rules found)
    empty_fits

-- and its attributes are 32-bit words
pub new-words : (graph : List ℕ) (r : Rule) (images : List ℕ) (values : List (List ℤ)) (limit : ℕ) → SoundGraph graph → SoundFixed limit r
    → Bytes graph → target_results (read_attribute (graph_of graph) images) r.target ≡ some values
    → (k : ℕ) → k < slot_count graph → (w : ℕ) → Memᴰ w (new_slot (graph_of graph) r images values k).attributes → w < 2 ^ 32
unfolding renamed staying_slot empty_slot
new-words graph r images values limit sound rules bytes found k l =
    new-slot (graph_of graph) r images values k (λ (s : Slot). (w : ℕ) → Memᴰ w s.attributes → w < 2 ^ 32)
    (words_of graph bytes k (rw (length-slots graph) l))
    (target-words (graph_of graph) r images values limit rules found)
    (λ w m. absurd (Memᴰ.not-nil m))
