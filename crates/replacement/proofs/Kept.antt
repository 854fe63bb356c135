-- Demand 3 for graphs: which results an accepted rewriting keeps, whatever the operators mean and whatever the variables hold. The
-- first half goes along the old table's edges. The second goes along the new table's, and says two things at once: a staying vertex
-- has its old result, and the place of a target vertex has the rule's result for that vertex.
-- Assumes nothing.
use mathlib.Core.Path.{◌≡◌, refl, sym, ap, ◌∙◌, subst}
use mathlib.Core.Bool.{true, false, cond, not}
use mathlib.Core.List.Memᴰ
use mathlib.Core.List.{List, [], map, map-map, Memᴰ}
use mathlib.Core.Logic.{⊎_elim}
use Prim.Native.Nat.{ℕ, zero, suc, ◌<◌}
use native.Mathlib.Nat.{not-suc-le-zero}
use native.Mathlib.Omega.{arith}
use borrow.Author.Tests.{ltb-true, not-true, eqb-false}
use lib.Dec.{T, eqb}
use lib.IntN.{ℤ}
use lib.ListN.{length, get_or}
use Rattle.definitions.specs.Lists.{member}
use Rattle.definitions.specs.Fields.{word_of}
use Rattle.definitions.specs.Operators.{kind_empty, kind_variable}
use Rattle.definitions.specs.Paths.{Reads, here, onward, Acyclic}
use Rattle.definitions.specs.Graph.{unused_place, Slot, Graph, renamed, slot_of, inputs_of, is_vertex, is_variable}
use Rattle.definitions.specs.Rule.{Origin, given, made, Rule, source_of, target_of, is_rule_input, origin_fits}
use Rattle.definitions.specs.Match.{image_of, output_images}
use Rattle.definitions.specs.Rewriting.{stays, place_of, resolve, redirect, target_slot, staying_slot, new_graph}
use Rattle.definitions.specs.Results.{Meaning, origin_result, result_at, AreResults, AreSourceResults, AreTargetResults, SameOutputs, Untouched, KeepsUntouched, KeepsStaying, KeepsOutputs}
use Rattle.laws.proofs.Lists.{decided, map_at, map_same, all-member}
use Rattle.laws.proofs.Members.{holds, true_holds, mem-at, no_member}
use Rattle.theory.proofs.Results.{along-edges}
use Rattle.replacement.proofs.Site.{Site}
use Rattle.replacement.proofs.Table.{ReplacedOrStays, other_kinds, read_named, output-named, stays_other, stays-vertex, input_stays, inner_kind, target_fits_lem, redirect_other, redirect-replaced, slot_staying, slot-target, staying_vertex, target-vertex, staying_reads, target-reads, new_layout_lem}

-- ---- the rule's results on the target side exist

module _ {ℓ} {R : Type ℓ} (g : Graph) (r : Rule) (images : List ℕ) (values : List (List ℤ)) (site : Site g r images) (m : Meaning R)
    (source : ℕ → R) where
  -- what target vertex t has as result, given those of the other target vertices
  target_at : (ℕ → R) → ℕ → R
  target_at target t =
      m.function (target_of r t).kind (target_of r t).operator (map word_of (get_or values t []))
      (map (origin_result source target) (target_of r t).inputs)

  -- results by evaluating n names deep; of target vertex n and of later ones, the result means nothing
  deep : ℕ → ℕ → R
  deep zero = m.variable
  deep (suc n) = target_at (deep n)

  -- a place that fits target vertex t has the same result for two ways to give results that agree on the earlier vertices
  earlier_agree : (one other : ℕ → R) (t : ℕ) → ((u : ℕ) → u < t → one u ≡ other u)
      → (o : Origin) → origin_fits r t o ≡ true → origin_result source one o ≡ origin_result source other o
  unfolding origin_fits origin_result
  earlier_agree one other t same (given j) h = refl
  earlier_agree one other t same (made u) h = same u (ltb-true u t h)

  -- a target vertex names earlier ones only, so below n going deeper changes nothing
  deep_settled : (n t : ℕ) → t < n → t < length r.target → deep n t ≡ deep (suc n) t
  unfolding deep target_at
  deep_settled zero t l inside = absurd (not-suc-le-zero l)
  deep_settled (suc n) t l inside =
      ap (m.function (target_of r t).kind (target_of r t).operator (map word_of (get_or values t [])))
      (map_same (origin_result source (deep n)) (origin_result source (deep (suc n))) (target_of r t).inputs (λ o e.
      earlier_agree (deep n) (deep (suc n)) t (λ u k. deep_settled n u (omega arith) (omega arith)) o
      (all-member (origin_fits r t) (site.target_inputs t inside) e)))

  -- The target side's results, whatever results the source vertices have.
  pub target-results : (target : ℕ → R) × AreTargetResults m r values source target
  unfolding deep target_at
  target-results = (deep (length r.target), λ t l. deep_settled (length r.target) t l l)

-- ---- the result of a slot's vertex

module _ {ℓ} {R : Type ℓ} (m : Meaning R) where
  -- what vertex v has as result, given its slot and its inputs' results
  abbrev slot_result : Slot → ℕ → List R → R
  slot_result s v inputs =
      cond (eqb s.kind kind_variable) (m.variable v) (m.function s.kind s.operator s.attributes inputs)

  function_result : (s : Slot) (v : ℕ) (inputs : List R) → eqb s.kind kind_variable ≡ false
      → slot_result s v inputs ≡ m.function s.kind s.operator s.attributes inputs
  function_result s v inputs h = simp h

-- ---- the results that are kept

module _ {ℓ} {R : Type ℓ} (g : Graph) (r : Rule) (images : List ℕ) (values : List (List ℤ)) (site : Site g r images) (m : Meaning R)
    (before after : ℕ → R) (old : AreResults m g before) (new : AreResults m (new_graph g r images values) after) where
  -- a staying vertex has its old result where the places that it names after have the results of those it named before
  staying_result : (v : ℕ) → stays g r images v ≡ true
      → ((u : ℕ) → Reads (inputs_of g) v u → after (redirect g r images u) ≡ before u) → after v ≡ before v
  unfolding result_at is_variable renamed staying_slot
  staying_result v s same =
      let inputs : map after (map (redirect g r images) (inputs_of g v)) ≡ map before (inputs_of g v) =
      map-map after (redirect g r images) (inputs_of g v)
      ∙ map_same (λ u. after (redirect g r images u)) before (inputs_of g v) same in
      new v (staying_vertex g r images values site v (true_holds (stays g r images v) s))
      ∙ ap (λ (k : Slot). slot_result m k v (map after k.inputs)) (slot_staying g r images values site v s)
      ∙ ap (slot_result m (slot_of g v) v) inputs
      ∙ sym (old v (true_holds (is_vertex g v) (stays-vertex g r images v s)))

  -- First half: what a staying vertex with no path from a replaced output reads is of the same sort, and is not redirected.
  pub keeps_untouched : KeepsUntouched g r images before after
  keeps_untouched = along-edges g site.layout (λ v. T (stays g r images v) → Untouched g r images v → after v ≡ before v)
      (λ v earlier t untouched.
      let s : stays g r images v ≡ true = holds (stays g r images v) t in
      staying_result v s (λ u e.
      let other : member u (output_images r images) ≡ false = no_member u (output_images r images) (λ k.
      let found = Memᴰ.of_map (image_of images) r.source_outputs k in
      untouched found.0 found.1 (onward here (subst (Reads (inputs_of g) v) (sym found.2) e))) in
      let kept : stays g r images u ≡ true = stays_other g r images u other (read_named g r images site v u s e) in
      ap after (redirect_other g r images u other)
      ∙ earlier u e (true_holds (stays g r images u) kept) (λ o k path. untouched o k (onward path e))))

  -- ---- the rule's results, where the source vertices have their images' results

  source : ℕ → R
  source j = before (image_of images j)

  -- these are results of the source side: a match takes each pattern's kind, operator and inputs from its image
  source-results : AreSourceResults m g r images source
  unfolding result_at is_variable source
  source-results j inside other =
      let v : ℕ = image_of images j in
      let kind = inner_kind r j inside (not-true (is_rule_input r j) (holds (not (is_rule_input r j)) other)) in
      let takes = site.is_match.takes j inside (eqb-false (source_of r j).kind kind_empty kind.0) in
      old v (site.is_match.vertices j inside)
      ∙ function_result m (slot_of g v) v (map before (inputs_of g v)) (rw takes.kind kind.1)
      ∙ (rw (takes.kind, takes.operator, takes.inputs, map-map before (image_of images) (source_of r j).inputs))

  target : ℕ → R
  target = (target-results g r images values site m source).0

  target_right : AreTargetResults m r values source target
  unfolding target
  target_right = (target-results g r images values site m source).1

  -- the place of a target vertex has the rule's result where its inputs have the rule's results
  target-result : (t : ℕ) → t < length r.target
      → ((o : Origin) → Memᴰ o (target_of r t).inputs → after (resolve g r images o) ≡ origin_result source target o)
      → after (place_of g r images t) ≡ target t
  unfolding result_at is_variable target_slot
  target-result t l same =
      let v : ℕ = place_of g r images t in
      let s : Slot = target_slot g r images values t in
      let inputs : map after (map (resolve g r images) (target_of r t).inputs)
      ≡ map (origin_result source target) (target_of r t).inputs =
      map-map after (resolve g r images) (target_of r t).inputs
      ∙ map_same (λ o. after (resolve g r images o)) (origin_result source target) (target_of r t).inputs same in
      new v (true_holds (is_vertex (new_graph g r images values) v) (target-vertex g r images values site t l))
      ∙ ap (λ (k : Slot). slot_result m k v (map after k.inputs)) (slot-target g r images values site t l)
      ∙ function_result m s v (map after s.inputs) (other_kinds (target_of r t).kind (site.target_kinds t l)).1
      ∙ ap (m.function s.kind s.operator s.attributes) inputs
      ∙ sym (target_right t l)

  -- ---- second half

  -- v has its old result where it stays, and the rule's result where it is the place of a target vertex
  abbrev Right : ℕ → Type ℓ
  Right v = (stays g r images v ≡ true → after v ≡ before v)
      × ((t : ℕ) → t < length r.target → place_of g r images t ≡ v → after v ≡ target t)

  -- so a target place that fits has, in the new table, the result that the rule gives it
  resolved : (o : Origin) → origin_fits r (length r.target) o ≡ true → Right (resolve g r images o)
      → after (resolve g r images o) ≡ origin_result source target o
  unfolding origin_fits resolve origin_result source
  resolved (given j) h right = right.0 (input_stays g r images site j h)
  resolved (made t) h right = right.1 t (ltb-true t (length r.target) h) refl

  module _ (acyclic : Acyclic (inputs_of (new_graph g r images values))) (same : SameOutputs m g r images values) where
    -- what a place names after the rewriting has the result of what it named before
    redirected : (u : ℕ) → ReplacedOrStays g r images u → Right (redirect g r images u) → after (redirect g r images u) ≡ before u
    unfolding source
    redirected u named right = ⊎_elim
        (λ (t : member u (output_images r images) ≡ true).
        let found = redirect-replaced g r images site u t in
        let o : Origin = get_or r.target_outputs found.place (made 0) in
        ap after found.target
        ∙ resolved o found.fits (subst Right found.target right)
        ∙ same source target source-results target_right found.place found.inside
        ∙ ap before found.source)
        (λ (t : member u (output_images r images) ≡ false).
        let other : redirect g r images u ≡ u = redirect_other g r images u t in
        ap after other ∙ (subst Right other right).0 (stays_other g r images u t named))
        (decided (member u (output_images r images)))

    -- all of the new table, from inputs to readers
    every : (v : ℕ) → Right v
    every = along-edges (new_graph g r images values) (new_layout_lem g r images values site acyclic) Right (λ v earlier. (
      λ s. staying_result v s (λ u e.
          redirected u (read_named g r images site v u s e)
          (earlier (redirect g r images u) (staying_reads g r images values site v u s e))),
      λ t l at. ap after (sym at) ∙ target-result t l (λ o e.
          resolved o (target_fits_lem g r images site t l o e)
          (earlier (resolve g r images o)
          (subst (λ (k : ℕ). Reads (inputs_of (new_graph g r images values)) k (resolve g r images o)) at
          (target-reads g r images values site t o l e)))),
    ))

  -- Second half: every vertex that stays has the same result,
  pub keeps_staying : Acyclic (inputs_of (new_graph g r images values)) → SameOutputs m g r images values
      → KeepsStaying g r images before after
  keeps_staying acyclic same v s = (every acyclic same v).0 (holds (stays g r images v) s)

  -- and so has every graph output, place by place.
  pub keeps_outputs : Acyclic (inputs_of (new_graph g r images values)) → SameOutputs m g r images values
      → KeepsOutputs g (new_graph g r images values) before after
  unfolding new_graph
  keeps_outputs acyclic same i l =
      let u : ℕ = get_or g.outputs i unused_place in
      ap after (map_at (redirect g r images) g.outputs i unused_place unused_place l)
      ∙ redirected acyclic same u (output-named g r images site u (mem-at g.outputs i unused_place l))
      (every acyclic same (redirect g r images u))
