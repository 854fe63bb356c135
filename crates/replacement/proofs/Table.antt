-- The new table, slot by slot: which slots go, stay and are taken, what stands in each, and that every place names a vertex.
-- Assumes nothing.
use mathlib.Core.Path.{◌≡◌, refl, sym, ap, ◌∙◌, subst}
use mathlib.Core.Bool.{Bool, true, false, not, ◌||◌}
use mathlib.Core.List.Memᴰ
use mathlib.Core.List.{List, [], map, Memᴰ}
use mathlib.Core.Logic.{◌⊎◌, inl, inr, ⊎_elim}
use Prim.Native.Nat.{ℕ, ◌<◌, ◌≤◌}
use native.Mathlib.Omega.{arith}
use borrow.Author.Tests.{leb-true, ltb-true, ltb-false, lt-ltb, le-ltb, not-true}
use lib.Dec.{T, eqb, ltb}
use lib.IntN.{ℤ}
use lib.ListN.{length, get_or, length-map}
use Rattle.definitions.specs.Lists.{member, position, range}
use Rattle.definitions.specs.Operators.{kind_empty, kind_variable}
use Rattle.definitions.specs.Paths.{Reads, Acyclic}
use Rattle.definitions.specs.Graph.{unused_place, Slot, Graph, empty_slot, renamed, slot_of, inputs_of, is_vertex}
use Rattle.definitions.specs.Rule.{Origin, given, made, Rule, source_of, target_of, input_kind, is_rule_input, origin_fits}
use Rattle.definitions.specs.Match.{image_of, is_interior, is_const, must_be_private, inner_images, Private, output_images}
use Rattle.definitions.specs.Rewriting.{is_removed, stays, free_slots, place_of, resolve, has_room, redirect, target_slot, staying_slot, new_slot, new_graph}
use Rattle.laws.proofs.Lists.{decided, true_not_false, fails, and_left, and_right, get_or_any, map_at, all-member}
use Rattle.laws.proofs.Members.{holds, true_holds, mem_member, member_mem, mem-at, mem_range, position_at, position-inside}
use Rattle.laws.proofs.Filtered.{mem_filter, filtered_holds, filtered_below, filtered_place}
use Rattle.laws.proofs.Graph.{slot_past, reader-inside, vertex-inside}
use Rattle.laws.proofs.Rule.{input_inside}
use Rattle.laws.proofs.Match.{match_inputs, inner-image}
use Rattle.laws.proofs.Rewriting.{goes_other, image_removed, new-length, new-slot-at}
use Rattle.theory.proofs.Removed.{removed_sound}
use Rattle.theory.proofs.Results.{Layout}
use Rattle.replacement.proofs.Site.{Site}

-- v is a replaced output, or it stays
abbrev pub ReplacedOrStays : Graph → Rule → List ℕ → ℕ → Type 0
ReplacedOrStays g r images v = (member v (output_images r images) ≡ true) ⊎ (stays g r images v ≡ true)

-- a place that fits a target vertex fits a later one
fits-later : (r : Rule) (t n : ℕ) (o : Origin) → t ≤ n → origin_fits r t o ≡ true → origin_fits r n o ≡ true
unfolding origin_fits
fits-later r t n (given j) l h = h
fits-later r t n (made u) l h = lt-ltb u n (omega (arith, ltb-true u t h))

-- a kind that is no rule input's is neither Empty nor Variable
pub other_kinds : (kind : ℕ) → input_kind kind ≡ false → (eqb kind kind_empty ≡ false) × (eqb kind kind_variable ≡ false)
unfolding input_kind
other_kinds kind h = neither (eqb kind kind_empty) (eqb kind kind_variable) h
  where
    neither : (a b : Bool) → (a || b) ≡ false → (a ≡ false) × (b ≡ false)
    neither true b h = absurd (true_not_false refl h)
    neither false b h = (refl, h)

-- so a source vertex that is no rule input is neither the wildcard nor a Variable
pub inner_kind : (r : Rule) (j : ℕ) → j < length r.source → is_rule_input r j ≡ false
    → (eqb (source_of r j).kind kind_empty ≡ false) × (eqb (source_of r j).kind kind_variable ≡ false)
unfolding is_rule_input
inner_kind r j l h = other_kinds (source_of r j).kind (simp (lt-ltb j (length r.source) l) at h)

-- ---- what needs no match

module _ (g : Graph) (r : Rule) (images : List ℕ) where
  -- what stays is a vertex of the old table, so a slot of it, and it is not removed
  pub stays-vertex : (v : ℕ) → stays g r images v ≡ true → is_vertex g v ≡ true
  unfolding stays
  stays-vertex v h = and_left (is_vertex g v) (not (is_removed g r images v)) h

  pub stays-kept : (v : ℕ) → stays g r images v ≡ true → is_removed g r images v ≡ false
  unfolding stays
  stays-kept v h = not-true (is_removed g r images v) (and_right (is_vertex g v) (not (is_removed g r images v)) h)

  pub stays-inside : (v : ℕ) → stays g r images v ≡ true → v < length g.slots
  stays-inside v h = vertex-inside g v (stays-vertex v h)

  pub stays_other : (v : ℕ) → member v (output_images r images) ≡ false
      → ReplacedOrStays g r images v → stays g r images v ≡ true
  stays_other v h (inl t) = absurd (true_not_false t h)
  stays_other v h (inr s) = s

  -- a slot that does not stay is the place of the target vertex with its number among such slots
  pub free_place : (k : ℕ) → k < length g.slots → stays g r images k ≡ false
      → place_of g r images (position k (free_slots g r images)) ≡ k
  unfolding place_of free_slots
  free_place k l h =
      let free : ℕ → Bool = λ i. not (stays g r images i) in
      position_at k (free_slots g r images) unused_place
      (mem_member (mem_filter free (range 0 (length g.slots)) (mem_range 0 (length g.slots) k (omega arith) l) (simp h)))

  pub redirect_other : (v : ℕ) → member v (output_images r images) ≡ false → redirect g r images v ≡ v
  unfolding redirect
  redirect_other v h = simp h

  -- where v, a replaced output, stands among the source outputs; the target output there is what v's readers name now
  pub record Replaced (v : ℕ) : Type 0 where
    pub place : ℕ
    pub inside : place < length r.source_outputs
    pub source : image_of images (get_or r.source_outputs place 0) ≡ v
    pub target : redirect g r images v ≡ resolve g r images (get_or r.target_outputs place (made 0))
    pub fits : origin_fits r (length r.target) (get_or r.target_outputs place (made 0)) ≡ true

-- ---- what stays, what is taken and where places are redirected, in a match

module _ (g : Graph) (r : Rule) (images : List ℕ) (site : Site g r images) where
  -- a rule input's image stays, since no other source vertex has it
  pub input_stays : (j : ℕ) → is_rule_input r j ≡ true → stays g r images (image_of images j) ≡ true
  unfolding stays
  input_stays j h =
      let inside : j < length r.source = input_inside r j h in
      let kept : is_removed g r images (image_of images j) ≡ false = fails (λ t.
      let found = removed_sound g r images (image_of images j) t in
      let same : found.vertex ≡ j = site.is_match.injective found.vertex j found.inside inside found.image in
      true_not_false h (subst (λ (i : ℕ). is_rule_input r i ≡ false) same found.inner)) in
      simp (holds (is_vertex g (image_of images j)) (site.is_match.vertices j inside), kept)

  -- what is removed is private to the match, or a replaced output
  removed_private : (v : ℕ) → is_removed g r images v ≡ true → (member v (output_images r images) ≡ true) ⊎ Private g r images v
  unfolding must_be_private is_interior
  removed_private v t =
      let found = removed_sound g r images v t in
      let j : ℕ = found.vertex in
      ⊎_elim
      (λ (o : member j r.source_outputs ≡ true).
      inl (mem_member (Memᴰ.cast (sym found.image) (Memᴰ.map (image_of images) (member_mem j r.source_outputs o)))))
      (λ (o : member j r.source_outputs ≡ false). inr (⊎_elim
      (λ (c : is_const r j ≡ true). found.unneeded c)
      (λ (c : is_const r j ≡ false).
      subst (Private g r images) found.image
      (site.is_match.interior j found.inside (true_holds (must_be_private r j) (simp (found.inner, o, c)))))
      (decided (is_const r j))))
      (decided (member j r.source_outputs))

  -- a vertex that is not private to the match is a replaced output, or it stays
  shared_named : (v : ℕ) → is_vertex g v ≡ true → (Private g r images v → ⊥) → ReplacedOrStays g r images v
  unfolding stays
  shared_named v vertex shared = ⊎_elim
      (λ (t : is_removed g r images v ≡ true). ⊎_elim
      (λ (o : member v (output_images r images) ≡ true). inl o)
      (λ (p : Private g r images v). absurd (shared p))
      (removed_private v t))
      (λ (t : is_removed g r images v ≡ false). inr (simp (vertex, t)))
      (decided (is_removed g r images v))

  -- the image of a Const reads nothing
  pub const_reads : (j : ℕ) → j < length r.source → is_rule_input r j ≡ false → is_const r j ≡ true → inputs_of g (image_of images j) ≡ []
  const_reads j l inner c =
      match_inputs g r images site.is_match j l inner ∙ ap (map (image_of images)) (site.constants j l c)

  -- so an inner image that reads something is that of another kind, and goes
  reader_removed : (w v : ℕ) → Memᴰ w (inner_images r images) → Reads (inputs_of g) w v → is_removed g r images w ≡ true
  reader_removed w v m reads =
      let found = inner-image r images m in
      let j : ℕ = found.0 in
      ⊎_elim
      (λ (c : is_const r j ≡ true).
      absurd (Memᴰ.not-nil (subst (Memᴰ v) (rw found.3 at (const_reads j found.1 found.2 c)) reads)))
      (λ (c : is_const r j ≡ false).
      rw found.3 at (image_removed g r images j found.1 (goes_other g r images j found.2 c)))
      (decided (is_const r j))

  -- what a staying vertex reads is a replaced output, or it stays
  pub read_named : (w v : ℕ) → stays g r images w ≡ true → Reads (inputs_of g) w v → ReplacedOrStays g r images v
  read_named w v h m = shared_named v (site.layout.vertices w v m)
      (λ p. true_not_false (reader_removed w v (p.readers w m) m) (stays-kept g r images w h))

  -- and so is what a graph output names
  pub output-named : (v : ℕ) → Memᴰ v g.outputs → ReplacedOrStays g r images v
  output-named v m = shared_named v (site.outputs v m) (λ p. p.no_output m)

  -- what a target vertex names fits as a target place
  pub target_fits_lem : (t : ℕ) → t < length r.target → (o : Origin) → Memᴰ o (target_of r t).inputs
      → origin_fits r (length r.target) o ≡ true
  target_fits_lem t l o m = fits-later r t (length r.target) o (omega arith) (all-member (origin_fits r t) (site.target_inputs t l) m)

  -- the places of the target vertices are slots that do not stay, each of another vertex
  module _ (t : ℕ) (inside : t < length r.target) where
    listed : t < length (free_slots g r images)
    unfolding has_room
    listed = omega (arith, leb-true (length r.target) (length (free_slots g r images)) site.room)

    pub place_inside : place_of g r images t < length g.slots
    unfolding place_of free_slots
    place_inside = filtered_below (λ k. not (stays g r images k)) (length g.slots) t unused_place listed

    pub place_free : stays g r images (place_of g r images t) ≡ false
    unfolding place_of free_slots
    place_free = not-true (stays g r images (place_of g r images t))
        (filtered_holds (λ k. not (stays g r images k)) (length g.slots) t unused_place listed)

    pub place-position : position (place_of g r images t) (free_slots g r images) ≡ t
    unfolding place_of free_slots
    place-position = filtered_place (λ k. not (stays g r images k)) (length g.slots) t unused_place listed

  pub redirect-replaced : (v : ℕ) → member v (output_images r images) ≡ true → Replaced g r images v
  unfolding redirect
  redirect-replaced v h =
      let k : ℕ = position v (output_images r images) in
      let inside : k < length r.source_outputs =
      rw (length-map r.source_outputs (image_of images)) at (position-inside v (output_images r images) h) in
      let within : k < length r.target_outputs = rw site.same_count inside in
      record {
        place = k;
        inside = inside;
        source = sym (map_at (image_of images) r.source_outputs k unused_place 0 inside)
            ∙ position_at v (output_images r images) unused_place h;
        target = rw h (ap (resolve g r images) (get_or_any r.target_outputs k (made (length r.target)) (made 0) within));
        fits = all-member (origin_fits r (length r.target)) site.target_outputs (mem-at r.target_outputs k (made 0) within);
      }

-- ---- the new table, for any attributes of the target vertices

module _ (g : Graph) (r : Rule) (images : List ℕ) (values : List (List ℤ)) (site : Site g r images) where
  abbrev new : Graph
  new = new_graph g r images values

  pub slot_staying : (k : ℕ) → stays g r images k ≡ true → slot_of new k ≡ staying_slot g r images k
  unfolding new_slot
  slot_staying k h = new-slot-at g r images values k (stays-inside g r images k h) ∙ simp h

  pub slot-target : (t : ℕ) → t < length r.target → slot_of new (place_of g r images t) ≡ target_slot g r images values t
  unfolding new_slot
  slot-target t l =
      new-slot-at g r images values (place_of g r images t) (place_inside g r images site t l)
      ∙ simp (place_free g r images site t l, place-position g r images site t l, lt-ltb t (length r.target) l)

  -- past the target vertices' places, the slots that do not stay are Empty
  pub slot_empty : (k : ℕ) → stays g r images k ≡ false → length r.target ≤ position k (free_slots g r images)
      → slot_of new k ≡ empty_slot
  unfolding new_slot
  slot_empty k h l = ⊎_elim
      (λ (t : ltb k (length g.slots) ≡ true).
      new-slot-at g r images values k (ltb-true k (length g.slots) t)
      ∙ simp (h, le-ltb (position k (free_slots g r images)) (length r.target) l))
      (λ (t : ltb k (length g.slots) ≡ false).
      slot_past new k (omega (arith, new-length g r images values, ltb-false k (length g.slots) t)))
      (decided (ltb k (length g.slots)))

  -- so a slot stays, or it is the place of a target vertex, or it is Empty in the new table
  pub slot_cases : (k : ℕ) → k < length g.slots → (stays g r images k ≡ true)
      ⊎ (((t : ℕ) × (t < length r.target) × (place_of g r images t ≡ k)) ⊎ (slot_of new k ≡ empty_slot))
  slot_cases k inside =
      let t : ℕ = position k (free_slots g r images) in
      ⊎_elim
      (λ (s : stays g r images k ≡ true). inl s)
      (λ (s : stays g r images k ≡ false). inr (⊎_elim
      (λ (e : ltb t (length r.target) ≡ true).
      inl (t, ltb-true t (length r.target) e, free_place g r images k inside s))
      (λ (e : ltb t (length r.target) ≡ false). inr (slot_empty k s (ltb-false t (length r.target) e)))
      (decided (ltb t (length r.target)))))
      (decided (stays g r images k))

  -- ---- vertices of the new table

  pub staying_vertex : (v : ℕ) → T (stays g r images v) → T (is_vertex new v)
  unfolding is_vertex renamed staying_slot
  staying_vertex v h =
      let s : stays g r images v ≡ true = holds (stays g r images v) h in
      true_holds (is_vertex new v) (rw (slot_staying v s) (stays-vertex g r images v s))

  pub target-vertex : (t : ℕ) → t < length r.target → is_vertex new (place_of g r images t) ≡ true
  unfolding is_vertex target_slot
  target-vertex t l = rw (slot-target t l, (other_kinds (target_of r t).kind (site.target_kinds t l)).0)

  -- a target place that fits names a vertex of the new table
  pub resolved_vertex : (o : Origin) → origin_fits r (length r.target) o ≡ true → is_vertex new (resolve g r images o) ≡ true
  unfolding origin_fits resolve
  resolved_vertex (given j) h =
      let s : stays g r images (image_of images j) ≡ true = input_stays g r images site j h in
      holds (is_vertex new (image_of images j))
      (staying_vertex (image_of images j) (true_holds (stays g r images (image_of images j)) s))
  resolved_vertex (made t) h = target-vertex t (ltb-true t (length r.target) h)

  -- and so does a redirected place, where it named a replaced output or a vertex that stays
  redirected_vertex : (v : ℕ) → ReplacedOrStays g r images v → is_vertex new (redirect g r images v) ≡ true
  redirected_vertex v h = ⊎_elim
      (λ (t : member v (output_images r images) ≡ true).
      let found = redirect-replaced g r images site v t in
      rw found.target (resolved_vertex (get_or r.target_outputs found.place (made 0)) found.fits))
      (λ (t : member v (output_images r images) ≡ false).
      let s : stays g r images v ≡ true = stays_other g r images v t h in
      rw (redirect_other g r images v t)
      (holds (is_vertex new v) (staying_vertex v (true_holds (stays g r images v) s))))
      (decided (member v (output_images r images)))

  -- what a slot of the new table reads: a staying vertex reads what it read, redirected, and a target vertex what its places name
  pub reads_staying : (k v : ℕ) → stays g r images k ≡ true → Reads (inputs_of new) k v
      → (u : ℕ) × Reads (inputs_of g) k u × (redirect g r images u ≡ v)
  unfolding renamed staying_slot
  reads_staying k v h m = Memᴰ.of_map (redirect g r images) (inputs_of g k)
      (subst (λ (s : Slot). Memᴰ v s.inputs) (slot_staying k h) m)

  pub reads-target : (t v : ℕ) → t < length r.target → Reads (inputs_of new) (place_of g r images t) v
      → (o : Origin) × Memᴰ o (target_of r t).inputs × (resolve g r images o ≡ v)
  unfolding target_slot
  reads-target t v l m = Memᴰ.of_map (resolve g r images) (target_of r t).inputs
      (subst (λ (s : Slot). Memᴰ v s.inputs) (slot-target t l) m)

  -- and the other way round
  pub staying_reads : (k u : ℕ) → stays g r images k ≡ true → Reads (inputs_of g) k u
      → Reads (inputs_of new) k (redirect g r images u)
  unfolding renamed staying_slot
  staying_reads k u h m =
      subst (λ (s : Slot). Memᴰ (redirect g r images u) s.inputs) (sym (slot_staying k h))
      (Memᴰ.map (redirect g r images) m)

  pub target-reads : (t : ℕ) (o : Origin) → t < length r.target → Memᴰ o (target_of r t).inputs
      → Reads (inputs_of new) (place_of g r images t) (resolve g r images o)
  unfolding target_slot
  target-reads t o l m =
      subst (λ (s : Slot). Memᴰ (resolve g r images o) s.inputs) (sym (slot-target t l))
      (Memᴰ.map (resolve g r images) m)

  -- every input place and every output of the new table names a vertex of it
  pub new-inputs : (k v : ℕ) → Reads (inputs_of (new_graph g r images values)) k v → is_vertex (new_graph g r images values) v ≡ true
  unfolding empty_slot
  new-inputs k v m = ⊎_elim
      (λ (s : stays g r images k ≡ true).
      let found = reads_staying k v s m in
      subst (λ (u : ℕ). is_vertex new u ≡ true) found.2
      (redirected_vertex found.0 (read_named g r images site k found.0 s found.1)))
      (λ (c : ((t : ℕ) × (t < length r.target) × (place_of g r images t ≡ k)) ⊎ (slot_of new k ≡ empty_slot)). ⊎_elim
      (λ (p : (t : ℕ) × (t < length r.target) × (place_of g r images t ≡ k)).
      let found = reads-target p.0 v p.1 (subst (λ (i : ℕ). Reads (inputs_of new) i v) (sym p.2) m) in
      subst (λ (u : ℕ). is_vertex new u ≡ true) found.2
      (resolved_vertex found.0 (target_fits_lem g r images site p.0 p.1 found.0 found.1)))
      (λ (e : slot_of new k ≡ empty_slot). absurd (Memᴰ.not-nil (subst (λ (s : Slot). Memᴰ v s.inputs) e m)))
      c)
      (slot_cases k (rw (new-length g r images values) at (reader-inside new k v m)))

  pub new-outputs : (v : ℕ) → Memᴰ v (new_graph g r images values).outputs → is_vertex (new_graph g r images values) v ≡ true
  unfolding new_graph
  new-outputs v m =
      let found = Memᴰ.of_map (redirect g r images) g.outputs m in
      subst (λ (u : ℕ). is_vertex new u ≡ true) found.2
      (redirected_vertex found.0 (output-named g r images site found.0 found.1))

  -- so where it has no cycle, a proof may go along its edges
  pub new_layout_lem : Acyclic (inputs_of (new_graph g r images values)) → Layout (new_graph g r images values)
  new_layout_lem acyclic = record { vertices = new-inputs; acyclic = acyclic }
