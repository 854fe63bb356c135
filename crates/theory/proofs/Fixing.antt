-- The images of a rule's source outputs fix the whole map. From the last source vertex down: an output has its chosen image, and
-- another vertex is read by a later one, whose image reads its image in the same place.
-- Assumes nothing.
use mathlib.Core.Path.{◌≡◌, refl, sym, ap, ◌∙◌, subst}
use mathlib.Core.Bool.{true, false, cond}
use mathlib.Core.List.Memᴰ
use mathlib.Core.List.{List, [], ◌∷◌, ◌++◌, map, Memᴰ}
use mathlib.Core.Logic.{◌⊎◌, inl, inr, ⊎_elim}
use Prim.Native.Nat.{ℕ, zero, suc, ◌+◌, ◌-◌, ◌<◌, ◌≤◌}
use native.Mathlib.Nat.{not-suc-le-zero}
use native.Mathlib.Omega.{arith}
use borrow.Author.Tests.{ltb-true, ltb-false}
use lib.Dec.{ltb}
use lib.ListN.{length, get_or, drop, length-drop, drop_of_length-le, get_or-eq_default}
use lib.Seq.{drop-cons, get_or-drop}
use Rattle.definitions.specs.Lists.{foldl, member, position}
use Rattle.definitions.specs.Fields.{byte_at}
use Rattle.definitions.specs.Operators.{kind_empty, kinds, row_of}
use Rattle.definitions.specs.Graph.{unused_place, Graph, inputs_of}
use Rattle.definitions.specs.Paths.{Reads, visit}
use Rattle.definitions.specs.Rule.{side_limit, source_count, vertex_at, Pattern, Rule, rule_of, wildcard, source_of, source_inputs, traversal, SoundRule}
use Rattle.definitions.specs.Match.{image_of, Match, output_images, from_reader, images_from, images_for}
use Rattle.laws.proofs.Lists.{decided, true_not_false, length_none}
use Rattle.laws.proofs.Rule.{source-reader, length-source, length-source-outputs, source_kind_at, source-count-at, some_rule-outputs, pattern_shape, outputs_below, inputs_lower}
use Rattle.laws.proofs.Operators.{row-inputs}
use Rattle.laws.proofs.Members.{member_mem, mem_member, position-image, mem_range}

-- What a rule needs so that output images fix a match: inputs are lower, every source vertex is an output or read, a wildcard reads
-- nothing, and there is an output, and outputs are source vertices.
pub record Fixing (r : Rule) : Type 0 where
  pub lower : (j u : ℕ) → Reads (source_inputs r) j u → u < j
  pub read : (v : ℕ) → v < length r.source → (member v r.source_outputs ≡ true) ⊎ ((w : ℕ) × Reads (source_inputs r) w v)
  pub plain : (j : ℕ) → (source_of r j).kind ≡ kind_empty → source_inputs r j ≡ []
  pub some : 0 < length r.source_outputs
  pub inside : (o : ℕ) → Memᴰ o r.source_outputs → o < length r.source

-- ---- the image of a vertex that is no output, from its first reader

module _ (g : Graph) (f : ℕ → ℕ) (v : ℕ) where
  pub from-reader : (ps : List (Pattern ℕ)) (ws : List ℕ) → length ps ≡ length ws
      → ((i : ℕ) → i < length ps → member v (get_or ps i wildcard).inputs ≡ true
      → inputs_of g (get_or ws i unused_place) ≡ map f (get_or ps i wildcard).inputs)
      → (i : ℕ) → i < length ps → member v (get_or ps i wildcard).inputs ≡ true → from_reader g ps ws v ≡ f v
  unfolding from_reader
  from-reader [] ws e h i l t = absurd (not-suc-le-zero l)
  from-reader (p ∷ ps) [] e h i l t = absurd (omega arith)
  from-reader (p ∷ ps) (w ∷ ws) e h zero l t = rw (t, h 0 l t) (position-image f unused_place v p.inputs t)
  from-reader (p ∷ ps) (w ∷ ws) e h (suc i) l t =
      let next : from_reader g ps ws v ≡ f v =
      from-reader ps ws (omega arith) (λ k b. h (suc k) (omega arith)) i (omega arith) t in
      ⊎_elim (λ (s : member v p.inputs ≡ true). rw (s, h 0 (omega arith) s) (position-image f unused_place v p.inputs s))
      (λ (s : member v p.inputs ≡ false). rw s next)
      (decided (member v p.inputs))

-- ---- the whole map

-- the choice holds the image of every output, at the output's place
abbrev pub Chosen : Rule → List ℕ → List ℕ → Type 0
Chosen r images chosen =
    (o : ℕ) → member o r.source_outputs ≡ true → get_or chosen (position o r.source_outputs) unused_place ≡ image_of images o

module _ (g : Graph) (r : Rule) (fixing : Fixing r) (images : List ℕ) (m : Match g r images) where
  -- the image of a reader reads the images of what it reads
  reader-inputs : (j v : ℕ) → Reads (source_inputs r) j v → inputs_of g (image_of images j) ≡ map (image_of images) (source_inputs r j)
  reader-inputs j v reads =
      (m.takes j (source-reader r j v reads) (λ e. Memᴰ.not-nil (subst (Memᴰ v) (fixing.plain j e) reads))).inputs

  module _ (chosen : List ℕ) (agree : Chosen r images chosen) where
    -- an output has its chosen image, and another vertex the image that its first reader's image reads
    image-at : (v : ℕ) → v < length r.source
        → cond (member v r.source_outputs) (get_or chosen (position v r.source_outputs) unused_place)
        (from_reader g (drop (suc v) r.source) (drop (suc v) images) v) ≡ image_of images v
    unfolding image_of source_of
    image-at v l =
        ⊎_elim (λ (t : member v r.source_outputs ≡ true). rw t (agree v t))
        (λ (t : member v r.source_outputs ≡ false). rw t (unchosen t (fixing.read v l)))
        (decided (member v r.source_outputs))
      where
        ps : List (Pattern ℕ)
        ps = drop (suc v) r.source

        ws : List ℕ
        ws = drop (suc v) images

        equally : length ps ≡ length ws
        equally = simp (length-drop, m.size)

        inputs : (i : ℕ) → i < length ps → member v (get_or ps i wildcard).inputs ≡ true
            → inputs_of g (get_or ws i unused_place) ≡ map (image_of images) (get_or ps i wildcard).inputs
        inputs i b t = rw (get_or-drop (suc v) images i unused_place, get_or-drop (suc v) r.source i wildcard)
            (reader-inputs (suc v + i) v (member_mem v (source_inputs r (suc v + i)) (rw (get_or-drop (suc v) r.source i wildcard) at t)))

        unchosen : member v r.source_outputs ≡ false → (member v r.source_outputs ≡ true) ⊎ ((w : ℕ) × Reads (source_inputs r) w v)
            → from_reader g ps ws v ≡ image_of images v
        unchosen f (inl t) = absurd (true_not_false t f)
        unchosen f (inr found) =
            let w : ℕ = found.0 in
            let above : v < w = fixing.lower w v found.1 in
            let below : w < length r.source = source-reader r w v found.1 in
            let same : suc v + (w - suc v) ≡ w = omega arith in
            from-reader g (image_of images) v ps ws equally inputs (w - suc v)
            (omega (arith, length-drop (suc v) r.source))
            (rw (get_or-drop (suc v) r.source (w - suc v) wildcard, same) (mem_member found.1))

    -- the last k source vertices, from v on, and their images
    images-from : (k v : ℕ) → v + k ≡ length r.source
        → images_from g r.source_outputs chosen (drop v r.source) v ≡ drop v images
    unfolding images_from image_of
    images-from zero v e =
        rw (drop_of_length-le r.source {i = v} (omega arith), drop_of_length-le images {i = v} (omega (arith, m.size)))
    images-from (suc k) v e =
        rw (
          drop-cons r.source v wildcard (omega arith),
          drop-cons images v unused_place (omega (arith, m.size)),
          images-from k (suc v) (omega arith),
          image-at v (omega arith),
        )

    -- Where the choice holds the images of the outputs, the map is what is made from the choice.
    pub images-chosen : images ≡ images_for g r chosen
    unfolding images_for
    images-chosen = sym (images-from (length r.source) 0 (omega arith))

-- Output images fix the whole map: a match is what is made from the images that it gives to the outputs. So two matches with the
-- same output images are the same, and a search need only choose those.
pub images-fixed : (g : Graph) (r : Rule) → Fixing r → (images : List ℕ) → Match g r images
    → images ≡ images_for g r (output_images r images)
images-fixed g r fixing images m =
    images-chosen g r fixing images m (output_images r images)
    (λ o t. position-image (image_of images) unused_place o r.source_outputs t)

-- ---- a sound rule

abbrev pub Every : (ℕ → Type 0) → List ℕ → Type 0
Every P xs = (x : ℕ) → Memᴰ x xs → P x

-- what holds of the vertices visited so far and of each next one holds of all that are visited
fold_every : (P : ℕ → Type 0) (f : List ℕ → ℕ → List ℕ) → ((done : List ℕ) (v : ℕ) → P v → Every P done → Every P (f done v))
    → (us done : List ℕ) → Every P us → Every P done → Every P (foldl f done us)
unfolding foldl
fold_every P f step [] done us before = before
fold_every P f step (u ∷ us) done next before =
    fold_every P f step us (f done u) (λ x m. next x (Memᴰ.tail m)) (step done u (next u (Memᴰ.head refl)) before)

-- and of all that one visit adds
pub visit_every : (r : Rule) (P : ℕ → Type 0) → ((w u : ℕ) → Reads (source_inputs r) w u → P u) → (d : ℕ) (done : List ℕ) (v : ℕ)
    → P v → Every P done → Every P (visit (source_inputs r) d done v)
unfolding visit
visit_every r P inputs zero done v here before = before
visit_every r P inputs (suc d) done v here before =
    let after : List ℕ = foldl (visit (source_inputs r) d) done (source_inputs r v) in
    let among : Every P after = fold_every P (visit (source_inputs r) d) (visit_every r P inputs d) (source_inputs r v) done (inputs v) before in
    let then : Every P (after ++ v ∷ []) = λ x m. ⊎_elim (λ (k : Memᴰ x after). among x k)
    (λ (k : Memᴰ x (v ∷ [])). subst P (sym (Memᴰ.eq_of_singleton k)) here) (Memᴰ.append_cases after m) in
    ⊎_elim (λ (t : member v done ≡ true). rw t before) (λ (t : member v done ≡ false). rw t then) (decided (member v done))

-- every vertex that is visited is an output or is read by a vertex
pub traversal_every : (r : Rule) → Every (λ v. (member v r.source_outputs ≡ true) ⊎ ((w : ℕ) × Reads (source_inputs r) w v)) (traversal r)
unfolding traversal
traversal_every r = fold_every Used (visit (source_inputs r) n) (visit_every r Used (λ w u m. inr (w, m)) n) r.source_outputs []
    (λ o m. inl (mem_member m)) (λ x m. absurd (Memᴰ.not-nil m))
  where
    Used : ℕ → Type 0
    Used v = (member v r.source_outputs ≡ true) ⊎ ((w : ℕ) × Reads (source_inputs r) w v)

    n : ℕ
    n = length r.source

module _ (block : List ℕ) (s : SoundRule block) where
  sound-plain : (j : ℕ) → (source_of (rule_of block) j).kind ≡ kind_empty → source_inputs (rule_of block) j ≡ []
  unfolding source_of wildcard row_of kinds
  sound-plain j e =
      ⊎_elim (λ (t : ltb j (source_count block) ≡ true).
      let inside : j < source_count block = ltb-true j (source_count block) t in
      let at : ℕ = vertex_at j in
      let fits = pattern_shape block at (s.patterns j (omega arith)) in
      let kind : byte_at block at ≡ kind_empty = sym (source_kind_at block j inside) ∙ e in
      let most : byte_at block (at + 2) ≤ 0 =
      row-inputs kind_empty (byte_at block (at + 1)) (byte_at block (at + 2)) (byte_at block (at + 3)) (rw kind at fits) refl in
      length_none (source_inputs (rule_of block) j) (omega (arith, source-count-at block j inside)))
      (λ (t : ltb j (source_count block) ≡ false).
      ap (λ (p : Pattern ℕ). p.inputs)
      (get_or-eq_default (rule_of block).source wildcard (rw (length-source block) (ltb-false j (source_count block) t))))
      (decided (ltb j (source_count block)))

  sound_some : 0 < length (rule_of block).source_outputs
  sound_some = omega (arith, some_rule-outputs block side_limit s.header, length-source-outputs block)

  -- A sound rule is such a rule, so a match of a sound rule is fixed by its output images. That every source vertex is an output or
  -- read comes from the visiting order: the traversal visits outputs and inputs alone, and it visits every source vertex.
  pub sound_fixing : Fixing (rule_of block)
  sound_fixing = record {
    lower = inputs_lower block s.lower_inputs;
    read = λ v l. traversal_every (rule_of block) v
        (rw s.order (mem_range 0 (source_count block) v (omega arith) (rw (length-source block) at l)));
    plain = sound-plain;
    some = sound_some;
    inside = λ o m. rw (length-source block) (outputs_below block side_limit s.header o m);
  }
