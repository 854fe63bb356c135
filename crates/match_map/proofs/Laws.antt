-- What an attempt at the output images of a map comes to, output by output, and that it decides whether the map is a match.
-- Assumes nothing.
use mathlib.Core.Path.{◌≡◌, refl, sym, ◌∙◌, subst}
use mathlib.Core.Bool.{Bool, true, false, ◌||◌}
use mathlib.Core.List.{List, [], ◌∷◌}
use mathlib.Core.Logic.{⊎_elim}
use Prim.Native.Nat.{ℕ, suc, ◌+◌, ◌*◌, ◌<◌, ◌≤◌, max}
use native.Mathlib.Omega.{arith}
use borrow.Author.Tests.{eqb-true, eq-eqb, ltb-true, ltb-false}
use lib.Dec.{eqb, ltb}
use lib.ListN.{length, get_or, take, drop, drop_of_length-le}
use lib.Seq.{ext_get_or, get_or-take}
use Rattle.definitions.specs.Lists.{all_below}
use Rattle.definitions.specs.Fields.{u16_at}
use Rattle.definitions.specs.Graph.{unused_place, Graph, graph_of}
use Rattle.definitions.specs.Rule.{side_capacity, source_count, rule_output_count, Rule}
use Rattle.definitions.specs.Match.{image_of, Match, is_match}
use Rattle.definitions.specs.Operations.{map_places, map_bytes, images_in}
use Rattle.definitions.specs.ReadElsewhere.{is_match_map}
use Rattle.rule_fields.specs.Fixed.{is_expanded, fixed_of}
use Rattle.laws.proofs.Lists.{decided, true_not_false, fails, and_left, and_right, all_below_at, all_below_every}
use Rattle.laws.proofs.Tests.{same_tests}
use Rattle.laws.proofs.Members.{mem-at}
use Rattle.laws.proofs.Walks.{rest}
use Rattle.rule_fields.proofs.Fixed.{length-source, length-source-outputs, lent_rule_lem}
use Rattle.laws.proofs.Match.{image-at, images-length, images-at, image-inside}
use Rattle.theory.proofs.Match.{test-sound, test_complete}
use Rattle.rule_nodes.specs.Working.{WorkingRule}
use Rattle.rule_sound.proofs.Fixed.{in_order_of, whole_in_order_of}
use Rattle.rule_order.specs.InOrder.{InOrder, visited_after}
use Rattle.rule_order.proofs.InOrder.{in_order-first, in_order-rest}
use Rattle.match_images.specs.Partial.{Partial, Extends, Sends, Step}
use Rattle.match_look.proofs.Candidates.{formed}
use Rattle.match_look.proofs.Working.{rule_matchable}
use Rattle.match_outputs.proofs.Whole.{partial_match}
use Rattle.match_images.proofs.Steps.{no_step, then_step, second_fails}
use Rattle.match_outputs.proofs.Steps.{Blank, blank-after, nothing_mapped}
use Rattle.match_map.specs.Attempt.{SendsOutputs}
use Rattle.match_map.specs.Holding.{places_in, is_map_of, MapFits}

-- ---- an output after the other

-- the first i outputs are matched as the map says, which gives the images of the first `next` source vertices; the traversal goes on with
-- the other outputs, and visits every source vertex
pub record Attempted (g : Graph) (r : Rule) (map before : List ℕ) (i next : ℕ) (images : List ℕ) : Type 0 where
  pub step : Step g r 0 before (SendsOutputs r map i) next true images
  pub seen : (k : ℕ) → k < i → get_or r.source_outputs k 255 < next
  pub order : InOrder r next (drop i r.source_outputs)
  pub whole : visited_after next (drop i r.source_outputs) ≡ length r.source

pub attempt-start : (g : Graph) (rule map images : List ℕ) → WorkingRule rule → length images ≡ side_capacity
    → Attempted g (fixed_of rule) map images 0 0 images
attempt-start g rule map images working size = record {
  step = record {
    size = size;
    kept = λ i l. refl;
    rest = λ i l. refl;
    partial = λ t. nothing_mapped g (fixed_of rule) images size;
    meets = λ t k l. absurd (omega arith);
    forced = λ whole m e asked. (refl, λ i l. absurd (omega arith));
  };
  seen = λ k l. absurd (omega arith);
  order = in_order_of side_capacity (fixed_of rule) working.sound;
  whole = whole_in_order_of side_capacity (fixed_of rule) working.sound;
}

module _ (g : Graph) (r : Rule) {map before : List ℕ} {i next : ℕ} {images : List ℕ} (a : Attempted g r map before i next images)
    (o v : ℕ) (left : i < length r.source_outputs) (eo : o ≡ get_or r.source_outputs i 255) (ev : v ≡ u16_at map (2 * o)) where
  others : drop i r.source_outputs ≡ o ∷ drop (i + 1) r.source_outputs
  others = rw eo (rest r.source_outputs i 255 left)

  pub output_in_order : InOrder r next (o ∷ [])
  output_in_order = in_order-first r next o (drop (i + 1) r.source_outputs) (rw others at a.order)

  -- what is asked of all outputs is asked of the first i, and of this one
  parts : {n : ℕ} → i < n → (whole : List ℕ) → Match g r whole → SendsOutputs r map n whole → SendsOutputs r map i whole × Sends o v whole
  parts l whole m asked = (λ k below. asked k (omega arith), rw (ev, eo) (asked i l))

  pub output_fails : {n end past : ℕ} {made : List ℕ} {ok : Bool} → i < n → Step g r next images (Sends o v) past ok made → ok ≡ false
      → Step g r 0 before (SendsOutputs r map n) end false made
  output_fails l step f = second_fails a.step (omega arith) step f (parts l)

  -- no match has an image that is no slot
  pub output-outside : {n end : ℕ} → i < n → o < length r.source → length g.slots ≤ v
      → Step g r 0 before (SendsOutputs r map n) end false images
  output-outside l inside past =
      output_fails {past = next} l (no_step a.step.size (λ whole m e asked. absurd (omega (arith, asked, image-inside g r whole o m inside)))) refl

  pub output_passes : {after : ℕ} {made : List ℕ} {ok : Bool} → after ≡ max next (suc o)
      → Step g r next images (Sends o v) (max next (suc o)) ok made → ok ≡ true
      → Attempted g r map before (i + 1) after made
  unfolding visited_after
  output_passes {after} {made} e step t = record {
    step = subst (λ (b : Bool). Step g r 0 before (SendsOutputs r map (i + 1)) after b made) t
        (then_step a.step refl refl (omega arith) step (sym e) (parts (omega arith)) join);
    seen = λ k l. ⊎_elim
        (λ (s : ltb k i ≡ true). omega (arith, a.seen k (ltb-true k i s), e))
        (λ (s : ltb k i ≡ false). let q : k ≡ i = omega (arith, ltb-false k i s) in rw (q, ← eo) (omega (arith, e)))
        (decided (ltb k i));
    order = rw e (in_order-rest r next o (drop (i + 1) r.source_outputs) (rw others at a.order));
    whole = visited;
  }
    where
      join : SendsOutputs r map i images → Extends next images made → Sends o v made → SendsOutputs r map (i + 1) made
      join first kept sends k l = ⊎_elim
          (λ (s : ltb k i ≡ true).
          kept (get_or r.source_outputs k 255) (a.seen k (ltb-true k i s)) ∙ first k (ltb-true k i s))
          (λ (s : ltb k i ≡ false).
          let q : k ≡ i = omega (arith, ltb-false k i s) in
          rw (q, ← eo, ← ev) sends)
          (decided (ltb k i))

      visited : visited_after after (drop (i + 1) r.source_outputs) ≡ length r.source
      visited = rw e (rw others at a.whole)

-- after the last output all source vertices have their images
pub attempt_ends : (g : Graph) (r : Rule) {map before : List ℕ} {i next : ℕ} {images : List ℕ} → Attempted g r map before i next images
    → (n end : ℕ) → i ≡ n → length r.source_outputs ≤ i → end ≡ length r.source → Step g r 0 before (SendsOutputs r map n) end true images
unfolding visited_after
attempt_ends g r {i = i} a n end e past q =
    let all = rw (drop_of_length-le r.source_outputs past) at a.whole in
    rw (← e, q, ← all) a.step

-- ---- the attempt decides whether the map is a match

module _ (graph rule map : List ℕ) (working : WorkingRule rule) (fits : MapFits rule map) {ok : Bool} {start made : List ℕ}
    (blank : Blank (fixed_of rule) start)
    (step : Step (graph_of graph) (fixed_of rule) 0 start (SendsOutputs (fixed_of rule) map (rule_output_count rule)) (source_count rule) ok made) where
  abbrev g : Graph
  g = graph_of graph

  abbrev r : Rule
  r = fixed_of rule

  abbrev n : ℕ
  n = length r.source

  abbrev places : ℕ
  places = places_in map

  abbrev images : List ℕ
  images = images_in map n

  -- place j of the map holds what the attempt has made
  abbrev held : ℕ → Bool
  held j = eqb (u16_at map (2 * j)) (get_or made j 0)

  -- no source vertex has place j, or it holds 65535
  abbrev spare : ℕ → Bool
  spare j = ltb j n || eqb (u16_at map (2 * j)) unused_place

  made-blank : Blank r made
  made-blank = blank-after step.size step.rest blank

  made_at : (j : ℕ) → j < places → image_of made j ≡ get_or made j 0
  made_at j l = image-at made j (omega (arith, step.size, fits.few))

  told_at : (j : ℕ) → j < n → image_of images j ≡ u16_at map (2 * j)
  unfolding image_of
  told_at j l = images-at map n j unused_place l

  made-rest : (j : ℕ) → j < places → n ≤ j → get_or made j 0 ≡ unused_place
  made-rest j l past = sym (made_at j l) ∙ made-blank.rest j past

  -- An attempt at a match succeeds, and makes what the map holds.
  match_made : is_map_of g r places map ≡ true → (ok ≡ true) × (all_below held places ≡ true)
  unfolding is_map_of
  match_made h =
      let whole = test-sound g r images (and_left (is_match g r images) (all_below spare places) h) in
      let forced = step.forced images whole (λ i l. absurd (omega arith)) (λ k l.
      told_at (get_or r.source_outputs k 255) (working.sound.outputs_inside (get_or r.source_outputs k 255)
      (mem-at r.source_outputs k 255 (omega (arith, length-source-outputs rule))))) in (
        forced.0,
        all_below_every held places (λ j l. eq-eqb (u16_at map (2 * j)) (get_or made j 0) (⊎_elim
            (λ (t : ltb j n ≡ true).
            let below = ltb-true j n t in
            sym (told_at j below) ∙ forced.1 j (omega (arith, length-source rule)) ∙ made_at j l)
            (λ (t : ltb j n ≡ false).
            let past = ltb-false j n t in
            let unused : spare j ≡ true = all_below_at spare places j (and_right (is_match g r images) (all_below spare places) h) l in
            eqb-true (u16_at map (2 * j)) unused_place (simp t at unused) ∙ sym (made-rest j l past))
            (decided (ltb j n)))),
      )

  -- What a successful attempt has made is a match, and so is a map that holds it.
  made_match : ok ≡ true → all_below held places ≡ true → is_map_of g r places map ≡ true
  unfolding is_map_of
  made_match t h =
      let whole : Partial g r (length r.source) made = rw (length-source rule) (step.partial t) in
      let made_is = partial_match g r (formed rule (rule_matchable rule working)) made whole made-blank.rest working.sound.few_sources in
      let holds-made : (j : ℕ) → j < places → u16_at map (2 * j) ≡ get_or made j 0 =
      λ j l. eqb-true (u16_at map (2 * j)) (get_or made j 0) (all_below_at held places j h l) in
      let same : images ≡ take (length r.source) made =
      ext_get_or 0 images (take (length r.source) made)
      (images-length map n ∙ sym made_is.size)
      (λ j l.
      let below : j < n = rw (images-length map n) at l in
      images-at map n j 0 below ∙ holds-made j (omega (arith, fits.enough, length-source rule))
      ∙ sym (get_or-take (length r.source) made j 0 below)) in
      let passes : is_match g r images ≡ true = rw same (test_complete g r (take (length r.source) made) made_is) in
      simp (
        passes,
        all_below_every spare places (λ j l. ⊎_elim
            (λ (t : ltb j n ≡ true). simp t)
            (λ (t : ltb j n ≡ false).
            simp (t, eq-eqb (u16_at map (2 * j)) unused_place (holds-made j l ∙ made-rest j l (ltb-false j n t))))
            (decided (ltb j n))),
      )

  pub attempt_decides : ok ≡ true → all_below held places ≡ is_map_of g r places map
  attempt_decides t = same_tests (made_match t) (λ h. (match_made h).1)

  pub no_match_lem : ok ≡ false → false ≡ is_map_of g r places map
  no_match_lem f = sym (fails (λ h. true_not_false (match_made h).0 f))

-- ---- a rule that is lent, with a map as the operations lend it

lent_places : (map : List ℕ) → length map ≡ map_bytes → places_in map ≡ map_places
lent_places map size = rw size

pub lent_map : (graph rule map : List ℕ) → is_expanded rule ≡ false → length map ≡ map_bytes
    → is_map_of (graph_of graph) (fixed_of rule) (places_in map) map ≡ is_match_map graph rule map
unfolding is_map_of is_match_map
lent_map graph rule map lent size = rw (length-source rule, lent_rule_lem rule lent, lent_places map size)
