-- What the replies to the question whether an image is read elsewhere mean, for the C side: theorems from the contract of
-- lg_is_read_elsewhere alone.
-- Assumes nothing.
use mathlib.Core.Path.{◌≡◌, refl, sym, ap, ◌∙◌}
use mathlib.Core.Bool.{Bool, true, false, cond, not, ◌||◌, or-true}
use mathlib.Core.List.{List, [], ◌∷◌}
use mathlib.Core.Logic.{◌↔◌, ⊎_elim}
use Prim.Native.Nat.{ℕ, ◌*◌, ◌<◌, ◌^◌}
use native.Mathlib.Omega.{arith}
use borrow.Author.Tests.{eqb-true, eq-eqb, ltb-true, ltb-false, lt-ltb, le-ltb, not-true}
use lib.Dec.{eqb, ltb}
use lib.ListN.{length}
use Rattle.definitions.specs.Lists.{all_below, member}
use Rattle.definitions.specs.Fields.{u16_at}
use Rattle.definitions.specs.Reply.{Reply, not_amatch, no_such_vertex, answered, refusal_at, refused, number_of, index_of, value_beside, number_in, value_in}
use Rattle.definitions.specs.Graph.{unused_place, stored_count, Graph, graph_of, true_count}
use Rattle.definitions.specs.Rule.{side_limit, source_count, Rule, rule_of, is_rule_input}
use Rattle.definitions.specs.Match.{is_const, must_be_private, places_of, is_match}
use Rattle.definitions.specs.Rewriting.{is_removed}
use Rattle.definitions.specs.Operations.{Outcome, outcome, at_return, returned, map_places, images_in}
use Rattle.definitions.specs.ReadElsewhere.{is_read_elsewhere, is_match_map, is_inner, elsewhere_answer, asked_reply, elsewhere_reply}
use Rattle.laws.proofs.Lists.{decided, true_not_false, fails, and_left, and_right, all_below_at, all_below_every}
use Rattle.laws.proofs.Members.{true_holds, member-left}
use Rattle.laws.proofs.Graph.{length-slots}
use Rattle.laws.proofs.Rule.{length-source}
use Rattle.laws.proofs.Match.{image-inside}
use Rattle.laws.proofs.Operations.{elsewhere_refused, elsewhere_asked, asked_no_match, asked_no_vertex, asked_answer}
use Rattle.theory.proofs.Match.{test-sound, test_complete}
use Rattle.theory.proofs.Removed.{removed_sound, removed_complete}
use Rattle.theory.proofs.Elsewhere.{elsewhere_sound, elsewhere_complete, private_nowhere, nowhere_private}
use Rattle.rule_sound.proofs.Sound.{sound-block}
use Rattle.match_readers.proofs.Laws.{by_count}
use Rattle.answers.specs.Statements.{Asked, Good, block_numbers, HoldsMatch, Inner, image_in, NeededElsewhere, ask_numbers, Answers, AskReplies}
use Rattle.answers.proofs.Blocks as Blocks
use Rattle.answers.proofs.Blocks.{Staged}

-- ---- the map and the vertex, by their meaning

module _ (graph rule map : List ℕ) where
  abbrev images : List ℕ
  images = images_in map (source_count rule)

  abbrev spare : ℕ → Bool
  spare j = ltb j (source_count rule) || eqb (u16_at map (2 * j)) unused_place

  holds-sound : is_match_map graph rule map ≡ true → HoldsMatch graph rule map
  unfolding is_match_map
  holds-sound t = record {
    is_match = test-sound (graph_of graph) (rule_of rule) images (and_left (is_match (graph_of graph) (rule_of rule) images) (all_below spare map_places) t);
    rest = λ j past l.
        let held = all_below_at spare map_places j (and_right (is_match (graph_of graph) (rule_of rule) images) (all_below spare map_places) t) l in
        eqb-true (u16_at map (2 * j)) unused_place (simp (le-ltb j (source_count rule) past) at held);
  }

  holds_complete : HoldsMatch graph rule map → is_match_map graph rule map ≡ true
  unfolding is_match_map
  holds_complete h =
      simp (
        test_complete (graph_of graph) (rule_of rule) images h.is_match,
        all_below_every spare map_places (λ j l. ⊎_elim
            (λ (t : ltb j (source_count rule) ≡ true). simp t)
            (λ (t : ltb j (source_count rule) ≡ false).
            simp (t, eq-eqb (u16_at map (2 * j)) unused_place (h.rest j (ltb-false j (source_count rule) t) l)))
            (decided (ltb j (source_count rule)))),
      )

module _ (rule : List ℕ) (vertex : ℕ) where
  inner-sound : is_inner (rule_of rule) vertex ≡ true → Inner rule vertex
  unfolding is_inner
  inner-sound t =
      let inside = and_left (ltb vertex (length (rule_of rule).source)) (not (is_rule_input (rule_of rule) vertex)) t in
      let other = and_right (ltb vertex (length (rule_of rule).source)) (not (is_rule_input (rule_of rule) vertex)) t in
      (rw (length-source rule) at (ltb-true vertex (length (rule_of rule).source) inside), not-true (is_rule_input (rule_of rule) vertex) other)

  inner_complete : Inner rule vertex → is_inner (rule_of rule) vertex ≡ true
  unfolding is_inner
  inner_complete i = simp (lt-ltb vertex (length (rule_of rule).source) (rw (length-source rule) i.0), i.1)

-- ---- the value of an answer

module _ (holds : Bool) (value : ℕ) (told : value ≡ cond holds 1 0) where
  value_yes : (value ≡ 1) ↔ (holds ≡ true)
  value_yes = (
    λ e. ⊎_elim (λ (t : holds ≡ true). t) (λ (f : holds ≡ false). let z : value ≡ 0 = rw f at told in absurd (omega (arith, z, e))) (decided holds),
    λ t. rw t at told,
  )

  value_no : (value ≡ 0) ↔ (holds ≡ false)
  value_no = (
    λ e. ⊎_elim (λ (t : holds ≡ true). let z : value ≡ 1 = rw t at told in absurd (omega (arith, z, e))) (λ (f : holds ≡ false). f) (decided holds),
    λ f. rw f at told,
  )

module _ (graph rule map : List ℕ) (vertex : ℕ) where
  -- what good blocks come to
  rest : Outcome
  rest = outcome (asked_reply graph rule map vertex) graph map

  -- the stages, in the papers' order
  data Stage : Type 0 where
    wrong_map : (HoldsMatch graph rule map → ⊥) → asked_reply graph rule map vertex ≡ refused not_amatch → Stage
    wrong_vertex : HoldsMatch graph rule map → (Inner rule vertex → ⊥) → asked_reply graph rule map vertex ≡ refused no_such_vertex → Stage
    both_good : HoldsMatch graph rule map → Inner rule vertex
        → asked_reply graph rule map vertex ≡ answered (elsewhere_answer graph rule map vertex) → Stage

  stage : Stage
  stage = ⊎_elim
      (λ (t : is_match_map graph rule map ≡ true). ⊎_elim
      (λ (i : is_inner (rule_of rule) vertex ≡ true).
      both_good (holds-sound graph rule map t) (inner-sound rule vertex i) (asked_answer graph rule map vertex t i))
      (λ (i : is_inner (rule_of rule) vertex ≡ false).
      wrong_vertex (holds-sound graph rule map t) (λ h. true_not_false (inner_complete rule vertex h) i) (asked_no_vertex graph rule map vertex t i))
      (decided (is_inner (rule_of rule) vertex)))
      (λ (f : is_match_map graph rule map ≡ false).
      wrong_map (λ h. true_not_false (holds_complete graph rule map h) f) (asked_no_match graph rule map vertex f))
      (decided (is_match_map graph rule map))

  -- the question's own numbers
  record Own (reply : ℕ) : Type 0 where
    own : member reply block_numbers ≡ false
    small : reply < 2 ^ 8

  own_number : Own (number_of (asked_reply graph rule map vertex)) × (index_of (asked_reply graph rule map vertex) ≡ 0)
  unfolding refusal_at answered number_of index_of member
  own_number = by stage
    where
      by : Stage → Own (number_of (asked_reply graph rule map vertex)) × (index_of (asked_reply graph rule map vertex) ≡ 0)
      by (wrong_map other e) = rw e (record { own = refl; small = omega arith }, refl)
      by (wrong_vertex h other e) = rw e (record { own = refl; small = omega arith }, refl)
      by (both_good h i e) = rw e (record { own = refl; small = omega arith }, refl)

  staged : Staged graph rule map (outcome (elsewhere_reply graph rule map vertex) graph map) rest
  unfolding rest
  staged = record {
    refusing = λ x e. ap (λ (a : Reply). outcome a graph map) (elsewhere_refused graph rule map vertex e);
    passing = λ e. ap (λ (a : Reply). outcome a graph map) (elsewhere_asked graph rule map vertex e);
    own = own_number.0.own;
    small = own_number.0.small;
    placeless = own_number.1;
  }

  -- ---- what the contract says at each end

  module _ (reply : ℕ) (contract : Asked graph rule map vertex reply) where
    met : at_return reply graph map ≡ returned (outcome (elsewhere_reply graph rule map vertex) graph map)
    unfolding returned
    met = ap (λ (n : ℕ). at_return n graph map) contract

    -- at the return from a call on good blocks
    data End : Type 0 where
      no_map : (HoldsMatch graph rule map → ⊥) → number_in reply ≡ not_amatch → value_in reply ≡ 0 → End
      no_vertex : HoldsMatch graph rule map → (Inner rule vertex → ⊥) → number_in reply ≡ no_such_vertex → value_in reply ≡ 0 → End
      answer : HoldsMatch graph rule map → Inner rule vertex → number_in reply ≡ 0
          → value_in reply ≡ cond (elsewhere_answer graph rule map vertex) 1 0 → End

    end : Good graph rule map → End
    unfolding rest refusal_at answered number_of value_beside
    end good =
        let pass = Blocks.passes staged met good in
        by pass.number pass.value stage
      where
        by : number_in reply ≡ number_of (asked_reply graph rule map vertex) → value_in reply ≡ value_beside (asked_reply graph rule map vertex)
            → Stage → End
        by n v (wrong_map other e) = no_map other (n ∙ ap number_of e) (v ∙ ap value_beside e)
        by n v (wrong_vertex h other e) = no_vertex h other (n ∙ ap number_of e) (v ∙ ap value_beside e)
        by n v (both_good h i e) = answer h i (n ∙ ap number_of e) (v ∙ ap value_beside e)

    good_only : member (number_in reply) block_numbers ≡ false → Good graph rule map
    good_only = Blocks.good_only staged met

    -- ---- each reply exactly when it is due

    map_only : number_in reply ≡ not_amatch → Good graph rule map × (HoldsMatch graph rule map → ⊥)
    unfolding member
    map_only h = let good = good_only (rw h refl) in (good, by (end good))
      where
        by : End → HoldsMatch graph rule map → ⊥
        by (no_map other n v) = other
        by (no_vertex m other n v) = absurd (omega (arith, h, n))
        by (answer m i n v) = absurd (omega (arith, h, n))

    map_every : Good graph rule map × (HoldsMatch graph rule map → ⊥) → number_in reply ≡ not_amatch
    map_every w = by (end w.0)
      where
        by : End → number_in reply ≡ not_amatch
        by (no_map other n v) = n
        by (no_vertex m other n v) = absurd (w.1 m)
        by (answer m i n v) = absurd (w.1 m)

    vertex_only : number_in reply ≡ no_such_vertex → Good graph rule map × HoldsMatch graph rule map × (Inner rule vertex → ⊥)
    unfolding member
    vertex_only h = let good = good_only (rw h refl) in by good (end good)
      where
        by : Good graph rule map → End → Good graph rule map × HoldsMatch graph rule map × (Inner rule vertex → ⊥)
        by good (no_map other n v) = absurd (omega (arith, h, n))
        by good (no_vertex m other n v) = (good, m, other)
        by good (answer m i n v) = absurd (omega (arith, h, n))

    vertex_every : Good graph rule map × HoldsMatch graph rule map × (Inner rule vertex → ⊥) → number_in reply ≡ no_such_vertex
    vertex_every w = by (end w.0)
      where
        by : End → number_in reply ≡ no_such_vertex
        by (no_map other n v) = absurd (other w.1)
        by (no_vertex m other n v) = n
        by (answer m i n v) = absurd (w.2 i)

    -- what done is: good blocks, a match, such a vertex, and the answer
    record Told : Type 0 where
      good : Good graph rule map
      match : HoldsMatch graph rule map
      inner : Inner rule vertex
      value : value_in reply ≡ cond (elsewhere_answer graph rule map vertex) 1 0

    told : number_in reply ≡ 0 → Told
    unfolding member
    told h = let good = good_only (rw h refl) in by good (end good)
      where
        by : Good graph rule map → End → Told
        by good (no_map other n v) = absurd (omega (arith, h, n))
        by good (no_vertex m other n v) = absurd (omega (arith, h, n))
        by good (answer m i n v) = record { good = good; match = m; inner = i; value = v }

    pub done_every : Good graph rule map → HoldsMatch graph rule map → Inner rule vertex → number_in reply ≡ 0
    done_every good match inner = by (end good)
      where
        by : End → number_in reply ≡ 0
        by (no_map other n v) = absurd (other match)
        by (no_vertex m other n v) = absurd (other inner)
        by (answer m i n v) = n

    listed : member (number_in reply) ask_numbers ≡ true
    unfolding member
    listed =
        Blocks.by_blocks staged met (member (number_in reply) ask_numbers ≡ true)
        (λ about kept_graph kept_map.
        rw (member-left (number_in reply) block_numbers (not_amatch ∷ no_such_vertex ∷ []) about) (or-true (eqb (number_in reply) 0)))
        (λ good. by (end good))
      where
        by : End → member (number_in reply) ask_numbers ≡ true
        by (no_map other n v) = rw n refl
        by (no_vertex m other n v) = rw n refl
        by (answer m i n v) = rw n refl

    refusal-value : (number_in reply ≡ 0 → ⊥) → value_in reply ≡ 0
    refusal-value refusal =
        Blocks.by_blocks staged met (value_in reply ≡ 0)
        (λ about kept_graph kept_map. (Blocks.block_replies staged met).value about)
        (λ good. by (end good))
      where
        by : End → value_in reply ≡ 0
        by (no_map other n v) = v
        by (no_vertex m other n v) = v
        by (answer m i n v) = absurd (refusal n)

    -- ---- what an answer says

    module _ (h : number_in reply ≡ 0) where
      abbrev g : Graph
      g = graph_of graph

      abbrev r : Rule
      r = rule_of rule

      abbrev v : ℕ
      v = image_in rule map vertex

      given : Told
      given = told h

      inside : vertex < length r.source
      inside = rw (length-source rule) given.inner.0

      value : value_in reply ≡ cond (is_read_elsewhere g r (images graph rule map) v) 1 0
      unfolding elsewhere_answer
      value = given.value

      yes : (value_in reply ≡ 1) ↔ NeededElsewhere graph rule map vertex
      yes =
          let told = value_yes (is_read_elsewhere g r (images graph rule map) v) (value_in reply) value in (
            λ e. elsewhere_sound g r (images graph rule map) v (told.0 e),
            λ p. told.1 (elsewhere_complete g r (images graph rule map) v p),
          )

      no : (value_in reply ≡ 0) ↔ (NeededElsewhere graph rule map vertex → ⊥)
      no =
          let told = value_no (is_read_elsewhere g r (images graph rule map) v) (value_in reply) value in (
            λ e p. true_not_false (elsewhere_complete g r (images graph rule map) v p) (told.0 e),
            λ none. told.1 (fails (λ t. none (elsewhere_sound g r (images graph rule map) v t))),
          )

      -- the stored count is the true one
      stored : stored_count graph v ≡ true_count g v
      stored = given.good.1.counts v (omega (arith, image-inside g r (images graph rule map) vertex given.match.is_match inside, length-slots graph))

      by_stored : ltb (places_of r vertex) (stored_count graph v) ≡ is_read_elsewhere g r (images graph rule map) v
      by_stored = rw stored (by_count side_limit r (sound-block rule given.good.2) g (images graph rule map) given.match.is_match vertex inside)

      counted : (value_in reply ≡ 1) ↔ (places_of r vertex < stored_count graph v)
      counted =
          let told = value_yes (is_read_elsewhere g r (images graph rule map) v) (value_in reply) value in (
            λ e. ltb-true (places_of r vertex) (stored_count graph v) (by_stored ∙ told.0 e),
            λ l. told.1 (sym by_stored ∙ lt-ltb (places_of r vertex) (stored_count graph v) l),
          )

      interior : must_be_private r vertex ≡ true → value_in reply ≡ 0
      interior t = no.1 (private_nowhere g r (images graph rule map) v
          (given.match.is_match.interior vertex inside (true_holds (must_be_private r vertex) t)))

      -- a Const goes where it is private, and no other source vertex has its image
      constant : is_const r vertex ≡ true → (value_in reply ≡ 0) ↔ (is_removed g r (images graph rule map) v ≡ true)
      constant t = (
        λ e. removed_complete g r (images graph rule map) v record {
          vertex = vertex;
          inside = inside;
          inner = given.inner.1;
          image = refl;
          unneeded = λ c. nowhere_private g r (images graph rule map) v (no.0 e);
        },
        λ e.
            let gone = removed_sound g r (images graph rule map) v e in
            let same = given.match.is_match.injective gone.vertex vertex gone.inside inside gone.image in
            no.1 (private_nowhere g r (images graph rule map) v (gone.unneeded (rw same t))),
      )

      answers : Answers graph rule map vertex reply
      answers = record { yes = yes; no = no; counted = counted; interior = interior; constant = constant }

    pub ask_replies : AskReplies graph rule map vertex reply
    ask_replies = record {
      blocks = Blocks.block_replies staged met;
      no_map = (map_only, map_every);
      no_vertex = (vertex_only, vertex_every);
      done = (λ h. let t = told h in (t.good, t.match, t.inner), λ w. done_every w.0 w.1 w.2);
      listed = listed;
      refusal_value = refusal-value;
      answers = answers;
    }
