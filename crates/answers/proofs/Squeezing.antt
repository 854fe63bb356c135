-- What the replies of a squeeze mean, what an accepted one leaves, and that results go with the vertices. Theorems from the contract of
-- lg_squeeze alone.
-- Assumes nothing.
use mathlib.Core.Path.{◌≡◌, refl, sym, ap, ◌∙◌, subst}
use mathlib.Core.Bool.{true, false}
use mathlib.Core.List.{List, [], ◌∷◌, map, Memᴰ}
use mathlib.Core.Logic.{⊎_elim}
use Prim.Native.Nat.{ℕ, ◌*◌, ◌<◌}
use native.Mathlib.Omega.{arith}
use borrow.Author.Tests.{eqb-true, eqb-false}
use lib.Dec.{eqb}
use lib.ListN.{length}
use Rattle.definitions.specs.declared.Refusal.{Refusal}
use Rattle.std.specs.Prelude.{Err}
use Rattle.definitions.specs.Lists.{member}
use Rattle.definitions.specs.Fields.{u16_bytes}
use Rattle.definitions.specs.Operators.{kind_variable}
use Rattle.definitions.specs.Reply.{done, bad_moves_length, refused, packed, number_in, place_in, value_in}
use Rattle.definitions.specs.Graph.{graph_version, slot_count, stored_count, Graph, renamed, graph_of, slot_of, is_vertex, is_variable, record_at, true_count, graph_block, graph_reply, SoundGraph}
use Rattle.definitions.specs.Squeeze.{moved_to, squeeze, moves_block, moves_reply, squeeze_reply, squeeze_graph, squeeze_moves}
use Rattle.definitions.specs.Results.{Meaning}
use Rattle.laws.proofs.Lists.{decided, true_not_false, map_same}
use Rattle.laws.proofs.Members.{member-left}
use Rattle.laws.proofs.Graph.{length-slots, vertex-inside}
use Rattle.laws.proofs.Reply.{first_done, first-refused, first_last, where_done_lem, where_refused}
use Rattle.laws.proofs.Operations.{moves_valueless}
use Rattle.graph_check.proofs.Sound.{every_sound}
use Rattle.encoding.specs.Tables.{Table, Words}
use Rattle.encoding.proofs.Numbers.{length_u16, u16_back}
use Rattle.encoding.proofs.Pieces.{length-numbered, numbered-at}
use Rattle.encoding.proofs.Blocks.{few_slots, block-length, block_back, block-sound, holdable}
use Rattle.encoding.proofs.Graphs.{table_of, words_of, canonical}
use Rattle.tidying.proofs.Carried.{Carries}
use Rattle.tidying.proofs.Counts.{squeezed_count}
use Rattle.tidying.proofs.Squeezed.{vertex_count, comes_from, count_most, moved_empty, moved_below, moved-from, moved_order, from-vertex, from-moved, squeezed_size, moved-slot, vertex-low, squeezed_table, squeezed_words, squeezed_acyclic, moved_self, squeezed_twice}
use Rattle.answers.specs.Tidied.{went_to, Renumbers}
use Rattle.answers.specs.Statements.{Says, graph_numbers, squeeze_numbers, Squeezed, GraphVerdict, Squeezes, SqueezeReplies, SqueezeKeeps, SqueezedTwice}
use Rattle.answers.proofs.Blocks.{graph_verdict, read_done, read-refused}
use Rattle.answers.proofs.Tidying.{layout, keeps}
use Rattle.answers.proofs.GraphFirst.{sound_or_not, refused_why, GraphFirst, wrong, right, wrong_graph_lem, graph_fault_lem}

-- ---- the list

module _ (graph : List ℕ) (sound : SoundGraph graph) where
  abbrev g : Graph
  g = graph_of graph

  moved_small : (v : ℕ) → moved_to g v < 65536
  moved_small v = ⊎_elim
      (λ (t : is_vertex g v ≡ true). omega (arith, moved_below g v t, count_most g, few_slots g (table_of graph sound)))
      (λ (f : is_vertex g v ≡ false). omega (arith, moved_empty g v f))
      (decided (is_vertex g v))

  list_length : length (moves_block g) ≡ 2 * slot_count graph
  unfolding moves_block
  list_length =
      length-numbered u16_bytes 2 (length g.slots) (moved_to g) (λ k l. length_u16 (moved_to g k)) ∙ ap (λ (n : ℕ). 2 * n) (length-slots graph)

  -- the number that the list has for slot v
  list_at : (v : ℕ) → v < slot_count graph → went_to (moves_block g) v ≡ moved_to g v
  unfolding moves_block
  list_at v l =
      u16_back (moves_block g) (2 * v) (moved_to g v)
      (λ i m. numbered-at u16_bytes 2 (length g.slots) (moved_to g) (λ k n. length_u16 (moved_to g k)) v i 0 (omega (arith, length-slots graph)) m)
      (moved_small v)

  list_vertex : (v : ℕ) → is_vertex g v ≡ true → went_to (moves_block g) v ≡ moved_to g v
  list_vertex v t = list_at v (omega (arith, vertex-inside g v t, length-slots graph))

-- ---- which reply

module _ (graph moves : List ℕ) (reply : ℕ) (graph_after moves_after : List ℕ) (contract : Squeezed graph moves reply graph_after moves_after) where
  -- the graph's faults come first, then the list's length
  data Answer : Type 0 where
    wrong_graph : (SoundGraph graph → ⊥) → squeeze_reply graph moves ≡ graph_reply graph → Answer
    wrong_moves : SoundGraph graph → (length moves ≡ 2 * slot_count graph → ⊥) → squeeze_reply graph moves ≡ refused bad_moves_length → Answer
    accepted : SoundGraph graph → length moves ≡ 2 * slot_count graph → squeeze_reply graph moves ≡ done → Answer

  answer : Answer
  unfolding squeeze_reply moves_reply
  answer = ⊎_elim
      (λ (sound : SoundGraph graph).
      let then : squeeze_reply graph moves ≡ moves_reply graph moves =
      first_done (moves_reply graph moves ∷ []) (every_sound graph sound)
      ∙ first_last (moves_reply graph moves) (moves_valueless graph moves) in
      ⊎_elim
      (λ (s : eqb (length moves) (2 * slot_count graph) ≡ true).
      accepted sound (eqb-true (length moves) (2 * slot_count graph) s) (then ∙ rw s))
      (λ (s : eqb (length moves) (2 * slot_count graph) ≡ false).
      wrong_moves sound (eqb-false (length moves) (2 * slot_count graph) s) (then ∙ rw s))
      (decided (eqb (length moves) (2 * slot_count graph))))
      (λ (unsound : SoundGraph graph → ⊥).
      let why = refused_why graph unsound in
      wrong_graph unsound (first-refused why.0 (moves_reply graph moves ∷ []) why.1 ∙ sym why.1))
      (sound_or_not graph)

  says_done : squeeze_reply graph moves ≡ done → Says reply 0 0
  says_done e = read_done reply (contract.replied ∙ ap packed e)

  says_moves : squeeze_reply graph moves ≡ refused bad_moves_length → Says reply bad_moves_length 0
  says_moves e = read-refused reply (record { number = omega arith; place = omega arith }) (contract.replied ∙ ap packed e)

  says_graph : squeeze_reply graph moves ≡ graph_reply graph → GraphVerdict graph reply
  says_graph e = graph_verdict graph reply (contract.replied ∙ ap packed e)

  -- 0 and 40 are no faults of a graph
  about_graph : Answer → GraphFirst graph reply
  unfolding member
  about_graph (wrong_graph unsound e) = wrong unsound (says_graph e)
  about_graph (wrong_moves sound other e) = right sound (rw (says_moves e).number)
  about_graph (accepted sound size e) = right sound (rw (says_done e).number)

  -- ---- each case of the reply, and no other

  by-done : Answer → number_in reply ≡ 0 → SoundGraph graph × (length moves ≡ 2 * slot_count graph)
  by-done (wrong_graph unsound e) h = absurd (unsound ((says_graph e).done.0 h))
  by-done (wrong_moves sound other e) h = absurd (omega (arith, (says_moves e).number))
  by-done (accepted sound size e) h = (sound, size)

  to-done : Answer → SoundGraph graph × (length moves ≡ 2 * slot_count graph) → number_in reply ≡ 0
  to-done (wrong_graph unsound e) good = absurd (unsound good.0)
  to-done (wrong_moves sound other e) good = absurd (other good.1)
  to-done (accepted sound size e) good = (says_done e).number

  by-moves : Answer → number_in reply ≡ bad_moves_length → SoundGraph graph × (length moves ≡ 2 * slot_count graph → ⊥)
  unfolding member
  by-moves (wrong_graph unsound e) h = absurd (true_not_false (rw h at (says_graph e).either) refl)
  by-moves (wrong_moves sound other e) h = (sound, other)
  by-moves (accepted sound size e) h = absurd (omega (arith, (says_done e).number))

  to-moves : Answer → SoundGraph graph × (length moves ≡ 2 * slot_count graph → ⊥) → number_in reply ≡ bad_moves_length
  to-moves (wrong_graph unsound e) h = absurd (unsound h.0)
  to-moves (wrong_moves sound other e) h = (says_moves e).number
  to-moves (accepted sound size e) h = absurd (h.1 size)

  by_number : Answer → member (number_in reply) squeeze_numbers ≡ true
  unfolding member
  by_number (wrong_graph unsound e) =
      member-left (number_in reply) (0 ∷ graph_numbers) (bad_moves_length ∷ []) (says_graph e).either
  by_number (wrong_moves sound other e) = rw (says_moves e).number
  by_number (accepted sound size e) = rw (says_done e).number

  by-plain : Answer → member (number_in reply) graph_numbers ≡ false → place_in reply ≡ 0
  by-plain (wrong_graph unsound e) f = absurd (true_not_false ((says_graph e).refused.1 unsound) f)
  by-plain (wrong_moves sound other e) f = (says_moves e).place
  by-plain (accepted sound size e) f = (says_done e).place

  by_value : Answer → value_in reply ≡ 0
  by_value (wrong_graph unsound e) = (says_graph e).value
  by_value (wrong_moves sound other e) = (says_moves e).value
  by_value (accepted sound size e) = (says_done e).value

  -- a refusal keeps both blocks
  left_both : {why : Refusal} → squeeze_reply graph moves ≡ Err why → (graph_after ≡ graph) × (moves_after ≡ moves)
  unfolding squeeze_graph squeeze_moves
  left_both e = (
    contract.left ∙ where_refused (graph_block (squeeze (graph_of graph))) graph e,
    contract.listed ∙ where_refused (moves_block (graph_of graph)) moves e,
  )

  by-refusal : Answer → (number_in reply ≡ 0 → ⊥) → (graph_after ≡ graph) × (moves_after ≡ moves)
  by-refusal (wrong_graph unsound e) h = left_both (e ∙ (refused_why graph unsound).1)
  by-refusal (wrong_moves sound other e) h = left_both e
  by-refusal (accepted sound size e) h = absurd (h (says_done e).number)

  -- ---- an accepted squeeze

  module _ (h : number_in reply ≡ 0) where
    sound : SoundGraph graph
    sound = (by-done answer h).0

    told : squeeze_reply graph moves ≡ done
    told = by answer
      where
        by : Answer → squeeze_reply graph moves ≡ done
        by (wrong_graph unsound e) = absurd (unsound sound)
        by (wrong_moves s other e) = absurd (other (by-done answer h).1)
        by (accepted s size e) = e

    table : Table (graph_of graph)
    table = table_of graph sound

    later : Table (squeeze (graph_of graph))
    later = squeezed_table (graph_of graph) table

    words : Words (squeeze (graph_of graph))
    words = squeezed_words (graph_of graph) table (words_of graph contract.lent_graph)

    left : graph_after ≡ graph_block (squeeze (graph_of graph))
    unfolding squeeze_graph
    left = contract.left ∙ where_done_lem (graph_block (squeeze (graph_of graph))) graph told

    listed : moves_after ≡ moves_block (graph_of graph)
    unfolding squeeze_moves
    listed = contract.listed ∙ where_done_lem (moves_block (graph_of graph)) moves told

    same_table : graph_of graph_after ≡ squeeze (graph_of graph)
    same_table = ap graph_of left ∙ block_back (squeeze (graph_of graph)) (holdable (squeeze (graph_of graph)) later) graph_version (true_count (squeeze (graph_of graph))) words

    after-sound : SoundGraph graph_after
    after-sound = rw left (block-sound (squeeze (graph_of graph)) later words (squeezed_acyclic (graph_of graph) table sound.form.acyclic))

    -- the list's numbers
    abbrev to : ℕ → ℕ
    to = went_to moves_after

    went_at : (v : ℕ) → v < slot_count graph → to v ≡ moved_to (graph_of graph) v
    went_at v l = ap (λ (list : List ℕ). went_to list v) listed ∙ list_at graph sound v l

    went : (v : ℕ) → is_vertex (graph_of graph) v ≡ true → to v ≡ moved_to (graph_of graph) v
    went v t = ap (λ (list : List ℕ). went_to list v) listed ∙ list_vertex graph sound v t

    went_all : (xs : List ℕ) → ((v : ℕ) → Memᴰ v xs → is_vertex (graph_of graph) v ≡ true) → map to xs ≡ map (moved_to (graph_of graph)) xs
    went_all xs vertices = map_same to (moved_to (graph_of graph)) xs (λ v m. went v (vertices v m))

    renumbers : Renumbers (graph_of graph) to
    renumbers = record {
      order = λ v w t s l. omega (arith, went v t, went w s, moved_order (graph_of graph) v w t s l);
      lowest = λ v t k l.
          let low : k < vertex_count (graph_of graph) = omega (arith, went v t, moved_below (graph_of graph) v t) in
          let u = comes_from (graph_of graph) k in
          let vertex = from-vertex (graph_of graph) k low in
          (u, vertex, went u vertex ∙ from-moved (graph_of graph) k low);
      empty = λ v l f. went_at v (omega (arith, length-slots graph)) ∙ moved_empty (graph_of graph) v f;
    }

    slot-after : (v : ℕ) → is_vertex (graph_of graph) v ≡ true → slot_of (graph_of graph_after) (to v) ≡ renamed to (slot_of (graph_of graph) v)
    unfolding renamed
    slot-after v t =
        let s = slot_of (graph_of graph) v in
        ap (λ (t : Graph). slot_of t (to v)) same_table ∙ ap (slot_of (squeeze (graph_of graph))) (went v t) ∙ moved-slot (graph_of graph) v t
        ∙ ap (λ (xs : List ℕ). record { kind = s.kind; operator = s.operator; inputs = xs; attributes = s.attributes })
        (sym (went_all s.inputs (sound.form.inputs v)))

    outputs-after : (graph_of graph_after).outputs ≡ map to (graph_of graph).outputs
    unfolding squeeze
    outputs-after = ap (λ (t : Graph). t.outputs) same_table ∙ sym (went_all (graph_of graph).outputs sound.form.outputs)

    counts-after : (v : ℕ) → is_vertex (graph_of graph) v ≡ true → stored_count graph_after (to v) ≡ stored_count graph v
    counts-after v t =
        let g = graph_of graph in
        let inside : to v < slot_count graph_after =
        omega (
          arith,
          went v t,
          moved_below g v t,
          count_most g,
          squeezed_size g,
          length-slots graph_after,
          ap (λ (t : Graph). length t.slots) same_table,
        ) in
        let old : v < slot_count graph = omega (arith, vertex-inside g v t, length-slots graph) in
        after-sound.counts (to v) inside ∙ ap (λ (t : Graph). true_count t (to v)) same_table ∙ ap (true_count (squeeze g)) (went v t)
        ∙ squeezed_count g table v t ∙ sym (sound.counts v old)

    rest-after : (k : ℕ) → is_vertex (graph_of graph_after) k ≡ true
        → (v : ℕ) × (is_vertex (graph_of graph) v ≡ true) × (to v ≡ k)
    rest-after k t =
        let low = vertex-low (graph_of graph) k (subst (λ (t : Graph). is_vertex t k ≡ true) same_table t) in
        let u = comes_from (graph_of graph) k in
        let vertex = from-vertex (graph_of graph) k low in
        (u, vertex, went u vertex ∙ from-moved (graph_of graph) k low)

    same_size : length graph_after ≡ length graph
    same_size =
        ap length left ∙ block-length (squeeze (graph_of graph)) (holdable (squeeze (graph_of graph)) later) graph_version (true_count (squeeze (graph_of graph))) ∙ ap record_at (squeezed_size (graph_of graph))
        ∙ sym (block-length (graph_of graph) (holdable (graph_of graph) table) graph_version (true_count (graph_of graph))) ∙ ap length (canonical graph sound contract.lent_graph)

    squeezes : Squeezes graph graph_after moves_after
    squeezes = record {
      moves = renumbers;
      moves_size = ap length listed ∙ list_length graph sound;
      records = slot-after;
      outputs = outputs-after;
      counts = counts-after;
      rest = rest-after;
      size = same_size;
      sound = after-sound;
    }

    -- ---- results

    carries : Carries (graph_of graph) (graph_of graph_after) (λ v. is_vertex (graph_of graph) v ≡ true) to
    carries = record { vertex = λ v t. t; slot = slot-after; read = λ v u t e. sound.form.inputs v u e }

    -- a Variable is a vertex
    variable-vertex : (v : ℕ) → is_variable (graph_of graph) v ≡ true → is_vertex (graph_of graph) v ≡ true
    unfolding is_variable is_vertex
    variable-vertex v t = rw (eqb-true (slot_of (graph_of graph) v).kind kind_variable t)

    pub squeeze-keeps {ℓ} : {R : Type ℓ} (m : Meaning R) → SqueezeKeeps m graph graph_after moves_after
    squeeze-keeps m = record {
      some = (
        record { function = m.function; variable = λ k. m.variable (comes_from (graph_of graph) k) },
        record {
          function = refl;
          variable = λ v t.
              let vertex = variable-vertex v t in
              ap m.variable (ap (comes_from (graph_of graph)) (went v vertex) ∙ moved-from (graph_of graph) v vertex);
        },
      );
      every = λ meant follows.
          keeps (layout graph sound) (layout graph_after after-sound) carries follows outputs-after sound.form.outputs after-sound.form.outputs;
    }

  pub squeeze_replies : SqueezeReplies graph moves reply graph_after moves_after
  squeeze_replies = record {
    done = (by-done answer, to-done answer);
    wrong_graph = wrong_graph_lem graph reply (about_graph answer);
    graph_fault = graph_fault_lem graph reply (about_graph answer);
    wrong_moves = (by-moves answer, to-moves answer);
    listed = by_number answer;
    plain = by-plain answer;
    value = by_value answer;
    refusal_keeps = by-refusal answer;
    squeezes = squeezes;
  }

pub squeeze_twice : (graph moves : List ℕ) (reply : ℕ) (graph_after moves_after : List ℕ) → Squeezed graph moves reply graph_after moves_after
    → number_in reply ≡ 0 → SqueezedTwice graph_after moves_after
squeeze_twice graph moves reply graph_after moves_after contract h list again graph_again list_again second size =
    let first = squeezes graph moves reply graph_after moves_after contract h in
    let table = table graph moves reply graph_after moves_after contract h in
    let block = left graph moves reply graph_after moves_after contract h in
    let same = same_table graph moves reply graph_after moves_after contract h in
    let slots : slot_count graph_after ≡ slot_count graph =
    sym (length-slots graph_after) ∙ ap (λ (t : Graph). length t.slots) same ∙ squeezed_size (graph_of graph) ∙ length-slots graph in
    let enough : length list ≡ 2 * slot_count graph_after = size ∙ first.moves_size ∙ ap (λ (n : ℕ). 2 * n) (sym slots) in
    let number = to-done graph_after list again graph_again list_again second
    (answer graph_after list again graph_again list_again second) (first.sound, enough) in (
      number,
      left graph_after list again graph_again list_again second number
          ∙ ap (λ (t : Graph). graph_block (squeeze t)) same ∙ ap graph_block (squeezed_twice (graph_of graph) table) ∙ sym block,
      λ v t.
          went graph_after list again graph_again list_again second number v t
          ∙ ap (λ (t : Graph). moved_to t v) same
          ∙ moved_self (graph_of graph) v (subst (λ (t : Graph). is_vertex t v ≡ true) same t),
    )
