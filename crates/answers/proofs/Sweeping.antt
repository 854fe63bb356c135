-- What the replies of a sweep mean, what an accepted one leaves, and that it keeps results. Theorems from the contract of lg_sweep alone.
-- Assumes nothing.
use mathlib.Core.Path.{◌≡◌, refl, sym, ap, ◌∙◌, subst}
use mathlib.Core.Bool.{true, false}
use mathlib.Core.List.{List, map-id}
use Prim.Native.Nat.{ℕ, ◌<◌}
use native.Mathlib.Omega.{arith}
use lib.ListN.{length, get_or}
use Rattle.definitions.specs.Fields.{byte_at}
use Rattle.definitions.specs.Reply.{number_in}
use Rattle.definitions.specs.Graph.{header_bytes, graph_version, slot_count, record_at, Graph, graph_of, is_vertex, true_count, header_block, graph_block, SoundGraph}
use Rattle.definitions.specs.Sweep.{Unneeded, sweep, sweep_graph}
use Rattle.definitions.specs.Results.{Meaning}
use Rattle.laws.proofs.Lists.{fails}
use Rattle.laws.proofs.Graph.{length-slots}
use Rattle.laws.proofs.Reply.{where_done_lem, where_refused}
use Rattle.graph_check.proofs.Sound.{every_sound}
use Rattle.encoding.specs.Tables.{Table, Words}
use Rattle.encoding.proofs.Blocks.{block-length, header-held, block_back, block-sound, holdable}
use Rattle.encoding.proofs.Graphs.{table_of, words_of, canonical}
use Rattle.tidying.proofs.Carried.{Carries}
use Rattle.tidying.proofs.Swept.{unneeded_sound, swept_size, stays-slot, empty_only, empty_every, swept_table, swept_words, swept_acyclic, swept_carries, swept_twice}
use Rattle.answers.specs.Written.{KeepsRecord}
use Rattle.answers.specs.Statements.{Swept, GraphVerdict, Sweeps, SweepReplies, SweepKeeps, SweptTwice}
use Rattle.answers.proofs.Blocks.{graph_verdict}
use Rattle.answers.proofs.Records.{record_kept}
use Rattle.answers.proofs.Tidying.{layout, keeps}
use Rattle.answers.proofs.GraphFirst.{refused_why}

module _ (graph : List ℕ) (reply : ℕ) (graph_after : List ℕ) (contract : Swept graph reply graph_after) where
  abbrev g : Graph
  g = graph_of graph

  judged : GraphVerdict graph reply
  judged = graph_verdict graph reply contract.replied

  refusal_keeps_lem : (number_in reply ≡ 0 → ⊥) → graph_after ≡ graph
  unfolding sweep_graph
  refusal_keeps_lem other =
      contract.left
      ∙ where_refused (graph_block (sweep g)) graph (refused_why graph (λ sound. other (judged.done.1 sound))).1

  -- ---- an accepted sweep

  module _ (h : number_in reply ≡ 0) where
    sound : SoundGraph graph
    sound = judged.done.0 h

    table : Table g
    table = table_of graph sound

    later : Table (sweep g)
    later = swept_table g table

    words : Words (sweep g)
    words = swept_words g table (words_of graph contract.lent_graph)

    left : graph_after ≡ graph_block (sweep g)
    unfolding sweep_graph
    left = contract.left ∙ where_done_lem (graph_block (sweep g)) graph (every_sound graph sound)

    same_table : graph_of graph_after ≡ sweep g
    same_table = ap graph_of left ∙ block_back (sweep g) (holdable (sweep g) later) graph_version (true_count (sweep g)) words

    after-sound : SoundGraph graph_after
    after-sound = rw left (block-sound (sweep g) later words (swept_acyclic g table sound.form.acyclic))

    -- byte by byte
    byte_after : (i : ℕ) → byte_at graph_after i ≡ byte_at (graph_block (sweep g)) i
    byte_after i = ap (λ (block : List ℕ). byte_at block i) left

    byte_before : (i : ℕ) → byte_at (graph_block g) i ≡ byte_at graph i
    byte_before i = ap (λ (block : List ℕ). byte_at block i) (canonical graph sound contract.lent_graph)

    records_kept : (v : ℕ) → v < slot_count graph → (Unneeded g v → ⊥) → KeepsRecord graph graph_after v
    records_kept v inside needed =
        record_kept graph graph_after (sweep g) table later (canonical graph sound contract.lent_graph) left same_table v
        (omega (arith, length-slots graph)) (omega (arith, swept_size g table, length-slots graph))
        (stays-slot g table v (fails (λ t. needed (unneeded_sound g table v t))))

    header-kept : (i : ℕ) → i < header_bytes → byte_at graph_after i ≡ byte_at graph i
    unfolding sweep
    header-kept i l =
        byte_after i ∙ header-held (sweep g) (holdable (sweep g) later) graph_version (true_count (sweep g)) i l
        ∙ ap (λ (n : ℕ). get_or (header_block graph_version n g.outputs) i 0) (swept_size g table)
        ∙ sym (header-held g (holdable g table) graph_version (true_count g) i l) ∙ byte_before i

    same_size : length graph_after ≡ length graph
    same_size =
        ap length left ∙ block-length (sweep g) (holdable (sweep g) later) graph_version (true_count (sweep g)) ∙ ap record_at (swept_size g table)
        ∙ sym (block-length g (holdable g table) graph_version (true_count g))
        ∙ ap length (canonical graph sound contract.lent_graph)

    sweeps : Sweeps graph graph_after
    sweeps = record {
      empty = λ v. (
        λ f. empty_only g table v (subst (λ (t : Graph). is_vertex t v ≡ false) same_table f),
        λ why. subst (λ (t : Graph). is_vertex t v ≡ false) (sym same_table) (empty_every g table v why),
      );
      records = records_kept;
      header = header-kept;
      size = same_size;
      sound = after-sound;
    }

    pub sweep-keeps {ℓ} : {R : Type ℓ} (m : Meaning R) → SweepKeeps m graph graph_after
    unfolding sweep
    sweep-keeps m =
        keeps (layout graph sound) (layout graph_after after-sound)
        (subst (λ (t : Graph). Carries g t (λ v. is_vertex t v ≡ true) (λ v. v)) (sym same_table) (swept_carries g table))
        (record { function = refl; variable = λ v t. refl })
        (same_outputs ∙ sym (map-id g.outputs))
        (λ v k. after-sound.form.outputs v (rw same_outputs k))
        after-sound.form.outputs
      where
        same_outputs : (graph_of graph_after).outputs ≡ g.outputs
        same_outputs = ap (λ (t : Graph). t.outputs) same_table

  pub sweep_replies : SweepReplies graph reply graph_after
  sweep_replies = record { verdict = judged; refusal_keeps = refusal_keeps_lem; sweeps = sweeps }

pub sweep_twice : (graph : List ℕ) (reply : ℕ) (graph_after : List ℕ) → Swept graph reply graph_after → number_in reply ≡ 0
    → SweptTwice graph_after
sweep_twice graph reply graph_after contract h again graph_again second =
    let number = (judged graph_after again graph_again second).done.1 (after-sound graph reply graph_after contract h) in
    let table = table_of graph (sound graph reply graph_after contract h) in (
      number,
      left graph_after again graph_again second number
          ∙ ap (λ (t : Graph). graph_block (sweep t)) (same_table graph reply graph_after contract h)
          ∙ ap graph_block (swept_twice (graph_of graph) table)
          ∙ sym (left graph reply graph_after contract h),
    )
