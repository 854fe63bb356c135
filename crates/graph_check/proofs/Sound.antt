-- The reply to a graph block: done exactly where the block is a sound graph, and else the first kind of fault that holds, with its place,
-- both by the papers' words.
-- Assumes nothing.
use mathlib.Core.Path.{◌≡◌, sym, ap, ◌∙◌, subst}
use mathlib.Core.Bool.{true, false}
use mathlib.Core.List.{List}
use mathlib.Core.Logic.{⊎_elim}
use Prim.Native.Nat.{ℕ, ◌<◌, ◌≤◌}
use borrow.Author.Tests.{not-true, eqb-true, eqb-false, ne_eqb}
use lib.Dec.{eqb}
use lib.ListN.{length, get_or}
use Rattle.definitions.specs.Lists.{lowest, all}
use Rattle.definitions.specs.Paths.{Reads, OnCycle, on_cycle}
use Rattle.definitions.specs.Reply.{Reply, bad_graph_record, bad_graph_name, graph_has_cycle, bad_graph_count, done, refused_at}
use Rattle.definitions.specs.Graph.{unused_place, graph_version, slot_count, output_count, record_at, stored_count, graph_of, inputs_of, is_vertex, true_count, header_fits, record_fits, bad_record, bad_inputs, bad_output, bad_count, lowest_on_cycle, reply_as, graph_reply, SoundAs, SoundGraph}
use Rattle.definitions.specs.Faults.{None, BadRecord, BadInput, BadOutput, BadCount, FaultAs, header, slot, input, output, cycle, GraphFault, form, count}
use Rattle.laws.proofs.Lists.{decided, passes, fails, true_not_false, all-member, all_some}
use Rattle.laws.proofs.Members.{mem-place, mem-at}
use Rattle.laws.proofs.Faults.{by_place, Decides, found-lowest, found_none, lowest_is, lowest-inside, none_found, Ruling, good, bad, Judges, done_only, done_every, either}
use Rattle.laws.proofs.Graph.{reader-inside, length-slots, length-outputs}
use Rattle.theory.proofs.Results.{named_table}
use Rattle.reachability.proofs.Cycles.{cycle_decides}
use Rattle.graph_check.proofs.Laws.{early_header, early_record, early_input, early_output, early_done, told_early, refused_cycle, sound, refused-form, refused-count, counted}

module _ (version : ℕ) (block : List ℕ) where
  -- ---- what computes each fault decides it

  records_decided : Decides (bad_record version block) (slot_count block) (BadRecord version block)
  unfolding bad_record
  records_decided = record {
    only = λ k l t. (l, not-true (record_fits version block (record_at k)) t);
    every = λ k b. (b.0, simp b.1);
  }

  inputs_decided : Decides (bad_inputs (graph_of block)) (slot_count block) (BadInput (graph_of block))
  unfolding bad_inputs
  inputs_decided = record {
    only = λ k l t. all_some (is_vertex (graph_of block)) (inputs_of (graph_of block) k)
        (not-true (all (is_vertex (graph_of block)) (inputs_of (graph_of block) k)) t);
    every = λ k b. (
      rw (length-slots block) at (reader-inside (graph_of block) k b.0 b.1),
      simp (fails {b = all (is_vertex (graph_of block)) (inputs_of (graph_of block) k)}
          (λ t. true_not_false (all-member (is_vertex (graph_of block)) t b.1) b.2)),
    );
  }

  outputs_decided : Decides (bad_output (graph_of block)) (output_count block) (BadOutput (graph_of block))
  unfolding bad_output
  outputs_decided = record {
    only = λ i l t. (rw (length-outputs block) l, not-true (is_vertex (graph_of block) (get_or (graph_of block).outputs i unused_place)) t);
    every = λ i b. (rw (length-outputs block) at b.0, simp b.1);
  }

  -- where no input is bad, every input names a vertex
  named : None (BadInput (graph_of block)) → (k v : ℕ) → Reads (inputs_of (graph_of block)) k v → is_vertex (graph_of block) v ≡ true
  named none k v m = passes (λ f. none k (v, m, f))

  cycles_decided : None (BadInput (graph_of block))
      → Decides (on_cycle (inputs_of (graph_of block)) (length (graph_of block).slots)) (length (graph_of block).slots) (OnCycle (inputs_of (graph_of block)))
  cycles_decided none = cycle_decides (named_table (graph_of block) (named none))

  -- ---- each fault is told

  told : {n p : ℕ} → FaultAs version block n p → reply_as version block ≡ refused_at n p
  unfolding lowest_on_cycle
  told (header h) = sym (told_early version block (early_header version block h))
  told (slot h low) =
      sym (told_early version block (early_record version block h (lowest-inside records_decided low))) ∙ ap (refused_at bad_graph_record) (lowest_is records_decided low)
  told (input h records low) =
      sym (told_early version block (early_input version block h (none_found records_decided records) (lowest-inside inputs_decided low)))
      ∙ ap (refused_at bad_graph_name) (lowest_is inputs_decided low)
  told (output h records inputs low) =
      sym (told_early version block (early_output version block h (none_found records_decided records) (none_found inputs_decided inputs) (lowest-inside outputs_decided low)))
      ∙ ap (refused_at bad_graph_name) (lowest_is outputs_decided low)
  told (cycle h records inputs outputs low) =
      sym (refused_cycle version block
      (early_done version block h (none_found records_decided records) (none_found inputs_decided inputs) (none_found outputs_decided outputs))
      (subst (λ (n : ℕ). lowest_on_cycle (graph_of block) < n) (length-slots block) (lowest-inside (cycles_decided inputs) low)))
      ∙ ap (refused_at graph_has_cycle) (lowest_is (cycles_decided inputs) low)

  -- ---- no sound block has one

  apart : {n p : ℕ} → SoundAs version block → FaultAs version block n p → ⊥
  apart s (header h) = true_not_false s.header h
  apart s (slot {k} h low) = true_not_false (s.records k low.bad.0) low.bad.1
  apart s (input {k} h records low) = true_not_false (s.inputs k low.bad.0 low.bad.1) low.bad.2
  apart s (output {i} h records inputs low) =
      true_not_false (s.outputs (get_or (graph_of block).outputs i unused_place) (mem-at (graph_of block).outputs i unused_place low.bad.0))
      low.bad.1
  apart s (cycle {v} h records inputs outputs low) = s.acyclic v low.bad

  -- ---- the reply rules that there is a fault, or none

  abbrev Ruled : Reply → Type 0
  Ruled = Ruling (SoundAs version block) (FaultAs version block)

  module _ (h : header_fits version block ≡ true) (records : slot_count block ≤ lowest (bad_record version block) (slot_count block)) where
    no_record : None (BadRecord version block)
    no_record = found_none records_decided records

    module _ (inputs : slot_count block ≤ lowest (bad_inputs (graph_of block)) (slot_count block)) where
      no_input : None (BadInput (graph_of block))
      no_input = found_none inputs_decided inputs

      rules_cycle : output_count block ≤ lowest (bad_output (graph_of block)) (output_count block) → Ruled (reply_as version block)
      unfolding lowest_on_cycle
      rules_cycle outputs =
          let g = graph_of block in
          let no_output = found_none outputs_decided outputs in
          by_place (slot_count block) (lowest_on_cycle g)
          (λ l. subst Ruled (refused_cycle version block (early_done version block h records inputs outputs) l)
          (bad (cycle h no_record no_input no_output (found-lowest (cycles_decided no_input)
          (subst (λ (n : ℕ). lowest_on_cycle g < n) (sym (length-slots block)) l)))))
          (λ l. subst Ruled (sound version block (early_done version block h records inputs outputs) l)
          (good (record {
            header = h;
            records = λ k b. passes (λ f. no_record k (b, f));
            inputs = named no_input;
            outputs = λ v m.
                let at = mem-place unused_place m in
                rw at.2 at (passes {b = is_vertex g (get_or g.outputs at.0 unused_place)} (λ f. no_output at.0 (at.1, f)));
            acyclic = found_none (cycles_decided no_input) (subst (λ (n : ℕ). n ≤ lowest_on_cycle g) (sym (length-slots block)) l);
          })))

      rules_output : Ruled (reply_as version block)
      rules_output =
          by_place (output_count block) (lowest (bad_output (graph_of block)) (output_count block))
          (λ l. subst Ruled (told_early version block (early_output version block h records inputs l))
          (bad (output h no_record no_input (found-lowest outputs_decided l))))
          rules_cycle

    rules_input : Ruled (reply_as version block)
    rules_input =
        by_place (slot_count block) (lowest (bad_inputs (graph_of block)) (slot_count block))
        (λ l. subst Ruled (told_early version block (early_input version block h records l)) (bad (input h no_record (found-lowest inputs_decided l))))
        rules_output

  rules_record : header_fits version block ≡ true → Ruled (reply_as version block)
  rules_record h =
      by_place (slot_count block) (lowest (bad_record version block) (slot_count block))
      (λ l. subst Ruled (told_early version block (early_record version block h l)) (bad (slot h (found-lowest records_decided l))))
      (rules_input h)

  rules : Ruled (reply_as version block)
  rules = ⊎_elim rules_record
      (λ (f : header_fits version block ≡ false). subst Ruled (told_early version block (early_header version block f)) (bad (header f)))
      (decided (header_fits version block))

  -- ---- so the reply judges the block

  pub form-judged : Judges (SoundAs version block) (FaultAs version block) (reply_as version block)
  form-judged = record { ruling = rules; apart = apart; told = told }

  pub only_sound_as : reply_as version block ≡ done → SoundAs version block
  only_sound_as = done_only form-judged

-- ---- and then its counts

module _ (block : List ℕ) where
  counts_decided : Decides (bad_count block) (slot_count block) (BadCount block)
  unfolding bad_count
  counts_decided = record {
    only = λ k l t. (l, eqb-false (stored_count block k) (true_count (graph_of block) k) (not-true (eqb (stored_count block k) (true_count (graph_of block) k)) t));
    every = λ k b. (b.0, simp (ne_eqb (stored_count block k) (true_count (graph_of block) k) b.1));
  }

  abbrev form-done : SoundAs graph_version block → reply_as graph_version block ≡ done
  form-done = done_every (form-judged graph_version block)

  all_told : {n p : ℕ} → GraphFault block n p → graph_reply block ≡ refused_at n p
  all_told (form f) = refused-form block ((form-judged graph_version block).told f)
  all_told (count sound low) =
      sym (refused-count block (form-done sound) (lowest-inside counts_decided low)) ∙ ap (refused_at bad_graph_count) (lowest_is counts_decided low)

  all_apart : {n p : ℕ} → SoundGraph block → GraphFault block n p → ⊥
  all_apart s (form f) = (form-judged graph_version block).apart s.form f
  all_apart s (count {k} sound low) = low.bad.1 (s.counts k low.bad.0)

  abbrev AllRuled : Reply → Type 0
  AllRuled = Ruling (SoundGraph block) (GraphFault block)

  rules_counts : SoundAs graph_version block → AllRuled (graph_reply block)
  rules_counts sound =
      by_place (slot_count block) (lowest (bad_count block) (slot_count block))
      (λ l. subst AllRuled (refused-count block (form-done sound) l) (bad (count sound (found-lowest counts_decided l))))
      (λ l. subst AllRuled (counted block (form-done sound) l)
      (good (record {
        form = sound;
        counts = λ k b. eqb-true (stored_count block k) (true_count (graph_of block) k)
            (passes (λ f. found_none counts_decided l k (b, eqb-false (stored_count block k) (true_count (graph_of block) k) f)));
      })))

  all_rules : AllRuled (graph_reply block)
  all_rules = ⊎_elim rules_counts
      (λ f. subst AllRuled (sym (all_told (form f.2))) (bad (form f.2)))
      (either (form-judged graph_version block))

  pub graph-judged : Judges (SoundGraph block) (GraphFault block) (graph_reply block)
  graph-judged = record { ruling = all_rules; apart = all_apart; told = all_told }

  -- the reply is done for sound graphs alone
  pub only_sound : graph_reply block ≡ done → SoundGraph block
  only_sound = done_only graph-judged

  -- and for every sound graph
  pub every_sound : SoundGraph block → graph_reply block ≡ done
  every_sound = done_every graph-judged
