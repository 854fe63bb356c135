-- What each test that a block passed says of it: the layout, and that inputs name slots.
-- Assumes nothing.
use mathlib.Core.Path.{◌≡◌, refl, sym, ap, ◌∙◌}
use mathlib.Core.Bool.{true, false}
use mathlib.Core.List.{List, ◌++◌}
use mathlib.Core.Logic.{⊎_elim}
use Prim.Native.Nat.{ℕ, ◌+◌, ◌<◌, ◌≤◌}
use native.Mathlib.Omega.{arith}
use borrow.Author.Tests.{not-false, lt-ltb, le-ltb}
use lib.ListN.{length, get_or}
use Rattle.definitions.specs.declared.Refusal.{Refusal}
use Rattle.std.specs.Prelude.{Err}
use Rattle.definitions.specs.Lists.{lowest, all}
use Rattle.definitions.specs.Fields.{byte_at}
use Rattle.definitions.specs.Operators.{shape_fits}
use Rattle.definitions.specs.Reply.{bad_graph_header, bad_graph_record, bad_graph_name, graph_has_cycle, bad_graph_count, done, refused_at, refused, flag, place, judged}
use Rattle.definitions.specs.Graph.{unused_place, graph_version, slot_count, output_count, record_at, Slot, graph_of, inputs_of, is_vertex, header_fits, record_fits, bad_record, bad_inputs, bad_output, bad_count, lowest_on_cycle, name_faults, cycle_faults, faults_as, count_faults, reply_as, graph_reply}
use Rattle.laws.proofs.Lists.{decided, lowest_passed, all-at}
use Rattle.laws.proofs.Faults.{by_place}
use Rattle.laws.proofs.Reply.{done_or_refused, judged-next, judged-first}
use Rattle.laws.proofs.Graph.{vertex-inside, length-slots, slot_of_lem, length-inputs, length-attributes, header-size, few_slots, few_outputs_lem, record_shape}
use Rattle.laws.proofs.Operators.{few_inputs_lem, few_attributes_lem}
use Rattle.graph_fields.specs.Layout.{WholeGraph, ReadableGraph, Closed, OutputsNamed}
use Rattle.graph_uses.specs.Countable.{CountableGraph}
use Rattle.graph_check.specs.Stages.{early_reply, Passed}

-- where no input is bad, every input names a slot
pub closed : (block : List ℕ) → ReadableGraph block → slot_count block ≤ lowest (bad_inputs (graph_of block)) (slot_count block) → Closed block
unfolding bad_inputs
closed block r h = record {
  named = λ k i l m.
      let good = not-false (all (is_vertex (graph_of block)) (inputs_of (graph_of block) k))
      (lowest_passed (bad_inputs (graph_of block)) (slot_count block) k (omega arith)) in
      rw (length-slots block) at (vertex-inside (graph_of block) (get_or (inputs_of (graph_of block) k) i unused_place)
      (all-at (is_vertex (graph_of block)) unused_place (inputs_of (graph_of block) k) i good m));
}

-- and where no output is, every output does
pub outputs-named : (block : List ℕ) → output_count block ≤ lowest (bad_output (graph_of block)) (output_count block) → OutputsNamed block
unfolding bad_output
outputs-named block h = record {
  named = λ i l.
      rw (length-slots block) at (vertex-inside (graph_of block) (get_or (graph_of block).outputs i unused_place)
      (not-false (is_vertex (graph_of block) (get_or (graph_of block).outputs i unused_place))
      (lowest_passed (bad_output (graph_of block)) (output_count block) i (omega arith))));
}

module _ (version : ℕ) (block : List ℕ) where
  pub whole : header_fits version block ≡ true → WholeGraph block
  whole h = record { size = header-size block version h; slots = few_slots block version h; outputs = few_outputs_lem block version h }

  -- a record without a fault follows the tables
  shaped : slot_count block ≤ lowest (bad_record version block) (slot_count block) → (k : ℕ) → k < slot_count block
      → let at = record_at k in
      shape_fits (byte_at block at) (byte_at block (at + 1)) (byte_at block (at + 2)) (byte_at block (at + 3)) ≡ true
  unfolding bad_record
  shaped h k l =
      record_shape block version (record_at k)
      (not-false (record_fits version block (record_at k)) (lowest_passed (bad_record version block) (slot_count block) k (omega arith)))

  -- so it has at most six inputs and six attributes
  pub readable : WholeGraph block → slot_count block ≤ lowest (bad_record version block) (slot_count block) → ReadableGraph block
  readable w h = record {
    whole = w;
    inputs = λ k l.
        let at = record_at k in
        let few = few_inputs_lem (byte_at block at) (byte_at block (at + 1)) (byte_at block (at + 2)) (byte_at block (at + 3)) (shaped h k l) in
        omega (arith, few, ap (λ (s : Slot). length s.inputs) (slot_of_lem block k l) ∙ length-inputs block at);
    attributes = λ k l.
        let at = record_at k in
        let few = few_attributes_lem (byte_at block at) (byte_at block (at + 1)) (byte_at block (at + 2)) (byte_at block (at + 3)) (shaped h k l) in
        omega (arith, few, ap (λ (s : Slot). length s.attributes) (slot_of_lem block k l) ∙ length-attributes block at);
  }

  -- ---- the reply, fault by fault: each kind refuses, with its place, once those before it do not

  pub early_header : header_fits version block ≡ false → refused bad_graph_header ≡ early_reply version block
  unfolding name_faults flag judged
  early_header h = simp h

  module _ (header : header_fits version block ≡ true) where
    pub early_record : lowest (bad_record version block) (slot_count block) < slot_count block
        → refused_at bad_graph_record (lowest (bad_record version block) (slot_count block)) ≡ early_reply version block
    unfolding name_faults flag place judged
    early_record l = simp (header, lt-ltb _ _ l)

    module _ (records : slot_count block ≤ lowest (bad_record version block) (slot_count block)) where
      pub early_input : lowest (bad_inputs (graph_of block)) (slot_count block) < slot_count block
          → refused_at bad_graph_name (lowest (bad_inputs (graph_of block)) (slot_count block)) ≡ early_reply version block
      unfolding name_faults flag place judged
      early_input l = simp (header, le-ltb _ _ records, lt-ltb _ _ l)

      module _ (inputs : slot_count block ≤ lowest (bad_inputs (graph_of block)) (slot_count block)) where
        pub early_output : lowest (bad_output (graph_of block)) (output_count block) < output_count block
            → refused_at bad_graph_name (lowest (bad_output (graph_of block)) (output_count block)) ≡ early_reply version block
        unfolding name_faults flag place judged
        early_output l = simp (header, le-ltb _ _ records, le-ltb _ _ inputs, lt-ltb _ _ l)

        pub early_done : output_count block ≤ lowest (bad_output (graph_of block)) (output_count block) → done ≡ early_reply version block
        unfolding name_faults flag place judged
        early_done l = simp (header, le-ltb _ _ records, le-ltb _ _ inputs, le-ltb _ _ l)

  -- where none of them does, each is passed
  pub passed : early_reply version block ≡ done → Passed version block
  passed e = ⊎_elim
      (λ (header : header_fits version block ≡ true).
      by_place (slot_count block) (lowest (bad_record version block) (slot_count block))
      (λ l. absurd (done_or_refused bad_graph_record _ (sym (early_record header l ∙ e))))
      (λ records. by_place (slot_count block) (lowest (bad_inputs (graph_of block)) (slot_count block))
      (λ l. absurd (done_or_refused bad_graph_name _ (sym (early_input header records l ∙ e))))
      (λ inputs. by_place (output_count block) (lowest (bad_output (graph_of block)) (output_count block))
      (λ l. absurd (done_or_refused bad_graph_name _ (sym (early_output header records inputs l ∙ e))))
      (λ outputs. record { header = header; records = records; inputs = inputs; outputs = outputs }))))
      (λ (h : header_fits version block ≡ false). absurd (done_or_refused bad_graph_header 0 (sym (early_header h ∙ e))))
      (decided (header_fits version block))

  -- ---- and then a cycle

  in_stages : reply_as version block ≡ judged (name_faults version block ++ cycle_faults block)
  unfolding reply_as faults_as
  in_stages = refl

  pub early_refused : {why : Refusal} → early_reply version block ≡ Err why → reply_as version block ≡ Err why
  early_refused e = in_stages ∙ judged-first (name_faults version block) (cycle_faults block) e

  pub told_early : {why : Refusal} → Err why ≡ early_reply version block → Err why ≡ reply_as version block
  told_early e = sym (early_refused (sym e))

  module _ (early : done ≡ early_reply version block) where
    then_cycle : judged (cycle_faults block) ≡ reply_as version block
    then_cycle = sym (in_stages ∙ judged-next (name_faults version block) (cycle_faults block) (sym early))

    pub refused_cycle : lowest_on_cycle (graph_of block) < slot_count block
        → refused_at graph_has_cycle (lowest_on_cycle (graph_of block)) ≡ reply_as version block
    unfolding cycle_faults place judged
    refused_cycle l =
        let told : refused_at graph_has_cycle (lowest_on_cycle (graph_of block)) ≡ judged (cycle_faults block) = simp (lt-ltb _ _ l) in
        told ∙ then_cycle

    pub sound : slot_count block ≤ lowest_on_cycle (graph_of block) → done ≡ reply_as version block
    unfolding cycle_faults place judged
    sound l = let told : done ≡ judged (cycle_faults block) = simp (le-ltb _ _ l) in told ∙ then_cycle

-- ---- what is known of a block that passed

module _ (version : ℕ) (block : List ℕ) (early : Passed version block) where
  pub passed_readable : ReadableGraph block
  passed_readable = readable version block (whole version block early.header) early.records

  pub passed_closed : Closed block
  passed_closed = closed block passed_readable early.inputs

  pub passed_countable : CountableGraph block
  passed_countable = record { readable = passed_readable; closed = passed_closed; outputs = outputs-named block early.outputs }

-- ---- and then the counts

module _ (block : List ℕ) where
  pub refused-form : {why : Refusal} → reply_as graph_version block ≡ Err why → graph_reply block ≡ Err why
  unfolding reply_as graph_reply
  refused-form e = judged-first (faults_as graph_version block) (count_faults block) e

  module _ (form : reply_as graph_version block ≡ done) where
    then_counts : judged (count_faults block) ≡ graph_reply block
    unfolding reply_as graph_reply
    then_counts = sym (judged-next (faults_as graph_version block) (count_faults block) form)

    pub refused-count : lowest (bad_count block) (slot_count block) < slot_count block
        → refused_at bad_graph_count (lowest (bad_count block) (slot_count block)) ≡ graph_reply block
    unfolding count_faults place judged
    refused-count l =
        let told : refused_at bad_graph_count (lowest (bad_count block) (slot_count block)) ≡ judged (count_faults block) = simp (lt-ltb _ _ l) in
        told ∙ then_counts

    pub counted : slot_count block ≤ lowest (bad_count block) (slot_count block) → done ≡ graph_reply block
    unfolding count_faults place judged
    counted l = let told : done ≡ judged (count_faults block) = simp (le-ltb _ _ l) in told ∙ then_counts
