-- What the replies of an import mean, and what an accepted one leaves. Theorems from the contract of lg_import alone.
-- Assumes nothing.
use mathlib.Core.Path.{◌≡◌, refl, sym, ap, ◌∙◌}
use mathlib.Core.Bool.{false, and-false}
use mathlib.Core.List.{List}
use Prim.Native.Nat.{ℕ, ◌+◌, ◌<◌}
use native.Mathlib.Omega.{arith}
use borrow.Author.Tests.{eqb-true}
use lib.Dec.{eqb}
use lib.ListN.{length}
use Rattle.definitions.specs.Fields.{byte_at, u16_at}
use Rattle.definitions.specs.declared.Refusal.{Refusal}
use Rattle.std.specs.Prelude.{Ok, Err}
use Rattle.definitions.specs.Reply.{Reply, bad_graph_header, number_in}
use Rattle.definitions.specs.Graph.{header_bytes, slot_bytes, version_offset, graph_version, import_version, slot_count, record_at, stored_count, Graph, graph_of, true_count, block_as, graph_block, header_fits, SoundAs, SoundGraph}
use Rattle.definitions.specs.Faults.{FaultAs, header, form}
use Rattle.definitions.specs.Import.{import_reply, import_graph}
use Rattle.laws.proofs.Lists.{needed, fails}
use Rattle.laws.proofs.Reply.{done_plain, where_done_lem, where_refused}
use Rattle.laws.proofs.Operations.{import_valueless}
use Rattle.laws.proofs.Faults.{done_every}
use Rattle.laws.proofs.Graph.{length-slots}
use Rattle.graph_check.proofs.Sound.{form-judged, only_sound_as}
use Rattle.encoding.specs.Tables.{Table, Words}
use Rattle.encoding.proofs.Headers.{version_apart}
use Rattle.encoding.proofs.Blocks.{block-length, header-held, block_back, block-sound, holdable}
use Rattle.encoding.proofs.Graphs.{table_as, words_of, canonical_as}
use Rattle.answers.specs.Written.{OutsideVersion, OutsideCount, SameByte}
use Rattle.answers.specs.Statements.{CheckedGraph, Imported, form_numbers, Verdict, Imports, ImportReplies, OneVersion}
use Rattle.answers.proofs.Faults.{form-numbered}
use Rattle.answers.proofs.Blocks.{verdict, graph_verdict}
use Rattle.answers.proofs.Records.{other_bytes}

-- a header is of one version
other_version : (block : List ℕ) (version : ℕ) → (u16_at block version_offset ≡ version → ⊥) → header_fits version block ≡ false
unfolding header_fits
other_version block version other =
    fails (λ fits. other (eqb-true (u16_at block version_offset) version
    (needed (eqb (u16_at block version_offset) version) fits (λ f. simp (f, and-false)))))

module _ (graph : List ℕ) (reply : ℕ) (graph_after : List ℕ) (contract : Imported graph reply graph_after) where
  abbrev g : Graph
  g = graph_of graph

  judged : Verdict (SoundAs import_version graph) (FaultAs import_version graph) form_numbers reply
  unfolding import_reply
  judged = verdict (form-judged import_version graph) (form-numbered import_version graph) reply contract.replied

  -- a block that is not sound is refused
  refused_why : (SoundAs import_version graph → ⊥) → (why : Refusal) × (import_reply graph ≡ Err why)
  unfolding import_reply
  refused_why unsound = by (import_reply graph) refl
    where
      by : (answer : Reply) → import_reply graph ≡ answer → (why : Refusal) × (import_reply graph ≡ Err why)
      by (Ok value) e = absurd (unsound (only_sound_as import_version graph (done_plain (import_valueless graph) e)))
      by (Err why) e = (why, e)

  pub refusal_keeps_lem : (number_in reply ≡ 0 → ⊥) → graph_after ≡ graph
  unfolding import_graph
  refusal_keeps_lem other =
      contract.left ∙ where_refused (graph_block g) graph (refused_why (λ sound. other (judged.done.1 sound))).1

  -- ---- an accepted import

  module _ (h : number_in reply ≡ 0) where
    sound : SoundAs import_version graph
    sound = judged.done.0 h

    table : Table g
    table = table_as import_version graph sound

    words : Words g
    words = words_of graph contract.lent_graph

    left : graph_after ≡ graph_block g
    unfolding import_graph import_reply
    left = contract.left ∙ where_done_lem (graph_block g) graph (done_every (form-judged import_version graph) sound)

    old : block_as import_version (stored_count graph) g ≡ graph
    old = canonical_as import_version graph sound contract.lent_graph

    pub after-sound : SoundGraph graph_after
    after-sound = rw left (block-sound g table words sound.acyclic)

    byte_after : (i : ℕ) → byte_at graph_after i ≡ byte_at (graph_block g) i
    byte_after i = ap (λ (block : List ℕ). byte_at block i) left

    byte_before : (i : ℕ) → byte_at (block_as import_version (stored_count graph) g) i ≡ byte_at graph i
    byte_before i = ap (λ (block : List ℕ). byte_at block i) old

    header-kept : (i : ℕ) → i < header_bytes → OutsideVersion i → byte_at graph_after i ≡ byte_at graph i
    header-kept i l outside =
        byte_after i ∙ header-held g (holdable g table) graph_version (true_count g) i l
        ∙ version_apart graph_version import_version (length g.slots) g.outputs i outside
        ∙ sym (header-held g (holdable g table) import_version (stored_count graph) i l) ∙ byte_before i

    records_kept : (k : ℕ) → k < slot_count graph → (i : ℕ) → i < slot_bytes → OutsideCount i → SameByte graph graph_after k i
    records_kept k inside i l outside =
        let held : k < length g.slots = omega (arith, length-slots graph) in
        byte_after (record_at k + i)
        ∙ other_bytes g g table table k held held refl import_version graph_version (stored_count graph) (true_count g) i l outside
        ∙ byte_before (record_at k + i)

    imports : Imports graph graph_after
    imports = record {
      sound = after-sound;
      table = ap graph_of left ∙ block_back g (holdable g table) graph_version (true_count g) words;
      header = header-kept;
      records = records_kept;
      size = ap length left ∙ block-length g (holdable g table) graph_version (true_count g)
          ∙ sym (block-length g (holdable g table) import_version (stored_count graph)) ∙ ap length old;
    }

  pub import_replies : ImportReplies graph reply graph_after
  import_replies = record { verdict = judged; refusal_keeps = refusal_keeps_lem; imports = imports }

  -- ---- one version here

  pub import_version_lem : OneVersion import_version graph reply
  import_version_lem other = ((judged.fault bad_graph_header 0).1 (header (other_version graph import_version other))).1

-- ---- and the other everywhere else

pub check_version : (graph : List ℕ) (reply : ℕ) → CheckedGraph graph reply → OneVersion graph_version graph reply
check_version graph reply contract other =
    (((graph_verdict graph reply contract).fault bad_graph_header 0).1 (form (header (other_version graph graph_version other)))).1
