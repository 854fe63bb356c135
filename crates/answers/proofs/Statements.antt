-- The statements of specs/Statements, each from its contract alone.
-- Assumes nothing.
use mathlib.Core.Path.{◌≡◌, refl, sym, ap, ◌∙◌, subst}
use mathlib.Core.List.{List}
use Prim.Native.Nat.{ℕ, ◌+◌, ◌*◌, ◌^◌}
use native.Mathlib.Omega.{arith}
use Rattle.definitions.specs.Reply.{packed, number_in, place_in, value_in}
use Rattle.definitions.specs.Graph.{graph_version, import_version, graph_of, graph_block}
use Rattle.definitions.specs.Rule.{source_count, rule_of, SoundRule}
use Rattle.definitions.specs.Results.{Meaning}
use Rattle.definitions.specs.Operations.{images_in}
use Rattle.theory.proofs.Fixing.{sound_fixing}
use Rattle.theory.proofs.Least.{match_attempted}
use Rattle.encoding.proofs.Graphs.{canonical}
use Rattle.listing.specs.Forms.{answer_from}
use Rattle.listing.specs.Grammar.{sheet_form}
use Rattle.listing.proofs.Listings.{one_outcome, read_reply, read_graph, read-outcome}
use Rattle.listing.proofs.Graphs as listings
use Rattle.answers.specs.Rewritten.{Due}
use Rattle.answers.specs.Statements.{Says, CheckedGraph, CheckedRule, Searched, Rewrote, Swept, Squeezed, Imported, Asked, GraphVerdict, RuleVerdict, OneBlock, MatchReplies, Yields, RewriteReplies, Demand3, SweepReplies, SweepKeeps, SweptTwice, SqueezeReplies, SqueezeKeeps, SqueezedTwice, ImportReplies, OneVersion, AskReplies, AnswersWritten, OneAttempt, Wrote, ReadText, WriteReplies, ReadReplies, SomeAnswer, OneAnswer, OneText, OneListing, ReadsBack, WritesBack}
use Rattle.answers.proofs.Blocks.{graph_verdict, rule_verdict}
use Rattle.answers.proofs.Matching.{match_replies}
use Rattle.answers.proofs.Rewriting.{block_replies, due, replied, listed, no_value, refusal_keeps_lem, written}
use Rattle.answers.proofs.Demands.{yields_sound, yields_table, demand-3}
use Rattle.answers.proofs.Unchanged.{keeps_record, keeps_constant}
use Rattle.answers.proofs.Sweeping.{sweep_replies, sweep-keeps, sweep_twice}
use Rattle.answers.proofs.Squeezing.{squeeze_replies, squeeze-keeps, squeeze_twice}
use Rattle.answers.proofs.Importing.{import_replies, import_version_lem, check_version}
use Rattle.answers.proofs.Asking.{done_every, ask_replies}
use Rattle.answers.proofs.Writing.{write_replies}
use Rattle.answers.proofs.Reading.{read_replies, writes_back, reads_back}

-- Where there is no value, number and place are the whole reply.
pub whole_word : (reply n p : ℕ) → Says reply n p → reply ≡ n + 2 ^ 8 * p
unfolding number_in place_in value_in
whole_word reply n p says = omega (arith, says.number, says.place, says.value)

-- lg_check_graph
pub checked-graph : (graph : List ℕ) (reply : ℕ) → CheckedGraph graph reply → GraphVerdict graph reply
checked-graph = graph_verdict

pub checked-version : (graph : List ℕ) (reply : ℕ) → CheckedGraph graph reply → OneVersion graph_version graph reply
checked-version = check_version

-- two sound blocks of one graph
pub one_block : OneBlock
one_block one other bytes also sound second same =
    sym (canonical one sound bytes) ∙ ap graph_block same ∙ canonical other second also

-- lg_check_rule
pub checked-rule : (rule : List ℕ) (reply : ℕ) → CheckedRule rule reply → RuleVerdict rule reply
checked-rule = rule_verdict

module _ (graph rule : List ℕ) (start : ℕ) (map : List ℕ) (reply : ℕ) (graph_after map_after : List ℕ) where
  -- lg_find_match
  pub searched : Searched graph rule start map reply graph_after map_after → MatchReplies graph rule start map reply graph_after map_after
  searched = match_replies graph rule start map reply graph_after map_after

  pub searched_asked : Searched graph rule start map reply graph_after map_after → number_in reply ≡ 0 → AnswersWritten graph rule map_after
  searched_asked contract h vertex again second inner =
      let found = searched contract in
      let good = (found.done.0 h).0 in
      let written = found.written h in
      done_every graph rule map_after vertex again second (written.size, good.1, good.2)
      (record { is_match = written.least.from.is_match; rest = written.rest }) inner

  -- lg_rewrite
  module _ (contract : Rewrote graph rule start map reply graph_after map_after) where
    yielded : number_in reply ≡ 0 → Yields graph rule (images_in map_after (source_count rule)) graph_after
    yielded h =
        let table = yields_table graph rule start map reply graph_after map_after contract h in
        record {
          values = table.0;
          fit = table.1;
          block = table.2;
          table = table.3;
          sound = yields_sound graph rule start map reply graph_after map_after contract h;
          records = keeps_record graph rule start map reply graph_after map_after contract h;
          constants = keeps_constant graph rule start map reply graph_after map_after contract h;
        }

    pub rewrote : RewriteReplies graph rule start map reply graph_after map_after
    rewrote = record {
      blocks = block_replies graph rule start map reply graph_after map_after contract;
      due = λ good n. (
        λ e. subst (Due (graph_of graph) (rule_of rule) start) e
            (due graph rule start map reply graph_after map_after contract good.0 good.1 good.2),
        replied graph rule start map reply graph_after map_after contract good.0 good.1 good.2 n,
      );
      listed = listed graph rule start map reply graph_after map_after contract;
      value = no_value graph rule start map reply graph_after map_after contract;
      refusal_keeps = refusal_keeps_lem graph rule start map reply graph_after map_after contract;
      written = written graph rule start map reply graph_after map_after contract;
      yields = yielded;
    }

    -- demand 3
    pub accepted-keeps {ℓ} : {R : Type ℓ} (m : Meaning R) → number_in reply ≡ 0 → Demand3 m graph rule graph_after map_after
    accepted-keeps = demand-3 graph rule start map reply graph_after map_after contract

module _ (graph : List ℕ) (reply : ℕ) (graph_after : List ℕ) (contract : Swept graph reply graph_after) where
  -- lg_sweep
  pub swept : SweepReplies graph reply graph_after
  swept = sweep_replies graph reply graph_after contract

  pub swept_keeps {ℓ} : {R : Type ℓ} (m : Meaning R) → number_in reply ≡ 0 → SweepKeeps m graph graph_after
  swept_keeps m h = sweep-keeps graph reply graph_after contract h m

  pub swept_twice : number_in reply ≡ 0 → SweptTwice graph_after
  swept_twice = sweep_twice graph reply graph_after contract

module _ (graph moves : List ℕ) (reply : ℕ) (graph_after moves_after : List ℕ) (contract : Squeezed graph moves reply graph_after moves_after) where
  -- lg_squeeze
  pub squeezed : SqueezeReplies graph moves reply graph_after moves_after
  squeezed = squeeze_replies graph moves reply graph_after moves_after contract

  pub squeezed-keeps {ℓ} : {R : Type ℓ} (m : Meaning R) → number_in reply ≡ 0 → SqueezeKeeps m graph graph_after moves_after
  squeezed-keeps m h = squeeze-keeps graph moves reply graph_after moves_after contract h m

  pub squeezed_twice : number_in reply ≡ 0 → SqueezedTwice graph_after moves_after
  squeezed_twice = squeeze_twice graph moves reply graph_after moves_after contract

module _ (graph : List ℕ) (reply : ℕ) (graph_after : List ℕ) (contract : Imported graph reply graph_after) where
  -- lg_import
  pub imported : ImportReplies graph reply graph_after
  imported = import_replies graph reply graph_after contract

  pub imported-version : OneVersion import_version graph reply
  imported-version = import_version_lem graph reply graph_after contract

-- lg_is_read_elsewhere
pub asked : (graph rule map : List ℕ) (vertex reply : ℕ) → Asked graph rule map vertex reply → AskReplies graph rule map vertex reply
asked = ask_replies

pub one_attempt : (graph rule : List ℕ) → SoundRule rule → OneAttempt graph rule
one_attempt graph rule sound = match_attempted (graph_of graph) (rule_of rule) (sound_fixing rule sound)

module _ (graph text : List ℕ) (reply : ℕ) (text_after : List ℕ) (contract : Wrote graph text reply text_after) where
  -- lg_write_listing
  pub wrote : WriteReplies graph text reply text_after
  wrote = write_replies graph text reply text_after contract

  pub wrote_read : number_in reply ≡ 0 → ReadsBack graph reply text_after
  wrote_read = reads_back graph text reply text_after contract

module _ (text graph : List ℕ) (reply : ℕ) (graph_after : List ℕ) (contract : ReadText text graph reply graph_after) where
  -- lg_read_listing
  pub read : ReadReplies text graph reply graph_after
  read = read_replies text graph reply graph_after contract

  pub read-written : number_in reply ≡ 0 → WritesBack text graph_after
  read-written = writes_back text graph reply graph_after contract

pub some_answer : SomeAnswer
some_answer text graph =
    let answer = answer_from sheet_form 0 text in (
      packed (read_reply graph answer),
      (
        read_graph graph answer,
        record { answer = read_reply graph answer; replied = refl; read = read-outcome text graph },
      ),
    )

pub one_answer : OneAnswer
one_answer text graph reply other graph_after other_after first second =
    let same = one_outcome first.read second.read in
    (first.replied ∙ ap packed same.0 ∙ sym second.replied, same.1)

pub one_text : OneText
one_text text other graph buffer reply second graph_after first again h k =
    sym ((read text graph reply graph_after first).reads h).same ∙ ((read other buffer second graph_after again).reads k).same

pub one_listing : OneListing
one_listing one other bytes also sound second same = listings.one_block one other sound second bytes also same
