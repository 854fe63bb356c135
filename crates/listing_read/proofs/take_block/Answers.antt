-- 45 where the block without counts is refused, 46 where the lent graph is not as long, and else the block with true counts.
use mathlib.Core.Path.{◌≡◌, sym, ap, subst, ◌∙◌}
use mathlib.Core.List.{List}
use Prim.Native.Nat.{ℕ}
use lib.ListN.{length}
use Rattle.std.specs.Prelude.{Ok, Err}
use Rattle.definitions.specs.Graph.{graph_version, graph_block, reply_as}
use Rattle.definitions.specs.Sheet.{Sheet}
use Rattle.definitions.specs.Listing.{graph_in}
use Rattle.laws.proofs.Reply.{where_done_lem, where_refused}
use Rattle.graph_uses.specs.Countable.{CountableGraph}
use Rattle.graph_counts.specs.Recounted.{recounted}
use Rattle.graph_counts.proofs.Laws.{made_countable, made-recounted}
use Rattle.listing_sound.proofs.Judged.{sheet_table}
use Rattle.listing_read.specs.Taken.{BlockOf}
use Rattle.listing_read.proofs.Outcome.{reply_unsound, sound, reply_wrong_length, reply_done}
use Rattle.listing_read.proofs.take_block.Goals as goal

-- the sheet's graph is sound, and its counts can be made
countable : (x : Sheet) (block graph : List ℕ) (b : BlockOf x block) (value : ℕ) → reply_as graph_version block ≡ Ok value
    → CountableGraph block × (recounted block ≡ graph_block (graph_in x))
countable x block graph b value e =
    let table = sheet_table x b.fits (sound x block graph b value e) in (
      subst CountableGraph (sym b.same) (made_countable graph_version (λ k. 0) (graph_in x) table),
      ap recounted b.same ∙ made-recounted graph_version (λ k. 0) (graph_in x) table,
    )

pub returns-in-Err : goal.returns-in-Err
returns-in-Err c = let judged : reply_as graph_version c.args.block.now ≡ Err c.in-Err.field-0 = sym c.judge.ensures ∙ c.in-Err.is in
    record {
      replied = λ x b. c.refuse.ensures ∙ sym (reply_unsound x c.args.block.now c.args.graph.now b c.in-Err.field-0 judged);
      left = λ x b. sym (where_refused (graph_block (graph_in x)) c.args.graph.now (reply_unsound x c.args.block.now c.args.graph.now b c.in-Err.field-0 judged));
    }

pub returns-then-graph-block : goal.returns-then-graph-block
returns-then-graph-block c = let judged : reply_as graph_version c.args.block.now ≡ Ok c.in-Ok.field-0 = sym c.judge.ensures ∙ c.in-Ok.is in
    record {
      replied = λ x b. c.refuse-then-graph-block.ensures ∙ sym (reply_wrong_length x c.args.block.now c.args.graph.now b c.in-Ok.field-0 judged c.if-graph-block.true);
      left = λ x b. sym (where_refused (graph_block (graph_in x)) c.args.graph.now (reply_wrong_length x c.args.block.now c.args.graph.now b c.in-Ok.field-0 judged c.if-graph-block.true));
    }

pub store_counts-requires : goal.store_counts-requires
store_counts-requires c = let judged : reply_as graph_version c.args.block.now ≡ Ok c.in-Ok.field-0 = sym c.judge.ensures ∙ c.in-Ok.is in
    (countable c.requires.0 c.args.block.now c.args.graph.now c.requires.1 c.in-Ok.field-0 judged).0

pub returns : goal.returns
returns c = let judged : reply_as graph_version c.args.block.now ≡ Ok c.in-Ok.field-0 = sym c.judge.ensures ∙ c.in-Ok.is in
    let same : length c.args.graph.now ≡ length c.args.block.now = c.if-graph-block.false in
    record {
      replied = λ x b. sym (reply_done x c.args.block.now c.args.graph.now b c.in-Ok.field-0 judged same);
      left = λ x b. c.copy.ensures ∙ c.store_counts.ensures ∙ (countable x c.args.block.now c.args.graph.now b c.in-Ok.field-0 judged).1
          ∙ sym (where_done_lem (graph_block (graph_in x)) c.args.graph.now (reply_done x c.args.block.now c.args.graph.now b c.in-Ok.field-0 judged same));
    }
