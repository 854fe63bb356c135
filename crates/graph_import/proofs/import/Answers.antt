-- A refusal is by the rules of version 1, and leaves the graph as it came. Where there is none, the block with the other version is made of
-- the same graph, and gets its counts.
use mathlib.Core.Path.{◌≡◌, refl, sym, ap, ◌∙◌, subst}
use mathlib.Core.List.{List}
use Prim.Native.Nat.{ℕ}
use native.Mathlib.Omega.{arith}
use Rattle.definitions.specs.Reply.{done}
use Rattle.definitions.specs.Graph.{graph_version, import_version, stored_count, graph_of, block_as, graph_block, reply_as, SoundAs}
use Rattle.definitions.specs.Import.{import_reply, import_graph}
use Rattle.laws.proofs.Reply.{passed_on, done_plain, where_done_lem, where_refused}
use Rattle.laws.proofs.Operations.{import_valueless}
use Rattle.encoding.specs.Tables.{Table}
use Rattle.encoding.proofs.Graphs.{table_as}
use Rattle.graph_check.proofs.Readable.{readable_as}
use Rattle.graph_check.proofs.Sound.{only_sound_as}
use Rattle.graph_uses.specs.Countable.{CountableGraph}
use Rattle.graph_counts.specs.Recounted.{recounted}
use Rattle.graph_counts.proofs.Laws.{made_countable, made-recounted}
use Rattle.graph_import.proofs.Laws.{with_version}
use Rattle.graph_import.proofs.import.Goals as goal

-- what is said of a block by the rules of version 1
judged_as : (graph : List ℕ) → reply_as import_version graph ≡ import_reply graph
unfolding import_reply
judged_as graph = refl

pub put_u16_at-requires : goal.put_u16_at-requires
put_u16_at-requires c = let good : import_reply c.args.graph.now ≡ done = done_plain (import_valueless c.args.graph.now) (sym (c.judge.ensures ∙ judged_as c.args.graph.now) ∙ c.in_ok-judge.was) in
    let sound : SoundAs import_version c.args.graph.now = only_sound_as import_version c.args.graph.now (judged_as c.args.graph.now ∙ good) in
    omega (arith, (readable_as import_version c.args.graph.now sound).whole.size)

pub store_counts-requires : goal.store_counts-requires
store_counts-requires c = let good : import_reply c.args.graph.now ≡ done = done_plain (import_valueless c.args.graph.now) (sym (c.judge.ensures ∙ judged_as c.args.graph.now) ∙ c.in_ok-judge.was) in
    let sound : SoundAs import_version c.args.graph.now = only_sound_as import_version c.args.graph.now (judged_as c.args.graph.now ∙ good) in
    let versioned : c.put_u16_at.new.block ≡ block_as graph_version (stored_count c.args.graph.now) (graph_of c.args.graph.now) = c.put_u16_at.ensures ∙ with_version c.args.graph.now sound (λ at. omega (arith, c.slice_known-1.given at)) in
    let table : Table (graph_of c.args.graph.now) = table_as import_version c.args.graph.now sound in
    subst CountableGraph (sym versioned) (made_countable graph_version (stored_count c.args.graph.now) (graph_of c.args.graph.now) table)

pub returns-in_err-judge-clause-value : goal.returns-in_err-judge-clause-value
unfolding import_graph
returns-in_err-judge-clause-value c = let refused = sym (c.judge.ensures ∙ judged_as c.args.graph.now) ∙ c.in_err-judge.was in passed_on c.from_residual.ensures.1 ∙ sym refused

pub returns-in_err-judge-clause-graph_after : goal.returns-in_err-judge-clause-graph_after
unfolding import_graph
returns-in_err-judge-clause-graph_after c = let refused = sym (c.judge.ensures ∙ judged_as c.args.graph.now) ∙ c.in_err-judge.was in sym (where_refused (graph_block (graph_of c.args.graph.now)) c.args.graph.now refused)

pub returns-clause-value : goal.returns-clause-value
unfolding import_graph
returns-clause-value c = let good : import_reply c.args.graph.now ≡ done = done_plain (import_valueless c.args.graph.now) (sym (c.judge.ensures ∙ judged_as c.args.graph.now) ∙ c.in_ok-judge.was) in
    let sound : SoundAs import_version c.args.graph.now = only_sound_as import_version c.args.graph.now (judged_as c.args.graph.now ∙ good) in
    let versioned : c.put_u16_at.new.block ≡ block_as graph_version (stored_count c.args.graph.now) (graph_of c.args.graph.now) = c.put_u16_at.ensures ∙ with_version c.args.graph.now sound (λ at. omega (arith, c.slice_known-1.given at)) in
    let table : Table (graph_of c.args.graph.now) = table_as import_version c.args.graph.now sound in
    let g = graph_of c.args.graph.now in sym good

pub returns-clause-graph_after : goal.returns-clause-graph_after
unfolding import_graph
returns-clause-graph_after c = let good : import_reply c.args.graph.now ≡ done = done_plain (import_valueless c.args.graph.now) (sym (c.judge.ensures ∙ judged_as c.args.graph.now) ∙ c.in_ok-judge.was) in
    let sound : SoundAs import_version c.args.graph.now = only_sound_as import_version c.args.graph.now (judged_as c.args.graph.now ∙ good) in
    let versioned : c.put_u16_at.new.block ≡ block_as graph_version (stored_count c.args.graph.now) (graph_of c.args.graph.now) = c.put_u16_at.ensures ∙ with_version c.args.graph.now sound (λ at. omega (arith, c.slice_known-1.given at)) in
    let table : Table (graph_of c.args.graph.now) = table_as import_version c.args.graph.now sound in
    let g = graph_of c.args.graph.now in c.store_counts.ensures ∙ ap recounted versioned ∙ made-recounted graph_version (stored_count c.args.graph.now) g table
    ∙ sym (where_done_lem (graph_block g) c.args.graph.now good)
