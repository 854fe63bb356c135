-- Each stage's answer is the definition's. The search is asked only where the blocks are sound, the table replaced only at a match,
-- and the map written only where the table was.
use mathlib.Core.Path.{◌≡◌, sym, ap, ap₂, ◌∙◌}
use native.Mathlib.Omega.{arith}
use lib.ListN.{take, length-take}
use Rattle.std.specs.Prelude.{Ok, Err}
use Rattle.definitions.specs.Reply.{done}
use Rattle.definitions.specs.Rule.{source_count}
use Rattle.definitions.specs.Operations.{map_places, outcome, blocks_reply}
use Rattle.laws.proofs.Reply.{passed_on}
use Rattle.blocks.proofs.Laws.{map_bytes_lem, GoodBlocks, blocks_done}
use Rattle.rewriting.proofs.Outcome.{blocks_refused, nothing_found, turned_down_lem, table_left, matched}
use Rattle.rewriting.proofs.rewrite.Goals as goal

pub returns-in_err-check_blocks : goal.returns-in_err-check_blocks
returns-in_err-check_blocks c = ap (λ r. outcome r c.args.graph.now c.args.map.now) (passed_on c.from_residual.ensures.1)
    ∙ blocks_refused c.args.graph.now c.args.rule.now c.args.start c.args.map.now c.in_err-check_blocks.field-0.0
    (sym c.in_err-check_blocks.ensures)

pub returns-in_default : goal.returns-in_default
returns-in_default c = let good : blocks_reply c.args.graph.now c.args.rule.now c.args.map.now ≡ Ok c.in_ok-check_blocks.field-0 = sym c.in_ok-check_blocks.ensures in
    let goods : GoodBlocks c.args.graph.now c.args.rule.now c.args.map.now = blocks_done c.args.graph.now c.args.rule.now c.args.map.now good in
    ap (λ r. outcome r c.args.graph.now c.args.map.now) c.refuse.ensures
    ∙ nothing_found c.args.graph.now c.args.rule.now c.args.start c.args.map.now good (rw goods.same at c.in_default.ensures)

pub replace-requires : goal.replace-requires
replace-requires c = let good : blocks_reply c.args.graph.now c.args.rule.now c.args.map.now ≡ Ok c.in_ok-check_blocks.field-0 = sym c.in_ok-check_blocks.ensures in
    let goods : GoodBlocks c.args.graph.now c.args.rule.now c.args.map.now = blocks_done c.args.graph.now c.args.rule.now c.args.map.now good in
    matched c.args.graph.now c.args.rule.now c.args.start c.in-Some.images goods.sound_graph goods.working c.in-Some.ensures

pub returns-in_err-replace : goal.returns-in_err-replace
returns-in_err-replace c = let good : blocks_reply c.args.graph.now c.args.rule.now c.args.map.now ≡ Ok c.in_ok-check_blocks.field-0 = sym c.in_ok-check_blocks.ensures in
    let goods : GoodBlocks c.args.graph.now c.args.rule.now c.args.map.now = blocks_done c.args.graph.now c.args.rule.now c.args.map.now good in
    let left = c.replace.ensures.refused c.in_err-replace.field-0.0 c.in_err-replace.was in
    ap₂ (λ r g. outcome r g c.args.map.now) (passed_on c.from_residual-in_err-replace.ensures.1) left.1
    ∙ turned_down_lem c.args.graph.now c.args.rule.now c.args.start c.args.map.now good (take (source_count c.args.rule.now) c.in-Some.images) (rw goods.same at c.in-Some.ensures.found)
    c.in_err-replace.field-0.0 (rw goods.same at left.0)

pub write_map-requires : goal.write_map-requires
write_map-requires c = let good : blocks_reply c.args.graph.now c.args.rule.now c.args.map.now ≡ Ok c.in_ok-check_blocks.field-0 = sym c.in_ok-check_blocks.ensures in
    let goods : GoodBlocks c.args.graph.now c.args.rule.now c.args.map.now = blocks_done c.args.graph.now c.args.rule.now c.args.map.now good in
    omega (arith, goods.map_size, length-take map_places c.in-Some.images, c.in-Some.ensures.size)

pub returns : goal.returns
returns c = let good : blocks_reply c.args.graph.now c.args.rule.now c.args.map.now ≡ Ok c.in_ok-check_blocks.field-0 = sym c.in_ok-check_blocks.ensures in
    let goods : GoodBlocks c.args.graph.now c.args.rule.now c.args.map.now = blocks_done c.args.graph.now c.args.rule.now c.args.map.now good in
    let left = c.replace.ensures.done _ c.in_ok-replace.was in
    ap₂ (outcome done) left.2
    (c.write_map.ensures
    ∙ map_bytes_lem (source_count c.args.rule.now) c.in-Some.images (omega (arith, c.in-Some.ensures.size)) goods.few c.in-Some.ensures.rest)
    ∙ table_left c.args.graph.now c.args.rule.now c.args.start c.args.map.now good (take (source_count c.args.rule.now) c.in-Some.images) (rw goods.same at c.in-Some.ensures.found) left.0 (rw goods.same at left.1)

pub least_match-requires-clause-sound_graph : goal.least_match-requires-clause-sound_graph
least_match-requires-clause-sound_graph c = let good : blocks_reply c.args.graph.now c.args.rule.now c.args.map.now ≡ Ok c.in_ok-check_blocks.field-0 = sym c.in_ok-check_blocks.ensures in
    let goods : GoodBlocks c.args.graph.now c.args.rule.now c.args.map.now = blocks_done c.args.graph.now c.args.rule.now c.args.map.now good in
    (goods).sound_graph

pub least_match-requires-clause-working_rule : goal.least_match-requires-clause-working_rule
least_match-requires-clause-working_rule c = let good : blocks_reply c.args.graph.now c.args.rule.now c.args.map.now ≡ Ok c.in_ok-check_blocks.field-0 = sym c.in_ok-check_blocks.ensures in
    let goods : GoodBlocks c.args.graph.now c.args.rule.now c.args.map.now = blocks_done c.args.graph.now c.args.rule.now c.args.map.now good in
    (goods).working
