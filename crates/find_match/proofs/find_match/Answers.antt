-- Each stage's answer is the definition's. The search is asked only where the blocks are sound, and the map written only where it
-- found a match.
use mathlib.Core.Path.{◌≡◌, sym, ap, ◌∙◌}
use mathlib.Core.List.{List}
use Prim.Native.Nat.{ℕ}
use native.Mathlib.Omega.{arith}
use borrow.Author.Tests.{not-true, not-false}
use lib.ListN.{take, length-take}
use Rattle.std.specs.Prelude.{Ok}
use Rattle.definitions.specs.Reply.{done}
use Rattle.definitions.specs.Rule.{source_count, rule_of}
use Rattle.rule_fields.specs.Fixed.{fixed_of}
use Rattle.definitions.specs.Operations.{map_places, outcome, blocks_reply}
use Rattle.laws.proofs.Reply.{passed_on}
use Rattle.blocks.proofs.Laws.{map_bytes_lem, GoodBlocks, blocks_done}
use Rattle.find_match.proofs.Laws.{blocks_refused, nothing_found, match_found}
use borrow.Author.Rules.{rules}
use Rattle.find_match.proofs.find_match.Goals as goal

pub returns-in_err-check_blocks : goal.returns-in_err-check_blocks
returns-in_err-check_blocks c = ap (λ r. outcome r c.args.graph.now c.args.map.now) (passed_on c.from_residual.ensures.1)
    ∙ blocks_refused c.args.graph.now c.args.rule.now c.args.start c.args.map.now c.in_err-check_blocks.field-0.0
    (sym c.in_err-check_blocks.ensures)

pub returns-in_default : goal.returns-in_default
returns-in_default c = let good : blocks_reply c.args.graph.now c.args.rule.now c.args.map.now ≡ Ok c.in_ok-check_blocks.field-0 = sym c.in_ok-check_blocks.ensures in
    let goods : GoodBlocks c.args.graph.now c.args.rule.now c.args.map.now = blocks_done c.args.graph.now c.args.rule.now c.args.map.now good in
    let same : fixed_of c.args.rule.now ≡ rule_of c.args.rule.now = (goods).same in
    ap (λ r. outcome r c.args.graph.now c.args.map.now) c.refuse.ensures
    ∙ nothing_found c.args.graph.now c.args.rule.now c.args.start c.args.map.now good (rw same at c.in_default.ensures)

pub write_map-requires : goal.write_map-requires
write_map-requires c = let good : blocks_reply c.args.graph.now c.args.rule.now c.args.map.now ≡ Ok c.in_ok-check_blocks.field-0 = sym c.in_ok-check_blocks.ensures in
    let goods : GoodBlocks c.args.graph.now c.args.rule.now c.args.map.now = blocks_done c.args.graph.now c.args.rule.now c.args.map.now good in
    omega (arith, goods.map_size, length-take map_places c.in-Some.images, c.in-Some.ensures.size)

pub returns : goal.returns
returns c = let good : blocks_reply c.args.graph.now c.args.rule.now c.args.map.now ≡ Ok c.in_ok-check_blocks.field-0 = sym c.in_ok-check_blocks.ensures in
    let goods : GoodBlocks c.args.graph.now c.args.rule.now c.args.map.now = blocks_done c.args.graph.now c.args.rule.now c.args.map.now good in
    let same : fixed_of c.args.rule.now ≡ rule_of c.args.rule.now = (goods).same in
    let n = source_count c.args.rule.now in
    ap (outcome done c.args.graph.now) (c.write_map.ensures ∙ map_bytes_lem n c.in-Some.images (omega (arith, c.in-Some.ensures.size)) goods.few c.in-Some.ensures.rest)
    ∙ match_found c.args.graph.now c.args.rule.now c.args.start c.args.map.now good (take n c.in-Some.images) (rw same at c.in-Some.ensures.found)

pub least_match-requires-clause-sound_graph : goal.least_match-requires-clause-sound_graph
least_match-requires-clause-sound_graph c = let good : blocks_reply c.args.graph.now c.args.rule.now c.args.map.now ≡ Ok c.in_ok-check_blocks.field-0 = sym c.in_ok-check_blocks.ensures in
    let goods : GoodBlocks c.args.graph.now c.args.rule.now c.args.map.now = blocks_done c.args.graph.now c.args.rule.now c.args.map.now good in
    (goods).sound_graph

pub least_match-requires-clause-working_rule : goal.least_match-requires-clause-working_rule
least_match-requires-clause-working_rule c = let good : blocks_reply c.args.graph.now c.args.rule.now c.args.map.now ≡ Ok c.in_ok-check_blocks.field-0 = sym c.in_ok-check_blocks.ensures in
    let goods : GoodBlocks c.args.graph.now c.args.rule.now c.args.map.now = blocks_done c.args.graph.now c.args.rule.now c.args.map.now good in
    (goods).working
