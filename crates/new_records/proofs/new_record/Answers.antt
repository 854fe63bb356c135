-- Each branch makes the slot that the definition asks there.
use mathlib.Core.Path.{◌≡◌, sym, ◌∙◌}
use mathlib.Core.Bool.{true, false}
use native.Mathlib.Omega.{arith}
use borrow.Author.Tests.{not-true, not-false}
use Rattle.definitions.specs.Graph.{graph_of}
use Rattle.definitions.specs.Rewriting.{stays}
use Rattle.rule_fields.specs.Fixed.{fixed_of}
use Rattle.new_vertices.specs.Slots.{values_of, fit_results}
use Rattle.new_records.proofs.Records.{stands_staying, stands_target, stands_empty}
use Rattle.new_records.proofs.new_record.Goals as goal

pub returns-then-not-free : goal.returns-then-not-free
returns-then-not-free c = let kept : (stays (graph_of c.args.graph.now) (fixed_of c.args.rule.now) c.args.images.now c.args.k) ≡ true = not-false (stays (graph_of c.args.graph.now) (fixed_of c.args.rule.now) c.args.images.now c.args.k) (sym c.requires.free_value ∙ c.if-not-free.true) in
    stands_staying c.args.graph.now c.args.rule.now c.args.images.now (values_of (fit_results c.args.graph.now c.args.rule.now c.args.images.now)) c.args.k c.args.way c.requires.redirects
    kept c.staying_record.ensures

pub returns-then-next-target_count : goal.returns-then-next-target_count
returns-then-next-target_count c = let goes : (stays (graph_of c.args.graph.now) (fixed_of c.args.rule.now) c.args.images.now c.args.k) ≡ false = not-true (stays (graph_of c.args.graph.now) (fixed_of c.args.rule.now) c.args.images.now c.args.k) (sym c.requires.free_value ∙ c.if-not-free.false) in
    stands_target c.args.graph.now c.args.rule.now c.args.images.now (values_of (fit_results c.args.graph.now c.args.rule.now c.args.images.now)) c.args.k c.args.next
    c.requires.k_bound goes c.requires.next_value (omega (arith, c.if-next-target_count.true, c.target_count.ensures.0))
    c.target_record.ensures

pub returns-else-next-target_count : goal.returns-else-next-target_count
returns-else-next-target_count c = let goes : (stays (graph_of c.args.graph.now) (fixed_of c.args.rule.now) c.args.images.now c.args.k) ≡ false = not-true (stays (graph_of c.args.graph.now) (fixed_of c.args.rule.now) c.args.images.now c.args.k) (sym c.requires.free_value ∙ c.if-not-free.false) in
    stands_empty c.args.graph.now c.args.rule.now c.args.images.now (values_of (fit_results c.args.graph.now c.args.rule.now c.args.images.now)) c.args.k c.args.next
    c.requires.k_bound goes c.requires.next_value (omega (arith, c.if-next-target_count.false, c.target_count.ensures.0))
    c.empty_record.ensures
