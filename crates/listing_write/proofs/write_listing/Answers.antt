-- A refusal leaves the text as it came. Where the graph is sound and any listing fits, what is printed is the answer. Else an empty part of
-- the text tells the length, and nothing is written.
use mathlib.Core.Path.{◌≡◌, sym, ap, ◌∙◌, ap₂}
use mathlib.Core.List.{◌++◌}
use Prim.Native.Nat.{◌≤◌, ◌<◌, ◌-◌}
use native.Mathlib.Nat.{zero-add, sub-zero}
use native.Mathlib.Omega.{arith}
use lib.ListN.{length, take, drop}
use lib.Seq.{length-take-le}
use Rattle.std.specs.Prelude.{Ok}
use Rattle.definitions.specs.Graph.{slot_count, graph_of, graph_reply}
use Rattle.definitions.specs.Listing.{listing}
use Rattle.laws.proofs.Reply.{passed_on}
use Rattle.graph_check.proofs.Readable.{graph_readable}
use Rattle.graph_fields.specs.Layout.{ReadableGraph}
use Rattle.listing_print.specs.Laid.{text_limit}
use Rattle.listing_write.proofs.Outcome.{text_of, part_none, laid-first, laid_full, graph-sound, text-short, some_slot, reply_refused, reply_short, reply_done, text-kept, text-written}
use Rattle.listing_write.proofs.write_listing.Goals as goal

pub overflow_cast-result : goal.overflow_cast-result
overflow_cast-result c = let at_once : c.put_listing-end.result ≡ length (text_of c.args.graph.now) = c.put_listing-end.ensures.next ∙ zero-add (length (text_of c.args.graph.now)) in
    let good : graph_reply c.args.graph.now ≡ Ok c.in_ok-check.field-0 = sym c.in_ok-check.ensures in
    omega (arith, at_once, text-short c.args.graph.now (λ at. omega (arith, c.shared_slice_known-1.given at)) good)

pub returns-in_err-check-clause-value : goal.returns-in_err-check-clause-value
returns-in_err-check-clause-value c = let told = reply_refused c.args.graph.now c.args.text.now (sym c.in_err-check.ensures) in passed_on c.from_residual.ensures.1 ∙ sym told

pub returns-in_err-check-clause-text_after : goal.returns-in_err-check-clause-text_after
returns-in_err-check-clause-text_after c = let told = reply_refused c.args.graph.now c.args.text.now (sym c.in_err-check.ensures) in text-kept c.args.graph.now c.args.text.now told

pub put_listing-end-requires-clause-readable_graph : goal.put_listing-end-requires-clause-readable_graph
put_listing-end-requires-clause-readable_graph c = let good : graph_reply c.args.graph.now ≡ Ok c.in_ok-check.field-0 = sym c.in_ok-check.ensures in
    let ready : ReadableGraph c.args.graph.now × ((0 < slot_count c.args.graph.now) × (length (listing (graph_of c.args.graph.now)) ≤ text_limit)) = (graph_readable c.args.graph.now (graph-sound c.args.graph.now good), (some_slot c.args.graph.now (λ at. omega (arith, c.shared_slice_known-1.given at)) good, omega (arith, text-short c.args.graph.now (λ at. omega (arith, c.shared_slice_known-1.given at)) good))) in
    (ready).0

pub put_listing-end-requires-clause-graph_nonzero : goal.put_listing-end-requires-clause-graph_nonzero
put_listing-end-requires-clause-graph_nonzero c = let good : graph_reply c.args.graph.now ≡ Ok c.in_ok-check.field-0 = sym c.in_ok-check.ensures in
    let ready : ReadableGraph c.args.graph.now × ((0 < slot_count c.args.graph.now) × (length (listing (graph_of c.args.graph.now)) ≤ text_limit)) = (graph_readable c.args.graph.now (graph-sound c.args.graph.now good), (some_slot c.args.graph.now (λ at. omega (arith, c.shared_slice_known-1.given at)) good, omega (arith, text-short c.args.graph.now (λ at. omega (arith, c.shared_slice_known-1.given at)) good))) in
    (ready).1.0

pub put_listing-end-requires-clause-graph_len_bound : goal.put_listing-end-requires-clause-graph_len_bound
put_listing-end-requires-clause-graph_len_bound c = let good : graph_reply c.args.graph.now ≡ Ok c.in_ok-check.field-0 = sym c.in_ok-check.ensures in
    let ready : ReadableGraph c.args.graph.now × ((0 < slot_count c.args.graph.now) × (length (listing (graph_of c.args.graph.now)) ≤ text_limit)) = (graph_readable c.args.graph.now (graph-sound c.args.graph.now good), (some_slot c.args.graph.now (λ at. omega (arith, c.shared_slice_known-1.given at)) good, omega (arith, text-short c.args.graph.now (λ at. omega (arith, c.shared_slice_known-1.given at)) good))) in
    (ready).1.1

pub returns-then-text-ge-LISTING_ROOM-clause-value : goal.returns-then-text-ge-LISTING_ROOM-clause-value
returns-then-text-ge-LISTING_ROOM-clause-value c = let good : graph_reply c.args.graph.now ≡ Ok c.in_ok-check.field-0 = sym c.in_ok-check.ensures in
    let listing-room : length (text_of c.args.graph.now) ≤ length c.args.text.now = omega (arith, c.if-text-ge-LISTING_ROOM.true, text-short c.args.graph.now (λ at. omega (arith, c.shared_slice_known-1.given at)) good) in
    let at_once : c.put_listing-end.result ≡ length (text_of c.args.graph.now) = c.put_listing-end.ensures.next ∙ zero-add (length (text_of c.args.graph.now)) in
    let told = reply_done c.args.graph.now c.args.text.now good listing-room in ap Ok at_once ∙ sym told

pub returns-then-text-ge-LISTING_ROOM-clause-text_after : goal.returns-then-text-ge-LISTING_ROOM-clause-text_after
returns-then-text-ge-LISTING_ROOM-clause-text_after c = let good : graph_reply c.args.graph.now ≡ Ok c.in_ok-check.field-0 = sym c.in_ok-check.ensures in
    let listing-room : length (text_of c.args.graph.now) ≤ length c.args.text.now = omega (arith, c.if-text-ge-LISTING_ROOM.true, text-short c.args.graph.now (λ at. omega (arith, c.shared_slice_known-1.given at)) good) in
    let at_once : c.put_listing-end.result ≡ length (text_of c.args.graph.now) = c.put_listing-end.ensures.next ∙ zero-add (length (text_of c.args.graph.now)) in
    let told = reply_done c.args.graph.now c.args.text.now good listing-room in laid-first listing-room c.put_listing-end.ensures ∙ text-written c.args.graph.now c.args.text.now told

pub put_listing-size-requires-clause-readable_graph : goal.put_listing-size-requires-clause-readable_graph
put_listing-size-requires-clause-readable_graph c = let good : graph_reply c.args.graph.now ≡ Ok c.in_ok-check.field-0 = sym c.in_ok-check.ensures in
    let ready : ReadableGraph c.args.graph.now × ((0 < slot_count c.args.graph.now) × (length (listing (graph_of c.args.graph.now)) ≤ text_limit)) = (graph_readable c.args.graph.now (graph-sound c.args.graph.now good), (some_slot c.args.graph.now (λ at. omega (arith, c.shared_slice_known-1.given at)) good, omega (arith, text-short c.args.graph.now (λ at. omega (arith, c.shared_slice_known-1.given at)) good))) in
    (ready).0

pub put_listing-size-requires-clause-graph_nonzero : goal.put_listing-size-requires-clause-graph_nonzero
put_listing-size-requires-clause-graph_nonzero c = let good : graph_reply c.args.graph.now ≡ Ok c.in_ok-check.field-0 = sym c.in_ok-check.ensures in
    let ready : ReadableGraph c.args.graph.now × ((0 < slot_count c.args.graph.now) × (length (listing (graph_of c.args.graph.now)) ≤ text_limit)) = (graph_readable c.args.graph.now (graph-sound c.args.graph.now good), (some_slot c.args.graph.now (λ at. omega (arith, c.shared_slice_known-1.given at)) good, omega (arith, text-short c.args.graph.now (λ at. omega (arith, c.shared_slice_known-1.given at)) good))) in
    (ready).1.0

pub put_listing-size-requires-clause-graph_len_bound : goal.put_listing-size-requires-clause-graph_len_bound
put_listing-size-requires-clause-graph_len_bound c = let good : graph_reply c.args.graph.now ≡ Ok c.in_ok-check.field-0 = sym c.in_ok-check.ensures in
    let ready : ReadableGraph c.args.graph.now × ((0 < slot_count c.args.graph.now) × (length (listing (graph_of c.args.graph.now)) ≤ text_limit)) = (graph_readable c.args.graph.now (graph-sound c.args.graph.now good), (some_slot c.args.graph.now (λ at. omega (arith, c.shared_slice_known-1.given at)) good, omega (arith, text-short c.args.graph.now (λ at. omega (arith, c.shared_slice_known-1.given at)) good))) in
    (ready).1.1

pub returns-then-text-size-clause-value : goal.returns-then-text-size-clause-value
returns-then-text-size-clause-value c = let size : c.put_listing-size.result ≡ length (text_of c.args.graph.now) = c.put_listing-size.ensures.next ∙ zero-add (length (text_of c.args.graph.now)) in
    let kept : c.put_listing-size.new.text ++ c.args.text.now ≡ c.args.text.now = part_none c.put_listing-size.new.text c.args.text.now c.text-2-1.given.0 in
    let good : graph_reply c.args.graph.now ≡ Ok c.in_ok-check.field-0 = sym c.in_ok-check.ensures in
    let less : length c.args.text.now < length (text_of c.args.graph.now) = omega (arith, c.if-text-size.true, size, ap length kept) in
    let told = reply_short c.args.graph.now c.args.text.now good less in c.refuse.ensures ∙ sym told

pub returns-then-text-size-clause-text_after : goal.returns-then-text-size-clause-text_after
returns-then-text-size-clause-text_after c = let size : c.put_listing-size.result ≡ length (text_of c.args.graph.now) = c.put_listing-size.ensures.next ∙ zero-add (length (text_of c.args.graph.now)) in
    let kept : c.put_listing-size.new.text ++ c.args.text.now ≡ c.args.text.now = part_none c.put_listing-size.new.text c.args.text.now c.text-2-1.given.0 in
    let good : graph_reply c.args.graph.now ≡ Ok c.in_ok-check.field-0 = sym c.in_ok-check.ensures in
    let less : length c.args.text.now < length (text_of c.args.graph.now) = omega (arith, c.if-text-size.true, size, ap length kept) in
    let told = reply_short c.args.graph.now c.args.text.now good less in kept ∙ text-kept c.args.graph.now c.args.text.now told

pub put_listing-requires-clause-readable_graph : goal.put_listing-requires-clause-readable_graph
put_listing-requires-clause-readable_graph c = let good : graph_reply c.args.graph.now ≡ Ok c.in_ok-check.field-0 = sym c.in_ok-check.ensures in
    let ready : ReadableGraph c.args.graph.now × ((0 < slot_count c.args.graph.now) × (length (listing (graph_of c.args.graph.now)) ≤ text_limit)) = (graph_readable c.args.graph.now (graph-sound c.args.graph.now good), (some_slot c.args.graph.now (λ at. omega (arith, c.shared_slice_known-1.given at)) good, omega (arith, text-short c.args.graph.now (λ at. omega (arith, c.shared_slice_known-1.given at)) good))) in
    (ready).0

pub put_listing-requires-clause-graph_nonzero : goal.put_listing-requires-clause-graph_nonzero
put_listing-requires-clause-graph_nonzero c = let good : graph_reply c.args.graph.now ≡ Ok c.in_ok-check.field-0 = sym c.in_ok-check.ensures in
    let ready : ReadableGraph c.args.graph.now × ((0 < slot_count c.args.graph.now) × (length (listing (graph_of c.args.graph.now)) ≤ text_limit)) = (graph_readable c.args.graph.now (graph-sound c.args.graph.now good), (some_slot c.args.graph.now (λ at. omega (arith, c.shared_slice_known-1.given at)) good, omega (arith, text-short c.args.graph.now (λ at. omega (arith, c.shared_slice_known-1.given at)) good))) in
    (ready).1.0

pub returns-clause-value : goal.returns-clause-value
returns-clause-value c = let size : c.put_listing-size.result ≡ length (text_of c.args.graph.now) = c.put_listing-size.ensures.next ∙ zero-add (length (text_of c.args.graph.now)) in
    let kept : c.put_listing-size.new.text ++ c.args.text.now ≡ c.args.text.now = part_none c.put_listing-size.new.text c.args.text.now c.text-2-1.given.0 in
    let good : graph_reply c.args.graph.now ≡ Ok c.in_ok-check.field-0 = sym c.in_ok-check.ensures in
    let words = text_of c.args.graph.now in
    let fits : length words ≤ length c.args.text.now = omega (arith, c.if-text-size.false, size, ap length kept) in
    let told = reply_done c.args.graph.now c.args.text.now good fits in
    let whole : c.put_listing-size.result - 0 ≡ length words = sub-zero c.put_listing-size.result ∙ size in
    let full : c.put_listing.new.text ≡ words =
    laid_full (ap₂ (λ n l. length (take n l)) whole kept ∙ length-take-le (length words) c.args.text.now fits) c.put_listing.ensures in ap Ok size ∙ sym told

pub returns-clause-text_after : goal.returns-clause-text_after
returns-clause-text_after c = let size : c.put_listing-size.result ≡ length (text_of c.args.graph.now) = c.put_listing-size.ensures.next ∙ zero-add (length (text_of c.args.graph.now)) in
    let kept : c.put_listing-size.new.text ++ c.args.text.now ≡ c.args.text.now = part_none c.put_listing-size.new.text c.args.text.now c.text-2-1.given.0 in
    let good : graph_reply c.args.graph.now ≡ Ok c.in_ok-check.field-0 = sym c.in_ok-check.ensures in
    let words = text_of c.args.graph.now in
    let fits : length words ≤ length c.args.text.now = omega (arith, c.if-text-size.false, size, ap length kept) in
    let told = reply_done c.args.graph.now c.args.text.now good fits in
    let whole : c.put_listing-size.result - 0 ≡ length words = sub-zero c.put_listing-size.result ∙ size in
    let full : c.put_listing.new.text ≡ words =
    laid_full (ap₂ (λ n l. length (take n l)) whole kept ∙ length-take-le (length words) c.args.text.now fits) c.put_listing.ensures in ap₂ (λ p l. p ++ drop (c.put_listing-size.result - 0) l) full kept ∙ ap (λ n. words ++ drop n c.args.text.now) whole
    ∙ text-written c.args.graph.now c.args.text.now told
