-- What is read of the text decides: the place where it stops, or its sheet.
use mathlib.Core.Path.{◌≡◌, sym, ap, subst, ◌∙◌}
use mathlib.Core.List.{List}
use Prim.Native.Nat.{ℕ, ◌+◌, ◌-◌, ◌*◌}
use native.Mathlib.Omega.{arith}
use lib.ListN.{take}
use Rattle.definitions.specs.Reply.{Reply}
use Rattle.definitions.specs.Graph.{slot_limit, record_at}
use Rattle.definitions.specs.Sheet.{SheetFits, printed}
use Rattle.definitions.specs.Listing.{Stops, sheet_reply, ReadListing, no_listing, some_listing}
use Rattle.listing.proofs.Listings.{Means, read_means}
use Rattle.listing.proofs.Sizes.{place_small}
use Rattle.listing.proofs.Reach.{within_high}
use Rattle.listing_read.specs.Taken.{BlockOf}
use Rattle.listing_read.proofs.read_listing.Goals as goal

pub overflow_cast-stopped : goal.overflow_cast-stopped
unfolding Means
overflow_cast-stopped c = let stops : Stops c.args.text.now c.in-Err.stopped.at = subst (Means c.args.text.now) c.in-Err.ensures (read_means c.args.text.now) in
    omega (arith, place_small stops)

pub returns-in-Err : goal.returns-in-Err
unfolding Means
returns-in-Err c = let stops : Stops c.args.text.now c.in-Err.stopped.at = subst (Means c.args.text.now) c.in-Err.ensures (read_means c.args.text.now) in
    subst (λ (answer : Reply). ReadListing c.args.text.now c.args.graph.now answer c.args.graph.now) (sym c.refuse_at.ensures)
    (no_listing stops)

pub overflow_mul-end : goal.overflow_mul-end
unfolding Means
overflow_mul-end c = let says : SheetFits c.in-Ok.ensures.sheet × (printed c.in-Ok.ensures.sheet ≡ c.args.text.now) = subst (Means c.args.text.now) c.in-Ok.ensures.answer (read_means c.args.text.now) in
    omega (arith, c.in-Ok.ensures.size, within_high 1 c.in-Ok.ensures.sheet.size slot_limit says.0.size)

pub overflow_add-end : goal.overflow_add-end
unfolding Means
overflow_add-end c = let says : SheetFits c.in-Ok.ensures.sheet × (printed c.in-Ok.ensures.sheet ≡ c.args.text.now) = subst (Means c.args.text.now) c.in-Ok.ensures.answer (read_means c.args.text.now) in
    omega (arith, c.in-Ok.ensures.size, within_high 1 c.in-Ok.ensures.sheet.size slot_limit says.0.size)

pub slice_bounds-table-end : goal.slice_bounds-table-end
unfolding Means
slice_bounds-table-end c = let says : SheetFits c.in-Ok.ensures.sheet × (printed c.in-Ok.ensures.sheet ≡ c.args.text.now) = subst (Means c.args.text.now) c.in-Ok.ensures.answer (read_means c.args.text.now) in
    omega (arith, c.in-Ok.ensures.size, within_high 1 c.in-Ok.ensures.sheet.size slot_limit says.0.size, c.blank_table-table.ensures)

pub take_block-requires : goal.take_block-requires
unfolding Means
take_block-requires c = let says : SheetFits c.in-Ok.ensures.sheet × (printed c.in-Ok.ensures.sheet ≡ c.args.text.now) = subst (Means c.args.text.now) c.in-Ok.ensures.answer (read_means c.args.text.now) in
    let end : 24 + 48 * c.in-Ok.size - 0 ≡ record_at c.in-Ok.size = omega arith in
    let part_of : BlockOf c.in-Ok.ensures.sheet (take (24 + 48 * c.in-Ok.size - 0) c.read_sheet.new.table) =
    record { fits = says.0; same = ap (λ (n : ℕ). take n c.read_sheet.new.table) end ∙ c.in-Ok.ensures.block } in
    (c.in-Ok.ensures.sheet, part_of)

pub returns : goal.returns
unfolding Means
returns c = let says : SheetFits c.in-Ok.ensures.sheet × (printed c.in-Ok.ensures.sheet ≡ c.args.text.now) = subst (Means c.args.text.now) c.in-Ok.ensures.answer (read_means c.args.text.now) in
    let end : 24 + 48 * c.in-Ok.size - 0 ≡ record_at c.in-Ok.size = omega arith in
    let part_of : BlockOf c.in-Ok.ensures.sheet (take (24 + 48 * c.in-Ok.size - 0) c.read_sheet.new.table) =
    record { fits = says.0; same = ap (λ (n : ℕ). take n c.read_sheet.new.table) end ∙ c.in-Ok.ensures.block } in
    let x = c.in-Ok.ensures.sheet in
    let reply = c.take_block.ensures.replied x part_of in
    let left = c.take_block.ensures.left x part_of in
    subst (λ (answer : Reply). ReadListing c.args.text.now c.args.graph.now answer c.take_block.new.graph) (sym reply)
    (subst (λ (after : List ℕ). ReadListing c.args.text.now c.args.graph.now (sheet_reply x c.args.graph.now) after) (sym left) (some_listing x says.0 says.1))
