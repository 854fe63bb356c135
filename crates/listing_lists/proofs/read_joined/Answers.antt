-- A list that may have a number has one; the others are read behind it.
use mathlib.Core.Path.{◌≡◌, refl, sym, subst}
use Prim.Native.Nat.{ℕ, ◌+◌, ◌-◌}
use native.Mathlib.Omega.{arith}
use mathlib.Core.List.{◌∷◌}
use lib.ListN.{take}
use Rattle.std.specs.declared.result.Result.TheVariants.{Ok, Err}
use Rattle.listing.specs.Typing.{valued}
use Rattle.listing.specs.Parts.{with_first, spaced_from}
use Rattle.listing_numbers.specs.State.{field_of}
use Rattle.listing_numbers.proofs.Stops.{stops}
use Rattle.listing_lists.specs.Lists.{Holds}
use Rattle.listing.proofs.Gathering.{got_well, stopped_well}
use Rattle.listing_lists.proofs.Gathers.{small_magnitude}
use Rattle.listing_lists.proofs.First.{held-count, first_stops, first_goes, joined_none, joined_stops, joined-goes}
use Rattle.listing_lists.proofs.read_joined.Goals as goal

pub returns-then-most-eq0-clause-holds : goal.returns-then-most-eq0-clause-holds
returns-then-most-eq0-clause-holds c = rw (← joined_none (field_of c.args.field) c.args.stop c.args.text.now c.args.least c.args.at c.args.most c.if-most-eq0.true) c.read_spaced.ensures.holds

pub returns-in_err-first-clause-holds : goal.returns-in_err-first-clause-holds
unfolding Holds
returns-in_err-first-clause-holds c = rw (
  stops c.from_residual.result c.in_err-first.field-0.0 c.from_residual.ensures.1,
  joined_stops (field_of c.args.field) c.args.stop c.args.text.now c.args.least c.args.at c.args.most c.in_err-first.field-0.0.at c.if-most-eq0.false (sym c.in_err-first.ensures),
) refl

pub returns-in_err-first-clause-next_in_bounds : goal.returns-in_err-first-clause-next_in_bounds
returns-in_err-first-clause-next_in_bounds c = rw (stops c.from_residual.result c.in_err-first.field-0.0 c.from_residual.ensures.1)
    (stopped_well (field_of c.args.field) c.args.text.now c.args.at c.requires.at_in_bounds.0 c.in_err-first.field-0.0.at (sym c.in_err-first.ensures))

pub read_spaced-requires-2-clause-at_in_bounds : goal.read_spaced-requires-2-clause-at_in_bounds
read_spaced-requires-2-clause-at_in_bounds c = let n = c.in_ok-first.first in
    let well = got_well (field_of c.args.field) c.args.text.now c.args.at c.requires.at_in_bounds.0 (valued n.negative n.value) n.next (sym c.in_ok-first.ensures) in
    (well.2, omega (arith, c.saturating_sub.ensures, c.requires.at_in_bounds.1), omega (arith, c.requires.at_in_bounds.2))

pub returns-in_err-rest-clause-holds : goal.returns-in_err-rest-clause-holds
returns-in_err-rest-clause-holds c = let F = field_of c.args.field in
    let n = c.in_ok-first.first in
    let e = c.in_err-rest.field-0.0 in
    let others : c.args.most - 1 + 1 ≡ c.args.most = omega arith in
    rw (
      stops c.from_residual-in_err-rest.result e c.from_residual-in_err-rest.ensures.1,
      joined-goes F c.args.stop c.args.text.now c.args.least c.args.at c.args.most (valued n.negative n.value) n.next c.if-most-eq0.false (sym c.in_ok-first.ensures),
      ← c.saturating_sub.ensures,
    )
    (subst (λ (m : ℕ). Holds F m (Err e) (with_first (valued n.negative n.value) (spaced_from c.saturating_sub.result (c.args.most - 1) F c.args.stop c.args.text.now n.next))) others
    (first_stops F (c.args.most - 1) e (valued n.negative n.value) _ c.in_err-rest.ensures.holds))

pub overflow_add-result : goal.overflow_add-result
overflow_add-result c = omega (arith, held-count (field_of c.args.field) (c.args.most - 1) c.in_ok-rest.rest _ c.in_ok-rest.ensures.holds)

pub word_of-requires : goal.word_of-requires
word_of-requires c = let n = c.in_ok-first.first in
    let well = got_well (field_of c.args.field) c.args.text.now c.args.at c.requires.at_in_bounds.0 (valued n.negative n.value) n.next (sym c.in_ok-first.ensures) in
    small_magnitude (field_of c.args.field) n.negative n.value c.requires.high_bound.0 c.requires.high_bound.1 well.0

pub returns-clause-holds : goal.returns-clause-holds
returns-clause-holds c = let F = field_of c.args.field in
    let n = c.in_ok-first.first in
    let well = got_well F c.args.text.now c.args.at c.requires.at_in_bounds.0 (valued n.negative n.value) n.next (sym c.in_ok-first.ensures) in
    let others : c.args.most - 1 + 1 ≡ c.args.most = omega arith in
    let goes = first_goes F (c.args.most - 1) c.in_ok-rest.rest (valued n.negative n.value) _ c.word_of.result c.in_ok-rest.ensures.holds well.0 c.word_of.ensures (omega arith) in
    rw (
      c.with_first.ensures,
      joined-goes F c.args.stop c.args.text.now c.args.least c.args.at c.args.most (valued n.negative n.value) n.next c.if-most-eq0.false (sym c.in_ok-first.ensures),
      ← c.saturating_sub.ensures,
    )
    (subst (λ (m : ℕ). Holds F m (Ok (record { next = c.in_ok-rest.rest.next; count = c.in_ok-rest.rest.count + 1; words = c.word_of.result ∷ take 5 c.in_ok-rest.rest.words }))
    (with_first (valued n.negative n.value) (spaced_from c.saturating_sub.result (c.args.most - 1) F c.args.stop c.args.text.now n.next))) others goes)
