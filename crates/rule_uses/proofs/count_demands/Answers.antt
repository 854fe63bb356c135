use mathlib.Core.Path.{◌≡◌, sym, ap, ◌∙◌}
use Prim.Native.Nat.{ℕ, ◌+◌, ◌<◌}
use native.Mathlib.Omega.{arith}
use lib.ListN.{get_or}
use Rattle.definitions.specs.Rule.{side_capacity}
use Rattle.definitions.specs.Match.{places_of}
use Rattle.rule_fields.specs.Fixed.{fixed_of}
use Rattle.laws.proofs.Counts.{counted_same}
use Rattle.rule_uses.proofs.Laws.{places-most, demanded_below, demanded_from, demanded_one, demand_inner, demand_outer}
use Rattle.rule_uses.proofs.count_demands.Goals as goal

pub loop-j-init : goal.loop-j-init
loop-j-init c = counted_same (λ v. sym (demanded_from (fixed_of c.args.rule.now) 0 v (omega arith))) c.count_places-demands.ensures

pub overflow_add-demands : goal.overflow_add-demands
overflow_add-demands c = let present : get_or c.loop-j.demands c.loop-j.j 0 ≡ places_of (fixed_of c.args.rule.now) c.loop-j.j = c.loop-j.invariant.at c.loop-j.j ∙ demanded_from (fixed_of c.args.rule.now) c.loop-j.j c.loop-j.j (omega arith) in
    omega (arith, present, places-most c.requires.readable c.loop-j.j, c.requires.readable.whole.source)

pub loop-j-preserved : goal.loop-j-preserved
loop-j-preserved c =
    let present : get_or c.loop-j.demands c.loop-j.j 0 ≡ places_of (fixed_of c.args.rule.now) c.loop-j.j = c.loop-j.invariant.at c.loop-j.j ∙ demanded_from (fixed_of c.args.rule.now) c.loop-j.j c.loop-j.j (omega arith) in
    let inside : c.loop-j.j < side_capacity = omega (arith, c.requires.readable.whole.source) in
    let r = fixed_of c.args.rule.now in
    elim c.if-must_be_private.branch [
      | goal.then-must_be_private w ↦ rw w.demands-is (demanded_one r c.loop-j.j (get_or c.loop-j.demands c.loop-j.j 0 + 1) inside (ap (λ (n : ℕ). n + 1) present ∙ demand_inner r c.loop-j.j (sym c.must_be_private.ensures ∙ w.if-must_be_private.true)) c.loop-j.invariant)
      | goal.else-must_be_private w ↦ rw w.demands-is (demanded_one r c.loop-j.j 0 inside (demand_outer r c.loop-j.j (sym c.must_be_private.ensures ∙ w.if-must_be_private.false)) c.loop-j.invariant)
    ]

pub returns : goal.returns
returns c = (
  c.loop-j.invariant.places,
  λ j l. c.loop-j.invariant.at j ∙ demanded_below (fixed_of c.args.rule.now) c.loop-j.j j (omega arith),
)
