-- The tests are the definition's, in order.
use mathlib.Core.Path.{ap}
use mathlib.Core.Path.{◌≡◌, refl, sym, ◌∙◌}
use mathlib.Core.Bool.{Bool, not, ◌||◌}
use mathlib.Core.List.{List, [], ◌∷◌}
use Prim.Native.Nat.{ℕ, ◌+◌, ◌*◌, ◌≤◌}
use lib.Dec.{eqb}
use lib.ListN.{drop}
use Rattle.definitions.specs.Fields.{byte_at, u32_at, filled, signed}
use Rattle.definitions.specs.Operators.{kind_proj, shape_fits}
use Rattle.definitions.specs.Graph.{slot_bytes, input_limit, attribute_limit, at_least_one, zeros_offset, record_fits}
use Rattle.laws.proofs.Operators.{few_inputs_lem, few_attributes_lem}
use Rattle.laws.proofs.Tests.{all_of, conjunction, Remains, refused, passed, answered}
use Rattle.graph_faults.proofs.record_fits.Goals as goal

-- ---- the definition's tests
abbrev tests : ℕ → List ℕ → ℕ → List Bool
tests version block at =
    shape_fits (byte_at block at) (byte_at block (at + 1)) (byte_at block (at + 2)) (byte_at block (at + 3))
    ∷ filled block (at + 4 + 2 * byte_at block (at + 2)) (at + 16) 255
    ∷ filled block (at + 16 + 4 * byte_at block (at + 3)) (at + 40) 0
    ∷ (not (eqb (byte_at block at) kind_proj) || at_least_one (signed (u32_at block (at + 16))))
    ∷ filled block (at + zeros_offset version) (at + slot_bytes) 0
    ∷ []

pub returns-then-not-shape_fits : goal.returns-then-not-shape_fits
unfolding record_fits conjunction all_of
returns-then-not-shape_fits c = let begun : (let version = c.args.version in
    let block = c.args.graph.now in
    let at = c.args.at in
    Remains (record_fits version block at) (drop 0 (tests version block at))) = record { same = refl } in
    let shape : let a = c.args in let b = a.graph.now in
    c.shape_fits.result ≡ shape_fits (byte_at b a.at) (byte_at b (a.at + 1)) (byte_at b (a.at + 2)) (byte_at b (a.at + 3)) = rw (c.byte_at-attributes.ensures.0, c.byte_at-inputs.ensures.0, c.byte_at-operator.ensures.0, c.byte_at-kind.ensures.0) at c.shape_fits.ensures in
    refused begun shape (ap not c.if-not-shape_fits.true)

pub returns-then-not-unused_inputs_fit : goal.returns-then-not-unused_inputs_fit
unfolding record_fits conjunction all_of
returns-then-not-unused_inputs_fit c = let begun : (let version = c.args.version in
    let block = c.args.graph.now in
    let at = c.args.at in
    Remains (record_fits version block at) (drop 0 (tests version block at))) = record { same = refl } in
    let shape : let a = c.args in let b = a.graph.now in
    c.shape_fits.result ≡ shape_fits (byte_at b a.at) (byte_at b (a.at + 1)) (byte_at b (a.at + 2)) (byte_at b (a.at + 3)) = rw (c.byte_at-attributes.ensures.0, c.byte_at-inputs.ensures.0, c.byte_at-operator.ensures.0, c.byte_at-kind.ensures.0) at c.shape_fits.ensures in
    let after_shape : (let version = c.args.version in
    let block = c.args.graph.now in
    let at = c.args.at in
    Remains (record_fits version block at) (drop 1 (tests version block at))) = passed begun shape (ap not c.if-not-shape_fits.false) in
    let unused : let a = c.args in let b = a.graph.now in
    c.unused_inputs_fit.result ≡ filled b (a.at + 4 + 2 * byte_at b (a.at + 2)) (a.at + 16) 255 = rw c.byte_at-inputs.ensures.0 at c.unused_inputs_fit.ensures in
    refused after_shape unused (ap not c.if-not-unused_inputs_fit.true)

pub returns-then-not-unused_attributes_fit : goal.returns-then-not-unused_attributes_fit
unfolding record_fits conjunction all_of
returns-then-not-unused_attributes_fit c = let begun : (let version = c.args.version in
    let block = c.args.graph.now in
    let at = c.args.at in
    Remains (record_fits version block at) (drop 0 (tests version block at))) = record { same = refl } in
    let shape : let a = c.args in let b = a.graph.now in
    c.shape_fits.result ≡ shape_fits (byte_at b a.at) (byte_at b (a.at + 1)) (byte_at b (a.at + 2)) (byte_at b (a.at + 3)) = rw (c.byte_at-attributes.ensures.0, c.byte_at-inputs.ensures.0, c.byte_at-operator.ensures.0, c.byte_at-kind.ensures.0) at c.shape_fits.ensures in
    let after_shape : (let version = c.args.version in
    let block = c.args.graph.now in
    let at = c.args.at in
    Remains (record_fits version block at) (drop 1 (tests version block at))) = passed begun shape (ap not c.if-not-shape_fits.false) in
    let unused : let a = c.args in let b = a.graph.now in
    c.unused_inputs_fit.result ≡ filled b (a.at + 4 + 2 * byte_at b (a.at + 2)) (a.at + 16) 255 = rw c.byte_at-inputs.ensures.0 at c.unused_inputs_fit.ensures in
    let after-inputs : (let version = c.args.version in
    let block = c.args.graph.now in
    let at = c.args.at in
    Remains (record_fits version block at) (drop 2 (tests version block at))) = passed after_shape unused (ap not c.if-not-unused_inputs_fit.false) in
    let unused_attributes : let a = c.args in let b = a.graph.now in
    c.unused_attributes_fit.result ≡ filled b (a.at + 16 + 4 * byte_at b (a.at + 3)) (a.at + 40) 0 = rw c.byte_at-attributes.ensures.0 at c.unused_attributes_fit.ensures in
    refused after-inputs unused_attributes (ap not c.if-not-unused_attributes_fit.true)

pub returns-then-not-index_fits : goal.returns-then-not-index_fits
unfolding record_fits conjunction all_of
returns-then-not-index_fits c = let begun : (let version = c.args.version in
    let block = c.args.graph.now in
    let at = c.args.at in
    Remains (record_fits version block at) (drop 0 (tests version block at))) = record { same = refl } in
    let shape : let a = c.args in let b = a.graph.now in
    c.shape_fits.result ≡ shape_fits (byte_at b a.at) (byte_at b (a.at + 1)) (byte_at b (a.at + 2)) (byte_at b (a.at + 3)) = rw (c.byte_at-attributes.ensures.0, c.byte_at-inputs.ensures.0, c.byte_at-operator.ensures.0, c.byte_at-kind.ensures.0) at c.shape_fits.ensures in
    let after_shape : (let version = c.args.version in
    let block = c.args.graph.now in
    let at = c.args.at in
    Remains (record_fits version block at) (drop 1 (tests version block at))) = passed begun shape (ap not c.if-not-shape_fits.false) in
    let unused : let a = c.args in let b = a.graph.now in
    c.unused_inputs_fit.result ≡ filled b (a.at + 4 + 2 * byte_at b (a.at + 2)) (a.at + 16) 255 = rw c.byte_at-inputs.ensures.0 at c.unused_inputs_fit.ensures in
    let after-inputs : (let version = c.args.version in
    let block = c.args.graph.now in
    let at = c.args.at in
    Remains (record_fits version block at) (drop 2 (tests version block at))) = passed after_shape unused (ap not c.if-not-unused_inputs_fit.false) in
    let unused_attributes : let a = c.args in let b = a.graph.now in
    c.unused_attributes_fit.result ≡ filled b (a.at + 16 + 4 * byte_at b (a.at + 3)) (a.at + 40) 0 = rw c.byte_at-attributes.ensures.0 at c.unused_attributes_fit.ensures in
    let after-attributes : (let version = c.args.version in
    let block = c.args.graph.now in
    let at = c.args.at in
    Remains (record_fits version block at) (drop 3 (tests version block at))) = passed after-inputs unused_attributes (ap not c.if-not-unused_attributes_fit.false) in
    let index : let a = c.args in let b = a.graph.now in
    c.index_fits.result ≡ (not (eqb (byte_at b a.at) kind_proj) || at_least_one (signed (u32_at b (a.at + 16)))) = rw c.byte_at-kind.ensures.0 at c.index_fits.ensures in
    refused after-attributes index (ap not c.if-not-index_fits.true)

pub returns : goal.returns
unfolding record_fits conjunction all_of
returns c = let begun : (let version = c.args.version in
    let block = c.args.graph.now in
    let at = c.args.at in
    Remains (record_fits version block at) (drop 0 (tests version block at))) = record { same = refl } in
    let shape : let a = c.args in let b = a.graph.now in
    c.shape_fits.result ≡ shape_fits (byte_at b a.at) (byte_at b (a.at + 1)) (byte_at b (a.at + 2)) (byte_at b (a.at + 3)) = rw (c.byte_at-attributes.ensures.0, c.byte_at-inputs.ensures.0, c.byte_at-operator.ensures.0, c.byte_at-kind.ensures.0) at c.shape_fits.ensures in
    let after_shape : (let version = c.args.version in
    let block = c.args.graph.now in
    let at = c.args.at in
    Remains (record_fits version block at) (drop 1 (tests version block at))) = passed begun shape (ap not c.if-not-shape_fits.false) in
    let unused : let a = c.args in let b = a.graph.now in
    c.unused_inputs_fit.result ≡ filled b (a.at + 4 + 2 * byte_at b (a.at + 2)) (a.at + 16) 255 = rw c.byte_at-inputs.ensures.0 at c.unused_inputs_fit.ensures in
    let after-inputs : (let version = c.args.version in
    let block = c.args.graph.now in
    let at = c.args.at in
    Remains (record_fits version block at) (drop 2 (tests version block at))) = passed after_shape unused (ap not c.if-not-unused_inputs_fit.false) in
    let unused_attributes : let a = c.args in let b = a.graph.now in
    c.unused_attributes_fit.result ≡ filled b (a.at + 16 + 4 * byte_at b (a.at + 3)) (a.at + 40) 0 = rw c.byte_at-attributes.ensures.0 at c.unused_attributes_fit.ensures in
    let after-attributes : (let version = c.args.version in
    let block = c.args.graph.now in
    let at = c.args.at in
    Remains (record_fits version block at) (drop 3 (tests version block at))) = passed after-inputs unused_attributes (ap not c.if-not-unused_attributes_fit.false) in
    let index : let a = c.args in let b = a.graph.now in
    c.index_fits.result ≡ (not (eqb (byte_at b a.at) kind_proj) || at_least_one (signed (u32_at b (a.at + 16)))) = rw c.byte_at-kind.ensures.0 at c.index_fits.ensures in
    answered (passed after-attributes index (ap not c.if-not-index_fits.false)) c.end_fits.ensures

pub unused_inputs_fit-requires-clause-inputs_le_input_limit : goal.unused_inputs_fit-requires-clause-inputs_le_input_limit
unused_inputs_fit-requires-clause-inputs_le_input_limit c = let few : (c.byte_at-inputs.result ≤ input_limit) × (c.byte_at-attributes.result ≤ attribute_limit) = let fits = sym c.shape_fits.ensures ∙ c.if-not-shape_fits.false in (
  few_inputs_lem c.byte_at-kind.result c.byte_at-operator.result c.byte_at-inputs.result c.byte_at-attributes.result fits,
  few_attributes_lem c.byte_at-kind.result c.byte_at-operator.result c.byte_at-inputs.result c.byte_at-attributes.result fits,
) in
    (few).0

pub unused_attributes_fit-requires-clause-attributes_le_attribute_limit : goal.unused_attributes_fit-requires-clause-attributes_le_attribute_limit
unused_attributes_fit-requires-clause-attributes_le_attribute_limit c = let few : (c.byte_at-inputs.result ≤ input_limit) × (c.byte_at-attributes.result ≤ attribute_limit) = let fits = sym c.shape_fits.ensures ∙ c.if-not-shape_fits.false in (
  few_inputs_lem c.byte_at-kind.result c.byte_at-operator.result c.byte_at-inputs.result c.byte_at-attributes.result fits,
  few_attributes_lem c.byte_at-kind.result c.byte_at-operator.result c.byte_at-inputs.result c.byte_at-attributes.result fits,
) in
    (few).1
