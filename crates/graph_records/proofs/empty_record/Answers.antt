-- The record of an Empty slot, field by field.
use mathlib.Core.Path.{refl}
use Rattle.definitions.specs.Lists.{padded}
use Rattle.definitions.specs.Graph.{empty_slot}
use Rattle.graph_records.proofs.empty_record.Goals as goal

pub returns : goal.returns
unfolding empty_slot padded
returns c = record {
  kind = refl;
  operator = refl;
  input_count = refl;
  attribute_count = refl;
  inputs = refl;
  attributes = refl;
}
