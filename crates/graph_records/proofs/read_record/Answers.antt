-- Each field is what stands in its place, so the bytes of all of them are those that were read.
use mathlib.Core.Path.{refl}
use native.Mathlib.Omega.{arith}
use Rattle.graph_records.specs.Records.{ReadFrom}
use Rattle.graph_records.proofs.Read.{record_back}
use Rattle.graph_records.proofs.read_record.Goals as goal

pub returns-clause-result_value : goal.returns-clause-result_value
returns-clause-result_value c = let block = c.args.block.now in
    let at = c.args.at in
    let read : ReadFrom block at _ = record {
      kind = refl;
      operator = refl;
      input_count = refl;
      attribute_count = refl;
      inputs = c.read_inputs-inputs.ensures;
      attributes = c.read_attributes-attributes.ensures;
    } in record_back block (λ j. omega (arith, c.shared_slice_known-1.given j)) at c.requires _ read
