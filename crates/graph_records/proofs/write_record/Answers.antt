use borrow.Author.Rules.{rules}
use mathlib.Core.Path.{refl, ◌∙◌}
use mathlib.Core.List.{[], ◌∷◌}
use native.Mathlib.Omega.{arith}
use Rattle.definitions.specs.Graph.{slot_bytes, inputs_offset, attributes_offset, tail_offset}
use Rattle.writing.proofs.Filled.{filled_up}
use Rattle.graph_records.specs.Records.{fields_of}
use borrow.Author.Rules.{rules}
use Rattle.graph_records.proofs.write_record.Goals as goal

pub returns : goal.returns
unfolding fields_of
returns c =
    let r = c.args.«record» in
    filled_up c.args.part.now (r.kind ∷ r.operator ∷ r.n ∷ r.m ∷ [])
    c.put_numbers.new.part c.put_numbers-2.new.part c.copy_from_slice.new.self inputs_offset attributes_offset tail_offset slot_bytes
    (omega arith) (omega arith) (omega arith) c.requires.part_len refl
    (search rules)
    (search rules)
    (search rules)
    ∙ rw (c.put_numbers.ensures, c.put_numbers-2.ensures, c.copy_from_slice.ensures.after) refl
