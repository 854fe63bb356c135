-- The four bytes and the three parts are written one after the other, and each part goes on where the one before it ends.
use mathlib.Core.Path.{refl, ◌∙◌}
use mathlib.Core.List.{[], ◌∷◌}
use native.Mathlib.Omega.{arith}
use lib.ListN.{length-set}
use Rattle.definitions.specs.Lists.{concat_map}
use Rattle.definitions.specs.Fields.{u16_bytes}
use Rattle.definitions.specs.Graph.{header_bytes, outputs_offset, outputs_end, graph_letter}
use Rattle.new_header.specs.Headers.{header_with}
use Rattle.writing.proofs.Filled.{filled_up}
use borrow.Author.Rules.{rules}
use Rattle.new_header.proofs.write_header.Goals as goal

pub returns : goal.returns
unfolding header_with concat_map u16_bytes
returns c = filled_up c.args.part.now (76 ∷ 71 ∷ graph_letter ∷ 0 ∷ [])
    c.put_numbers.new.part c.put_numbers-2.new.part c.clear.new.part 4 outputs_offset outputs_end header_bytes
    (omega arith) (omega arith) (omega arith) c.requires.part_len refl
    (search rules)
    (search rules)
    (search rules)
    ∙ rw (c.put_numbers.ensures, c.put_numbers-2.ensures, c.clear.ensures, c.clear-arg-1.given.2) refl
