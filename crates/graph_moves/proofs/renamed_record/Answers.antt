-- The places are renamed, and every other field is as it was.
use mathlib.Core.Path.{refl, sym, subst}
use native.Mathlib.Omega.{arith}
use Rattle.graph_moves.specs.Moving.{Renamable}
use Rattle.graph_moves.proofs.Laws.{used_places, renamed_stands}
use Rattle.graph_moves.proofs.renamed_record.Goals as goal

pub returns : goal.returns
returns c = λ slot stands.
    renamed_stands c.args.to.now c.args.«record» _ slot stands
    (omega (arith, stands.input_count, c.requires.names_slots.stands.input_count, c.requires.names_slots.few)) refl refl refl refl refl c.renamed_inputs-inputs.ensures

pub renamed_inputs-inputs-requires-clause-renamable : goal.renamed_inputs-inputs-requires-clause-renamable
renamed_inputs-inputs-requires-clause-renamable c = subst Renamable (sym (used_places c.requires.names_slots.stands c.requires.names_slots.few)) c.requires.names_slots.named
