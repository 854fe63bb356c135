-- The eight bytes are written one after the other, and those are all.
use mathlib.Core.Path.{sym, ◌∙◌}
use native.Mathlib.Omega.{arith}
use lib.Seq.{take_all, sets, length-sets}
use Rattle.definitions.specs.Rule.{node_bytes}
use Rattle.writing.proofs.Written.{take_sets}
use Rattle.variadic_terms.specs.Terms.{term_bytes}
use Rattle.variadic_terms.proofs.put_term.Goals as goal

pub returns : goal.returns
unfolding term_bytes
returns c = let bytes = term_bytes c.args.term in
    let all = sets c.args.part.now 0 bytes in
    sym (take_all node_bytes all (omega (arith, length-sets c.args.part.now 0 bytes, c.requires.part_len))) ∙ take_sets bytes c.args.part.now 0 (omega (arith, c.requires.part_len))
