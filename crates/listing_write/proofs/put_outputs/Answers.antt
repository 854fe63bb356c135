-- The word, the outputs, a space before each, and the end of the line.
use mathlib.Core.Path.{subst}
use mathlib.Core.Path.{◌≡◌, sym, ap}
use mathlib.Core.List.{List, [], ◌∷◌, ◌++◌}
use Prim.Native.Nat.{ℕ, ◌+◌, ◌≤◌}
use lib.ListN.{length}
use Rattle.definitions.specs.Graph.{graph_of}
use Rattle.definitions.specs.Sheet.{out_word, spaced}
use Rattle.listing_print.specs.Laid.{text_limit, Laid}
use Rattle.listing_print.specs.Rows.{numbers_in}
use Rattle.listing_print.proofs.Laying.{laid_then, laid_as, room-first, room_next}
use Rattle.listing_write.specs.Parts.{outputs_text}
use Rattle.listing_write.proofs.put_outputs.Goals as goal

pub put_bytes-numbers-requires : goal.put_bytes-numbers-requires
unfolding out_word outputs_text
put_bytes-numbers-requires c = let parts : outputs_text (graph_of c.args.graph.now) ≡ out_word ++ (spaced (numbers_in c.args.graph.now c.outputs_of-outputs.result)) ++ 10 ∷ [] = ap (λ zs. out_word ++ spaced zs ++ 10 ∷ []) (sym c.outputs_of-outputs.ensures.same) in
    let whole : c.args.at + length (out_word ++ (spaced (numbers_in c.args.graph.now c.outputs_of-outputs.result)) ++ 10 ∷ []) ≤ text_limit = subst (λ (xs : List ℕ). c.args.at + length xs ≤ text_limit) parts c.requires.graph_bound in
    let front : c.args.at + length (out_word ++ (spaced (numbers_in c.args.graph.now c.outputs_of-outputs.result))) ≤ text_limit = room-first (out_word ++ (spaced (numbers_in c.args.graph.now c.outputs_of-outputs.result))) (10 ∷ []) c.args.at whole in
    room-first out_word (spaced (numbers_in c.args.graph.now c.outputs_of-outputs.result)) c.args.at front

pub put_bytes-requires : goal.put_bytes-requires
unfolding out_word outputs_text
put_bytes-requires c = let parts : outputs_text (graph_of c.args.graph.now) ≡ out_word ++ (spaced (numbers_in c.args.graph.now c.outputs_of-outputs.result)) ++ 10 ∷ [] = ap (λ zs. out_word ++ spaced zs ++ 10 ∷ []) (sym c.outputs_of-outputs.ensures.same) in
    let whole : c.args.at + length (out_word ++ (spaced (numbers_in c.args.graph.now c.outputs_of-outputs.result)) ++ 10 ∷ []) ≤ text_limit = subst (λ (xs : List ℕ). c.args.at + length xs ≤ text_limit) parts c.requires.graph_bound in
    let listed : Laid c.args.at (out_word ++ (spaced (numbers_in c.args.graph.now c.outputs_of-outputs.result))) c.args.text.now c.put_spaced-numbers_end.new.text c.put_spaced-numbers_end.result = laid_then c.put_bytes-numbers.ensures c.put_spaced-numbers_end.ensures in
    room_next (out_word ++ (spaced (numbers_in c.args.graph.now c.outputs_of-outputs.result))) (10 ∷ []) c.args.at whole listed

pub returns : goal.returns
unfolding out_word outputs_text
returns c = let parts : outputs_text (graph_of c.args.graph.now) ≡ out_word ++ (spaced (numbers_in c.args.graph.now c.outputs_of-outputs.result)) ++ 10 ∷ [] = ap (λ zs. out_word ++ spaced zs ++ 10 ∷ []) (sym c.outputs_of-outputs.ensures.same) in
    let listed : Laid c.args.at (out_word ++ (spaced (numbers_in c.args.graph.now c.outputs_of-outputs.result))) c.args.text.now c.put_spaced-numbers_end.new.text c.put_spaced-numbers_end.result = laid_then c.put_bytes-numbers.ensures c.put_spaced-numbers_end.ensures in
    laid_as (sym parts) (laid_then listed c.put_bytes.ensures)

pub put_spaced-numbers_end-requires-clause-row_bound : goal.put_spaced-numbers_end-requires-clause-row_bound
unfolding out_word outputs_text
put_spaced-numbers_end-requires-clause-row_bound c = let parts : outputs_text (graph_of c.args.graph.now) ≡ out_word ++ (spaced (numbers_in c.args.graph.now c.outputs_of-outputs.result)) ++ 10 ∷ [] = ap (λ zs. out_word ++ spaced zs ++ 10 ∷ []) (sym c.outputs_of-outputs.ensures.same) in
    let whole : c.args.at + length (out_word ++ (spaced (numbers_in c.args.graph.now c.outputs_of-outputs.result)) ++ 10 ∷ []) ≤ text_limit = subst (λ (xs : List ℕ). c.args.at + length xs ≤ text_limit) parts c.requires.graph_bound in
    let front : c.args.at + length (out_word ++ (spaced (numbers_in c.args.graph.now c.outputs_of-outputs.result))) ≤ text_limit = room-first (out_word ++ (spaced (numbers_in c.args.graph.now c.outputs_of-outputs.result))) (10 ∷ []) c.args.at whole in
    room_next out_word (spaced (numbers_in c.args.graph.now c.outputs_of-outputs.result)) c.args.at front c.put_bytes-numbers.ensures
