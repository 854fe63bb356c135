-- The reply, and the list of moves that is written.
-- Assumes nothing.
use mathlib.Core.Path.{◌≡◌, refl, sym, ap, ◌∙◌}
use mathlib.Core.Bool.{true, false}
use mathlib.Core.List.{List, [], ◌∷◌}
use mathlib.Core.Logic.{⊎_elim}
use Prim.Native.Nat.{ℕ, ◌*◌, ◌<◌, ◌≤◌}
use native.Mathlib.Omega.{arith}
use borrow.Author.Tests.{eqb-true}
use lib.Dec.{eqb}
use lib.ListN.{length, take}
use lib.Seq.{length-take-le, get_or-take}
use Rattle.std.specs.Prelude.{Ok, Err}
use Rattle.definitions.specs.Lists.{concat_map}
use Rattle.definitions.specs.Fields.{u16_bytes}
use Rattle.definitions.specs.Reply.{Reply, done, bad_moves_length, refused, first_refusal}
use Rattle.definitions.specs.Graph.{header_bytes, slot_limit, unused_place, slot_count, graph_of, graph_reply, SoundGraph}
use Rattle.definitions.specs.Squeeze.{moved_to, moves_block, moves_reply, squeeze_reply}
use Rattle.laws.proofs.Lists.{decided}
use Rattle.laws.proofs.Reply.{done_plain, done_or_refused, first-refused, first-all}
use Rattle.laws.proofs.Operations.{graph_valueless, moves_valueless}
use Rattle.laws.proofs.Graph.{length-slots}
use Rattle.graph_check.proofs.Sound.{only_sound}
use Rattle.graph_check.proofs.Readable.{graph_readable}
use Rattle.encoding.proofs.Pieces.{tabulated}
use Rattle.graph_moves.specs.Moving.{Moving}

module _ (graph moves : List ℕ) where
  -- what is said of the list counts only where the graph is sound, and then the block has a header
  pub both_first : (found listed : Reply) → found ≡ graph_reply graph → (header_bytes ≤ length graph → listed ≡ moves_reply graph moves)
      → first_refusal (found ∷ listed ∷ []) ≡ squeeze_reply graph moves
  unfolding squeeze_reply
  both_first found listed e next = ap (λ (r : Reply). first_refusal (r ∷ listed ∷ [])) e ∙ by (graph_reply graph) refl
    where
      by : (reply : Reply) → graph_reply graph ≡ reply
          → first_refusal (graph_reply graph ∷ listed ∷ []) ≡ first_refusal (graph_reply graph ∷ moves_reply graph moves ∷ [])
      by (Err why) told = first-refused why (listed ∷ []) told ∙ sym (first-refused why (moves_reply graph moves ∷ []) told)
      by (Ok value) told =
          let sound = only_sound graph (done_plain (graph_valueless graph) told) in
          ap (λ (r : Reply). first_refusal (graph_reply graph ∷ r ∷ []))
          (next (omega (arith, (graph_readable graph sound).whole.size)))

  -- where nothing is refused, the graph is sound and the list has 2N bytes
  pub squeeze-good : {value : ℕ} → squeeze_reply graph moves ≡ Ok value → SoundGraph graph × (length moves ≡ 2 * slot_count graph)
  unfolding squeeze_reply moves_reply
  squeeze-good h =
      let first = first-all (graph_reply graph) (moves_reply graph moves ∷ []) (graph_valueless graph) h in
      let second = first-all (moves_reply graph moves) [] (moves_valueless graph moves) first.1 in (
        only_sound graph first.0,
        ⊎_elim (λ (t : eqb (length moves) (2 * slot_count graph) ≡ true). eqb-true (length moves) (2 * slot_count graph) t)
            (λ (t : eqb (length moves) (2 * slot_count graph) ≡ false).
            let e : refused bad_moves_length ≡ done = simp t at second.0 in
            absurd (done_or_refused bad_moves_length 0 (sym e)))
            (decided (eqb (length moves) (2 * slot_count graph))),
      )

-- the numbers that are written
pub moves_bytes : (graph : List ℕ) (count : ℕ) (from to : List ℕ) → slot_count graph ≤ slot_limit
    → Moving (graph_of graph) (slot_count graph) count from to → concat_map u16_bytes (take (slot_count graph) to) ≡ moves_block (graph_of graph)
unfolding moves_block
moves_bytes graph count from to few moving =
    let n = slot_count graph in
    let long : length (take n to) ≡ n = length-take-le n to (omega (arith, moving.to_size)) in
    ap (concat_map u16_bytes) (sym (tabulated (length (graph_of graph).slots) (moved_to (graph_of graph)) (take n to) unused_place
    (length-slots graph ∙ sym long)
    (λ v l.
    let inside : v < n = omega arith in
    sym (get_or-take n to v unused_place inside ∙ moving.each v inside))))
