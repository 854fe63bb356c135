-- What good blocks are, and the bytes of the images that a search found.
-- Assumes nothing.
use mathlib.Core.Path.{◌≡◌, sym, ap, ◌∙◌}
use mathlib.Core.Bool.{true, false}
use mathlib.Core.List.{List, [], ◌∷◌}
use mathlib.Core.Logic.{⊎_elim}
use Prim.Native.Nat.{ℕ, ◌≤◌}
use native.Mathlib.Omega.{arith}
use borrow.Author.Tests.{eqb-true}
use lib.Dec.{eqb}
use lib.ListN.{length, take, length-take}
use lib.Seq.{ext_get_or, get_or-take}
use Rattle.std.specs.Prelude.{Ok}
use Rattle.definitions.specs.Lists.{padded, concat_map}
use Rattle.definitions.specs.Fields.{u16_bytes}
use Rattle.definitions.specs.Reply.{done, bad_map_length, refused}
use Rattle.definitions.specs.Graph.{unused_place, graph_reply, SoundGraph}
use Rattle.definitions.specs.Rule.{side_limit, source_count, rule_of, rule_reply, SoundRule}
use Rattle.definitions.specs.Match.{image_of}
use Rattle.definitions.specs.Operations.{map_places, map_bytes, map_block, map_reply, blocks_reply}
use Rattle.laws.proofs.Lists.{decided}
use Rattle.laws.proofs.Padded.{length-padded, padded-at, taken_at}
use Rattle.laws.proofs.Reply.{done_or_refused, first-all}
use Rattle.laws.proofs.Operations.{map_valueless, graph_valueless, rule_valueless}
use Rattle.graph_check.proofs.Sound as GraphSound
use Rattle.laws.proofs.Rule.{few_sources_lem}
use Rattle.rule_fields.specs.Fixed.{fixed_of}
use Rattle.rule_nodes.specs.Working.{WorkingRule}
use Rattle.rule_check.proofs.Readable.{working, rule_same}
use Rattle.rule_check.proofs.Sound as RuleSound

-- ---- the map of the images that a search found

-- a list that holds 65535 from n on is its first n elements, filled up, in so many places
filled_up : (n : ℕ) (images : List ℕ) → map_places ≤ length images → n ≤ map_places
    → ((i : ℕ) → n ≤ i → image_of images i ≡ unused_place) → padded map_places unused_place (take n images) ≡ take map_places images
unfolding image_of
filled_up n images size small rest =
    ext_get_or unused_place (padded map_places unused_place (take n images)) (take map_places images)
    (length-padded unused_place map_places (take n images) (omega (arith, length-take n images)) ∙ omega (arith, length-take map_places images))
    (λ i l. padded-at unused_place map_places (take n images) i ∙ taken_at unused_place n images (omega arith) rest i
    ∙ sym (get_or-take map_places images i unused_place (omega (arith, length-padded unused_place map_places (take n images) (omega (arith, length-take n images))))))

pub map_bytes_lem : (n : ℕ) (images : List ℕ) → map_places ≤ length images → n ≤ map_places
    → ((i : ℕ) → n ≤ i → image_of images i ≡ unused_place) → concat_map u16_bytes (take map_places images) ≡ map_block (take n images)
unfolding map_block
map_bytes_lem n images size small rest = sym (ap (concat_map u16_bytes) (filled_up n images size small rest))

-- ---- past the replies about the blocks

map-done : (images : List ℕ) → map_reply images ≡ done → length images ≡ map_bytes
unfolding map_reply
map-done images h =
    ⊎_elim (λ (t : eqb (length images) map_bytes ≡ true). eqb-true (length images) map_bytes t)
    (λ (t : eqb (length images) map_bytes ≡ false).
    let e : refused bad_map_length ≡ done = simp t at h in
    absurd (done_or_refused bad_map_length 0 (sym e)))
    (decided (eqb (length images) map_bytes))

-- what good blocks are: the rule is one to work on as it is lent
pub record GoodBlocks (graph rule images : List ℕ) : Type 0 where
  pub map_size : length images ≡ map_bytes
  pub sound_graph : SoundGraph graph
  pub sound_rule : SoundRule rule
  pub working : WorkingRule rule
  pub same : fixed_of rule ≡ rule_of rule
  pub few : source_count rule ≤ map_places

pub blocks_done : {value : ℕ} (graph rule images : List ℕ) → blocks_reply graph rule images ≡ Ok value → GoodBlocks graph rule images
unfolding blocks_reply
blocks_done graph rule images h =
    let first = first-all (map_reply images) (graph_reply graph ∷ rule_reply rule ∷ []) (map_valueless images) h in
    let second = first-all (graph_reply graph) (rule_reply rule ∷ []) (graph_valueless graph) first.1 in
    let third = first-all (rule_reply rule) [] (rule_valueless rule) second.1 in
    let sound = RuleSound.only_sound rule third.0 in
    record {
      map_size = map-done images first.0;
      sound_graph = GraphSound.only_sound graph second.0;
      sound_rule = sound;
      working = working rule sound;
      same = rule_same rule sound;
      few = few_sources_lem rule side_limit sound.header;
    }
