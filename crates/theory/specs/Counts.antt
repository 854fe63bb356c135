-- Request 5/13, by examples: what is counted, which counts are refused, and what the import takes and leaves.
-- Assumes nothing.
use Rattle.std.specs.Prelude.{◌≡◌, List, [], ◌∷◌, ℕ, length, set}
use Rattle.definitions.specs.Lists.{tabulate}
use Rattle.definitions.specs.Reply.{Reply, done, refused_at, refused}
use Rattle.definitions.specs.Graph.{Slot, empty_slot, true_count, graph_reply}
use Rattle.definitions.specs.Import.{import_reply, import_graph}
use Rattle.theory.specs.Examples.{variable, call, relu, block, old_block}

pub data Counting : Type 0 where
  -- the true counts of the graph with these slots and outputs
  counting : (slots : List Slot) (outputs counts : List ℕ) → Counting
  checking : (graph : List ℕ) → Reply → Counting
  -- a graph, the reply, and the graph after
  importing : (graph : List ℕ) → Reply → (after : List ℕ) → Counting

-- the definitions give this
abbrev pub Shows : Counting → Type 0
Shows (counting slots outputs counts) = tabulate (length slots) (true_count (record { slots = slots; outputs = outputs })) ≡ counts
Shows (checking graph reply) = graph_reply graph ≡ reply
Shows (importing graph reply after) = (import_reply graph ≡ reply) × (import_graph graph ≡ after)

abbrev pub AllShow : List Counting → Type 0
AllShow [] = Unit {0}
AllShow (e ∷ es) = Shows e × AllShow es

-- ---- a Variable, add(0, 0), a relu that reaches no output, and an Empty slot; both outputs are the sum

slots : List Slot
unfolding variable call relu
slots = variable ∷ call 1 (0 ∷ 0 ∷ []) [] ∷ relu 0 ∷ empty_slot ∷ []

sums : List ℕ
unfolding slots block
sums = block slots (1 ∷ 1 ∷ [])

old_sums : List ℕ
unfolding slots old_block
old_sums = old_block slots (1 ∷ 1 ∷ [])

-- places are counted, and not readers; so is what reaches no output, and an output once for each place
places : Counting
unfolding slots
places = counting slots (1 ∷ 1 ∷ []) (3 ∷ 2 ∷ 0 ∷ 0 ∷ [])

-- slot k's count stands at byte 64 + 48 k
stored : Counting
unfolding sums
stored = checking sums done

-- slot 0 counts readers, and slot 1 no outputs: the lowest is told
wrong_counts : Counting
unfolding sums
wrong_counts = checking (set (set sums 64 2) 112 0) (refused_at 24 0)

-- the count's high byte, and the count of an Empty slot
high_byte : Counting
unfolding sums
high_byte = checking (set sums 113 1) (refused_at 24 1)

empty_count : Counting
unfolding sums
empty_count = checking (set sums 208 1) (refused_at 24 3)

-- behind the count every byte is zero, or the record is bad
behind_count : Counting
unfolding sums
behind_count = checking (set sums 162 1) (refused_at 21 2)

-- a wrong count is told after a cycle: slot 1 reads itself
after_cycle : Counting
unfolding variable relu block
after_cycle = checking (set (block (variable ∷ relu 1 ∷ []) (0 ∷ [])) 64 9) (refused_at 23 1)

-- version 1 is refused by the check, and version 2 by the import
old_version : Counting
unfolding old_sums
old_version = checking old_sums (refused 20)

new_version : Counting
unfolding sums
new_version = importing sums (refused 20) sums

import_done : Counting
unfolding sums old_sums
import_done = importing old_sums done sums

-- a byte in the count's place is a bad record of version 1
import_count : Counting
unfolding old_sums
import_count = importing (set old_sums 64 3) (refused_at 21 0) (set old_sums 64 3)

import_cycle : Counting
unfolding variable relu old_block
import_cycle =
    let graph = old_block (variable ∷ relu 1 ∷ []) (0 ∷ []) in
    importing graph (refused_at 23 1) graph

unfoldable pub count_examples : List Counting
unfolding places stored wrong_counts high_byte empty_count behind_count after_cycle old_version new_version import_done import_count import_cycle
count_examples =
    places ∷ stored ∷ wrong_counts ∷ high_byte ∷ empty_count ∷ behind_count ∷ after_cycle ∷ old_version ∷ new_version ∷ import_done
    ∷ import_count ∷ import_cycle ∷ []
