-- What to read first. The contracts say what the exported functions answer, for any bytes; crates/leafgraph/src/lib.rt cites them, and the
-- code is proved to meet them. Below them stands what follows from each alone, whatever the code: proofs/Statements has the theorems. Words
-- in quotation marks are the owner's demands, document 01 and the requests. What the words used here mean stands in the crate definitions
-- and in Written, Rewritten and Tidied beside this file. Three things of demand 1 are not said by a type: no exported function has a `requires`, which
-- lib.rt shows; and that each one ends, and touches nothing but what it is lent, is part of every proof.
-- Assumes nothing.
use Rattle.std.specs.Prelude.{◌≡◌, true, false, List, [], ◌∷◌, ◌++◌, map, ◌↔◌, ◌⊎◌, ℕ, ◌+◌, ◌*◌, ◌<◌, ◌≤◌, T, ℤ, length, take, drop}
use Rattle.std.proofs.Math.Option.{some}
use Rattle.definitions.specs.Lists.{member}
use Rattle.definitions.specs.Fields.{Bytes, byte_at, u16_at}
use Rattle.definitions.specs.Reply.{Reply, bad_map_length, bad_graph_header, bad_graph_record, bad_graph_name, graph_has_cycle, bad_graph_count, bad_rule_header, bad_rule_record, bad_rule_order, bad_rule_outputs, bad_rule_expression, no_match, no_result, no_room, new_cycle, bad_moves_length, not_amatch, no_such_vertex, short_text, bad_listing, unsound_listing, bad_graph_length, packed, number_in, place_in, value_in}
use Rattle.definitions.specs.Graph.{header_bytes, slot_bytes, unused_place, version_offset, import_version, slot_count, stored_count, record_at, renamed, graph_of, slot_of, is_vertex, graph_block, graph_reply, SoundAs, SoundGraph}
use Rattle.definitions.specs.Rule.{source_count, rule_of, is_rule_input, rule_reply, SoundRule}
use Rattle.definitions.specs.Faults.{FaultAs, GraphFault, RuleFault}
use Rattle.definitions.specs.Match.{image_of, read_attribute, is_const, must_be_private, places_of, Match, MatchFrom, output_images, LeastFrom, attempt}
use Rattle.definitions.specs.Rewriting.{target_results, is_removed, stays, redirect, new_graph}
use Rattle.definitions.specs.Operations.{at_return, returned, map_places, map_bytes, images_in, find_match, rewrite}
use Rattle.definitions.specs.Sweep.{Unneeded, sweep_graph}
use Rattle.definitions.specs.Squeeze.{squeeze_reply, squeeze_graph, squeeze_moves}
use Rattle.definitions.specs.Import.{import_reply, import_graph}
use Rattle.definitions.specs.ReadElsewhere.{ReadElsewhere, elsewhere_reply}
use Rattle.definitions.specs.Sheet.{Sheet, SheetFits, printed}
use Rattle.definitions.specs.Listing.{listing, graph_in, Stops, write_reply, write_text, ReadListing}
use Rattle.definitions.specs.Results.{Meaning, Follows}
use Rattle.answers.specs.Written.{OutsideVersion, OutsideCount, SameByte, KeepsRecord}
use Rattle.answers.specs.Rewritten.{Due, SharedConst, ReadsNone, Keeps}
use Rattle.answers.specs.Tidied.{went_to, Renumbers, KeepsResults}

-- ==== the contracts

-- Names with After are the lent bytes at the return, the others as they came. What is lent to read only cannot be written: the rule
-- always, the graph by the checks, by lg_find_match, lg_is_read_elsewhere and lg_write_listing, the map by lg_is_read_elsewhere, and the text by
-- lg_read_listing. For lg_find_match lib.rt gives the graph's bytes as they came for graph_after.

-- lg_check_graph and lg_check_rule: the reply is the definition's
abbrev pub CheckedGraph : List ℕ → ℕ → Type 0
CheckedGraph graph reply = reply ≡ packed (graph_reply graph)

abbrev pub CheckedRule : List ℕ → ℕ → Type 0
CheckedRule rule reply = reply ≡ packed (rule_reply rule)

-- lg_find_match: reply, graph bytes and map bytes are the definition's
abbrev pub Searched : List ℕ → List ℕ → ℕ → List ℕ → ℕ → List ℕ → List ℕ → Type 0
Searched graph rule start map reply graph_after map_after = at_return reply graph_after map_after ≡ returned (find_match graph rule start map)

-- lg_rewrite: likewise; and what it is lent are bytes
pub record Rewrote (graph rule : List ℕ) (start : ℕ) (map : List ℕ) (reply : ℕ) (graph_after map_after : List ℕ) : Type 0 where
  pub outcome : at_return reply graph_after map_after ≡ returned (rewrite graph rule start map)
  pub lent_graph : Bytes graph
  pub lent_rule : Bytes rule
  pub lent_map : Bytes map

-- lg_sweep: the reply is the check's, and the graph bytes are the definition's; what it is lent are bytes
pub record Swept (graph : List ℕ) (reply : ℕ) (graph_after : List ℕ) : Type 0 where
  pub replied : reply ≡ packed (graph_reply graph)
  pub left : graph_after ≡ sweep_graph graph
  pub lent_graph : Bytes graph

-- lg_squeeze: reply, graph bytes and list bytes are the definition's; likewise
pub record Squeezed (graph moves : List ℕ) (reply : ℕ) (graph_after moves_after : List ℕ) : Type 0 where
  pub replied : reply ≡ packed (squeeze_reply graph moves)
  pub left : graph_after ≡ squeeze_graph graph moves
  pub listed : moves_after ≡ squeeze_moves graph moves
  pub lent_graph : Bytes graph
  pub lent_moves : Bytes moves

-- lg_import: reply and graph bytes are the definition's; likewise
pub record Imported (graph : List ℕ) (reply : ℕ) (graph_after : List ℕ) : Type 0 where
  pub replied : reply ≡ packed (import_reply graph)
  pub left : graph_after ≡ import_graph graph
  pub lent_graph : Bytes graph

-- lg_is_read_elsewhere: the reply is the definition's, the answer with it
abbrev pub Asked : List ℕ → List ℕ → List ℕ → ℕ → ℕ → Type 0
Asked graph rule map vertex reply = reply ≡ packed (elsewhere_reply graph rule map vertex)

-- lg_write_listing: reply and text bytes are the definition's, the text's length with the reply; what it is lent to read are bytes
pub record Wrote (graph text : List ℕ) (reply : ℕ) (text_after : List ℕ) : Type 0 where
  pub replied : reply ≡ packed (write_reply graph text)
  pub left : text_after ≡ write_text graph text
  pub lent_graph : Bytes graph

-- lg_read_listing: reply and graph bytes are those that ReadListing gives, which is one reply and one list of bytes for each text and graph
pub record ReadText (text graph : List ℕ) (reply : ℕ) (graph_after : List ℕ) : Type 0 where
  pub answer : Reply
  pub replied : reply ≡ packed answer
  pub read : ReadListing text graph answer graph_after

-- ==== what follows: the checks

-- The C side reads number n in bits 0 to 7 of a reply, where 0 is done, and place p in bits 8 to 39, and in bits 40 to 63 no value.
pub record Says (reply n p : ℕ) : Type 0 where
  pub number : number_in reply ≡ n
  pub place : place_in reply ≡ p
  pub value : value_in reply ≡ 0

-- the kinds of fault of a graph block of either version, those of version 2, and those of a rule block
abbrev pub form_numbers : List ℕ
form_numbers = bad_graph_header ∷ bad_graph_record ∷ bad_graph_name ∷ graph_has_cycle ∷ []

abbrev pub graph_numbers : List ℕ
graph_numbers = form_numbers ++ bad_graph_count ∷ []

abbrev pub rule_numbers : List ℕ
rule_numbers = bad_rule_header ∷ bad_rule_record ∷ bad_rule_order ∷ bad_rule_outputs ∷ bad_rule_expression ∷ []

-- What a check says of a block, `bad` being the kinds of fault that it can have.
pub record Verdict (Sound : Type 0) (Fault : ℕ → ℕ → Type 0) (bad : List ℕ) (reply : ℕ) : Type 0 where
  -- 0 exactly where the block is sound
  pub done : (number_in reply ≡ 0) ↔ Sound
  -- one of these numbers exactly where it isn't
  pub refused : (member (number_in reply) bad ≡ true) ↔ (Sound → ⊥)
  -- "The first kind that holds anywhere is given": n with place p exactly where n is that kind and p its lowest place.
  pub fault : (n p : ℕ) → ((member n bad ≡ true) × Says reply n p) ↔ Fault n p
  -- no other number, no place beside 0, and never a value
  pub either : member (number_in reply) (0 ∷ bad) ≡ true
  pub plain : number_in reply ≡ 0 → place_in reply ≡ 0
  pub value : value_in reply ≡ 0

-- "20 to 23 replace 2", and "a wrong count is 24, [...] after 23". Follows from CheckedGraph
abbrev pub GraphVerdict : List ℕ → ℕ → Type 0
GraphVerdict graph reply = Verdict (SoundGraph graph) (GraphFault graph) graph_numbers reply

-- "30 to 34 replace 3". Follows from CheckedRule
abbrev pub RuleVerdict : List ℕ → ℕ → Type 0
RuleVerdict rule reply = Verdict (SoundRule rule) (RuleFault rule) rule_numbers reply

-- A sound block is the block of its graph: so two sound blocks of bytes that stand for one graph are the same bytes, and what an
-- operation says of the graph at the return it says of every byte. Follows from the definitions.
abbrev pub OneBlock : Type 0
OneBlock = (one other : List ℕ) → Bytes one → Bytes other → SoundGraph one → SoundGraph other → graph_of one ≡ graph_of other → one ≡ other

-- ==== what follows: matching and rewriting

-- a map of 32 bytes, a sound graph and a sound rule
abbrev pub Good : List ℕ → List ℕ → List ℕ → Type 0
Good graph rule map = (length map ≡ map_bytes) × SoundGraph graph × SoundRule rule

-- the numbers that are about the lent blocks; an operation's own are none of these
abbrev pub block_numbers : List ℕ
block_numbers = bad_map_length ∷ graph_numbers ++ rule_numbers

-- "Bad ones are refused by number": 1, then the graph's faults, then the rule's, "in place and in document 01's order"
pub record BlockReplies (graph rule map : List ℕ) (reply : ℕ) : Type 0 where
  -- "1: map buffer isn't 32 bytes"
  pub wrong_map : (number_in reply ≡ bad_map_length) ↔ (length map ≡ map_bytes → ⊥)
  -- "20 to 23 replace 2", and "a wrong count is 24, [...] after 23": a bad graph block
  pub wrong_graph : (member (number_in reply) graph_numbers ≡ true) ↔ ((length map ≡ map_bytes) × (SoundGraph graph → ⊥))
  -- "30 to 34 replace 3": a bad rule block
  pub wrong_rule : (member (number_in reply) rule_numbers ≡ true)
      ↔ ((length map ≡ map_bytes) × SoundGraph graph × (SoundRule rule → ⊥))
  -- of these, n with place p exactly where n is the first kind that holds and p its lowest place
  pub graph_fault : (n p : ℕ) → ((member n graph_numbers ≡ true) × Says reply n p) ↔ ((length map ≡ map_bytes) × GraphFault graph n p)
  pub rule_fault : (n p : ℕ) → ((member n rule_numbers ≡ true) × Says reply n p)
      ↔ ((length map ≡ map_bytes) × SoundGraph graph × RuleFault rule n p)
  -- every other reply is for good blocks only
  pub good : member (number_in reply) block_numbers ≡ false → Good graph rule map
  -- "wherever no request names a place, 0"
  pub plain : member (number_in reply) (graph_numbers ++ rule_numbers) ≡ false → place_in reply ≡ 0
  -- none of these has a value
  pub value : member (number_in reply) block_numbers ≡ true → value_in reply ≡ 0

-- "Done, in matching and in rewriting, writes the map: sixteen 16-bit numbers, 65535 from S on." The first S of them are the images.
pub record WritesLeast (graph rule : List ℕ) (start : ℕ) (map_after : List ℕ) : Type 0 where
  -- "The least match is taken."
  pub least : LeastFrom (graph_of graph) (rule_of rule) start (images_in map_after (source_count rule))
  pub rest : (j : ℕ) → source_count rule ≤ j → j < map_places → u16_at map_after (2 * j) ≡ unused_place
  pub size : length map_after ≡ map_bytes

-- the numbers that matching gives
abbrev pub match_numbers : List ℕ
match_numbers = 0 ∷ block_numbers ++ no_match ∷ []

-- follows from Searched
pub record MatchReplies (graph rule : List ℕ) (start : ℕ) (map : List ℕ) (reply : ℕ) (graph_after map_after : List ℕ) : Type 0 where
  pub blocks : BlockReplies graph rule map reply
  -- "A match is found whenever one exists."
  pub done : (number_in reply ≡ 0) ↔ (Good graph rule map × ((images : List ℕ) × MatchFrom (graph_of graph) (rule_of rule) start images))
  -- "4: no match from s"
  pub none : (number_in reply ≡ no_match)
      ↔ (Good graph rule map × ((images : List ℕ) → MatchFrom (graph_of graph) (rule_of rule) start images → ⊥))
  -- "matching 0 to 4", with 20 to 24 for 2 and 30 to 34 for 3; never a value
  pub listed : member (number_in reply) match_numbers ≡ true
  pub value : value_in reply ≡ 0
  -- "Only rewriting writes the graph." "After a refusal each lent byte is as it came."
  pub graph_kept : graph_after ≡ graph
  pub refusal_keeps : (number_in reply ≡ 0 → ⊥) → map_after ≡ map
  pub written : number_in reply ≡ 0 → WritesLeast graph rule start map_after

-- vertex v stays, with every byte of its record but its count, and what stays and names it goes on to name it: no place that does is
-- redirected
pub record KeptConst (graph rule images graph_after : List ℕ) (v : ℕ) : Type 0 where
  pub kept : T (stays (graph_of graph) (rule_of rule) images v)
  pub named : redirect (graph_of graph) (rule_of rule) images v ≡ v
  pub bytes : KeepsRecord graph graph_after v

-- "An accepted rewriting yields the one table that document 01 describes": for the match `images`, with the results of the target
-- vertices' expressions. Its block is sound, so that rewritings can follow one another.
pub record Yields (graph rule images graph_after : List ℕ) : Type 0 where
  pub values : List (List ℤ)
  pub fit : target_results (read_attribute (graph_of graph) images) (rule_of rule).target ≡ some values
  pub block : graph_after ≡ graph_block (new_graph (graph_of graph) (rule_of rule) images values)
  pub table : graph_of graph_after ≡ new_graph (graph_of graph) (rule_of rule) images values
  pub sound : SoundGraph graph_after
  -- "Nothing else changes" is said by `block`. A part of it, by bytes: a vertex that stays and reads no replaced output keeps every byte
  -- of its record but its count, and that too unless more or fewer places name it than before.
  pub records : (k : ℕ) → T (stays (graph_of graph) (rule_of rule) images k) → ReadsNone (graph_of graph) (rule_of rule) images k
      → KeepsRecord graph graph_after k
  -- "It is removed only if all its reads come from images of non-input source vertices and no graph output names it; otherwise it is a
  -- staying vertex."
  pub constants : (v : ℕ) → SharedConst (graph_of graph) (rule_of rule) images v → KeptConst graph rule images graph_after v

-- the numbers that rewriting gives
abbrev pub rewrite_numbers : List ℕ
rewrite_numbers = match_numbers ++ no_result ∷ no_room ∷ new_cycle ∷ []

-- follows from Rewrote
pub record RewriteReplies (graph rule : List ℕ) (start : ℕ) (map : List ℕ) (reply : ℕ) (graph_after map_after : List ℕ) : Type 0 where
  pub blocks : BlockReplies graph rule map reply
  -- "No match, an attribute without a fit result, no room and a cycle are each reported exactly when they are so and nothing earlier in
  -- document 01's order is." Done is due where none of them is so.
  pub due : Good graph rule map → (n : ℕ) → (number_in reply ≡ n) ↔ (Due (graph_of graph) (rule_of rule) start n)
  -- "rewriting 0 to 7", likewise
  pub listed : member (number_in reply) rewrite_numbers ≡ true
  pub value : value_in reply ≡ 0
  -- "After a refusal each lent byte is as it came."
  pub refusal_keeps : (number_in reply ≡ 0 → ⊥) → (graph_after ≡ graph) × (map_after ≡ map)
  pub written : number_in reply ≡ 0 → WritesLeast graph rule start map_after
  pub yields : number_in reply ≡ 0 → Yields graph rule (images_in map_after (source_count rule)) graph_after

-- ==== what follows: demand 3, of every accepted rewriting

-- "Before" is the graph of the block as it came, "after" that of the bytes at the return; the match is the one that the map tells. Keeps
-- has the demand sentence by sentence. Follows from Rewrote and reply 0, for every result type R and every meaning m.
pub record Demand3 {ℓ} {R : Type ℓ} (m : Meaning R) (graph rule graph_after map_after : List ℕ) : Type ℓ where
  pub values : List (List ℤ)
  pub fit : target_results (read_attribute (graph_of graph) (images_in map_after (source_count rule))) (rule_of rule).target ≡ some values
  pub keeps : Keeps m (graph_of graph) (rule_of rule) (images_in map_after (source_count rule)) values (graph_of graph_after)

-- ==== what follows: the sweep

-- What an accepted sweep leaves. Of blocks of bytes this is together every byte: a slot that is Empty in a sound block has one content, and a
-- count is the true one.
pub record Sweeps (graph graph_after : List ℕ) : Type 0 where
  -- "Every vertex from which no graph output is reached becomes Empty, except Variables": Empty after is what was so, and these
  pub empty : (v : ℕ) → (is_vertex (graph_of graph_after) v ≡ false)
      ↔ ((is_vertex (graph_of graph) v ≡ false) ⊎ Unneeded (graph_of graph) v)
  -- every other record keeps every byte but its count, which is true again by `sound`, and the header keeps every byte
  pub records : (v : ℕ) → v < slot_count graph → (Unneeded (graph_of graph) v → ⊥) → KeepsRecord graph graph_after v
  pub header : (i : ℕ) → i < header_bytes → byte_at graph_after i ≡ byte_at graph i
  -- N and the block's length stay
  pub size : length graph_after ≡ length graph
  pub sound : SoundGraph graph_after

-- follows from Swept
pub record SweepReplies (graph : List ℕ) (reply : ℕ) (graph_after : List ℕ) : Type 0 where
  -- "bad graph as before"
  pub verdict : GraphVerdict graph reply
  pub refusal_keeps : (number_in reply ≡ 0 → ⊥) → graph_after ≡ graph
  pub sweeps : number_in reply ≡ 0 → Sweeps graph graph_after

-- Every vertex that stays and every output has the same result after as before. Follows from Swept and reply 0, for every result type R
-- and every meaning m.
abbrev pub SweepKeeps {ℓ} : {R : Type ℓ} → Meaning R → List ℕ → List ℕ → Type ℓ
SweepKeeps m graph graph_after =
    KeepsResults m m (graph_of graph) (graph_of graph_after) (is_vertex (graph_of graph_after)) (λ v. v)

-- A second sweep is accepted, and changes nothing more. Follows from Swept and reply 0.
abbrev pub SweptTwice : List ℕ → Type 0
SweptTwice graph_after =
    (reply : ℕ) (again : List ℕ) → Swept graph_after reply again → (number_in reply ≡ 0) × (again ≡ graph_after)

-- ==== what follows: the squeeze

-- the numbers that a squeeze gives
abbrev pub squeeze_numbers : List ℕ
squeeze_numbers = 0 ∷ graph_numbers ++ bad_moves_length ∷ []

-- What an accepted squeeze leaves. Of blocks of bytes this is together every byte of both.
pub record Squeezes (graph graph_after moves_after : List ℕ) : Type 0 where
  -- "a lent list of N 16-bit numbers says where each old slot went"
  pub moves : Renumbers (graph_of graph) (went_to moves_after)
  pub moves_size : length moves_after ≡ 2 * slot_count graph
  -- "all inputs and outputs follow": each vertex's record is its old one, with its inputs renamed
  pub records : (v : ℕ) → is_vertex (graph_of graph) v ≡ true
      → slot_of (graph_of graph_after) (went_to moves_after v) ≡ renamed (went_to moves_after) (slot_of (graph_of graph) v)
  pub outputs : (graph_of graph_after).outputs ≡ map (went_to moves_after) (graph_of graph).outputs
  -- a count goes with its vertex
  pub counts : (v : ℕ) → is_vertex (graph_of graph) v ≡ true → stored_count graph_after (went_to moves_after v) ≡ stored_count graph v
  -- the rest is Empty
  pub rest : (k : ℕ) → is_vertex (graph_of graph_after) k ≡ true
      → (v : ℕ) × (is_vertex (graph_of graph) v ≡ true) × (went_to moves_after v ≡ k)
  -- N and the block's length stay
  pub size : length graph_after ≡ length graph
  pub sound : SoundGraph graph_after

-- follows from Squeezed
pub record SqueezeReplies (graph moves : List ℕ) (reply : ℕ) (graph_after moves_after : List ℕ) : Type 0 where
  pub done : (number_in reply ≡ 0) ↔ (SoundGraph graph × (length moves ≡ 2 * slot_count graph))
  -- "bad graph as before": n with place p exactly where n is the first kind of fault that holds and p its lowest place
  pub wrong_graph : (member (number_in reply) graph_numbers ≡ true) ↔ (SoundGraph graph → ⊥)
  pub graph_fault : (n p : ℕ) → ((member n graph_numbers ≡ true) × Says reply n p) ↔ GraphFault graph n p
  -- "then 40 when the list is not 2N bytes"
  pub wrong_moves : (number_in reply ≡ bad_moves_length) ↔ (SoundGraph graph × (length moves ≡ 2 * slot_count graph → ⊥))
  pub listed : member (number_in reply) squeeze_numbers ≡ true
  -- only the graph's faults have a place, and nothing a value
  pub plain : member (number_in reply) graph_numbers ≡ false → place_in reply ≡ 0
  pub value : value_in reply ≡ 0
  pub refusal_keeps : (number_in reply ≡ 0 → ⊥) → (graph_after ≡ graph) × (moves_after ≡ moves)
  pub squeezes : number_in reply ≡ 0 → Squeezes graph graph_after moves_after

-- "Under demand 3's meanings a moved vertex has the same result after as before, with a Variable's result following it to its new number":
-- `meant` is any meaning that gives a Variable at its new number the result that m gives it at its old one (Follows), and there is one.
-- Follows from Squeezed and reply 0, for every result type R and every meaning m.
pub record SqueezeKeeps {ℓ} {R : Type ℓ} (m : Meaning R) (graph graph_after moves_after : List ℕ) : Type ℓ where
  pub some : (meant : Meaning R) × Follows (graph_of graph) (went_to moves_after) m meant
  pub every : (meant : Meaning R) → Follows (graph_of graph) (went_to moves_after) m meant
      → KeepsResults m meant (graph_of graph) (graph_of graph_after) (is_vertex (graph_of graph)) (went_to moves_after)

-- A second squeeze with a list that is as long is accepted, changes nothing more, and its list says of every vertex that it stays where it
-- is. Follows from Squeezed and reply 0.
abbrev pub SqueezedTwice : List ℕ → List ℕ → Type 0
SqueezedTwice graph_after moves_after =
    (moves : List ℕ) (reply : ℕ) (again moves_again : List ℕ) → Squeezed graph_after moves reply again moves_again
    → length moves ≡ length moves_after
    → (number_in reply ≡ 0) × (again ≡ graph_after)
    × ((v : ℕ) → is_vertex (graph_of graph_after) v ≡ true → went_to moves_again v ≡ v)

-- ==== what follows: the import

-- What an accepted import leaves. Of blocks of bytes this is together every byte.
pub record Imports (graph graph_after : List ℕ) : Type 0 where
  -- "An import turns a sound version 1 block into version 2", which stands for the same graph: so every result is the same
  pub sound : SoundGraph graph_after
  pub table : graph_of graph_after ≡ graph_of graph
  -- every byte is the same but those of the version and of the counts
  pub header : (i : ℕ) → i < header_bytes → OutsideVersion i → byte_at graph_after i ≡ byte_at graph i
  pub records : (k : ℕ) → k < slot_count graph → (i : ℕ) → i < slot_bytes → OutsideCount i → SameByte graph graph_after k i
  pub size : length graph_after ≡ length graph

-- follows from Imported
pub record ImportReplies (graph : List ℕ) (reply : ℕ) (graph_after : List ℕ) : Type 0 where
  -- the rules of version 1 alone, and never 24
  pub verdict : Verdict (SoundAs import_version graph) (FaultAs import_version graph) form_numbers reply
  pub refusal_keeps : (number_in reply ≡ 0 → ⊥) → graph_after ≡ graph
  pub imports : number_in reply ≡ 0 → Imports graph graph_after

-- "Any other version is 20". The check takes version 2 alone, and every operation but the import tells the check's faults; the import takes
-- version 1 alone, so that no second import follows the first. Follows from CheckedGraph with version 2, and from Imported with version 1.
abbrev pub OneVersion : ℕ → List ℕ → ℕ → Type 0
OneVersion version graph reply = (u16_at graph version_offset ≡ version → ⊥) → Says reply bad_graph_header 0

-- ==== what follows: is an image read elsewhere

-- the map is "a match (any, with 65535 from S on)": number j is the image of source vertex j
pub record HoldsMatch (graph rule map : List ℕ) : Type 0 where
  pub is_match : Match (graph_of graph) (rule_of rule) (images_in map (source_count rule))
  pub rest : (j : ℕ) → source_count rule ≤ j → j < map_places → u16_at map (2 * j) ≡ unused_place

-- "one non-input source vertex"
abbrev pub Inner : List ℕ → ℕ → Type 0
Inner rule vertex = (vertex < source_count rule) × (is_rule_input (rule_of rule) vertex ≡ false)

-- the slot that the map gives a source vertex
abbrev pub image_in : List ℕ → List ℕ → ℕ → ℕ
image_in rule map vertex = image_of (images_in map (source_count rule)) vertex

-- the vertex's image under the map "is a graph output or is read by something other than the image of a non-input source vertex"
abbrev pub NeededElsewhere : List ℕ → List ℕ → List ℕ → ℕ → Type 0
NeededElsewhere graph rule map vertex =
    ReadElsewhere (graph_of graph) (rule_of rule) (images_in map (source_count rule)) (image_in rule map vertex)

-- the numbers that the question gives
abbrev pub ask_numbers : List ℕ
ask_numbers = 0 ∷ block_numbers ++ not_amatch ∷ no_such_vertex ∷ []

-- What an answer says, on reply 0.
pub record Answers (graph rule map : List ℕ) (vertex reply : ℕ) : Type 0 where
  -- "yes exactly when"; value 1 is yes, and value 0 no
  pub yes : (value_in reply ≡ 1) ↔ NeededElsewhere graph rule map vertex
  pub no : (value_in reply ≡ 0) ↔ (NeededElsewhere graph rule map vertex → ⊥)
  -- "from the stored count and the rule alone": the count is above the number of source input places that name the vertex
  pub counted : (value_in reply ≡ 1) ↔ (places_of (rule_of rule) vertex < stored_count graph (image_in rule map vertex))
  -- of an interior vertex that is no Const the answer is no, or the map would be no match; and of a Const it is no exactly where a rewriting
  -- at this match removes it
  pub interior : must_be_private (rule_of rule) vertex ≡ true → value_in reply ≡ 0
  pub constant : is_const (rule_of rule) vertex ≡ true
      → (value_in reply ≡ 0) ↔ (is_removed (graph_of graph) (rule_of rule) (images_in map (source_count rule)) (image_in rule map vertex) ≡ true)

-- follows from Asked
pub record AskReplies (graph rule map : List ℕ) (vertex reply : ℕ) : Type 0 where
  -- "1, the graph and rule ones"
  pub blocks : BlockReplies graph rule map reply
  -- "then 41 when the map isn't a match"
  pub no_map : (number_in reply ≡ not_amatch) ↔ (Good graph rule map × (HoldsMatch graph rule map → ⊥))
  -- "42 when it is no such vertex"
  pub no_vertex : (number_in reply ≡ no_such_vertex) ↔ (Good graph rule map × HoldsMatch graph rule map × (Inner rule vertex → ⊥))
  pub done : (number_in reply ≡ 0) ↔ (Good graph rule map × HoldsMatch graph rule map × Inner rule vertex)
  pub listed : member (number_in reply) ask_numbers ≡ true
  -- a refusal has no value, so that it is never taken for yes
  pub refusal_value : (number_in reply ≡ 0 → ⊥) → value_in reply ≡ 0
  pub answers : number_in reply ≡ 0 → Answers graph rule map vertex reply

-- The map that lg_find_match has written is such a match: of it the question is answered for every such vertex. Follows from Searched and
-- reply 0.
abbrev pub AnswersWritten : List ℕ → List ℕ → List ℕ → Type 0
AnswersWritten graph rule map_after =
    (vertex reply : ℕ) → Asked graph rule map_after vertex reply → Inner rule vertex → number_in reply ≡ 0

-- A map is a match exactly where one attempt at its own output images gives it: nothing has to be searched. Follows from the definitions,
-- for a sound rule.
abbrev pub OneAttempt : List ℕ → List ℕ → Type 0
OneAttempt graph rule =
    (images : List ℕ) → Match (graph_of graph) (rule_of rule) images
    ↔ (attempt (graph_of graph) (rule_of rule) (output_images (rule_of rule) images) ≡ some images)

-- ==== what follows: writing a listing

-- the numbers that writing gives
abbrev pub write_numbers : List ℕ
write_numbers = 0 ∷ graph_numbers ++ short_text ∷ []

-- follows from Wrote
pub record WriteReplies (graph text : List ℕ) (reply : ℕ) (text_after : List ℕ) : Type 0 where
  pub done : (number_in reply ≡ 0) ↔ (SoundGraph graph × (length (listing (graph_of graph)) ≤ length text))
  -- "the graph ones": n with place p exactly where n is the first kind of fault that holds and p its lowest place
  pub wrong_graph : (member (number_in reply) graph_numbers ≡ true) ↔ (SoundGraph graph → ⊥)
  pub graph_fault : (n p : ℕ) → ((member n graph_numbers ≡ true) × Says reply n p) ↔ GraphFault graph n p
  -- "then 43 text buffer shorter than the listing"
  pub short : (number_in reply ≡ short_text) ↔ (SoundGraph graph × (length text < length (listing (graph_of graph))))
  pub listed : member (number_in reply) write_numbers ≡ true
  -- only the graph's faults have a place
  pub plain : member (number_in reply) graph_numbers ≡ false → place_in reply ≡ 0
  -- "Writing returns the text's length": below 65536 for every graph; a refusal has no value
  pub size : number_in reply ≡ 0 → value_in reply ≡ length (listing (graph_of graph))
  pub size_limit : value_in reply < 65536
  pub refusal_value : (number_in reply ≡ 0 → ⊥) → value_in reply ≡ 0
  -- "keeps the rest of the buffer"
  pub written : number_in reply ≡ 0 → text_after ≡ listing (graph_of graph) ++ drop (value_in reply) text
  pub refusal_keeps : (number_in reply ≡ 0 → ⊥) → text_after ≡ text

-- ==== what follows: reading a listing

-- the text is the listing of this sheet
pub record Lists (text : List ℕ) (s : Sheet) : Type 0 where
  pub fits : SheetFits s
  pub same : printed s ≡ text

-- and its graph is sound
abbrev pub SoundSheet : Sheet → Type 0
SoundSheet s = SoundGraph (graph_block (graph_in s))

-- the numbers that reading gives
abbrev pub read_numbers : List ℕ
read_numbers = 0 ∷ bad_listing ∷ unsound_listing ∷ bad_graph_length ∷ []

-- What is read, on reply 0: "reading it gives the same block with true counts".
pub record ReadGraph (text graph_after : List ℕ) : Type 0 where
  pub sound : SoundGraph graph_after
  pub bytes : Bytes graph_after
  pub same : listing (graph_of graph_after) ≡ text

-- follows from ReadText
pub record ReadReplies (text graph : List ℕ) (reply : ℕ) (graph_after : List ℕ) : Type 0 where
  -- "44 with the place of the first byte at which no listing can go on, or the text's length where it ends early": with place p exactly
  -- where the text stops at p
  pub stops : (p : ℕ) → Says reply bad_listing p ↔ Stops text p
  -- and with some place exactly where the text is no listing
  pub no_listing : (number_in reply ≡ bad_listing) ↔ ((s : Sheet) → Lists text s → ⊥)
  -- "45 unsound graph"
  pub unsound : (number_in reply ≡ unsound_listing) ↔ ((s : Sheet) × Lists text s × (SoundSheet s → ⊥))
  -- "46 graph buffer not exactly 24 + 48N bytes"
  pub wrong_length : (number_in reply ≡ bad_graph_length)
      ↔ ((s : Sheet) × Lists text s × SoundSheet s × (length graph ≡ record_at s.size → ⊥))
  -- "exactly such listings are accepted": where the text is the listing of some sound graph, and the buffer is as long as its block. What
  -- stood in the buffer is not judged.
  pub done : (number_in reply ≡ 0)
      ↔ ((block : List ℕ) × SoundGraph block × Bytes block × (listing (graph_of block) ≡ text) × (length graph ≡ length block))
  pub listed : member (number_in reply) read_numbers ≡ true
  -- only 44 has a place, and it is below 65536; nothing has a value
  pub plain : (number_in reply ≡ bad_listing → ⊥) → place_in reply ≡ 0
  pub place_limit : place_in reply < 65536
  pub value : value_in reply ≡ 0
  pub reads : number_in reply ≡ 0 → ReadGraph text graph_after
  pub size : length graph_after ≡ length graph
  pub refusal_keeps : (number_in reply ≡ 0 → ⊥) → graph_after ≡ graph

-- A text and a buffer have an answer, and only one. The first follows from the definitions, the second from ReadText of both.
abbrev pub SomeAnswer : Type 0
SomeAnswer = (text graph : List ℕ) → (reply : ℕ) × ((graph_after : List ℕ) × ReadText text graph reply graph_after)

abbrev pub OneAnswer : Type 0
OneAnswer = (text graph : List ℕ) (reply other : ℕ) (graph_after other_after : List ℕ) → ReadText text graph reply graph_after
    → ReadText text graph other other_after → (reply ≡ other) × (graph_after ≡ other_after)

-- ==== what follows: there and back

-- "Every sound graph has one listing": two texts that are read into the same bytes are the same text. Follows from ReadText and reply 0 of both.
abbrev pub OneText : Type 0
OneText = (text other graph buffer : List ℕ) (reply second : ℕ) (graph_after : List ℕ) → ReadText text graph reply graph_after
    → ReadText other buffer second graph_after → number_in reply ≡ 0 → number_in second ≡ 0 → text ≡ other

-- And no two have the same: two sound blocks of bytes with one listing are the same bytes. Follows from the definitions.
abbrev pub OneListing : Type 0
OneListing = (one other : List ℕ) → Bytes one → Bytes other → SoundGraph one → SoundGraph other
    → listing (graph_of one) ≡ listing (graph_of other) → one ≡ other

-- Reading what was written, the bytes of the text up to the length that writing gave, into a buffer as long as the graph, is done and gives
-- exactly the graph's bytes. Follows from Wrote and reply 0.
abbrev pub ReadsBack : List ℕ → ℕ → List ℕ → Type 0
ReadsBack graph reply text_after =
    (buffer : List ℕ) (again : ℕ) (buffer_after : List ℕ) → ReadText (take (value_in reply) text_after) buffer again buffer_after
    → length buffer ≡ length graph → (number_in again ≡ 0) × (buffer_after ≡ graph)

-- And writing what was read, into a buffer that is long enough, is done and gives exactly the text. Follows from ReadText and reply 0.
abbrev pub WritesBack : List ℕ → List ℕ → Type 0
WritesBack text graph_after =
    (buffer : List ℕ) (again : ℕ) (buffer_after : List ℕ) → Wrote graph_after buffer again buffer_after
    → length text ≤ length buffer → (number_in again ≡ 0) × (value_in again ≡ length text) × (take (length text) buffer_after ≡ text)
