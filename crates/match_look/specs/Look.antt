-- The look at a candidate's kind, operator and counts: the contract of the function that the search calls, and what is to be known of
-- it, statements only. Words in quotation marks are those of request 3/13. The theorems are in proofs/Look beside this file, and what
-- vertex matching does after a no stands in its contract (`AfterNo` in matching/specs/Ready).
-- Assumes nothing.
use Rattle.std.specs.Prelude.{◌≡◌, Bool, false, List, ◌⊎◌, ◌↔◌, ℕ, ◌+◌, ◌<◌, length}
use Rattle.definitions.specs.Fields.{byte_at}
use Rattle.definitions.specs.Operators.{kind_empty}
use Rattle.definitions.specs.Graph.{inputs_offset, Slot, Graph, slot_of, slot_count, record_at, graph_of}
use Rattle.definitions.specs.Rule.{Pattern, Rule, source_of}
use Rattle.definitions.specs.Match.{image_of, Match}
use Rattle.match_look.specs.Head.{head_in, slot_head, pattern_head, SameHead}
use Rattle.match_look.specs.Candidate.{head_fits}

-- ==== the contract of head_fits

-- It gets two words, each of four bytes, and answers by the four numbers in each.
abbrev pub Looked : ℕ → ℕ → Bool → Type 0
Looked pattern slot answer = answer ≡ head_fits (head_in pattern) (head_in slot)

-- ==== what follows

-- the look at a slot for a source vertex: what head_fits answers to words that hold the four numbers of either record
abbrev pub look : Pattern ℕ → Slot → Bool
look p s = head_fits (pattern_head p) (slot_head s)

abbrev pub AnswersLook : Type 0
AnswersLook = (p : Pattern ℕ) (s : Slot) (pattern slot : ℕ) (answer : Bool) → head_in pattern ≡ pattern_head p → head_in slot ≡ slot_head s
    → Looked pattern slot answer → answer ≡ look p s

-- "It takes nothing else from either record": two pairs of records that agree in kind, operator and counts get the same answer.
abbrev pub TakesNothingElse : Type 0
TakesNothingElse = (p q : Pattern ℕ) (s t : Slot) → SameHead (pattern_head p) (pattern_head q) → SameHead (slot_head s) (slot_head t)
    → look p s ≡ look q t

-- kind, operator, input count or attribute count differs
abbrev pub Differs : Pattern ℕ → Slot → Type 0
Differs p s =
    (s.kind ≡ p.kind → ⊥)
    ⊎ (s.operator ≡ p.operator → ⊥)
    ⊎ (length s.inputs ≡ length p.inputs → ⊥)
    ⊎ (length s.attributes ≡ length p.attributes → ⊥)

-- "It says no exactly when one of them differs (for a wildcard, when the slot is Empty)."
pub record NoExactly (p : Pattern ℕ) (s : Slot) : Type 0 where
  pub different : (p.kind ≡ kind_empty → ⊥) → (look p s ≡ false) ↔ Differs p s
  pub empty : p.kind ≡ kind_empty → (look p s ≡ false) ↔ (s.kind ≡ kind_empty)

-- "After a no the candidate fails whatever its other bytes hold." Where the look at slot s says no to source vertex j, no match sends j
-- to v, in any graph whose slot v has the head of s: its inputs, its attributes and all other slots may be any.
abbrev pub NoMatchAfterNo : Type 0
NoMatchAfterNo = (r : Rule) (j : ℕ) (s : Slot) → j < length r.source → look (source_of r j) s ≡ false
    → (g : Graph) (v : ℕ) → SameHead (slot_head s) (slot_head (slot_of g v))
    → (images : List ℕ) → Match g r images → image_of images j ≡ v → ⊥

-- The same by bytes: where it says no to slot v of a block, no match sends j to v in any block with the same four bytes at the start of
-- that slot's record, whatever the others are.
abbrev pub NoMatchWhateverBytes : Type 0
NoMatchWhateverBytes = (r : Rule) (j : ℕ) (block : List ℕ) (v : ℕ) → j < length r.source → v < slot_count block
    → look (source_of r j) (slot_of (graph_of block) v) ≡ false
    → (other : List ℕ) → ((i : ℕ) → i < inputs_offset → byte_at other (record_at v + i) ≡ byte_at block (record_at v + i))
    → (images : List ℕ) → Match (graph_of other) r images → image_of images j ≡ v → ⊥
