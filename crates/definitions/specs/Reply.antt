-- 'Reply numbers': the numbers, and what an answer stands for as the one number that the C side gets.
-- Assumes nothing.
use Rattle.std.specs.Prelude.{List, [], ◌∷◌, Bool, cond, ℕ, ◌+◌, ◌*◌, ◌/◌, ◌%◌, ◌^◌, ltb, Result, Ok, Err}
use Rattle.std.proofs.Math.Option.{Option, none, some}
use Rattle.definitions.specs.declared.Refusal.{Refusal}

-- the answer of an operation: done, with a value where a request names one, or a refusal
abbrev pub Reply : Type 0
Reply = Result ℕ Refusal

abbrev pub bad_map_length : ℕ
bad_map_length = 1

-- what is wrong with a graph block: length or header; a record against its kind; an input or output that names no vertex; a cycle; a wrong
-- count
abbrev pub bad_graph_header : ℕ
bad_graph_header = 20

abbrev pub bad_graph_record : ℕ
bad_graph_record = 21

abbrev pub bad_graph_name : ℕ
bad_graph_name = 22

abbrev pub graph_has_cycle : ℕ
graph_has_cycle = 23

abbrev pub bad_graph_count : ℕ
bad_graph_count = 24

-- what is wrong with a rule block: length or header; a record, with its input places; visiting order; outputs and connection; an
-- expression
abbrev pub bad_rule_header : ℕ
bad_rule_header = 30

abbrev pub bad_rule_record : ℕ
bad_rule_record = 31

abbrev pub bad_rule_order : ℕ
bad_rule_order = 32

abbrev pub bad_rule_outputs : ℕ
bad_rule_outputs = 33

abbrev pub bad_rule_expression : ℕ
bad_rule_expression = 34

-- a fixed rule of a variadic rule is not sound
abbrev pub bad_expansion : ℕ
bad_expansion = 35

abbrev pub no_match : ℕ
no_match = 4

abbrev pub no_result : ℕ
no_result = 5

abbrev pub no_room : ℕ
no_room = 6

abbrev pub new_cycle : ℕ
new_cycle = 7

abbrev pub bad_moves_length : ℕ
bad_moves_length = 40

abbrev pub not_amatch : ℕ
not_amatch = 41

abbrev pub no_such_vertex : ℕ
no_such_vertex = 42

-- the text buffer is shorter than the listing; the text is no listing; its graph is not sound; the graph buffer is not as long as that
-- graph's block
abbrev pub short_text : ℕ
short_text = 43

abbrev pub bad_listing : ℕ
bad_listing = 44

abbrev pub unsound_listing : ℕ
unsound_listing = 45

abbrev pub bad_graph_length : ℕ
bad_graph_length = 46

-- done, without a value
abbrev pub done : Reply
done = Ok 0

-- done, with the answer to a question: value 1 is yes, and 0 is no
unfoldable pub answered : Bool → Reply
answered holds = Ok (cond holds 1 0)

-- no request names a value beside the place yet
unfoldable pub refusal_at : ℕ → ℕ → Refusal
refusal_at number index = record { number = number; place = record { index = index; value = 0 } }

abbrev pub refused_at : ℕ → ℕ → Reply
refused_at number index = Err (refusal_at number index)

-- "wherever no request names a place, 0"
abbrev pub refusal : ℕ → Refusal
refusal number = refusal_at number 0

abbrev pub refused : ℕ → Reply
refused number = refused_at number 0

-- the paper's number for each case, the place, and the value of done or beside the place
unfoldable pub number_of : Reply → ℕ
number_of (Ok value) = 0
number_of (Err why) = why.number

unfoldable pub index_of : Reply → ℕ
index_of (Ok value) = 0
index_of (Err why) = why.place.index

unfoldable pub value_beside : Reply → ℕ
value_beside (Ok value) = value
value_beside (Err why) = why.place.value

-- a value is below this
abbrev pub value_limit : ℕ
value_limit = 2 ^ 24

-- what the C side gets: the number in bits 0 to 7, the place in bits 8 to 39, the value in bits 40 to 63
unfoldable pub packed : Reply → ℕ
packed reply = number_of reply + 2 ^ 8 * index_of reply + 2 ^ 40 * value_beside reply

-- and how it reads them
unfoldable pub number_in : ℕ → ℕ
number_in word = word % 2 ^ 8

unfoldable pub place_in : ℕ → ℕ
place_in word = word / 2 ^ 8 % 2 ^ 32

unfoldable pub value_in : ℕ → ℕ
value_in word = word / 2 ^ 40

-- A block's faults are listed by kind, in document 01's order. Each kind has its number, and the lowest place with that fault, or none
-- where no place has it.
pub data Fault : Type 0 where
  fault : ℕ → Option ℕ → Fault

-- a fault for which no request names a place: it counts as at 0
unfoldable pub flag : Bool → Option ℕ
flag holds = cond holds (some 0) none

-- what a search for the lowest place below n found: a place below n, or n for none
unfoldable pub place : ℕ → ℕ → Option ℕ
place n found = cond (ltb found n) (some found) none

-- The reply for a list of faults: "the first kind that holds anywhere is given", with its place.
unfoldable pub judged : List Fault → Reply
judged [] = done
judged (fault number none ∷ faults) = judged faults
judged (fault number (some at) ∷ faults) = refused_at number at

-- the first refusal of a list of replies, or done
unfoldable pub first_refusal : List Reply → Reply
first_refusal [] = done
first_refusal (Ok value ∷ replies) = first_refusal replies
first_refusal (Err why ∷ replies) = Err why

-- what a lent block holds at the return: `after` where the reply is done; a refusal leaves it as it came
unfoldable pub where_done : Reply → List ℕ → List ℕ → List ℕ
where_done (Ok value) after before = after
where_done (Err why) after before = before
