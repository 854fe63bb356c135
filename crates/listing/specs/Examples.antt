-- Examples of request 7/13: texts that are listings, with the graph that each says, and texts that are none, with the place at which each
-- stops. The first listing is the paper's.
-- Assumes nothing.
use Rattle.std.specs.Prelude.{◌≡◌, List, [], ◌∷◌, ℕ}
use Prim.Native.Char.{code}
use Prim.Native.String.{String, [] as []ˢ, ◌∷◌ as ◌∷ˢ◌}
use Rattle.definitions.specs.Operators.{kind_const, kind_variable, kind_call}
use Rattle.definitions.specs.Graph.{Slot, Graph, empty_slot}
use Rattle.definitions.specs.Sheet.{Sheet, SheetFits, printed}
use Rattle.definitions.specs.Listing.{listing, graph_in, Stops}

-- the bytes of a text of ASCII characters
unfoldable pub bytes_of : String → List ℕ
bytes_of []ˢ = []
bytes_of (c ∷ˢ text) = code c ∷ bytes_of text

-- ---- listings

-- what is written of the graph is this text, and what is read of the text is this graph
pub record Stands (text : String) (g : Graph) : Type 0 where
  pub written : listing g ≡ bytes_of text
  pub sheet : Sheet
  pub fits : SheetFits sheet
  pub read : printed sheet ≡ bytes_of text
  pub graph : graph_in sheet ≡ g

unfoldable pub slot : ℕ → ℕ → List ℕ → List ℕ → Slot
slot kind operator inputs attributes = record { kind = kind; operator = operator; inputs = inputs; attributes = attributes }

abbrev pub paper_text : String
paper_text = "graph 3\n0 variable [] {1 3 8 8 1}\n1 call 7 [0] {}\nout 1\n"

-- "the last slot Empty"
unfoldable pub paper_graph : Graph
unfolding slot
paper_graph = record {
  slots = slot kind_variable 0 [] (1 ∷ 3 ∷ 8 ∷ 8 ∷ 1 ∷ []) ∷ slot kind_call 7 (0 ∷ []) [] ∷ empty_slot ∷ [];
  outputs = 1 ∷ [];
}

-- no slot has a line
abbrev pub empty_text : String
empty_text = "graph 1\nout 0\n"

unfoldable pub empty_graph : Graph
empty_graph = record { slots = empty_slot ∷ []; outputs = 0 ∷ [] }

-- the least and the greatest attribute, as words, and the greatest output
abbrev pub far_text : String
far_text = "graph 3\n0 const [] {-2147483648}\n2 const [] {2147483647}\nout 65535 2\n"

unfoldable pub far_graph : Graph
unfolding slot
far_graph = record {
  slots = slot kind_const 0 [] (2147483648 ∷ []) ∷ empty_slot ∷ slot kind_const 0 [] (2147483647 ∷ []) ∷ [];
  outputs = 65535 ∷ 2 ∷ [];
}

-- ---- texts that are none

-- a text, and its place of 44
pub data Place : Type 0 where
  stops : String → ℕ → Place

abbrev pub AllStop : List Place → Type 0
AllStop [] = Unit {0}
AllStop (stops text at ∷ places) = Stops (bytes_of text) at × AllStop places

unfoldable pub places : List Place
places =
    -- a text that ends early: at its length
    stops "" 0
    ∷ stops "gra" 3
    ∷ stops "graph 1\nout" 11
    ∷ stops "graph 1\nout 0" 13
    -- more behind a listing: at the first byte behind it
    ∷ stops "graph 1\nout 0\n\n" 14
    -- single spaces, and lines that end in byte 10
    ∷ stops "graph  1" 6
    ∷ stops "graph 1\r\n" 7
    -- inside a number: at the first digit with which no fitting number goes on
    ∷ stops "graph 0" 6
    ∷ stops "graph 513" 8
    ∷ stops "graph 1\nout 65536" 16
    ∷ stops "graph 9\n8 call 15" 16
    ∷ stops "graph 9\n0 const [] {2147483648" 29
    ∷ stops "graph 9\n0 const [] {-2147483649" 30
    -- a leading zero and a minus before zero: at the second byte; a minus where no number is below 0: at the minus
    ∷ stops "graph 9\n00" 9
    ∷ stops "graph 9\n0 const [] {-0" 21
    ∷ stops "graph 9\nout -" 12
    -- a whole number that does not fit, though a longer one would: at the byte behind it
    ∷ stops "graph 12\n5 const [] {7}\n1 " 25
    -- slots ascend below N, and behind slot N - 1 only `out` follows
    ∷ stops "graph 12\n5 const [] {7}\n5" 24
    ∷ stops "graph 12\n5 const [] {7}\n12" 25
    ∷ stops "graph 12\n11 const [] {7}\n1" 25
    -- no word is Empty's, and only a call has an operator
    ∷ stops "graph 9\n0 empty" 10
    ∷ stops "graph 9\n0 const 7" 16
    -- the counts follow the tables
    ∷ stops "graph 2\n1 call 7 [0 1" 19
    ∷ stops "graph 2\n1 call 1 [0]" 19
    ∷ stops "graph 2\n1 tuple []" 17
    ∷ stops "graph 1\nout\n" 11
    ∷ stops "graph 1\nout 0 0 0 0 0" 19
    ∷ []
