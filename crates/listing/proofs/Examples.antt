-- The examples hold of the definitions: the form of a listing computes each, and what it computes is proved to be what the definitions say.
-- Assumes nothing.
use mathlib.Core.Path.{◌≡◌, refl, subst}
use mathlib.Core.List.{List, [], ◌∷◌}
use Prim.Native.String.{String}
use Rattle.definitions.specs.Lists.{tabulate, filter, range, concat_map}
use Rattle.definitions.specs.Fields.{signed, word_of}
use Rattle.definitions.specs.Operators.{counts_of, operators, row_of, kinds}
use Rattle.definitions.specs.Graph.{Graph, empty_slot, slot_of, is_vertex}
use Rattle.definitions.specs.Numerals.{digits, numeral, in_field}
use Rattle.definitions.specs.Sheet.{words, word, spaced, joined, operator_text, line_text, opening, out_word, printed}
use Rattle.definitions.specs.Listing.{line_of, sheet_of, listing, slot_line, slot_in, graph_in}
use Rattle.listing.specs.Typing.{valued, is_digit, is_numeric, pressed, whole, reaches, goes_on, low_of, high_of, can_go_on}
use Rattle.listing.specs.Forms.{typed_on, typed_off, step, value_of, stops_at, comes_to, answer_from}
use Rattle.listing.specs.Grammar.{magnitude, least_inputs, most_inputs, attribute_count, literal, spaced_form, joined_form, word_form, attributes_form, lists_form, operator_form, line_form, lines_form, outputs_form, sheet_form}
use Rattle.listing.specs.Examples.{bytes_of, Stands, slot, paper_text, paper_graph, empty_text, empty_graph, far_text, far_graph, Place, stops, AllStop, places}
use Rattle.listing.proofs.Listings.{Means, read_means}

-- ---- listings

-- what the form reads of the text of a graph's listing is that graph's sheet
record Computes (text : String) (g : Graph) : Type 0 where
  written : listing g ≡ bytes_of text
  read : answer_from sheet_form 0 (bytes_of text) ≡ comes_to (sheet_of g)
  graph : graph_in (sheet_of g) ≡ g

stands : {text : String} {g : Graph} → Computes text g → Stands text g
unfolding Means
stands {text} {g} c =
    let (fits, same) = subst (Means (bytes_of text)) c.read (read_means (bytes_of text)) in
    record { written = c.written; sheet = sheet_of g; fits = fits; read = same; graph = c.graph }

computed : Computes paper_text paper_graph × Computes empty_text empty_graph × Computes far_text far_graph
unfolding bytes_of slot paper_graph empty_graph far_graph tabulate filter range concat_map signed word_of counts_of operators row_of kinds empty_slot slot_of is_vertex digits numeral in_field words word spaced joined operator_text line_text opening out_word printed line_of sheet_of listing slot_line slot_in graph_in valued is_digit is_numeric pressed whole reaches goes_on low_of high_of can_go_on typed_on typed_off step value_of answer_from magnitude least_inputs most_inputs attribute_count literal spaced_form joined_form word_form attributes_form lists_form operator_form line_form lines_form outputs_form sheet_form
computed = (
  record { written = refl; read = refl; graph = refl },
  record { written = refl; read = refl; graph = refl },
  record { written = refl; read = refl; graph = refl },
)

pub paper_stands : Stands paper_text paper_graph
paper_stands = stands computed.0

pub empty_stands : Stands empty_text empty_graph
empty_stands = stands computed.1

pub far_stands : Stands far_text far_graph
far_stands = stands computed.2

-- ---- texts that are none

abbrev AllStopped : List Place → Type 0
AllStopped [] = Unit {0}
AllStopped (stops text at ∷ rest) = (answer_from sheet_form 0 (bytes_of text) ≡ stops_at at) × AllStopped rest

all_stop : (rest : List Place) → AllStopped rest → AllStop rest
unfolding Means
all_stop [] answers = tt
all_stop (stops text at ∷ rest) (answer, answers) =
    (subst (Means (bytes_of text)) answer (read_means (bytes_of text)), all_stop rest answers)

stopped : AllStopped places
unfolding bytes_of places counts_of operators row_of kinds in_field opening valued is_digit is_numeric pressed whole reaches goes_on low_of high_of can_go_on typed_on typed_off step value_of answer_from magnitude least_inputs most_inputs attribute_count literal spaced_form joined_form word_form attributes_form lists_form operator_form line_form lines_form outputs_form sheet_form
stopped = (refl, (refl, (refl, (refl, (refl, (refl, (refl, (refl, (refl, (refl, (refl, (refl, (refl, (refl, (refl, (refl, (refl, (refl, (refl, (refl, (refl, (refl, (refl, (refl, (refl, (refl, (refl, tt)))))))))))))))))))))))))))

pub places_stop : AllStop places
places_stop = all_stop places stopped
