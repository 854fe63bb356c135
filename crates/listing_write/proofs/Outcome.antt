-- What writing answers, and what it leaves in the text. The value that it tells is the length of a listing, which is below 65536.
-- Assumes nothing.
use mathlib.Core.Path.{◌≡◌, refl, sym, ap, ◌∙◌}
use mathlib.Core.Bool.{true, false, cond}
use mathlib.Core.List.{List, ◌++◌, append-nil}
use mathlib.Core.Logic.{⊎_elim}
use Prim.Native.Nat.{ℕ, ◌≤◌, ◌<◌}
use native.Mathlib.Nat.{zero-add}
use native.Mathlib.Omega.{arith}
use borrow.Author.Tests.{le-leb, lt-leb, leb-true, leb-false}
use lib.Dec.{leb}
use lib.ListN.{length, drop, drop_of_length-le}
use Rattle.definitions.specs.declared.Refusal.{Refusal}
use Rattle.std.specs.Prelude.{Ok, Err}
use Rattle.definitions.specs.Fields.{Bytes}
use Rattle.definitions.specs.Reply.{Reply, short_text, refused, value_beside}
use Rattle.definitions.specs.Graph.{slot_limit, slot_count, graph_of, graph_reply, SoundGraph}
use Rattle.definitions.specs.Listing.{sheet_of, listing, write_reply, write_text}
use Rattle.laws.proofs.Lists.{decided, length_none}
use Rattle.laws.proofs.Reply.{done_plain, where_done_lem, where_refused, refused_valueless}
use Rattle.laws.proofs.Operations.{graph_valueless}
use Rattle.laws.proofs.Graph.{length-slots}
use Rattle.graph_check.proofs.Sound.{only_sound}
use Rattle.listing.proofs.Reach.{within_low}
use Rattle.listing.proofs.Sizes.{listing-short}
use Rattle.listing.proofs.Graphs.{listing-fits}
use Rattle.listing_print.specs.Laid.{laid, Laid}

abbrev pub text_of : List ℕ → List ℕ
text_of graph = listing (graph_of graph)

-- nothing comes before the text where an empty part of it is lent
pub part_none : (part text : List ℕ) → length part ≡ 0 → part ++ text ≡ text
part_none part text none = ap (λ (p : List ℕ). p ++ text) (length_none part none)

-- a piece that fits stands first, and behind it is what was there
pub laid-first : {piece part before : List ℕ} {end : ℕ} → length piece ≤ length before → Laid 0 piece before part end
    → part ≡ piece ++ drop (length piece) before
unfolding laid
laid-first {piece} {part} {before} fits h =
    h.held (omega arith) ∙ ap (λ (n : ℕ). piece ++ drop n before) (zero-add (length piece))

-- a piece that fills the part it is laid into is the part
pub laid_full : {piece part before : List ℕ} {end : ℕ} → length before ≡ length piece → Laid 0 piece before part end → part ≡ piece
laid_full {piece} {part} {before} full h =
    let past : length before ≤ length piece = omega arith in
    laid-first (omega arith) h ∙ ap (λ (rest : List ℕ). piece ++ rest) (drop_of_length-le before past) ∙ append-nil piece

module _ (graph : List ℕ) where
  -- a graph of which nothing is wrong is sound, and its listing is short
  pub graph-sound : {value : ℕ} → graph_reply graph ≡ Ok value → SoundGraph graph
  graph-sound told = only_sound graph (done_plain (graph_valueless graph) told)

  pub text-short : {value : ℕ} → Bytes graph → graph_reply graph ≡ Ok value → length (text_of graph) < 65536
  unfolding listing
  text-short bytes told = listing-short (sheet_of (graph_of graph)) (listing-fits graph (graph-sound told) bytes)

  -- what printing the listing asks for
  pub some_slot : {value : ℕ} → Bytes graph → graph_reply graph ≡ Ok value → 0 < slot_count graph
  unfolding sheet_of
  some_slot bytes told =
      let n = length (graph_of graph).slots in
      omega (arith, within_low 1 n slot_limit (listing-fits graph (graph-sound told) bytes).size, length-slots graph)

  module _ (text : List ℕ) where
    pub reply_refused : {why : Refusal} → graph_reply graph ≡ Err why → write_reply graph text ≡ Err why
    unfolding write_reply
    reply_refused told = rw (told, write_reply)

    checked : {value : ℕ} → graph_reply graph ≡ Ok value
        → write_reply graph text ≡ cond (leb (length (text_of graph)) (length text)) (Ok (length (text_of graph))) (refused short_text)
    unfolding write_reply
    checked told = rw (told, write_reply)

    pub reply_short : {value : ℕ} → graph_reply graph ≡ Ok value → length text < length (text_of graph) → write_reply graph text ≡ refused short_text
    reply_short told less = checked told ∙ simp (lt-leb (length (text_of graph)) (length text) less)

    pub reply_done : {value : ℕ} → graph_reply graph ≡ Ok value → length (text_of graph) ≤ length text
        → write_reply graph text ≡ Ok (length (text_of graph))
    reply_done told fits = checked told ∙ simp (le-leb (length (text_of graph)) (length text) fits)

    pub text-kept : {why : Refusal} → write_reply graph text ≡ Err why → text ≡ write_text graph text
    unfolding write_text
    text-kept told = sym (where_refused (text_of graph ++ drop (length (text_of graph)) text) text told)

    pub text-written : {value : ℕ} → write_reply graph text ≡ Ok value
        → text_of graph ++ drop (length (text_of graph)) text ≡ write_text graph text
    unfolding write_text
    text-written told = sym (where_done_lem (text_of graph ++ drop (length (text_of graph)) text) text told)

-- the value of every answer is below 65536
pub write_small : (graph text : List ℕ) → Bytes graph → value_beside (write_reply graph text) < 65536
unfolding value_beside
write_small graph text bytes = by (graph_reply graph) refl
  where
    by : (reply : Reply) → graph_reply graph ≡ reply → value_beside (write_reply graph text) < 65536
    by (Err why) told =
        let none : value_beside (write_reply graph text) ≡ 0 =
        ap value_beside (reply_refused graph text told ∙ sym told) ∙ graph_valueless graph in
        omega arith
    by (Ok value) told =
        ⊎_elim (λ (t : leb (length (text_of graph)) (length text) ≡ true).
        let e = ap value_beside (reply_done graph text told (leb-true (length (text_of graph)) (length text) t)) in
        omega (arith, text-short graph bytes told))
        (λ (f : leb (length (text_of graph)) (length text) ≡ false).
        let none : value_beside (write_reply graph text) ≡ 0 =
        ap value_beside (reply_short graph text told (leb-false (length (text_of graph)) (length text) f)) ∙ refused_valueless short_text 0 in
        omega arith)
        (decided (leb (length (text_of graph)) (length text)))
