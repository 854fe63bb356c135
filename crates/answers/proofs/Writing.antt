-- What the replies of writing a listing mean, and what it leaves. Theorems from the contract of lg_write_listing alone.
-- Assumes nothing.
use mathlib.Core.Path.{◌≡◌, refl, sym, ap, ◌∙◌}
use mathlib.Core.Bool.{true, false}
use mathlib.Core.List.{List, [], ◌∷◌, ◌++◌}
use mathlib.Core.Logic.{⊎_elim}
use Prim.Native.Nat.{ℕ, ◌<◌, ◌≤◌}
use native.Mathlib.Omega.{arith}
use borrow.Author.Tests.{leb-true, leb-false}
use lib.Dec.{leb}
use lib.ListN.{length, drop}
use Rattle.definitions.specs.declared.Refusal.{Refusal}
use Rattle.std.specs.Prelude.{Ok, Err}
use Rattle.definitions.specs.Lists.{member}
use Rattle.definitions.specs.Reply.{short_text, refused, number_of, index_of, value_beside, packed, number_in, place_in, value_in}
use Rattle.definitions.specs.Graph.{graph_of, graph_reply, SoundGraph}
use Rattle.definitions.specs.Listing.{sheet_of, listing, write_reply, write_text}
use Rattle.laws.proofs.Lists.{decided, true_not_false}
use Rattle.laws.proofs.Members.{member-left}
use Rattle.laws.proofs.Reply.{number-packed, place-packed, value-packed, where_done_lem, where_refused}
use Rattle.graph_check.proofs.Sound.{every_sound}
use Rattle.listing.proofs.Graphs.{listing-fits}
use Rattle.listing.proofs.Sizes.{listing-short}
use Rattle.answers.specs.Statements.{Says, graph_numbers, write_numbers, Wrote, GraphVerdict, WriteReplies}
use Rattle.answers.proofs.Blocks.{graph_verdict, read-refused}
use Rattle.answers.proofs.GraphFirst.{sound_or_not, refused_why, GraphFirst, wrong, right, wrong_graph_lem, graph_fault_lem}

module _ (graph text : List ℕ) (reply : ℕ) (text_after : List ℕ) (contract : Wrote graph text reply text_after) where
  abbrev words : List ℕ
  words = listing (graph_of graph)

  -- the listing of a sound graph is short enough for a value
  short-words : SoundGraph graph → length words < 65536
  unfolding listing
  short-words sound = listing-short (sheet_of (graph_of graph)) (listing-fits graph sound contract.lent_graph)

  -- ---- which reply

  -- the graph's faults come first, then the text's length
  data Answer : Type 0 where
    wrong_graph : (SoundGraph graph → ⊥) → write_reply graph text ≡ graph_reply graph → Answer
    too_short : SoundGraph graph → length text < length words → write_reply graph text ≡ refused short_text → Answer
    accepted : SoundGraph graph → length words ≤ length text → write_reply graph text ≡ Ok (length words) → Answer

  answer : Answer
  unfolding write_reply
  answer = ⊎_elim
      (λ (sound : SoundGraph graph).
      ⊎_elim
      (λ (t : leb (length words) (length text) ≡ true).
      accepted sound (leb-true (length words) (length text) t) (rw (every_sound graph sound, write_reply) (rw t)))
      (λ (f : leb (length words) (length text) ≡ false).
      too_short sound (leb-false (length words) (length text) f) (rw (every_sound graph sound, write_reply) (rw f)))
      (decided (leb (length words) (length text))))
      (λ (unsound : SoundGraph graph → ⊥).
      let why = refused_why graph unsound in
      wrong_graph unsound (rw (why.1, write_reply)))
      (sound_or_not graph)

  -- done, with the listing's length
  record Written : Type 0 where
    number : number_in reply ≡ 0
    place : place_in reply ≡ 0
    value : value_in reply ≡ length words

  says_done : write_reply graph text ≡ Ok (length words) → Written
  unfolding number_of index_of value_beside
  says_done e =
      let whole : reply ≡ packed (Ok (length words)) = contract.replied ∙ ap packed e in
      record {
        number = ap number_in whole ∙ number-packed (Ok (length words)) (omega arith);
        place = ap place_in whole ∙ place-packed (Ok (length words)) (omega arith) (omega arith);
        value = ap value_in whole ∙ value-packed (Ok (length words)) (omega arith) (omega arith);
      }

  says_short : write_reply graph text ≡ refused short_text → Says reply short_text 0
  says_short e = read-refused reply (record { number = omega arith; place = omega arith }) (contract.replied ∙ ap packed e)

  says_graph : write_reply graph text ≡ graph_reply graph → GraphVerdict graph reply
  says_graph e = graph_verdict graph reply (contract.replied ∙ ap packed e)

  -- 0 and 43 are no faults of a graph
  about_graph : Answer → GraphFirst graph reply
  unfolding member
  about_graph (wrong_graph unsound e) = wrong unsound (says_graph e)
  about_graph (too_short sound less e) = right sound (rw (says_short e).number)
  about_graph (accepted sound fits e) = right sound (rw (says_done e).number)

  -- ---- each case of the reply, and no other

  by-done : Answer → number_in reply ≡ 0 → SoundGraph graph × (length words ≤ length text)
  by-done (wrong_graph unsound e) h = absurd (unsound ((says_graph e).done.0 h))
  by-done (too_short sound less e) h = absurd (omega (arith, (says_short e).number))
  by-done (accepted sound fits e) h = (sound, fits)

  to-done : Answer → SoundGraph graph × (length words ≤ length text) → number_in reply ≡ 0
  to-done (wrong_graph unsound e) h = absurd (unsound h.0)
  to-done (too_short sound less e) h = absurd (omega arith)
  to-done (accepted sound fits e) h = (says_done e).number

  by-short : Answer → number_in reply ≡ short_text → SoundGraph graph × (length text < length words)
  unfolding member
  by-short (wrong_graph unsound e) h = absurd (true_not_false (rw h at (says_graph e).either) refl)
  by-short (too_short sound less e) h = (sound, less)
  by-short (accepted sound fits e) h = absurd (omega (arith, (says_done e).number))

  to-short : Answer → SoundGraph graph × (length text < length words) → number_in reply ≡ short_text
  to-short (wrong_graph unsound e) h = absurd (unsound h.0)
  to-short (too_short sound less e) h = (says_short e).number
  to-short (accepted sound fits e) h = absurd (omega arith)

  by_number : Answer → member (number_in reply) write_numbers ≡ true
  unfolding member
  by_number (wrong_graph unsound e) = member-left (number_in reply) (0 ∷ graph_numbers) (short_text ∷ []) (says_graph e).either
  by_number (too_short sound less e) = rw (says_short e).number
  by_number (accepted sound fits e) = rw (says_done e).number

  by-plain : Answer → member (number_in reply) graph_numbers ≡ false → place_in reply ≡ 0
  by-plain (wrong_graph unsound e) f = absurd (true_not_false ((says_graph e).refused.1 unsound) f)
  by-plain (too_short sound less e) f = (says_short e).place
  by-plain (accepted sound fits e) f = (says_done e).place

  by_size : Answer → number_in reply ≡ 0 → value_in reply ≡ length words
  by_size (wrong_graph unsound e) h = absurd (unsound ((says_graph e).done.0 h))
  by_size (too_short sound less e) h = absurd (omega (arith, (says_short e).number))
  by_size (accepted sound fits e) h = (says_done e).value

  by_value : Answer → (number_in reply ≡ 0 → ⊥) → value_in reply ≡ 0
  by_value (wrong_graph unsound e) h = (says_graph e).value
  by_value (too_short sound less e) h = (says_short e).value
  by_value (accepted sound fits e) h = absurd (h (says_done e).number)

  by-limit : Answer → value_in reply < 65536
  by-limit (wrong_graph unsound e) = omega (arith, (says_graph e).value)
  by-limit (too_short sound less e) = omega (arith, (says_short e).value)
  by-limit (accepted sound fits e) = omega (arith, (says_done e).value, short-words sound)

  -- ---- what stands in the text

  by-text : Answer → number_in reply ≡ 0 → text_after ≡ words ++ drop (value_in reply) text
  unfolding write_text
  by-text (wrong_graph unsound e) h = absurd (unsound ((says_graph e).done.0 h))
  by-text (too_short sound less e) h = absurd (omega (arith, (says_short e).number))
  by-text (accepted sound fits e) h =
      contract.left ∙ where_done_lem (words ++ drop (length words) text) text e
      ∙ ap (λ (n : ℕ). words ++ drop n text) (sym (says_done e).value)

  -- a refusal keeps the text
  kept : {why : Refusal} → write_reply graph text ≡ Err why → text_after ≡ text
  unfolding write_text
  kept e = contract.left ∙ where_refused (words ++ drop (length words) text) text e

  by-refusal : Answer → (number_in reply ≡ 0 → ⊥) → text_after ≡ text
  by-refusal (wrong_graph unsound e) h = kept (e ∙ (refused_why graph unsound).1)
  by-refusal (too_short sound less e) h = kept e
  by-refusal (accepted sound fits e) h = absurd (h (says_done e).number)

  pub write_replies : WriteReplies graph text reply text_after
  write_replies = record {
    done = (by-done answer, to-done answer);
    wrong_graph = wrong_graph_lem graph reply (about_graph answer);
    graph_fault = graph_fault_lem graph reply (about_graph answer);
    short = (by-short answer, to-short answer);
    listed = by_number answer;
    plain = by-plain answer;
    size = by_size answer;
    size_limit = by-limit answer;
    refusal_value = by_value answer;
    written = by-text answer;
    refusal_keeps = by-refusal answer;
  }
