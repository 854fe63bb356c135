-- What the replies of reading a listing mean, and what it leaves; and writing and reading back. Theorems from the contracts of
-- lg_write_listing and lg_read_listing alone.
-- Assumes nothing.
use mathlib.Core.Path.{◌≡◌, refl, sym, ap, ◌∙◌, subst}
use mathlib.Core.Bool.{true, false}
use mathlib.Core.List.{List}
use mathlib.Core.Logic.{⊎_elim}
use Prim.Native.Nat.{ℕ, ◌^◌, ◌<◌}
use native.Mathlib.Omega.{arith}
use borrow.Author.Tests.{eqb-true, eqb-false, eq-eqb}
use lib.Dec.{eqb}
use lib.ListN.{length, take, drop}
use lib.Seq.{take_at}
use Rattle.definitions.specs.Lists.{member}
use Rattle.definitions.specs.Fields.{Bytes}
use Rattle.definitions.specs.Reply.{Reply, done, bad_listing, unsound_listing, bad_graph_length, refused_at, refused, packed, number_in, place_in, value_in, where_done}
use Rattle.definitions.specs.Graph.{graph_version, record_at, graph_of, true_count, graph_block, SoundGraph}
use Rattle.definitions.specs.Sheet.{Sheet}
use Rattle.definitions.specs.Listing.{sheet_of, listing, graph_in, Stops, sheet_reply, ReadListing, no_listing, some_listing}
use Rattle.laws.proofs.Lists.{decided}
use Rattle.laws.proofs.Reply.{where_done_lem, where_refused}
use Rattle.graph_check.proofs.Sound.{every_sound}
use Rattle.listing.proofs.Listings.{one_sheet, one_place, stops_or_ends}
use Rattle.listing.proofs.Graphs.{listing-fits, block_same, one_block}
use Rattle.listing.proofs.Sizes.{place_small}
use Rattle.listing.proofs.Blocks.{sheet-listing, sheet-length, block_size}
use Rattle.listing.proofs.Bytes.{sheet_bytes}
use Rattle.answers.specs.Statements.{Says, Wrote, ReadText, WriteReplies, Lists, SoundSheet, read_numbers, ReadGraph, ReadReplies, ReadsBack, WritesBack}
use Rattle.answers.proofs.Blocks.{read_done, read-refused}
use Rattle.answers.proofs.GraphFirst.{sound_or_not, refused_why}
use Rattle.answers.proofs.Writing.{write_replies}

-- ---- once the text is a listing

module _ (s : Sheet) (graph : List ℕ) where
  sheet_unsound : (SoundSheet s → ⊥) → sheet_reply s graph ≡ refused unsound_listing
  unfolding sheet_reply
  sheet_unsound unsound = rw ((refused_why (graph_block (graph_in s)) unsound).1, sheet_reply)

  sheet-size : SoundSheet s → (length graph ≡ record_at s.size → ⊥) → sheet_reply s graph ≡ refused bad_graph_length
  unfolding sheet_reply
  sheet-size sound other =
      ⊎_elim (λ (t : eqb (length graph) (record_at s.size) ≡ true). absurd (other (eqb-true (length graph) (record_at s.size) t)))
      (λ (f : eqb (length graph) (record_at s.size) ≡ false). rw (every_sound (graph_block (graph_in s)) sound, sheet_reply) (rw f))
      (decided (eqb (length graph) (record_at s.size)))

  sheet-done : SoundSheet s → length graph ≡ record_at s.size → sheet_reply s graph ≡ done
  unfolding sheet_reply
  sheet-done sound size =
      rw (every_sound (graph_block (graph_in s)) sound, sheet_reply) (rw (eq-eqb (length graph) (record_at s.size) size))

-- two sheets of one text
same_sheet : {text : List ℕ} {s t : Sheet} → Lists text s → Lists text t → s ≡ t
same_sheet {text} {s} {t} one other = one_sheet s t one.fits other.fits (one.same ∙ sym other.same)

-- ---- a text that is the listing of a sound block

module _ {text : List ℕ} (block : List ℕ) (sound : SoundGraph block) (bytes : Bytes block) (same : listing (graph_of block) ≡ text) where
  block-lists : Lists text (sheet_of (graph_of block))
  unfolding listing
  block-lists = record { fits = listing-fits block sound bytes; same = same }

  -- any sheet of it has that block
  its_block : {s : Sheet} → Lists text s → graph_block (graph_in s) ≡ block
  its_block lists = ap (λ (t : Sheet). graph_block (graph_in t)) (same_sheet lists block-lists) ∙ block_same block sound bytes

  its_size : {s : Sheet} → Lists text s → length block ≡ record_at s.size
  its_size lists = block_size block sound ∙ ap (λ (t : Sheet). record_at t.size) (same_sheet block-lists lists)

module _ (text graph : List ℕ) (reply : ℕ) (graph_after : List ℕ) (contract : ReadText text graph reply graph_after) where
  -- ---- which reply

  -- 44, 45, 46 or done, with what stands in the graph
  data Answer : Type 0 where
    stopped : (p : ℕ) → Stops text p → Says reply bad_listing p → graph_after ≡ graph → Answer
    wrong_graph : (s : Sheet) → Lists text s → (SoundSheet s → ⊥) → Says reply unsound_listing 0 → graph_after ≡ graph → Answer
    wrong_size : (s : Sheet) → Lists text s → SoundSheet s → (length graph ≡ record_at s.size → ⊥) → Says reply bad_graph_length 0
        → graph_after ≡ graph → Answer
    accepted : (s : Sheet) → Lists text s → SoundSheet s → length graph ≡ record_at s.size → Says reply 0 0
        → graph_after ≡ graph_block (graph_in s) → Answer

  says_refused : {n p : ℕ} → n < 2 ^ 8 → p < 2 ^ 32 → contract.answer ≡ refused_at n p → Says reply n p
  says_refused number place e = read-refused reply (record { number = number; place = place }) (contract.replied ∙ ap packed e)

  of_sheet : (s : Sheet) → Lists text s → contract.answer ≡ sheet_reply s graph
      → graph_after ≡ where_done (sheet_reply s graph) (graph_block (graph_in s)) graph → Answer
  of_sheet s lists e left =
      ⊎_elim
      (λ (sound : SoundSheet s).
      ⊎_elim
      (λ (t : eqb (length graph) (record_at s.size) ≡ true).
      let size = eqb-true (length graph) (record_at s.size) t in
      let told = sheet-done s graph sound size in
      accepted s lists sound size (read_done reply (contract.replied ∙ ap packed (e ∙ told)))
      (left ∙ where_done_lem (graph_block (graph_in s)) graph told))
      (λ (f : eqb (length graph) (record_at s.size) ≡ false).
      let other = eqb-false (length graph) (record_at s.size) f in
      let told = sheet-size s graph sound other in
      wrong_size s lists sound other (says_refused (omega arith) (omega arith) (e ∙ told)) (left ∙ where_refused (graph_block (graph_in s)) graph told))
      (decided (eqb (length graph) (record_at s.size))))
      (λ (unsound : SoundSheet s → ⊥).
      let told = sheet_unsound s graph unsound in
      wrong_graph s lists unsound (says_refused (omega arith) (omega arith) (e ∙ told)) (left ∙ where_refused (graph_block (graph_in s)) graph told))
      (sound_or_not (graph_block (graph_in s)))

  answer : Answer
  answer = by contract.read refl refl
    where
      by : {told : Reply} {after : List ℕ} → ReadListing text graph told after → contract.answer ≡ told → graph_after ≡ after → Answer
      by (no_listing {at = p} stops) e left = stopped p stops (says_refused (omega arith) (omega (arith, place_small stops)) e) left
      by (some_listing s fits same) e left = of_sheet s (record { fits = fits; same = same }) e left

  -- ---- each case of the reply, and no other

  by_stops : Answer → (p : ℕ) → Says reply bad_listing p → Stops text p
  by_stops (stopped q stops says left) p h = subst (Stops text) (sym says.place ∙ h.place) stops
  by_stops (wrong_graph s lists unsound says left) p h = absurd (omega (arith, says.number, h.number))
  by_stops (wrong_size s lists sound other says left) p h = absurd (omega (arith, says.number, h.number))
  by_stops (accepted s lists sound size says left) p h = absurd (omega (arith, says.number, h.number))

  to_stops : Answer → (p : ℕ) → Stops text p → Says reply bad_listing p
  to_stops (stopped q stops says left) p h = subst (Says reply bad_listing) (one_place stops h) says
  to_stops (wrong_graph s lists unsound says left) p h = absurd (stops_or_ends h s lists.fits lists.same)
  to_stops (wrong_size s lists sound other says left) p h = absurd (stops_or_ends h s lists.fits lists.same)
  to_stops (accepted s lists sound size says left) p h = absurd (stops_or_ends h s lists.fits lists.same)

  by_none : Answer → number_in reply ≡ bad_listing → (s : Sheet) → Lists text s → ⊥
  by_none (stopped q stops says left) h = λ s lists. stops_or_ends stops s lists.fits lists.same
  by_none (wrong_graph s lists unsound says left) h = absurd (omega (arith, says.number))
  by_none (wrong_size s lists sound other says left) h = absurd (omega (arith, says.number))
  by_none (accepted s lists sound size says left) h = absurd (omega (arith, says.number))

  to_none : Answer → ((s : Sheet) → Lists text s → ⊥) → number_in reply ≡ bad_listing
  to_none (stopped q stops says left) h = says.number
  to_none (wrong_graph s lists unsound says left) h = absurd (h s lists)
  to_none (wrong_size s lists sound other says left) h = absurd (h s lists)
  to_none (accepted s lists sound size says left) h = absurd (h s lists)

  by_unsound : Answer → number_in reply ≡ unsound_listing → (s : Sheet) × Lists text s × (SoundSheet s → ⊥)
  by_unsound (stopped q stops says left) h = absurd (omega (arith, says.number))
  by_unsound (wrong_graph s lists unsound says left) h = (s, lists, unsound)
  by_unsound (wrong_size s lists sound other says left) h = absurd (omega (arith, says.number))
  by_unsound (accepted s lists sound size says left) h = absurd (omega (arith, says.number))

  to_unsound : Answer → (s : Sheet) × Lists text s × (SoundSheet s → ⊥) → number_in reply ≡ unsound_listing
  to_unsound (stopped q stops says left) (t, l, h) = absurd (stops_or_ends stops t l.fits l.same)
  to_unsound (wrong_graph s lists unsound says left) (t, l, h) = says.number
  to_unsound (wrong_size s lists sound other says left) (t, l, h) = absurd (h (subst SoundSheet (same_sheet lists l) sound))
  to_unsound (accepted s lists sound size says left) (t, l, h) = absurd (h (subst SoundSheet (same_sheet lists l) sound))

  by_size : Answer → number_in reply ≡ bad_graph_length
      → (s : Sheet) × Lists text s × SoundSheet s × (length graph ≡ record_at s.size → ⊥)
  by_size (stopped q stops says left) h = absurd (omega (arith, says.number))
  by_size (wrong_graph s lists unsound says left) h = absurd (omega (arith, says.number))
  by_size (wrong_size s lists sound other says left) h = (s, lists, sound, other)
  by_size (accepted s lists sound size says left) h = absurd (omega (arith, says.number))

  to-size : Answer → (s : Sheet) × Lists text s × SoundSheet s × (length graph ≡ record_at s.size → ⊥)
      → number_in reply ≡ bad_graph_length
  to-size (stopped q stops says left) (t, l, h, g) = absurd (stops_or_ends stops t l.fits l.same)
  to-size (wrong_graph s lists unsound says left) (t, l, h, g) = absurd (unsound (subst SoundSheet (same_sheet l lists) h))
  to-size (wrong_size s lists sound other says left) (t, l, h, g) = says.number
  to-size (accepted s lists sound size says left) (t, l, h, g) =
      absurd (g (subst (λ (u : Sheet). length graph ≡ record_at u.size) (same_sheet lists l) size))

  -- the text is the listing of a sound block, and the lent graph is as long
  abbrev Accepted : Type 0
  Accepted = (block : List ℕ) × SoundGraph block × Bytes block × (listing (graph_of block) ≡ text) × (length graph ≡ length block)

  by-done : Answer → number_in reply ≡ 0 → Accepted
  by-done (stopped q stops says left) h = absurd (omega (arith, says.number))
  by-done (wrong_graph s lists unsound says left) h = absurd (omega (arith, says.number))
  by-done (wrong_size s lists sound other says left) h = absurd (omega (arith, says.number))
  by-done (accepted s lists sound size says left) h =
      let counts = true_count (graph_in s) in (
        graph_block (graph_in s),
        sound,
        sheet_bytes s lists.fits graph_version counts,
        sheet-listing s lists.fits graph_version counts ∙ lists.same,
        size ∙ sym (sheet-length s lists.fits graph_version counts),
      )

  to-done : Answer → Accepted → number_in reply ≡ 0
  to-done (stopped q stops says left) (block, sound, bytes, same, size) =
      let lists = block-lists block sound bytes same in
      absurd (stops_or_ends stops (sheet_of (graph_of block)) lists.fits lists.same)
  to-done (wrong_graph s lists unsound says left) (block, sound, bytes, same, size) =
      absurd (unsound (subst SoundGraph (sym (its_block block sound bytes same lists)) sound))
  to-done (wrong_size s lists so other says left) (block, sound, bytes, same, size) =
      absurd (other (size ∙ its_size block sound bytes same lists))
  to-done (accepted s lists so fits says left) (block, sound, bytes, same, size) = says.number

  by_number : Answer → member (number_in reply) read_numbers ≡ true
  unfolding member
  by_number (stopped q stops says left) = rw says.number
  by_number (wrong_graph s lists unsound says left) = rw says.number
  by_number (wrong_size s lists sound other says left) = rw says.number
  by_number (accepted s lists sound size says left) = rw says.number

  by-plain : Answer → (number_in reply ≡ bad_listing → ⊥) → place_in reply ≡ 0
  by-plain (stopped q stops says left) h = absurd (h says.number)
  by-plain (wrong_graph s lists unsound says left) h = says.place
  by-plain (wrong_size s lists sound other says left) h = says.place
  by-plain (accepted s lists sound size says left) h = says.place

  by-limit : Answer → place_in reply < 65536
  by-limit (stopped q stops says left) = omega (arith, says.place, place_small stops)
  by-limit (wrong_graph s lists unsound says left) = omega (arith, says.place)
  by-limit (wrong_size s lists sound other says left) = omega (arith, says.place)
  by-limit (accepted s lists sound size says left) = omega (arith, says.place)

  by_value : Answer → value_in reply ≡ 0
  by_value (stopped q stops says left) = says.value
  by_value (wrong_graph s lists unsound says left) = says.value
  by_value (wrong_size s lists sound other says left) = says.value
  by_value (accepted s lists sound size says left) = says.value

  -- ---- what stands in the graph

  by-graph : Answer → number_in reply ≡ 0 → ReadGraph text graph_after
  by-graph (stopped q stops says left) h = absurd (omega (arith, says.number))
  by-graph (wrong_graph s lists unsound says left) h = absurd (omega (arith, says.number))
  by-graph (wrong_size s lists sound other says left) h = absurd (omega (arith, says.number))
  by-graph (accepted s lists sound size says left) h =
      let counts = true_count (graph_in s) in
      subst (ReadGraph text) (sym left) (record {
        sound = sound;
        bytes = sheet_bytes s lists.fits graph_version counts;
        same = sheet-listing s lists.fits graph_version counts ∙ lists.same;
      })

  by_length : Answer → length graph_after ≡ length graph
  by_length (stopped q stops says left) = ap length left
  by_length (wrong_graph s lists unsound says left) = ap length left
  by_length (wrong_size s lists sound other says left) = ap length left
  by_length (accepted s lists sound size says left) =
      ap length left ∙ sheet-length s lists.fits graph_version (true_count (graph_in s)) ∙ sym size

  by-refusal : Answer → (number_in reply ≡ 0 → ⊥) → graph_after ≡ graph
  by-refusal (stopped q stops says left) h = left
  by-refusal (wrong_graph s lists unsound says left) h = left
  by-refusal (wrong_size s lists sound other says left) h = left
  by-refusal (accepted s lists sound size says left) h = absurd (h says.number)

  pub read_replies : ReadReplies text graph reply graph_after
  read_replies = record {
    stops = λ p. (by_stops answer p, to_stops answer p);
    no_listing = (by_none answer, to_none answer);
    unsound = (by_unsound answer, to_unsound answer);
    wrong_length = (by_size answer, to-size answer);
    done = (by-done answer, to-done answer);
    listed = by_number answer;
    plain = by-plain answer;
    place_limit = by-limit answer;
    value = by_value answer;
    reads = by-graph answer;
    size = by_length answer;
    refusal_keeps = by-refusal answer;
  }

  -- ---- writing what was read

  pub writes_back : number_in reply ≡ 0 → WritesBack text graph_after
  writes_back h buffer again buffer_after wrote long =
      let read = read_replies.reads h in
      let replies = write_replies graph_after buffer again buffer_after wrote in
      let size : length (listing (graph_of graph_after)) ≡ length text = ap length read.same in
      let number = replies.done.1 (read.sound, omega arith) in (
        number,
        replies.size number ∙ size,
        ap (take (length text)) (replies.written number)
            ∙ take_at (listing (graph_of graph_after)) (drop (value_in again) buffer) (length text) size ∙ read.same,
      )

-- ---- reading what was written

module _ (graph text : List ℕ) (reply : ℕ) (text_after : List ℕ) (contract : Wrote graph text reply text_after) where
  replies : WriteReplies graph text reply text_after
  replies = write_replies graph text reply text_after contract

  -- the bytes up to the length that writing gave are the listing
  written : number_in reply ≡ 0 → listing (graph_of graph) ≡ take (value_in reply) text_after
  written h =
      sym (ap (take (value_in reply)) (replies.written h)
      ∙ take_at (listing (graph_of graph)) (drop (value_in reply) text) (value_in reply) (sym (replies.size h)))

  pub reads_back : number_in reply ≡ 0 → ReadsBack graph reply text_after
  reads_back h buffer again buffer_after read long =
      let sound = (replies.done.0 h).0 in
      let second = read_replies (take (value_in reply) text_after) buffer again buffer_after read in
      let number = second.done.1 (graph, sound, contract.lent_graph, written h, long) in
      let after = second.reads number in
      (number, one_block buffer_after graph after.sound sound after.bytes contract.lent_graph (after.same ∙ sym (written h)))
