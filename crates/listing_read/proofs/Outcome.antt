-- The reply for a sheet, from what judging its block without counts gives, and the length of the lent graph.
-- Assumes nothing.
use mathlib.Core.Path.{◌≡◌, refl, sym, ap, ◌∙◌}
use mathlib.Core.List.{List}
use Prim.Native.Nat.{ℕ}
use borrow.Author.Tests.{eq-eqb, ne_eqb}
use lib.Dec.{eqb}
use lib.ListN.{length}
use Rattle.definitions.specs.declared.Refusal.{Refusal}
use Rattle.std.specs.Prelude.{Ok, Err}
use Rattle.definitions.specs.Reply.{Reply, bad_listing, unsound_listing, bad_graph_length, done, refused}
use Rattle.definitions.specs.Graph.{graph_version, record_at, graph_block, reply_as, graph_reply}
use Rattle.definitions.specs.Sheet.{Sheet}
use Rattle.definitions.specs.Listing.{graph_in, sheet_reply, ReadListing, no_listing, some_listing}
use Rattle.laws.proofs.Reply.{Valueless, refused_valueless, test_valueless, done_plain, done_refused}
use Rattle.laws.proofs.Operations.{as_valueless, graph_valueless}
use Rattle.listing.proofs.Blocks.{sheet-length}
use Rattle.listing_sound.proofs.Judged.{sheet-sound, sheet-fit}
use Rattle.listing_read.specs.Taken.{BlockOf}

module _ (s : Sheet) (block graph : List ℕ) (b : BlockOf s block) where
  long : length block ≡ record_at s.size
  long = ap length b.same ∙ sheet-length s b.fits graph_version (λ k. 0)

  -- the block is refused
  pub reply_unsound : (why : Refusal) → reply_as graph_version block ≡ Err why → sheet_reply s graph ≡ refused unsound_listing
  unfolding sheet_reply
  reply_unsound why e = by (graph_reply (graph_block (graph_in s))) refl
    where
      by : (answer : Reply) → graph_reply (graph_block (graph_in s)) ≡ answer → sheet_reply s graph ≡ refused unsound_listing
      by (Err other) judged = rw (judged, sheet_reply)
      by (Ok value) judged =
          let whole : reply_as graph_version block ≡ done =
          ap (reply_as graph_version) b.same ∙ sheet-fit s b.fits (λ k. 0) (done_plain (graph_valueless (graph_block (graph_in s))) judged) in
          absurd (done_refused (sym whole ∙ e))

  module _ (value : ℕ) (e : reply_as graph_version block ≡ Ok value) where
    pub sound : graph_reply (graph_block (graph_in s)) ≡ done
    sound =
        sheet-sound s b.fits (λ k. 0)
        (ap (reply_as graph_version) (sym b.same) ∙ done_plain (as_valueless graph_version block) e)

    pub reply_wrong_length : (length graph ≡ length block → ⊥) → sheet_reply s graph ≡ refused bad_graph_length
    unfolding sheet_reply
    reply_wrong_length other = rw (sound, sheet_reply, ne_eqb (length graph) (record_at s.size) (λ same. other (same ∙ sym long)))

    pub reply_done : length graph ≡ length block → sheet_reply s graph ≡ done
    unfolding sheet_reply
    reply_done same = rw (sound, sheet_reply, eq-eqb (length graph) (record_at s.size) (same ∙ long))

-- no answer has a value
sheet_valueless : (s : Sheet) (graph : List ℕ) → Valueless (sheet_reply s graph)
unfolding sheet_reply
sheet_valueless s graph = by (graph_reply (graph_block (graph_in s))) refl
  where
    by : (answer : Reply) → graph_reply (graph_block (graph_in s)) ≡ answer → Valueless (sheet_reply s graph)
    by (Err why) judged = rw (judged, sheet_reply) (refused_valueless unsound_listing 0)
    by (Ok value) judged = rw (judged, sheet_reply) (test_valueless bad_graph_length (eqb (length graph) (record_at s.size)))

pub read_valueless : {text graph after : List ℕ} {reply : Reply} → ReadListing text graph reply after → Valueless reply
read_valueless (no_listing {at = at} stops) = refused_valueless bad_listing at
read_valueless {text} {graph} (some_listing s fits same) = sheet_valueless s graph
