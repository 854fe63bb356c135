-- The graph of a sheet that fits is judged alike in every block of version 2 that is made of it, whatever counts the block stores: so the
-- graph can be judged before its counts are known.
-- Assumes nothing.
use mathlib.Core.Path.{◌≡◌, subst}
use Prim.Native.Nat.{ℕ}
use Rattle.definitions.specs.Paths.{Acyclic}
use Rattle.definitions.specs.Reply.{done}
use Rattle.definitions.specs.Graph.{graph_version, Graph, inputs_of, true_count, block_as, graph_block, reply_as, graph_reply, SoundAs, SoundGraph}
use Rattle.definitions.specs.Sheet.{Sheet, SheetFits}
use Rattle.definitions.specs.Listing.{graph_in}
use Rattle.laws.proofs.Faults.{done_every}
use Rattle.graph_check.proofs.Sound.{form-judged, only_sound_as, only_sound, every_sound}
use Rattle.encoding.specs.Tables.{Table}
use Rattle.encoding.proofs.Blocks.{block-form, block-sound}
use Rattle.encoding.proofs.Graphs.{table_as}
use Rattle.listing.proofs.Blocks.{sheet-words, sheet-read}

module _ (s : Sheet) (fits : SheetFits s) (counts : ℕ → ℕ) where
  -- what a block with these counts shows of the graph
  form_table : SoundAs graph_version (block_as graph_version counts (graph_in s)) → Table (graph_in s)
  form_table form = subst Table (sheet-read s fits graph_version counts) (table_as graph_version (block_as graph_version counts (graph_in s)) form)

  form_acyclic : SoundAs graph_version (block_as graph_version counts (graph_in s)) → Acyclic (inputs_of (graph_in s))
  form_acyclic form = subst (λ (g : Graph). Acyclic (inputs_of g)) (sheet-read s fits graph_version counts) form.acyclic

module _ (s : Sheet) (fits : SheetFits s) (counts : ℕ → ℕ) where
  -- sound with some counts, it is sound with the true ones
  pub form-sound : SoundAs graph_version (block_as graph_version counts (graph_in s)) → SoundGraph (graph_block (graph_in s))
  form-sound form = block-sound (graph_in s) (form_table s fits counts form) (sheet-words s fits) (form_acyclic s fits counts form)

  -- and sound with the true ones, with any
  pub sound-form : SoundGraph (graph_block (graph_in s)) → SoundAs graph_version (block_as graph_version counts (graph_in s))
  sound-form sound =
      block-form (graph_in s) (form_table s fits (true_count (graph_in s)) sound.form) counts (sheet-words s fits)
      (form_acyclic s fits (true_count (graph_in s)) sound.form)

  pub sheet-sound : reply_as graph_version (block_as graph_version counts (graph_in s)) ≡ done → graph_reply (graph_block (graph_in s)) ≡ done
  sheet-sound e = every_sound (graph_block (graph_in s)) (form-sound (only_sound_as graph_version (block_as graph_version counts (graph_in s)) e))

  pub sheet-fit : graph_reply (graph_block (graph_in s)) ≡ done → reply_as graph_version (block_as graph_version counts (graph_in s)) ≡ done
  sheet-fit e =
      done_every (form-judged graph_version (block_as graph_version counts (graph_in s))) (sound-form (only_sound (graph_block (graph_in s)) e))

-- the graph of a sheet, where it is sound
pub sheet_table : (s : Sheet) → SheetFits s → graph_reply (graph_block (graph_in s)) ≡ done → Table (graph_in s)
sheet_table s fits e = form_table s fits (true_count (graph_in s)) (only_sound (graph_block (graph_in s)) e).form
