-- The counts decide what the definition removes.
-- Assumes nothing.
use mathlib.Core.Path.{◌≡◌}
use mathlib.Core.List.{List}
use Prim.Native.Nat.{ℕ, ◌<◌}
use native.Mathlib.Omega.{arith}
use lib.Dec.{eqb}
use lib.ListN.{length}
use Rattle.definitions.specs.Paths.{Reads}
use Rattle.definitions.specs.Graph.{stored_count, Graph, graph_of, true_count}
use Rattle.definitions.specs.Rule.{source_count, Rule, source_inputs}
use Rattle.definitions.specs.Match.{image_of, places_of, is_private}
use Rattle.definitions.specs.Rewriting.{goes}
use Rattle.rule_fields.specs.Fixed.{fixed_of}
use Rattle.laws.proofs.Tests.{same_test}
use Rattle.laws.proofs.Members.{mem-place}
use Rattle.laws.proofs.Graph.{length-slots}
use Rattle.laws.proofs.Rule.{source-reader}
use Rattle.rule_fields.proofs.Fixed.{length-source}
use Rattle.theory.proofs.Match.{private_sound, private_complete}
use Rattle.theory.proofs.Inside.{private_uses, uses_private}
use Rattle.new_removal.specs.Removal.{Removable, goes_by}

module _ (graph rule images : List ℕ) (removable : Removable graph rule images) (j : ℕ) (l : j < source_count rule) where
  abbrev g : Graph
  g = graph_of graph

  abbrev r : Rule
  r = fixed_of rule

  abbrev v : ℕ
  v = image_of images j

  inside : (w u : ℕ) → Reads (source_inputs r) w u → u < length r.source
  inside w u reads =
      let reader : w < source_count rule = rw (length-source rule) at (source-reader r w u reads) in
      let found = mem-place 255 reads in
      let lower : u < w = rw found.2 at (removable.patterns.layered.lower w found.0 reader found.1) in
      rw (length-source rule) (omega arith)

  -- an image is private exactly where it is named as often as the rule's own source names its vertex
  private_counted : eqb (true_count g v) (places_of r j) ≡ is_private g r images v
  private_counted =
      let below : (i : ℕ) → i < length r.source → i < source_count rule = λ i k. rw (length-source rule) at k in
      let slot : (i : ℕ) → i < length r.source → image_of images i < length g.slots =
      λ i k. rw (length-slots graph) (removable.slots i (below i k)) in
      let apart : (i k : ℕ) → i < length r.source → k < length r.source → image_of images i ≡ image_of images k → i ≡ k =
      λ i k m n. removable.apart i k (below i m) (below k n) in
      let at : j < length r.source = rw (length-source rule) l in
      same_test (true_count g v) (places_of r j)
      (λ e. private_complete g r images v
      (uses_private g r images removable.plain inside slot apart (λ i k. removable.inputs i (below i k)) j at e))
      (λ p. private_uses g r images removable.plain inside slot apart (λ i k. removable.inputs i (below i k)) j at
      (private_sound g r images v p))

  pub goes-counted : (image places : ℕ) → image ≡ image_of images j → places ≡ places_of r j
      → goes_by r j (stored_count graph image) places ≡ goes g r images j
  unfolding goes_by goes
  goes-counted image places e p = rw (e, p, removable.counts v (removable.slots j l), private_counted)
