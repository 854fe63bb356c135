-- A matched Const reads nothing and is no replaced output. So no place that names it is redirected, and where something outside the match
-- needs it, it stays.
-- Assumes nothing.
use mathlib.Core.Path.{◌≡◌, refl, sym, subst}
use mathlib.Core.Bool.{true, false, and-false}
use mathlib.Core.List.Memᴰ
use mathlib.Core.List.{List, Memᴰ}
use Prim.Native.Nat.{ℕ, ◌<◌}
use borrow.Author.Tests.{eqb-true}
use lib.ListN.{length}
use Rattle.definitions.specs.Operators.{kind_const}
use Rattle.definitions.specs.Paths.{Reads, Reaches, here, onward}
use Rattle.definitions.specs.Graph.{Graph, inputs_of, is_vertex}
use Rattle.definitions.specs.Rule.{Rule, source_of, input_kind, is_rule_input}
use Rattle.definitions.specs.Match.{image_of, is_const, Private, output_images}
use Rattle.definitions.specs.Rewriting.{is_removed, stays, redirect}
use Rattle.definitions.specs.Results.{Untouched}
use Rattle.laws.proofs.Lists.{true_not_false, fails}
use Rattle.laws.proofs.Members.{holds, no_member}
use Rattle.theory.proofs.Removed.{removed_sound}
use Rattle.replacement.proofs.Site.{Site}
use Rattle.replacement.proofs.Table.{redirect_other, const_reads}

-- a Const is no rule input
const_inner : (r : Rule) (j : ℕ) → is_const r j ≡ true → is_rule_input r j ≡ false
unfolding is_const is_rule_input input_kind
const_inner r j c = fails (λ t. true_not_false t (simp (eqb-true (source_of r j).kind kind_const c, and-false)))

module _ (g : Graph) (r : Rule) (images : List ℕ) (site : Site g r images) (j : ℕ) (inside : j < length r.source)
    (const : is_const r j ≡ true) where
  abbrev v : ℕ
  v = image_of images j

  pub reads_none : (u : ℕ) → Reads (inputs_of g) (image_of images j) u → ⊥
  reads_none u m = Memᴰ.not-nil (subst (Memᴰ u) (const_reads g r images site j inside (const_inner r j const) const) m)

  -- no source output has its image
  apart : (o : ℕ) → Memᴰ o r.source_outputs → image_of images o ≡ v → ⊥
  apart o m e =
      let output = site.source_outputs o m in
      let same : o ≡ j = site.is_match.injective o j output.0 inside e in
      true_not_false const (subst (λ (i : ℕ). is_const r i ≡ false) same output.1)

  -- So no place that names it is redirected,
  pub const_unmoved : redirect g r images (image_of images j) ≡ image_of images j
  const_unmoved = redirect_other g r images v (no_member v (output_images r images) (λ m.
      let found = Memᴰ.of_map (image_of images) r.source_outputs m in
      apart found.0 found.1 found.2))

  -- no path leads to it from a replaced output,
  pub const_untouched : Untouched g r images (image_of images j)
  const_untouched o m path = reached path refl
    where
      reached : {w : ℕ} → Reaches (inputs_of g) (image_of images o) w → w ≡ v → ⊥
      reached here e = apart o m e
      reached (onward {v = u} before reads) e = reads_none u (subst (λ (x : ℕ). Reads (inputs_of g) x u) e reads)

  -- and it stays where it is not private to the match.
  pub const_stays : (Private g r images (image_of images j) → ⊥) → stays g r images (image_of images j) ≡ true
  unfolding stays
  const_stays needed =
      let kept : is_removed g r images v ≡ false = fails (λ t.
      let found = removed_sound g r images v t in
      let same : found.vertex ≡ j = site.is_match.injective found.vertex j found.inside inside found.image in
      needed (found.unneeded (subst (λ (i : ℕ). is_const r i ≡ true) (sym same) const))) in
      simp (holds (is_vertex g v) (site.is_match.vertices j inside), kept)
