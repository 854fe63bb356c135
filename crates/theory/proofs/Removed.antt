-- What computes that a slot is removed is the meaning of a removed slot.
-- Assumes nothing.
use mathlib.Core.Path.{◌≡◌, subst}
use mathlib.Core.Bool.{true, false}
use mathlib.Core.List.{List}
use mathlib.Core.Logic.{⊎_elim}
use Prim.Native.Nat.{ℕ}
use Rattle.definitions.specs.Graph.{Graph}
use Rattle.definitions.specs.Rule.{Rule}
use Rattle.definitions.specs.Match.{image_of, is_const, Private}
use Rattle.definitions.specs.Rewriting.{Removed, goes, is_removed}
use Rattle.laws.proofs.Lists.{decided}
use Rattle.laws.proofs.Rewriting.{goes-inner, goes_private, goes_other, goes_const, removed_image, image_removed}
use Rattle.theory.proofs.Match.{private_sound, private_complete}

module _ (g : Graph) (r : Rule) (images : List ℕ) (v : ℕ) where
  -- A slot that passes the computed test is one that the paper has removed,
  pub removed_sound : is_removed g r images v ≡ true → Removed g r images v
  removed_sound h =
      let found = removed_image g r images v h in
      record {
        vertex = found.0;
        inside = found.1;
        inner = goes-inner g r images found.0 found.2;
        image = found.3;
        unneeded = λ c. subst (Private g r images) found.3
            (private_sound g r images (image_of images found.0) (goes_private g r images found.0 found.2 c));
      }

  -- and every such slot passes it.
  pub removed_complete : Removed g r images v → is_removed g r images v ≡ true
  removed_complete m =
      let j : ℕ = m.vertex in
      let going : goes g r images j ≡ true = ⊎_elim
      (λ (c : is_const r j ≡ true).
      rw (← goes_const g r images j m.inner c)
      (rw m.image (private_complete g r images v (m.unneeded c))))
      (λ (c : is_const r j ≡ false). goes_other g r images j m.inner c)
      (decided (is_const r j)) in
      rw m.image at (image_removed g r images j m.inside going)
