-- For every match of a sound rule the counts tell what is read elsewhere.
-- Assumes nothing.
use mathlib.Core.Path.{◌≡◌}
use mathlib.Core.List.{List}
use Prim.Native.Nat.{ℕ, ◌<◌}
use native.Mathlib.Omega.{arith}
use lib.Dec.{ltb}
use lib.ListN.{length}
use Rattle.definitions.specs.Paths.{Reads}
use Rattle.definitions.specs.Graph.{Graph, true_count}
use Rattle.definitions.specs.Rule.{Rule, source_inputs}
use Rattle.definitions.specs.Match.{image_of, Match, places_of}
use Rattle.definitions.specs.FixedRule.{SoundFixed}
use Rattle.definitions.specs.ReadElsewhere.{is_read_elsewhere}
use Rattle.laws.proofs.Rule.{source-reader}
use Rattle.theory.proofs.Elsewhere.{elsewhere_counted}
use Rattle.rule_sound.proofs.Sound.{lower_of}
use Rattle.rule_sound.proofs.Fixed.{input_plain_of}

module _ (limit : ℕ) (r : Rule) (sound : SoundFixed limit r) where
  inside : (w u : ℕ) → Reads (source_inputs r) w u → u < length r.source
  inside w u m = omega (arith, lower_of r sound.lower_inputs w u m, source-reader r w u m)

  pub by_count : (g : Graph) (images : List ℕ) → Match g r images → (j : ℕ) → j < length r.source
      → ltb (places_of r j) (true_count g (image_of images j)) ≡ is_read_elsewhere g r images (image_of images j)
  by_count g images m j l = elsewhere_counted g r images (input_plain_of limit r sound) inside m j l
