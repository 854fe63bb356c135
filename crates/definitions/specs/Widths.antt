-- Request 8/13: "the least match is taken over all n together". The least match of several rules, as of the fixed rules of a variadic one.
-- Assumes nothing.
use mathlib.Core.List.{List, Memᴰ}
use Rattle.std.proofs.Math.Option.{Option, none, some}
use Rattle.std.specs.Prelude.{ℕ, length}
use Rattle.definitions.specs.Lists.{first_some}
use Rattle.definitions.specs.Graph.{Graph, inputs_of}
use Rattle.definitions.specs.Rule.{Rule}
use Rattle.definitions.specs.Match.{image_of, MatchFrom, output_images, NotAfter, images_for, choices, attempt}
use Rattle.definitions.specs.Variadic.{VariadicRule}

-- a match, and the rule of which it is one
pub record Found : Type 0 where
  pub rule : Rule
  pub images : List ℕ

-- ---- the meaning: a match of one of the rules, from s on, such that no match of any of them from s on comes before it

pub record LeastAmong (g : Graph) (rules : List Rule) (s : ℕ) (found : Found) : Type 0 where
  pub one : Memᴰ found.rule rules
  pub from : MatchFrom g found.rule s found.images
  pub least : (r : Rule) (other : List ℕ) → Memᴰ r rules → MatchFrom g r s other
      → NotAfter (output_images found.rule found.images) (output_images r other)

-- ---- what computes; it is proved that this is the meaning

unfoldable pub found_by : Rule → Option (List ℕ) → Option Found
found_by r none = none
found_by r (some images) = some (record { rule = r; images = images })

-- what trying one choice of output images for one rule gives
unfoldable pub attempt_of : Graph → List ℕ → Rule → Option Found
attempt_of g chosen r = found_by r (attempt g r chosen)

-- for one choice the rules are tried in turn; of the fixed rules of a variadic one at most one can match
unfoldable pub attempt_all : Graph → List Rule → List ℕ → Option Found
attempt_all g rules chosen = first_some (attempt_of g chosen) rules

-- the least choice for which a rule matches; every rule has k outputs
unfoldable pub least_of : Graph → List Rule → ℕ → ℕ → Option Found
least_of g rules k s = first_some (attempt_all g rules) (choices (length g.slots) k s)

-- How many fields the named Tuple's image has where the outputs have these images. The source vertices from the Tuple up are shared,
-- so its image is found in the block's numbers; it is proved that no other n can match.
unfoldable pub fields_at : Graph → VariadicRule → List ℕ → ℕ
fields_at g r chosen = length (inputs_of g (image_of (images_for g r.plain chosen) r.source_tuple))
