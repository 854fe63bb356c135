-- Marks at place numbers: what the marks of one list of places say, what all of them together say, and the test that they are for.
-- Assumes nothing.
use Rattle.std.specs.Prelude.{◌≡◌, Bool, false, not, ◌||◌, List, ℕ, length, get_or}
use Rattle.definitions.specs.Lists.{any}
use Rattle.definitions.specs.Rule.{place_numbers, Origin, Rule, given, origin_by, is_rule_input, same_origin, named}
use Rattle.rule_fields.specs.Fixed.{origin_in, fixed_of}

-- some place of xs names what the place number p names; `base` is the first that names a target vertex
abbrev pub holds : ℕ → ℕ → List Origin → Bool
holds base p xs = any (same_origin (origin_by base p)) xs

-- Each place number that a place of xs holds is marked, beside those that were. The length is said, since a proof does not learn it
-- from the type of a reference.
pub record MarksAdded (base : ℕ) (xs : List Origin) (before after : List Bool) : Type 0 where
  pub long : length after ≡ place_numbers
  pub marks : (p : ℕ) → get_or after p false ≡ (get_or before p false || holds base p xs)

-- a place number is marked exactly where some target place, an input or an output, names what it names
abbrev pub NamesMarked : List ℕ → List Bool → Type 0
NamesMarked block used = (p : ℕ) → get_or used p false ≡ named (fixed_of block) (origin_in block p)

-- j is named, where it is a rule input
abbrev pub input_named : Rule → ℕ → Bool
input_named r j = not (is_rule_input r j) || named r (given j)
