-- What the choice of a slot's record asks of the moves.
-- Assumes nothing.
use Rattle.std.specs.Prelude.{◌≡◌, List, ℕ}
use Rattle.definitions.specs.Graph.{graph_of}
use Rattle.definitions.specs.Rewriting.{redirect}
use Rattle.rule_fields.specs.Fixed.{fixed_of}
use Rattle.redirection.specs.Moves.{moved}
use Rattle.redirection.specs.declared.Redirection.{Redirection}

-- the moves are the redirection of the rewriting
abbrev pub Redirects : List ℕ → List ℕ → List ℕ → Redirection → Type 0
Redirects graph rule images way = (v : ℕ) → moved way v ≡ redirect (graph_of graph) (fixed_of rule) images v
