-- What evaluating asks of a node, in either layout of a rule.
-- Assumes nothing.
use Rattle.std.specs.Prelude.{◌≡◌, false, List, ℕ, ◌+◌, ◌<◌, ◌≤◌}
use Rattle.definitions.specs.Fields.{byte_at}
use Rattle.definitions.specs.Rule.{node_at, form_access, form_remainder, node_form}
use Rattle.rule_fields.specs.Fixed.{is_expanded, left_in, right_in}

-- a lent block has nothing where the high bytes of the operands stand in a made one
pub record NarrowNode (block : List ℕ) (k : ℕ) : Type 0 where
  pub left : is_expanded block ≡ false → byte_at block (node_at block k + 4) ≡ 0
  pub right : is_expanded block ≡ false → byte_at block (node_at block k + 5) ≡ 0

-- any, a constant, an access, or an operation on earlier nodes
pub record GoodNode (block : List ℕ) (k : ℕ) : Type 0 where
  pub form : node_form block k ≤ form_remainder
  pub left : form_access < node_form block k → left_in block k < k
  pub right : form_access < node_form block k → right_in block k < k
  pub narrow : form_access < node_form block k → NarrowNode block k
