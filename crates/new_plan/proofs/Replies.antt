-- What is planned, told by the reply's case: a reply is done or a refusal, never both, and holds one refusal.
-- Assumes nothing.
use mathlib.Core.Path.{◌≡◌, sym, ap, ◌∙◌}
use mathlib.Core.List.{List}
use Prim.Native.Nat.{ℕ}
use Rattle.definitions.specs.declared.Refusal.{Refusal}
use Rattle.std.specs.Prelude.{Ok, Err}
use Rattle.definitions.specs.Reply.{Reply, done}
use Rattle.definitions.specs.Graph.{Graph, graph_block}
use Rattle.definitions.specs.Operations.{Rewritten, accepted, turned_down}
use Rattle.laws.proofs.Reply.{done_refused}
use Rattle.encoding.specs.Tables.{Table}
use Rattle.new_plan.specs.Planned.{Planned}

-- one case only
pub not_both : {value : ℕ} (reply : Reply) (why : Refusal) → reply ≡ Ok value → reply ≡ Err why → ⊥
not_both reply why d r = done_refused (sym d ∙ r)

one_refusal : (reply : Reply) (why other : Refusal) → reply ≡ Err why → reply ≡ Err other → why ≡ other
one_refusal reply why other r s = cc

module _ (best : Rewritten) (reply : Reply) (table : List ℕ) where
  pub planned_refused : (why : Refusal) → reply ≡ Err why → best ≡ turned_down why → Planned best reply table
  planned_refused why e h = record {
    done = λ value d. absurd (not_both reply why d e);
    refused = λ other o. h ∙ ap turned_down (one_refusal reply why other e o);
  }

  pub planned_done : (new : Graph) → Table new → reply ≡ done → best ≡ accepted new → table ≡ graph_block new → Planned best reply table
  planned_done new sound e h made = record {
    done = λ value d. (new, sound, h, made);
    refused = λ why r. absurd (not_both reply why e r);
  }
