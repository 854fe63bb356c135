-- Replies are without a value, but for an answer to a question, which is 0 or 1. Those that are not about a lent block are without a place,
-- too.
-- Assumes nothing.
use mathlib.Core.Path.{◌≡◌, refl, subst}
use mathlib.Core.Bool.{Bool, true, false, cond}
use mathlib.Core.List.{List, [], ◌∷◌, ◌++◌}
use mathlib.Core.Option.{Option, none, some}
use Prim.Native.Nat.{ℕ, ◌*◌, ◌<◌}
use native.Mathlib.Omega.{arith}
use lib.Dec.{eqb}
use lib.IntN.{ℤ}
use lib.ListN.{length}
use Rattle.definitions.specs.declared.Refusal.{Refusal}
use Rattle.std.specs.Prelude.{Ok, Err}
use Rattle.definitions.specs.Reply.{Reply, bad_map_length, bad_moves_length, not_amatch, no_such_vertex, no_match, no_result, no_room, new_cycle, answered, refusal_at, refusal, refused, value_beside, value_limit, first_refusal}
use Rattle.definitions.specs.Graph.{graph_version, import_version, slot_count, Graph, graph_of, has_cycle, faults_as, count_faults, reply_as, graph_reply}
use Rattle.definitions.specs.Rule.{side_limit, Rule, rule_of, rule_faults, rule_reply}
use Rattle.definitions.specs.Match.{read_attribute, least_match}
use Rattle.definitions.specs.Rewriting.{target_results, has_room, new_graph}
use Rattle.definitions.specs.Operations.{map_bytes, map_reply, blocks_reply, matched, find_match, Rewritten, accepted, turned_down, rewritten_with, rewritten, replaced, rewrite}
use Rattle.definitions.specs.Squeeze.{moves_reply, squeeze_reply}
use Rattle.definitions.specs.Import.{import_reply}
use Rattle.definitions.specs.ReadElsewhere.{is_match_map, is_inner, elsewhere_answer, asked_reply, elsewhere_reply}
use Rattle.laws.proofs.Reply.{Valueless, Plain, plain_done, plain-refused, refused_valueless, test_valueless, valueless_fits, judged_valueless}

-- ---- the lent blocks

pub as_valueless : (version : ℕ) (block : List ℕ) → Valueless (reply_as version block)
unfolding reply_as
as_valueless version block = judged_valueless (faults_as version block)

pub graph_valueless : (block : List ℕ) → Valueless (graph_reply block)
unfolding graph_reply
graph_valueless block = judged_valueless (faults_as graph_version block ++ count_faults block)

pub rule_valueless : (block : List ℕ) → Valueless (rule_reply block)
unfolding rule_reply
rule_valueless block = judged_valueless (rule_faults side_limit block)

pub map_valueless : (map : List ℕ) → Valueless (map_reply map)
unfolding map_reply
map_valueless map = test_valueless bad_map_length (eqb (length map) map_bytes)

first_valueless : (reply : Reply) (replies : List Reply) → Valueless reply → Valueless (first_refusal replies)
    → Valueless (first_refusal (reply ∷ replies))
unfolding first_refusal
first_valueless (Ok value) replies own rest = rest
first_valueless (Err why) replies own rest = own

blocks_valueless : (graph rule map : List ℕ) → Valueless (blocks_reply graph rule map)
unfolding blocks_reply first_refusal
blocks_valueless graph rule map =
    first_valueless (map_reply map) (graph_reply graph ∷ rule_reply rule ∷ []) (map_valueless map)
    (first_valueless (graph_reply graph) (rule_reply rule ∷ []) (graph_valueless graph)
    (first_valueless (rule_reply rule) [] (rule_valueless rule) plain_done.value))

-- ---- the import

pub import_valueless : (block : List ℕ) → Valueless (import_reply block)
unfolding import_reply
import_valueless block = as_valueless import_version block

-- ---- the squeeze

pub moves_valueless : (graph moves : List ℕ) → Valueless (moves_reply graph moves)
unfolding moves_reply
moves_valueless graph moves = test_valueless bad_moves_length (eqb (length moves) (2 * slot_count graph))

pub squeeze_valueless : (graph moves : List ℕ) → Valueless (squeeze_reply graph moves)
unfolding squeeze_reply first_refusal
squeeze_valueless graph moves =
    first_valueless (graph_reply graph) (moves_reply graph moves ∷ []) (graph_valueless graph)
    (first_valueless (moves_reply graph moves) [] (moves_valueless graph moves) plain_done.value)

-- ---- matching

pub matched-plain : (graph rule : List ℕ) (start : ℕ) (map : List ℕ) → Plain (matched graph rule start map).reply
unfolding matched
matched-plain graph rule start map = by (least_match (graph_of graph) (rule_of rule) start) refl
  where
    by : (found : Option (List ℕ)) → least_match (graph_of graph) (rule_of rule) start ≡ found → Plain (matched graph rule start map).reply
    by none e = rw (e, matched) (plain-refused no_match)
    by (some found) e = rw (e, matched) plain_done

pub match_valueless : (graph rule : List ℕ) (start : ℕ) (map : List ℕ) → Valueless (find_match graph rule start map).reply
unfolding find_match
match_valueless graph rule start map = by (blocks_reply graph rule map) refl
  where
    by : (reply : Reply) → blocks_reply graph rule map ≡ reply → Valueless (find_match graph rule start map).reply
    by (Ok value) e = rw (e, find_match) (matched-plain graph rule start map).value
    by (Err why) e = rw (e, find_match) (subst Valueless e (blocks_valueless graph rule map))

-- ---- asking whether an image is read elsewhere

module _ (graph rule map : List ℕ) (vertex : ℕ) where
  -- the stages, in the papers' order
  pub elsewhere_refused : {why : Refusal} → blocks_reply graph rule map ≡ Err why → elsewhere_reply graph rule map vertex ≡ Err why
  unfolding elsewhere_reply
  elsewhere_refused e = rw (e, elsewhere_reply)

  pub elsewhere_asked : {value : ℕ} → blocks_reply graph rule map ≡ Ok value
      → elsewhere_reply graph rule map vertex ≡ asked_reply graph rule map vertex
  unfolding elsewhere_reply
  elsewhere_asked e = rw (e, elsewhere_reply)

  pub asked_no_match : is_match_map graph rule map ≡ false → asked_reply graph rule map vertex ≡ refused not_amatch
  unfolding asked_reply
  asked_no_match f = rw f

  module _ (match : is_match_map graph rule map ≡ true) where
    pub asked_no_vertex : is_inner (rule_of rule) vertex ≡ false → asked_reply graph rule map vertex ≡ refused no_such_vertex
    unfolding asked_reply
    asked_no_vertex f = rw (match, f)

    pub asked_answer : is_inner (rule_of rule) vertex ≡ true
        → asked_reply graph rule map vertex ≡ answered (elsewhere_answer graph rule map vertex)
    unfolding asked_reply
    asked_answer t = rw (match, t)

  -- the answer fits in the bits that a value has
  pub elsewhere_fits : value_beside (elsewhere_reply graph rule map vertex) < value_limit
  unfolding asked_reply answered value_beside
  elsewhere_fits = by (blocks_reply graph rule map) refl
    where
      asked : (match inner holds : Bool)
          → value_beside (cond match (cond inner (answered holds) (refused no_such_vertex)) (refused not_amatch)) < value_limit
      asked true true true = omega arith
      asked true true false = omega arith
      asked true false holds = valueless_fits {reply = refused no_such_vertex} refl (refused_valueless no_such_vertex 0)
      asked false inner holds = valueless_fits {reply = refused not_amatch} refl (refused_valueless not_amatch 0)

      by : (reply : Reply) → blocks_reply graph rule map ≡ reply → value_beside (elsewhere_reply graph rule map vertex) < value_limit
      by (Ok value) e =
          rw (elsewhere_asked e) (asked (is_match_map graph rule map) (is_inner (rule_of rule) vertex) (elsewhere_answer graph rule map vertex))
      by (Err why) e = valueless_fits (elsewhere_refused e) (subst Valueless e (blocks_valueless graph rule map))

-- ---- rewriting

-- where it is turned down, without a place
abbrev Modest : Rewritten → Type 0
Modest best = (why : Refusal) → best ≡ turned_down why → Plain (Err why)

module _ (g : Graph) (r : Rule) (found : List ℕ) where
  refused_modest : (n : ℕ) → Modest (turned_down (refusal n))
  unfolding refusal_at
  refused_modest n why e = let same : refusal n ≡ why = cc in subst (λ (x : Refusal). Plain (Err x)) same (plain-refused n)

  with_modest : (values : List (List ℤ)) → Modest (rewritten_with g r found values)
  unfolding rewritten_with
  with_modest values = by (has_room g r found) (has_cycle (new_graph g r found values))
    where
      by : (room cycle : Bool)
          → Modest (cond room (cond cycle (turned_down (refusal new_cycle)) (accepted (new_graph g r found values))) (turned_down (refusal no_room)))
      by true true = refused_modest new_cycle
      by true false = λ why e. let z : ◌≡◌ {A = ℕ} 0 1 = cc in absurd (omega arith)
      by false cycle = refused_modest no_room

  rewritten_modest : Modest (rewritten g r found)
  unfolding rewritten
  rewritten_modest = by (target_results (read_attribute g found) r.target) refl
    where
      by : (values : Option (List (List ℤ))) → target_results (read_attribute g found) r.target ≡ values → Modest (rewritten g r found)
      by none e = rw (e, rewritten) (refused_modest no_result)
      by (some values) e = rw (e, rewritten) (with_modest values)

pub replaced-plain : (graph rule map found : List ℕ) → Plain (replaced graph rule map found).reply
unfolding replaced
replaced-plain graph rule map found = by (rewritten (graph_of graph) (rule_of rule) found) refl
  where
    by : (best : Rewritten) → rewritten (graph_of graph) (rule_of rule) found ≡ best → Plain (replaced graph rule map found).reply
    by (turned_down why) e = rw (e, replaced) (rewritten_modest (graph_of graph) (rule_of rule) found why e)
    by (accepted new) e = rw (e, replaced) plain_done

pub rewrite_valueless : (graph rule : List ℕ) (start : ℕ) (map : List ℕ) → Valueless (rewrite graph rule start map).reply
unfolding rewrite
rewrite_valueless graph rule start map = by (blocks_reply graph rule map) refl
  where
    least : {value : ℕ} → blocks_reply graph rule map ≡ Ok value → (found : Option (List ℕ))
        → least_match (graph_of graph) (rule_of rule) start ≡ found → Valueless (rewrite graph rule start map).reply
    least e none l = rw (e, l, rewrite) (refused_valueless no_match 0)
    least e (some found) l = rw (e, l, rewrite) (replaced-plain graph rule map found).value

    by : (reply : Reply) → blocks_reply graph rule map ≡ reply → Valueless (rewrite graph rule start map).reply
    by (Ok value) e = least e (least_match (graph_of graph) (rule_of rule) start) refl
    by (Err why) e = rw (e, rewrite) (subst Valueless e (blocks_valueless graph rule map))
