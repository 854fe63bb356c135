-- The replies about lent blocks, said once for every operation that judges them before it does its own work: when each is given, with
-- which place, and that it leaves every byte as it came.
-- Assumes nothing.
use mathlib.Core.Path.{◌≡◌, refl, sym, ap, ◌∙◌, subst}
use mathlib.Core.Bool.{Bool, true, false, ◌||◌, or-true}
use mathlib.Core.List.Memᴰ
use mathlib.Core.List.{List, [], ◌∷◌, ◌++◌}
use mathlib.Core.Logic.{⊎_elim}
use Prim.Native.Nat.{ℕ, ◌<◌, ◌^◌}
use native.Mathlib.Omega.{arith}
use borrow.Author.Tests.{eq-eqb, eqb-true, eqb-false}
use lib.Dec.{eqb}
use lib.ListN.{length}
use Rattle.definitions.specs.declared.Refusal.{Refusal}
use Rattle.std.specs.Prelude.{Err}
use Rattle.definitions.specs.Lists.{member}
use Rattle.definitions.specs.Reply.{Reply, done, bad_map_length, refusal_at, refused_at, refused, number_of, index_of, value_beside, packed, number_in, place_in, value_in, first_refusal}
use Rattle.definitions.specs.Graph.{graph_reply, SoundGraph}
use Rattle.definitions.specs.Rule.{rule_reply, SoundRule}
use Rattle.definitions.specs.Faults.{GraphFault, RuleFault}
use Rattle.definitions.specs.Operations.{Outcome, Returned, outcome, at_return, returned, map_bytes, map_reply, blocks_reply}
use Rattle.laws.proofs.Lists.{decided, true_not_false}
use Rattle.laws.proofs.Members.{member-left, mem_member, member_mem}
use Rattle.laws.proofs.Faults.{Judges, done_every, either}
use Rattle.laws.proofs.Reply.{number-packed, place-packed, value-packed, Valueless, plain_done, refused_valueless, first_done, first-refused}
use Rattle.graph_check.proofs.Sound.{graph-judged}
use Rattle.rule_check.proofs.Sound.{rule-judged}
use Rattle.answers.specs.Statements.{Says, graph_numbers, rule_numbers, Good, block_numbers, BlockReplies, Verdict, CheckedGraph, GraphVerdict, CheckedRule, RuleVerdict}
use Rattle.answers.proofs.Faults.{Small, Numbered, graph-listed, graph_small, graph_apart, graph-numbered, rule-listed, rule_small, rule_apart, rule-numbered}

-- ---- what the C side reads

read : (answer : Reply) → Small (number_of answer) (index_of answer) → Valueless answer → (reply : ℕ) → reply ≡ packed answer
    → Says reply (number_of answer) (index_of answer)
read answer small none reply contract = record {
  number = ap number_in contract ∙ number-packed answer small.number;
  place = ap place_in contract ∙ place-packed answer small.number small.place;
  value = ap value_in contract ∙ value-packed answer small.number small.place ∙ none;
}

-- of done, and of a refusal
module _ (reply : ℕ) where
  pub read_done : reply ≡ packed done → Says reply 0 0
  unfolding number_of index_of
  read_done e = read done (record { number = omega arith; place = omega arith }) plain_done.value reply e

  pub read-refused : {n p : ℕ} → Small n p → reply ≡ packed (refused_at n p) → Says reply n p
  unfolding refusal_at number_of index_of
  read-refused {n} {p} small e = read (refused_at n p) small (refused_valueless n p) reply e

-- what is read is one number and one place
same_number : {reply n m p q : ℕ} → Says reply n p → Says reply m q → (n ≡ m) × (p ≡ q)
same_number one other = (sym one.number ∙ other.number, sym one.place ∙ other.place)

-- ---- the checks

-- A reply that judges a block by its kinds of fault; 0 is none of them.
module _ {Sound : Type 0} {Fault : ℕ → ℕ → Type 0} {bad : List ℕ} {answer : Reply} (judges : Judges Sound Fault answer)
    (numbered : Numbered Fault bad) (reply : ℕ) (contract : reply ≡ packed answer) where
  as_done : Sound → Says reply 0 0
  as_done sound = read_done reply (contract ∙ ap packed (done_every judges sound))

  as_fault : {n p : ℕ} → Fault n p → Says reply n p
  as_fault fault = read-refused reply (numbered.small fault) (contract ∙ ap packed (judges.told fault))

  -- what is read is of a sound block, or of a fault
  data Read : Type 0 where
    sound_read : Sound → Says reply 0 0 → Read
    fault_read : {n p : ℕ} → Fault n p → Says reply n p → Read

  is_read : Read
  is_read = ⊎_elim (λ (sound : Sound). sound_read sound (as_done sound))
      (λ (f : (n : ℕ) × (p : ℕ) × Fault n p). fault_read f.2 (as_fault f.2))
      (either judges)

  zero_listed : {n : ℕ} → n ≡ 0 → member n bad ≡ true → ⊥
  zero_listed e t = true_not_false (subst (λ (k : ℕ). member k bad ≡ true) e t) numbered.apart

  pub verdict : Verdict Sound Fault bad reply
  unfolding member
  verdict = record {
    done = (by-done is_read, λ sound. (as_done sound).number);
    refused = (by-refused is_read, by_unsound is_read);
    fault = λ n p. (λ h. by_fault is_read h.0 h.1, λ fault. (numbered.listed fault, as_fault fault));
    either = by_either is_read;
    plain = by-plain is_read;
    value = by_value is_read;
  }
    where
      by-done : Read → number_in reply ≡ 0 → Sound
      by-done (sound_read sound says) h = sound
      by-done (fault_read fault says) h = absurd (zero_listed (sym says.number ∙ h) (numbered.listed fault))

      by-refused : Read → member (number_in reply) bad ≡ true → Sound → ⊥
      by-refused (sound_read sound says) h s = zero_listed says.number h
      by-refused (fault_read fault says) h s = judges.apart s fault

      by_unsound : Read → (Sound → ⊥) → member (number_in reply) bad ≡ true
      by_unsound (sound_read sound says) unsound = absurd (unsound sound)
      by_unsound (fault_read fault says) unsound = rw says.number (numbered.listed fault)

      by_fault : {n p : ℕ} → Read → member n bad ≡ true → Says reply n p → Fault n p
      by_fault (sound_read sound says) t h = absurd (zero_listed (same_number h says).0 t)
      by_fault {n} {p} (fault_read {n = m} {p = q} fault says) t h =
          let same = same_number says h in
          subst (λ (k : ℕ). Fault k p) same.0 (subst (Fault m) same.1 fault)

      by_either : Read → member (number_in reply) (0 ∷ bad) ≡ true
      by_either (sound_read sound says) = rw says.number refl
      by_either (fault_read {n = m} fault says) =
          subst (λ (k : ℕ). member k (0 ∷ bad) ≡ true) (sym says.number)
          (ap (λ (b : Bool). eqb m 0 || b) (numbered.listed fault) ∙ or-true (eqb m 0))

      by-plain : Read → number_in reply ≡ 0 → place_in reply ≡ 0
      by-plain (sound_read sound says) h = says.place
      by-plain (fault_read fault says) h = absurd (zero_listed (sym says.number ∙ h) (numbered.listed fault))

      by_value : Read → value_in reply ≡ 0
      by_value (sound_read sound says) = says.value
      by_value (fault_read fault says) = says.value

pub graph_verdict : (graph : List ℕ) (reply : ℕ) → CheckedGraph graph reply → GraphVerdict graph reply
graph_verdict graph reply contract = verdict (graph-judged graph) (graph-numbered graph) reply contract

pub rule_verdict : (rule : List ℕ) (reply : ℕ) → CheckedRule rule reply → RuleVerdict rule reply
rule_verdict rule reply contract = verdict (rule-judged rule) (rule-numbered rule) reply contract

-- ---- the stages, in document 01's order

module _ (before : List ℕ) where
  map-good : length before ≡ map_bytes → map_reply before ≡ done
  unfolding map_reply
  map-good e = rw (eq-eqb (length before) map_bytes e)

  map_bad : (length before ≡ map_bytes → ⊥) → map_reply before ≡ refused bad_map_length
  unfolding map_reply
  map_bad other =
      ⊎_elim (λ (t : eqb (length before) map_bytes ≡ true). absurd (other (eqb-true (length before) map_bytes t)))
      (λ (t : eqb (length before) map_bytes ≡ false). rw t)
      (decided (eqb (length before) map_bytes))

-- a stage decides where the ones before it find no fault
module _ (graph rule before : List ℕ) where
  after_map : length before ≡ map_bytes → blocks_reply graph rule before ≡ first_refusal (graph_reply graph ∷ rule_reply rule ∷ [])
  unfolding blocks_reply
  after_map size = first_done (graph_reply graph ∷ rule_reply rule ∷ []) (map-good before size)

  after-graph : length before ≡ map_bytes → SoundGraph graph → blocks_reply graph rule before ≡ first_refusal (rule_reply rule ∷ [])
  after-graph size sound = after_map size ∙ first_done (rule_reply rule ∷ []) (done_every (graph-judged graph) sound)

  after-rule : Good graph rule before → blocks_reply graph rule before ≡ done
  unfolding first_refusal
  after-rule good = after-graph good.0 good.1 ∙ first_done [] (done_every (rule-judged rule) good.2)

-- ---- an operation on lent blocks

-- An operation whose outcome is `whole`: a bad block is refused at once, and `rest` is what good blocks come to. Its own numbers are none
-- of the blocks', and its replies have no place.
pub record Staged (graph rule before : List ℕ) (whole rest : Outcome) : Type 0 where
  pub refusing : (x : Refusal) → blocks_reply graph rule before ≡ Err x → whole ≡ outcome (Err x) graph before
  pub passing : blocks_reply graph rule before ≡ done → whole ≡ rest
  pub own : member (number_of rest.reply) block_numbers ≡ false
  pub small : number_of rest.reply < 2 ^ 8
  pub placeless : index_of rest.reply ≡ 0

-- a graph's numbers and a rule's are among the blocks'
graph_block : (n : ℕ) → member n graph_numbers ≡ true → member n block_numbers ≡ true
unfolding member
graph_block n t = rw (member-left n graph_numbers rule_numbers t) (or-true (eqb n bad_map_length))

rule-block : (n : ℕ) → member n rule_numbers ≡ true → member n block_numbers ≡ true
rule-block n t = mem_member {x = n} {xs = block_numbers}
    (Memᴰ.tail (Memᴰ.append_right graph_numbers (member_mem n rule_numbers t)))

module _ {graph rule before : List ℕ} {whole rest : Outcome} (staged : Staged graph rule before whole rest)
    {reply : ℕ} {graph_after after : List ℕ} (contract : at_return reply graph_after after ≡ returned whole) where
  -- at the return: this reply, and these bytes in the graph and in the map
  ends : (o : Outcome) → whole ≡ o → (reply ≡ packed o.reply) × (graph_after ≡ o.graph) × (after ≡ o.map)
  unfolding returned
  ends o e = (
    ap (λ (x : Returned). x.reply) contract ∙ ap (λ (x : Outcome). packed x.reply) e,
    ap (λ (x : Returned). x.graph) contract ∙ ap (λ (x : Outcome). x.graph) e,
    ap (λ (x : Returned). x.map) contract ∙ ap (λ (x : Outcome). x.map) e,
  )

  -- at the return: this number with this place, and every byte as it came
  pub record Refuses (n p : ℕ) : Type 0 where
    pub says : Says reply n p
    pub kept_graph : graph_after ≡ graph
    pub kept_map : after ≡ before

  pub refused_ends : {n p : ℕ} → Small n p → whole ≡ outcome (refused_at n p) graph before → Refuses n p
  refused_ends {n} {p} small e =
      let end = ends (outcome (refused_at n p) graph before) e in
      record { says = read-refused reply small end.0; kept_graph = end.1; kept_map = end.2 }

  blocks_ends : {n p : ℕ} → Small n p → blocks_reply graph rule before ≡ refused_at n p → Refuses n p
  blocks_ends {n} {p} small e = refused_ends small (staged.refusing (refusal_at n p) e)

  map_ends : (length before ≡ map_bytes → ⊥) → Refuses bad_map_length 0
  unfolding blocks_reply
  map_ends other =
      blocks_ends (record { number = omega arith; place = omega arith })
      (first-refused (refusal_at bad_map_length 0) (graph_reply graph ∷ rule_reply rule ∷ []) (map_bad before other))

  graph_ends : {n p : ℕ} → length before ≡ map_bytes → GraphFault graph n p → Refuses n p
  graph_ends {n} {p} size fault =
      blocks_ends (graph_small fault)
      (after_map graph rule before size ∙ first-refused (refusal_at n p) (rule_reply rule ∷ []) ((graph-judged graph).told fault))

  rule_ends : {n p : ℕ} → length before ≡ map_bytes → SoundGraph graph → RuleFault rule n p → Refuses n p
  rule_ends {n} {p} size sound fault =
      blocks_ends (rule_small fault)
      (after-graph graph rule before size sound ∙ first-refused (refusal_at n p) [] ((rule-judged rule).told fault))

  -- at the return from a call on good blocks: what the rest comes to
  pub record Passes : Type 0 where
    pub number : number_in reply ≡ number_of rest.reply
    pub place : place_in reply ≡ 0
    pub value : value_in reply ≡ value_beside rest.reply
    pub left_graph : graph_after ≡ rest.graph
    pub left_map : after ≡ rest.map

  pub passed : Good graph rule before → whole ≡ rest
  passed good = staged.passing (after-rule graph rule before good)

  pub passes : Good graph rule before → Passes
  passes good =
      let end = ends rest (passed good) in
      let index : index_of rest.reply < 2 ^ 32 = omega (arith, staged.placeless) in
      record {
        number = ap number_in end.0 ∙ number-packed rest.reply staged.small;
        place = ap place_in end.0 ∙ place-packed rest.reply staged.small index ∙ staged.placeless;
        value = ap value_in end.0 ∙ value-packed rest.reply staged.small index;
        left_graph = end.1;
        left_map = end.2;
      }

  -- what is so of the blocks where a call is answered as it is
  data Stage : Type 0 where
    wrong_map : (length before ≡ map_bytes → ⊥) → Refuses bad_map_length 0 → Stage
    wrong_graph : {n p : ℕ} → length before ≡ map_bytes → GraphFault graph n p → Refuses n p → Stage
    wrong_rule : {n p : ℕ} → length before ≡ map_bytes → SoundGraph graph → RuleFault rule n p → Refuses n p → Stage
    all_good : Good graph rule before → Passes → Stage

  -- every call comes to one of these stages
  stage_rule : length before ≡ map_bytes → SoundGraph graph → Stage
  stage_rule size sound = ⊎_elim
      (λ (sound_rule : SoundRule rule). all_good (size, sound, sound_rule) (passes (size, sound, sound_rule)))
      (λ (f : (n : ℕ) × (p : ℕ) × RuleFault rule n p). wrong_rule size sound f.2 (rule_ends size sound f.2))
      (either (rule-judged rule))

  stage_graph : length before ≡ map_bytes → Stage
  stage_graph size = ⊎_elim
      (λ (sound : SoundGraph graph). stage_rule size sound)
      (λ (f : (n : ℕ) × (p : ℕ) × GraphFault graph n p). wrong_graph size f.2 (graph_ends size f.2))
      (either (graph-judged graph))

  stage : Stage
  stage = ⊎_elim (λ (t : eqb (length before) map_bytes ≡ true). stage_graph (eqb-true (length before) map_bytes t))
      (λ (t : eqb (length before) map_bytes ≡ false).
      let other : length before ≡ map_bytes → ⊥ = eqb-false (length before) map_bytes t in
      wrong_map other (map_ends other))
      (decided (eqb (length before) map_bytes))

  -- a number of the blocks' is not one that a call on good blocks has
  not_own : (n : ℕ) → n ≡ number_of rest.reply → member n block_numbers ≡ true → ⊥
  not_own n e t = true_not_false t (subst (λ (k : ℕ). member k block_numbers ≡ false) (sym e) staged.own)

  -- ---- what the replies about the blocks mean

  -- what is read is a number of the graph's only where the graph has the fault
  graph_only : (n p : ℕ) → Stage → member n graph_numbers ≡ true → Says reply n p → (length before ≡ map_bytes) × GraphFault graph n p
  unfolding member
  graph_only n p (wrong_map other end) t h = absurd (true_not_false (rw (same_number h end.says).0 at t) refl)
  graph_only n p (wrong_graph {n = m} {p = q} size fault end) t h =
      let same = same_number end.says h in
      (size, subst (λ (k : ℕ). GraphFault graph k p) same.0 (subst (GraphFault graph m) same.1 fault))
  graph_only n p (wrong_rule {n = m} size sound fault end) t h =
      absurd (true_not_false (subst (λ (k : ℕ). member k graph_numbers ≡ true) (same_number h end.says).0 t) (rule_apart fault))
  graph_only n p (all_good good end) t h = absurd (not_own n (sym h.number ∙ end.number) (graph_block n t))

  -- and one of the rule's only where the rule has it
  rule_only : (n p : ℕ) → Stage → member n rule_numbers ≡ true → Says reply n p
      → (length before ≡ map_bytes) × SoundGraph graph × RuleFault rule n p
  unfolding member
  rule_only n p (wrong_map other end) t h = absurd (true_not_false (rw (same_number h end.says).0 at t) refl)
  rule_only n p (wrong_graph {n = m} size fault end) t h =
      absurd (true_not_false (subst (λ (k : ℕ). member k rule_numbers ≡ true) (same_number h end.says).0 t) (graph_apart fault))
  rule_only n p (wrong_rule {n = m} {p = q} size sound fault end) t h =
      let same = same_number end.says h in
      (size, sound, subst (λ (k : ℕ). RuleFault rule k p) same.0 (subst (RuleFault rule m) same.1 fault))
  rule_only n p (all_good good end) t h = absurd (not_own n (sym h.number ∙ end.number) (rule-block n t))

  map_only : Stage → number_in reply ≡ bad_map_length → length before ≡ map_bytes → ⊥
  unfolding member
  map_only (wrong_map other end) h = other
  map_only (wrong_graph {n = m} size fault end) h =
      absurd (true_not_false (subst (λ (k : ℕ). member k graph_numbers ≡ true) (sym end.says.number ∙ h) (graph-listed fault)) refl)
  map_only (wrong_rule {n = m} size sound fault end) h =
      absurd (true_not_false (subst (λ (k : ℕ). member k rule_numbers ≡ true) (sym end.says.number ∙ h) (rule-listed fault)) refl)
  map_only (all_good good end) h = absurd (not_own bad_map_length (sym h ∙ end.number) refl)

  -- what is read has no value where the number is one of the blocks', and no place where it is none of the faults'
  value_zero : Stage → member (number_in reply) block_numbers ≡ true → value_in reply ≡ 0
  value_zero (wrong_map other end) t = end.says.value
  value_zero (wrong_graph size fault end) t = end.says.value
  value_zero (wrong_rule size sound fault end) t = end.says.value
  value_zero (all_good good end) t = absurd (not_own (number_in reply) end.number t)

  place_zero : Stage → member (number_in reply) (graph_numbers ++ rule_numbers) ≡ false → place_in reply ≡ 0
  place_zero (wrong_map other end) f = end.says.place
  place_zero (wrong_graph {n = m} size fault end) f =
      absurd (true_not_false (rw end.says.number (member-left m graph_numbers rule_numbers (graph-listed fault))) f)
  place_zero (wrong_rule {n = m} size sound fault end) f = absurd (true_not_false
      (rw end.says.number (mem_member (Memᴰ.append_right graph_numbers (member_mem m rule_numbers (rule-listed fault))))) f)
  place_zero (all_good good end) f = end.place

  as_read : member (number_in reply) block_numbers ≡ true → Says reply (number_in reply) (place_in reply)
  as_read t = record { number = refl; place = refl; value = value_zero stage t }

  graph-refused : length before ≡ map_bytes → (SoundGraph graph → ⊥) → member (number_in reply) graph_numbers ≡ true
  graph-refused size unsound = ⊎_elim (λ (sound : SoundGraph graph). absurd (unsound sound))
      (λ (f : (n : ℕ) × (p : ℕ) × GraphFault graph n p). rw (graph_ends size f.2).says.number (graph-listed f.2))
      (either (graph-judged graph))

  rule-refused : length before ≡ map_bytes → SoundGraph graph → (SoundRule rule → ⊥) → member (number_in reply) rule_numbers ≡ true
  rule-refused size sound unsound = ⊎_elim (λ (sound_rule : SoundRule rule). absurd (unsound sound_rule))
      (λ (f : (n : ℕ) × (p : ℕ) × RuleFault rule n p). rw (rule_ends size sound f.2).says.number (rule-listed f.2))
      (either (rule-judged rule))

  -- Either a call is answered with a number of the blocks' and leaves every byte as it came, or its blocks are good.
  pub by_blocks {ℓ} : (P : Type ℓ) → (member (number_in reply) block_numbers ≡ true → graph_after ≡ graph → after ≡ before → P)
      → (Good graph rule before → P) → P
  unfolding member
  by_blocks P bad passing = judge stage
    where
      judge : Stage → P
      judge (wrong_map other end) = bad (rw end.says.number refl) end.kept_graph end.kept_map
      judge (wrong_graph {n = m} size fault end) =
          bad (rw end.says.number (graph_block m (graph-listed fault))) end.kept_graph end.kept_map
      judge (wrong_rule {n = m} size sound fault end) =
          bad (rw end.says.number (rule-block m (rule-listed fault))) end.kept_graph end.kept_map
      judge (all_good blocks end) = passing blocks

  -- Where good blocks are answered without a value, every call is.
  pub valueless_all : Valueless rest.reply → value_in reply ≡ 0
  valueless_all none = by stage
    where
      by : Stage → value_in reply ≡ 0
      by (wrong_map other end) = end.says.value
      by (wrong_graph size fault end) = end.says.value
      by (wrong_rule size sound fault end) = end.says.value
      by (all_good good end) = end.value ∙ none

  -- Any number that is not about the blocks is given for good blocks only.
  pub good_only : member (number_in reply) block_numbers ≡ false → Good graph rule before
  good_only other =
      by_blocks (Good graph rule before)
      (λ about kept_graph kept_map. absurd (true_not_false about other))
      (λ good. good)

  -- The replies about the blocks are given exactly where they are due.
  pub block_replies : BlockReplies graph rule before reply
  block_replies = record {
    wrong_map = (map_only stage, λ other. (map_ends other).says.number);
    wrong_graph = (
      λ t. let w = graph_only (number_in reply) (place_in reply) stage t (as_read (graph_block (number_in reply) t)) in (w.0, λ sound. (graph-judged graph).apart sound w.1),
      λ w. graph-refused w.0 w.1,
    );
    wrong_rule = (
      λ t. let w = rule_only (number_in reply) (place_in reply) stage t (as_read (rule-block (number_in reply) t)) in
          (w.0, w.1, λ sound. (rule-judged rule).apart sound w.2),
      λ w. rule-refused w.0 w.1 w.2,
    );
    graph_fault = λ n p. (λ h. graph_only n p stage h.0 h.1, λ w. (graph-listed w.1, (graph_ends w.0 w.1).says));
    rule_fault = λ n p. (λ h. rule_only n p stage h.0 h.1, λ w. (rule-listed w.2, (rule_ends w.0 w.1 w.2).says));
    good = good_only;
    plain = place_zero stage;
    value = value_zero stage;
  }
