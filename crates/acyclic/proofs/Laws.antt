-- What the search relies on from turn to turn, and how each kind of turn keeps it.
-- Assumes nothing.
use mathlib.Core.Path.{◌≡◌, refl, sym, ◌∙◌, subst}
use mathlib.Core.Bool.{Bool, true, false, false≢true}
use mathlib.Core.List.Memᴰ
use mathlib.Core.List.{List, [], ◌∷◌, Memᴰ}
use mathlib.Core.Logic.{◌⊎◌, inl, inr, ⊎_elim}
use Prim.Native.Nat.{ℕ, zero, suc, ◌+◌, ◌-◌, ◌<◌, ◌≤◌}
use native.Mathlib.Nat.{not-suc-le-zero, le_of_suc-le-suc}
use native.Mathlib.Omega.{arith}
use borrow.Author.Tests.{ltb-true, ltb-false, eqb-true, eqb-false}
use lib.Dec.{eqb, ltb}
use lib.ListN.{length, get_or, set, replicate, length-set}
use lib.Seq.{get_or-set_same, get_or-set_other}
use Rattle.definitions.specs.Graph.{unused_place, empty_slot, slot_count, graph_of, inputs_of, has_cycle}
use Rattle.definitions.specs.Paths.{Reads, Reaches, here, onward, OnCycle}
use Rattle.laws.proofs.Lists.{decided, all_below_at, all-member}
use Rattle.laws.proofs.Graph.{length-slots, inputs_past, reader-inside}
use Rattle.laws.proofs.Members.{mem-place}
use Rattle.theory.proofs.Paths.{Table, Grounded, grounded, reaches_trans, grounded_acyclic}
use Rattle.reachability.proofs.Cycles as cycles
use Rattle.graph_fields.specs.Layout.{Closed}
use Rattle.acyclic.specs.Search.{Sized, Quiet, Kept, Searched}
use Rattle.graph_sorted.specs.Sorted.{reads_lower, sorted}

-- ---- lists

-- what holds of the element that is stored, and of all others, holds of every element afterwards
every_set : (P : ℕ → ℕ → Type 0) (xs : List ℕ) (i y : ℕ) → i < length xs → P i y
    → ((w : ℕ) → (w ≡ i → ⊥) → P w (get_or xs w 0)) → (w : ℕ) → P w (get_or (set xs i y) w 0)
every_set P xs i y l h k w = ⊎_elim
    (λ (t : eqb w i ≡ true). subst (λ (v : ℕ). P v (get_or (set xs i y) v 0)) (sym (eqb-true w i t))
    (subst (P i) (sym (get_or-set_same xs i y 0 l)) h))
    (λ (t : eqb w i ≡ false). subst (P w) (sym (get_or-set_other xs i w y 0 (eqb-false w i t))) (k w (eqb-false w i t)))
    (decided (eqb w i))

-- how far the elements are from 8, in all: what falls with each turn
pub room : List ℕ → ℕ
room [] = 0
room (x ∷ xs) = (8 - x) + room xs

pub room_set : (xs : List ℕ) (i y : ℕ) → i < length xs → get_or xs i 0 < y → get_or xs i 0 < 8 → room (set xs i y) < room xs
unfolding room
room_set [] i y l h k = absurd (not-suc-le-zero l)
room_set (x ∷ xs) zero y l h k = omega arith
room_set (x ∷ xs) (suc i) y l h k = omega (arith, room_set xs i y (le_of_suc-le-suc l) h k)

other_mem : {w v : ℕ} {xs : List ℕ} → (w ≡ v → ⊥) → Memᴰ w (v ∷ xs) → Memᴰ w xs
other_mem h (Memᴰ.head e) = absurd (h e)
other_mem h (Memᴰ.tail m) = m

module _ {progress parent : List ℕ} (i x : ℕ) (s : Sized progress parent) where
  pub sized_progress : Sized (set progress i x) parent
  sized_progress = record { progress = simp length-set s.progress; parent = s.parent }

  pub sized_parent : Sized progress (set parent i x)
  sized_parent = record { progress = s.progress; parent = simp length-set s.parent }

-- ---- the way back

-- The slots that are being searched, from the present one back to the root: each is an input of the next, and none comes twice.
pub data Chain (inputs : ℕ → List ℕ) (n root : ℕ) (parent : List ℕ) : ℕ → List ℕ → Type 0 where
  last : root < n → Chain inputs n root parent root (root ∷ [])
  link : {v p : ℕ} {rest : List ℕ} → v < n → get_or parent v 0 ≡ p → Reads inputs p v → (Memᴰ v rest → ⊥)
      → Chain inputs n root parent p rest → Chain inputs n root parent v (v ∷ rest)

module _ {inputs : ℕ → List ℕ} {n root : ℕ} {parent : List ℕ} where
  chain_below : {v : ℕ} {chain : List ℕ} → Chain inputs n root parent v chain → v < n
  chain_below (last l) = l
  chain_below (link l e r f c) = l

  chain_head : {v : ℕ} {chain : List ℕ} → Chain inputs n root parent v chain → Memᴰ v chain
  chain_head (last l) = Memᴰ.head refl
  chain_head (link l e r f c) = Memᴰ.head refl

  chain_root : {v : ℕ} {chain : List ℕ} → Chain inputs n root parent v chain → Memᴰ root chain
  chain_root (last l) = Memᴰ.head refl
  chain_root (link l e r f c) = Memᴰ.tail (chain_root c)

  chain_reaches : {v w : ℕ} {chain : List ℕ} → Chain inputs n root parent v chain → Memᴰ w chain → Reaches inputs v w
  chain_reaches {v} (last l) (Memᴰ.head e) = subst (λ (y : ℕ). Reaches inputs v y) (sym e) here
  chain_reaches (last l) (Memᴰ.tail m) = absurd (Memᴰ.not-nil m)
  chain_reaches {v} (link l e r f c) (Memᴰ.head q) = subst (λ (y : ℕ). Reaches inputs v y) (sym q) here
  chain_reaches (link l e r f c) (Memᴰ.tail m) = reaches_trans (onward here r) (chain_reaches c m)

  -- the way back of a slot other than the root goes on from its parent
  chain_back : {v : ℕ} {chain : List ℕ} → Chain inputs n root parent v chain → (v ≡ root → ⊥)
      → (rest : List ℕ) × (chain ≡ v ∷ rest) × Chain inputs n root parent (get_or parent v 0) rest × (Memᴰ v rest → ⊥)
  chain_back (last l) h = absurd (h refl)
  chain_back (link {rest = rest} l e r f c) h = (rest, refl, rw e c, f)

  -- and that of the root is the root
  chain_alone : {v w : ℕ} {chain : List ℕ} → Chain inputs n root parent v chain → v ≡ root → Memᴰ w chain → w ≡ v
  chain_alone (last l) e m = Memᴰ.eq_of_singleton m
  chain_alone (link l q r f c) e m = absurd (f (Memᴰ.cast e (chain_root c)))

  -- the parent of a slot that is not on the way may change
  chain_set : {v : ℕ} {chain : List ℕ} (u x : ℕ) → (Memᴰ u chain → ⊥) → Chain inputs n root parent v chain
      → Chain inputs n root (set parent u x) v chain
  chain_set u x h (last l) = last l
  chain_set u x h (link {v = v} l e r f c) = link l
      (get_or-set_other parent u v x 0 (λ q. h (Memᴰ.head (sym q))) ∙ e) r f (chain_set u x (λ m. h (Memᴰ.tail m)) c)

-- ---- what is known of a slot, from its progress

-- A slot is on the way back exactly while it is entered and not finished. The inputs that an entered slot has passed are grounded,
-- and so is a finished slot.
pub data Knows (inputs : ℕ → List ℕ) (chain : List ℕ) (w p : ℕ) : Type 0 where
  untouched : p ≡ 0 → (Memᴰ w chain → ⊥) → Knows inputs chain w p
  entered : 0 < p → p ≤ 1 + length (inputs w) → p < 8
      → ((j : ℕ) → j + 1 < p → Grounded inputs (get_or (inputs w) j unused_place)) → Memᴰ w chain → Knows inputs chain w p
  finished : p ≡ 8 → Grounded inputs w → (Memᴰ w chain → ⊥) → Knows inputs chain w p

-- where w is on both ways back or on none
knows_chain : {inputs : ℕ → List ℕ} {from to : List ℕ} {w p : ℕ} → (Memᴰ w from → Memᴰ w to)
    → (Memᴰ w to → Memᴰ w from) → Knows inputs from w p → Knows inputs to w p
knows_chain f g (untouched e h) = untouched e (λ m. h (g m))
knows_chain f g (entered a b d h m) = entered a b d h (f m)
knows_chain f g (finished e h k) = finished e h (λ m. k (g m))

-- what holds whenever the search is at a slot; `before` is the progress with which the search began
pub record Search (inputs : ℕ → List ℕ) (n root : ℕ) (before progress parent : List ℕ) (at : ℕ) : Type 0 where
  pub chain : List ℕ
  pub linked : Chain inputs n root parent at chain
  pub knows : (w : ℕ) → Knows inputs chain w (get_or progress w 0)
  pub kept : Kept before progress

-- what is known of the present slot
pub record Present (inputs : ℕ → List ℕ) (n at p : ℕ) : Type 0 where
  pub inside : at < n
  pub some : 0 < p
  pub most : p ≤ 1 + length (inputs at)
  pub under : p < 8
  pub passed : (j : ℕ) → j + 1 < p → Grounded inputs (get_or (inputs at) j unused_place)

module _ {inputs : ℕ → List ℕ} {n root : ℕ} {before progress parent : List ℕ} {at : ℕ}
    (s : Search inputs n root before progress parent at) where
  pub present : Present inputs n at (get_or progress at 0)
  present = from (s.knows at)
    where
      from : Knows inputs s.chain at (get_or progress at 0) → Present inputs n at (get_or progress at 0)
      from (untouched e h) = absurd (h (chain_head s.linked))
      from (entered a b d h m) = record { inside = chain_below s.linked; some = a; most = b; under = d; passed = h }
      from (finished e g h) = absurd (h (chain_head s.linked))

  -- an input that is neither finished nor untouched closes a cycle
  pub closes : (u : ℕ) → Reads inputs at u → (get_or progress u 0 ≡ 0 → ⊥) → (get_or progress u 0 ≡ 8 → ⊥) → OnCycle inputs at
  closes u r f g = from (s.knows u)
    where
      from : Knows inputs s.chain u (get_or progress u 0) → OnCycle inputs at
      from (untouched e h) = absurd (f e)
      from (entered a b d h m) = (u, chain_reaches s.linked m, r)
      from (finished e h k) = absurd (g e)

  -- a finished slot leads to no cycle
  pub finished_grounded : (u : ℕ) → get_or progress u 0 ≡ 8 → Grounded inputs u
  finished_grounded u e = from (s.knows u)
    where
      from : Knows inputs s.chain u (get_or progress u 0) → Grounded inputs u
      from (untouched z h) = absurd (omega arith)
      from (entered a b d h m) = absurd (omega arith)
      from (finished z h k) = h

  -- a slot whose inputs are all passed leads to no cycle
  all_passed : get_or progress at 0 ≡ 1 + length (inputs at) → Grounded inputs at
  all_passed e = grounded {v = at} (λ u m. let t = mem-place unused_place m in
      subst (Grounded inputs) t.2 (present.passed t.0 (omega (arith, t.1))))

  -- ---- the turns

  -- one more input is passed
  pub pass : at < length progress → get_or progress at 0 ≤ length (inputs at) → length (inputs at) ≤ 6
      → Grounded inputs (get_or (inputs at) (get_or progress at 0 - 1) unused_place)
      → Search inputs n root before (set progress at (get_or progress at 0 + 1)) parent at
  pass l h k g = record {
    chain = s.chain;
    linked = s.linked;
    knows = every_set (Knows inputs s.chain) progress at (p + 1) l
        (entered (omega arith) (omega arith) (omega arith) more (chain_head s.linked)) (λ w ne. s.knows w);
    kept = every_set (λ (w x : ℕ). get_or before w 0 ≡ 8 → x ≡ 8) progress at (p + 1) l
        (λ e. absurd (omega (arith, s.kept at e, present.under))) (λ w ne. s.kept w);
  }
    where
      p : ℕ
      p = get_or progress at 0

      more : (j : ℕ) → j + 1 < p + 1 → Grounded inputs (get_or (inputs at) j unused_place)
      more j b = ⊎_elim (λ (t : ltb (j + 1) p ≡ true). present.passed j (ltb-true (j + 1) p t))
          (λ (t : ltb (j + 1) p ≡ false). let e : p - 1 ≡ j = omega (arith, ltb-false (j + 1) p t) in
          subst (λ (i : ℕ). Grounded inputs (get_or (inputs at) i unused_place)) e g)
          (decided (ltb (j + 1) p))

  -- an input is entered
  pub enter : (u : ℕ) → Reads inputs at u → get_or progress u 0 ≡ 0 → u < n → u < length progress → u < length parent
      → Search inputs n root before (set progress u 1) (set parent u at) u
  enter u r z b l k = record {
    chain = u ∷ s.chain;
    linked = link b (get_or-set_same parent u at 0 k) r (fresh (s.knows u)) (chain_set u at (fresh (s.knows u)) s.linked);
    knows = every_set (Knows inputs (u ∷ s.chain)) progress u 1 l
        (entered (omega arith) (omega arith) (omega arith) (λ j h. absurd (omega arith)) (Memᴰ.head refl))
        (λ w ne. knows_chain (λ m. Memᴰ.tail m) (other_mem ne) (s.knows w));
    kept = every_set (λ (w x : ℕ). get_or before w 0 ≡ 8 → x ≡ 8) progress u 1 l
        (λ e. absurd (omega (arith, s.kept u e))) (λ w ne. s.kept w);
  }
    where
      fresh : Knows inputs s.chain u (get_or progress u 0) → Memᴰ u s.chain → ⊥
      fresh (untouched e h) m = h m
      fresh (entered a d f h i) m = omega arith
      fresh (finished e g h) m = h m

  -- the present slot is finished, and the search goes back to its parent
  pub leave : at < length progress → get_or progress at 0 ≡ 1 + length (inputs at) → (at ≡ root → ⊥)
      → Search inputs n root before (set progress at 8) parent (get_or parent at 0)
  leave l e ne = record {
    chain = back.0;
    linked = back.2;
    knows = every_set (Knows inputs back.0) progress at 8 l (finished refl (all_passed e) back.3)
        (λ w d. knows_chain (other_mem d) (λ m. Memᴰ.tail m)
        (subst (λ (c : List ℕ). Knows inputs c w (get_or progress w 0)) back.1 (s.knows w)));
    kept = every_set (λ (w x : ℕ). get_or before w 0 ≡ 8 → x ≡ 8) progress at 8 l (λ z. refl) (λ w d. s.kept w);
  }
    where
      back : (rest : List ℕ) × (s.chain ≡ at ∷ rest) × Chain inputs n root parent (get_or parent at 0) rest × (Memᴰ at rest → ⊥)
      back = chain_back s.linked ne

  -- the root is finished, and with it the search
  pub end : at < length progress → get_or progress at 0 ≡ 1 + length (inputs at) → at ≡ root
      → Searched inputs root before (set progress at 8) false
  end l e same = record {
    cycle = λ z. absurd (false≢true z);
    quiet = λ z. every_set (λ (w x : ℕ). (x ≡ 0) ⊎ ((x ≡ 8) × Grounded inputs w)) progress at 8 l
        (inr (refl, all_passed e)) (λ w d. still d (s.knows w));
    kept = λ z. every_set (λ (w x : ℕ). get_or before w 0 ≡ 8 → x ≡ 8) progress at 8 l (λ q. refl) (λ w d. s.kept w);
    reached = λ z. subst (λ (w : ℕ). get_or (set progress at 8) w 0 ≡ 8) same (get_or-set_same progress at 8 0 l);
  }
    where
      still : {w x : ℕ} → (w ≡ at → ⊥) → Knows inputs s.chain w x → (x ≡ 0) ⊎ ((x ≡ 8) × Grounded inputs w)
      still d (untouched q h) = inl q
      still {w} d (entered a b c h m) = absurd (d (chain_alone s.linked same m))
      still d (finished q g h) = inr (q, g)

-- nothing is entered where every progress is 0
pub quiet_zeros : (inputs : ℕ → List ℕ) (n : ℕ) → Quiet inputs (replicate n 0)
quiet_zeros inputs n w = inl (zero_at n w)
  where
    zero_at : (m i : ℕ) → ◌≡◌ {A = ℕ} (get_or (replicate m 0) i 0) 0
    zero_at zero i = refl
    zero_at (suc m) zero = refl
    zero_at (suc m) (suc i) = zero_at m i

-- the search begins
pub begin : {inputs : ℕ → List ℕ} {n root : ℕ} (before parent : List ℕ) → Quiet inputs before → root < n
    → root < length before → Search inputs n root (set before root 1) (set before root 1) parent root
begin {inputs} {root = root} before parent quiet b l = record {
  chain = root ∷ [];
  linked = last b;
  knows = every_set (Knows inputs (root ∷ [])) before root 1 l
      (entered (omega arith) (omega arith) (omega arith) (λ j f. absurd (omega arith)) (Memᴰ.head refl))
      (λ w d. let off : Memᴰ w (root ∷ []) → ⊥ = λ m. d (Memᴰ.eq_of_singleton m) in
      ⊎_elim (λ (z : get_or before w 0 ≡ 0). untouched z off)
      (λ (z : (get_or before w 0 ≡ 8) × Grounded inputs w). finished z.0 z.1 off)
      (quiet w));
  kept = λ w z. z;
}

-- and what was finished before is finished after it
pub since : {inputs : ℕ → List ℕ} {root : ℕ} (before : List ℕ) {after : List ℕ} {r : Bool} → root < length before
    → (get_or before root 0 ≡ 8 → ⊥) → Searched inputs root (set before root 1) after r → Searched inputs root before after r
since {root = root} before l h s = record {
  cycle = s.cycle;
  quiet = s.quiet;
  kept = λ e w z. s.kept e w
      (every_set (λ (v x : ℕ). get_or before v 0 ≡ 8 → x ≡ 8) before root 1 l (λ q. absurd (h q)) (λ v d q. q) w z);
  reached = s.reached;
}

-- a slot that is finished already needs no search
pub again : {inputs : ℕ → List ℕ} {root : ℕ} (before : List ℕ) → Quiet inputs before → get_or before root 0 ≡ 8
    → Searched inputs root before before false
again before quiet e = record { cycle = λ z. absurd (false≢true z); quiet = λ z. quiet; kept = λ z w h. h; reached = λ z. e }

-- where a cycle is found, nothing is promised of the slots
pub found : {inputs : ℕ → List ℕ} {v : ℕ} (root : ℕ) (before after : List ℕ) → OnCycle inputs v → Searched inputs root before after true
found {v = v} root before after c = record {
  cycle = λ z. (v, c);
  quiet = λ z. absurd (false≢true (sym z));
  kept = λ z. absurd (false≢true (sym z));
  reached = λ z. absurd (false≢true (sym z));
}

-- ---- the graph of a block

module _ {block : List ℕ} (closed : Closed block) where
  pub table : Table (inputs_of (graph_of block)) (slot_count block)
  unfolding empty_slot
  table = record {
    closed = λ v u m. let t = mem-place unused_place m in
        subst (λ (x : ℕ). x < slot_count block) t.2
        (closed.named v t.0 (rw (length-slots block) at (reader-inside (graph_of block) v u m)) t.1);
    ends = λ v l. inputs_past (graph_of block) v (rw (length-slots block) l);
  }

  pub slots_table : Table (inputs_of (graph_of block)) (length (graph_of block).slots)
  slots_table = rw (length-slots block) table

  -- one search found a cycle
  pub cycle_found : ((v : ℕ) × OnCycle (inputs_of (graph_of block)) v) → true ≡ has_cycle (graph_of block)
  cycle_found c = sym (cycles.cycle_found (graph_of block) slots_table c.1)

  -- every slot leads to no cycle
  all_grounded : ((v : ℕ) → v < slot_count block → Grounded (inputs_of (graph_of block)) v) → false ≡ has_cycle (graph_of block)
  all_grounded g = sym (cycles.acyclic_free (graph_of block) slots_table (grounded_acyclic table g))

  -- every slot is finished
  pub none_found : (progress : List ℕ) → Quiet (inputs_of (graph_of block)) progress
      → ((v : ℕ) → v < slot_count block → get_or progress v 0 ≡ 8) → false ≡ has_cycle (graph_of block)
  none_found progress quiet h = all_grounded (λ v l. ⊎_elim
      (λ (z : get_or progress v 0 ≡ 0). absurd (omega (arith, h v l)))
      (λ (z : (get_or progress v 0 ≡ 8) × Grounded (inputs_of (graph_of block)) v). z.1)
      (quiet v))

  -- in a sorted table the slots below any bound lead to no cycle, by induction on the bound
  sorted_grounded : sorted (inputs_of (graph_of block)) (slot_count block) ≡ true → (n v : ℕ) → v < n → v < slot_count block
      → Grounded (inputs_of (graph_of block)) v
  unfolding sorted reads_lower
  sorted_grounded h zero v l k = absurd (not-suc-le-zero l)
  sorted_grounded h (suc n) v l k = grounded {v = v} (λ u m.
      let lower = all_below_at (reads_lower (inputs_of (graph_of block))) (slot_count block) v h k in
      let low : u < v = ltb-true u v (all-member (λ w. ltb w v) lower m) in
      sorted_grounded h n u (omega arith) (omega arith))

  -- and so it has no cycle
  pub sorted_acyclic : sorted (inputs_of (graph_of block)) (slot_count block) ≡ true → false ≡ has_cycle (graph_of block)
  sorted_acyclic h = all_grounded (λ v l. sorted_grounded h (suc v) v (omega arith) l)
