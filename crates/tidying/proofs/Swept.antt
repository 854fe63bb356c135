-- The swept table: which slots it empties, that it is sound, that it keeps results, and that a second sweep changes nothing.
-- Assumes nothing.
use mathlib.Core.Path.{◌≡◌, refl, sym, ◌∙◌, subst}
use mathlib.Core.Bool.{Bool, true, false, not, ◌&&◌}
use mathlib.Core.List.Memᴰ
use mathlib.Core.List.{List, Memᴰ}
use mathlib.Core.Logic.{◌⊎◌, inl, inr, ⊎_elim}
use Prim.Native.Nat.{ℕ, ◌<◌, ◌≤◌}
use native.Mathlib.Omega.{arith}
use borrow.Author.Tests.{eqb-true, not-true, ltb-true, ltb-false}
use lib.Dec.{eqb, ltb}
use lib.ListN.{length}
use lib.Seq.{ext_get_or}
use Rattle.definitions.specs.Operators.{kind_empty, kind_variable, kind_call, row_of, kinds}
use Rattle.definitions.specs.Paths.{Reads, Reaches, here, onward, ReachesOne, Acyclic, is_marked}
use Rattle.definitions.specs.Graph.{Slot, Graph, empty_slot, slot_of, inputs_of, is_vertex, is_variable}
use Rattle.definitions.specs.Sweep.{Unneeded, reaching_outputs, is_unneeded, swept_slot, sweep}
use Rattle.laws.proofs.Lists.{decided, true_not_false, fails, and_left, and_right, length-tabulate, get_or_tabulate, length_none}
use Rattle.laws.proofs.Graph.{slot_past, reader-inside, vertex-inside}
use Rattle.laws.proofs.Operators.{row-inputs}
use Rattle.theory.proofs.Paths.{reaches_trans}
use Rattle.theory.proofs.Results.{named_table}
use Rattle.reachability.proofs.Reaching.{reaching-sound, reaching_complete}
use Rattle.encoding.specs.Tables.{Table, Words}
use Rattle.encoding.proofs.Blocks.{shaped}
use Rattle.encoding.proofs.Graphs.{empty_fits}
use Rattle.tidying.proofs.Carried.{renamed_self, Carries, acyclic_back}

module _ (g : Graph) (table : Table g) where
  abbrev marks : List Bool
  marks = reaching_outputs g

  abbrev Needed : ℕ → Type 0
  Needed v = ReachesOne (inputs_of g) g.outputs v

  -- ---- what is marked, and what goes

  outputs-inside : (v : ℕ) → Memᴰ v g.outputs → v < length g.slots
  outputs-inside v m = vertex-inside g v (table.outputs v m)

  marked_needed : (v : ℕ) → is_marked marks v ≡ true → Needed v
  unfolding reaching_outputs
  marked_needed = reaching-sound (named_table g table.inputs) g.outputs outputs-inside

  needed_marked : (v : ℕ) → Needed v → is_marked marks v ≡ true
  unfolding reaching_outputs
  needed_marked = reaching_complete (named_table g table.inputs) g.outputs outputs-inside

  pub unneeded_sound : (v : ℕ) → is_unneeded g marks v ≡ true → Unneeded g v
  unfolding is_unneeded
  unneeded_sound v t =
      let first = and_left (is_vertex g v && not (is_variable g v)) (not (is_marked marks v)) t in
      record {
        vertex = and_left (is_vertex g v) (not (is_variable g v)) first;
        other = not-true (is_variable g v) (and_right (is_vertex g v) (not (is_variable g v)) first);
        unreached = λ needed. true_not_false (needed_marked v needed)
            (not-true (is_marked marks v) (and_right (is_vertex g v && not (is_variable g v)) (not (is_marked marks v)) t));
      }

  pub unneeded_complete : (v : ℕ) → Unneeded g v → is_unneeded g marks v ≡ true
  unfolding is_unneeded
  unneeded_complete v u = simp (u.vertex, u.other, fails (λ t. u.unreached (marked_needed v t)))

  needed_stays : (v : ℕ) → Needed v → is_unneeded g marks v ≡ false
  needed_stays v needed = fails (λ t. (unneeded_sound v t).unreached needed)

  -- ---- slots

  pub swept_size : length (sweep g).slots ≡ length g.slots
  unfolding sweep
  swept_size = length-tabulate (length g.slots) (swept_slot g marks)

  swept_at : (v : ℕ) → slot_of (sweep g) v ≡ swept_slot g marks v
  unfolding sweep slot_of swept_slot
  swept_at v = ⊎_elim
      (λ (t : ltb v (length g.slots) ≡ true).
      get_or_tabulate (length g.slots) (swept_slot g marks) v empty_slot (ltb-true v (length g.slots) t))
      (λ (t : ltb v (length g.slots) ≡ false).
      let past = ltb-false v (length g.slots) t in
      slot_past (sweep g) v (omega (arith, swept_size)) ∙ sym (both v (is_unneeded g marks v) refl past))
      (decided (ltb v (length g.slots)))
    where
      both : (v : ℕ) (b : Bool) → is_unneeded g marks v ≡ b → length g.slots ≤ v → swept_slot g marks v ≡ empty_slot
      both v true e past = rw e
      both v false e past = rw e (slot_past g v past)

  pub stays-slot : (v : ℕ) → is_unneeded g marks v ≡ false → slot_of (sweep g) v ≡ slot_of g v
  unfolding swept_slot
  stays-slot v f = swept_at v ∙ rw f

  pub goes-slot : (v : ℕ) → is_unneeded g marks v ≡ true → slot_of (sweep g) v ≡ empty_slot
  unfolding swept_slot
  goes-slot v t = swept_at v ∙ rw t

  goes_empty : (v : ℕ) → is_unneeded g marks v ≡ true → is_vertex (sweep g) v ≡ false
  unfolding is_vertex empty_slot
  goes_empty v t = rw (goes-slot v t)

  stays_same : (v : ℕ) → is_unneeded g marks v ≡ false → is_vertex (sweep g) v ≡ is_vertex g v
  unfolding is_vertex
  stays_same v f = rw (stays-slot v f)

  -- a vertex of the swept table stays
  pub vertex-stays : (v : ℕ) → is_vertex (sweep g) v ≡ true → is_unneeded g marks v ≡ false
  vertex-stays v t = fails (λ gone. true_not_false t (goes_empty v gone))

  -- Empty after exactly where Empty before, or unneeded
  pub empty_only : (v : ℕ) → is_vertex (sweep g) v ≡ false → (is_vertex g v ≡ false) ⊎ Unneeded g v
  empty_only v f = ⊎_elim
      (λ (t : is_unneeded g marks v ≡ true). inr (unneeded_sound v t))
      (λ (t : is_unneeded g marks v ≡ false). inl (sym (stays_same v t) ∙ f))
      (decided (is_unneeded g marks v))

  pub empty_every : (v : ℕ) → (is_vertex g v ≡ false) ⊎ Unneeded g v → is_vertex (sweep g) v ≡ false
  empty_every v (inl f) = ⊎_elim
      (λ (t : is_unneeded g marks v ≡ true). goes_empty v t)
      (λ (t : is_unneeded g marks v ≡ false). stays_same v t ∙ f)
      (decided (is_unneeded g marks v))
  empty_every v (inr u) = goes_empty v (unneeded_complete v u)

  -- ---- what a vertex that stays reads stays

  -- an Empty slot and a Variable read nothing
  pub leaf_reads : (k v : ℕ) → eqb (slot_of g k).kind kind_call ≡ false → (row_of (slot_of g k).kind).greatest ≡ 0 → k < length g.slots
      → Reads (inputs_of g) k v → ⊥
  leaf_reads k v other none l e =
      let s = slot_of g k in
      let few = row-inputs s.kind s.operator (length s.inputs) (length s.attributes) (shaped g table k l) other in
      Memᴰ.not-nil (rw (length_none s.inputs (omega (arith, few))) at e)

  reader_needed : (k v : ℕ) → is_unneeded g marks k ≡ false → Reads (inputs_of g) k v → Needed k
  unfolding is_unneeded is_vertex is_variable row_of kinds
  reader_needed k v f e = ⊎_elim
      (λ (t : is_marked marks k ≡ true). marked_needed k t)
      (λ (t : is_marked marks k ≡ false).
      let l = vertex-inside-reader in
      ⊎_elim
      (λ (empty : eqb (slot_of g k).kind kind_empty ≡ true).
      let kind = eqb-true (slot_of g k).kind kind_empty empty in
      absurd (leaf_reads k v (rw kind) (rw kind) l e))
      (λ (vertex : eqb (slot_of g k).kind kind_empty ≡ false). ⊎_elim
      (λ (variable : eqb (slot_of g k).kind kind_variable ≡ true).
      let kind = eqb-true (slot_of g k).kind kind_variable variable in
      absurd (leaf_reads k v (rw kind) (rw kind) l e))
      (λ (other : eqb (slot_of g k).kind kind_variable ≡ false). absurd (true_not_false (simp (vertex, other, t)) f))
      (decided (eqb (slot_of g k).kind kind_variable)))
      (decided (eqb (slot_of g k).kind kind_empty)))
      (decided (is_marked marks k))
    where
      vertex-inside-reader : k < length g.slots
      vertex-inside-reader = reader-inside g k v e

  read_needed : (k v : ℕ) → Needed k → Reads (inputs_of g) k v → Needed v
  read_needed k v needed e = record {
    start = needed.start;
    listed = needed.listed;
    path = reaches_trans (onward here e) needed.path;
  }

  stays-reads : (k v : ℕ) → is_unneeded g marks k ≡ false → Reads (inputs_of g) k v → is_vertex (sweep g) v ≡ true
  stays-reads k v f e = stays_same v (needed_stays v (read_needed k v (reader_needed k v f e) e)) ∙ table.inputs k v e

  -- an edge of the swept table is one of the old table
  old_edge : (k v : ℕ) → Reads (inputs_of (sweep g)) k v → (is_unneeded g marks k ≡ false) × Reads (inputs_of g) k v
  unfolding empty_slot
  old_edge k v e = ⊎_elim
      (λ (t : is_unneeded g marks k ≡ true).
      absurd (Memᴰ.not-nil (subst (λ (s : Slot). Memᴰ v s.inputs) (goes-slot k t) e)))
      (λ (f : is_unneeded g marks k ≡ false). (f, subst (λ (s : Slot). Memᴰ v s.inputs) (stays-slot k f) e))
      (decided (is_unneeded g marks k))

  -- ---- the swept table is sound

  outputs_stay : (v : ℕ) → Memᴰ v g.outputs → is_vertex (sweep g) v ≡ true
  outputs_stay v m = stays_same v (needed_stays v (record { start = v; listed = m; path = here })) ∙ table.outputs v m

  pub swept_table : Table (sweep g)
  unfolding sweep
  swept_table = record {
    size = rw swept_size table.size;
    output_count = table.output_count;
    shapes = λ k l. ⊎_elim
        (λ (t : is_unneeded g marks k ≡ true). rw (goes-slot k t) empty_fits)
        (λ (f : is_unneeded g marks k ≡ false). rw (stays-slot k f) (table.shapes k (omega (arith, swept_size))))
        (decided (is_unneeded g marks k));
    inputs = λ k v e. let old = old_edge k v e in stays-reads k v old.0 old.1;
    outputs = outputs_stay;
  }

  pub swept_words : Words g → Words (sweep g)
  unfolding empty_slot
  swept_words words k l w m = ⊎_elim
      (λ (t : is_unneeded g marks k ≡ true). absurd (Memᴰ.not-nil (rw (goes-slot k t) at m)))
      (λ (f : is_unneeded g marks k ≡ false). words k (omega (arith, swept_size)) w (rw (stays-slot k f) at m))
      (decided (is_unneeded g marks k))

  pub swept_acyclic : Acyclic (inputs_of g) → Acyclic (inputs_of (sweep g))
  swept_acyclic = acyclic_back (λ v. v) (λ w v e. (old_edge w v e).1)

  -- ---- what stays is carried over as it is

  pub swept_carries : Carries g (sweep g) (λ v. is_vertex (sweep g) v ≡ true) (λ v. v)
  swept_carries = record {
    vertex = λ v t. sym (stays_same v (vertex-stays v t)) ∙ t;
    slot = λ v t. stays-slot v (vertex-stays v t) ∙ sym (renamed_self (slot_of g v));
    read = λ v u t e. stays-reads v u (vertex-stays v t) e;
  }

  -- ---- a second sweep

  -- a vertex stays because it is a Variable or because it is needed
  stays_why : (v : ℕ) → is_unneeded g marks v ≡ false → is_vertex g v ≡ true → (is_variable g v ≡ true) ⊎ Needed v
  unfolding is_unneeded
  stays_why v f t = ⊎_elim
      (λ (marked : is_marked marks v ≡ true). inr (marked_needed v marked))
      (λ (unmarked : is_marked marks v ≡ false). ⊎_elim
      (λ (variable : is_variable g v ≡ true). inl variable)
      (λ (other : is_variable g v ≡ false). absurd (true_not_false (simp (t, other, unmarked)) f))
      (decided (is_variable g v)))
      (decided (is_marked marks v))

  path_stays : {u w : ℕ} → Reaches (inputs_of g) u w → Needed w → Reaches (inputs_of (sweep g)) u w
  path_stays here needed = here
  path_stays (onward {v = v} {w = w} path e) needed =
      onward (path_stays path (read_needed w v needed e))
      (subst (λ (s : Slot). Memᴰ v s.inputs) (sym (stays-slot w (needed_stays w needed))) e)

  needed_still : (v : ℕ) → Needed v → ReachesOne (inputs_of (sweep g)) (sweep g).outputs v
  unfolding sweep
  needed_still v needed = record {
    start = needed.start;
    listed = needed.listed;
    path = path_stays needed.path (record { start = needed.start; listed = needed.listed; path = here });
  }

  none_unneeded : (v : ℕ) → Unneeded (sweep g) v → ⊥
  unfolding is_variable
  none_unneeded v u =
      let f = vertex-stays v u.vertex in
      ⊎_elim
      (λ (variable : is_variable g v ≡ true). true_not_false variable (rw (stays-slot v f) at u.other))
      (λ (needed : Needed v). u.unreached (needed_still v needed))
      (stays_why v f (sym (stays_same v f) ∙ u.vertex))

-- sweeping twice changes nothing more
pub swept_twice : (g : Graph) → Table g → sweep (sweep g) ≡ sweep g
unfolding slot_of sweep
swept_twice g table =
    let again = swept_table g table in
    let same : (sweep (sweep g)).slots ≡ (sweep g).slots =
    ext_get_or empty_slot (sweep (sweep g)).slots (sweep g).slots (swept_size (sweep g) again)
    (λ v l. slot_same v) in
    λ i. record { slots = same i; outputs = (sweep g).outputs }
  where
    slot_same : (v : ℕ) → slot_of (sweep (sweep g)) v ≡ slot_of (sweep g) v
    slot_same v =
        stays-slot (sweep g) (swept_table g table) v
        (fails (λ t. none_unneeded g table v (unneeded_sound (sweep g) (swept_table g table) v t)))
