-- The moves, found slot by slot, and a record whose places are renamed.
-- Assumes nothing.
use mathlib.Core.Path.{◌≡◌, refl, sym, ap, ◌∙◌}
use mathlib.Core.Bool.{true, false}
use mathlib.Core.List.{List, [], ◌∷◌, ◌++◌, map, append-nil}
use mathlib.Core.Logic.{⊎_elim}
use Prim.Native.Nat.{ℕ, zero, suc, ◌+◌, ◌<◌, ◌≤◌}
use native.Mathlib.Nat.{not-suc-le-zero, le_of_suc-le-suc}
use native.Mathlib.Numerals.{add-one}
use native.Mathlib.Omega.{arith}
use borrow.Author.Tests.{eqb-true, eqb-false}
use lib.Dec.{eqb}
use lib.ListN.{length, get_or, take, set, replicate, length-set, length-map, length-append, length-replicate, get_or-append}
use lib.Seq.{get_or-set_same, get_or-set_other, get_or_at}
use Rattle.definitions.specs.Lists.{tabulate, filter, padded, range}
use Rattle.definitions.specs.Graph.{slot_limit, input_limit, unused_place, Slot, Graph, renamed, is_vertex}
use Rattle.definitions.specs.Squeeze.{vertices_of, moved_to}
use Rattle.laws.proofs.Lists.{decided}
use Rattle.laws.proofs.Filtered.{filtered_more, filtered_most}
use Rattle.laws.proofs.Builds.{get_or_none}
use Rattle.graph_records.specs.declared.Record.{Record}
use Rattle.graph_records.specs.Records.{Stands}
use Rattle.tidying.proofs.Squeezed.{moved-count, moved_empty}
use Rattle.graph_moves.specs.Moving.{name_in, Moving}

-- ---- the moves of the first v slots; those behind are not looked at yet

pub record Begun (g : Graph) (v count : ℕ) (from to : List ℕ) : Type 0 where
  pub counted : count ≡ length (filter (is_vertex g) (range 0 v))
  pub from_size : length from ≡ slot_limit
  pub to_size : length to ≡ slot_limit
  pub listed : (k : ℕ) → k < count → name_in from k ≡ get_or (filter (is_vertex g) (range 0 v)) k unused_place
  pub each : (u : ℕ) → u < v → name_in to u ≡ moved_to g u
  pub rest : (u : ℕ) → v ≤ u → name_in to u ≡ unused_place

module _ (g : Graph) where
  abbrev vertices : ℕ → List ℕ
  vertices v = filter (is_vertex g) (range 0 v)

  pub begun_none : Begun g 0 0 (replicate 512 65535) (replicate 512 65535)
  unfolding filter range tabulate
  begun_none = record {
    counted = refl;
    from_size = length-replicate {A = ℕ} 512 65535;
    to_size = length-replicate {A = ℕ} 512 65535;
    listed = λ k l. absurd (not-suc-le-zero l);
    each = λ u l. absurd (not-suc-le-zero l);
    rest = λ u l. get_or_none {A = ℕ} 512 u 65535;
  }

  module _ (v count : ℕ) (from to : List ℕ) (begun : Begun g v count from to) where
    pub begun-most : count ≤ v
    begun-most = omega (arith, begun.counted, filtered_most (is_vertex g) v)

    pub begun-vertex : v < slot_limit → is_vertex g v ≡ true → Begun g (v + 1) (count + 1) (set from count v) (set to v count)
    begun-vertex l t =
        let next : vertices (v + 1) ≡ vertices v ++ v ∷ [] = ap vertices (add-one v) ∙ filtered_more (is_vertex g) v ∙ rw t in
        let held : v < length to = omega (arith, begun.to_size) in
        let room : count < length from = omega (arith, begun.from_size, begun-most) in
        record {
          counted = ap (λ (n : ℕ). n + 1) begun.counted ∙ sym (ap length next ∙ length-append (vertices v) (v ∷ []));
          from_size = length-set from count v ∙ begun.from_size;
          to_size = length-set to v count ∙ begun.to_size;
          listed = λ k m. rw next (⊎_elim
              (λ (e : eqb k count ≡ true).
              rw (eqb-true k count e) (get_or-set_same from count v unused_place room
              ∙ sym (get_or_at (vertices v) v [] unused_place count (sym begun.counted))))
              (λ (e : eqb k count ≡ false).
              let before : k < count = omega (arith, eqb-false k count e) in
              get_or-set_other from count k v unused_place (eqb-false k count e) ∙ begun.listed k before
              ∙ sym (get_or-append (vertices v) (v ∷ []) unused_place k (omega (arith, begun.counted))))
              (decided (eqb k count)));
          each = λ u m. ⊎_elim
              (λ (e : eqb u v ≡ true).
              rw (eqb-true u v e) (get_or-set_same to v count unused_place held ∙ begun.counted ∙ sym (moved-count g v t)))
              (λ (e : eqb u v ≡ false).
              get_or-set_other to v u count unused_place (eqb-false u v e) ∙ begun.each u (omega (arith, eqb-false u v e)))
              (decided (eqb u v));
          rest = λ u m. get_or-set_other to v u count unused_place (λ e. omega arith) ∙ begun.rest u (omega arith);
        }

    pub begun_empty : is_vertex g v ≡ false → Begun g (v + 1) count from to
    begun_empty f =
        let next : vertices (v + 1) ≡ vertices v = ap vertices (add-one v) ∙ filtered_more (is_vertex g) v ∙ rw f (append-nil (vertices v)) in
        record {
          counted = begun.counted ∙ ap length (sym next);
          from_size = begun.from_size;
          to_size = begun.to_size;
          listed = λ k m. rw next (begun.listed k m);
          each = λ u m. ⊎_elim
              (λ (e : eqb u v ≡ true). rw (eqb-true u v e) (begun.rest v (omega arith) ∙ sym (moved_empty g v f)))
              (λ (e : eqb u v ≡ false). begun.each u (omega (arith, eqb-false u v e)))
              (decided (eqb u v));
          rest = λ u m. begun.rest u (omega arith);
        }

  pub begun_all : {count : ℕ} {from to : List ℕ} → Begun g (length g.slots) count from to → Moving g (length g.slots) count from to
  unfolding vertices_of
  begun_all begun = record {
    counted = begun.counted;
    from_size = begun.from_size;
    to_size = begun.to_size;
    listed = begun.listed;
    each = begun.each;
  }

-- ---- a record whose places are renamed

-- the first places of a list that was filled up are the list
taken : (d : ℕ) (n : ℕ) (xs : List ℕ) → length xs ≤ n → take (length xs) (padded n d xs) ≡ xs
unfolding padded
taken d n [] l = refl
taken d (suc n) (x ∷ xs) l = ap (λ (ys : List ℕ). x ∷ ys) (taken d n xs (le_of_suc-le-suc l))
taken d zero (x ∷ xs) l = absurd (not-suc-le-zero l)

pub used_places : {r : Record} {s : Slot} → Stands r s → length s.inputs ≤ input_limit → take r.n r.inputs ≡ s.inputs
used_places {r} {s} h few = rw (h.input_count, h.inputs) (taken unused_place input_limit s.inputs few)

pub renamed_stands : (to : List ℕ) (r after : Record) (s : Slot) → Stands r s → length s.inputs ≤ input_limit
    → after.kind ≡ r.kind → after.operator ≡ r.operator → after.n ≡ r.n → after.m ≡ r.m → after.attributes ≡ r.attributes
    → after.inputs ≡ padded input_limit unused_place (map (name_in to) (take r.n r.inputs))
    → Stands after (renamed (name_in to) s)
unfolding renamed
renamed_stands to r after s h few kind operator n m attributes inputs = record {
  kind = kind ∙ h.kind;
  operator = operator ∙ h.operator;
  input_count = n ∙ h.input_count ∙ sym (length-map s.inputs (name_in to));
  attribute_count = m ∙ h.attribute_count;
  inputs = inputs ∙ ap (λ (xs : List ℕ). padded input_limit unused_place (map (name_in to) xs)) (used_places h few);
  attributes = attributes ∙ h.attributes;
}
