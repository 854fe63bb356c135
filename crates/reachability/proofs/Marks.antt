-- Marks that have the three properties are the vertices with a path to a start, so there is one set of them; and they are made by marking
-- from one start after the other.
-- Assumes nothing.
use mathlib.Core.Path.{◌≡◌, refl, sym, ap, ◌∙◌, subst}
use mathlib.Core.Bool.{Bool, true, false}
use mathlib.Core.List.Memᴰ
use mathlib.Core.List.{List, [], ◌∷◌, ◌++◌, Memᴰ}
use mathlib.Core.Logic.{⊎_elim}
use Prim.Native.Nat.{ℕ, ◌+◌, ◌<◌}
use native.Mathlib.Numerals.{add-one}
use lib.ListN.{length, get_or, take, replicate}
use lib.Seq.{take-suc}
use Rattle.definitions.specs.Paths.{Reaches, here, onward, ReachesOne, is_marked}
use Rattle.laws.proofs.Lists.{true_not_false}
use Rattle.laws.proofs.Builds.{get_or_none}
use Rattle.laws.proofs.Tests.{same_tests}
use Rattle.reachability.specs.Marks.{Marks}
use Rattle.reachability.specs.Spread.{Spread}

module _ {inputs : ℕ → List ℕ} {starts : List ℕ} {marked : ℕ → Bool} (marks : Marks inputs starts marked) where
  -- back along a path from a marked vertex all is marked
  along : {v w : ℕ} → Reaches inputs v w → marked w ≡ true → marked v ≡ true
  along here t = t
  along (onward {v = u} {w = w} path e) t = along path (marks.closed w u t e)

  pub marked-reaches : (v : ℕ) → marked v ≡ true → ReachesOne inputs starts v
  marked-reaches = marks.paths

  pub reaches-marked : (v : ℕ) → ReachesOne inputs starts v → marked v ≡ true
  reaches-marked v r = along r.path (marks.started r.start r.listed)

-- There is one such set: whatever computes it gives the same marks.
pub marks_unique : {inputs : ℕ → List ℕ} {starts : List ℕ} {one other : ℕ → Bool}
    → Marks inputs starts one → Marks inputs starts other → (v : ℕ) → one v ≡ other v
marks_unique {one = one} {other = other} first second v =
    same_tests (λ t. reaches-marked second v (first.paths v t)) (λ t. reaches-marked first v (second.paths v t))

-- ---- marking from one start after the other

module _ {inputs : ℕ → List ℕ} where
  pub marks_none : (n : ℕ) → Marks inputs [] (is_marked (replicate n false))
  marks_none n = record {
    started = λ v m. absurd (Memᴰ.not-nil m);
    closed = λ w v t e. absurd (true_not_false t (get_or_none n w false));
    paths = λ v t. absurd (true_not_false t (get_or_none n v false));
  }

  marks_last : {starts : List ℕ} {root : ℕ} {marks after : List Bool} → Marks inputs starts (is_marked marks)
      → Spread inputs root marks after → Marks inputs (starts ++ root ∷ []) (is_marked after)
  marks_last {starts} {root} {marks} {after} before spread = record {
    started = λ v m. ⊎_elim
        (λ (k : Memᴰ v starts). spread.kept v (before.started v k))
        (λ (k : Memᴰ v (root ∷ [])).
        subst (λ (u : ℕ). is_marked after u ≡ true) (sym (Memᴰ.eq_of_singleton k)) spread.rooted)
        (Memᴰ.append_cases starts m);
    closed = spread.closed;
    paths = λ v t. ⊎_elim
        (λ (k : is_marked marks v ≡ true).
        let found = before.paths v k in
        record { start = found.start; listed = Memᴰ.append_left (root ∷ []) found.listed; path = found.path })
        (λ (p : Reaches inputs v root).
        record { start = root; listed = Memᴰ.append_right starts (Memᴰ.head refl); path = p })
        (spread.paths v t);
  }

  -- one start more
  pub marks_more : (starts : List ℕ) (i d : ℕ) {root : ℕ} {marks after : List Bool} → Marks inputs (take i starts) (is_marked marks)
      → i < length starts → root ≡ get_or starts i d → Spread inputs root marks after → Marks inputs (take (i + 1) starts) (is_marked after)
  marks_more starts i d {root} before l e spread =
      let next : take i starts ++ root ∷ [] ≡ take (i + 1) starts =
      rw e (sym (take-suc starts i d l)) ∙ ap (λ (n : ℕ). take n starts) (sym (add-one i)) in
      rw next at (marks_last before spread)
