-- A visit of a copy and of what it names, step by step, as the code makes it.
-- Assumes nothing.
use mathlib.Core.Path.{◌≡◌, refl, sym, ap, ◌∙◌}
use mathlib.Core.Bool.{true, false}
use mathlib.Core.List.{List, [], ◌∷◌, ◌++◌}
use Prim.Native.Nat.{ℕ, zero, suc, ◌+◌, ◌-◌, ◌<◌, ◌≤◌}
use native.Mathlib.Nat.{add-zero, add-suc, suc-add, not-suc-le-zero}
use native.Mathlib.Numerals.{add-one}
use native.Mathlib.Omega.{arith}
use lib.ListN.{get_or, take, set}
use lib.Seq.{get_or-set_other}
use Rattle.definitions.specs.Lists.{tabulate, foldl, concat_map, member, range}
use Rattle.definitions.specs.Paths.{visit}
use Rattle.definitions.specs.Variadic.{original}
use Rattle.definitions.specs.VariadicBlock.{expanded_limit}
use Rattle.variadic_order.specs.Order.{copy_numbers, Ordered}
use Rattle.variadic_order.specs.Sides.{field_count, field_names, names_from, side_names}
use Rattle.variadic_order.specs.Visits.{Visited, NamesOne, Visits, VisitsNames}
use Rattle.variadic_order.proofs.Orders.{no_number, some_number, ordered_visited, ordered_more, ordered_full, ordered_longer, visits_longer}

-- ---- numbers from i on

pub range_none : (i n : ℕ) → n ≤ i → range i n ≡ []
unfolding range tabulate
range_none i n l = let e : n - i ≡ 0 = omega arith in rw e

pub range-next : (i n : ℕ) → i < n → range i n ≡ i ∷ range (i + 1) n
unfolding range tabulate
range-next i n l =
    let e : n - i ≡ suc (n - (i + 1)) = omega arith in
    rw e (simp (add-zero, add-suc, add-one, suc-add))

module _ (block : List ℕ) (first base tuple n : ℕ) where
  abbrev names : ℕ → List ℕ
  names = side_names block first base tuple n

  abbrev field : ℕ → ℕ → List ℕ
  field c i = field_names block first base tuple n c i

  names-end : (c i : ℕ) → i ≡ field_count block first base tuple n c → names_from block first base tuple n c i ≡ []
  unfolding names_from concat_map
  names-end c i e = rw (range_none i (field_count block first base tuple n c) (omega arith))

  names-next : (c i : ℕ) → i < field_count block first base tuple n c
      → names_from block first base tuple n c i ≡ field c i ++ names_from block first base tuple n c (i + 1)
  unfolding names_from concat_map
  names-next c i l = rw (range-next i (field_count block first base tuple n c) l)

  -- ---- a copy

  module _ (c : ℕ) (below : c < copy_numbers) {copies numbers : List ℕ} {count : ℕ} (v : Visited copies numbers count) where
    passed : (d : ℕ) → original c < d → (get_or numbers c 0 ≡ 0 → ⊥) → visit names d (take count copies) c ≡ take count copies
    unfolding visit
    passed zero l s = absurd (not-suc-le-zero l)
    passed (suc d) l s =
        let here : member c (take count copies) ≡ true =
        some_number (take count copies) c (λ e. s (v.ordered.numbered v.space c below ∙ e)) in
        rw here

    -- it has its number
    pub visit_again : (get_or numbers c 0 ≡ 0 → ⊥) → Visits block first base tuple n c copies numbers count copies numbers count
    visit_again s = record { ordered = λ d l. rw (passed d l s) v.ordered; higher = λ x l. refl }

    module _ (none : get_or numbers c 0 ≡ 0) {copies_after numbers_after : List ℕ} {after : ℕ}
        (w : VisitsNames block first base tuple n c 0 copies numbers count copies_after numbers_after after) where
      entered : (d : ℕ) → visit names (suc d) (take count copies) c ≡ foldl (visit names d) (take count copies) (names c) ++ c ∷ []
      unfolding visit
      entered d =
          let new : member c (take count copies) ≡ false =
          no_number (take count copies) c (sym (v.ordered.numbered v.space c below) ∙ none) in
          rw new

      -- what it names is visited, at the depth below
      before : (d : ℕ) → original c ≤ d → Ordered (foldl (visit names d) (take count copies) (names c)) copies_after numbers_after after
      unfolding side_names
      before d l = w.ordered d l

      over : expanded_limit ≤ after → (d : ℕ) → original c < d
          → Ordered (visit names d (take count copies) c) copies_after numbers_after (expanded_limit + 1)
      over f zero l = absurd (not-suc-le-zero l)
      over f (suc d) l = rw (entered d) (ordered_full (before d (omega arith)) c f)

      -- there is no space for it
      pub visit_full : expanded_limit ≤ after
          → Visits block first base tuple n c copies numbers count copies_after numbers_after (expanded_limit + 1)
      visit_full f = record { ordered = over f; higher = λ x l. w.higher x (omega arith) }

      more : after < expanded_limit → (d : ℕ) → original c < d
          → Ordered (visit names d (take count copies) c) (set copies_after after c) (set numbers_after c (after + 1)) (after + 1)
      more f zero l = absurd (not-suc-le-zero l)
      more f (suc d) l = rw (entered d) (ordered_more (before d (omega arith)) c f below (w.higher c (omega arith) ∙ none))

      -- it is the next
      pub visit-added : after < expanded_limit
          → Visits block first base tuple n c copies numbers count (set copies_after after c) (set numbers_after c (after + 1)) (after + 1)
      visit-added f = record {
        ordered = more f;
        higher = λ x l. get_or-set_other numbers_after c x (after + 1) 0 (λ e. let same : original x ≡ original c = ap original e in omega arith)
            ∙ w.higher x (omega arith);
      }

  pub names_visited : {c : ℕ} {copies numbers : List ℕ} {count : ℕ} {copies_after numbers_after : List ℕ} {after : ℕ}
      → Visits block first base tuple n c copies numbers count copies_after numbers_after after → after ≤ expanded_limit
      → Visited copies_after numbers_after after
  names_visited {c} u f = ordered_visited (u.ordered (suc (original c)) (omega arith)) f

  -- ---- what a copy names

  module _ (c i named : ℕ) (left : i < field_count block first base tuple n c) (m : NamesOne (field c i) (original c) named) where
    one_first : (d : ℕ) (done : List ℕ) → foldl (visit names d) done (names_from block first base tuple n c i)
        ≡ foldl (visit names d) (visit names d done named) (names_from block first base tuple n c (i + 1))
    unfolding foldl
    one_first d done = rw (names-next c i left, m.one)

  module _ (c i : ℕ) {copies numbers : List ℕ} {count : ℕ} where
    pub names-done : i ≡ field_count block first base tuple n c → Visited copies numbers count
        → VisitsNames block first base tuple n c i copies numbers count copies numbers count
    unfolding foldl
    names-done e v = record { ordered = λ d l. rw (names-end c i e) v.ordered; higher = λ x l. refl }

    module _ (left : i < field_count block first base tuple n c) {copies_after numbers_after : List ℕ} {after : ℕ} where
      -- the field is a rule input
      pub names_skipped : field c i ≡ []
          → VisitsNames block first base tuple n c (i + 1) copies numbers count copies_after numbers_after after
          → VisitsNames block first base tuple n c i copies numbers count copies_after numbers_after after
      names_skipped none w = record { ordered = λ d l. rw (names-next c i left, none) (w.ordered d l); higher = w.higher }

      module _ (named : ℕ) (m : NamesOne (field c i) (original c) named)
          (u : Visits block first base tuple n named copies numbers count copies_after numbers_after after) where
        pub names_over : expanded_limit < after → VisitsNames block first base tuple n c i copies numbers count copies_after numbers_after after
        names_over f = record {
          ordered = λ d l. rw (one_first c i named left m d (take count copies))
              (ordered_longer (u.ordered d (omega (arith, m.lower))) f
              (visits_longer names d (names_from block first base tuple n c (i + 1)) (visit names d (take count copies) named)));
          higher = λ x l. u.higher x (omega (arith, m.lower));
        }

        pub names_passed : {copies_last numbers_last : List ℕ} {last : ℕ} → after ≤ expanded_limit
            → VisitsNames block first base tuple n c (i + 1) copies_after numbers_after after copies_last numbers_last last
            → VisitsNames block first base tuple n c i copies numbers count copies_last numbers_last last
        names_passed f w = record {
          ordered = λ d l. rw (one_first c i named left m d (take count copies), ← (u.ordered d (omega (arith, m.lower))).whole f)
              (w.ordered d l);
          higher = λ x l. w.higher x l ∙ u.higher x (omega (arith, m.lower));
        }
