-- What computes the vertices that reach a start gives those vertices: n rounds end with marks that no further round changes, since
-- each round before had marked one slot more.
-- Assumes nothing.
use mathlib.Core.Path.{◌≡◌, sym, ap, ◌∙◌}
use mathlib.Core.Bool.{Bool, true, false, not, ◌&&◌, ◌||◌, or-true}
use mathlib.Core.List.Memᴰ
use mathlib.Core.List.{List, Memᴰ}
use mathlib.Core.Logic.{◌⊎◌, inl, inr, ⊎_elim}
use Prim.Native.Nat.{ℕ, zero, suc, ◌<◌, ◌≤◌}
use native.Mathlib.Omega.{arith}
use borrow.Author.Tests.{ltb-true, ltb-false, not-true}
use lib.Dec.{ltb}
use lib.ListN.{length, get_or-eq_default}
use Rattle.definitions.specs.Lists.{any_below, tabulate, member}
use Rattle.definitions.specs.Paths.{Reads, here, onward, ReachesOne, is_marked, grown, grown_by, reaching}
use Rattle.laws.proofs.Lists.{decided, true_not_false, and_left, and_right, any_below-found, any_below_some, length-tabulate, get_or_tabulate}
use Rattle.laws.proofs.Members.{member_mem, mem_member}
use Rattle.theory.proofs.Paths.{Table, reaches_trans}
use Rattle.reachability.specs.Marks.{Marks}
use Rattle.laws.proofs.Tallies.{tally, tally_full, tally_more}
use Rattle.reachability.proofs.Marks.{marked-reaches, reaches-marked}

-- marks that are made by index: within, and past the end
tabulated_at : (n : ℕ) (f : ℕ → Bool) (v : ℕ) → v < n → is_marked (tabulate n f) v ≡ f v
tabulated_at n f v l = get_or_tabulate n f v false l

tabulated_inside : (n : ℕ) (f : ℕ → Bool) (v : ℕ) → is_marked (tabulate n f) v ≡ true → v < n
tabulated_inside n f v t = ⊎_elim
    (λ (s : ltb v n ≡ true). ltb-true v n s)
    (λ (s : ltb v n ≡ false).
    let past : length (tabulate n f) ≤ v = omega (arith, length-tabulate n f, ltb-false v n s) in
    absurd (true_not_false t (get_or-eq_default (tabulate n f) false past)))
    (decided (ltb v n))

module _ (inputs : ℕ → List ℕ) (n : ℕ) where
  -- v is read by a marked slot
  abbrev read_marked : List Bool → ℕ → Bool
  read_marked marks v = any_below (λ w. is_marked marks w && member v (inputs w)) n

  -- ---- one round

  grown-kept : (marks : List Bool) (v : ℕ) → v < n → is_marked marks v ≡ true → is_marked (grown inputs n marks) v ≡ true
  unfolding grown
  grown-kept marks v l t = tabulated_at n (λ u. is_marked marks u || read_marked marks u) v l ∙ simp t

  grown-read : (marks : List Bool) (w v : ℕ) → w < n → v < n → is_marked marks w ≡ true → Reads inputs w v
      → is_marked (grown inputs n marks) v ≡ true
  unfolding grown
  grown-read marks w v k l t e =
      tabulated_at n (λ u. is_marked marks u || read_marked marks u) v l
      ∙ ap (λ (b : Bool). is_marked marks v || b)
      (any_below-found (λ x. is_marked marks x && member v (inputs x)) n w k (simp (t, mem_member e)))
      ∙ or-true (is_marked marks v)

  -- and nothing else is marked
  grown_cases : (marks : List Bool) (v : ℕ) → is_marked (grown inputs n marks) v ≡ true
      → (is_marked marks v ≡ true) ⊎ ((w : ℕ) × (w < n) × (is_marked marks w ≡ true) × Reads inputs w v)
  unfolding grown
  grown_cases marks v t =
      let inside = tabulated_inside n (λ u. is_marked marks u || read_marked marks u) v t in
      let h : (is_marked marks v || read_marked marks v) ≡ true =
      sym (tabulated_at n (λ u. is_marked marks u || read_marked marks u) v inside) ∙ t in
      ⊎_elim (λ (s : is_marked marks v ≡ true). inl s)
      (λ (s : is_marked marks v ≡ false).
      let found = any_below_some (λ w. is_marked marks w && member v (inputs w)) n (simp s at h) in
      let w = found.0 in
      inr (
        w,
        found.1,
        and_left (is_marked marks w) (member v (inputs w)) found.2,
        member_mem v (inputs w) (and_right (is_marked marks w) (member v (inputs w)) found.2),
      ))
      (decided (is_marked marks v))

  grown-inside : (marks : List Bool) (v : ℕ) → is_marked (grown inputs n marks) v ≡ true → v < n
  unfolding grown
  grown-inside marks v t = tabulated_inside n (λ u. is_marked marks u || read_marked marks u) v t

  -- ---- marks that a round does not change

  abbrev Settled : List Bool → Type 0
  Settled marks = (v : ℕ) → is_marked (grown inputs n marks) v ≡ true → is_marked marks v ≡ true

  settled_next : (marks : List Bool) → Settled marks → Settled (grown inputs n marks)
  settled_next marks settled v t = ⊎_elim
      (λ (s : is_marked (grown inputs n marks) v ≡ true). s)
      (λ (f : (w : ℕ) × (w < n) × (is_marked (grown inputs n marks) w ≡ true) × Reads inputs w v).
      grown-read marks f.0 v f.1 (grown-inside (grown inputs n marks) v t) (settled f.0 f.2) f.3)
      (grown_cases (grown inputs n marks) v t)

  -- a round changes nothing, or it marks a slot
  settled_or : (marks : List Bool)
      → Settled marks ⊎ ((v : ℕ) × (v < n) × (is_marked marks v ≡ false) × (is_marked (grown inputs n marks) v ≡ true))
  settled_or marks =
      let next = grown inputs n marks in
      let new : ℕ → Bool = λ v. not (is_marked marks v) && is_marked next v in
      ⊎_elim
      (λ (t : any_below new n ≡ true).
      let found = any_below_some new n t in
      let v = found.0 in
      inr (
        v,
        found.1,
        not-true (is_marked marks v) (and_left (not (is_marked marks v)) (is_marked next v) found.2),
        and_right (not (is_marked marks v)) (is_marked next v) found.2,
      ))
      (λ (t : any_below new n ≡ false). inl (λ v s. ⊎_elim
      (λ (k : is_marked marks v ≡ true). k)
      (λ (k : is_marked marks v ≡ false).
      absurd (true_not_false (any_below-found new n v (grown-inside marks v s) (simp (k, s))) t))
      (decided (is_marked marks v))))
      (decided (any_below new n))

  -- ---- k rounds, from marks of slots

  module _ (first : List Bool) (inside : (v : ℕ) → is_marked first v ≡ true → v < n) where
    abbrev after : ℕ → List Bool
    after k = grown_by inputs n first k

    after-inside : (k v : ℕ) → is_marked (after k) v ≡ true → v < n
    unfolding grown_by
    after-inside zero v t = inside v t
    after-inside (suc k) v t = grown-inside (after k) v t

    after_kept : (k v : ℕ) → is_marked first v ≡ true → is_marked (after k) v ≡ true
    unfolding grown_by
    after_kept zero v t = t
    after_kept (suc k) v t = grown-kept (after k) v (inside v t) (after_kept k v t)

    -- after k rounds a further one changes nothing, or k slots are marked
    progress : (k : ℕ) → Settled (after k) ⊎ (k ≤ tally (is_marked (after k)) n)
    unfolding grown_by
    progress zero = inr (omega arith)
    progress (suc k) = ⊎_elim
        (λ (s : Settled (after k)). inl (settled_next (after k) s))
        (λ (l : k ≤ tally (is_marked (after k)) n). ⊎_elim
        (λ (s : Settled (after k)). inl (settled_next (after k) s))
        (λ (f : (v : ℕ) × (v < n) × (is_marked (after k) v ≡ false) × (is_marked (grown inputs n (after k)) v ≡ true)).
        inr (omega (
          arith,
          tally_more (is_marked (after k)) (is_marked (grown inputs n (after k)))
              (λ v t. grown-kept (after k) v (after-inside k v t) t) n f.0 f.1 f.2 f.3,
        )))
        (settled_or (after k)))
        (progress k)

    settled : Settled (after n)
    settled = ⊎_elim (λ (s : Settled (after n)). s)
        (λ (l : n ≤ tally (is_marked (after n)) n). λ v t. tally_full (is_marked (after n)) n v l (grown-inside (after n) v t))
        (progress n)

-- ---- the theorems

-- the first marks
begun : ℕ → List ℕ → List Bool
begun n starts = tabulate n (λ v. member v starts)

module _ {inputs : ℕ → List ℕ} {n : ℕ} (table : Table inputs n) where
  pub reader-inside : (w v : ℕ) → Reads inputs w v → w < n
  reader-inside w v e = ⊎_elim (λ (s : ltb w n ≡ true). ltb-true w n s)
      (λ (s : ltb w n ≡ false). absurd (Memᴰ.not-nil (rw (table.ends w (ltb-false w n s)) at e)))
      (decided (ltb w n))

  module _ (starts : List ℕ) (slots : (v : ℕ) → Memᴰ v starts → v < n) where
    -- every vertex that is marked after k rounds has a path to a start
    round_paths : (k v : ℕ) → is_marked (grown_by inputs n (begun n starts) k) v ≡ true → ReachesOne inputs starts v
    unfolding grown_by begun
    round_paths zero v t =
        let l = tabulated_inside n (λ u. member u starts) v t in
        record { start = v; listed = member_mem v starts (sym (tabulated_at n (λ u. member u starts) v l) ∙ t); path = here }
    round_paths (suc k) v t = ⊎_elim
        (λ (s : is_marked (grown_by inputs n (begun n starts) k) v ≡ true). round_paths k v s)
        (λ (f : (w : ℕ) × (w < n) × (is_marked (grown_by inputs n (begun n starts) k) w ≡ true) × Reads inputs w v).
        let found = round_paths k f.0 f.2 in
        record { start = found.start; listed = found.listed; path = reaches_trans (onward here f.3) found.path })
        (grown_cases inputs n (grown_by inputs n (begun n starts) k) v t)

    -- What is computed are such marks.
    pub reaching-marks : Marks inputs starts (is_marked (reaching inputs n starts))
    unfolding reaching begun
    reaching-marks =
        let first = begun n starts in
        let inside : (v : ℕ) → is_marked first v ≡ true → v < n = tabulated_inside n (λ u. member u starts) in
        record {
          started = λ v m. after_kept inputs n first inside n v (tabulated_at n (λ u. member u starts) v (slots v m) ∙ mem_member m);
          closed = λ w v t e. settled inputs n first inside v
              (grown-read inputs n (grown_by inputs n first n) w v (reader-inside w v e) (table.closed w v e) t e);
          paths = round_paths n;
        }

    -- So a vertex is marked exactly when it has a path to a start.
    pub reaching-sound : (v : ℕ) → is_marked (reaching inputs n starts) v ≡ true → ReachesOne inputs starts v
    reaching-sound = marked-reaches reaching-marks

    pub reaching_complete : (v : ℕ) → ReachesOne inputs starts v → is_marked (reaching inputs n starts) v ≡ true
    reaching_complete = reaches-marked reaching-marks
