-- A queue of the vertices whose inputs are still to be marked: what a loop keeps while it takes one vertex after the other from the queue
-- and adds the inputs that it marks. Every slot is added once at most, so a queue with a place for each slot is long enough.
-- Assumes nothing.
use mathlib.Core.Path.{◌≡◌, sym, ap, ◌∙◌, subst}
use mathlib.Core.Bool.{Bool, true, false}
use mathlib.Core.List.{List}
use mathlib.Core.Logic.{◌⊎◌, inl, inr, ⊎_elim}
use Prim.Native.Nat.{ℕ, ◌+◌, ◌<◌, ◌≤◌}
use native.Mathlib.Nat.{not-suc-le-zero}
use native.Mathlib.Omega.{arith}
use borrow.Author.Tests.{ltb-true, ltb-false, eqb-true, eqb-false}
use lib.Dec.{eqb, ltb}
use lib.ListN.{length, get_or, set}
use lib.Seq.{get_or-set_same, get_or-set_other}
use Rattle.definitions.specs.Paths.{Reads, Reaches, here, onward, is_marked}
use Rattle.laws.proofs.Lists.{decided}
use Rattle.laws.proofs.Members.{mem-place}
use Rattle.theory.proofs.Paths.{reaches_trans}
use Rattle.reachability.specs.Spread.{Spread, ClosedMarks}
use Rattle.laws.proofs.Tallies.{tally, tally-most, tally_more}

-- ---- one more mark

module _ (marks : List Bool) (v : ℕ) (inside : v < length marks) where
  set_marked : is_marked (set marks v true) v ≡ true
  set_marked = get_or-set_same marks v true false inside

  set_kept : (w : ℕ) → is_marked marks w ≡ true → is_marked (set marks v true) w ≡ true
  set_kept w t = ⊎_elim
      (λ (e : eqb w v ≡ true). rw (eqb-true w v e) set_marked)
      (λ (e : eqb w v ≡ false). get_or-set_other marks v w true false (eqb-false w v e) ∙ t)
      (decided (eqb w v))

  set_cases : (w : ℕ) → is_marked (set marks v true) w ≡ true → (w ≡ v) ⊎ (is_marked marks w ≡ true)
  set_cases w t = ⊎_elim
      (λ (e : eqb w v ≡ true). inl (eqb-true w v e))
      (λ (e : eqb w v ≡ false). inr (sym (get_or-set_other marks v w true false (eqb-false w v e)) ∙ t))
      (decided (eqb w v))

-- ---- the queue

-- vertex w waits: it is in the queue from `head` on
abbrev pub Waits : List ℕ → ℕ → ℕ → ℕ → Type 0
Waits queue head tail w = (i : ℕ) × (head ≤ i) × (i < tail) × (get_or queue i 0 ≡ w)

pub record Work (inputs : ℕ → List ℕ) (n root : ℕ) (before marks : List Bool) (queue : List ℕ) (head tail : ℕ) : Type 0 where
  pub kept : (v : ℕ) → is_marked before v ≡ true → is_marked marks v ≡ true
  pub rooted : is_marked marks root ≡ true
  pub paths : (v : ℕ) → is_marked marks v ≡ true → (is_marked before v ≡ true) ⊎ Reaches inputs v root
  pub listed : (i : ℕ) → i < tail → Reaches inputs (get_or queue i 0) root × (get_or queue i 0 < n)
  pub closed : (w v : ℕ) → is_marked marks w ≡ true → Reads inputs w v
      → (is_marked marks v ≡ true) ⊎ Waits queue head tail w
  pub most : tail ≤ tally (is_marked marks) n
  pub ordered : head ≤ tail

module _ {inputs : ℕ → List ℕ} {n root : ℕ} {before : List Bool} where
  -- the queue begins with the root
  pub work_begin : (queue : List ℕ) → ClosedMarks inputs before → is_marked before root ≡ false → root < n → root < length before
      → 0 < length queue → Work inputs n root before (set before root true) (set queue 0 root) 0 1
  work_begin queue closed new inside held some = record {
    kept = set_kept before root held;
    rooted = set_marked before root held;
    paths = λ v t. ⊎_elim
        (λ (e : v ≡ root). inr (subst (λ (x : ℕ). Reaches inputs v x) e here))
        (λ (k : is_marked before v ≡ true). inl k)
        (set_cases before root held v t);
    listed = λ i l.
        let e : i ≡ 0 = omega arith in
        let same : get_or (set queue 0 root) i 0 ≡ root = ap (λ (k : ℕ). get_or (set queue 0 root) k 0) e ∙ get_or-set_same queue 0 root 0 some in
        (rw same here, rw same inside);
    closed = λ w v t e. ⊎_elim
        (λ (s : w ≡ root). inr (0, omega arith, omega arith, get_or-set_same queue 0 root 0 some ∙ sym s))
        (λ (k : is_marked before w ≡ true). inl (set_kept before root held v (closed w v k e)))
        (set_cases before root held w t);
    most = omega (
      arith,
      tally_more (is_marked before) (is_marked (set before root true)) (set_kept before root held) n root inside new
          (set_marked before root held),
    );
    ordered = omega arith;
  }

  module _ {marks : List Bool} {queue : List ℕ} {head tail : ℕ} (work : Work inputs n root before marks queue head tail) where
    -- there is a place for one more while a slot is not marked
    pub work_room : (v : ℕ) → v < n → v < length marks → is_marked marks v ≡ false → tail < n
    work_room v inside held new =
        omega (
          arith,
          work.most,
          tally-most (is_marked (set marks v true)) n,
          tally_more (is_marked marks) (is_marked (set marks v true)) (set_kept marks v held) n v inside new (set_marked marks v held),
        )

    -- an input of a vertex in the queue is marked, and enters the queue
    pub work_push : (i v : ℕ) → i < tail → Reads inputs (get_or queue i 0) v → v < n → v < length marks → tail < length queue
        → is_marked marks v ≡ false → Work inputs n root before (set marks v true) (set queue tail v) head (tail + 1)
    work_push i v l e inside held room new =
        let path : Reaches inputs v root = reaches_trans (onward here e) (work.listed i l).0 in
        let last : get_or (set queue tail v) tail 0 ≡ v = get_or-set_same queue tail v 0 room in
        let other : (k : ℕ) → k < tail → get_or (set queue tail v) k 0 ≡ get_or queue k 0 =
        λ k b. get_or-set_other queue tail k v 0 (λ q. omega arith) in
        record {
          kept = λ w t. set_kept marks v held w (work.kept w t);
          rooted = set_kept marks v held root work.rooted;
          paths = λ w t. ⊎_elim
              (λ (s : w ≡ v). inr (rw s path))
              (λ (k : is_marked marks w ≡ true). work.paths w k)
              (set_cases marks v held w t);
          listed = λ k b. ⊎_elim
              (λ (t : ltb k tail ≡ true).
              let under = ltb-true k tail t in rw (other k under) (work.listed k under))
              (λ (t : ltb k tail ≡ false).
              let q : k ≡ tail = omega (arith, ltb-false k tail t) in
              let same : get_or (set queue tail v) k 0 ≡ v = ap (λ (x : ℕ). get_or (set queue tail v) x 0) q ∙ last in
              (rw same path, rw same inside))
              (decided (ltb k tail));
          closed = λ w u t r. ⊎_elim
              (λ (s : w ≡ v). inr (tail, work.ordered, omega arith, last ∙ sym s))
              (λ (k : is_marked marks w ≡ true). ⊎_elim
              (λ (m : is_marked marks u ≡ true). inl (set_kept marks v held u m))
              (λ (q : Waits queue head tail w). inr (q.0, q.1, omega (arith, q.2), other q.0 q.2 ∙ q.3))
              (work.closed w u k r))
              (set_cases marks v held w t);
          most = omega (
            arith,
            work.most,
            tally_more (is_marked marks) (is_marked (set marks v true)) (set_kept marks v held) n v inside new (set_marked marks v held),
          );
          ordered = omega (arith, work.ordered);
        }

    -- the first that waits is done with once all its inputs are marked
    pub work_next : head < tail → ((v : ℕ) → Reads inputs (get_or queue head 0) v → is_marked marks v ≡ true)
        → Work inputs n root before marks queue (head + 1) tail
    work_next l all = record {
      kept = work.kept;
      rooted = work.rooted;
      paths = work.paths;
      listed = work.listed;
      closed = λ w v t e. ⊎_elim
          (λ (m : is_marked marks v ≡ true). inl m)
          (λ (q : Waits queue head tail w). ⊎_elim
          (λ (s : eqb q.0 head ≡ true).
          let same : get_or queue head 0 ≡ w = ap (λ (k : ℕ). get_or queue k 0) (sym (eqb-true q.0 head s)) ∙ q.3 in
          inl (all v (rw same e)))
          (λ (s : eqb q.0 head ≡ false).
          let apart : q.0 ≡ head → ⊥ = eqb-false q.0 head s in
          inr (q.0, omega (arith, q.1), q.2, q.3))
          (decided (eqb q.0 head)))
          (work.closed w v t e);
      most = work.most;
      ordered = omega arith;
    }

    -- where none waits, the marks are closed again
    pub work_end : tail ≤ head → Spread inputs root before marks
    work_end l = record {
      kept = work.kept;
      rooted = work.rooted;
      closed = λ w v t e. ⊎_elim
          (λ (m : is_marked marks v ≡ true). m)
          (λ (q : Waits queue head tail w). absurd (omega (arith, q.1, q.2)))
          (work.closed w v t e);
      paths = work.paths;
    }

-- ---- a loop that begins once the root is marked

module _ {inputs : ℕ → List ℕ} {n root : ℕ} (before : List Bool) (held : root < length before) where
  pub work_start : (queue : List ℕ) → ClosedMarks inputs before → is_marked before root ≡ false → root < n → 0 < length queue
      → Work inputs n root (set before root true) (set before root true) (set queue 0 root) 0 1
  work_start queue closed new inside some =
      let work : Work inputs n root before (set before root true) (set queue 0 root) 0 1 = work_begin queue closed new inside held some in
      record {
        kept = λ v t. t;
        rooted = work.rooted;
        paths = λ v t. inl t;
        listed = work.listed;
        closed = work.closed;
        most = work.most;
        ordered = work.ordered;
      }

-- what it leaves, seen from before the root was marked
pub spread_since : {inputs : ℕ → List ℕ} {root : ℕ} {after : List Bool} (before : List Bool) → root < length before
    → Spread inputs root (set before root true) after → Spread inputs root before after
spread_since {inputs} {root} before held spread = record {
  kept = λ v t. spread.kept v (set_kept before root held v t);
  rooted = spread.rooted;
  closed = spread.closed;
  paths = λ v t. ⊎_elim
      (λ (k : is_marked (set before root true) v ≡ true). ⊎_elim
      (λ (e : v ≡ root). inr (subst (λ (x : ℕ). Reaches inputs v x) e here))
      (λ (m : is_marked before v ≡ true). inl m)
      (set_cases before root held v k))
      (λ (p : Reaches inputs v root). inr p)
      (spread.paths v t);
}

-- the first inputs of the vertex whose turn it is are marked
pub record Passed (inputs : ℕ → List ℕ) (marks : List Bool) (none w passed : ℕ) : Type 0 where
  pub few : passed ≤ length (inputs w)
  pub each : (k : ℕ) → k < passed → is_marked marks (get_or (inputs w) k none) ≡ true

pub passed_none : {inputs : ℕ → List ℕ} {marks : List Bool} {none w : ℕ} → Passed inputs marks none w 0
passed_none = record { few = omega arith; each = λ k b. absurd (not-suc-le-zero b) }

module _ {inputs : ℕ → List ℕ} {marks : List Bool} {none w passed : ℕ} (done : Passed inputs marks none w passed) where
  pub passed_more : passed < length (inputs w) → is_marked marks (get_or (inputs w) passed none) ≡ true
      → Passed inputs marks none w (passed + 1)
  passed_more l t = record {
    few = omega arith;
    each = λ k b. ⊎_elim
        (λ (s : ltb k passed ≡ true). done.each k (ltb-true k passed s))
        (λ (s : ltb k passed ≡ false). let e : k ≡ passed = omega (arith, ltb-false k passed s) in rw e t)
        (decided (ltb k passed));
  }

  pub passed_all : passed ≡ length (inputs w) → (v : ℕ) → Reads inputs w v → is_marked marks v ≡ true
  passed_all e v m =
      let found = mem-place none m in
      rw found.2 at (done.each found.0 (omega (arith, found.1)))

  -- one more mark
  pub passed_kept : (v : ℕ) → v < length marks → Passed inputs (set marks v true) none w passed
  passed_kept v held = record { few = done.few; each = λ k b. set_kept marks v held (get_or (inputs w) k none) (done.each k b) }

-- a root that is marked already needs no work
pub spread_same : {inputs : ℕ → List ℕ} {root : ℕ} {marks : List Bool} → ClosedMarks inputs marks → is_marked marks root ≡ true
    → Spread inputs root marks marks
spread_same closed t = record { kept = λ v k. k; rooted = t; closed = closed; paths = λ v k. inl k }
