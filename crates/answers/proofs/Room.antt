-- Reply 6: the slots that the target vertices can take are the Empty ones and the removed ones. A match's images are vertices, so no slot
-- is counted twice.
-- Assumes nothing.
use mathlib.Core.Path.{◌≡◌, refl}
use mathlib.Core.Bool.{true, false, cond, not}
use mathlib.Core.List.{List}
use mathlib.Core.Logic.{⊎_elim}
use Prim.Native.Nat.{ℕ, zero, suc, ◌+◌, ◌<◌, ◌≤◌}
use native.Mathlib.Omega.{arith}
use borrow.Author.Tests.{leb-true, leb-false, le-leb, lt-leb}
use lib.ListN.{length}
use Rattle.definitions.specs.Lists.{tabulate, filter, range}
use Rattle.definitions.specs.Graph.{Graph, is_vertex}
use Rattle.definitions.specs.Rule.{Rule}
use Rattle.definitions.specs.Match.{image_of, Match}
use Rattle.definitions.specs.Rewriting.{is_removed, stays, free_slots, has_room}
use Rattle.laws.proofs.Lists.{decided}
use Rattle.laws.proofs.Members.{holds}
use Rattle.laws.proofs.Filtered.{filtered_count}
use Rattle.laws.proofs.Rewriting.{removed_image}
use Rattle.answers.specs.Rewritten.{room}

module _ (g : Graph) (r : Rule) (images : List ℕ) (match : Match g r images) where
  -- what is removed is a vertex
  removed_vertex : (k : ℕ) → is_removed g r images k ≡ true → is_vertex g k ≡ true
  removed_vertex k t =
      let found = removed_image g r images k t in
      rw found.3 at (holds (is_vertex g (image_of images found.0)) (match.vertices found.0 found.1))

  -- so a slot that does not stay is Empty or removed, and not both
  parts : (k : ℕ) → cond (not (stays g r images k)) 1 0 ≡ cond (not (is_vertex g k)) 1 0 + cond (is_removed g r images k) 1 0
  unfolding stays
  parts k = ⊎_elim
      (λ (t : is_removed g r images k ≡ true). simp (t, removed_vertex k t))
      (λ (t : is_removed g r images k ≡ false). ⊎_elim
      (λ (v : is_vertex g k ≡ true). simp (t, v))
      (λ (v : is_vertex g k ≡ false). simp (t, v))
      (decided (is_vertex g k)))
      (decided (is_removed g r images k))

  counted : (n : ℕ) → length (filter (λ k. not (stays g r images k)) (range 0 n))
      ≡ length (filter (λ k. not (is_vertex g k)) (range 0 n)) + length (filter (is_removed g r images) (range 0 n))
  counted zero = unfold range tabulate filter in refl
  counted (suc n) = omega (
    arith,
    filtered_count (λ k. not (stays g r images k)) n,
    filtered_count (λ k. not (is_vertex g k)) n,
    filtered_count (is_removed g r images) n,
    parts n,
    counted n,
  )

  -- The slots that the target vertices can take are as many as the Empty slots and the removed ones together.
  pub free_length : length (free_slots g r images) ≡ room g r images
  unfolding free_slots
  free_length = counted (length g.slots)

  -- So there is room exactly where T is at most that.
  pub room_enough : has_room g r images ≡ true → length r.target ≤ room g r images
  unfolding has_room
  room_enough h = rw (← free_length) (leb-true (length r.target) (length (free_slots g r images)) h)

  pub room-short : has_room g r images ≡ false → room g r images < length r.target
  unfolding has_room
  room-short h = rw (← free_length) (leb-false (length r.target) (length (free_slots g r images)) h)

  pub enough_room_lem : length r.target ≤ room g r images → has_room g r images ≡ true
  unfolding has_room
  enough_room_lem l = le-leb (length r.target) (length (free_slots g r images)) (rw free_length l)

  pub short-room : room g r images < length r.target → has_room g r images ≡ false
  unfolding has_room
  short-room l = lt-leb (length r.target) (length (free_slots g r images)) (rw free_length l)
