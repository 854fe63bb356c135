-- The moves are the definition's redirection, and with the target vertices' places in an array they resolve as the definition does.
-- Assumes nothing.
use mathlib.Core.Path.{◌≡◌, refl, sym, ◌∙◌}
use mathlib.Core.Bool.{true, false, cond, not}
use mathlib.Core.List.{List, [], ◌∷◌, map}
use mathlib.Core.Logic.{⊎_elim}
use Prim.Native.Nat.{ℕ, ◌+◌, ◌-◌, ◌<◌, ◌≤◌}
use native.Mathlib.Nat.{not-suc-le-zero}
use native.Mathlib.Omega.{arith}
use borrow.Author.Tests.{ltb-true, lt-ltb, le-ltb}
use lib.Dec.{eqb, ltb}
use lib.ListN.{length, get_or, length-map}
use Rattle.definitions.specs.Lists.{all, member, position}
use Rattle.definitions.specs.Graph.{unused_place, Graph}
use Rattle.definitions.specs.Rule.{side_capacity, target_count, rule_output_count, Origin, given, made, Rule, origin_by, target_of, input_kind, origin_fits, target_inputs_fit}
use Rattle.definitions.specs.FixedRule.{SoundFixed}
use Rattle.definitions.specs.Match.{image_of, output_images}
use Rattle.definitions.specs.Rewriting.{place_of, resolve, redirect}
use Rattle.rule_fields.specs.Fixed.{fixed_of}
use Rattle.laws.proofs.Lists.{decided, and_right, get_or_any, all-at}
use Rattle.laws.proofs.Members.{position-inside}
use Rattle.laws.proofs.Rule.{input_inside}
use Rattle.rule_fields.proofs.Fixed.{length-target, length-source-outputs, length-target-outputs}
use Rattle.redirection.specs.declared.Redirection.{Redirection}
use Rattle.redirection.specs.Moves.{origin_inside, Resolvable, resolve_in, redirect_by, move_of, moved}

-- ---- what a place names

-- a place number whose origin is inside is that of a vertex for which there is space
pub inside-place : (split p : ℕ) → origin_inside (origin_by split p) ≡ true → p < split + side_capacity
unfolding origin_inside origin_by
inside-place split p h =
    ⊎_elim (λ (t : ltb p split ≡ true). omega (arith, ltb-true p split t))
    (λ (t : ltb p split ≡ false). omega (arith, ltb-true (p - split) side_capacity (simp t at h)))
    (decided (ltb p split))

-- a place number below the first target one is read from the images, another from the target vertices' places
pub resolve_given : (images places : List ℕ) (split p : ℕ) → split ≤ side_capacity → p < split → length images ≡ side_capacity
    → get_or images p 0 ≡ resolve_in images places (origin_by split p)
unfolding resolve_in origin_by image_of
resolve_given images places split p l h n = rw (lt-ltb p split h) (get_or_any images p 0 unused_place (omega arith))

pub resolve-made : (images places : List ℕ) (split p : ℕ) → split ≤ p → p < split + side_capacity → length places ≡ side_capacity
    → get_or places (p - split) 0 ≡ resolve_in images places (origin_by split p)
unfolding resolve_in origin_by
resolve-made images places split p h l n = rw (le-ltb p split h) (get_or_any places (p - split) 0 unused_place (omega arith))

-- ---- one or two outputs, one or two moves

module _ (image : ℕ → ℕ) (place : Origin → ℕ) (e : ℕ) (d b : Origin) (v : ℕ) where
  two_moves : (xs : List ℕ) (os : List Origin) → length xs ≡ length os → 0 < length xs → length xs ≤ 2
      → cond (eqb v (image (get_or xs 0 e))) (place (get_or os 0 d))
      (cond (eqb v (image (get_or xs (length xs - 1) e))) (place (get_or os (length xs - 1) d)) v)
      ≡ cond (member v (map image xs)) (place (get_or os (position v (map image xs)) b)) v
  unfolding member position
  two_moves [] os same some few = absurd (not-suc-le-zero some)
  two_moves (x ∷ xs) [] same some few = absurd (omega arith)
  two_moves (x ∷ []) (o ∷ []) same some few =
      ⊎_elim (λ (t : eqb v (image x) ≡ true). simp t) (λ (t : eqb v (image x) ≡ false). simp t) (decided (eqb v (image x)))
  two_moves (x ∷ []) (o ∷ p ∷ os) same some few = absurd (omega arith)
  two_moves (x ∷ y ∷ []) (o ∷ []) same some few = absurd (omega arith)
  two_moves (x ∷ y ∷ []) (o ∷ p ∷ os) same some few =
      ⊎_elim (λ (t : eqb v (image x) ≡ true). simp t)
      (λ (t : eqb v (image x) ≡ false).
      ⊎_elim (λ (s : eqb v (image y) ≡ true). simp (t, s)) (λ (s : eqb v (image y) ≡ false). simp (t, s)) (decided (eqb v (image y))))
      (decided (eqb v (image x)))
  two_moves (x ∷ y ∷ z ∷ xs) (o ∷ os) same some few = absurd (omega arith)

-- the first output's move and the last one's are all of them
pub moves-all : (block images places : List ℕ) (k : ℕ) {way : Redirection} → k ≡ rule_output_count block → 0 < rule_output_count block
    → rule_output_count block ≤ 2 → way.first ≡ move_of block images places 0 → way.second ≡ move_of block images places (k - 1)
    → (v : ℕ) → moved way v ≡ redirect_by (resolve_in images places) (fixed_of block) images v
unfolding moved move_of redirect_by
moves-all block images places k e some few first second v =
    let r = fixed_of block in
    let sources = length-source-outputs block in
    let targets = length-target-outputs block in
    let n : k ≡ length r.source_outputs = omega (arith, sources) in
    rw (first, second, n)
    (two_moves (image_of images) (resolve_in images places) 255 (made 255) (made (length r.target)) v r.source_outputs r.target_outputs
    (sources ∙ sym targets) (omega (arith, sources)) (omega (arith, sources)))

-- ---- a sound rule's places

-- a place that may be named is inside where the sides are
fits-inside : (r : Rule) (t : ℕ) (o : Origin) → length r.source ≤ side_capacity → t ≤ side_capacity → origin_fits r t o ≡ true
    → origin_inside o ≡ true
unfolding origin_fits origin_inside
fits-inside r t (given j) s l h = lt-ltb j side_capacity (omega (arith, input_inside r j h))
fits-inside r t (made u) s l h = lt-ltb u side_capacity (omega (arith, ltb-true u t h))

-- ---- for callers

-- with the target vertices' places, the arrays resolve as the definition does
pub resolve_same : (g : Graph) (r : Rule) (images places : List ℕ)
    → ((t : ℕ) → t < side_capacity → get_or places t unused_place ≡ place_of g r images t)
    → (o : Origin) → origin_inside o ≡ true → resolve_in images places o ≡ resolve g r images o
unfolding origin_inside resolve_in resolve
resolve_same g r images places h (given j) l = refl
resolve_same g r images places h (made t) l = h t (ltb-true t side_capacity l)

-- so the moves are the definition's redirection
pub redirect_same : (g : Graph) (block : List ℕ) (images places : List ℕ) → Resolvable block
    → ((t : ℕ) → t < side_capacity → get_or places t unused_place ≡ place_of g (fixed_of block) images t)
    → (v : ℕ) → redirect_by (resolve_in images places) (fixed_of block) images v ≡ redirect g (fixed_of block) images v
unfolding redirect_by redirect
redirect_same g block images places inside h v =
    let r = fixed_of block in
    let replaced = output_images r images in
    let none = made (length r.target) in
    ⊎_elim (λ (t : member v replaced ≡ true).
    let few : position v replaced < rule_output_count block =
    omega (arith, position-inside v replaced t, length-map r.source_outputs (image_of images), length-source-outputs block) in
    let named = get_or_any r.target_outputs (position v replaced) (made 255) none (omega (arith, length-target-outputs block)) in
    rw t (resolve_same g r images places h (get_or r.target_outputs (position v replaced) none)
    (rw named at (inside.outputs (position v replaced) few))))
    (λ (t : member v replaced ≡ false). simp t)
    (decided (member v replaced))

-- a sound rule's target places can be resolved
pub sound_resolvable : (block : List ℕ) → SoundFixed side_capacity (fixed_of block) → Resolvable block
unfolding target_inputs_fit
sound_resolvable block sound =
    let r = fixed_of block in
    record {
      inputs = λ t i l k.
          let inside : t < length r.target = rw (length-target block) l in
          let named = all-at (origin_fits r t) (made 255) (target_of r t).inputs i
          (and_right (not (input_kind (target_of r t).kind)) (all (origin_fits r t) (target_of r t).inputs) (sound.named_inputs t inside)) k in
          fits-inside r t (get_or (target_of r t).inputs i (made 255)) sound.few_sources (omega (arith, sound.few_targets)) named;
      outputs = λ i l.
          let named = all-at (origin_fits r (length r.target)) (made 255) r.target_outputs i sound.named_outputs
          (omega (arith, length-target-outputs block)) in
          fits-inside r (length r.target) (get_or r.target_outputs i (made 255)) sound.few_sources sound.few_targets named;
    }
