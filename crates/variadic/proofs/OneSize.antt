-- For one choice of output images at most one n can match: the image of the named Tuple is fixed by the output images, through
-- vertices that are shared, and has n fields. So a search takes n from that image.
-- Assumes nothing.
use mathlib.Core.Path.{◌≡◌, refl, sym, ap, ◌∙◌, subst}
use mathlib.Core.Bool.{true, false}
use mathlib.Core.List.Memᴰ
use mathlib.Core.List.{List, [], ◌∷◌, map, map-map, append-nil, Memᴰ}
use mathlib.Core.Logic.{⊎_elim}
use Prim.Native.Nat.{ℕ, zero, suc, ◌+◌, ◌/◌, ◌%◌, ◌<◌, ◌≤◌}
use native.Mathlib.Nat.{not-suc-le-zero, le_of_suc-le-suc}
use native.Mathlib.Omega.{arith}
use borrow.Author.Tests.{ne_eqb, eq-eqb, eqb-true}
use lib.Dec.{eqb}
use lib.ListN.{length, get_or, length-map}
use Rattle.definitions.specs.Lists.{tabulate, concat_map, member, position}
use Rattle.definitions.specs.Operators.{kind_empty, kind_tuple}
use Rattle.definitions.specs.Paths.{Reads}
use Rattle.definitions.specs.Graph.{unused_place, Graph, inputs_of}
use Rattle.definitions.specs.Rule.{side_limit, Pattern, Rule, wildcard, source_of, source_inputs}
use Rattle.definitions.specs.Match.{image_of, Match}
use Rattle.laws.proofs.Lists.{decided, true_not_false, fails, map_at, length-tabulate}
use Rattle.laws.proofs.Members.{member_mem, mem-at, mem-place}
use Rattle.laws.proofs.Rule.{source-reader}
use Rattle.definitions.specs.Variadic.{VariadicRule, original, source_copy, fields, source_names, source_order, source_number, copied, expansion}
use Rattle.definitions.specs.FixedRule.{SoundFixed}
use Rattle.variadic.specs.Templated.{Templated}
use Rattle.rule_sound.proofs.Fixed.{fixing_of}

-- ---- places in lists

place-holds : (x : ℕ) (xs : List ℕ) (d : ℕ) → position x xs < length xs → get_or xs (position x xs) d ≡ x
unfolding position
place-holds x [] d l = absurd (not-suc-le-zero l)
place-holds x (y ∷ ys) d l =
    ⊎_elim (λ (t : eqb x y ≡ true). rw t (sym (eqb-true x y t)))
    (λ (t : eqb x y ≡ false). rw t (place-holds x ys d (le_of_suc-le-suc (rw t at l))))
    (decided (eqb x y))

made_at : {B : Type 0} (f : ℕ → B) (xs : List ℕ) (i e : ℕ) (d : B) → i < length xs → get_or (map f xs) i d ≡ f (get_or xs i e)
made_at f [] i e d l = absurd (not-suc-le-zero l)
made_at f (x ∷ xs) zero e d l = refl
made_at f (x ∷ xs) (suc i) e d l = made_at f xs i e d (le_of_suc-le-suc l)

-- the lists of one element, each of length k
concat_one : (f : ℕ → List ℕ) (k : ℕ) → ((x : ℕ) → length (f x) ≡ k) → (xs : List ℕ) → length xs ≡ 1 → length (concat_map f xs) ≡ k
unfolding concat_map
concat_one f k each [] e = absurd (omega arith)
concat_one f k each (x ∷ []) e = rw append-nil (each x)
concat_one f k each (x ∷ (y ∷ ys)) e = absurd (omega arith)

-- ---- the way from a source vertex up to an output

pub data Route (r : VariadicRule) : ℕ → Type 0 where
  ends : {v : ℕ} → Memᴰ v r.plain.source_outputs → Route r v
  goes : {v w : ℕ} → Reads (source_inputs r.plain) w v → Route r w → Route r v

module _ (r : VariadicRule) (b : Templated r) where
  pub route_from : (k v : ℕ) → v < length r.plain.source → length r.plain.source ≤ v + k → Route r v
  route_from zero v l e = absurd (omega arith)
  route_from (suc k) v l e =
      ⊎_elim (λ (t : member v r.plain.source_outputs ≡ true). ends (member_mem v r.plain.source_outputs t))
      (λ (t : (w : ℕ) × Reads (source_inputs r.plain) w v).
      goes t.1 (route_from k t.0 (source-reader r.plain t.0 v t.1) (omega (arith, b.lower t.0 v t.1))))
      (b.read v l)

  -- above the Tuple no template leads to an output
  pub no_template : {v : ℕ} → Route r v → r.source_template v ≡ true → r.source_tuple < v → ⊥
  no_template {v} (ends m) t l = true_not_false t (b.shared_outputs v m)
  no_template {v} (goes {w = w} e up) t l =
      let above : v < w = b.lower w v e in
      ⊎_elim (λ (same : w ≡ r.source_tuple). omega arith) (λ (s : r.source_template w ≡ true). no_template up s (omega arith))
      (b.named w v e t)

-- ---- one fixed rule, and a match of it

module _ (r : VariadicRule) (b : Templated r) (n limit : ℕ) (s : SoundFixed limit (expansion r n)) where
  abbrev pub fixed : Rule
  fixed = expansion r n

  abbrev pub number : ℕ → ℕ
  number = source_number r n

  fixed-size : length fixed.source ≡ length (source_order r n)
  unfolding expansion
  fixed-size = length-map (source_order r n) _

  -- the pattern of a copy that is numbered
  pattern-at : (c : ℕ) → number c < length fixed.source
      → source_of fixed (number c) ≡ copied r n (source_of r.plain (original c)) c (map number (source_names r n c))
  unfolding expansion source_of source_number
  pattern-at c l =
      let place : position c (source_order r n) < length (source_order r n) = rw fixed-size at l in
      made_at (λ k. copied r n (source_of r.plain (original k)) k (map number (source_names r n k))) (source_order r n)
      (position c (source_order r n)) 0 wildcard place
      ∙ ap (λ (k : ℕ). copied r n (source_of r.plain (original k)) k (map number (source_names r n k)))
      (place-holds c (source_order r n) 0 place)

  inputs-at : (c : ℕ) → number c < length fixed.source → source_inputs fixed (number c) ≡ map number (source_names r n c)
  unfolding copied
  inputs-at c l = ap (λ (p : Pattern ℕ). p.inputs) (pattern-at c l)

  -- a shared vertex other than the Tuple names what the block says
  names_shared : (v : ℕ) → v < side_limit → (v ≡ r.source_tuple → ⊥) → source_names r n v ≡ map (source_copy r n 0) (source_inputs r.plain v)
  unfolding source_names fields
  names_shared v l other =
      let here : v % side_limit ≡ v = omega arith in
      let shared : v / side_limit ≡ 0 = omega arith in
      rw (ne_eqb v r.source_tuple other, here, shared)

  pub copy_shared : (u : ℕ) → r.source_template u ≡ false → source_copy r n 0 u ≡ u
  unfolding source_copy
  copy_shared u t = simp t

  -- the Tuple names n fields
  fields_many : length (source_names r n r.source_tuple) ≡ n
  unfolding source_names fields
  fields_many =
      let tuple : ℕ = r.source_tuple in
      let here : tuple % side_limit ≡ tuple = omega (arith, b.few, b.tuple_inside) in
      rw (eq-eqb tuple tuple refl, here)
      (concat_one (λ p. tabulate n (λ k. source_copy r n (suc k) p)) n (λ p. length-tabulate n (λ k. source_copy r n (suc k) p))
      (source_inputs r.plain tuple) b.tuple_field)

  -- ---- a match of it

  module _ (g : Graph) (images : List ℕ) (is_match : Match g fixed images) where
    abbrev image : ℕ → ℕ
    image c = image_of images (number c)

    -- an input of a shared vertex is numbered where that vertex is, and its image stands in the same place
    module _ (v u i : ℕ) (small : v < side_limit) (other : v ≡ r.source_tuple → ⊥) (place : i < length (source_inputs r.plain v))
        (here : get_or (source_inputs r.plain v) i 0 ≡ u) (shared : r.source_template u ≡ false)
        (inside : number v < length fixed.source) where
      pub inputs_shared : source_inputs fixed (number v) ≡ map (λ w. number (source_copy r n 0 w)) (source_inputs r.plain v)
      inputs_shared =
          inputs-at v inside ∙ ap (map number) (names_shared v small other) ∙ map-map number (source_copy r n 0) (source_inputs r.plain v)

      input_here : get_or (source_inputs fixed (number v)) i 0 ≡ number u
      input_here =
          ap (λ (l : List ℕ). get_or l i 0) inputs_shared
          ∙ map_at (λ w. number (source_copy r n 0 w)) (source_inputs r.plain v) i 0 0 place
          ∙ ap (λ (w : ℕ). number (source_copy r n 0 w)) here
          ∙ ap number (copy_shared u shared)

      place-fixed : i < length (source_inputs fixed (number v))
      place-fixed = rw (inputs_shared, length-map (source_inputs r.plain v) (λ w. number (source_copy r n 0 w))) place

      pub reads-fixed : Reads (source_inputs fixed) (number v) (number u)
      reads-fixed = subst (λ (w : ℕ). Reads (source_inputs fixed) (number v) w) input_here
          (mem-at (source_inputs fixed (number v)) i 0 place-fixed)

      input_inside : number u < length fixed.source
      input_inside = omega (arith, (fixing_of limit fixed s).lower (number v) (number u) reads-fixed)

      input_image : image u ≡ get_or (inputs_of g (image v)) i unused_place
      input_image =
          let some : (source_of fixed (number v)).kind ≡ kind_empty → ⊥ = λ e.
          Memᴰ.not-nil (subst (Memᴰ (number u)) ((fixing_of limit fixed s).plain (number v) e) reads-fixed) in
          sym (ap (λ (l : List ℕ). get_or l i unused_place) (is_match.takes (number v) inside some).inputs
          ∙ map_at (image_of images) (source_inputs fixed (number v)) i unused_place 0 place-fixed
          ∙ ap (image_of images) input_here)

    -- the Tuple's image has n inputs
    pub tuple-image : number r.source_tuple < length fixed.source → length (inputs_of g (image r.source_tuple)) ≡ n
    unfolding copied
    tuple-image inside =
        let tuple : ℕ = r.source_tuple in
        let here : tuple % side_limit ≡ tuple = omega (arith, b.few, b.tuple_inside) in
        let kind : (source_of fixed (number tuple)).kind ≡ kind_tuple =
        ap (λ (p : Pattern ℕ). p.kind) (pattern-at tuple inside) ∙ ap (λ (v : ℕ). (source_of r.plain v).kind) here ∙ b.tuple_kind in
        (is_match.takes (number tuple) inside (λ e. omega (arith, kind, e))).input_count
        ∙ ap length (inputs-at tuple inside)
        ∙ length-map (source_names r n tuple) number
        ∙ fields_many

-- ---- two fixed rules, and a match of each with the same output images

module _ (r : VariadicRule) (b : Templated r) (limit n m : ℕ) (s : SoundFixed limit (expansion r n))
    (t : SoundFixed limit (expansion r m)) (g : Graph) (images others : List ℕ) (one : Match g (expansion r n) images)
    (other : Match g (expansion r m) others)
    (same : map (image_of images) (expansion r n).source_outputs ≡ map (image_of others) (expansion r m).source_outputs) where
  -- a shared vertex is numbered in both, and has one image
  abbrev pub Agree : ℕ → Type 0
  Agree v = (source_number r n v < length (expansion r n).source) × (source_number r m v < length (expansion r m).source)
      × (image_of images (source_number r n v) ≡ image_of others (source_number r m v))

  agree_output : (v : ℕ) → Memᴰ v r.plain.source_outputs → Agree v
  unfolding expansion
  agree_output v e =
      let outputs : List ℕ = r.plain.source_outputs in
      let found = mem-place 0 e in
      let image : (k : ℕ) (xs : List ℕ) → get_or (map (image_of xs) (map (source_number r k) outputs)) found.0 0
      ≡ image_of xs (source_number r k v) = λ k xs.
      map_at (image_of xs) (map (source_number r k) outputs) found.0 0 0 (rw (length-map outputs (source_number r k)) found.1)
      ∙ ap (image_of xs) (map_at (source_number r k) outputs found.0 0 0 found.1 ∙ ap (source_number r k) found.2) in (
        s.outputs_inside (source_number r n v) (Memᴰ.map (source_number r n) e),
        t.outputs_inside (source_number r m v) (Memᴰ.map (source_number r m) e),
        sym (image n images) ∙ ap (λ (l : List ℕ). get_or l found.0 0) same ∙ image m others,
      )

  pub agree_route : {v : ℕ} → Route r v → r.source_template v ≡ false → r.source_tuple ≤ v → Agree v
  agree_route {v} (ends e) shared l = agree_output v e
  agree_route {v} (goes {w = w} e up) shared l =
      let above : v < w = b.lower w v e in
      let inside : w < length r.plain.source = source-reader r.plain w v e in
      let small : w < side_limit = omega (arith, b.few) in
      let found = mem-place 0 e in
      let reader = agree_route up (fails (λ k. no_template r b up k (omega arith))) (omega arith) in (
        input_inside r b n limit s g images one w v found.0 small (λ k. omega arith) found.1 found.2 shared reader.0,
        input_inside r b m limit t g others other w v found.0 small (λ k. omega arith) found.1 found.2 shared reader.1,
        input_image r b n limit s g images one w v found.0 small (λ k. omega arith) found.1 found.2 shared reader.0
            ∙ ap (λ (k : ℕ). get_or (inputs_of g k) found.0 unused_place) reader.2
            ∙ sym (input_image r b m limit t g others other w v found.0 small (λ k. omega arith) found.1 found.2 shared reader.1),
      )

  -- For one choice of output images at most one n can match.
  pub one_size : n ≡ m
  one_size =
      let tuple : ℕ = r.source_tuple in
      let agree = agree_route (route_from r b (length r.plain.source) tuple b.tuple_inside (omega arith)) b.tuple_shared
      (omega arith) in
      sym (tuple-image r b n limit s g images one agree.0)
      ∙ ap (λ (k : ℕ). length (inputs_of g k)) agree.2
      ∙ tuple-image r b m limit t g others other agree.1
