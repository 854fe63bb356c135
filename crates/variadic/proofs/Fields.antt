-- A search takes n from the Tuple's image, which the output images give without any fixed rule.
-- Assumes nothing.
use mathlib.Core.Path.{◌≡◌, refl, sym, ap, ◌∙◌, subst}
use mathlib.Core.Bool.{true, false, cond}
use mathlib.Core.List.Memᴰ
use mathlib.Core.List.{List, [], ◌∷◌, map, map-map, Memᴰ}
use mathlib.Core.Logic.{◌⊎◌, ⊎_elim}
use Prim.Native.Nat.{ℕ, zero, suc, ◌+◌, ◌-◌, ◌<◌, ◌≤◌}
use native.Mathlib.Nat.{not-suc-le-zero, le_of_suc-le-suc}
use native.Mathlib.Omega.{arith}
use lib.ListN.{length, get_or, drop, length-drop, drop_of_length-le}
use lib.Seq.{drop-cons, get_or-drop}
use Rattle.definitions.specs.Lists.{tabulate, member, position}
use Rattle.definitions.specs.Operators.{kind_empty}
use Rattle.definitions.specs.Paths.{Reads}
use Rattle.definitions.specs.Graph.{unused_place, Graph, inputs_of}
use Rattle.definitions.specs.Rule.{side_limit, Pattern, Rule, wildcard, source_of, source_inputs}
use Rattle.definitions.specs.Match.{image_of, Match, output_images, from_reader, images_from, images_for}
use Rattle.laws.proofs.Lists.{decided, true_not_false, fails, length-tabulate, get_or_tabulate, map_same}
use Rattle.laws.proofs.Members.{member_mem, mem_member, mem-place, position-image}
use Rattle.laws.proofs.Rule.{source-reader}
use Rattle.theory.proofs.Fixing.{from-reader}
use Rattle.definitions.specs.Variadic.{VariadicRule, source_copy, source_number, expansion}
use Rattle.definitions.specs.FixedRule.{SoundFixed}
use Rattle.variadic.specs.Templated.{Templated}
use Rattle.definitions.specs.Widths.{fields_at}
use Rattle.rule_sound.proofs.Fixed.{fixing_of}
use Rattle.variadic.proofs.Values.{same_tabulate}
use Rattle.variadic.proofs.OneSize.{Route, route_from, no_template, copy_shared, inputs_shared, reads-fixed, tuple-image, agree_route}

-- ---- the images of the source vertices from `low` up, made from the output images

module _ (g : Graph) (p : Rule) (f : ℕ → ℕ) (low : ℕ) (chosen : List ℕ)
    (lower : (j u : ℕ) → Reads (source_inputs p) j u → u < j)
    (read : (v : ℕ) → v < length p.source → (member v p.source_outputs ≡ true) ⊎ ((w : ℕ) × Reads (source_inputs p) w v))
    (agree : (o : ℕ) → member o p.source_outputs ≡ true → get_or chosen (position o p.source_outputs) unused_place ≡ f o)
    (reads : (w v : ℕ) → low ≤ v → Reads (source_inputs p) w v → inputs_of g (f w) ≡ map f (source_inputs p w)) where
  abbrev later : ℕ → ℕ → List ℕ
  later v k = tabulate k (λ i. f (v + i))

  from-later : (v k : ℕ) → low ≤ v → suc v + k ≡ length p.source → (w : ℕ) → Reads (source_inputs p) w v
      → from_reader g (drop (suc v) p.source) (later (suc v) k) v ≡ f v
  unfolding source_of
  from-later v k l e w m =
      let ps : List (Pattern ℕ) = drop (suc v) p.source in
      let size : length ps ≡ k = omega (arith, length-drop (suc v) p.source) in
      let above : v < w = lower w v m in
      let below : w < length p.source = source-reader p w v m in
      let same : suc v + (w - suc v) ≡ w = omega arith in
      from-reader g f v ps (later (suc v) k) (size ∙ sym (length-tabulate k (λ i. f (suc v + i)))) (λ i b t.
      rw (get_or_tabulate k (λ i. f (suc v + i)) i unused_place (rw size at b), get_or-drop (suc v) p.source i wildcard)
      (reads (suc v + i) v l (member_mem v (source_inputs p (suc v + i)) (rw (get_or-drop (suc v) p.source i wildcard) at t))))
      (w - suc v) (omega arith) (rw (get_or-drop (suc v) p.source (w - suc v) wildcard, same) (mem_member m))

  image-here : (v k : ℕ) → low ≤ v → suc v + k ≡ length p.source
      → cond (member v p.source_outputs) (get_or chosen (position v p.source_outputs) unused_place)
      (from_reader g (drop (suc v) p.source) (later (suc v) k) v) ≡ f v
  image-here v k l e =
      ⊎_elim (λ (t : member v p.source_outputs ≡ true). rw t (agree v t))
      (λ (t : member v p.source_outputs ≡ false). rw t
      (⊎_elim (λ (s : member v p.source_outputs ≡ true). absurd (true_not_false s t))
      (λ (s : (w : ℕ) × Reads (source_inputs p) w v). from-later v k l e s.0 s.1)
      (read v (omega arith))))
      (decided (member v p.source_outputs))

  images_above : (k v : ℕ) → low ≤ v → v + k ≡ length p.source
      → images_from g p.source_outputs chosen (drop v p.source) v ≡ later v k
  unfolding images_from tabulate
  images_above zero v l e = rw (drop_of_length-le p.source {i = v} (omega arith))
  images_above (suc k) v l e =
      let here : v + 0 ≡ v = omega arith in
      let rest : later (suc v) k ≡ tabulate k (λ i. f (v + suc i)) =
      same_tabulate k (λ i. f (suc v + i)) (λ i. f (v + suc i)) (λ i. ap f (let q : suc v + i ≡ v + suc i = omega arith in q)) in
      rw (
        drop-cons p.source v wildcard (omega arith),
        images_above k (suc v) (omega arith) (omega arith),
        image-here v k l (omega arith),
        here,
        rest,
      )

-- what is made for the vertices from v on does not depend on those before
made-from : (g : Graph) (outputs chosen : List ℕ) (ps : List (Pattern ℕ)) (i v : ℕ) → i < length ps
    → get_or (images_from g outputs chosen ps v) i unused_place ≡ get_or (images_from g outputs chosen (drop i ps) (v + i)) 0 unused_place
unfolding images_from
made-from g outputs chosen [] i v l = absurd (not-suc-le-zero l)
made-from g outputs chosen (p ∷ ps) zero v l = let here : v + 0 ≡ v = omega arith in rw here
made-from g outputs chosen (p ∷ ps) (suc i) v l =
    let next : v + suc i ≡ suc v + i = omega arith in
    rw next (made-from g outputs chosen ps i (suc v) (le_of_suc-le-suc l))

-- ---- a match of the fixed rule for n

module _ (r : VariadicRule) (b : Templated r) (n limit : ℕ) (s : SoundFixed limit (expansion r n)) (g : Graph) (images : List ℕ)
    (is_match : Match g (expansion r n) images) where
  abbrev image : ℕ → ℕ
  image v = image_of images (source_number r n v)

  abbrev chosen : List ℕ
  chosen = output_images (expansion r n) images

  image-chosen : (o : ℕ) → member o r.plain.source_outputs ≡ true
      → get_or chosen (position o r.plain.source_outputs) unused_place ≡ image o
  unfolding expansion
  image-chosen o t =
      ap (λ (l : List ℕ). get_or l (position o r.plain.source_outputs) unused_place)
      (map-map (image_of images) (source_number r n) r.plain.source_outputs)
      ∙ position-image image unused_place o r.plain.source_outputs t

  inside : {v : ℕ} → Route r v → r.source_template v ≡ false → r.source_tuple ≤ v
      → source_number r n v < length (expansion r n).source
  inside up shared l = (agree_route r b limit n n s s g images images is_match is_match refl up shared l).0

  -- a vertex that reads one from the Tuple up is shared, and its image reads the images of what it reads
  image-reads : (w v : ℕ) → r.source_tuple ≤ v → Reads (source_inputs r.plain) w v
      → inputs_of g (image w) ≡ map image (source_inputs r.plain w)
  image-reads w v l e =
      let above : v < w = b.lower w v e in
      let below : w < length r.plain.source = source-reader r.plain w v e in
      let small : w < side_limit = omega (arith, b.few) in
      let up : Route r w = route_from r b (length r.plain.source) w below (omega arith) in
      let shared : r.source_template w ≡ false = fails (λ k. no_template r b up k (omega arith)) in
      let other : w ≡ r.source_tuple → ⊥ = λ k. omega arith in
      let plain : (u : ℕ) → Reads (source_inputs r.plain) w u → r.source_template u ≡ false = λ u k. fails (λ t.
      ⊎_elim other (λ (h : r.source_template w ≡ true). true_not_false h shared) (b.named w u k t)) in
      let place = mem-place 0 e in
      let here = inside up shared (omega arith) in
      let reads = reads-fixed r b n limit s g images is_match w v place.0 small other place.1 place.2 (plain v e) here in
      let some : (source_of (expansion r n) (source_number r n w)).kind ≡ kind_empty → ⊥ = λ k.
      Memᴰ.not-nil (subst (Memᴰ (source_number r n v)) ((fixing_of limit (expansion r n) s).plain (source_number r n w) k) reads) in
      (is_match.takes (source_number r n w) here some).inputs
      ∙ ap (map (image_of images))
      (inputs_shared r b n limit s g images is_match w v place.0 small other place.1 place.2 (plain v e) here)
      ∙ map-map (image_of images) (λ u. source_number r n (source_copy r n 0 u)) (source_inputs r.plain w)
      ∙ map_same (λ u. image_of images (source_number r n (source_copy r n 0 u))) image (source_inputs r.plain w)
      (λ u k. ap image (copy_shared r b n limit s u (plain u k)))

  -- n is the number of fields of the Tuple's image, which the output images alone give
  pub size-found : fields_at g r chosen ≡ n
  unfolding fields_at images_for image_of tabulate
  size-found =
      let tuple : ℕ = r.source_tuple in
      let size : ℕ = length r.plain.source in
      let whole : tuple + suc (size - suc tuple) ≡ size = omega (arith, b.tuple_inside) in
      let start : 0 + tuple ≡ tuple = omega arith in
      let same : tuple + 0 ≡ tuple = omega arith in
      let above = images_above g r.plain image tuple chosen b.lower b.read image-chosen image-reads
      (suc (size - suc tuple)) tuple (omega arith) whole in
      let found : get_or (images_from g r.plain.source_outputs chosen r.plain.source 0) tuple unused_place ≡ image tuple =
      made-from g r.plain.source_outputs chosen r.plain.source tuple 0 b.tuple_inside
      ∙ ap (λ (v : ℕ). get_or (images_from g r.plain.source_outputs chosen (drop tuple r.plain.source) v) 0 unused_place) start
      ∙ ap (λ (l : List ℕ). get_or l 0 unused_place) above
      ∙ ap image same in
      ap (λ (v : ℕ). length (inputs_of g v)) found
      ∙ tuple-image r b n limit s g images is_match
      (inside (route_from r b size tuple b.tuple_inside (omega arith)) b.tuple_shared (omega arith))
