-- The least match of a sound variadic rule, over all n together: it is a match of the fixed rule for one n from 1 to 6, the fields of
-- the Tuple's image; it is found where any of them matches; none comes before it.
-- Assumes nothing.
use mathlib.Core.Path.{◌≡◌, sym, ap, ◌∙◌, subst}
use mathlib.Core.Bool.{true}
use mathlib.Core.List.Memᴰ
use mathlib.Core.List.{List, Memᴰ}
use mathlib.Core.Logic.{⊎_elim}
use mathlib.Core.Option.{none, some, none-ne-some}
use Prim.Native.Nat.{ℕ, ◌+◌, ◌≤◌}
use native.Mathlib.Omega.{arith}
use lib.ListN.{length, length-map}
use Rattle.definitions.specs.Lists.{range}
use Rattle.definitions.specs.Graph.{Graph}
use Rattle.definitions.specs.Rule.{rule_output_count, Rule, rule_of}
use Rattle.definitions.specs.Match.{Match, MatchFrom, output_images, NotAfter, choices}
use Rattle.laws.proofs.Lists.{option_either}
use Rattle.laws.proofs.Members.{mem_range, range_mem}
use Rattle.laws.proofs.Rule.{length-source-outputs}
use Rattle.theory.proofs.Choices.{first_found}
use Rattle.theory.proofs.Least.{attempt_some}
use Rattle.definitions.specs.Variadic.{VariadicRule, expansion}
use Rattle.definitions.specs.VariadicBlock.{field_limit, expanded_limit, is_variadic, variadic_of, fixed_rules, SoundVariadic}
use Rattle.definitions.specs.Widths.{Found, LeastAmong, found_by, attempt_of, attempt_all, least_of, fields_at}
use Rattle.variadic.proofs.OneSize.{one_size}
use Rattle.variadic.proofs.Least.{Searched, searched_of, attempt_origin, images_are, least_among, least_of_found}
use Rattle.variadic.proofs.Blocks.{templated}
use Rattle.variadic.proofs.Fields.{size-found}

module _ (block : List ℕ) (version : is_variadic block ≡ true) (s : SoundVariadic block) where
  abbrev r : VariadicRule
  r = variadic_of block

  -- the fixed rule for n is one of those for which the block stands, and there are no others
  fixed_mem : (n : ℕ) → 1 ≤ n → n ≤ field_limit → Memᴰ (expansion r n) (fixed_rules block)
  unfolding fixed_rules
  fixed_mem n l m = rw version (Memᴰ.map (expansion r) (mem_range 1 (field_limit + 1) n l (omega arith)))

  mem_fixed : {f : Rule} → Memᴰ f (fixed_rules block) → (n : ℕ) × (1 ≤ n) × (n ≤ field_limit) × (expansion r n ≡ f)
  unfolding fixed_rules
  mem_fixed m =
      let found = Memᴰ.of_map (expansion r) (range 1 (field_limit + 1)) (rw version at m) in
      let inside = range_mem 1 (field_limit + 1) found.1 in
      (found.0, inside.0, omega (arith, inside.1), found.2)

  -- each of them is as the search takes its rules
  pub expansion-searched : (n : ℕ) → 1 ≤ n → n ≤ field_limit → Searched (rule_output_count block) (expansion r n)
  unfolding expansion variadic_of
  expansion-searched n l m =
      searched_of expanded_limit (rule_output_count block) (expansion r n) (s.expansions n l m)
      (length-map (rule_of block).source_outputs _ ∙ length-source-outputs block)

  pub fixed-searched : (f : Rule) → Memᴰ f (fixed_rules block) → Searched (rule_output_count block) f
  fixed-searched f m =
      let n = mem_fixed m in
      subst (Searched (rule_output_count block)) n.3 (expansion-searched n.0 n.1 n.2)

  module _ (g : Graph) (start : ℕ) where
    among : (f : Found) → least_of g (fixed_rules block) (rule_output_count block) start ≡ some f → LeastAmong g (fixed_rules block) start f
    among = least_among g (fixed_rules block) (rule_output_count block) start fixed-searched

    pub variadic_match : (f : Found) → least_of g (fixed_rules block) (rule_output_count block) start ≡ some f
        → (n : ℕ) × (1 ≤ n) × (n ≤ field_limit) × (expansion r n ≡ f.rule) × MatchFrom g (expansion r n) start f.images
    variadic_match f h =
        let found = among f h in
        let n = mem_fixed found.one in
        (n.0, n.1, n.2, n.3, subst (λ (x : Rule). MatchFrom g x start f.images) (sym n.3) found.from)

    pub variadic_found : (n : ℕ) (images : List ℕ) → 1 ≤ n → n ≤ field_limit → MatchFrom g (expansion r n) start images
        → (f : Found) × (least_of g (fixed_rules block) (rule_output_count block) start ≡ some f)
    variadic_found n images l m from =
        least_of_found g (fixed_rules block) (rule_output_count block) start fixed-searched (expansion r n) images (fixed_mem n l m) from

    pub variadic_least : (f : Found) → least_of g (fixed_rules block) (rule_output_count block) start ≡ some f
        → (n : ℕ) (images : List ℕ) → 1 ≤ n → n ≤ field_limit → MatchFrom g (expansion r n) start images
        → NotAfter (output_images f.rule f.images) (output_images (expansion r n) images)
    variadic_least f h n images l m from = (among f h).least (expansion r n) images (fixed_mem n l m) from

  -- At most one n can match for one choice of output images.
  pub variadic_size : (g : Graph) (n m : ℕ) (images others : List ℕ) → 1 ≤ n → n ≤ field_limit → 1 ≤ m → m ≤ field_limit
      → Match g (expansion r n) images → Match g (expansion r m) others
      → output_images (expansion r n) images ≡ output_images (expansion r m) others → n ≡ m
  variadic_size g n m images others a b c d one other same =
      one_size r (templated block s) expanded_limit n m (s.expansions n a b) (s.expansions m c d) g images others one other same

  -- ---- a search need try one n for each choice

  module _ (g : Graph) (start : ℕ) (chosen : List ℕ) (tried : Memᴰ chosen (choices (length g.slots) (rule_output_count block) start)) where
    -- where the fixed rule for some n matches, n is the number of fields of the Tuple's image
    origin : (f : Found) → attempt_all g (fixed_rules block) chosen ≡ some f
        → attempt_of g chosen (expansion r (fields_at g r chosen)) ≡ some f
    unfolding attempt_of found_by
    origin f h =
        let found = attempt_origin g (fixed_rules block) (rule_output_count block) start fixed-searched chosen f h in
        let n = mem_fixed found.0 in
        let match : Match g (expansion r n.0) f.images =
        subst (λ (x : Rule). Match g x f.images) (sym n.3) (attempt_some g f.rule chosen f.images found.1).0 in
        let outputs : output_images (expansion r n.0) f.images ≡ chosen =
        ap (λ (x : Rule). output_images x f.images) n.3
        ∙ images_are g (fixed_rules block) (rule_output_count block) start fixed-searched chosen f tried h in
        let size : fields_at g r chosen ≡ n.0 =
        ap (fields_at g r) (sym outputs)
        ∙ size-found r (templated block s) n.0 expanded_limit (s.expansions n.0 n.1 n.2) g f.images match in
        ap (λ (k : ℕ). attempt_of g chosen (expansion r k)) size ∙ ap (attempt_of g chosen) n.3 ∙ rw found.1

    -- So trying all n is trying that one.
    pub one_tried : 1 ≤ fields_at g r chosen → fields_at g r chosen ≤ field_limit
        → attempt_all g (fixed_rules block) chosen ≡ attempt_of g chosen (expansion r (fields_at g r chosen))
    unfolding attempt_all
    one_tried l m =
        let one = attempt_of g chosen (expansion r (fields_at g r chosen)) in
        ⊎_elim (λ (e : attempt_all g (fixed_rules block) chosen ≡ none).
        ⊎_elim (λ (h : one ≡ none). e ∙ sym h)
        (λ (h : (f : Found) × (one ≡ some f)).
        let found = first_found (attempt_of g chosen) (fixed_rules block) (expansion r (fields_at g r chosen)) h.0
        (fixed_mem (fields_at g r chosen) l m) h.1 in
        absurd (none-ne-some found.0 (sym e ∙ found.1)))
        (option_either one))
        (λ (e : (f : Found) × (attempt_all g (fixed_rules block) chosen ≡ some f)). e.1 ∙ sym (origin e.0 e.1))
        (option_either (attempt_all g (fixed_rules block) chosen))
