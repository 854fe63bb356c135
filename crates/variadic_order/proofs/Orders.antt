-- What the code keeps of an order, from the empty one on: one copy more, and why an order that is too long stays so.
-- Assumes nothing.
use mathlib.Core.Path.{◌≡◌, refl, sym, ap, ◌∙◌}
use mathlib.Core.Bool.{true, false}
use mathlib.Core.List.Memᴰ
use mathlib.Core.List.{List, [], ◌∷◌, ◌++◌, Memᴰ}
use mathlib.Core.Logic.{⊎_elim}
use Prim.Native.Nat.{ℕ, zero, suc, ◌+◌, ◌<◌, ◌≤◌}
use native.Mathlib.Numerals.{add-one}
use native.Mathlib.Omega.{arith}
use borrow.Author.Tests.{leb-true, leb-false, eqb-true, eqb-false}
use lib.Dec.{eqb, leb}
use lib.ListN.{length, get_or, set, replicate, length-set, length-append, length-replicate}
use lib.Seq.{length-take-le, take-suc-set, get_or-set_same, get_or-set_other}
use Rattle.definitions.specs.Lists.{foldl, member, position}
use Rattle.definitions.specs.Paths.{visit}
use Rattle.definitions.specs.VariadicBlock.{expanded_limit}
use Rattle.laws.proofs.Lists.{decided, true_not_false, fails}
use Rattle.laws.proofs.Builds.{get_or_none}
use Rattle.laws.proofs.Members.{mem_member, no_member, member-left}
use Rattle.laws.proofs.Filtered.{position-behind, position_before}
use Rattle.variadic_order.specs.Order.{copy_numbers, number_in, Ordered}
use Rattle.variadic_order.specs.Visits.{Visited}

-- ---- numbers in an order

-- where a copy has no number, it does not stand in the order
pub no_number : (order : List ℕ) (c : ℕ) → number_in order c ≡ 0 → member c order ≡ false
unfolding number_in
no_number order c e = fails (λ t. let z : suc (position c order) ≡ 0 = rw t at e in omega arith)

pub some_number : (order : List ℕ) (c : ℕ) → (number_in order c ≡ 0 → ⊥) → member c order ≡ true
unfolding number_in
some_number order c e =
    ⊎_elim (λ (t : member c order ≡ true). t) (λ (t : member c order ≡ false). absurd (e (rw t))) (decided (member c order))

-- one copy more has the next number, and the others keep theirs
number_last : (order : List ℕ) (c : ℕ) → member c order ≡ false → number_in (order ++ c ∷ []) c ≡ suc (length order)
unfolding number_in
number_last order c new =
    let here : member c (order ++ c ∷ []) ≡ true = mem_member (Memᴰ.append_right order (Memᴰ.head refl)) in
    rw (here, position-behind c order [] new)

number_other : (order : List ℕ) (c x : ℕ) → (x ≡ c → ⊥) → number_in (order ++ c ∷ []) x ≡ number_in order x
unfolding number_in
number_other order c x other = ⊎_elim
    (λ (t : member x order ≡ true). rw (t, member-left x order (c ∷ []) t, position_before x order (c ∷ []) t))
    (λ (t : member x order ≡ false).
    let none : member x (order ++ c ∷ []) ≡ false = no_member x (order ++ c ∷ []) (λ m. ⊎_elim
    (λ (k : Memᴰ x order). true_not_false (mem_member k) t)
    (λ (k : Memᴰ x (c ∷ [])). other (Memᴰ.eq_of_singleton k))
    (Memᴰ.append_cases order m)) in
    rw (t, none))
    (decided (member x order))

-- ---- orders

-- before the first visit
pub none_visited : Visited (replicate expanded_limit 0) (replicate copy_numbers 0) 0
unfolding number_in member
none_visited = record {
  space = omega arith;
  ordered = record {
    copies_size = length-replicate {A = ℕ} expanded_limit 0;
    numbers_size = length-replicate {A = ℕ} copy_numbers 0;
    bound = omega arith;
    whole = λ l. refl;
    numbered = λ l c k. get_or_none copy_numbers c 0;
    over = λ l. absurd (omega arith);
  };
}

module _ {order copies numbers : List ℕ} {count : ℕ} (o : Ordered order copies numbers count) where
  -- the copies that are kept are all of the order
  pub ordered_size : count ≤ expanded_limit → length order ≡ count
  ordered_size l = sym (ap length (o.whole l)) ∙ length-take-le count copies (omega (arith, o.copies_size))

  -- and there are as many as the order has, where it fits
  pub ordered_few : length order ≤ expanded_limit → count ≡ length order
  ordered_few l = ⊎_elim
      (λ (t : leb count expanded_limit ≡ true). sym (ordered_size (leb-true count expanded_limit t)))
      (λ (t : leb count expanded_limit ≡ false). absurd (omega (arith, o.over (leb-false count expanded_limit t))))
      (decided (leb count expanded_limit))

  pub ordered_visited : count ≤ expanded_limit → Visited copies numbers count
  ordered_visited l = record {
    space = l;
    ordered = record {
      copies_size = o.copies_size;
      numbers_size = o.numbers_size;
      bound = o.bound;
      whole = λ k. refl;
      numbered = λ k. rw (o.whole l) (o.numbered l);
      over = λ k. absurd (omega arith);
    };
  }

  -- copy c, which has no number, is the next
  pub ordered_more : (c : ℕ) → count < expanded_limit → c < copy_numbers → get_or numbers c 0 ≡ 0
      → Ordered (order ++ c ∷ []) (set copies count c) (set numbers c (count + 1)) (count + 1)
  ordered_more c l below none =
      let inside : count < length copies = omega (arith, o.copies_size) in
      let place : c < length numbers = omega (arith, o.numbers_size) in
      let fits : count ≤ expanded_limit = omega arith in
      let new : member c order ≡ false = no_number order c (sym (o.numbered fits c below) ∙ none) in
      record {
        copies_size = simp length-set o.copies_size;
        numbers_size = simp length-set o.numbers_size;
        bound = omega arith;
        whole = λ k. rw (add-one, take-suc-set copies count c inside, o.whole fits);
        numbered = λ k x b. ⊎_elim
            (λ (t : eqb x c ≡ true). rw (eqb-true x c t)
            (get_or-set_same numbers c (count + 1) 0 place ∙ add-one count ∙ ap suc (sym (ordered_size fits)) ∙ sym (number_last order c new)))
            (λ (t : eqb x c ≡ false).
            get_or-set_other numbers c x (count + 1) 0 (eqb-false x c t) ∙ o.numbered fits x b ∙ sym (number_other order c x (eqb-false x c t)))
            (decided (eqb x c));
        over = λ k. absurd (omega arith);
      }

  -- an order that has no space for c is too long with it
  pub ordered_full : (c : ℕ) → expanded_limit ≤ count → Ordered (order ++ c ∷ []) copies numbers (expanded_limit + 1)
  ordered_full c l = record {
    copies_size = o.copies_size;
    numbers_size = o.numbers_size;
    bound = omega arith;
    whole = λ k. absurd (omega arith);
    numbered = λ k. absurd (omega arith);
    over = λ k.
        let more : length (order ++ c ∷ []) ≡ length order + 1 = length-append order (c ∷ []) in
        ⊎_elim (λ (t : eqb count expanded_limit ≡ true).
        let same : count ≡ expanded_limit = eqb-true count expanded_limit t in
        omega (arith, ordered_size (omega arith)))
        (λ (t : eqb count expanded_limit ≡ false).
        let other : count ≡ expanded_limit → ⊥ = eqb-false count expanded_limit t in
        omega (arith, o.over (omega arith)))
        (decided (eqb count expanded_limit));
  }

  -- an order that is too long stays so
  pub ordered_longer : {longer : List ℕ} → expanded_limit < count → length order ≤ length longer → Ordered longer copies numbers count
  ordered_longer l more = record {
    copies_size = o.copies_size;
    numbers_size = o.numbers_size;
    bound = o.bound;
    whole = λ k. absurd (omega arith);
    numbered = λ k. absurd (omega arith);
    over = λ k. omega (arith, o.over l);
  }

-- ---- a visit only adds copies

foldl_longer : (f : List ℕ → ℕ → List ℕ) → ((done : List ℕ) (v : ℕ) → length done ≤ length (f done v))
    → (vs done : List ℕ) → length done ≤ length (foldl f done vs)
unfolding foldl
foldl_longer f one [] done = omega arith
foldl_longer f one (v ∷ vs) done = omega (arith, one done v, foldl_longer f one vs (f done v))

module _ (names : ℕ → List ℕ) where
  visit_longer : (d : ℕ) (done : List ℕ) (v : ℕ) → length done ≤ length (visit names d done v)
  unfolding visit
  visit_longer zero done v = omega arith
  visit_longer (suc d) done v = ⊎_elim
      (λ (t : member v done ≡ true). rw t (omega arith))
      (λ (t : member v done ≡ false). rw t
      (omega (arith, length-append (foldl (visit names d) done (names v)) (v ∷ []), foldl_longer (visit names d) (visit_longer d) (names v) done)))
      (decided (member v done))

  pub visits_longer : (d : ℕ) (vs done : List ℕ) → length done ≤ length (foldl (visit names d) done vs)
  visits_longer d vs done = foldl_longer (visit names d) (visit_longer d) vs done
