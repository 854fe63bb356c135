-- Laws about results of many expressions: there are such where each expression has a fit one, and what their words are.
-- Assumes nothing.
use mathlib.Core.Path.{◌≡◌, refl, sym, ap, ap₂, ◌∙◌}
use mathlib.Core.Bool.{Bool, true, false, cond, not, ◌&&◌, and-false, or-true, or-and_distrib_left, true≢false, false≢true}
use mathlib.Core.List.{List, [], ◌∷◌, map}
use mathlib.Core.Logic.{⊎_elim}
use mathlib.Core.Option.{Option, none, some, some-injective}
use Prim.Native.Nat.{ℕ, ◌+◌, ◌<◌, ◌≤◌}
use native.Mathlib.Omega.{arith}
use borrow.Author.Tests.{ltb-true, ltb-false, lt-ltb, le-ltb, not-false}
use lib.Dec.{eqb, ltb}
use lib.IntN.{ℤ}
use lib.ListN.{length, get_or, set, take}
use lib.Seq.{take_all}
use Rattle.definitions.specs.Lists.{all_below, lowest, all, padded}
use Rattle.definitions.specs.Fields.{word_of}
use Rattle.definitions.specs.Operators.{kind_proj}
use Rattle.definitions.specs.Graph.{attribute_limit, at_least_one}
use Rattle.definitions.specs.Rule.{Expression, anything, Origin, Pattern, Rule, wildcard, target_of}
use Rattle.definitions.specs.Attributes.{result_of}
use Rattle.definitions.specs.Rewriting.{results, index_fits, vertex_results, target_results}
use Rattle.laws.proofs.Lists.{decided, true_not_false, fails, all_below_at, all_below_every, all_below_some, lowest_none, lowest-found, lowest_passed, all_every, all_fails}
use Rattle.laws.proofs.Filling.{filled_more}
use Rattle.laws.proofs.Results.{joined, joined_some, kept, vertex-results}
use Rattle.std.specs.declared.option.Option as language
use Rattle.numbers.specs.Value.{value_of}
use Rattle.new_words.specs.Words.{word_of_value, index_like}
use Rattle.new_words.proofs.Laws.{word_in, value-word}
use Rattle.target_attributes.specs.declared.Lack.{Lack}
use Rattle.std.specs.declared.result.Result.{Result}
use Rattle.std.specs.declared.result.Result.TheVariants.{Ok, Err}
use Rattle.std.specs.Result.{is_err}
use Rattle.target_attributes.specs.Words.{is_given, Given}
use Rattle.target_attributes.specs.Fitness.{Fitness, fit_at, vertex_given, is_fit, first_unfit, vertex_fitness, target_fitness, fitness_of, words_of, Told}

-- ---- what is given

module _ {A : Type 0} where
  pub given_values : (best : Option A) → is_given best ≡ true → (x : A) × (best ≡ some x)
  unfolding is_given
  given_values none h = absurd (false≢true h)
  given_values (some x) h = (x, refl)

  pub none_given : (best : Option A) → is_given best ≡ false → best ≡ none
  unfolding is_given
  none_given none h = refl
  none_given (some x) h = absurd (true≢false h)

  given_cond : (b : Bool) (x : A) → is_given (cond b (some x) none) ≡ b
  unfolding is_given
  given_cond true x = refl
  given_cond false x = refl

  joined_given : (x : Option A) (xs : Option (List A)) → is_given (joined x xs) ≡ (is_given x && is_given xs)
  unfolding is_given joined
  joined_given none xs = refl
  joined_given (some y) none = refl
  joined_given (some y) (some ys) = refl

-- ---- the first that is unfit

module _ (fit : ℕ → Bool) (n : ℕ) where
  abbrev unfit : ℕ → Bool
  unfit i = not (fit i)

  pub unfit-first : (i : ℕ) → i < n → all_below fit i ≡ true → fit i ≡ false → Err (record { place = i }) ≡ first_unfit fit n
  unfolding first_unfit
  unfit-first i l h f = simp (lowest-found unfit n i l (λ k m. ap not (all_below_at fit i k h m)) (ap not f), lt-ltb i n l)

  pub none_unfit : (i : ℕ) → n ≤ i → all_below fit i ≡ true → Ok tt ≡ first_unfit fit n
  unfolding first_unfit
  none_unfit i m h = simp (lowest_none unfit n (λ k l. ap not (all_below_at fit i k h (omega arith))), le-ltb n n (omega arith))

  -- there is no first where all are fit
  fit_below : is_fit (first_unfit fit n) ≡ all_below fit n
  unfolding is_fit first_unfit
  fit_below =
      ⊎_elim
      (λ (t : ltb (lowest unfit n) n ≡ true). simp t (sym (fails (λ (h : all_below fit n ≡ true).
      omega (arith, ltb-true (lowest unfit n) n t, lowest_none unfit n (λ k l. ap not (all_below_at fit n k h l)))))))
      (λ (t : ltb (lowest unfit n) n ≡ false). simp t (sym (all_below_every fit n (λ k l.
      not-false (fit k) (lowest_passed unfit n k (omega (arith, ltb-false (lowest unfit n) n t)))))))
      (decided (ltb (lowest unfit n) n))

-- what the library's test of an answer says
module _ {A : Type 0} where
  pub err-unfit : {b : Bool} (r : Result A Lack) → b ≡ is_err r → b ≡ true → is_fit r ≡ false
  unfolding is_fit
  err-unfit (Ok x) e h = absurd (true≢false (sym h ∙ e))
  err-unfit (Err lack) e h = refl

  pub ok-fit : {b : Bool} (r : Result A Lack) → b ≡ is_err r → b ≡ false → is_fit r ≡ true
  unfolding is_fit
  ok-fit (Ok x) e h = refl
  ok-fit (Err lack) e h = absurd (false≢true (sym h ∙ e))

-- ---- all target vertices

-- there are results of all where each has its own
target_given : (read : ℕ → ℕ → Option ℤ) (ps : List (Pattern Origin))
    → is_given (target_results read ps) ≡ all (λ p. is_given (vertex_results read p)) ps
unfolding target_results joined all is_given
target_given read [] = refl
target_given read (p ∷ ps) =
    joined_given (vertex_results read p) (target_results read ps)
    ∙ ap (λ (b : Bool). is_given (vertex_results read p) && b) (target_given read ps)

module _ (read : ℕ → ℕ → Option ℤ) (r : Rule) where
  pub target_lacks : (t : ℕ) → t < length r.target → vertex_given read r t ≡ false → false ≡ is_given (target_results read r.target)
  unfolding target_of
  target_lacks t l f =
      sym (target_given read r.target ∙ all_fails (λ p. is_given (vertex_results read p)) wildcard r.target t l f)

  pub target_found : (t : ℕ) → length r.target ≤ t → all_below (vertex_given read r) t ≡ true → true ≡ is_given (target_results read r.target)
  unfolding target_of
  target_found t m h =
      sym (target_given read r.target ∙ all_every (λ p. is_given (vertex_results read p)) wildcard r.target
      (λ k l. all_below_at (vertex_given read r) t k h (omega arith)))

  -- all are fit exactly where there are results of all
  pub target_fitness_lem : is_fit (target_fitness read r) ≡ is_given (target_results read r.target)
  unfolding target_fitness
  target_fitness_lem =
      fit_below (vertex_given read r) (length r.target)
      ∙ ⊎_elim
      (λ (t : all_below (vertex_given read r) (length r.target) ≡ true). t ∙ target_found (length r.target) (omega arith) t)
      (λ (f : all_below (vertex_given read r) (length r.target) ≡ false).
      let vertex = all_below_some (vertex_given read r) (length r.target) (λ t. true_not_false t f) in
      f ∙ target_lacks vertex.0 vertex.1 vertex.2)
      (decided (all_below (vertex_given read r) (length r.target)))

  -- so what is answered says whether there are such
  pub unfit_lacks : {answer : Fitness} {lack : Lack} → answer ≡ target_fitness read r → answer ≡ Err lack
      → is_given (target_results read r.target) ≡ false
  unfolding is_fit
  unfit_lacks e f = sym target_fitness_lem ∙ ap is_fit (sym e ∙ f)

  pub fit_found : {answer : Fitness} → answer ≡ target_fitness read r → answer ≡ Ok tt → is_given (target_results read r.target) ≡ true
  unfolding is_fit
  fit_found e f = sym target_fitness_lem ∙ ap is_fit (sym e ∙ f)

-- what is told of the results of one says whether there are such
pub told_given : (best : Option (List ℤ)) (ok : Bool) (words : List ℕ) → Given best ok words → is_given best ≡ ok
unfolding is_given
told_given best true words g = rw (g.found refl).1
told_given best false words g = rw (g.lacking refl)

-- ---- one target vertex

-- the results, where a Proj's index is at least 1
abbrev checked : ℕ → Option (List ℤ) → Option (List ℤ)
checked kind best = kept (index_fits kind) best

checked-joined : (kind : ℕ) (x : Option ℤ) (xs : Option (List ℤ))
    → is_given (checked kind (joined x xs)) ≡ (index_like kind x && is_given (checked kind xs))
unfolding is_given joined kept index_like index_fits all
checked-joined kind none xs = refl
checked-joined kind (some z) none = sym (and-false (index_like kind (some z)))
checked-joined kind (some z) (some zs) =
    given_cond (index_fits kind (z ∷ zs)) (z ∷ zs)
    ∙ or-and_distrib_left (not (eqb kind kind_proj)) (at_least_one z) (all at_least_one zs)
    ∙ ap (λ (b : Bool). index_like kind (some z) && b) (sym (given_cond (index_fits kind zs) zs))

checked_given : (read : ℕ → ℕ → Option ℤ) (kind : ℕ) (es : List Expression)
    → is_given (checked kind (results read es)) ≡ all (λ e. index_like kind (result_of read e)) es
unfolding results joined kept all is_given index_fits
checked_given read kind [] = given_cond (index_fits kind []) [] ∙ or-true (not (eqb kind kind_proj))
checked_given read kind (e ∷ es) =
    checked-joined kind (result_of read e) (results read es)
    ∙ ap (λ (b : Bool). index_like kind (result_of read e) && b) (checked_given read kind es)

-- ---- words

result_words : (read : ℕ → ℕ → Option ℤ) (es : List Expression) (zs : List ℤ) → results read es ≡ some zs
    → map word_of zs ≡ map (λ e. word_in (result_of read e)) es
unfolding results joined
result_words read [] zs h = ap (map word_of) (sym (some-injective [] zs h))
result_words read (e ∷ es) zs h =
    let parts = joined_some (result_of read e) (results read es) zs h in
    ap (map word_of) parts.4
    ∙ ap₂ ◌∷◌ (sym (ap word_in parts.2)) (result_words read es parts.1 parts.3)

-- ---- one by one

module _ (read : ℕ → ℕ → Option ℤ) (p : Pattern Origin) where
  pub fit-tested : {b : Bool} (i kind : ℕ) (v : language.Option ℤ) → kind ≡ p.kind → value_of v ≡ result_of read (get_or p.attributes i anything)
      → b ≡ index_like kind (value_of v) → b ≡ fit_at read p i
  fit-tested i kind v k e h = rw (h, k, e)

  -- the words of the first i attributes
  abbrev pub words_to : ℕ → List ℕ
  words_to i = padded attribute_limit 0 (map (λ e. word_in (result_of read e)) (take i p.attributes))

  vertex_given_lem : is_given (vertex_results read p) ≡ all (λ e. index_like p.kind (result_of read e)) p.attributes
  unfolding vertex_results kept
  vertex_given_lem = checked_given read p.kind p.attributes

  pub words_more : (i : ℕ) (v : language.Option ℤ) → i < length p.attributes → length p.attributes ≤ attribute_limit
      → value_of v ≡ result_of read (get_or p.attributes i anything) → set (words_to i) i (word_of_value v) ≡ words_to (i + 1)
  words_more i v l fits h =
      filled_more (λ e. word_in (result_of read e)) anything 0 attribute_limit p.attributes i (omega arith) l
      (value-word v ∙ ap word_in h) refl

  -- an attribute without a fit result
  pub vertex_lacks : (i : ℕ) (words : List ℕ) → i < length p.attributes → fit_at read p i ≡ false → Given (vertex_results read p) false words
  vertex_lacks i words l f = record {
    found = λ t. absurd (false≢true t);
    lacking = λ _. none_given (vertex_results read p)
        (vertex_given_lem ∙ all_fails (λ e. index_like p.kind (result_of read e)) anything p.attributes i l f);
  }

  -- all attributes have fit results
  pub vertex-found : (i : ℕ) (words : List ℕ) → length p.attributes ≤ i → all_below (fit_at read p) i ≡ true → words ≡ words_to i
      → Given (vertex_results read p) true words
  vertex-found i words m h w =
      let best = given_values (vertex_results read p)
      (vertex_given_lem ∙ all_every (λ e. index_like p.kind (result_of read e)) anything p.attributes
      (λ k l. all_below_at (fit_at read p) i k h (omega arith))) in
      let same = result_words read p.attributes best.0
      (vertex-results read p best.0 best.1) in
      record {
        found = λ _. (best.0, best.1, w ∙ rw (take_all i p.attributes m, same));
        lacking = λ f. absurd (true≢false f);
      }

  -- the first attribute without a fit result is told,
  pub told_unfit : (i : ℕ) → i < length p.attributes → all_below (fit_at read p) i ≡ true → fit_at read p i ≡ false
      → Told read p (Err (record { place = i }))
  unfolding is_fit vertex_fitness fitness_of words_of
  told_unfit i l h f = record {
    first = unfit-first (fit_at read p) (length p.attributes) i l h f;
    given = vertex_lacks i [] l f;
  }

  -- or the words of all
  pub told_fit : (i : ℕ) (words : List ℕ) → length p.attributes ≤ i → all_below (fit_at read p) i ≡ true → words ≡ words_to i
      → Told read p (Ok words)
  unfolding is_fit vertex_fitness fitness_of words_of
  told_fit i words m h w = record {
    first = none_unfit (fit_at read p) (length p.attributes) i m h;
    given = vertex-found i words m h w;
  }
