-- The fields of a vertex in one row: the named Tuple's stand n times each, and are counted through.
-- Assumes nothing.
use mathlib.Core.Path.{◌≡◌, refl, sym, ap, ap₂, ◌∙◌}
use mathlib.Core.Bool.{true, false}
use mathlib.Core.List.{List, [], ◌∷◌, ◌++◌, map, append_assoc, append-nil}
use Prim.Native.Nat.{ℕ, zero, suc, ◌+◌, ◌*◌, ◌/◌, ◌%◌, ◌<◌, ◌≤◌}
use native.Mathlib.Nat.{add-zero, add-suc, zero-mul, mul-zero, suc-mul, mul-add-div_right, div-eq_of_lt, mod-add-div'}
use native.Mathlib.Omega.{arith}
use Rattle.definitions.specs.Lists.{tabulate, concat_map, range}
use Rattle.definitions.specs.Variadic.{VariadicRule, fields}
use Rattle.laws.proofs.Pieces.{concat_more}
use Rattle.laws.proofs.Ranges.{range_more, tabulate-more}

-- ---- the field in place k of row m

module _ (n : ℕ) (some : 1 ≤ n) where
  quotient : (m k : ℕ) → k < n → (m * n + k) / n ≡ m
  quotient m k l = mul-add-div_right some m k ∙ ap (λ (q : ℕ). m + q) (div-eq_of_lt l) ∙ add-zero m

  remainder : (m k : ℕ) → k < n → (m * n + k) % n ≡ k
  remainder m k l =
      let whole : (m * n + k) % n + m * n ≡ m * n + k = rw (quotient m k l) at (mod-add-div' (m * n + k) n) in
      omega arith

-- ---- the lists of the numbers below k, one after the other

module _ {B : Type 0} where
  unfoldable pub row : (ℕ → List B) → ℕ → List B
  row f k = concat_map f (range 0 k)

  row_more : (f : ℕ → List B) (k : ℕ) → row f (suc k) ≡ row f k ++ f k
  unfolding row
  row_more f k = ap (concat_map f) (range_more k) ∙ concat_more f (range 0 k) k

  pub row_same : (f h : ℕ → List B) (k : ℕ) → ((i : ℕ) → i < k → f i ≡ h i) → row f k ≡ row h k
  unfolding row range tabulate concat_map
  row_same f h zero e = refl
  row_same f h (suc k) e =
      row_more f k ∙ ap₂ ◌++◌ (row_same f h k (λ i l. e i (omega arith))) (e k (omega arith)) ∙ sym (row_more h k)

  row_split : (f : ℕ → List B) (a b : ℕ) → row f (a + b) ≡ row f a ++ row (λ k. f (a + k)) b
  unfolding row range tabulate concat_map
  row_split f a zero = rw (add-zero a) (sym (append-nil (row f a)))
  row_split f a (suc b) =
      ap (row f) (add-suc a b) ∙ row_more f (a + b) ∙ ap (λ (l : List B). l ++ f (a + b)) (row_split f a b)
      ∙ append_assoc (row f a) (row (λ k. f (a + k)) b) (f (a + b))
      ∙ ap (λ (l : List B). row f a ++ l) (sym (row_more (λ k. f (a + k)) b))

  row_empty : (m : ℕ) → row (λ p. []) m ≡ []
  unfolding row range tabulate concat_map
  row_empty zero = refl
  row_empty (suc m) = row_more (λ p. []) m ∙ append-nil (row (λ p. []) m) ∙ row_empty m

  some_rows : (n : ℕ) → 1 ≤ n → (f : ℕ → ℕ → List B) (m : ℕ) → row (λ p. row (f p) n) m ≡ row (λ i. f (i / n) (i % n)) (m * n)
  unfolding row range tabulate concat_map
  some_rows n some f zero = rw (zero-mul n)
  some_rows n some f (suc m) =
      row_more (λ p. row (f p) n) m
      ∙ ap₂ ◌++◌ (some_rows n some f m)
      (row_same (f m) (λ k. f ((m * n + k) / n) ((m * n + k) % n)) n (λ k l. rw (quotient n some m k l, remainder n some m k l)))
      ∙ sym (row_split (λ i. f (i / n) (i % n)) (m * n) n)
      ∙ ap (row (λ i. f (i / n) (i % n))) (sym (suc-mul m n))

  -- m rows of n each
  pub row-rows : (n : ℕ) (f : ℕ → ℕ → List B) (m : ℕ) → row (λ p. row (f p) n) m ≡ row (λ i. f (i / n) (i % n)) (m * n)
  unfolding row range tabulate concat_map
  row-rows zero f m = row_empty m ∙ ap (row (λ i. f (i / 0) (i % 0))) (sym (mul-zero m))
  row-rows (suc n) f m = some_rows (suc n) (omega arith) f m

-- ---- lists of lists

module _ {A B : Type 0} (f : A → List B) where
  pub concat-tabulate : (m : ℕ) (g : ℕ → A) → concat_map f (tabulate m g) ≡ row (λ j. f (g j)) m
  unfolding row range tabulate concat_map
  concat-tabulate zero g = refl
  concat-tabulate (suc m) g =
      ap (concat_map f) (tabulate-more m g) ∙ concat_more f (tabulate m g) (g m) ∙ ap (λ (l : List B). l ++ f (g m)) (concat-tabulate m g)
      ∙ sym (row_more (λ j. f (g j)) m)

  concat-append : (xs ys : List A) → concat_map f (xs ++ ys) ≡ concat_map f xs ++ concat_map f ys
  unfolding concat_map
  concat-append [] ys = refl
  concat-append (x ∷ xs) ys = ap (λ (l : List B). f x ++ l) (concat-append xs ys) ∙ sym (append_assoc (f x) (concat_map f xs) (concat_map f ys))

  concat-map : (g : A → A) (xs : List A) → concat_map f (map g xs) ≡ concat_map (λ x. f (g x)) xs
  unfolding concat_map
  concat-map g [] = refl
  concat-map g (x ∷ xs) = ap (λ (l : List B). f (g x) ++ l) (concat-map g xs)

  concat-concat : (g : A → List A) (xs : List A) → concat_map f (concat_map g xs) ≡ concat_map (λ x. concat_map f (g x)) xs
  unfolding concat_map
  concat-concat g [] = refl
  concat-concat g (x ∷ xs) = concat-append (g x) (concat_map g xs) ∙ ap (λ (l : List B). concat_map f (g x) ++ l) (concat-concat g xs)

-- a list of its elements alone
pub concat_single : {A : Type 0} (xs : List A) → concat_map (λ x. x ∷ []) xs ≡ xs
unfolding concat_map
concat_single [] = refl
concat_single (x ∷ xs) = ap (λ l. x ∷ l) (concat_single xs)

-- ---- what `names` finds in the fields

module _ (r : VariadicRule) (n : ℕ) {P : Type 0} (naming : ℕ → P → P) (names : P → List ℕ) (place : ℕ → P) (m index : ℕ) where
  pub tuple-fields : concat_map names (fields r n true naming index (tabulate m place))
      ≡ row (λ i. names (naming (suc (i % n)) (place (i / n)))) (m * n)
  unfolding fields
  tuple-fields =
      concat-concat names (λ p. tabulate n (λ k. naming (suc k) p)) (tabulate m place)
      ∙ concat-tabulate (λ p. concat_map names (tabulate n (λ k. naming (suc k) p))) m place
      ∙ row_same (λ j. concat_map names (tabulate n (λ k. naming (suc k) (place j)))) (λ j. row (λ k. names (naming (suc k) (place j))) n) m
      (λ j l. concat-tabulate names n (λ k. naming (suc k) (place j)))
      ∙ row-rows n (λ j k. names (naming (suc k) (place j))) m

  pub other_fields : concat_map names (fields r n false naming index (tabulate m place)) ≡ row (λ i. names (naming index (place i))) m
  unfolding fields
  other_fields = concat-map names (naming index) (tabulate m place) ∙ concat-tabulate (λ p. names (naming index p)) m place
