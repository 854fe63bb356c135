-- The lines of slots: the texts of their form are those that the definition prints for lines that fit.
-- Assumes nothing.
use mathlib.Core.Path.{◌≡◌, refl, sym, ap, ◌∙◌}
use mathlib.Core.Bool.{true, false}
use mathlib.Core.List.{List, [], ◌∷◌, ◌++◌, append_assoc}
use mathlib.Core.Logic.{◌⊎◌, inl, inr, ⊎_elim}
use mathlib.Core.Option.{none}
use Prim.Native.Nat.{ℕ, zero, suc, ◌+◌, ◌-◌, ◌≤◌, ◌<◌}
use native.Mathlib.Omega.{arith}
use borrow.Author.Tests.{ltb-true, lt-ltb}
use lib.Dec.{ltb}
use lib.IntN.{ℤ, pos}
use lib.ListN.{length}
use Rattle.definitions.specs.Lists.{all, concat_map}
use Rattle.laws.proofs.Lists.{decided}
use Rattle.definitions.specs.Numerals.{Field, in_field, numeral}
use Rattle.definitions.specs.Sheet.{Line, slot_field, place_field, attribute_field, LineFits, LinesFit, word, joined, operator_text, line_text}
use Rattle.listing.specs.Typing.{is_numeric, is_digit, nothing, whole, FieldFits}
use Rattle.listing.specs.Forms.{Form, byte, choice, number, Text, typed_off, step, value_of, Lives}
use Rattle.listing.specs.Grammar.{magnitude, operator_form, least_inputs, most_inputs, attribute_count, attributes_form, lists_form, line_form, lines_form}
use Rattle.listing.proofs.Reach.{within_low, within_high, is_within}
use Rattle.listing.proofs.Pieces.{Separate, byte_separate, number_lives, text-number, number-text, joined_lives, text-joined, joined-text}
use Rattle.listing.proofs.Words.{word_lives, text-word, word-text, no_negative, magnitude_in, in_magnitude, operator_lives, text-operator, operator-text, counts_agree, shape_of, of_shape}

pub place-fits : FieldFits place_field
place-fits = record { some_number = omega arith; ten_digits = omega arith; ten_below = omega arith }

pub attribute_fits : FieldFits attribute_field
attribute_fits = record { some_number = omega arith; ten_digits = omega arith; ten_below = omega arith }

pub slot-fits : (from size : ℕ) → from < size → size ≤ 512 → FieldFits (slot_field from size)
slot-fits from size l small = record { some_number = omega arith; ten_digits = omega arith; ten_below = omega arith }

space_other : is_numeric 32 ≡ false
unfolding is_numeric is_digit
space_other = refl

bracket_other : is_numeric 93 ≡ false
unfolding is_numeric is_digit
bracket_other = refl

brace_other : is_numeric 125 ≡ false
unfolding is_numeric is_digit
brace_other = refl

-- ---- the text of a line

pub regroup : (a b c d e f rest : List ℕ) → a ++ b ++ c ++ d ++ e ++ f ++ rest ≡ a ++ (b ++ (c ++ (d ++ (e ++ (f ++ rest)))))
regroup a b c d e f rest = simp append_assoc

-- the text of a line, part by part
line_parts : (l : Line) (rest : List ℕ) → line_text l ++ rest
    ≡ numeral (pos l.slot) ++ (32 ∷ (word l.kind ++ (operator_text l.kind l.operator
    ++ (32 ∷ 91 ∷ (joined l.inputs ++ 93 ∷ 32 ∷ 123 ∷ (joined l.attributes ++ 125 ∷ 10 ∷ rest))))))
unfolding line_text
line_parts l rest =
    regroup (numeral (pos l.slot)) (32 ∷ word l.kind) (operator_text l.kind l.operator) (32 ∷ 91 ∷ joined l.inputs)
    (93 ∷ 32 ∷ 123 ∷ joined l.attributes) (125 ∷ 10 ∷ []) rest

abbrev line_of : ℕ → ℕ → ℕ → List ℤ → List ℤ → Line
line_of slot kind operator inputs attributes =
    record { slot = slot; kind = kind; operator = operator; inputs = inputs; attributes = attributes }

-- the text of a line from behind its slot's number
abbrev behind : Line → List ℕ → List ℕ
behind l rest = 32 ∷ (word l.kind ++ (operator_text l.kind l.operator
    ++ (32 ∷ 91 ∷ (joined l.inputs ++ 93 ∷ 32 ∷ 123 ∷ (joined l.attributes ++ 125 ∷ 10 ∷ rest)))))

module _ {A : Type 0} where
  -- ---- the two lists of a line

  pub lists_separate : (kind operator : ℕ) (f : List ℤ → List ℤ → Form A) → Separate (lists_form kind operator f)
  unfolding lists_form
  lists_separate kind operator f = byte_separate 32 _ space_other

  pub lists_lives : (kind operator : ℕ) (f : List ℤ → List ℤ → Form A) → ((inputs attributes : List ℤ) → Lives (f inputs attributes))
      → Lives (lists_form kind operator f)
  unfolding lists_form attributes_form
  lists_lives kind operator f lives =
      joined_lives place_field place-fits 93 bracket_other refl (least_inputs kind operator) (most_inputs kind operator)
      (λ inputs. attributes_form (attribute_count kind operator) (f inputs))
      (λ inputs. joined_lives attribute_field attribute_fits 125 brace_other refl (attribute_count kind operator) (attribute_count kind operator)
      (λ attributes. byte 10 (f inputs attributes)) (λ attributes. lives inputs attributes))

  pub record Listed (kind operator : ℕ) (f : List ℤ → List ℤ → Form A) (text : List ℕ) (a : A) : Type 0 where
    pub inputs : List ℤ
    pub attributes : List ℤ
    pub rest : List ℕ
    pub counted : (least_inputs kind operator ≤ length inputs) × (length inputs ≤ most_inputs kind operator)
        × (length attributes ≡ attribute_count kind operator)
    pub inputs-fit : all (in_field place_field) inputs ≡ true
    pub attributes-fit : all (in_field attribute_field) attributes ≡ true
    pub same : text ≡ 32 ∷ 91 ∷ (joined inputs ++ 93 ∷ 32 ∷ 123 ∷ (joined attributes ++ 125 ∷ 10 ∷ rest))
    pub follows : Text (f inputs attributes) rest a

  -- the attributes, from behind the inputs
  pub record Braced (count : ℕ) (f : List ℤ → Form A) (text : List ℕ) (a : A) : Type 0 where
    pub attributes : List ℤ
    pub rest : List ℕ
    pub counted : length attributes ≡ count
    pub fit : all (in_field attribute_field) attributes ≡ true
    pub same : text ≡ 32 ∷ 123 ∷ (joined attributes ++ 125 ∷ 10 ∷ rest)
    pub follows : Text (f attributes) rest a

  text-attributes : (count : ℕ) (f : List ℤ → Form A) (text : List ℕ) (a : A) → Text (attributes_form count f) text a → Braced count f text a
  unfolding attributes_form
  text-attributes count f text a (w, e, (v, e2, h)) =
      let j = text-joined attribute_field attribute_fits 125 brace_other refl count count (λ attributes. byte 10 (f attributes)) v a (omega arith) h in
      let (rest, e3, h2) = j.follows in
      record {
        attributes = j.numbers;
        rest = rest;
        counted = omega (arith, j.few, j.many);
        fit = j.inside;
        same = e ∙ ap (λ (xs : List ℕ). 32 ∷ xs) (e2 ∙ ap (λ (xs : List ℕ). 123 ∷ xs)
            (j.same ∙ ap (λ (xs : List ℕ). joined j.numbers ++ 125 ∷ xs) e3));
        follows = h2;
      }

  pub text-lists : (kind operator : ℕ) (f : List ℤ → List ℤ → Form A) (text : List ℕ) (a : A) → Text (lists_form kind operator f) text a
      → Listed kind operator f text a
  unfolding lists_form
  text-lists kind operator f text a (w, e, (v, e2, h)) =
      let j = text-joined place_field place-fits 93 bracket_other refl (least_inputs kind operator) (most_inputs kind operator)
      (λ inputs. attributes_form (attribute_count kind operator) (f inputs)) v a (counts_agree kind operator).0 h in
      let k = text-attributes (attribute_count kind operator) (f j.numbers) j.rest a j.follows in
      record {
        inputs = j.numbers;
        attributes = k.attributes;
        rest = k.rest;
        counted = (j.few, j.many, k.counted);
        inputs-fit = j.inside;
        attributes-fit = k.fit;
        same = e ∙ ap (λ (xs : List ℕ). 32 ∷ xs) (e2 ∙ ap (λ (xs : List ℕ). 91 ∷ xs)
            (j.same ∙ ap (λ (xs : List ℕ). joined j.numbers ++ 93 ∷ xs) k.same));
        follows = k.follows;
      }

  pub lists-text : (kind operator : ℕ) (f : List ℤ → List ℤ → Form A) (inputs attributes : List ℤ) (rest : List ℕ) (a : A)
      → least_inputs kind operator ≤ length inputs → length inputs ≤ most_inputs kind operator → length attributes ≡ attribute_count kind operator
      → all (in_field place_field) inputs ≡ true → all (in_field attribute_field) attributes ≡ true → Text (f inputs attributes) rest a
      → Text (lists_form kind operator f) (32 ∷ 91 ∷ (joined inputs ++ 93 ∷ 32 ∷ 123 ∷ (joined attributes ++ 125 ∷ 10 ∷ rest))) a
  unfolding lists_form attributes_form
  lists-text kind operator f inputs attributes rest a few many count fit fit2 h = (
    _,
    refl,
    (
      _,
      refl,
      joined-text place_field place-fits 93 bracket_other refl (least_inputs kind operator) (most_inputs kind operator)
          (λ xs. attributes_form (attribute_count kind operator) (f xs)) inputs (32 ∷ 123 ∷ (joined attributes ++ 125 ∷ 10 ∷ rest)) a
          (counts_agree kind operator).1 few many fit (
            _,
            refl,
            (
              _,
              refl,
              joined-text attribute_field attribute_fits 125 brace_other refl (attribute_count kind operator) (attribute_count kind operator)
                  (λ xs. byte 10 (f inputs xs)) attributes (10 ∷ rest) a (λ l. l) (omega arith) (omega arith) fit2 (rest, refl, h),
            ),
          ),
    ),
  )

  -- ---- a line

  pub line_separate : (slot : ℕ) (f : Line → Form A) → Separate (line_form slot f)
  unfolding line_form
  line_separate slot f = byte_separate 32 _ space_other

  pub line_lives : (slot : ℕ) (f : Line → Form A) → ((l : Line) → Lives (f l)) → Lives (line_form slot f)
  unfolding line_form
  line_lives slot f lives =
      word_lives (λ kind. operator_form kind (λ operator. lists_form kind operator (λ inputs attributes. f (line_of slot kind operator inputs attributes))))
      (λ kind known. operator_lives kind (λ operator. lists_form kind operator (λ inputs attributes. f (line_of slot kind operator inputs attributes)))
      (λ operator. lists_lives kind operator (λ inputs attributes. f (line_of slot kind operator inputs attributes))
      (λ inputs attributes. lives (line_of slot kind operator inputs attributes)))
      (λ operator. lists_separate kind operator (λ inputs attributes. f (line_of slot kind operator inputs attributes))))

  pub record Lined (slot : ℕ) (f : Line → Form A) (text : List ℕ) (a : A) : Type 0 where
    pub line : Line
    pub rest : List ℕ
    pub slot_same : line.slot ≡ slot
    pub fits : LineFits line
    pub same : numeral (pos slot) ++ text ≡ line_text line ++ rest
    pub follows : Text (f line) rest a

  pub text-line : (slot : ℕ) (f : Line → Form A) (text : List ℕ) (a : A) → Text (line_form slot f) text a → Lined slot f text a
  unfolding line_form
  text-line slot f text a (w, e, h) =
      let k = text-word (λ kind. operator_form kind (λ operator. lists_form kind operator (λ inputs attributes. f (line_of slot kind operator inputs attributes)))) w a h in
      let o = text-operator k.kind (λ operator. lists_form k.kind operator (λ inputs attributes. f (line_of slot k.kind operator inputs attributes)))
      k.rest a k.follows in
      let b = text-lists k.kind o.operator (λ inputs attributes. f (line_of slot k.kind o.operator inputs attributes)) o.rest a o.follows in
      record {
        line = line_of slot k.kind o.operator b.inputs b.attributes;
        rest = b.rest;
        slot_same = refl;
        fits = record {
          kind = k.known;
          shape = shape_of k.kind o.operator (length b.inputs) (length b.attributes) k.known o.known
              b.counted.0 b.counted.1 b.counted.2;
          inputs = b.inputs-fit;
          attributes = b.attributes-fit;
        };
        same = ap (λ (xs : List ℕ). numeral (pos slot) ++ xs) (e ∙ ap (λ (xs : List ℕ). 32 ∷ xs) (k.same ∙ ap (λ (xs : List ℕ). word k.kind ++ xs)
            (o.same ∙ ap (λ (xs : List ℕ). operator_text k.kind o.operator ++ xs) b.same)))
            ∙ sym (line_parts (line_of slot k.kind o.operator b.inputs b.attributes) b.rest);
        follows = b.follows;
      }

  line-text : (f : Line → Form A) (l : Line) (rest : List ℕ) (a : A) → LineFits l → Text (f l) rest a → Text (line_form l.slot f) (behind l rest) a
  unfolding line_form
  line-text f l rest a fits h =
      let c = of_shape l.kind l.operator (length l.inputs) (length l.attributes) fits.shape in (
        _,
        refl,
        word-text (λ kind. operator_form kind (λ operator. lists_form kind operator (λ inputs attributes. f (line_of l.slot kind operator inputs attributes)))) _ a
            l.kind fits.kind
            (operator-text l.kind (λ operator. lists_form l.kind operator (λ inputs attributes. f (line_of l.slot l.kind operator inputs attributes)))
            l.operator _ a c.operator-known
            (lists-text l.kind l.operator (λ inputs attributes. f (line_of l.slot l.kind l.operator inputs attributes)) l.inputs l.attributes rest a
            c.few c.many c.count fits.inputs fits.attributes h)),
      )

  -- ---- the lines

  lines-value : (left from size : ℕ) (f : List Line → Form A) → value_of (lines_form left from size f) ≡ none
  unfolding lines_form value_of
  lines-value zero from size f = refl
  lines-value (suc left) from size f =
      ⊎_elim (λ (t : ltb from size ≡ true). rw t) (λ (t : ltb from size ≡ false). rw t) (decided (ltb from size))

  -- the form for one line and those behind it
  abbrev next_line : ℕ → ℕ → (List Line → Form A) → ℤ → Form A
  next_line left size f z = line_form (magnitude z) (λ l. lines_form left (suc (magnitude z)) size (λ lines. f (l ∷ lines)))

  o-number : (field : Field) (f : ℤ → Form A) → step (number field nothing f) 111 ≡ none
  unfolding step is_numeric is_digit whole typed_off
  o-number field f = refl

  pub lines_lives : (left from size : ℕ) (f : List Line → Form A) → size ≤ 512 → ((lines : List Line) → Lives (f lines))
      → Lives (lines_form left from size f)
  unfolding lines_form value_of
  lines_lives zero from size f small lives = lives []
  lines_lives (suc left) from size f small lives =
      ⊎_elim (λ (t : ltb from size ≡ true).
      rw t (
        lives [],
        number_lives (slot_field from size) (next_line left size f) (slot-fits from size (ltb-true from size t) small)
            (λ z inside. line_lives (magnitude z) (λ l. lines_form left (suc (magnitude z)) size (λ lines. f (l ∷ lines)))
            (λ l. lines_lives left (suc (magnitude z)) size (λ lines. f (l ∷ lines)) small (λ lines. lives (l ∷ lines))))
            (λ z. line_separate (magnitude z) (λ l. lines_form left (suc (magnitude z)) size (λ lines. f (l ∷ lines)))),
        o-number (slot_field from size) (next_line left size f),
        refl,
      ))
      (λ (t : ltb from size ≡ false). rw t (lives []))
      (decided (ltb from size))

  pub record LinesRead (from size : ℕ) (f : List Line → Form A) (text : List ℕ) (a : A) : Type 0 where
    pub lines : List Line
    pub rest : List ℕ
    pub fit : LinesFit from size lines
    pub same : text ≡ concat_map line_text lines ++ 111 ∷ rest
    pub follows : Text (f lines) rest a

  no_lines : (from size : ℕ) (f : List Line → Form A) (text : List ℕ) (a : A) → Text (byte 111 (f [])) text a → LinesRead from size f text a
  unfolding LinesFit concat_map
  no_lines from size f text a (rest, same, h) = record { lines = []; rest = rest; fit = tt; same = same; follows = h }

  pub text-lines : (left from size : ℕ) (f : List Line → Form A) → size ≤ 512 → (text : List ℕ) (a : A)
      → Text (lines_form left from size f) text a → LinesRead from size f text a
  unfolding lines_form LinesFit concat_map
  text-lines zero from size f small text a h = no_lines from size f text a h
  text-lines (suc left) from size f small text a h =
      ⊎_elim (λ (t : ltb from size ≡ true).
      let h2 : Text (choice 111 (f []) (number (slot_field from size) nothing (next_line left size f))) text a = rw t at h in
      ⊎_elim (λ (ends : (rest : List ℕ) × (text ≡ 111 ∷ rest) × Text (f []) rest a). no_lines from size f text a ends)
      (λ (goes : Text (number (slot_field from size) nothing (next_line left size f)) text a).
      let below = ltb-true from size t in
      let (z, (after, inside, same, h3)) = text-number (slot_field from size) (next_line left size f) (slot-fits from size below small) text a goes in
      let m = magnitude_in (slot_field from size) refl z inside in
      let l = text-line (magnitude z) (λ l. lines_form left (suc (magnitude z)) size (λ lines. f (l ∷ lines))) after a h3 in
      let r = text-lines left (suc (magnitude z)) size (λ lines. f (l.line ∷ lines)) small l.rest a l.follows in
      record {
        lines = l.line ∷ r.lines;
        rest = r.rest;
        fit = (
          rw l.slot_same (within_low from (magnitude z) (size - 1) m),
          rw l.slot_same (omega (arith, within_high from (magnitude z) (size - 1) m)),
          l.fits,
          rw l.slot_same r.fit,
        );
        same = same ∙ ap (λ (y : ℤ). numeral y ++ after) (no_negative (slot_field from size) refl z inside) ∙ l.same
            ∙ ap (λ (xs : List ℕ). line_text l.line ++ xs) r.same
            ∙ sym (append_assoc (line_text l.line) (concat_map line_text r.lines) (111 ∷ r.rest));
        follows = r.follows;
      })
      h2)
      (λ (t : ltb from size ≡ false). no_lines from size f text a (rw t at h))
      (decided (ltb from size))

  pub lines-text : (left from size : ℕ) (f : List Line → Form A) → size ≤ 512 → size ≤ from + left → (lines : List Line) (rest : List ℕ) (a : A)
      → LinesFit from size lines → Text (f lines) rest a → Text (lines_form left from size f) (concat_map line_text lines ++ 111 ∷ rest) a
  unfolding lines_form LinesFit concat_map magnitude
  lines-text zero from size f small enough [] rest a fit h = (rest, refl, h)
  lines-text zero from size f small enough (l ∷ lines) rest a fit h = absurd (omega arith)
  lines-text (suc left) from size f small enough [] rest a fit h =
      ⊎_elim (λ (t : ltb from size ≡ true). rw t (inl (rest, refl, h)))
      (λ (t : ltb from size ≡ false). rw t (rest, refl, h))
      (decided (ltb from size))
  lines-text (suc left) from size f small enough (l ∷ lines) rest a (low, below, fits, fit) h =
      let t = lt-ltb from size (omega arith) in
      rw (t, append_assoc (line_text l) (concat_map line_text lines) (111 ∷ rest), line_parts l (concat_map line_text lines ++ 111 ∷ rest))
      (inr (number-text (slot_field from size) (next_line left size f) (slot-fits from size (omega arith) small) (pos l.slot)
      (in_magnitude (slot_field from size) l.slot (is_within from l.slot (size - 1) low (omega arith)))
      (behind l (concat_map line_text lines ++ 111 ∷ rest)) a
      (line-text (λ k. lines_form left (suc l.slot) size (λ ls. f (k ∷ ls))) l (concat_map line_text lines ++ 111 ∷ rest) a fits
      (lines-text left (suc l.slot) size (λ ls. f (l ∷ ls)) small (omega arith) lines rest a fit h))))
