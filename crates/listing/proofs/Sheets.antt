-- The form of a listing: it lives, and its texts are the printings of the sheets that fit, each with that sheet for its value.
-- Assumes nothing.
use mathlib.Core.Path.{◌≡◌, refl, sym, ap, ◌∙◌}
use mathlib.Core.Bool.{true, false}
use mathlib.Core.List.{List, [], ◌∷◌, ◌++◌, append_assoc}
use Prim.Native.Nat.{ℕ, ◌+◌, ◌-◌, ◌≤◌}
use native.Mathlib.Omega.{arith}
use lib.IntN.{ℤ, pos}
use lib.ListN.{length}
use Rattle.definitions.specs.Lists.{all, concat_map, within}
use Rattle.definitions.specs.Numerals.{in_field, numeral}
use Rattle.definitions.specs.Sheet.{Line, Sheet, size_field, place_field, LinesFit, SheetFits, spaced, line_text, opening, out_word, printed}
use Rattle.listing.specs.Typing.{is_numeric, is_digit, nothing, FieldFits}
use Rattle.listing.specs.Forms.{Form, ended, byte, number, Text, Lives}
use Rattle.listing.specs.Grammar.{magnitude, spaced_form, lines_form, outputs_form, sheet_form}
use Rattle.listing.proofs.Reach.{within_low, within_high, is_within}
use Rattle.listing.proofs.Pieces.{byte_separate, literal_lives, text-literal, literal-text, number_lives, text-number, number-text, spaced_lives, text-spaced, spaced-text}
use Rattle.listing.proofs.Words.{no_negative, magnitude_in, in_magnitude}
use Rattle.listing.proofs.Lines.{place-fits, lines_lives, text-lines, lines-text}

pub size_fits : FieldFits size_field
size_fits = record { some_number = omega arith; ten_digits = omega arith; ten_below = omega arith }

line-end_other : is_numeric 10 ≡ false
unfolding is_numeric is_digit
line-end_other = refl

abbrev sheet : ℕ → List Line → List ℤ → Sheet
sheet size lines outputs = record { size = size; lines = lines; outputs = outputs }

-- what follows the number of slots
abbrev after_size : ℤ → Form Sheet
after_size z = byte 10 (lines_form (magnitude z) 0 (magnitude z) (outputs_form (magnitude z)))

outputs_lives : (size : ℕ) (lines : List Line) → Lives (outputs_form size lines)
unfolding outputs_form
outputs_lives size lines =
    literal_lives (117 ∷ 116 ∷ []) (spaced_form 1 4 place_field 10 (λ outputs. ended (sheet size lines outputs)))
    (spaced_lives place_field place-fits 10 line-end_other refl 1 4 (λ outputs. ended (sheet size lines outputs)) (λ outputs. tt))

pub sheet_lives : Lives sheet_form
unfolding sheet_form
sheet_lives =
    literal_lives opening (number size_field nothing after_size)
    (number_lives size_field after_size size_fits
    (λ z inside. lines_lives (magnitude z) 0 (magnitude z) (outputs_form (magnitude z))
    (within_high 1 (magnitude z) 512 (magnitude_in size_field refl z inside)) (outputs_lives (magnitude z)))
    (λ z. byte_separate 10 (lines_form (magnitude z) 0 (magnitude z) (outputs_form (magnitude z))) line-end_other))

-- ---- the printing, part by part

printed_parts : (s : Sheet) → printed s
    ≡ opening ++ (numeral (pos s.size) ++ (10 ∷ (concat_map line_text s.lines ++ (111 ∷ 117 ∷ 116 ∷ (spaced s.outputs ++ 10 ∷ [])))))
unfolding printed out_word
printed_parts s = regroup5 opening (numeral (pos s.size)) (10 ∷ concat_map line_text s.lines) (111 ∷ 117 ∷ 116 ∷ []) (spaced s.outputs) (10 ∷ [])
  where
    regroup5 : (a b c d e f : List ℕ) → a ++ b ++ c ++ d ++ e ++ f ≡ a ++ (b ++ (c ++ (d ++ (e ++ f))))
    regroup5 a b c d e f = simp append_assoc

-- ---- a text of the form is the printing of a sheet that fits

pub record Outputs (size : ℕ) (lines : List Line) (text : List ℕ) (s : Sheet) : Type 0 where
  pub size_same : s.size ≡ size
  pub lines_same : s.lines ≡ lines
  pub count : within 1 (length s.outputs) 4 ≡ true
  pub fit : all (in_field place_field) s.outputs ≡ true
  pub same : text ≡ 117 ∷ 116 ∷ (spaced s.outputs ++ 10 ∷ [])

text-outputs : (size : ℕ) (lines : List Line) (text : List ℕ) (s : Sheet) → Text (outputs_form size lines) text s → Outputs size lines text s
unfolding outputs_form
text-outputs size lines text s h =
    let (after, e, h2) = text-literal (117 ∷ 116 ∷ []) (spaced_form 1 4 place_field 10 (λ outputs. ended (sheet size lines outputs))) text s h in
    let o = text-spaced place_field place-fits 10 line-end_other refl 1 4 (λ outputs. ended (sheet size lines outputs)) after s (omega arith) h2 in
    let (ends, is) = o.follows in
    let numbers_same : o.numbers ≡ s.outputs = ap (λ (x : Sheet). x.outputs) is in
    record {
      size_same = ap (λ (x : Sheet). x.size) (sym is);
      lines_same = ap (λ (x : Sheet). x.lines) (sym is);
      count = rw (← numbers_same) (is_within 1 (length o.numbers) 4 o.few o.many);
      fit = rw (← numbers_same) o.inside;
      same = rw (← numbers_same) (e ∙ ap (λ (xs : List ℕ). 117 ∷ 116 ∷ xs) (o.same ∙ ap (λ (xs : List ℕ). spaced o.numbers ++ 10 ∷ xs) ends));
    }

-- what follows the first line
pub record Behind (size : ℕ) (text : List ℕ) (s : Sheet) : Type 0 where
  pub size_same : s.size ≡ size
  pub lines_fit : LinesFit 0 size s.lines
  pub count : within 1 (length s.outputs) 4 ≡ true
  pub outputs-fit : all (in_field place_field) s.outputs ≡ true
  pub same : text ≡ concat_map line_text s.lines ++ (111 ∷ 117 ∷ 116 ∷ (spaced s.outputs ++ 10 ∷ []))

text-behind : (size : ℕ) → size ≤ 512 → (text : List ℕ) (s : Sheet) → Text (lines_form size 0 size (outputs_form size)) text s → Behind size text s
text-behind size small text s h =
    let l = text-lines size 0 size (outputs_form size) small text s h in
    let o = text-outputs size l.lines l.rest s l.follows in
    record {
      size_same = o.size_same;
      lines_fit = rw o.lines_same l.fit;
      count = o.count;
      outputs-fit = o.fit;
      same = rw o.lines_same (l.same ∙ ap (λ (xs : List ℕ). concat_map line_text l.lines ++ 111 ∷ xs) o.same);
    }

-- the first line
pub record First (text : List ℕ) (s : Sheet) : Type 0 where
  pub size : ℕ
  pub rest : List ℕ
  pub inside : within 1 size 512 ≡ true
  pub same : text ≡ opening ++ (numeral (pos size) ++ (10 ∷ rest))
  pub follows : Text (lines_form size 0 size (outputs_form size)) rest s

text-first : (text : List ℕ) (s : Sheet) → Text sheet_form text s → First text s
unfolding sheet_form
text-first text s h =
    let (a, e, h2) = text-literal opening (number size_field nothing after_size) text s h in
    let (z, (b, inside, e2, (c, e3, h3))) = text-number size_field after_size size_fits a s h2 in
    record {
      size = magnitude z;
      rest = c;
      inside = magnitude_in size_field refl z inside;
      same = e ∙ ap (λ (xs : List ℕ). opening ++ xs)
          (e2 ∙ ap (λ (y : ℤ). numeral y ++ b) (no_negative size_field refl z inside) ∙ ap (λ (xs : List ℕ). numeral (pos (magnitude z)) ++ xs) e3);
      follows = h3;
    }

pub text-sheet : (text : List ℕ) (s : Sheet) → Text sheet_form text s → SheetFits s × (printed s ≡ text)
text-sheet text s h =
    let f = text-first text s h in
    let b = text-behind f.size (within_high 1 f.size 512 f.inside) f.rest s f.follows in (
      record {
        size = rw b.size_same f.inside;
        lines = rw b.size_same b.lines_fit;
        count = b.count;
        outputs = b.outputs-fit;
      },
      sym (f.same ∙ ap (λ (n : ℕ). opening ++ (numeral (pos n) ++ (10 ∷ f.rest))) (sym b.size_same)
          ∙ ap (λ (xs : List ℕ). opening ++ (numeral (pos s.size) ++ (10 ∷ xs))) b.same ∙ sym (printed_parts s)),
    )

-- ---- and the printing of a sheet that fits is a text of the form

pub sheet-text : (s : Sheet) → SheetFits s → Text sheet_form (printed s) s
unfolding sheet_form outputs_form magnitude
sheet-text s fits =
    let n = s.size in
    let few = within_high 1 s.size 512 fits.size in
    rw (printed_parts s)
    (literal-text opening (number size_field nothing after_size) _ s
    (number-text size_field after_size size_fits (pos s.size) (in_magnitude size_field s.size fits.size) _ s (
      _,
      refl,
      lines-text s.size 0 s.size (outputs_form s.size) few (omega arith) s.lines _ s fits.lines
          (literal-text (117 ∷ 116 ∷ []) (spaced_form 1 4 place_field 10 (λ outputs. ended (sheet s.size s.lines outputs))) _ s
          (spaced-text place_field place-fits 10 line-end_other refl 1 4 (λ outputs. ended (sheet s.size s.lines outputs)) s.outputs [] s
          (within_low 1 (length s.outputs) 4 fits.count) (within_high 1 (length s.outputs) 4 fits.count) fits.outputs (refl, refl))),
    )))
