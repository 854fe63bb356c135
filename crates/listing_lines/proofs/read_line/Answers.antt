-- A space, the word of the kind, the operator of a Call, and the lists.
use mathlib.Core.List.{List}
use mathlib.Core.Path.{◌≡◌, refl, ◌∙◌}
use Prim.Native.Nat.{ℕ}
use Rattle.std.specs.declared.result.Result.{Result}
use Rattle.std.specs.declared.result.Result.TheVariants.{Ok, Err}
use Rattle.definitions.specs.Sheet.{Line, Sheet}
use Rattle.definitions.specs.Listing.{slot_line}
use Rattle.listing.specs.Forms.{Form, answer_from, go_on}
use Rattle.listing.specs.Grammar.{literal, word_form, operator_form, lists_form, line_form}
use Rattle.listing_numbers.proofs.Stops.{stops}
use lib.ListN.{drop}
use Rattle.listing_numbers.specs.declared.Stopped.{Stopped}
use Rattle.listing_lines.specs.declared.SlotLine.{SlotLine}
use Rattle.listing_lines.specs.Lines.{line_with, lists_line, LineRead}
use Rattle.listing_lines.proofs.read_line.Goals as goal

-- what follows the operator, and what follows the word
abbrev lists : ℕ → (Line → Form Sheet) → ℕ → ℕ → Form Sheet
lists number f kind operator = lists_form kind operator (λ is zs. f (line_with number kind operator is zs))

abbrev operated : ℕ → (Line → Form Sheet) → ℕ → Form Sheet
operated number f kind = operator_form kind (lists number f kind)

pub returns-in_err-space : goal.returns-in_err-space
unfolding line_form literal go_on
returns-in_err-space c = λ number. rw (stops c.from_residual.result c.in_err-space.field-0.0 c.from_residual.ensures.1)
    (record { goes = λ f. c.in_err-space.ensures.part_read (λ k. word_form (operated number f)); next = c.in_err-space.ensures.next_in_bounds })

pub returns-in_err-word : goal.returns-in_err-word
unfolding line_form literal go_on
returns-in_err-word c = λ number. rw (stops c.from_residual-in_err-word.result c.in_err-word.field-0.0 c.from_residual-in_err-word.ensures.1)
    (record {
      goes = λ f. c.in_ok-space.ensures.part_read (λ k. word_form (operated number f)) ∙ c.in_err-word.ensures.part_read (operated number f);
      next = c.in_err-word.ensures.next_in_bounds;
    })

pub returns-in_err-operator : goal.returns-in_err-operator
unfolding line_form literal go_on
returns-in_err-operator c = λ number. rw (stops c.from_residual-in_err-operator.result c.in_err-operator.field-0.0 c.from_residual-in_err-operator.ensures.1)
    (record {
      goes = λ f. c.in_ok-space.ensures.part_read (λ k. word_form (operated number f)) ∙ c.in_ok-word.ensures.part_read (operated number f)
          ∙ c.in_err-operator.ensures.part_read (lists number f c.in_ok-word.word.value);
      next = c.in_err-operator.ensures.next_in_bounds;
    })

-- the line with its slot's number, whatever that number is
numbered : (number kind operator : ℕ) (text : List ℕ) (at next : ℕ) (r : Result SlotLine Stopped)
    → ((f : Line → Form Sheet) → answer_from (line_form number f) at (drop at text) ≡ answer_from (lists number f kind operator) next (drop next text))
    → LineRead (lists_line kind operator) 0 text next r → LineRead (line_form number) number text at r
unfolding go_on slot_line
numbered number kind operator text at next (Err e) before h = record {
  goes = λ f. before f ∙ h.goes (λ l. f (line_with number l.kind l.operator l.inputs l.attributes));
  next = h.next;
}
numbered number kind operator text at next (Ok r) before h = record {
  line = line_with number h.line.kind h.line.operator h.line.inputs h.line.attributes;
  slot = refl;
  goes = λ f. before f ∙ h.goes (λ l. f (line_with number l.kind l.operator l.inputs l.attributes));
  stands = h.stands;
  places = h.places;
  next = h.next;
}

pub returns : goal.returns
unfolding line_form literal go_on
returns c = λ number. numbered number c.in_ok-word.word.value c.in_ok-operator.operator.value c.args.text.now c.args.at c.in_ok-operator.operator.next c.read_lists.result
    (λ f. c.in_ok-space.ensures.part_read (λ k. word_form (operated number f)) ∙ c.in_ok-word.ensures.part_read (operated number f)
    ∙ c.in_ok-operator.ensures.part_read (lists number f c.in_ok-word.word.value))
    c.read_lists.ensures
