-- What the rule's own count decides, by the law about counts.
use mathlib.Core.Path.{◌≡◌, sym, ap, ◌∙◌}
use Prim.Native.Nat.{ℕ, ◌<◌}
use native.Mathlib.Omega.{arith}
use borrow.Author.Rules.{rules}
use lib.Dec.{ltb}
use Rattle.definitions.specs.Rule.{side_capacity}
use Rattle.definitions.specs.Match.{places_of}
use Rattle.rule_fields.specs.Fixed.{fixed_of}
use Rattle.rule_fields.proofs.Fixed.{length-source}
use Rattle.rule_sound.proofs.Working.{rule_layered}
use Rattle.match_readers.proofs.Laws.{by_count}
use Rattle.match_readers.proofs.named_elsewhere.Goals as goal

pub count_places-places-requires : goal.count_places-places-requires
count_places-places-requires c = record { readable = c.requires.working_rule.readable; layered = rule_layered c.args.rule.now c.requires.working_rule }

pub returns : goal.returns
returns c = let own : c.from.result ≡ places_of (fixed_of c.args.rule.now) c.args.j = c.from.ensures ∙ c.count_places-places.ensures.at c.args.j in
    let above : c.exceeds.result ≡ ltb (places_of (fixed_of c.args.rule.now) c.args.j) c.args.count =
    c.exceeds.ensures ∙ ap (λ (n : ℕ). ltb n c.args.count) own in
    record {
      above = above;
      means = λ g images m e.
          above ∙ ap (ltb (places_of (fixed_of c.args.rule.now) c.args.j)) (sym e) ∙ by_count side_capacity (fixed_of c.args.rule.now) c.requires.working_rule.sound g images m c.args.j
          (rw (length-source c.args.rule.now) c.requires.j_bound);
    }
