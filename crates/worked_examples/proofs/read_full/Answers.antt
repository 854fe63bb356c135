-- What a read adds follows what was there, and is what the reader gave.
use Rattle.std.proofs.Common.{◌≡◌, ℕ, ◌+◌, ◌≤◌, List, ◌++◌, rules, length, take, sym, ap, subst, ◌∙◌}
use Rattle.std.proofs.lemmas.List.{length-take-le, take-append-le}
use Rattle.std.proofs.Math.Seq.{take-append-add}
use Rattle.std.proofs.KnownBytes.{Consumes-trans}
use Rattle.std.specs.Io.KnownBytes.{Consumes}
use Rattle.worked_examples.proofs.read_full.Goals as goal

take_joined : (a n : ℕ) (xs ys zs : List ℕ) → a ≤ length xs → n ≤ length ys → take (a + n) (take a xs ++ (ys ++ zs)) ≡ take a xs ++ take n ys
take_joined a n xs ys zs within fits =
    ap (λ m. take (m + n) (take a xs ++ (ys ++ zs))) (sym (length-take-le a xs within)) ∙ take-append-add (take a xs) (ys ++ zs) n ∙ ap (λ l. take a xs ++ l) (take-append-le n ys zs fits)

pub loop-filled-preserved : goal.loop-filled-preserved
loop-filled-preserved g c = record {
  within = search rules;
  bytes = subst (Consumes _ _) (sym (take_joined _ _ _ _ _ c.loop-filled.invariant.within c.in_ok-count.ensures.bound.0)) (Consumes-trans _ _ _ _ _ c.loop-filled.invariant.bytes c.in_ok-count.ensures.bytes.0);
}
