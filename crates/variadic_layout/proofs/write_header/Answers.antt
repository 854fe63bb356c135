-- The header is made in an array of its own, and written over the first bytes of the layout.
use mathlib.Core.Path.{◌≡◌, ap, ◌∙◌, subst}
use mathlib.Core.List.{List}
use Prim.Native.Nat.{ℕ, ◌+◌, ◌*◌}
use native.Mathlib.Omega.{arith}
use lib.ListN.{length, get_or}
use Rattle.variadic_layout.specs.Parts.{part_header}
use Rattle.variadic_layout.specs.Written.{Written}
use Rattle.laws.proofs.Parts.{put_part}
use Rattle.variadic_layout.proofs.Runs.{written_start}
use Rattle.variadic_layout.proofs.Bytes.{header_same}
use Rattle.variadic_layout.proofs.write_header.Goals as goal

pub returns : goal.returns
returns c = let header = part_header c.args.rule.now c.args.n c.args.source c.args.target c.args.inputs.now c.args.numbers.now in
    let same : c.copy.new.to ≡ header = c.copy.ensures ∙ header_same c.output_count.ensures.0
    (ap (λ (k : ℕ). k * (c.args.n + 1)) c.node_count.ensures.0)
    c.output_byte.ensures.0 c.output_byte-2.ensures.0
    c.output_byte-3.ensures.0 c.output_byte-4.ensures.0 in
    subst (λ (l : List ℕ). Written 0 16 (λ b. get_or l b 0) c.args.made.now (put_part 0 16 c.args.made.now c.copy.new.to)) same
    (written_start c.copy.new.to c.args.made.now 16 (ap length c.copy.ensures) (omega (arith, c.requires.rule_header_bytes_in_bounds)))
