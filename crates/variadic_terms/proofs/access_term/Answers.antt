-- The vertex that a node without a fault accesses is a source vertex.
use Prim.Native.Nat.{ℕ}
use native.Mathlib.Omega.{arith}
use Rattle.variadic_terms.specs.Terms.{access_term, access_at}
use Rattle.variadic_terms.proofs.Fits.{access_inside}
use Rattle.variadic_terms.proofs.access_term.Goals as goal

pub returns : goal.returns
unfolding access_term access_at
returns c = λ (n : ℕ). rw (c.accessed.ensures n, c.node_byte-place.ensures.0, c.node_byte-vertex.ensures.0)

pub accessed-requires-clause-v_bound : goal.accessed-requires-clause-v_bound
accessed-requires-clause-v_bound c = let inside = access_inside c.args.rule.now c.args.k (c.requires.expandable.nodes c.args.k c.requires.k_bound) c.requires.k_value in omega (arith, inside, c.node_byte-vertex.ensures.0)
