-- A place number below the first target one is a rule input's, and one from there on a target vertex's.
use borrow.Author.Rules.{rules}
use Rattle.redirection.proofs.Laws.{resolve_given, resolve-made}
use Rattle.redirection.proofs.place_of.Goals as goal

pub returns-then-p-split : goal.returns-then-p-split
returns-then-p-split c = resolve_given c.args.images.now c.args.places.now c.args.split c.args.p c.requires.split_le_side_capacity c.if-p-split.true c.requires.arrays.image_size

pub returns : goal.returns
returns c = resolve-made c.args.images.now c.args.places.now c.args.split c.args.p c.if-p-split.false c.requires.p_bound c.requires.arrays.place_size
