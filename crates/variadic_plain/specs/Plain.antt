-- A version 2 block as a version 1 block: without the marks of templates and the named Tuples. What version 1 asks of a vertex, of the order
-- and of the outputs is asked of this block.
-- Assumes nothing.
use Rattle.std.specs.Prelude.{cond, ◌&&◌, ◌||◌, List, ℕ, ◌%◌, eqb, ltb, length}
use Rattle.definitions.specs.Lists.{tabulate}
use Rattle.definitions.specs.Fields.{byte_at}
use Rattle.definitions.specs.Rule.{rule_header_bytes, pattern_bytes, rule_version, node_at}
use Rattle.definitions.specs.VariadicBlock.{template_mark}

-- byte `at` of the header: the version is 1, and no Tuple is named
unfoldable pub plain_header_byte : ℕ → ℕ → ℕ
plain_header_byte at byte = cond (eqb at 4) rule_version (cond (eqb at 5 || eqb at 14 || eqb at 15) 0 byte)

-- a record starts at each multiple of 16 behind the header and before the nodes, with its kind
unfoldable pub plain_byte : List ℕ → ℕ → ℕ
plain_byte block at =
    cond (ltb at rule_header_bytes) (plain_header_byte at (byte_at block at))
    (cond (ltb at (node_at block 0) && eqb (at % pattern_bytes) 0) (byte_at block at % template_mark) (byte_at block at))

unfoldable pub plain_block : List ℕ → List ℕ
plain_block block = tabulate (length block) (plain_byte block)
