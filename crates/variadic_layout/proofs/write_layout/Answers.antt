-- The sides are those of the block, the orders say what their copies are, and each part of the layout fits.
use mathlib.Core.Path.{◌≡◌, sym, ap, ◌∙◌, subst}
use Prim.Native.Nat.{ℕ, ◌+◌, ◌*◌, ◌/◌, ◌%◌, ◌≤◌}
use native.Mathlib.Omega.{arith}
use lib.ListN.{get_or}
use Rattle.definitions.specs.Rule.{rule_header_bytes, pattern_bytes, node_bytes, node_count, vertex_at}
use Rattle.rule_fields.specs.Fixed.{attribute_place_bytes}
use Rattle.variadic_layout.specs.declared.Part.{Part}
use Rattle.variadic_layout.specs.Bytes.{table_byte}
use Rattle.variadic_layout.specs.Written.{Written}
use Rattle.variadic_layout.specs.Parts.{part_record, part_header, Numbered, PartCopies, PartOutputs, source_part, target_part}
use Rattle.variadic_layout.proofs.Parts.{source-count, target-count}
use Rattle.variadic_layout.proofs.Laying.{source-outputs, target-outputs, source_copies_lem, target_copies_lem, source-numbered, target-numbered, layout_fits, laid}
use Rattle.variadic_layout.proofs.write_layout.Goals as goal

pub returns : goal.returns
unfolding source_part target_part
returns c = let is_source : (c.source_part-source.result) ≡ source_part c.args.rule.now c.args.s = c.source_part-source.ensures in
    let is_target : (c.target_part-target.result) ≡ target_part c.args.rule.now c.args.s c.args.t = c.target_part-target.ensures in
    let block = c.args.rule.now in
    laid block c.args.n c.requires.block_layout c.requires.le_n.0 c.requires.le_n.1 c.requires.ordered c.requires.s_le_expanded_limit c.requires.ordered_2 c.requires.t_le_expanded_limit c.requires.made_len
    (subst (λ (q : Part). Written 0 rule_header_bytes
    (λ b. get_or (part_header block c.args.n q (target_part block c.args.s c.args.t) c.args.inputs.now c.args.numbers.now) b 0) c.args.made.now
    c.write_header.new.made) is_source
    (subst (λ (q : Part). Written 0 rule_header_bytes (λ b. get_or (part_header block c.args.n c.source_part-source.result q c.args.inputs.now c.args.numbers.now) b 0) c.args.made.now
    c.write_header.new.made) is_target c.write_header.ensures))
    (subst (λ (q : Part). Written rule_header_bytes (pattern_bytes * q.count)
    (λ m. part_record block q c.args.inputs.now c.args.inputs.now c.args.n (get_or c.args.sources.now (m / pattern_bytes) 0) (m % pattern_bytes))
    c.write_header.new.made c.write_records.new.made) is_source c.write_records.ensures)
    (subst (λ (q : Part). Written (vertex_at c.args.s) (pattern_bytes * q.count)
    (λ m. part_record block q c.args.inputs.now c.args.numbers.now c.args.n (get_or c.args.targets.now (m / pattern_bytes) 0) (m % pattern_bytes))
    c.write_records.new.made c.write_records-2.new.made) is_target c.write_records-2.ensures)
    (subst (λ (q : Part). Written (vertex_at (c.args.s + c.args.t) + node_bytes * (node_count c.args.rule.now * (c.args.n + 1))) (attribute_place_bytes * q.count)
    (λ m. table_byte block q.side.first c.args.n (get_or c.args.sources.now (m / attribute_place_bytes) 0) (m % attribute_place_bytes))
    c.write_records-2.new.made c.write_table.new.made) is_source
    (subst (λ (k : ℕ). Written k (attribute_place_bytes * c.source_part-source.result.count)
    (λ m. table_byte block c.source_part-source.result.side.first c.args.n (get_or c.args.sources.now (m / attribute_place_bytes) 0) (m % attribute_place_bytes))
    c.write_records-2.new.made c.write_table.new.made) c.table_at-table.ensures c.write_table.ensures))
    (subst (λ (q : Part). Written ((vertex_at (c.args.s + c.args.t) + node_bytes * (node_count c.args.rule.now * (c.args.n + 1))) + attribute_place_bytes * c.args.s) (attribute_place_bytes * q.count)
    (λ m. table_byte block q.side.first c.args.n (get_or c.args.targets.now (m / attribute_place_bytes) 0) (m % attribute_place_bytes))
    c.write_table.new.made c.write_table-2.new.made) is_target
    (subst (λ (k : ℕ). Written (k + attribute_place_bytes * c.args.s) (attribute_place_bytes * c.target_part-target.result.count)
    (λ m. table_byte block c.target_part-target.result.side.first c.args.n (get_or c.args.targets.now (m / attribute_place_bytes) 0) (m % attribute_place_bytes))
    c.write_table.new.made c.write_table-2.new.made) c.table_at-table.ensures c.write_table-2.ensures))

pub write_header-requires-clause-part_outputs : goal.write_header-requires-clause-part_outputs
write_header-requires-clause-part_outputs c = let is_source : (c.source_part-source.result) ≡ source_part c.args.rule.now c.args.s = c.source_part-source.ensures in
    let outputs_of_source : PartOutputs c.args.rule.now c.source_part-source.result 10 = subst (λ (p : Part). PartOutputs c.args.rule.now p 10) (sym is_source) (source-outputs c.args.rule.now c.requires.block_layout c.args.s) in
    let is_target : (c.target_part-target.result) ≡ target_part c.args.rule.now c.args.s c.args.t = c.target_part-target.ensures in
    let outputs_of_target : PartOutputs c.args.rule.now c.target_part-target.result 12 = subst (λ (p : Part). PartOutputs c.args.rule.now p 12) (sym is_target) (target-outputs c.args.rule.now c.requires.block_layout c.args.s c.args.t) in
    let numbers_of_source : Numbered c.source_part-source.result c.args.inputs.now c.args.inputs.now = subst (λ (q : Part). Numbered q c.args.inputs.now c.args.inputs.now) (sym is_source)
    (source-numbered c.args.rule.now c.args.n c.requires.block_layout c.requires.le_n.0 c.requires.le_n.1 c.requires.ordered c.requires.s_le_expanded_limit c.requires.ordered_2 c.requires.t_le_expanded_limit) in
    let numbers_of_target : Numbered c.target_part-target.result c.args.inputs.now c.args.numbers.now = subst (λ (q : Part). Numbered q c.args.inputs.now c.args.numbers.now) (sym is_target)
    (target-numbered c.args.rule.now c.args.n c.requires.block_layout c.requires.le_n.0 c.requires.le_n.1 c.requires.ordered c.requires.s_le_expanded_limit c.requires.ordered_2 c.requires.t_le_expanded_limit) in
    outputs_of_source

pub write_header-requires-clause-part_outputs_2 : goal.write_header-requires-clause-part_outputs_2
write_header-requires-clause-part_outputs_2 c = let is_source : (c.source_part-source.result) ≡ source_part c.args.rule.now c.args.s = c.source_part-source.ensures in
    let outputs_of_source : PartOutputs c.args.rule.now c.source_part-source.result 10 = subst (λ (p : Part). PartOutputs c.args.rule.now p 10) (sym is_source) (source-outputs c.args.rule.now c.requires.block_layout c.args.s) in
    let is_target : (c.target_part-target.result) ≡ target_part c.args.rule.now c.args.s c.args.t = c.target_part-target.ensures in
    let outputs_of_target : PartOutputs c.args.rule.now c.target_part-target.result 12 = subst (λ (p : Part). PartOutputs c.args.rule.now p 12) (sym is_target) (target-outputs c.args.rule.now c.requires.block_layout c.args.s c.args.t) in
    let numbers_of_source : Numbered c.source_part-source.result c.args.inputs.now c.args.inputs.now = subst (λ (q : Part). Numbered q c.args.inputs.now c.args.inputs.now) (sym is_source)
    (source-numbered c.args.rule.now c.args.n c.requires.block_layout c.requires.le_n.0 c.requires.le_n.1 c.requires.ordered c.requires.s_le_expanded_limit c.requires.ordered_2 c.requires.t_le_expanded_limit) in
    let numbers_of_target : Numbered c.target_part-target.result c.args.inputs.now c.args.numbers.now = subst (λ (q : Part). Numbered q c.args.inputs.now c.args.numbers.now) (sym is_target)
    (target-numbered c.args.rule.now c.args.n c.requires.block_layout c.requires.le_n.0 c.requires.le_n.1 c.requires.ordered c.requires.s_le_expanded_limit c.requires.ordered_2 c.requires.t_le_expanded_limit) in
    outputs_of_target

pub write_header-requires-clause-numbered : goal.write_header-requires-clause-numbered
write_header-requires-clause-numbered c = let is_source : (c.source_part-source.result) ≡ source_part c.args.rule.now c.args.s = c.source_part-source.ensures in
    let outputs_of_source : PartOutputs c.args.rule.now c.source_part-source.result 10 = subst (λ (p : Part). PartOutputs c.args.rule.now p 10) (sym is_source) (source-outputs c.args.rule.now c.requires.block_layout c.args.s) in
    let is_target : (c.target_part-target.result) ≡ target_part c.args.rule.now c.args.s c.args.t = c.target_part-target.ensures in
    let outputs_of_target : PartOutputs c.args.rule.now c.target_part-target.result 12 = subst (λ (p : Part). PartOutputs c.args.rule.now p 12) (sym is_target) (target-outputs c.args.rule.now c.requires.block_layout c.args.s c.args.t) in
    let numbers_of_source : Numbered c.source_part-source.result c.args.inputs.now c.args.inputs.now = subst (λ (q : Part). Numbered q c.args.inputs.now c.args.inputs.now) (sym is_source)
    (source-numbered c.args.rule.now c.args.n c.requires.block_layout c.requires.le_n.0 c.requires.le_n.1 c.requires.ordered c.requires.s_le_expanded_limit c.requires.ordered_2 c.requires.t_le_expanded_limit) in
    let numbers_of_target : Numbered c.target_part-target.result c.args.inputs.now c.args.numbers.now = subst (λ (q : Part). Numbered q c.args.inputs.now c.args.numbers.now) (sym is_target)
    (target-numbered c.args.rule.now c.args.n c.requires.block_layout c.requires.le_n.0 c.requires.le_n.1 c.requires.ordered c.requires.s_le_expanded_limit c.requires.ordered_2 c.requires.t_le_expanded_limit) in
    numbers_of_source

pub write_header-requires-clause-numbered_2 : goal.write_header-requires-clause-numbered_2
write_header-requires-clause-numbered_2 c = let is_source : (c.source_part-source.result) ≡ source_part c.args.rule.now c.args.s = c.source_part-source.ensures in
    let outputs_of_source : PartOutputs c.args.rule.now c.source_part-source.result 10 = subst (λ (p : Part). PartOutputs c.args.rule.now p 10) (sym is_source) (source-outputs c.args.rule.now c.requires.block_layout c.args.s) in
    let is_target : (c.target_part-target.result) ≡ target_part c.args.rule.now c.args.s c.args.t = c.target_part-target.ensures in
    let outputs_of_target : PartOutputs c.args.rule.now c.target_part-target.result 12 = subst (λ (p : Part). PartOutputs c.args.rule.now p 12) (sym is_target) (target-outputs c.args.rule.now c.requires.block_layout c.args.s c.args.t) in
    let numbers_of_source : Numbered c.source_part-source.result c.args.inputs.now c.args.inputs.now = subst (λ (q : Part). Numbered q c.args.inputs.now c.args.inputs.now) (sym is_source)
    (source-numbered c.args.rule.now c.args.n c.requires.block_layout c.requires.le_n.0 c.requires.le_n.1 c.requires.ordered c.requires.s_le_expanded_limit c.requires.ordered_2 c.requires.t_le_expanded_limit) in
    let numbers_of_target : Numbered c.target_part-target.result c.args.inputs.now c.args.numbers.now = subst (λ (q : Part). Numbered q c.args.inputs.now c.args.numbers.now) (sym is_target)
    (target-numbered c.args.rule.now c.args.n c.requires.block_layout c.requires.le_n.0 c.requires.le_n.1 c.requires.ordered c.requires.s_le_expanded_limit c.requires.ordered_2 c.requires.t_le_expanded_limit) in
    numbers_of_target

pub write_records-requires-clause-part_copies : goal.write_records-requires-clause-part_copies
write_records-requires-clause-part_copies c = let is_source : (c.source_part-source.result) ≡ source_part c.args.rule.now c.args.s = c.source_part-source.ensures in
    let copies_of_source : PartCopies c.args.rule.now c.source_part-source.result c.args.n c.args.sources.now = subst (λ (q : Part). PartCopies c.args.rule.now q c.args.n c.args.sources.now) (sym is_source)
    (source_copies_lem c.args.rule.now c.args.n c.requires.block_layout c.requires.le_n.0 c.requires.le_n.1 c.requires.ordered c.requires.s_le_expanded_limit c.requires.ordered_2 c.requires.t_le_expanded_limit) in
    let numbers_of_source : Numbered c.source_part-source.result c.args.inputs.now c.args.inputs.now = subst (λ (q : Part). Numbered q c.args.inputs.now c.args.inputs.now) (sym is_source)
    (source-numbered c.args.rule.now c.args.n c.requires.block_layout c.requires.le_n.0 c.requires.le_n.1 c.requires.ordered c.requires.s_le_expanded_limit c.requires.ordered_2 c.requires.t_le_expanded_limit) in
    let sources : (c.source_part-source.result).count ≡ c.args.s = ap (λ (p : Part). p.count) is_source ∙ source-count c.args.rule.now c.args.s in
    let fits : c.table_at-table.result + attribute_place_bytes * (c.args.s + c.args.t) ≤ 7184 = omega (
      arith,
      c.table_at-table.ensures,
      layout_fits c.args.rule.now c.args.n c.requires.block_layout c.requires.le_n.0 c.requires.le_n.1 c.requires.ordered c.requires.s_le_expanded_limit c.requires.ordered_2 c.requires.t_le_expanded_limit,
    ) in
    let records : vertex_at (c.args.s + c.args.t) ≤ 7184 = omega (arith, c.table_at-table.ensures, fits) in
    let size = c.write_header.ensures.size ∙ c.requires.made_len in copies_of_source

pub write_records-requires-clause-numbered : goal.write_records-requires-clause-numbered
write_records-requires-clause-numbered c = let is_source : (c.source_part-source.result) ≡ source_part c.args.rule.now c.args.s = c.source_part-source.ensures in
    let copies_of_source : PartCopies c.args.rule.now c.source_part-source.result c.args.n c.args.sources.now = subst (λ (q : Part). PartCopies c.args.rule.now q c.args.n c.args.sources.now) (sym is_source)
    (source_copies_lem c.args.rule.now c.args.n c.requires.block_layout c.requires.le_n.0 c.requires.le_n.1 c.requires.ordered c.requires.s_le_expanded_limit c.requires.ordered_2 c.requires.t_le_expanded_limit) in
    let numbers_of_source : Numbered c.source_part-source.result c.args.inputs.now c.args.inputs.now = subst (λ (q : Part). Numbered q c.args.inputs.now c.args.inputs.now) (sym is_source)
    (source-numbered c.args.rule.now c.args.n c.requires.block_layout c.requires.le_n.0 c.requires.le_n.1 c.requires.ordered c.requires.s_le_expanded_limit c.requires.ordered_2 c.requires.t_le_expanded_limit) in
    let sources : (c.source_part-source.result).count ≡ c.args.s = ap (λ (p : Part). p.count) is_source ∙ source-count c.args.rule.now c.args.s in
    let fits : c.table_at-table.result + attribute_place_bytes * (c.args.s + c.args.t) ≤ 7184 = omega (
      arith,
      c.table_at-table.ensures,
      layout_fits c.args.rule.now c.args.n c.requires.block_layout c.requires.le_n.0 c.requires.le_n.1 c.requires.ordered c.requires.s_le_expanded_limit c.requires.ordered_2 c.requires.t_le_expanded_limit,
    ) in
    let records : vertex_at (c.args.s + c.args.t) ≤ 7184 = omega (arith, c.table_at-table.ensures, fits) in
    let size = c.write_header.ensures.size ∙ c.requires.made_len in numbers_of_source

pub write_records-requires-clause-count_in_bounds : goal.write_records-requires-clause-count_in_bounds
write_records-requires-clause-count_in_bounds c = let is_source : (c.source_part-source.result) ≡ source_part c.args.rule.now c.args.s = c.source_part-source.ensures in
    let copies_of_source : PartCopies c.args.rule.now c.source_part-source.result c.args.n c.args.sources.now = subst (λ (q : Part). PartCopies c.args.rule.now q c.args.n c.args.sources.now) (sym is_source)
    (source_copies_lem c.args.rule.now c.args.n c.requires.block_layout c.requires.le_n.0 c.requires.le_n.1 c.requires.ordered c.requires.s_le_expanded_limit c.requires.ordered_2 c.requires.t_le_expanded_limit) in
    let numbers_of_source : Numbered c.source_part-source.result c.args.inputs.now c.args.inputs.now = subst (λ (q : Part). Numbered q c.args.inputs.now c.args.inputs.now) (sym is_source)
    (source-numbered c.args.rule.now c.args.n c.requires.block_layout c.requires.le_n.0 c.requires.le_n.1 c.requires.ordered c.requires.s_le_expanded_limit c.requires.ordered_2 c.requires.t_le_expanded_limit) in
    let sources : (c.source_part-source.result).count ≡ c.args.s = ap (λ (p : Part). p.count) is_source ∙ source-count c.args.rule.now c.args.s in
    let fits : c.table_at-table.result + attribute_place_bytes * (c.args.s + c.args.t) ≤ 7184 = omega (
      arith,
      c.table_at-table.ensures,
      layout_fits c.args.rule.now c.args.n c.requires.block_layout c.requires.le_n.0 c.requires.le_n.1 c.requires.ordered c.requires.s_le_expanded_limit c.requires.ordered_2 c.requires.t_le_expanded_limit,
    ) in
    let records : vertex_at (c.args.s + c.args.t) ≤ 7184 = omega (arith, c.table_at-table.ensures, fits) in
    let size = c.write_header.ensures.size ∙ c.requires.made_len in omega (arith, size, sources, records)

pub write_records-requires-2-clause-part_copies : goal.write_records-requires-2-clause-part_copies
write_records-requires-2-clause-part_copies c = let is_target : (c.target_part-target.result) ≡ target_part c.args.rule.now c.args.s c.args.t = c.target_part-target.ensures in
    let copies_of_target : PartCopies c.args.rule.now c.target_part-target.result c.args.n c.args.targets.now = subst (λ (q : Part). PartCopies c.args.rule.now q c.args.n c.args.targets.now) (sym is_target)
    (target_copies_lem c.args.rule.now c.args.n c.requires.block_layout c.requires.le_n.0 c.requires.le_n.1 c.requires.ordered c.requires.s_le_expanded_limit c.requires.ordered_2 c.requires.t_le_expanded_limit) in
    let numbers_of_target : Numbered c.target_part-target.result c.args.inputs.now c.args.numbers.now = subst (λ (q : Part). Numbered q c.args.inputs.now c.args.numbers.now) (sym is_target)
    (target-numbered c.args.rule.now c.args.n c.requires.block_layout c.requires.le_n.0 c.requires.le_n.1 c.requires.ordered c.requires.s_le_expanded_limit c.requires.ordered_2 c.requires.t_le_expanded_limit) in
    let targets : (c.target_part-target.result).count ≡ c.args.t = ap (λ (p : Part). p.count) is_target ∙ target-count c.args.rule.now c.args.s c.args.t in
    let fits : c.table_at-table.result + attribute_place_bytes * (c.args.s + c.args.t) ≤ 7184 = omega (
      arith,
      c.table_at-table.ensures,
      layout_fits c.args.rule.now c.args.n c.requires.block_layout c.requires.le_n.0 c.requires.le_n.1 c.requires.ordered c.requires.s_le_expanded_limit c.requires.ordered_2 c.requires.t_le_expanded_limit,
    ) in
    let records : vertex_at (c.args.s + c.args.t) ≤ 7184 = omega (arith, c.table_at-table.ensures, fits) in
    let size = c.write_records.ensures.size ∙ c.write_header.ensures.size ∙ c.requires.made_len in copies_of_target

pub write_records-requires-2-clause-numbered : goal.write_records-requires-2-clause-numbered
write_records-requires-2-clause-numbered c = let is_target : (c.target_part-target.result) ≡ target_part c.args.rule.now c.args.s c.args.t = c.target_part-target.ensures in
    let copies_of_target : PartCopies c.args.rule.now c.target_part-target.result c.args.n c.args.targets.now = subst (λ (q : Part). PartCopies c.args.rule.now q c.args.n c.args.targets.now) (sym is_target)
    (target_copies_lem c.args.rule.now c.args.n c.requires.block_layout c.requires.le_n.0 c.requires.le_n.1 c.requires.ordered c.requires.s_le_expanded_limit c.requires.ordered_2 c.requires.t_le_expanded_limit) in
    let numbers_of_target : Numbered c.target_part-target.result c.args.inputs.now c.args.numbers.now = subst (λ (q : Part). Numbered q c.args.inputs.now c.args.numbers.now) (sym is_target)
    (target-numbered c.args.rule.now c.args.n c.requires.block_layout c.requires.le_n.0 c.requires.le_n.1 c.requires.ordered c.requires.s_le_expanded_limit c.requires.ordered_2 c.requires.t_le_expanded_limit) in
    let targets : (c.target_part-target.result).count ≡ c.args.t = ap (λ (p : Part). p.count) is_target ∙ target-count c.args.rule.now c.args.s c.args.t in
    let fits : c.table_at-table.result + attribute_place_bytes * (c.args.s + c.args.t) ≤ 7184 = omega (
      arith,
      c.table_at-table.ensures,
      layout_fits c.args.rule.now c.args.n c.requires.block_layout c.requires.le_n.0 c.requires.le_n.1 c.requires.ordered c.requires.s_le_expanded_limit c.requires.ordered_2 c.requires.t_le_expanded_limit,
    ) in
    let records : vertex_at (c.args.s + c.args.t) ≤ 7184 = omega (arith, c.table_at-table.ensures, fits) in
    let size = c.write_records.ensures.size ∙ c.write_header.ensures.size ∙ c.requires.made_len in numbers_of_target

pub write_records-requires-2-clause-count_in_bounds : goal.write_records-requires-2-clause-count_in_bounds
write_records-requires-2-clause-count_in_bounds c = let is_target : (c.target_part-target.result) ≡ target_part c.args.rule.now c.args.s c.args.t = c.target_part-target.ensures in
    let copies_of_target : PartCopies c.args.rule.now c.target_part-target.result c.args.n c.args.targets.now = subst (λ (q : Part). PartCopies c.args.rule.now q c.args.n c.args.targets.now) (sym is_target)
    (target_copies_lem c.args.rule.now c.args.n c.requires.block_layout c.requires.le_n.0 c.requires.le_n.1 c.requires.ordered c.requires.s_le_expanded_limit c.requires.ordered_2 c.requires.t_le_expanded_limit) in
    let numbers_of_target : Numbered c.target_part-target.result c.args.inputs.now c.args.numbers.now = subst (λ (q : Part). Numbered q c.args.inputs.now c.args.numbers.now) (sym is_target)
    (target-numbered c.args.rule.now c.args.n c.requires.block_layout c.requires.le_n.0 c.requires.le_n.1 c.requires.ordered c.requires.s_le_expanded_limit c.requires.ordered_2 c.requires.t_le_expanded_limit) in
    let targets : (c.target_part-target.result).count ≡ c.args.t = ap (λ (p : Part). p.count) is_target ∙ target-count c.args.rule.now c.args.s c.args.t in
    let fits : c.table_at-table.result + attribute_place_bytes * (c.args.s + c.args.t) ≤ 7184 = omega (
      arith,
      c.table_at-table.ensures,
      layout_fits c.args.rule.now c.args.n c.requires.block_layout c.requires.le_n.0 c.requires.le_n.1 c.requires.ordered c.requires.s_le_expanded_limit c.requires.ordered_2 c.requires.t_le_expanded_limit,
    ) in
    let records : vertex_at (c.args.s + c.args.t) ≤ 7184 = omega (arith, c.table_at-table.ensures, fits) in
    let size = c.write_records.ensures.size ∙ c.write_header.ensures.size ∙ c.requires.made_len in omega (arith, size, targets, records)

pub write_table-requires-clause-part_copies : goal.write_table-requires-clause-part_copies
write_table-requires-clause-part_copies c = let is_source : (c.source_part-source.result) ≡ source_part c.args.rule.now c.args.s = c.source_part-source.ensures in
    let copies_of_source : PartCopies c.args.rule.now c.source_part-source.result c.args.n c.args.sources.now = subst (λ (q : Part). PartCopies c.args.rule.now q c.args.n c.args.sources.now) (sym is_source)
    (source_copies_lem c.args.rule.now c.args.n c.requires.block_layout c.requires.le_n.0 c.requires.le_n.1 c.requires.ordered c.requires.s_le_expanded_limit c.requires.ordered_2 c.requires.t_le_expanded_limit) in
    let sources : (c.source_part-source.result).count ≡ c.args.s = ap (λ (p : Part). p.count) is_source ∙ source-count c.args.rule.now c.args.s in
    let fits : c.table_at-table.result + attribute_place_bytes * (c.args.s + c.args.t) ≤ 7184 = omega (
      arith,
      c.table_at-table.ensures,
      layout_fits c.args.rule.now c.args.n c.requires.block_layout c.requires.le_n.0 c.requires.le_n.1 c.requires.ordered c.requires.s_le_expanded_limit c.requires.ordered_2 c.requires.t_le_expanded_limit,
    ) in
    let size = c.write_records-2.ensures.size ∙ c.write_records.ensures.size ∙ c.write_header.ensures.size
    ∙ c.requires.made_len in copies_of_source

pub write_table-requires-clause-count_le_expanded_limit : goal.write_table-requires-clause-count_le_expanded_limit
write_table-requires-clause-count_le_expanded_limit c = let is_source : (c.source_part-source.result) ≡ source_part c.args.rule.now c.args.s = c.source_part-source.ensures in
    let copies_of_source : PartCopies c.args.rule.now c.source_part-source.result c.args.n c.args.sources.now = subst (λ (q : Part). PartCopies c.args.rule.now q c.args.n c.args.sources.now) (sym is_source)
    (source_copies_lem c.args.rule.now c.args.n c.requires.block_layout c.requires.le_n.0 c.requires.le_n.1 c.requires.ordered c.requires.s_le_expanded_limit c.requires.ordered_2 c.requires.t_le_expanded_limit) in
    let sources : (c.source_part-source.result).count ≡ c.args.s = ap (λ (p : Part). p.count) is_source ∙ source-count c.args.rule.now c.args.s in
    let fits : c.table_at-table.result + attribute_place_bytes * (c.args.s + c.args.t) ≤ 7184 = omega (
      arith,
      c.table_at-table.ensures,
      layout_fits c.args.rule.now c.args.n c.requires.block_layout c.requires.le_n.0 c.requires.le_n.1 c.requires.ordered c.requires.s_le_expanded_limit c.requires.ordered_2 c.requires.t_le_expanded_limit,
    ) in
    let size = c.write_records-2.ensures.size ∙ c.write_records.ensures.size ∙ c.write_header.ensures.size
    ∙ c.requires.made_len in omega (arith, sources, c.requires.s_le_expanded_limit)

pub write_table-requires-clause-count_in_bounds : goal.write_table-requires-clause-count_in_bounds
write_table-requires-clause-count_in_bounds c = let is_source : (c.source_part-source.result) ≡ source_part c.args.rule.now c.args.s = c.source_part-source.ensures in
    let copies_of_source : PartCopies c.args.rule.now c.source_part-source.result c.args.n c.args.sources.now = subst (λ (q : Part). PartCopies c.args.rule.now q c.args.n c.args.sources.now) (sym is_source)
    (source_copies_lem c.args.rule.now c.args.n c.requires.block_layout c.requires.le_n.0 c.requires.le_n.1 c.requires.ordered c.requires.s_le_expanded_limit c.requires.ordered_2 c.requires.t_le_expanded_limit) in
    let sources : (c.source_part-source.result).count ≡ c.args.s = ap (λ (p : Part). p.count) is_source ∙ source-count c.args.rule.now c.args.s in
    let fits : c.table_at-table.result + attribute_place_bytes * (c.args.s + c.args.t) ≤ 7184 = omega (
      arith,
      c.table_at-table.ensures,
      layout_fits c.args.rule.now c.args.n c.requires.block_layout c.requires.le_n.0 c.requires.le_n.1 c.requires.ordered c.requires.s_le_expanded_limit c.requires.ordered_2 c.requires.t_le_expanded_limit,
    ) in
    let size = c.write_records-2.ensures.size ∙ c.write_records.ensures.size ∙ c.write_header.ensures.size
    ∙ c.requires.made_len in omega (arith, size, sources, fits)

pub write_table-requires-2-clause-part_copies : goal.write_table-requires-2-clause-part_copies
write_table-requires-2-clause-part_copies c = let is_target : (c.target_part-target.result) ≡ target_part c.args.rule.now c.args.s c.args.t = c.target_part-target.ensures in
    let copies_of_target : PartCopies c.args.rule.now c.target_part-target.result c.args.n c.args.targets.now = subst (λ (q : Part). PartCopies c.args.rule.now q c.args.n c.args.targets.now) (sym is_target)
    (target_copies_lem c.args.rule.now c.args.n c.requires.block_layout c.requires.le_n.0 c.requires.le_n.1 c.requires.ordered c.requires.s_le_expanded_limit c.requires.ordered_2 c.requires.t_le_expanded_limit) in
    let targets : (c.target_part-target.result).count ≡ c.args.t = ap (λ (p : Part). p.count) is_target ∙ target-count c.args.rule.now c.args.s c.args.t in
    let fits : c.table_at-table.result + attribute_place_bytes * (c.args.s + c.args.t) ≤ 7184 = omega (
      arith,
      c.table_at-table.ensures,
      layout_fits c.args.rule.now c.args.n c.requires.block_layout c.requires.le_n.0 c.requires.le_n.1 c.requires.ordered c.requires.s_le_expanded_limit c.requires.ordered_2 c.requires.t_le_expanded_limit,
    ) in
    let size = c.write_table.ensures.size ∙ c.write_records-2.ensures.size ∙ c.write_records.ensures.size
    ∙ c.write_header.ensures.size ∙ c.requires.made_len in copies_of_target

pub write_table-requires-2-clause-count_le_expanded_limit : goal.write_table-requires-2-clause-count_le_expanded_limit
write_table-requires-2-clause-count_le_expanded_limit c = let is_target : (c.target_part-target.result) ≡ target_part c.args.rule.now c.args.s c.args.t = c.target_part-target.ensures in
    let copies_of_target : PartCopies c.args.rule.now c.target_part-target.result c.args.n c.args.targets.now = subst (λ (q : Part). PartCopies c.args.rule.now q c.args.n c.args.targets.now) (sym is_target)
    (target_copies_lem c.args.rule.now c.args.n c.requires.block_layout c.requires.le_n.0 c.requires.le_n.1 c.requires.ordered c.requires.s_le_expanded_limit c.requires.ordered_2 c.requires.t_le_expanded_limit) in
    let targets : (c.target_part-target.result).count ≡ c.args.t = ap (λ (p : Part). p.count) is_target ∙ target-count c.args.rule.now c.args.s c.args.t in
    let fits : c.table_at-table.result + attribute_place_bytes * (c.args.s + c.args.t) ≤ 7184 = omega (
      arith,
      c.table_at-table.ensures,
      layout_fits c.args.rule.now c.args.n c.requires.block_layout c.requires.le_n.0 c.requires.le_n.1 c.requires.ordered c.requires.s_le_expanded_limit c.requires.ordered_2 c.requires.t_le_expanded_limit,
    ) in
    let size = c.write_table.ensures.size ∙ c.write_records-2.ensures.size ∙ c.write_records.ensures.size
    ∙ c.write_header.ensures.size ∙ c.requires.made_len in omega (arith, targets, c.requires.t_le_expanded_limit)

pub write_table-requires-2-clause-count_in_bounds : goal.write_table-requires-2-clause-count_in_bounds
write_table-requires-2-clause-count_in_bounds c = let is_target : (c.target_part-target.result) ≡ target_part c.args.rule.now c.args.s c.args.t = c.target_part-target.ensures in
    let copies_of_target : PartCopies c.args.rule.now c.target_part-target.result c.args.n c.args.targets.now = subst (λ (q : Part). PartCopies c.args.rule.now q c.args.n c.args.targets.now) (sym is_target)
    (target_copies_lem c.args.rule.now c.args.n c.requires.block_layout c.requires.le_n.0 c.requires.le_n.1 c.requires.ordered c.requires.s_le_expanded_limit c.requires.ordered_2 c.requires.t_le_expanded_limit) in
    let targets : (c.target_part-target.result).count ≡ c.args.t = ap (λ (p : Part). p.count) is_target ∙ target-count c.args.rule.now c.args.s c.args.t in
    let fits : c.table_at-table.result + attribute_place_bytes * (c.args.s + c.args.t) ≤ 7184 = omega (
      arith,
      c.table_at-table.ensures,
      layout_fits c.args.rule.now c.args.n c.requires.block_layout c.requires.le_n.0 c.requires.le_n.1 c.requires.ordered c.requires.s_le_expanded_limit c.requires.ordered_2 c.requires.t_le_expanded_limit,
    ) in
    let size = c.write_table.ensures.size ∙ c.write_records-2.ensures.size ∙ c.write_records.ensures.size
    ∙ c.write_header.ensures.size ∙ c.requires.made_len in omega (arith, size, targets, fits)
