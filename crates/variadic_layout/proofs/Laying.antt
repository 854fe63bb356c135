-- What the writers of a layout ask of it, and that their parts are the layout.
-- Assumes nothing.
use mathlib.Core.Path.{◌≡◌, refl, sym, ap, ap₂, ◌∙◌}
use mathlib.Core.List.{List}
use Prim.Native.Nat.{ℕ, ◌+◌, ◌*◌, ◌/◌, ◌%◌, ◌<◌, ◌≤◌}
use native.Mathlib.Nat.{zero-add, mul-le-mul}
use native.Mathlib.Omega.{arith}
use lib.ListN.{length, get_or}
use Rattle.definitions.specs.Fields.{byte_at}
use Rattle.definitions.specs.Rule.{rule_header_bytes, pattern_bytes, node_bytes, target_base, node_limit, source_count, node_count, vertex_at, node_at}
use Rattle.definitions.specs.VariadicBlock.{field_limit, expanded_limit}
use Rattle.rule_fields.specs.Fixed.{attribute_place_bytes, table_at}
use Rattle.variadic_order.specs.Order.{Ordered}
use Rattle.variadic_order.proofs.Orders.{ordered_size}
use Rattle.variadic_layout.specs.declared.Part.{Part}
use Rattle.variadic_layout.specs.Bytes.{number_from, output_byte, table_byte}
use Rattle.variadic_layout.specs.Written.{BlockLayout, CopyOf, OutputsOf, Written}
use Rattle.variadic_layout.specs.Parts.{part_record, part_header, Numbered, PartCopies, PartOutputs, source_part, target_part}
use Rattle.variadic_layout.specs.Laid.{layout_bytes, sources_of, targets_of, input_number, target_number, source_byte, target_byte, source_output, target_output, header_of, Laid}
use Rattle.variadic_layout.proofs.Inside.{source-inside, target-inside, inside-copy, ordered_at, ordered_member}
use Rattle.variadic_layout.proofs.Numbers.{number-position, numbers_of, output_same, record_same}
use Rattle.variadic_layout.proofs.Heads.{header_nodes, header-sources, header_targets}

-- ---- outputs

module _ (block : List ℕ) (layout : BlockLayout block) where
  header_there : rule_header_bytes ≤ length block
  header_there = omega (arith, layout.source.side.size)

  source-places : OutputsOf block 0 0 10
  source-places = record {
    header = omega arith;
    size = header_there;
    few = layout.source_outputs.count;
    places = λ i l.
        let inside = layout.source_outputs.inside i l in
        let side = layout.source.side in
        record {
          few = omega arith;
          input = λ k. absurd (omega arith);
          few_inputs = λ k. absurd (omega arith);
          vertex = λ k. omega (arith, side.size);
          few_vertices = λ k. omega (arith, side.few);
        };
  }

  target-places : OutputsOf block (source_count block) target_base 12
  target-places = record {
    header = omega arith;
    size = header_there;
    few = layout.target_outputs.count;
    places = λ i l.
        let inside = layout.target_outputs.inside i l in
        let side = layout.target.side in
        record {
          few = omega arith;
          input = λ k. omega (arith, layout.inputs i l k, layout.source.sources);
          few_inputs = λ k. omega arith;
          vertex = λ k. omega (arith, side.size);
          few_vertices = λ k. omega (arith, side.few);
        };
  }

  pub source-outputs : (sources : ℕ) → PartOutputs block (source_part block sources) 10
  unfolding source_part
  source-outputs sources = source-places

  pub target-outputs : (sources targets : ℕ) → PartOutputs block (target_part block sources targets) 12
  unfolding target_part
  target-outputs sources targets = target-places

-- ---- copies and numbers

module _ (block : List ℕ) (n : ℕ) (layout : BlockLayout block) (some : 1 ≤ n) (few : n ≤ field_limit)
    {source_copies source_numbers target_copies target_numbers : List ℕ} {sources targets : ℕ}
    (so : Ordered (sources_of block n) source_copies source_numbers sources) (few_sources : sources ≤ expanded_limit)
    (to : Ordered (targets_of block n) target_copies target_numbers targets) (few_targets : targets ≤ expanded_limit) where
  source-copy : (j : ℕ) → j < sources → CopyOf block 0 0 (byte_at block 14) n (get_or source_copies j 0)
  source-copy j l =
      inside-copy block n layout some few layout.source (get_or source_copies j 0)
      (source-inside block n layout some few (get_or source_copies j 0) (ordered_member so few_sources j l))

  target-copy : (j : ℕ) → j < targets → CopyOf block (source_count block) target_base (byte_at block 15) n (get_or target_copies j 0)
  target-copy j l =
      inside-copy block n layout some few layout.target (get_or target_copies j 0)
      (target-inside block n layout some few (get_or target_copies j 0) (ordered_member to few_targets j l))

  pub source_copies_lem : PartCopies block (source_part block sources) n source_copies
  unfolding source_part
  source_copies_lem j l = source-copy j l

  pub target_copies_lem : PartCopies block (target_part block sources targets) n target_copies
  unfolding target_part
  target_copies_lem j l = target-copy j l

  pub source-numbered : Numbered (source_part block sources) source_numbers source_numbers
  unfolding source_part
  source-numbered = record { given = numbers_of so few_sources; own = numbers_of so few_sources; split = omega arith }

  pub target-numbered : Numbered (target_part block sources targets) source_numbers target_numbers
  unfolding target_part
  target-numbered = record { given = numbers_of so few_sources; own = numbers_of to few_targets; split = omega arith }

  -- ---- the bytes by the tables are the bytes by the orders

  header_parts : part_header block n (source_part block sources) (target_part block sources targets) source_numbers target_numbers ≡ header_of block n
  unfolding source_part target_part
  header_parts =
      let input = number-position so few_sources in
      let own = number-position to few_targets in
      let source : (i : ℕ) → output_byte block 0 0 0 (number_from source_numbers sources) (number_from source_numbers sources) 10 i ≡ source_output block n i =
      λ i. output_same block 0 0 0 (number_from source_numbers sources) (number_from source_numbers sources) (input_number block n)
      (input_number block n) input input 10 i ((source-places block layout).places i) in
      let target : (i : ℕ)
      → output_byte block (source_count block) target_base expanded_limit (number_from source_numbers sources) (number_from target_numbers targets) 12 i
      ≡ target_output block n i =
      λ i. output_same block (source_count block) target_base expanded_limit (number_from source_numbers sources) (number_from target_numbers targets)
      (input_number block n) (target_number block n) input own 12 i ((target-places block layout).places i) in
      rw (source 0, source 1, target 0, target 1, sym (ordered_size so few_sources), sym (ordered_size to few_targets)) refl

  source_record : (j b : ℕ) → j < sources
      → part_record block (source_part block sources) source_numbers source_numbers n (get_or source_copies j 0) b
      ≡ source_byte block n (get_or (sources_of block n) j 0) b
  unfolding source_part
  source_record j b l =
      let input = number-position so few_sources in
      record_same block 0 0 0 (number_from source_numbers sources) (number_from source_numbers sources) (input_number block n) (input_number block n)
      input input (byte_at block 14) n (get_or source_copies j 0) (source-copy j l) b
      ∙ ap (λ (c : ℕ). source_byte block n c b) (ordered_at so few_sources j l)

  target_record : (j b : ℕ) → j < targets
      → part_record block (target_part block sources targets) source_numbers target_numbers n (get_or target_copies j 0) b
      ≡ target_byte block n (get_or (targets_of block n) j 0) b
  unfolding target_part
  target_record j b l =
      record_same block (source_count block) target_base expanded_limit (number_from source_numbers sources) (number_from target_numbers targets)
      (input_number block n) (target_number block n) (number-position so few_sources) (number-position to few_targets) (byte_at block 15) n
      (get_or target_copies j 0) (target-copy j l) b
      ∙ ap (λ (c : ℕ). target_byte block n c b) (ordered_at to few_targets j l)

  -- ---- the parts, written one after the other

  abbrev source : Part
  source = source_part block sources

  abbrev target : Part
  target = target_part block sources targets

  abbrev pub table_start : ℕ
  table_start = vertex_at (sources + targets) + node_bytes * (node_count block * (n + 1))

  -- the layout ends where the buffer does or before
  pub layout_fits : table_start + attribute_place_bytes * (sources + targets) ≤ layout_bytes
  layout_fits =
      let indices : n + 1 ≤ field_limit + 1 = omega arith in
      let nodes : node_count block * (n + 1) ≤ node_limit * (field_limit + 1) = mul-le-mul layout.source.few_nodes indices in
      omega arith

  source_first : source.side.first ≡ 0
  unfolding source_part
  source_first = refl

  target_first : target.side.first ≡ source_count block
  unfolding target_part
  target_first = refl

  module _ {b₀ b₁ b₂ b₃ b₄ b₅ : List ℕ} (size : length b₀ ≡ layout_bytes)
      (w₀ : Written 0 rule_header_bytes (λ b. get_or (part_header block n source target source_numbers target_numbers) b 0) b₀ b₁)
      (w₁ : Written rule_header_bytes (pattern_bytes * sources)
      (λ m. part_record block source source_numbers source_numbers n (get_or source_copies (m / pattern_bytes) 0) (m % pattern_bytes)) b₁ b₂)
      (w₂ : Written (vertex_at sources) (pattern_bytes * targets)
      (λ m. part_record block target source_numbers target_numbers n (get_or target_copies (m / pattern_bytes) 0) (m % pattern_bytes)) b₂ b₃)
      (w₃ : Written table_start (attribute_place_bytes * sources)
      (λ m. table_byte block source.side.first n (get_or source_copies (m / attribute_place_bytes) 0) (m % attribute_place_bytes)) b₃ b₄)
      (w₄ : Written (table_start + attribute_place_bytes * sources) (attribute_place_bytes * targets)
      (λ m. table_byte block target.side.first n (get_or target_copies (m / attribute_place_bytes) 0) (m % attribute_place_bytes)) b₄ b₅) where
    -- below the table the bytes are those from before it is written
    before_table : (x : ℕ) → x < table_start → byte_at b₅ x ≡ byte_at b₃ x
    before_table x l = w₄.below x (omega arith) ∙ w₃.below x l

    laid-header : (b : ℕ) → b < rule_header_bytes → byte_at b₅ b ≡ get_or (header_of block n) b 0
    laid-header b l =
        before_table b (omega arith) ∙ w₂.below b (omega arith) ∙ w₁.below b l ∙ ap (byte_at b₁) (sym (zero-add b)) ∙ w₀.inside b l
        ∙ ap (λ (h : List ℕ). get_or h b 0) header_parts

    laid-source : (j b : ℕ) → j < sources → b < pattern_bytes → byte_at b₅ (vertex_at j + b) ≡ source_byte block n (get_or (sources_of block n) j 0) b
    laid-source j b l k =
        let m = pattern_bytes * j + b in
        let place : vertex_at j + b ≡ rule_header_bytes + m = omega arith in
        let row : m / pattern_bytes ≡ j = omega arith in
        let rest : m % pattern_bytes ≡ b = omega arith in
        before_table (vertex_at j + b) (omega arith) ∙ w₂.below (vertex_at j + b) (omega arith) ∙ ap (byte_at b₂) place
        ∙ w₁.inside m (omega arith)
        ∙ ap₂ (λ (i r : ℕ). part_record block source source_numbers source_numbers n (get_or source_copies i 0) r) row rest ∙ source_record j b l

    laid-target : (t b : ℕ) → t < targets → b < pattern_bytes
        → byte_at b₅ (vertex_at (sources + t) + b) ≡ target_byte block n (get_or (targets_of block n) t 0) b
    laid-target t b l k =
        let m = pattern_bytes * t + b in
        let place : vertex_at (sources + t) + b ≡ vertex_at sources + m = omega arith in
        let row : m / pattern_bytes ≡ t = omega arith in
        let rest : m % pattern_bytes ≡ b = omega arith in
        before_table (vertex_at (sources + t) + b) (omega arith) ∙ ap (byte_at b₃) place ∙ w₂.inside m (omega arith)
        ∙ ap₂ (λ (i r : ℕ). part_record block target source_numbers target_numbers n (get_or target_copies i 0) r) row rest ∙ target_record t b l

    table_source : (j b : ℕ) → j < sources → b < attribute_place_bytes
        → byte_at b₅ (table_start + attribute_place_bytes * j + b) ≡ table_byte block 0 n (get_or (sources_of block n) j 0) b
    table_source j b l k =
        let m = attribute_place_bytes * j + b in
        let place : table_start + attribute_place_bytes * j + b ≡ table_start + m = omega arith in
        let row : m / attribute_place_bytes ≡ j = omega arith in
        let rest : m % attribute_place_bytes ≡ b = omega arith in
        w₄.below (table_start + attribute_place_bytes * j + b) (omega arith) ∙ ap (byte_at b₄) place ∙ w₃.inside m (omega arith)
        ∙ ap₂ (λ (i r : ℕ). table_byte block source.side.first n (get_or source_copies i 0) r) row rest
        ∙ ap₂ (λ (f c : ℕ). table_byte block f n c b) source_first (ordered_at so few_sources j l)

    table_target : (t b : ℕ) → t < targets → b < attribute_place_bytes
        → byte_at b₅ (table_start + attribute_place_bytes * (sources + t) + b) ≡ table_byte block (source_count block) n (get_or (targets_of block n) t 0) b
    table_target t b l k =
        let m = attribute_place_bytes * t + b in
        let place : table_start + attribute_place_bytes * (sources + t) + b ≡ table_start + attribute_place_bytes * sources + m = omega arith in
        let row : m / attribute_place_bytes ≡ t = omega arith in
        let rest : m % attribute_place_bytes ≡ b = omega arith in
        ap (byte_at b₅) place ∙ w₄.inside m (omega arith)
        ∙ ap₂ (λ (i r : ℕ). table_byte block target.side.first n (get_or target_copies i 0) r) row rest
        ∙ ap₂ (λ (f c : ℕ). table_byte block f n c b) target_first (ordered_at to few_targets t l)

    -- ---- where the layout has its table

    abbrev source_size : length (sources_of block n) ≡ sources
    source_size = ordered_size so few_sources

    abbrev target_size : length (targets_of block n) ≡ targets
    target_size = ordered_size to few_targets

    records_end : node_at b₅ 0 ≡ vertex_at (sources + targets)
    records_end =
        omega (arith, header-sources block n b₅ laid-header, header_targets block n b₅ laid-header, source_size, target_size)

    table_start_lem : table_at b₅ ≡ table_start
    table_start_lem =
        omega (
          arith,
          header-sources block n b₅ laid-header,
          header_targets block n b₅ laid-header,
          header_nodes block n b₅ laid-header,
          source_size,
          target_size,
        )

    pub laid : Laid block n b₀ b₅
    laid = record {
      laid = record {
        size = w₄.size ∙ w₃.size ∙ w₂.size ∙ w₁.size ∙ w₀.size ∙ size;
        few_sources = omega (arith, source_size);
        few_targets = omega (arith, target_size);
        header = laid-header;
        source_records = λ j b l k. laid-source j b (omega (arith, source_size)) k;
        target_records = λ t b l k. rw source_size (laid-target t b (omega (arith, target_size)) k);
        source_table = λ j b l k. rw table_start_lem (table_source j b (omega (arith, source_size)) k);
        target_table = λ t b l k. rw (table_start_lem, source_size) (table_target t b (omega (arith, target_size)) k);
      };
      kept = λ x l k.
          before_table x (omega (arith, table_start_lem)) ∙ w₂.behind x (omega (arith, records_end)) ∙ w₁.behind x (omega (arith, records_end))
          ∙ w₀.behind x (omega (arith, records_end));
    }
