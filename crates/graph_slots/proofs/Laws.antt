-- A block that is written from its start, slot by slot.
-- Assumes nothing.
use mathlib.Core.Path.{◌≡◌, refl, sym, ap, ap₂, ◌∙◌}
use mathlib.Core.List.{List, ◌++◌}
use Prim.Native.Nat.{ℕ, ◌+◌, ◌-◌, ◌≤◌}
use native.Mathlib.Omega.{arith}
use lib.ListN.{length, take, drop, take-append-drop, length-append, length-drop}
use lib.Seq.{length-take-le, take_all, take-add, drop-drop}
use Rattle.definitions.specs.Lists.{padded, concat_map}
use Rattle.definitions.specs.Fields.{u16_bytes, u32_bytes}
use Rattle.definitions.specs.Graph.{slot_bytes, record_at, empty_slot, slot_block}
use Rattle.laws.proofs.Parts.{put_part, part_more, part_rest}
use Rattle.graph_records.specs.Records.{slot_at}
use Rattle.graph_slots.specs.Written.{empty_bytes, SlotWritten, Halfway}

-- what is dropped further on is the same, where what is dropped before is
pub drop_further : (a b : ℕ) (xs ys : List ℕ) → a ≤ b → drop a xs ≡ drop a ys → drop b xs ≡ drop b ys
drop_further a b xs ys l same =
    let e : a + (b - a) ≡ b = omega arith in
    ap (λ (n : ℕ). drop n xs) (sym e) ∙ sym (drop-drop (b - a) a xs) ∙ ap (drop (b - a)) same ∙ drop-drop (b - a) a ys
    ∙ ap (λ (n : ℕ). drop n ys) e

-- a part that is lent on and comes back
pub part_written : (k : ℕ) (graph bytes : List ℕ) → record_at (k + 1) ≤ length graph → length bytes ≡ slot_bytes
    → SlotWritten k bytes graph (put_part (record_at k) (record_at k + slot_bytes) graph bytes)
part_written k graph bytes l size =
    let at = record_at k in
    let end = at + slot_bytes in
    let next : record_at (k + 1) ≡ end = omega arith in
    let long : length bytes ≡ end - at = omega arith in
    record {
      front = rw next (part_more at end graph bytes (omega arith) long (take at graph) (omega arith) refl);
      back = rw next (part_rest at end graph bytes (omega arith) long (omega arith));
    }

pub empty_length : length empty_bytes ≡ slot_bytes
unfolding empty_bytes slot_block empty_slot concat_map padded u16_bytes u32_bytes
empty_length = refl

-- a written slot keeps the length
pub written-length : {k : ℕ} {bytes before after : List ℕ} → SlotWritten k bytes before after → record_at (k + 1) ≤ length before
    → length bytes ≡ slot_bytes → length after ≡ length before
written-length {k} {bytes} {before} {after} w l size =
    let n = record_at (k + 1) in
    let whole : length (take n after) + length (drop n after) ≡ length after =
    sym (length-append (take n after) (drop n after)) ∙ ap length (take-append-drop n after) in
    let first : length (take n after) ≡ record_at k + slot_bytes =
    ap length w.front ∙ length-append (take (record_at k) before) bytes
    ∙ omega (arith, length-take-le (record_at k) before (omega arith)) in
    let rest : length (drop n after) ≡ length before - n = ap length w.back ∙ length-drop n before in
    omega arith

-- the slots up to k, and slot k
pub next-slot : (k : ℕ) (block : List ℕ) → take (record_at (k + 1)) block ≡ take (record_at k) block ++ slot_at block (record_at k)
unfolding slot_at
next-slot k block =
    let next : record_at (k + 1) ≡ record_at k + slot_bytes = omega arith in rw next (take-add (record_at k) slot_bytes block)

module _ {graph new old : List ℕ} where
  -- one slot more is written
  pub halfway_write : (k : ℕ) {after bytes : List ℕ} → Halfway k graph new old → SlotWritten k bytes graph after
      → record_at (k + 1) ≤ length graph → length bytes ≡ slot_bytes → slot_at new (record_at k) ≡ bytes → Halfway (k + 1) after new old
  unfolding slot_at
  halfway_write k {after} {bytes} h w l size same = record {
    size = written-length w l size ∙ h.size;
    front = w.front ∙ ap₂ ◌++◌ h.front (sym same) ∙ sym (next-slot k new);
    back = w.back ∙ drop_further (record_at k) (record_at (k + 1)) graph old (omega arith) h.back;
  }

  -- a slot that is not written yet is the old one
  pub halfway_slot : (k : ℕ) → Halfway k graph new old → slot_at graph (record_at k) ≡ slot_at old (record_at k)
  unfolding slot_at
  halfway_slot k h = ap (take slot_bytes) h.back

  -- a slot that does not change is not written
  pub halfway_keep : (k : ℕ) → Halfway k graph new old → slot_at new (record_at k) ≡ slot_at old (record_at k)
      → Halfway (k + 1) graph new old
  halfway_keep k h same = record {
    size = h.size;
    front = next-slot k graph ∙ ap₂ ◌++◌ h.front (halfway_slot k h ∙ sym same) ∙ sym (next-slot k new);
    back = drop_further (record_at k) (record_at (k + 1)) graph old (omega arith) h.back;
  }

  -- all is written
  pub halfway_all : (k : ℕ) → Halfway k graph new old → length new ≤ record_at k → graph ≡ new
  halfway_all k h l = sym (take_all (record_at k) graph (omega (arith, h.size))) ∙ h.front ∙ take_all (record_at k) new l
