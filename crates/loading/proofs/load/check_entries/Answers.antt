-- A block that passes leads to the next, and one that does not is the refusal.
use Rattle.std.proofs.Common.{◌≡◌, ℕ, ◌+◌, List, ◌++◌, map, length, Some, Ok, Err, sym, ap, ◌∙◌, arith, rules, length-append}
use Rattle.std.proofs.lemmas.Grind.{common_steps}
use Rattle.std.proofs.lemmas.List.{length-map, map-append}
use Rattle.std.specs.Slice.Iter.{chunks_rest}
use Rattle.labels.specs.Order.{Meaning}
use Rattle.labels.specs.declared.cell.Tag.{Tag}
use Rattle.labels.specs.declared.refusal.Refusal.{Refusal}
use Rattle.image.specs.declared.entry.CodeEntry.{CodeEntry}
use Rattle.image.specs.Load.{answer, check_labels}
use Rattle.image.proofs.TagChecks.{refused_before, passed_before, was_refused, was_passed}
use Rattle.loading.proofs.load.check_entries.Goals as goal

module _ {E : Type 0} (m : Meaning) (read : E → CodeEntry) (so_far : ℕ) (left block rest : List E) (parts : left ≡ block ++ rest) where
  abbrev tags : List E → List Tag
  tags es = map (λ (e : E). (read e).tag) es

  tags_in_parts : tags left ≡ tags block ++ tags rest
  tags_in_parts = ap tags parts ∙ map-append (λ (e : E). (read e).tag) block rest

  block_passed : Ok tt ≡ answer {A = Unit {0}} (check_labels m.label (so_far + 1) (tags block)) tt
      → check_labels m.label (so_far + length block + 1) (tags rest) ≡ check_labels m.label (so_far + 1) (tags left)
  block_passed passed =
      let place : so_far + 1 + length (tags block) ≡ so_far + length block + 1 = omega (arith, length-map block (λ (e : E). (read e).tag)) in
      sym
      (ap (check_labels m.label (so_far + 1)) tags_in_parts
      ∙ passed_before m.label (so_far + 1) (tags block) (tags rest) (was_passed _ passed)
      ∙ ap (λ (p : ℕ). check_labels m.label p (tags rest)) place)

  block_refused : (refusal : Refusal) → Err refusal ≡ answer {A = Unit {0}} (check_labels m.label (so_far + 1) (tags block)) tt
      → check_labels m.label (so_far + 1) (tags left) ≡ Some refusal
  block_refused refusal refused =
      ap (check_labels m.label (so_far + 1)) tags_in_parts
      ∙ refused_before m.label refusal (so_far + 1) (tags block) (tags rest) (was_refused _ refusal refused)

pub returns-in_err-check_block : goal.returns-in_err-check_block
returns-in_err-check_block g c = λ read reads.
    let m = g.O.Order.meaning c.args.order.now in
    let steps = c.in-Some.ensures.steps in
    let left = c.loop-block.invariant.4 read reads in
    let refused = block_refused m read c.loop-block.so_far _ c.in-Some.block.now _ steps.1.0 _ (c.in_err-check_block.ensures read reads) in
    grind (arith, common_steps)

pub loop-block-preserved : goal.loop-block-preserved
loop-block-preserved g c =
    let m = g.O.Order.meaning c.args.order.now in
    let steps = c.in-Some.ensures.steps in
    let invariant = c.loop-block.invariant in
    let size = steps.0 ∙ invariant.2 in
    let lengths = ap length steps.1.0 ∙ length-append c.in-Some.block.now (chunks_rest c.next.new.self) in (
      search rules,
      tt,
      size,
      omega (arith, lengths, invariant.3),
      λ read reads. block_passed m read c.loop-block.so_far _ c.in-Some.block.now _ steps.1.0 (c.in_ok-check_block.ensures read reads) ∙ invariant.4 read reads,
    )
