-- The first other entry is the difference.
use Rattle.std.proofs.Common.{ℕ, Bool, refl, ap, ap₂, ◌∙◌, rules, tests}
use Rattle.image.specs.declared.header.Header.{Header}
use Rattle.image.specs.Layout.{header_of, code_entry_at}
use Rattle.alike.specs.Difference.{same_entry, first_other}
use Rattle.alike.proofs.Places.{by_place}
use Rattle.alike.proofs.difference.code_difference.Goals as goal

pub returns : goal.returns
returns c =
    let f = code_entry_at c.args.left.now in
    let h = code_entry_at c.args.right.now in
    let test : ℕ → Bool = λ k. same_entry (f k) (h k) in
    let n = ap (λ (h : Header). h.counts.code) c.read_header-left_count.ensures in
    let m = ap (λ (h : Header). h.counts.code) c.read_header-right_count.ensures in
    c.first_other.ensures test (λ k r a. search (rules, tests)) ∙ ap₂ (first_other test) n m
    ∙ by_place same_entry f h test (λ k. refl) (header_of c.args.left.now).counts.code (header_of c.args.right.now).counts.code
