-- Packing a verdict and reading it back.
use Rattle.std.proofs.Common.{◌≡◌, ℕ, ◌+◌, ◌*◌, ◌/◌, ◌%◌, ◌^◌, ◌<◌, ◌≤◌, Bool, true, false, ◌&&◌, T, leb, Ok, Err, sym, refl, ◌∙◌, subst, ap₂, arith}
use Rattle.std.proofs.lemmas.Bool.{and_left, lt-leb, true≢false}
use Rattle.labels.specs.Order.{tag}
use Rattle.labels.specs.declared.cell.Tag.{Tag}
use Rattle.rules.specs.Book.{Verdict}
use Rattle.rules.specs.Flow.{violation}
use Rattle.table.specs.Packing.{pack, violated_or, unpack}

violated_at : (c : ℕ) (b : Bool) (f : T b → T (leb 1 c && leb c 15)) (g : Tag × Tag) (k : T b) → Err (violation c (f k)) ≡ violated_or c b f g
violated_at c true f g k = refl
violated_at c false f g k = absurd k

granted_at : (c : ℕ) (b : Bool) (f : T b → T (leb 1 c && leb c 15)) (g : Tag × Tag) → b ≡ false → Ok g ≡ violated_or c b f g
granted_at c true f g e = absurd (true≢false e)
granted_at c false f g e = refl

-- a row that holds a cause, and one that holds none
pub unpack_cause : (r : ℕ) (k : T (leb 1 (r / 2 ^ 28) && leb (r / 2 ^ 28) 15)) → Err (violation (r / 2 ^ 28) k) ≡ unpack r
unpack_cause r k = violated_at (r / 2 ^ 28) (leb 1 (r / 2 ^ 28) && leb (r / 2 ^ 28) 15) (λ t. t) (tag (r / 2 ^ 14 % 2 ^ 14), tag (r % 2 ^ 14)) k

pub unpack_grant : (r : ℕ) → r / 2 ^ 28 ≤ 0 → Ok (tag (r / 2 ^ 14 % 2 ^ 14), tag (r % 2 ^ 14)) ≡ unpack r
unpack_grant r h =
    granted_at (r / 2 ^ 28) (leb 1 (r / 2 ^ 28) && leb (r / 2 ^ 28) 15) (λ t. t) (tag (r / 2 ^ 14 % 2 ^ 14), tag (r % 2 ^ 14))
    (and_left (leb 1 (r / 2 ^ 28)) (leb (r / 2 ^ 28) 15) (lt-leb 1 (r / 2 ^ 28) (omega arith)))

-- a grant whose tags fit their fields
abbrev pub Small : Verdict → Type 0
Small (Ok g) = (g.0.0 < 2 ^ 14) × (g.1.0 < 2 ^ 14)
Small (Err x) = Unit {0}

cause_back : (c : ℕ) (k : T (leb 1 c && leb c 15)) (g : Tag × Tag) (other : ℕ) → c ≡ other → violated_or other (leb 1 other && leb other 15) (λ t. t) g ≡ Err (violation c k)
cause_back c k g other e =
    subst (λ (x : ℕ). violated_or x (leb 1 x && leb x 15) (λ t. t) g ≡ Err (violation c k)) e
    (sym (violated_at c (leb 1 c && leb c 15) (λ t. t) g k))

pub unpack_pack : (v : Verdict) → Small v → unpack (pack v) ≡ v
unpack_pack (Ok g) s =
    let a : ℕ = g.0.0 in
    let b : ℕ = g.1.0 in
    let r : ℕ = (a % 2 ^ 14) * 2 ^ 14 + b % 2 ^ 14 in
    let none : r / 2 ^ 28 ≤ 0 = omega arith in
    let high : r / 2 ^ 14 % 2 ^ 14 ≡ a = omega arith in
    let low : r % 2 ^ 14 ≡ b = omega arith in
    sym (unpack_grant r none) ∙ ap₂ (λ (x y : ℕ). Ok (tag x, tag y)) high low
unpack_pack (Err x) s = let r : ℕ = x.cause * 2 ^ 28 in cause_back x.cause x.cause_fits (tag (r / 2 ^ 14 % 2 ^ 14), tag (r % 2 ^ 14)) (r / 2 ^ 28) (omega arith)
