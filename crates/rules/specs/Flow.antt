-- The flow rules over the meaning of an order.
use Rattle.std.specs.Prelude.{◌≡◌, ℕ, Bool, true, cond, not, ◌&&◌, ◌||◌, T, List, [], ◌∷◌, Ok, Err, Result, ◌==◌, bit_and, nat_le}
use Rattle.labels.specs.Order.{Meaning, tag}
use Rattle.labels.specs.declared.cell.Tag.{Tag}
use Rattle.rules.specs.Book.{Verdict, Book}
use Rattle.rules.specs.Rules.{Input, tag_of, Condition, always, flows_to, Rule, rule, ruled}
use Rattle.rules.specs.declared.query.Query.{Query}
use Rattle.rules.specs.declared.violation.Violation.{Violation}

-- whether a mask has the weight of a tag
abbrev pub uses : ℕ → ℕ → Bool
uses mask weight = not (bit_and mask weight == 0)

-- a tag of this weight is not used, or passes a test
abbrev pub unused_or : (Tag → Bool) → ℕ → ℕ → Tag → Bool
unused_or test mask weight t = bit_and mask weight == 0 || test t

-- each used tag passes a test
abbrev pub each_used : (Tag → Bool) → ℕ → Query → Bool
each_used test mask q =
    unused_or test mask 32 q.pc && unused_or test mask 16 q.instruction && unused_or test mask 8 q.d
    && unused_or test mask 4 q.a && unused_or test mask 2 q.b && unused_or test mask 1 q.memory

-- what a call may answer is what a test says
abbrev pub Computes : (Tag → Bool → Type 0) → (Tag → Bool) → Type 0
Computes answers test = (t : Tag) (r : Bool) → answers t r → r ≡ test t

-- the join of a tag and some tags of a query, from the left
abbrev pub join_all : Meaning → Query → Tag → List Input → Tag
join_all m q t [] = t
join_all m q t (s ∷ ss) = join_all m q (m.join t (tag_of s q)) ss

-- the join of some tags of a query, and 0 of none
abbrev pub joined : Meaning → Query → List Input → Tag
joined m q [] = tag 0
joined m q (s ∷ ss) = join_all m q (tag_of s q) ss

abbrev pub holds : Meaning → Query → Condition → Bool
holds m q always = true
holds m q (flows_to from to) = m.flows (joined m q from) (tag_of to q)

abbrev pub violation : (cause : ℕ) → T (nat_le 1 cause && nat_le cause 15) → Violation
violation c fits = record { cause = c; cause_fits = fits }

abbrev pub caused : (cause : ℕ) → T (nat_le 1 cause && nat_le cause 15) → Verdict
caused c fits = Err (violation c fits)

-- a failed condition has cause 3 in STORE and 2 otherwise
abbrev pub failed : ℕ → Verdict
failed class = cond (class == 5) (caused 3 tt) (caused 2 tt)

-- a rule for a query whose used tags are labels
abbrev pub by_rule : Meaning → Query → Rule → Verdict
by_rule m q r = cond (holds m q r.condition) (Ok (joined m q r.next, joined m q r.result)) (failed q.class)

-- cause 4 for a class with no rule, and then cause 1 for a used tag that is no label
abbrev pub checked : Meaning → Query → Result (Unit {0}) Violation
checked m q =
    cond (ruled q.class)
    (cond (each_used m.label (rule q.class).mask q) (Ok tt) (Err (violation 1 tt)))
    (Err (violation 4 tt))

-- a query that cannot be judged keeps its cause
abbrev pub unless_violated : Result (Unit {0}) Violation → Verdict → Verdict
unless_violated (Ok u) v = v
unless_violated (Err x) v = Err x

-- The flow rules: the causes of a query that cannot be judged come first, and then the rule of its class.
unfoldable pub flow : Meaning → Book
flow m q = unless_violated (checked m q) (by_rule m q (rule q.class))
