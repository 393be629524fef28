-- The rule table: for each class the tags that its rule uses, its condition, the next pc tag and the result tag.
use Rattle.std.specs.Prelude.{◌≡◌, ℕ, ◌<◌, Bool, cond, List, [], ◌∷◌, ◌++◌, Some, None, Option, bit_or, nat_le, slice_index_or}
use Rattle.labels.specs.declared.cell.Tag.{Tag}
use Rattle.rules.specs.declared.query.Query.{Query}

-- the six tags of a query: of the pc, the instruction, the registers d, a and b, and memory
pub data Input : Type 0 where
  P : Input
  I : Input
  D : Input
  A : Input
  B : Input
  M : Input

abbrev pub tag_of : Input → Query → Tag
tag_of P q = q.pc
tag_of I q = q.instruction
tag_of D q = q.d
tag_of A q = q.a
tag_of B q = q.b
tag_of M q = q.memory

-- the weight of a tag in a mask
abbrev pub weight : Input → ℕ
weight P = 32
weight I = 16
weight D = 8
weight A = 4
weight B = 2
weight M = 1

-- what a rule asks: nothing, or that the join of some tags flows to a tag
pub data Condition : Type 0 where
  always : Condition
  flows_to : List Input → Input → Condition

-- a row of the rule table; a list of tags stands for their join, and none for 0
pub record Rule : Type 0 where
  pub mask : ℕ
  pub condition : Condition
  pub next : List Input
  pub result : List Input

abbrev row : ℕ → Condition → List Input → List Input → Rule
row m c n r = record { mask = m; condition = c; next = n; result = r }

-- the classes 0 to 13 in turn: NOP CONST MOV BIN LOAD STORE JUMP BNZ GOTO CALL RET OUT RAISE HALT
abbrev pub rules : List Rule
rules =
    row 32 always (P ∷ []) []
    ∷ row 56 (flows_to (P ∷ []) D) (P ∷ []) (I ∷ P ∷ [])
    ∷ row 44 (flows_to (P ∷ []) D) (P ∷ []) (A ∷ P ∷ [])
    ∷ row 46 (flows_to (P ∷ []) D) (P ∷ []) (A ∷ B ∷ P ∷ [])
    ∷ row 45 (flows_to (P ∷ []) D) (P ∷ []) (A ∷ M ∷ P ∷ [])
    ∷ row 39 (flows_to (A ∷ P ∷ []) M) (P ∷ []) (A ∷ B ∷ P ∷ [])
    ∷ row 36 always (P ∷ A ∷ []) []
    ∷ row 36 always (P ∷ A ∷ []) []
    ∷ row 32 always (P ∷ []) []
    ∷ row 32 always (P ∷ []) (P ∷ [])
    ∷ row 1 always (M ∷ []) []
    ∷ row 36 always (P ∷ []) (A ∷ P ∷ [])
    ∷ row 56 (flows_to (P ∷ []) D) (P ∷ []) (D ∷ I ∷ P ∷ [])
    ∷ row 32 always (P ∷ []) []
    ∷ []

abbrev pub rule : ℕ → Rule
rule class = slice_index_or rules class (row 0 always [] [])

-- whether a class has a rule
abbrev pub ruled : ℕ → Bool
ruled class = nat_le class 13

-- the mask of a class that has a rule
abbrev pub mask_of : ℕ → Option ℕ
mask_of class = cond (ruled class) (Some (rule class).mask) None

abbrev asked_by : Condition → List Input
asked_by always = []
asked_by (flows_to from to) = from ++ to ∷ []

-- the tags that a rule reads
abbrev pub read_by : Rule → List Input
read_by r = asked_by r.condition ++ (r.next ++ r.result)

-- the weights of some tags together, each once
abbrev pub weights : List Input → ℕ
weights [] = 0
weights (s ∷ ss) = bit_or (weight s) (weights ss)

-- Each mask is made of the weights of the tags that its rule reads.
abbrev pub MasksNameTheTagsRead : Type 0
MasksNameTheTagsRead = (class : ℕ) → class < 14 → (rule class).mask ≡ weights (read_by (rule class))
