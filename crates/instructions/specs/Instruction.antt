-- Instructions: how 32 bits are decoded.
use Rattle.std.specs.Prelude.{ℕ, ◌/◌, ◌%◌, ◌^◌, ◌<◌, Bool, cond, ◌&&◌, Some, None, Option, ◌==◌, nat_eq, nat_le}
use Rattle.rules.specs.declared.class.Class.{Class}
use Rattle.rules.specs.declared.class.Class.TheVariants.{Nop, Const, Mov, Bin, Load, Store, Jump, Bnz, Goto, Call, Ret, Out, Raise, Halt}
use Rattle.instructions.specs.declared.instruction.Instruction.{Instruction}

-- the four bits of a number from a place on
abbrev pub four_bits : ℕ → ℕ → ℕ
four_bits at bits = bits / 2 ^ at % 16

-- op 4 bits, d 4, a 4, b 4, k 16, from the most significant bit on
abbrev pub op_of : ℕ → ℕ
op_of bits = four_bits 28 bits

abbrev pub d_of : ℕ → ℕ
d_of bits = four_bits 24 bits

abbrev pub a_of : ℕ → ℕ
a_of bits = four_bits 20 bits

abbrev pub b_of : ℕ → ℕ
b_of bits = four_bits 16 bits

abbrev pub k_of : ℕ → ℕ
k_of bits = bits % 2 ^ 16

-- For each op the class, where the fields that the instruction does not name are zero.
-- A binary instruction names a function from 0 to 8 by its k.
abbrev pub class_of : ℕ → ℕ → ℕ → ℕ → ℕ → Option Class
class_of op d a b k =
    let no_d = nat_eq d 0 in
    let no_a = nat_eq a 0 in
    let no_b = nat_eq b 0 in
    let no_k = nat_eq k 0 in
    let legal : Bool → Class → Option Class = λ fields c. cond fields (Some c) None in
    cond (op == 0) (legal (no_k && (no_d && no_a && no_b)) Nop)
    (cond (op == 1) (legal (no_a && no_b) Const)
    (cond (op == 2) (legal (no_k && no_b) Mov)
    (cond (op == 3) (legal (nat_le k 8) Bin)
    (cond (op == 4) (legal (no_k && no_b) Load)
    (cond (op == 5) (legal (no_k && no_d) Store)
    (cond (op == 6) (legal (no_k && (no_d && no_b)) Jump)
    (cond (op == 7) (legal (no_d && no_b) Bnz)
    (cond (op == 8) (legal (no_d && no_a && no_b) Goto)
    (cond (op == 9) (legal (no_d && no_a && no_b) Call)
    (cond (op == 10) (legal (no_k && (no_d && no_a && no_b)) Ret)
    (cond (op == 11) (legal (no_k && (no_d && no_b)) Out)
    (cond (op == 12) (legal (no_k && (no_a && no_b)) Raise)
    (cond (op == 13) (legal (no_k && (no_d && no_a && no_b)) Halt)
    None)))))))))))))

abbrev pub with_class : ℕ → ℕ → ℕ → ℕ → Option Class → Option Instruction
with_class d a b k (Some c) = Some (record { class = c; d = d; a = a; b = b; k = k })
with_class d a b k None = None

abbrev pub decode_fields : ℕ → ℕ → ℕ → ℕ → ℕ → Option Instruction
decode_fields op d a b k = with_class d a b k (class_of op d a b k)

-- The instruction that 32 bits encode, or none where they are illegal.
abbrev pub decode : ℕ → Option Instruction
decode bits = decode_fields (op_of bits) (d_of bits) (a_of bits) (b_of bits) (k_of bits)

-- d, a and b are numbers of registers
abbrev pub NamesRegisters : Instruction → Type 0
NamesRegisters i = (i.d < 16) × (i.a < 16) × (i.b < 16)
