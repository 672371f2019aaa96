-- Instructions as lines.
use Rattle.std.specs.Prelude.{ℕ, List, [], ◌∷◌, codes}
use Rattle.std.specs.List.{join_with_byte}
use Rattle.xc_isa.specs.declared.instr.BinaryOp.{BinaryOp}
use Rattle.xc_isa.specs.declared.instr.BinaryOp.TheVariants.{Add, Sub, Mul, And, Or, Xor, Shl, Shr, Sar, Slt, Sltu, Seq}
use Rattle.xc_isa.specs.declared.instr.DivideOp.{DivideOp}
use Rattle.xc_isa.specs.declared.instr.DivideOp.TheVariants.{Div, Divu, Rem, Remu}
use Rattle.xc_isa.specs.declared.instr.LoadKind.{LoadKind}
use Rattle.xc_isa.specs.declared.instr.LoadKind.TheVariants.{Ld, Ldfe, Ldff}
use Rattle.xc_isa.specs.declared.instr.StoreKind.{StoreKind}
use Rattle.xc_isa.specs.declared.instr.StoreKind.TheVariants.{St, Stef, Stff}
use Rattle.xc_isa.specs.declared.instr.Test.{Test}
use Rattle.xc_isa.specs.declared.instr.Test.TheVariants.{Zero, NotZero}
use Rattle.xc_isa.specs.declared.instr.Instr.{Instr}
use Rattle.xc_isa.specs.declared.instr.Instr.TheVariants as instr
use Rattle.xc_isa_text.specs.declared.op.Op.{Op}
use Rattle.xc_isa_text.specs.declared.op.Op.TheVariants as op
use Rattle.xc_isa_text.specs.Operands.{Slot, Register, Number, Signed, words_in, AreBelow}

abbrev pub binary_name : BinaryOp → List ℕ
binary_name Add = codes "add"
binary_name Sub = codes "sub"
binary_name Mul = codes "mul"
binary_name And = codes "and"
binary_name Or = codes "or"
binary_name Xor = codes "xor"
binary_name Shl = codes "shl"
binary_name Shr = codes "shr"
binary_name Sar = codes "sar"
binary_name Slt = codes "slt"
binary_name Sltu = codes "sltu"
binary_name Seq = codes "seq"

abbrev pub divide_name : DivideOp → List ℕ
divide_name Div = codes "div"
divide_name Divu = codes "divu"
divide_name Rem = codes "rem"
divide_name Remu = codes "remu"

abbrev pub load_name : LoadKind → List ℕ
load_name Ld = codes "ld"
load_name Ldfe = codes "ldfe"
load_name Ldff = codes "ldff"

abbrev pub store_name : StoreKind → List ℕ
store_name St = codes "st"
store_name Stef = codes "stef"
store_name Stff = codes "stff"

abbrev pub branch_name : Test → List ℕ
branch_name Zero = codes "bz"
branch_name NotZero = codes "bnz"

-- the mnemonics
abbrev pub name_of : Op → List ℕ
name_of op.Li = codes "li"
name_of op.Addi = codes "addi"
name_of (op.Binary o) = binary_name o
name_of (op.Divide o) = divide_name o
name_of op.Padd = codes "padd"
name_of op.Psub = codes "psub"
name_of op.Bound = codes "bound"
name_of (op.Load kind) = load_name kind
name_of (op.Store kind) = store_name kind
name_of op.Purge = codes "purge"
name_of op.Fadd = codes "fadd"
name_of op.NewSeg = codes "newseg"
name_of op.Free = codes "free"
name_of op.Jmp = codes "jmp"
name_of (op.Branch test) = branch_name test
name_of op.Jal = codes "jal"
name_of op.Jr = codes "jr"
name_of op.Create = codes "create"
name_of op.Quit = codes "quit"
name_of op.Print = codes "print"
name_of op.Trap = codes "trap"

-- what follows the mnemonic
abbrev pub slots_of : Op → List Slot
slots_of op.Li = Register ∷ Signed ∷ []
slots_of op.Addi = Register ∷ Register ∷ Signed ∷ []
slots_of (op.Binary o) = Register ∷ Register ∷ Register ∷ []
slots_of (op.Divide o) = Register ∷ Register ∷ Register ∷ []
slots_of op.Padd = Register ∷ Register ∷ Register ∷ Number ∷ []
slots_of op.Psub = Register ∷ Register ∷ Register ∷ []
slots_of op.Bound = Register ∷ Number ∷ []
slots_of (op.Load kind) = Register ∷ Register ∷ Number ∷ []
slots_of (op.Store kind) = Register ∷ Register ∷ Number ∷ []
slots_of op.Purge = Register ∷ Number ∷ []
slots_of op.Fadd = Register ∷ Register ∷ Number ∷ Register ∷ []
slots_of op.NewSeg = Register ∷ Register ∷ []
slots_of op.Free = Register ∷ []
slots_of op.Jmp = Number ∷ []
slots_of (op.Branch test) = Register ∷ Number ∷ []
slots_of op.Jal = Register ∷ Number ∷ []
slots_of op.Jr = Register ∷ []
slots_of op.Create = Register ∷ Register ∷ Number ∷ []
slots_of op.Quit = []
slots_of op.Print = Number ∷ []
slots_of op.Trap = Number ∷ []

abbrev pub op_of : Instr → Op
op_of (instr.Li d n) = op.Li
op_of (instr.Addi d a n) = op.Addi
op_of (instr.Binary o d a b) = op.Binary o
op_of (instr.Divide o d a b) = op.Divide o
op_of (instr.Padd d a b n) = op.Padd
op_of (instr.Psub d a b) = op.Psub
op_of (instr.Bound a n) = op.Bound
op_of (instr.Load kind d a n) = op.Load kind
op_of (instr.Store kind b a n) = op.Store kind
op_of (instr.Purge a n) = op.Purge
op_of (instr.Fadd d a n b) = op.Fadd
op_of (instr.NewSeg d a) = op.NewSeg
op_of (instr.Free a) = op.Free
op_of (instr.Jmp n) = op.Jmp
op_of (instr.Branch test a n) = op.Branch test
op_of (instr.Jal d n) = op.Jal
op_of (instr.Jr a) = op.Jr
op_of (instr.Create d a n) = op.Create
op_of instr.Quit = op.Quit
op_of (instr.Print n) = op.Print
op_of (instr.Trap n) = op.Trap

-- the registers and numbers, in the order in which they are written
abbrev pub numbers_of : Instr → List ℕ
numbers_of (instr.Li d n) = d ∷ n ∷ []
numbers_of (instr.Addi d a n) = d ∷ a ∷ n ∷ []
numbers_of (instr.Binary o d a b) = d ∷ a ∷ b ∷ []
numbers_of (instr.Divide o d a b) = d ∷ a ∷ b ∷ []
numbers_of (instr.Padd d a b n) = d ∷ a ∷ b ∷ n ∷ []
numbers_of (instr.Psub d a b) = d ∷ a ∷ b ∷ []
numbers_of (instr.Bound a n) = a ∷ n ∷ []
numbers_of (instr.Load kind d a n) = d ∷ a ∷ n ∷ []
numbers_of (instr.Store kind b a n) = b ∷ a ∷ n ∷ []
numbers_of (instr.Purge a n) = a ∷ n ∷ []
numbers_of (instr.Fadd d a n b) = d ∷ a ∷ n ∷ b ∷ []
numbers_of (instr.NewSeg d a) = d ∷ a ∷ []
numbers_of (instr.Free a) = a ∷ []
numbers_of (instr.Jmp n) = n ∷ []
numbers_of (instr.Branch test a n) = a ∷ n ∷ []
numbers_of (instr.Jal d n) = d ∷ n ∷ []
numbers_of (instr.Jr a) = a ∷ []
numbers_of (instr.Create d a n) = d ∷ a ∷ n ∷ []
numbers_of instr.Quit = []
numbers_of (instr.Print n) = n ∷ []
numbers_of (instr.Trap n) = n ∷ []

abbrev pub instr_words : Instr → List (List ℕ)
instr_words i = name_of (op_of i) ∷ words_in (slots_of (op_of i)) (numbers_of i)

-- the line of an instruction
abbrev pub instr_line : Instr → List ℕ
instr_line i = join_with_byte 32 (instr_words i)

-- registers below 32, and numbers that fit
abbrev pub IsInstr : Instr → Type 0
IsInstr i = AreBelow (slots_of (op_of i)) (numbers_of i)
