-- What only private functions and proofs speak of, beside `Instructions`.
use Rattle.std.specs.Prelude.{ℕ, List, [], ◌∷◌, Option, Some, None, find}
use Rattle.std.specs.Option.{option_and_then}
use Rattle.std.specs.Str.{bytes_eq}
use Rattle.xc_isa.specs.declared.instr.BinaryOp.TheVariants.{Add, Sub, Mul, And, Or, Xor, Shl, Shr, Sar, Slt, Sltu, Seq}
use Rattle.xc_isa.specs.declared.instr.DivideOp.TheVariants.{Div, Divu, Rem, Remu}
use Rattle.xc_isa.specs.declared.instr.LoadKind.TheVariants.{Ld, Ldfe, Ldff}
use Rattle.xc_isa.specs.declared.instr.StoreKind.TheVariants.{St, Stef, Stff}
use Rattle.xc_isa.specs.declared.instr.Test.TheVariants.{Zero, NotZero}
use Rattle.xc_isa.specs.declared.instr.Instr.{Instr}
use Rattle.xc_isa.specs.declared.instr.Instr.TheVariants as instr
use Rattle.xc_isa_text.specs.declared.op.Op.{Op}
use Rattle.xc_isa_text.specs.declared.op.Op.TheVariants as op
use Rattle.xc_isa_text.specs.InnerOperands.{numbers_in}
use Rattle.xc_isa_text.specs.Instructions.{name_of, slots_of}

-- ---- reading

abbrev pub all_ops : List Op
all_ops =
    op.Li ∷ op.Addi ∷ op.Binary Add ∷ op.Binary Sub ∷ op.Binary Mul ∷ op.Binary And ∷ op.Binary Or ∷ op.Binary Xor
    ∷ op.Binary Shl ∷ op.Binary Shr ∷ op.Binary Sar ∷ op.Binary Slt ∷ op.Binary Sltu ∷ op.Binary Seq
    ∷ op.Divide Div ∷ op.Divide Divu ∷ op.Divide Rem ∷ op.Divide Remu ∷ op.Padd ∷ op.Psub ∷ op.Bound
    ∷ op.Load Ld ∷ op.Load Ldfe ∷ op.Load Ldff ∷ op.Store St ∷ op.Store Stef ∷ op.Store Stff ∷ op.Purge ∷ op.Fadd
    ∷ op.NewSeg ∷ op.Free ∷ op.Jmp ∷ op.Branch Zero ∷ op.Branch NotZero ∷ op.Jal ∷ op.Jr ∷ op.Create ∷ op.Quit
    ∷ op.Print ∷ op.Trap ∷ []

-- the operation that a word names
abbrev pub op_named : List ℕ → Option Op
op_named word = find (λ o. bytes_eq (name_of o) word) all_ops

-- the instruction of these numbers
abbrev pub made_of : Op → List ℕ → Option Instr
made_of op.Li (d ∷ n ∷ []) = Some (instr.Li d n)
made_of op.Addi (d ∷ a ∷ n ∷ []) = Some (instr.Addi d a n)
made_of (op.Binary o) (d ∷ a ∷ b ∷ []) = Some (instr.Binary o d a b)
made_of (op.Divide o) (d ∷ a ∷ b ∷ []) = Some (instr.Divide o d a b)
made_of op.Padd (d ∷ a ∷ b ∷ n ∷ []) = Some (instr.Padd d a b n)
made_of op.Psub (d ∷ a ∷ b ∷ []) = Some (instr.Psub d a b)
made_of op.Bound (a ∷ n ∷ []) = Some (instr.Bound a n)
made_of (op.Load kind) (d ∷ a ∷ n ∷ []) = Some (instr.Load kind d a n)
made_of (op.Store kind) (b ∷ a ∷ n ∷ []) = Some (instr.Store kind b a n)
made_of op.Purge (a ∷ n ∷ []) = Some (instr.Purge a n)
made_of op.Fadd (d ∷ a ∷ n ∷ b ∷ []) = Some (instr.Fadd d a n b)
made_of op.NewSeg (d ∷ a ∷ []) = Some (instr.NewSeg d a)
made_of op.Free (a ∷ []) = Some (instr.Free a)
made_of op.Jmp (n ∷ []) = Some (instr.Jmp n)
made_of (op.Branch test) (a ∷ n ∷ []) = Some (instr.Branch test a n)
made_of op.Jal (d ∷ n ∷ []) = Some (instr.Jal d n)
made_of op.Jr (a ∷ []) = Some (instr.Jr a)
made_of op.Create (d ∷ a ∷ n ∷ []) = Some (instr.Create d a n)
made_of op.Quit [] = Some instr.Quit
made_of op.Print (n ∷ []) = Some (instr.Print n)
made_of op.Trap (n ∷ []) = Some (instr.Trap n)
made_of _ _ = None

-- the instruction that words spell after the mnemonic
abbrev pub instr_from : Op → List (List ℕ) → Option Instr
instr_from o ws = option_and_then (made_of o) (numbers_in (slots_of o) ws)

-- the instruction that the words of a line spell
abbrev pub instr_in : List (List ℕ) → Option Instr
instr_in [] = None
instr_in (w ∷ ws) = option_and_then (λ o. instr_from o ws) (op_named w)
