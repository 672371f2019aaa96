-- The instructions that the generator makes of a program.
use Rattle.std.specs.Prelude.{ℕ, suc, ◌+◌, ◌-◌, ◌*◌, ◌^◌, Bool, cond, List, [], ◌∷◌, ◌++◌, length, max}
use Rattle.xc_tree.specs.declared.operator.BinOp.{BinOp}
use Rattle.xc_tree.specs.declared.operator.BinOp.TheVariants as op
use Rattle.xc_tree.specs.declared.operator.UnOp.{UnOp}
use Rattle.xc_tree.specs.declared.operator.UnOp.TheVariants as unary
use Rattle.xc_isa.specs.declared.instr.BinaryOp.TheVariants.{Add, Sub, Mul, And as BitAnd, Or as BitOr, Xor as BitXor, Shl, Shr, Sar, Slt, Sltu, Seq}
use Rattle.xc_isa.specs.declared.instr.DivideOp.TheVariants.{Div, Divu, Rem, Remu}
use Rattle.xc_isa.specs.declared.instr.LoadKind.TheVariants.{Ld}
use Rattle.xc_isa.specs.declared.instr.StoreKind.TheVariants.{St}
use Rattle.xc_isa.specs.declared.instr.Test.{Test}
use Rattle.xc_isa.specs.declared.instr.Test.TheVariants.{Zero, NotZero}
use Rattle.xc_isa.specs.declared.instr.Instr.{Instr}
use Rattle.xc_isa.specs.declared.instr.Instr.TheVariants as instr
use Rattle.xc_meaning.specs.Terms.{Term, Number, Read, Write, Update, Unary, Binary, And, Or, Cond, Comma, Print, Terms, NoMore, More, Command, Empty, Eval, Block, Return, Commands, End, Then}

-- The value of a term comes into r16; r17 has the left operand or a pointer; r23 points to the frame.

-- r16 gets 1 where it is 0, else 0
abbrev pub flip : Instr
flip = instr.Binary Seq 16 16 0

-- whether register a is less than register b
abbrev pub less : Bool → ℕ → ℕ → Instr
less unsigned a b = instr.Binary (cond unsigned Sltu Slt) 16 a b

-- r16 gets what the operator makes of r17 and r16
abbrev pub operation_code : BinOp → Bool → List Instr
operation_code op.Mul unsigned = instr.Binary Mul 16 17 16 ∷ []
operation_code op.Div unsigned = instr.Divide (cond unsigned Divu Div) 16 17 16 ∷ []
operation_code op.Rem unsigned = instr.Divide (cond unsigned Remu Rem) 16 17 16 ∷ []
operation_code op.Add unsigned = instr.Binary Add 16 17 16 ∷ []
operation_code op.Sub unsigned = instr.Binary Sub 16 17 16 ∷ []
operation_code op.Shl unsigned = instr.Binary Shl 16 17 16 ∷ []
operation_code op.Shr unsigned = instr.Binary (cond unsigned Shr Sar) 16 17 16 ∷ []
operation_code op.Lt unsigned = less unsigned 17 16 ∷ []
operation_code op.Gt unsigned = less unsigned 16 17 ∷ []
operation_code op.Le unsigned = less unsigned 16 17 ∷ flip ∷ []
operation_code op.Ge unsigned = less unsigned 17 16 ∷ flip ∷ []
operation_code op.Eq unsigned = instr.Binary Seq 16 17 16 ∷ []
operation_code op.Ne unsigned = instr.Binary Seq 16 17 16 ∷ flip ∷ []
operation_code op.BitAnd unsigned = instr.Binary BitAnd 16 17 16 ∷ []
operation_code op.BitXor unsigned = instr.Binary BitXor 16 17 16 ∷ []
operation_code op.BitOr unsigned = instr.Binary BitOr 16 17 16 ∷ []

-- r16 gets what the operator makes of it
abbrev pub unary_code : UnOp → List Instr
unary_code unary.Neg = instr.Binary Sub 16 0 16 ∷ []
unary_code unary.Complement = instr.Li 17 (2 ^ 64 - 1) ∷ instr.Binary Sub 16 17 16 ∷ []
unary_code unary.Not = flip ∷ []
unary_code unary.Cast = []

-- a pointer to a global's cell: segments are counted from 1
abbrev pub pointer_to : ℕ → ℕ
pointer_to g = suc g * 2 ^ 32

abbrev pub read_code : ℕ → List Instr
read_code g = instr.Li 16 (pointer_to g) ∷ instr.Load Ld 16 16 0 ∷ []

abbrev pub write_code : ℕ → List Instr
write_code g = instr.Li 17 (pointer_to g) ∷ instr.Store St 16 17 0 ∷ []

-- a value waits in cell d of the frame
abbrev pub save : ℕ → Instr
save d = instr.Store St 16 23 d

abbrev pub load : ℕ → ℕ → Instr
load register d = instr.Load Ld register 23 d

-- what is done with two operands, the left one in cell d, the right one in r16
abbrev pub apply_code : BinOp → Bool → ℕ → List Instr
apply_code op unsigned d = load 17 d ∷ operation_code op unsigned

-- the old value of a compound assignment, which is in cell d, where it is asked for
abbrev pub old_code : Bool → ℕ → List Instr
old_code post d = cond post (load 16 d ∷ []) []

abbrev pub as_truth_code : List Instr
as_truth_code = flip ∷ flip ∷ []

-- the second operand, whose code goes by its position, is passed over where the first one decides
abbrev pub decided_code : Test → List Instr → (ℕ → List Instr) → ℕ → List Instr
decided_code test a b at =
    let b_at = at + length a + 1 in
    a ++ (instr.Branch test 16 (b_at + length (b b_at)) ∷ (b b_at ++ as_truth_code))

-- the second is done where the first is not 0, else the third
abbrev pub choice_code : List Instr → (ℕ → List Instr) → (ℕ → List Instr) → ℕ → List Instr
choice_code test a b at =
    let a_at = at + length test + 1 in
    let b_at = a_at + length (a a_at) + 1 in
    test ++ (instr.Branch Zero 16 b_at ∷ (a a_at ++ (instr.Jmp (b_at + length (b b_at)) ∷ b b_at)))

-- the registers from the one told get the cells from d on
abbrev pub loads_code : Terms → ℕ → ℕ → List Instr
loads_code NoMore register d = []
loads_code (More e es) register d = load register d ∷ loads_code es (register + 1) (d + 1)

abbrev pub print_code : ℕ → List Instr
print_code format = instr.Print format ∷ instr.Li 16 0 ∷ []

-- the code of a term, and of arguments; the frame's cells below d hold values that wait, and `at` is the position of the code
abbrev mutual
  pub term_code : Term → ℕ → ℕ → List Instr
  term_code (Number n) d at = instr.Li 16 n ∷ []
  term_code (Read g) d at = read_code g
  term_code (Write g value) d at = term_code value d at ++ write_code g
  term_code (Update op unsigned post g value) d at =
      read_code g ++ (save d ∷ (term_code value (d + 1) (at + 3) ++ (apply_code op unsigned d ++ (write_code g ++ old_code post d))))
  term_code (Unary op of) d at = term_code of d at ++ unary_code op
  term_code (Binary op unsigned a b) d at =
      let ca = term_code a d at in
      ca ++ (save d ∷ (term_code b (d + 1) (at + length ca + 1) ++ apply_code op unsigned d))
  term_code (And a b) d at = decided_code Zero (term_code a d at) (term_code b d) at
  term_code (Or a b) d at = decided_code NotZero (term_code a d at) (term_code b d) at
  term_code (Cond test a b) d at = choice_code (term_code test d at) (term_code a d) (term_code b d) at
  term_code (Comma a b) d at =
      let ca = term_code a d at in
      ca ++ term_code b d (at + length ca)
  term_code (Print format args) d at = terms_code args d at ++ (loads_code args 24 d ++ print_code format)
  term_code (Term.Unbuilt span) d at = []

  -- the values come into the cells from d on
  pub terms_code : Terms → ℕ → ℕ → List Instr
  terms_code NoMore d at = []
  terms_code (More e es) d at =
      let ce = term_code e d at in
      ce ++ (save d ∷ terms_code es (d + 1) (at + length ce + 1))

-- the frame is freed, and the stream ends
abbrev pub leave_code : List Instr
leave_code = instr.Free 23 ∷ instr.Quit ∷ []

abbrev mutual
  pub command_code : Command → ℕ → List Instr
  command_code Empty at = []
  command_code (Eval e) at = term_code e 0 at
  command_code (Block all) at = commands_code all at
  command_code (Return e) at = term_code e 0 at ++ leave_code
  command_code (Command.Unbuilt span) at = []

  pub commands_code : Commands → ℕ → List Instr
  commands_code End at = []
  commands_code (Then s ss) at =
      let cs = command_code s at in
      cs ++ commands_code ss (at + length cs)

-- ---- the frame

-- how many values wait at once
abbrev mutual
  pub waiting_in : Term → ℕ
  waiting_in (Number n) = 0
  waiting_in (Read g) = 0
  waiting_in (Write g value) = waiting_in value
  waiting_in (Update op unsigned post g value) = waiting_in value + 1
  waiting_in (Unary op of) = waiting_in of
  waiting_in (Binary op unsigned a b) = max (waiting_in a) (waiting_in b + 1)
  waiting_in (And a b) = max (waiting_in a) (waiting_in b)
  waiting_in (Or a b) = max (waiting_in a) (waiting_in b)
  waiting_in (Cond test a b) = max (waiting_in test) (max (waiting_in a) (waiting_in b))
  waiting_in (Comma a b) = max (waiting_in a) (waiting_in b)
  waiting_in (Print format args) = waiting_among args 0
  waiting_in (Term.Unbuilt at) = 0

  -- the same while the values of so many arguments before wait
  pub waiting_among : Terms → ℕ → ℕ
  waiting_among NoMore before = before
  waiting_among (More e es) before = max (waiting_in e + before) (waiting_among es (before + 1))

abbrev mutual
  pub waiting_for : Command → ℕ
  waiting_for Empty = 0
  waiting_for (Eval e) = waiting_in e
  waiting_for (Block all) = waiting_for_all all
  waiting_for (Return e) = waiting_in e
  waiting_for (Command.Unbuilt at) = 0

  pub waiting_for_all : Commands → ℕ
  waiting_for_all End = 0
  waiting_for_all (Then s ss) = max (waiting_for s) (waiting_for_all ss)

-- a segment has one cell at least
abbrev pub frame_cells : Command → ℕ
frame_cells body = waiting_for body + 1

abbrev pub enter_code : ℕ → List Instr
enter_code cells = instr.Li 17 cells ∷ instr.NewSeg 23 17 ∷ []

-- the code of a whole program
abbrev pub whole_code : Command → List Instr
whole_code body = enter_code (frame_cells body) ++ (command_code body 2 ++ leave_code)
