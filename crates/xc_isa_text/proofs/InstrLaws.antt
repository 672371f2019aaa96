-- Instructions and their words.
use Rattle.std.proofs.Common.{◌≡◌, ℕ, Bool, true, false, cond, List, [], ◌∷◌, Option, Some, refl, sym, ap, subst, ◌∙◌}
use Rattle.std.specs.List.{AllByRecursion, join_with_byte}
use Rattle.std.specs.Prelude.{find}
use Rattle.std.specs.Str.{bytes_eq}
use Rattle.std.proofs.lemmas.Option.{same_Some}
use Rattle.std.proofs.lemmas.Slice.Eq.{bytes_eq-Decides}
use Rattle.xc_text_lines.specs.Lines.{words_of}
use Rattle.xc_text_lines.specs.InnerGrammar.{HasNoFeed}
use Rattle.xc_text_lines.proofs.Joins.{IsWord, words-join, join-words, no_feed-join}
use Rattle.xc_isa.specs.declared.instr.BinaryOp.TheVariants.{Add, Sub, Mul, And, Or, Xor, Shl, Shr, Sar, Slt, Sltu, Seq}
use Rattle.xc_isa.specs.declared.instr.DivideOp.TheVariants.{Div, Divu, Rem, Remu}
use Rattle.xc_isa.specs.declared.instr.LoadKind.TheVariants.{Ld, Ldfe, Ldff}
use Rattle.xc_isa.specs.declared.instr.StoreKind.TheVariants.{St, Stef, Stff}
use Rattle.xc_isa.specs.declared.instr.Test.TheVariants.{Zero, NotZero}
use Rattle.xc_isa.specs.declared.instr.Instr.{Instr}
use Rattle.xc_isa.specs.declared.instr.Instr.TheVariants as instr
use Rattle.xc_isa_text.specs.declared.op.Op.{Op}
use Rattle.xc_isa_text.specs.declared.op.Op.TheVariants as op
use Rattle.xc_isa_text.specs.Operands.{words_in, AreBelow}
use Rattle.xc_isa_text.specs.InnerOperands.{numbers_in}
use Rattle.xc_isa_text.specs.Instructions.{name_of, slots_of, op_of, numbers_of, instr_words, instr_line, IsInstr}
use Rattle.xc_isa_text.specs.InnerInstructions.{all_ops, op_named, made_of, instr_from, instr_in}
use Rattle.xc_isa_text.proofs.OperandLaws.{bind_some, numbers_spelled, numbers_again, are_words}

-- ---- mnemonics

first : {X : Type 0} (p : X → Bool) (x : X) (rest : Option X) (o : X) (b : Bool) → p x ≡ b → (rest ≡ Some o → p o ≡ true) → cond b (Some x) rest ≡ Some o → p o ≡ true
first p x rest o true t h e = subst (λ y. p y ≡ true) (same_Some x o e) t
first p x rest o false t h e = h e

pub found : {X : Type 0} (p : X → Bool) (os : List X) (o : X) → find p os ≡ Some o → p o ≡ true
found p [] o e = absurd cc
found p (x ∷ os) o e = first p x (find p os) o (p x) refl (found p os o) e

name_spelled : (w : List ℕ) (o : Op) → op_named w ≡ Some o → w ≡ name_of o
name_spelled w o e = sym ((bytes_eq-Decides (name_of o) w).0 (found (λ x. bytes_eq (name_of x) w) all_ops o e))

name_again : (o : Op) → op_named (name_of o) ≡ Some o
name_again op.Li = refl
name_again op.Addi = refl
name_again (op.Binary Add) = refl
name_again (op.Binary Sub) = refl
name_again (op.Binary Mul) = refl
name_again (op.Binary And) = refl
name_again (op.Binary Or) = refl
name_again (op.Binary Xor) = refl
name_again (op.Binary Shl) = refl
name_again (op.Binary Shr) = refl
name_again (op.Binary Sar) = refl
name_again (op.Binary Slt) = refl
name_again (op.Binary Sltu) = refl
name_again (op.Binary Seq) = refl
name_again (op.Divide Div) = refl
name_again (op.Divide Divu) = refl
name_again (op.Divide Rem) = refl
name_again (op.Divide Remu) = refl
name_again op.Padd = refl
name_again op.Psub = refl
name_again op.Bound = refl
name_again (op.Load Ld) = refl
name_again (op.Load Ldfe) = refl
name_again (op.Load Ldff) = refl
name_again (op.Store St) = refl
name_again (op.Store Stef) = refl
name_again (op.Store Stff) = refl
name_again op.Purge = refl
name_again op.Fadd = refl
name_again op.NewSeg = refl
name_again op.Free = refl
name_again op.Jmp = refl
name_again (op.Branch Zero) = refl
name_again (op.Branch NotZero) = refl
name_again op.Jal = refl
name_again op.Jr = refl
name_again op.Create = refl
name_again op.Quit = refl
name_again op.Print = refl
name_again op.Trap = refl

name_word : (o : Op) → IsWord (name_of o)
name_word op.Li = (refl, refl)
name_word op.Addi = (refl, refl)
name_word (op.Binary Add) = (refl, refl)
name_word (op.Binary Sub) = (refl, refl)
name_word (op.Binary Mul) = (refl, refl)
name_word (op.Binary And) = (refl, refl)
name_word (op.Binary Or) = (refl, refl)
name_word (op.Binary Xor) = (refl, refl)
name_word (op.Binary Shl) = (refl, refl)
name_word (op.Binary Shr) = (refl, refl)
name_word (op.Binary Sar) = (refl, refl)
name_word (op.Binary Slt) = (refl, refl)
name_word (op.Binary Sltu) = (refl, refl)
name_word (op.Binary Seq) = (refl, refl)
name_word (op.Divide Div) = (refl, refl)
name_word (op.Divide Divu) = (refl, refl)
name_word (op.Divide Rem) = (refl, refl)
name_word (op.Divide Remu) = (refl, refl)
name_word op.Padd = (refl, refl)
name_word op.Psub = (refl, refl)
name_word op.Bound = (refl, refl)
name_word (op.Load Ld) = (refl, refl)
name_word (op.Load Ldfe) = (refl, refl)
name_word (op.Load Ldff) = (refl, refl)
name_word (op.Store St) = (refl, refl)
name_word (op.Store Stef) = (refl, refl)
name_word (op.Store Stff) = (refl, refl)
name_word op.Purge = (refl, refl)
name_word op.Fadd = (refl, refl)
name_word op.NewSeg = (refl, refl)
name_word op.Free = (refl, refl)
name_word op.Jmp = (refl, refl)
name_word (op.Branch Zero) = (refl, refl)
name_word (op.Branch NotZero) = (refl, refl)
name_word op.Jal = (refl, refl)
name_word op.Jr = (refl, refl)
name_word op.Create = (refl, refl)
name_word op.Quit = (refl, refl)
name_word op.Print = (refl, refl)
name_word op.Trap = (refl, refl)

-- ---- numbers

made_again : (i : Instr) → made_of (op_of i) (numbers_of i) ≡ Some i
made_again (instr.Li a b) = refl
made_again (instr.Addi a b c) = refl
made_again (instr.Binary o a b c) = refl
made_again (instr.Divide o a b c) = refl
made_again (instr.Padd a b c d) = refl
made_again (instr.Psub a b c) = refl
made_again (instr.Bound a b) = refl
made_again (instr.Load o a b c) = refl
made_again (instr.Store o a b c) = refl
made_again (instr.Purge a b) = refl
made_again (instr.Fadd a b c d) = refl
made_again (instr.NewSeg a b) = refl
made_again (instr.Free a) = refl
made_again (instr.Jmp a) = refl
made_again (instr.Branch o a b) = refl
made_again (instr.Jal a b) = refl
made_again (instr.Jr a) = refl
made_again (instr.Create a b c) = refl
made_again instr.Quit = refl
made_again (instr.Print a) = refl
made_again (instr.Trap a) = refl

abbrev Is : Op → List ℕ → Instr → Type 0
Is o ns i = (op_of i ≡ o) × (numbers_of i ≡ ns)

made_is : (o : Op) (ns : List ℕ) (i : Instr) → AreBelow (slots_of o) ns → made_of o ns ≡ Some i → Is o ns i
made_is op.Li (a ∷ b ∷ []) i k e = subst (Is op.Li (a ∷ b ∷ [])) (same_Some _ _ e) (refl, refl)
made_is op.Addi (a ∷ b ∷ c ∷ []) i k e = subst (Is op.Addi (a ∷ b ∷ c ∷ [])) (same_Some _ _ e) (refl, refl)
made_is (op.Binary o) (a ∷ b ∷ c ∷ []) i k e = subst (Is (op.Binary o) (a ∷ b ∷ c ∷ [])) (same_Some _ _ e) (refl, refl)
made_is (op.Divide o) (a ∷ b ∷ c ∷ []) i k e = subst (Is (op.Divide o) (a ∷ b ∷ c ∷ [])) (same_Some _ _ e) (refl, refl)
made_is op.Padd (a ∷ b ∷ c ∷ d ∷ []) i k e = subst (Is op.Padd (a ∷ b ∷ c ∷ d ∷ [])) (same_Some _ _ e) (refl, refl)
made_is op.Psub (a ∷ b ∷ c ∷ []) i k e = subst (Is op.Psub (a ∷ b ∷ c ∷ [])) (same_Some _ _ e) (refl, refl)
made_is op.Bound (a ∷ b ∷ []) i k e = subst (Is op.Bound (a ∷ b ∷ [])) (same_Some _ _ e) (refl, refl)
made_is (op.Load o) (a ∷ b ∷ c ∷ []) i k e = subst (Is (op.Load o) (a ∷ b ∷ c ∷ [])) (same_Some _ _ e) (refl, refl)
made_is (op.Store o) (a ∷ b ∷ c ∷ []) i k e = subst (Is (op.Store o) (a ∷ b ∷ c ∷ [])) (same_Some _ _ e) (refl, refl)
made_is op.Purge (a ∷ b ∷ []) i k e = subst (Is op.Purge (a ∷ b ∷ [])) (same_Some _ _ e) (refl, refl)
made_is op.Fadd (a ∷ b ∷ c ∷ d ∷ []) i k e = subst (Is op.Fadd (a ∷ b ∷ c ∷ d ∷ [])) (same_Some _ _ e) (refl, refl)
made_is op.NewSeg (a ∷ b ∷ []) i k e = subst (Is op.NewSeg (a ∷ b ∷ [])) (same_Some _ _ e) (refl, refl)
made_is op.Free (a ∷ []) i k e = subst (Is op.Free (a ∷ [])) (same_Some _ _ e) (refl, refl)
made_is op.Jmp (a ∷ []) i k e = subst (Is op.Jmp (a ∷ [])) (same_Some _ _ e) (refl, refl)
made_is (op.Branch o) (a ∷ b ∷ []) i k e = subst (Is (op.Branch o) (a ∷ b ∷ [])) (same_Some _ _ e) (refl, refl)
made_is op.Jal (a ∷ b ∷ []) i k e = subst (Is op.Jal (a ∷ b ∷ [])) (same_Some _ _ e) (refl, refl)
made_is op.Jr (a ∷ []) i k e = subst (Is op.Jr (a ∷ [])) (same_Some _ _ e) (refl, refl)
made_is op.Create (a ∷ b ∷ c ∷ []) i k e = subst (Is op.Create (a ∷ b ∷ c ∷ [])) (same_Some _ _ e) (refl, refl)
made_is op.Quit [] i k e = subst (Is op.Quit []) (same_Some _ _ e) (refl, refl)
made_is op.Print (a ∷ []) i k e = subst (Is op.Print (a ∷ [])) (same_Some _ _ e) (refl, refl)
made_is op.Trap (a ∷ []) i k e = subst (Is op.Trap (a ∷ [])) (same_Some _ _ e) (refl, refl)
made_is op.Li [] i k e = absurd cc
made_is op.Li (a ∷ []) i k e = absurd cc
made_is op.Li (a ∷ b ∷ x ∷ xs) i k e = absurd cc
made_is op.Addi [] i k e = absurd cc
made_is op.Addi (a ∷ []) i k e = absurd cc
made_is op.Addi (a ∷ b ∷ []) i k e = absurd cc
made_is op.Addi (a ∷ b ∷ c ∷ x ∷ xs) i k e = absurd cc
made_is (op.Binary o) [] i k e = absurd cc
made_is (op.Binary o) (a ∷ []) i k e = absurd cc
made_is (op.Binary o) (a ∷ b ∷ []) i k e = absurd cc
made_is (op.Binary o) (a ∷ b ∷ c ∷ x ∷ xs) i k e = absurd cc
made_is (op.Divide o) [] i k e = absurd cc
made_is (op.Divide o) (a ∷ []) i k e = absurd cc
made_is (op.Divide o) (a ∷ b ∷ []) i k e = absurd cc
made_is (op.Divide o) (a ∷ b ∷ c ∷ x ∷ xs) i k e = absurd cc
made_is op.Padd [] i k e = absurd cc
made_is op.Padd (a ∷ []) i k e = absurd cc
made_is op.Padd (a ∷ b ∷ []) i k e = absurd cc
made_is op.Padd (a ∷ b ∷ c ∷ []) i k e = absurd cc
made_is op.Padd (a ∷ b ∷ c ∷ d ∷ x ∷ xs) i k e = absurd cc
made_is op.Psub [] i k e = absurd cc
made_is op.Psub (a ∷ []) i k e = absurd cc
made_is op.Psub (a ∷ b ∷ []) i k e = absurd cc
made_is op.Psub (a ∷ b ∷ c ∷ x ∷ xs) i k e = absurd cc
made_is op.Bound [] i k e = absurd cc
made_is op.Bound (a ∷ []) i k e = absurd cc
made_is op.Bound (a ∷ b ∷ x ∷ xs) i k e = absurd cc
made_is (op.Load o) [] i k e = absurd cc
made_is (op.Load o) (a ∷ []) i k e = absurd cc
made_is (op.Load o) (a ∷ b ∷ []) i k e = absurd cc
made_is (op.Load o) (a ∷ b ∷ c ∷ x ∷ xs) i k e = absurd cc
made_is (op.Store o) [] i k e = absurd cc
made_is (op.Store o) (a ∷ []) i k e = absurd cc
made_is (op.Store o) (a ∷ b ∷ []) i k e = absurd cc
made_is (op.Store o) (a ∷ b ∷ c ∷ x ∷ xs) i k e = absurd cc
made_is op.Purge [] i k e = absurd cc
made_is op.Purge (a ∷ []) i k e = absurd cc
made_is op.Purge (a ∷ b ∷ x ∷ xs) i k e = absurd cc
made_is op.Fadd [] i k e = absurd cc
made_is op.Fadd (a ∷ []) i k e = absurd cc
made_is op.Fadd (a ∷ b ∷ []) i k e = absurd cc
made_is op.Fadd (a ∷ b ∷ c ∷ []) i k e = absurd cc
made_is op.Fadd (a ∷ b ∷ c ∷ d ∷ x ∷ xs) i k e = absurd cc
made_is op.NewSeg [] i k e = absurd cc
made_is op.NewSeg (a ∷ []) i k e = absurd cc
made_is op.NewSeg (a ∷ b ∷ x ∷ xs) i k e = absurd cc
made_is op.Free [] i k e = absurd cc
made_is op.Free (a ∷ x ∷ xs) i k e = absurd cc
made_is op.Jmp [] i k e = absurd cc
made_is op.Jmp (a ∷ x ∷ xs) i k e = absurd cc
made_is (op.Branch o) [] i k e = absurd cc
made_is (op.Branch o) (a ∷ []) i k e = absurd cc
made_is (op.Branch o) (a ∷ b ∷ x ∷ xs) i k e = absurd cc
made_is op.Jal [] i k e = absurd cc
made_is op.Jal (a ∷ []) i k e = absurd cc
made_is op.Jal (a ∷ b ∷ x ∷ xs) i k e = absurd cc
made_is op.Jr [] i k e = absurd cc
made_is op.Jr (a ∷ x ∷ xs) i k e = absurd cc
made_is op.Create [] i k e = absurd cc
made_is op.Create (a ∷ []) i k e = absurd cc
made_is op.Create (a ∷ b ∷ []) i k e = absurd cc
made_is op.Create (a ∷ b ∷ c ∷ x ∷ xs) i k e = absurd cc
made_is op.Quit (x ∷ xs) i k e = absurd cc
made_is op.Print [] i k e = absurd cc
made_is op.Print (a ∷ x ∷ xs) i k e = absurd cc
made_is op.Trap [] i k e = absurd cc
made_is op.Trap (a ∷ x ∷ xs) i k e = absurd cc

-- ---- lines

pub words_spelled : (ws : List (List ℕ)) (i : Instr) → instr_in ws ≡ Some i → (ws ≡ instr_words i) × IsInstr i
words_spelled [] i e = absurd cc
words_spelled (w ∷ ws) i e =
    let a = bind_some (op_named w) (λ o. instr_from o ws) i e in
    let b = bind_some (numbers_in (slots_of a.0) ws) (made_of a.0) i a.2 in
    let named = name_spelled w a.0 a.1 in
    let spelled = numbers_spelled (slots_of a.0) ws b.0 b.1 in
    let is = made_is a.0 b.0 i spelled.1 b.2 in (
      ap (λ (x : List ℕ). x ∷ ws) (named ∙ ap name_of (sym is.0))
          ∙ ap (λ (x : List (List ℕ)). name_of (op_of i) ∷ x) (spelled.0 ∙ ap (words_in (slots_of a.0)) (sym is.1) ∙ ap (λ o. words_in (slots_of o) (numbers_of i)) (sym is.0)),
      subst (λ o. AreBelow (slots_of o) (numbers_of i)) (sym is.0) (subst (λ (x : List ℕ). AreBelow (slots_of a.0) x) (sym is.1) spelled.1),
    )

words_again : (i : Instr) → IsInstr i → instr_in (instr_words i) ≡ Some i
words_again i h = rw (name_again (op_of i), numbers_again (slots_of (op_of i)) (numbers_of i) h) (made_again i)

instr_are_words : (i : Instr) → IsInstr i → AllByRecursion IsWord (instr_words i)
instr_are_words i h = (name_word (op_of i), are_words (slots_of (op_of i)) (numbers_of i) h)

-- the line of an instruction is read to it
pub line_again : (i : Instr) → IsInstr i → instr_in (words_of (instr_line i)) ≡ Some i
line_again i h = ap instr_in (words-join (name_of (op_of i)) (words_in (slots_of (op_of i)) (numbers_of i)) (instr_are_words i h)) ∙ words_again i h

-- a line that is read is that of its instruction
pub line_spelled : (line : List ℕ) (i : Instr) → instr_in (words_of line) ≡ Some i → (line ≡ instr_line i) × IsInstr i
line_spelled line i e =
    let s = words_spelled (words_of line) i e in
    (sym (join-words line) ∙ ap (join_with_byte 32) s.0, s.1)

pub line_free : (i : Instr) → IsInstr i → HasNoFeed (instr_line i)
line_free i h = no_feed-join (instr_words i) (instr_are_words i h)
