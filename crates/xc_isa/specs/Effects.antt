-- What an instruction does to its stream, and what it asks of the world.
use Rattle.std.specs.Prelude.{ℕ, suc, ◌+◌, ◌%◌, ◌^◌, ◌==◌, nat_lt, List, [], ◌∷◌, Option, Some, None, slice_get, map, if◌then◌else◌}
use Rattle.xc_word.specs.declared.memory.Kind.{Kind}
use Rattle.xc_word.specs.declared.memory.Kind.TheVariants.{ReadXx, ReadFe, ReadFf, WriteXf, WriteEf, WriteFf, Purge, Add}
use Rattle.xc_meaning_world.specs.World.{Reach, New, Free, Request, On, Print, Begin, put}
use Rattle.xc_text_format.specs.Pieces.{text_of}
use Rattle.xc_isa.specs.declared.instr.LoadKind.{LoadKind}
use Rattle.xc_isa.specs.declared.instr.LoadKind.TheVariants.{Ld, Ldfe, Ldff}
use Rattle.xc_isa.specs.declared.instr.StoreKind.{StoreKind}
use Rattle.xc_isa.specs.declared.instr.StoreKind.TheVariants.{St, Stef, Stff}
use Rattle.xc_isa.specs.declared.instr.Instr.{Instr}
use Rattle.xc_isa.specs.declared.instr.Instr.TheVariants as instr
use Rattle.xc_isa.specs.declared.instr.TrapKind.{TrapKind}
use Rattle.xc_isa.specs.declared.instr.TrapKind.TheVariants as trap
use Rattle.xc_isa.specs.Words.{binary, divide, holds, segment_of, offset_of, moved, distance}

abbrev pub Regs : Type 0
Regs = ℕ → ℕ

-- r0 reads 0
abbrev pub read : Regs → ℕ → ℕ
read r a = if a == 0 then 0 else r a

-- the stream goes on; it asks the world and goes on with the answer; it traps; it ends
pub data Effect : Type 0 where
  Goes : (pc : ℕ) (r : Regs) → Effect
  Asks : (q : Request) (pc : ℕ) (r : ℕ → Regs) → Effect
  Faults : (kind : TrapKind) → Effect
  Quits : Effect

abbrev pub load_kind : LoadKind → Kind
load_kind Ld = ReadXx
load_kind Ldfe = ReadFe
load_kind Ldff = ReadFf

abbrev pub store_kind : StoreKind → Kind
store_kind St = WriteXf
store_kind Stef = WriteEf
store_kind Stff = WriteFf

-- the register gets the word, or a trap where there is none
abbrev pub sets : TrapKind → ℕ → Option ℕ → ℕ → Regs → Effect
sets kind d None pc r = Faults kind
sets kind d (Some v) pc r = Goes pc (put r d v)

-- an access at offset n from the pointer w; past the last offset of a segment it is a trap
abbrev pub reaches : Kind → ℕ → ℕ → ℕ → ℕ → (ℕ → Regs) → Effect
reaches kind w n v pc r =
    if nat_lt (offset_of w + n) (2 ^ 32) then Asks (On (Reach (record { kind = kind; place = record { seg = segment_of w; off = offset_of w + n }; value = v }))) pc r
    else Faults trap.Place

-- a segment is freed by the pointer to its first cell
abbrev pub frees : ℕ → ℕ → Regs → Effect
frees w pc r = if offset_of w == 0 then Asks (On (Free (segment_of w))) pc (λ v. r) else Faults trap.Place

-- the registers that are printed
abbrev pub printed_regs : List ℕ
printed_regs = 24 ∷ 25 ∷ 26 ∷ 27 ∷ 28 ∷ 29 ∷ 30 ∷ 31 ∷ []

abbrev pub prints : Option (List ℕ) → ℕ → Regs → Effect
prints None pc r = Faults trap.Format
prints (Some f) pc r = Asks (Print (text_of f (map (read r) printed_regs))) pc (λ v. r)

-- The table of instructions; a position outside the code is a trap.
abbrev pub effect : List (List ℕ) → Option Instr → ℕ → Regs → Effect
effect formats None pc r = Faults trap.Jump
effect formats (Some (instr.Li d n)) pc r = Goes (suc pc) (put r d n)
effect formats (Some (instr.Addi d a n)) pc r = Goes (suc pc) (put r d ((read r a + n) % 2 ^ 64))
effect formats (Some (instr.Binary op d a b)) pc r = Goes (suc pc) (put r d (binary op (read r a) (read r b)))
effect formats (Some (instr.Divide op d a b)) pc r = sets trap.Divide d (divide op (read r a) (read r b)) (suc pc) r
effect formats (Some (instr.Padd d a b n)) pc r = sets trap.Range d (moved (read r a) (read r b) n) (suc pc) r
effect formats (Some (instr.Psub d a b)) pc r = sets trap.Objects d (distance (read r a) (read r b)) (suc pc) r
effect formats (Some (instr.Bound a n)) pc r = if nat_lt (read r a) n then Goes (suc pc) r else Faults trap.Index
effect formats (Some (instr.Load kind d a n)) pc r = reaches (load_kind kind) (read r a) n 0 (suc pc) (λ v. put r d v)
effect formats (Some (instr.Store kind b a n)) pc r = reaches (store_kind kind) (read r a) n (read r b) (suc pc) (λ v. r)
effect formats (Some (instr.Purge a n)) pc r = reaches Purge (read r a) n 0 (suc pc) (λ v. r)
effect formats (Some (instr.Fadd d a n b)) pc r = reaches Add (read r a) n (read r b) (suc pc) (λ v. put r d v)
effect formats (Some (instr.NewSeg d a)) pc r = Asks (On (New (read r a))) (suc pc) (λ v. put r d v)
effect formats (Some (instr.Free a)) pc r = frees (read r a) (suc pc) r
effect formats (Some (instr.Jmp n)) pc r = Goes n r
effect formats (Some (instr.Branch test a n)) pc r = Goes (if holds test (read r a) then n else suc pc) r
effect formats (Some (instr.Jal d n)) pc r = Goes n (put r d (suc pc))
effect formats (Some (instr.Jr a)) pc r = Goes (read r a) r
effect formats (Some (instr.Create d a n)) pc r = Asks (Begin n (read r a)) (suc pc) (λ v. put r d v)
effect formats (Some instr.Quit) pc r = Quits
effect formats (Some (instr.Print n)) pc r = prints (slice_get formats n) (suc pc) r
effect formats (Some (instr.Trap n)) pc r = Faults trap.Code
