-- The accesses of instructions.
use Rattle.std.specs.Prelude.{Bool, true, Option, Some, None, is_some, slice_get}
use Rattle.xc_word.specs.declared.memory.Cell.{Cell}
use Rattle.xc_word.specs.declared.memory.Kind.{Kind}
use Rattle.xc_word.specs.declared.memory.Kind.TheVariants.{Purge, Add}
use Rattle.xc_word.specs.Table.{on_cell}
use Rattle.xc_meaning_world.specs.World.{Segs, World, Touch, Reach, New, Free, Request, On, Print, Begin, Stop, Tick}
use Rattle.xc_isa.specs.declared.instr.Instr.{Instr}
use Rattle.xc_isa.specs.declared.instr.Instr.TheVariants as instr
use Rattle.xc_isa.specs.Effects.{Regs, read, load_kind, store_kind, Effect, Goes, Asks, Faults, Quits}
use Rattle.xc_machine.specs.declared.target.Target.{Target}

-- of which cell the access of an instruction is, what it writes or adds, and the register that gets the answer
abbrev pub target_of : Regs → Instr → Option Target
target_of r (instr.Load kind d a n) = Some (record { kind = load_kind kind; pointer = read r a; off = n; value = 0; to = Some d })
target_of r (instr.Store kind b a n) = Some (record { kind = store_kind kind; pointer = read r a; off = n; value = read r b; to = None })
target_of r (instr.Purge a n) = Some (record { kind = Purge; pointer = read r a; off = n; value = 0; to = None })
target_of r (instr.Fadd d a n b) = Some (record { kind = Add; pointer = read r a; off = n; value = read r b; to = Some d })
target_of r _ = None

-- an access of this kind need not wait at a cell; where there is none, it traps
abbrev pub admits : Kind → Option Cell → Bool
admits kind None = true
admits kind (Some c) = is_some (on_cell kind 0 c)

abbrev pub can_touch : Touch → Segs → Bool
can_touch (Reach act) m = admits act.kind (slice_get (m act.place.seg) act.place.off)
can_touch (New cells) m = true
can_touch (Free g) m = true

abbrev pub can_ask : Request → World → Bool
can_ask (On x) w = can_touch x w.segs
can_ask (Print bytes) w = true
can_ask (Begin at arg) w = true
can_ask Stop w = true
can_ask Tick w = true

-- only an access waits
abbrev pub can_go : Effect → World → Bool
can_go (Goes pc r) w = true
can_go (Asks q pc r) w = can_ask q w
can_go (Faults kind) w = true
can_go Quits w = true
