-- A stream that is alone in its machine follows straight code.
use Rattle.std.proofs.Common.{◌≡◌, ℕ, zero, suc, ◌+◌, ◌*◌, ◌/◌, ◌%◌, ◌^◌, ◌-◌, ◌<◌, ◌≤◌, List, [], ◌∷◌, ◌++◌, length, Option, Some, None, map, cond, refl, sym, ap, ◌∙◌, subst, arith}
use Rattle.std.specs.Prelude.{◌==◌, slice_get, replicate}
use Rattle.std.proofs.lemmas.Bool.{lt-ltb}
use Rattle.xc_word.specs.declared.memory.Kind.{Kind}
use Rattle.xc_word.specs.declared.memory.Access.{Access}
use Rattle.xc_meaning_world.specs.World.{World, Request, On, Print, Begin, Stop, Tick, Reach, Free, Reply, Got, serve, world_of}
use Rattle.xc_isa.specs.declared.code.Code.{Code}
use Rattle.xc_isa.specs.declared.instr.Instr.{Instr}
use Rattle.xc_isa.specs.declared.instr.TrapKind.TheVariants as trap
use Rattle.xc_isa.specs.Texts.{cells_of}
use Rattle.xc_isa.specs.Effects.{Regs, Goes, Asks, Faults, Quits, reaches, frees, effect}
use Rattle.xc_isa.specs.Machine as machine
use Rattle.xc_isa.specs.Machine.{Slot, Absent, Empty, Live, State, Waits, Spent, last_after, with_slot, served, asks as asks_of, takes, in_slot, step, slots_each, free_slots, start, IsIdle, HasQuit}
use Rattle.xc_isa.proofs.Slots.{free_slots_idle}

-- the instructions stand in the code from this place on
abbrev pub HasAt : List Instr → ℕ → List Instr → Type 0
HasAt code pc [] = Unit {0}
HasAt code pc (i ∷ is) = (slice_get code pc ≡ Some i) × HasAt code (suc pc) is

-- the place behind them
abbrev pub behind : ℕ → List Instr → ℕ
behind pc [] = pc
behind pc (i ∷ is) = behind (suc pc) is

pub behind_append : (pc : ℕ) (a b : List Instr) → behind pc (a ++ b) ≡ behind (behind pc a) b
behind_append pc [] b = refl
behind_append pc (i ∷ a) b = behind_append (suc pc) a b

pub has_front : (code : List Instr) (pc : ℕ) (a b : List Instr) → HasAt code pc (a ++ b) → HasAt code pc a
has_front code pc [] b h = tt
has_front code pc (i ∷ a) b h = (h.0, has_front code (suc pc) a b h.1)

pub has_back : (code : List Instr) (pc : ℕ) (a b : List Instr) → HasAt code pc (a ++ b) → HasAt code (behind pc a) b
has_back code pc [] b h = h
has_back code pc (i ∷ a) b h = has_back code (suc pc) a b h.1

at_length : (front : List Instr) (i : Instr) (is : List Instr) → slice_get (front ++ i ∷ is) (length front) ≡ Some i
at_length [] i is = refl
at_length (j ∷ front) i is = at_length front i is

moved : (front : List Instr) (i : Instr) (is : List Instr) → (front ++ i ∷ []) ++ is ≡ front ++ i ∷ is
moved [] i is = refl
moved (j ∷ front) i is = ap (λ l. j ∷ l) (moved front i is)

one_more : (front : List Instr) (i : Instr) → length (front ++ i ∷ []) ≡ suc (length front)
one_more [] i = refl
one_more (j ∷ front) i = ap suc (one_more front i)

has_from : (front is : List Instr) → HasAt (front ++ is) (length front) is
has_from front [] = tt
has_from front (i ∷ is) =
    let rest = has_from (front ++ i ∷ []) is in
    (at_length front i is, subst (λ l. HasAt l (suc (length front)) is) (moved front i is) (subst (λ n. HasAt ((front ++ i ∷ []) ++ is) n is) (one_more front i) rest))

pub has_all : (is : List Instr) → HasAt is 0 is
has_all is = has_from [] is

-- a stream in slot 0, and what it shares
pub record Conf : Type 0 where
  pub slot : Slot
  pub world : World
  pub last : ℕ

abbrev pub conf : Slot → World → ℕ → Conf
conf x w n = record { slot = x; world = w; last = n }

-- with the other slots
abbrev pub state_of : List Slot → Conf → State
state_of others c = record { slots = c.slot ∷ others; world = c.world; last = c.last }

-- one step, whatever the other slots are
abbrev pub Goes_to : Code → Conf → Conf → Type 0
Goes_to code c d = (others : List Slot) → step code 0 (state_of others c) ≡ machine.At (state_of others d)

pub goes : (code : Code) (i : Instr) (pc pc' : ℕ) (r r' : Regs) (w : World) (n : ℕ) → slice_get code.instrs pc ≡ Some i → effect code.formats (Some i) pc r ≡ Goes pc' r' → Goes_to code (conf (Live pc r) w n) (conf (Live pc' r') w n)
goes code i pc pc' r r' w n at eff others =
    ap (λ o. takes (effect code.formats o pc r) 0 (Live pc r ∷ others) w n) at ∙ ap (λ e. takes e 0 (Live pc r ∷ others) w n) eff

-- what the world answers to a request, where that is a word
asked : (q : Request) (pc : ℕ) (rf : ℕ → Regs) (slots : List Slot) (w w' : World) (n v : ℕ) → serve q (suc n) w ≡ Some (Got v, w') → asks_of q pc rf 0 slots w n ≡ served q (Some (Got v, w')) pc rf 0 slots n
asked (On x) pc rf slots w w' n v answer = ap (λ o. served (On x) o pc rf 0 slots n) answer
asked (Print bytes) pc rf slots w w' n v answer = ap (λ o. served (Print bytes) o pc rf 0 slots n) answer
asked (Begin at arg) pc rf slots w w' n v answer = cc
asked Stop pc rf slots w w' n v answer = ap (λ o. served Stop o pc rf 0 slots n) answer
asked Tick pc rf slots w w' n v answer = ap (λ o. served Tick o pc rf 0 slots n) answer

pub asks : (code : Code) (i : Instr) (q : Request) (pc pc' : ℕ) (r : Regs) (rf : ℕ → Regs) (v : ℕ) (w w' : World) (n : ℕ) → slice_get code.instrs pc ≡ Some i → effect code.formats (Some i) pc r ≡ Asks q pc' rf → serve q (suc n) w ≡ Some (Got v, w') → last_after q n < 2 ^ 32 - 1
    → Goes_to code (conf (Live pc r) w n) (conf (Live pc' (rf v)) w' (last_after q n))
asks code i q pc pc' r rf v w w' n at eff answer few others =
    let slots = Live pc r ∷ others in
    ap (λ o. takes (effect code.formats o pc r) 0 slots w n) at
    ∙ ap (λ e. takes e 0 slots w n) eff
    ∙ asked q pc' rf slots w w' n v answer
    ∙ ap (λ b. cond b (with_slot slots 0 (Live pc' (rf v)) w' (last_after q n)) Spent) (lt-ltb (last_after q n) (2 ^ 32 - 1) few)

pub quits : (code : Code) (i : Instr) (pc : ℕ) (r : Regs) (w : World) (n : ℕ) → slice_get code.instrs pc ≡ Some i → effect code.formats (Some i) pc r ≡ Quits → Goes_to code (conf (Live pc r) w n) (conf Empty w n)
quits code i pc r w n at eff others =
    ap (λ o. takes (effect code.formats o pc r) 0 (Live pc r ∷ others) w n) at ∙ ap (λ e. takes e 0 (Live pc r ∷ others) w n) eff

-- an access through the pointer to the start of segment g
abbrev pub at_base : Kind → ℕ → ℕ → ℕ → Access
at_base kind g n v = record { kind = kind; place = record { seg = g; off = n }; value = v }

pub reaches_base : (kind : Kind) (w g n v pc : ℕ) (rf : ℕ → Regs) → w ≡ g * 2 ^ 32 → n < 2 ^ 32 → reaches kind w n v pc rf ≡ Asks (On (Reach (at_base kind g n v))) pc rf
reaches_base kind w g n v pc rf is lt =
    let low : w % 2 ^ 32 ≡ 0 = omega arith in
    let high : w / 2 ^ 32 ≡ g = omega arith in
    let off : 0 + n ≡ n = omega arith in
    ap (λ b. cond b (Asks (On (Reach (at_base kind (w / 2 ^ 32) (w % 2 ^ 32 + n) v))) pc rf) (Faults trap.Place)) (lt-ltb (w % 2 ^ 32 + n) (2 ^ 32) (omega (arith, low)))
    ∙ ap (λ u. Asks (On (Reach (at_base kind u (w % 2 ^ 32 + n) v))) pc rf) high
    ∙ ap (λ u. Asks (On (Reach (at_base kind g (u + n) v))) pc rf) low
    ∙ ap (λ u. Asks (On (Reach (at_base kind g u v))) pc rf) off

pub frees_base : (w g pc : ℕ) (r : Regs) → w ≡ g * 2 ^ 32 → frees w pc r ≡ Asks (On (Free g)) pc (λ v. r)
frees_base w g pc r is =
    let low : w % 2 ^ 32 ≡ 0 = omega arith in
    let high : w / 2 ^ 32 ≡ g = omega arith in
    ap (λ u. cond (u == 0) (Asks (On (Free (w / 2 ^ 32))) pc (λ v. r)) (Faults trap.Place)) low ∙ ap (λ u. Asks (On (Free u)) pc (λ v. r)) high

-- ---- the other slots have no stream

pub no_other : (code : Code) (others : List Slot) (s : ℕ) (c : Conf) → IsIdle others → step code (suc s) (state_of others c) ≡ Waits
no_other code others s c idle = at (slice_get others s) refl
  where
    at : (o : Option Slot) → slice_get others s ≡ o → step code (suc s) (state_of others c) ≡ Waits
    at None e = ap (λ o. in_slot code o (suc s) (c.slot ∷ others) c.world c.last) e
    at (Some Absent) e = ap (λ o. in_slot code o (suc s) (c.slot ∷ others) c.world c.last) e
    at (Some Empty) e = ap (λ o. in_slot code o (suc s) (c.slot ∷ others) c.world c.last) e
    at (Some (Live pc r)) e = absurd (idle s pc r e)

pub no_step : (code : Code) (others : List Slot) (c : Conf) → c.slot ≡ Empty → step code 0 (state_of others c) ≡ Waits
no_step code others c quit = ap (λ x. in_slot code (Some x) 0 (x ∷ others) c.world c.last) quit

pub all_free : (others : List Slot) (c : Conf) → c.slot ≡ Empty → IsIdle others → HasQuit (state_of others c)
all_free others c quit idle zero pc r h = let none : Some Empty ≡ Some (Live pc r) = ap Some (sym quit) ∙ h in cc
all_free others c quit idle (suc s) pc r h = idle s pc r h

-- where all has quit, the first stream makes no step
pub no_step_quit : (code : Code) (others : List Slot) (c : Conf) → HasQuit (state_of others c) → step code 0 (state_of others c) ≡ Waits
no_step_quit code others c quit = at c.slot refl
  where
    at : (x : Slot) → c.slot ≡ x → step code 0 (state_of others c) ≡ Waits
    at Absent e = ap (λ y. in_slot code (Some y) 0 (y ∷ others) c.world c.last) e
    at Empty e = no_step code others c e
    at (Live pc r) e = absurd (quit 0 pc r (ap Some e))

-- the machine as code begins, with what the other slots are
pub start_is : (code : Code) (q n : ℕ) → 1 ≤ q → 1 ≤ n
    → (others : List Slot) × IsIdle others × (start code q n ≡ state_of others (conf (Live 0 (λ x. 0)) (world_of (map cells_of code.globals)) (length code.globals)))
start_is code zero n some has = absurd (omega (arith, some))
start_is code (suc q) zero some has = absurd (omega (arith, has))
start_is code (suc zero) (suc n) some has = (replicate n Empty, λ s pc r h. free_slots_idle 1 (suc n) (suc s) pc r h, refl)
start_is code (suc (suc q)) (suc n) some has =
    (replicate n Empty ++ (replicate (slots_each - suc n) Absent ++ free_slots (suc q) (suc n)), λ s pc r h. free_slots_idle (suc (suc q)) (suc n) (suc s) pc r h, refl)
