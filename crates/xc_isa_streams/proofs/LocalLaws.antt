-- A stream alone: more steps change nothing of a run that is over, and without replies there are no actions.
use Rattle.std.proofs.Common.{◌≡◌, ℕ, zero, suc, ◌≤◌, List, [], ◌∷◌, ◌++◌, Option, Some, None, refl, sym, subst, arith}
use Rattle.std.specs.Prelude.{slice_get}
use Rattle.xc_word.specs.declared.memory.Cell.{Cell}
use Rattle.xc_meaning_world.specs.World.{Segs, Touch, Request, Reply, Got, Dead, seg_of, op}
use Rattle.xc_isa.specs.declared.code.Code.{Code}
use Rattle.xc_isa.specs.Effects.{Regs, Effect, Goes, Asks, Faults, Quits, effect}
use Rattle.xc_isa_streams.specs.Class.{Class, Source, Private, Shared, in_place}
use Rattle.xc_isa_streams.specs.Parts.{Ask, Of, Side, Act, act}
use Rattle.xc_isa_streams.specs.Local.{End, Own, Next, asked, num_after, hid, touch_of, privately, shared, asks, does, local, end_trace, IsOver}

abbrev pub Extends : Next → Next → Type 0
Extends f g = (pc : ℕ) (r : Regs) (o : Own) (rs : List Reply) (t : List Act) (x : End) → IsOver x → f pc r o rs t ≡ x → g pc r o rs t ≡ x

hid_extends : (f g : Next) → Extends f g → (u : Option (Reply × List Cell)) (h : ℕ) (nums : ℕ → ℕ) (p : Segs) (pc : ℕ) (rf : ℕ → Regs) (rs : List Reply) (t : List Act) (x : End) → IsOver x → hid u h nums p pc rf f rs t ≡ x → hid u h nums p pc rf g rs t ≡ x
hid_extends f g ext None h nums p pc rf rs t x over e = e
hid_extends f g ext (Some (Dead, xs)) h nums p pc rf rs t x over e = e
hid_extends f g ext (Some (Got v, xs)) h nums p pc rf rs t x over e = ext pc (rf v) _ rs t x over e

asked_extends : (f g : Next) → Extends f g → (k : Ask) (pc : ℕ) (rf : ℕ → Regs) (o : Own) (rs : List Reply) (t : List Act) (x : End) → IsOver x → asked k pc rf f o rs t ≡ x → asked k pc rf g o rs t ≡ x
asked_extends f g h k pc rf o [] t x over e = e
asked_extends f g h k pc rf o (Dead ∷ rs) t x over e = e
asked_extends f g h k pc rf o (Got v ∷ rs) t x over e = h pc (rf v) o rs (t ++ act k (Got v) ∷ []) x over e

privately_extends : (f g : Next) → Extends f g → (y : Option Touch) (pc : ℕ) (rf : ℕ → Regs) (o : Own) (rs : List Reply) (t : List Act) (x : End) → IsOver x → privately y pc rf f o rs t ≡ x → privately y pc rf g o rs t ≡ x
privately_extends f g h None pc rf o rs t x over e = e
privately_extends f g h (Some y) pc rf o rs t x over e = hid_extends f g h (op y (o.num 0) (o.priv (seg_of y (o.num 0)))) (seg_of y (o.num 0)) (num_after y o.num) o.priv pc rf rs t x over e

shared_extends : (f g : Next) → Extends f g → (y : Option Touch) (pc : ℕ) (rf : ℕ → Regs) (o : Own) (rs : List Reply) (t : List Act) (x : End) → IsOver x → shared y pc rf f o rs t ≡ x → shared y pc rf g o rs t ≡ x
shared_extends f g h None pc rf o rs t x over e = e
shared_extends f g h (Some y) pc rf o rs t x over e = asked_extends f g h (Side y) pc rf o rs t x over e

asks_extends : (f g : Next) → Extends f g → (c : Class) (q : Request) (pc : ℕ) (rf : ℕ → Regs) (o : Own) (rs : List Reply) (t : List Act) (x : End) → IsOver x → asks c q pc rf f o rs t ≡ x → asks c q pc rf g o rs t ≡ x
asks_extends f g h Source q pc rf o rs t x over e = asked_extends f g h (Of q) pc rf o rs t x over e
asks_extends f g h Private q pc rf o rs t x over e = privately_extends f g h (touch_of q) pc rf o rs t x over e
asks_extends f g h Shared q pc rf o rs t x over e = shared_extends f g h (touch_of q) pc rf o rs t x over e

does_extends : (f g : Next) → Extends f g → (c : Class) (e : Effect) (o : Own) (rs : List Reply) (t : List Act) (x : End) → IsOver x → does c e f o rs t ≡ x → does c e g o rs t ≡ x
does_extends f g h c (Goes pc r) o rs t x over e = h pc r o rs t x over e
does_extends f g h c (Asks q pc rf) o rs t x over e = asks_extends f g h c q pc rf o rs t x over e
does_extends f g h c (Faults kind) o rs t x over e = e
does_extends f g h c Quits o rs t x over e = e

-- more steps change nothing of a run that is over
pub longer : (of : ℕ → Class) (code : Code) (m n : ℕ) → m ≤ n → Extends (local of code m) (local of code n)
longer of code zero n le pc r o rs t x over e = absurd (subst IsOver (sym e) over)
longer of code (suc m) zero le pc r o rs t x over e = absurd (omega arith)
longer of code (suc m) (suc n) le pc r o rs t x over e =
    does_extends (local of code m) (local of code n) (longer of code m n (omega arith)) (in_place of (slice_get code.instrs pc)) (effect code.formats (slice_get code.instrs pc) pc r) o rs t x over e

-- with no reply there is no action
abbrev Quiet : Next → Type 0
Quiet f = (pc : ℕ) (r : Regs) (o : Own) (t : List Act) → end_trace (f pc r o [] t) ≡ t

hid_none : (f : Next) → Quiet f → (u : Option (Reply × List Cell)) (h : ℕ) (nums : ℕ → ℕ) (p : Segs) (pc : ℕ) (rf : ℕ → Regs) (t : List Act) → end_trace (hid u h nums p pc rf f [] t) ≡ t
hid_none f q None h nums p pc rf t = refl
hid_none f q (Some (Dead, xs)) h nums p pc rf t = refl
hid_none f q (Some (Got v, xs)) h nums p pc rf t = q pc (rf v) _ t

privately_none : (f : Next) → Quiet f → (y : Option Touch) (pc : ℕ) (rf : ℕ → Regs) (o : Own) (t : List Act) → end_trace (privately y pc rf f o [] t) ≡ t
privately_none f h None pc rf o t = refl
privately_none f h (Some y) pc rf o t = hid_none f h (op y (o.num 0) (o.priv (seg_of y (o.num 0)))) (seg_of y (o.num 0)) (num_after y o.num) o.priv pc rf t

shared_none : (f : Next) (y : Option Touch) (pc : ℕ) (rf : ℕ → Regs) (o : Own) (t : List Act) → end_trace (shared y pc rf f o [] t) ≡ t
shared_none f None pc rf o t = refl
shared_none f (Some y) pc rf o t = refl

asks_none : (f : Next) → Quiet f → (c : Class) (q : Request) (pc : ℕ) (rf : ℕ → Regs) (o : Own) (t : List Act) → end_trace (asks c q pc rf f o [] t) ≡ t
asks_none f h Source q pc rf o t = refl
asks_none f h Private q pc rf o t = privately_none f h (touch_of q) pc rf o t
asks_none f h Shared q pc rf o t = shared_none f (touch_of q) pc rf o t

does_none : (f : Next) → Quiet f → (c : Class) (e : Effect) (o : Own) (t : List Act) → end_trace (does c e f o [] t) ≡ t
does_none f h c (Goes pc r) o t = h pc r o t
does_none f h c (Asks q pc rf) o t = asks_none f h c q pc rf o t
does_none f h c (Faults kind) o t = refl
does_none f h c Quits o t = refl

pub no_reply : (of : ℕ → Class) (code : Code) (k pc : ℕ) (r : Regs) (o : Own) (t : List Act) → end_trace (local of code k pc r o [] t) ≡ t
no_reply of code zero pc r o t = refl
no_reply of code (suc k) pc r o t = does_none (local of code k) (no_reply of code k) (in_place of (slice_get code.instrs pc)) (effect code.formats (slice_get code.instrs pc) pc r) o t
