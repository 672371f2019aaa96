-- The trace of a run begins with the actions before it.
use Rattle.std.proofs.Common.{◌≡◌, ℕ, zero, suc, List, [], ◌∷◌, ◌++◌, Option, Some, None, refl, sym, ap, ◌∙◌, append-nil, append_assoc}
use Rattle.std.specs.Prelude.{slice_get}
use Rattle.xc_word.specs.declared.memory.Cell.{Cell}
use Rattle.xc_meaning_world.specs.World.{Segs, Touch, Request, Stop, Reply, Got, Dead, put, seg_of, op}
use Rattle.xc_isa.specs.declared.code.Code.{Code}
use Rattle.xc_isa.specs.Effects.{Regs, Effect, Goes, Asks, Faults, Quits, effect}
use Rattle.xc_isa_streams.specs.Class.{Class, Source, Private, Shared, in_place}
use Rattle.xc_isa_streams.specs.Parts.{Ask, Of, Side, Act, act}
use Rattle.xc_isa_streams.specs.Local.{Own, own_of, Next, asked, stopped, num_after, hid, touch_of, privately, shared, asks, does, local, end_trace}

abbrev pub Grows : List Act → List Act → Type 0
Grows t u = (rest : List Act) × (u ≡ t ++ rest)

grows_same : (t : List Act) → Grows t t
grows_same t = ([], sym (append-nil t))

grows_one : (t : List Act) (a : Act) (u : List Act) → Grows (t ++ a ∷ []) u → Grows t u
grows_one t a u g = (a ∷ g.0, g.1 ∙ append_assoc t (a ∷ []) g.0)

abbrev AllGrow : Next → Type 0
AllGrow f = (pc : ℕ) (r : Regs) (o : Own) (rs : List Reply) (t : List Act) → Grows t (end_trace (f pc r o rs t))

hid_grows : (f : Next) → AllGrow f → (u : Option (Reply × List Cell)) (h : ℕ) (nums : ℕ → ℕ) (p : Segs) (pc : ℕ) (rf : ℕ → Regs) (rs : List Reply) (t : List Act) → Grows t (end_trace (hid u h nums p pc rf f rs t))
hid_grows f g None h nums p pc rf rs t = grows_same t
hid_grows f g (Some (Dead, xs)) h nums p pc rf rs t = grows_same t
hid_grows f g (Some (Got v, xs)) h nums p pc rf rs t = g pc (rf v) _ rs t

asked_grows : (f : Next) → AllGrow f → (k : Ask) (pc : ℕ) (rf : ℕ → Regs) (o : Own) (rs : List Reply) (t : List Act) → Grows t (end_trace (asked k pc rf f o rs t))
asked_grows f g k pc rf o [] t = grows_same t
asked_grows f g k pc rf o (Dead ∷ rs) t = (act k Dead ∷ [], refl)
asked_grows f g k pc rf o (Got v ∷ rs) t = grows_one t (act k (Got v)) _ (g pc (rf v) o rs (t ++ act k (Got v) ∷ []))

privately_grows : (f : Next) → AllGrow f → (y : Option Touch) (pc : ℕ) (rf : ℕ → Regs) (o : Own) (rs : List Reply) (t : List Act) → Grows t (end_trace (privately y pc rf f o rs t))
privately_grows f g None pc rf o rs t = grows_same t
privately_grows f g (Some y) pc rf o rs t = hid_grows f g (op y (o.num 0) (o.priv (seg_of y (o.num 0)))) (seg_of y (o.num 0)) (num_after y o.num) o.priv pc rf rs t

shared_grows : (f : Next) → AllGrow f → (y : Option Touch) (pc : ℕ) (rf : ℕ → Regs) (o : Own) (rs : List Reply) (t : List Act) → Grows t (end_trace (shared y pc rf f o rs t))
shared_grows f g None pc rf o rs t = grows_same t
shared_grows f g (Some y) pc rf o rs t = asked_grows f g (Side y) pc rf o rs t

asks_grows : (f : Next) → AllGrow f → (c : Class) (q : Request) (pc : ℕ) (rf : ℕ → Regs) (o : Own) (rs : List Reply) (t : List Act) → Grows t (end_trace (asks c q pc rf f o rs t))
asks_grows f g Source q pc rf o rs t = asked_grows f g (Of q) pc rf o rs t
asks_grows f g Private q pc rf o rs t = privately_grows f g (touch_of q) pc rf o rs t
asks_grows f g Shared q pc rf o rs t = shared_grows f g (touch_of q) pc rf o rs t

stopped_grows : (rs : List Reply) (t : List Act) → Grows t (end_trace (stopped rs t))
stopped_grows [] t = grows_same t
stopped_grows (a ∷ rs) t = (act (Of Stop) a ∷ [], refl)

does_grows : (f : Next) → AllGrow f → (c : Class) (e : Effect) (o : Own) (rs : List Reply) (t : List Act) → Grows t (end_trace (does c e f o rs t))
does_grows f g c (Goes pc r) o rs t = g pc r o rs t
does_grows f g c (Asks q pc rf) o rs t = asks_grows f g c q pc rf o rs t
does_grows f g c (Faults kind) o rs t = stopped_grows rs t
does_grows f g c Quits o rs t = grows_same t

pub local_grows : (of : ℕ → Class) (code : Code) (m : ℕ) → AllGrow (local of code m)
local_grows of code zero pc r o rs t = grows_same t
local_grows of code (suc m) pc r o rs t = does_grows (local of code m) (local_grows of code m) (in_place of (slice_get code.instrs pc)) (effect code.formats (slice_get code.instrs pc) pc r) o rs t

-- lists with the same front
pub same_rest : (t u v : List Act) → t ++ u ≡ t ++ v → u ≡ v
same_rest [] u v e = e
same_rest (a ∷ t) u v e = same_rest t u v (ap tail_of e)
  where
    tail_of : List Act → List Act
    tail_of [] = []
    tail_of (a ∷ t) = t

pub heads : (a b : Act) (u v : List Act) → ◌≡◌ {A = List Act} (a ∷ u) (b ∷ v) → (a ≡ b) × (u ≡ v)
heads a b u v e = (ap (λ (l : List Act). head_of l) e, ap (λ (l : List Act). tail_of l) e)
  where
    head_of : List Act → Act
    head_of [] = a
    head_of (x ∷ l) = x

    tail_of : List Act → List Act
    tail_of [] = u
    tail_of (x ∷ l) = l
