-- What steps weigh: more steps weigh no less; and where each weighs 1, they are counted.
use Rattle.std.proofs.Common.{◌≡◌, ℕ, zero, suc, ◌+◌, ◌<◌, ◌≤◌, List, [], ◌∷◌, ◌++◌, Option, Some, None, refl, sym, ap, ◌∙◌, subst, arith}
use Rattle.std.specs.Prelude.{slice_get}
use Rattle.xc_word.specs.declared.memory.Cell.{Cell}
use Rattle.xc_meaning_world.specs.World.{Segs, Touch, Request, Reply, Got, Dead, put, seg_of, op}
use Rattle.xc_isa.specs.declared.code.Code.{Code}
use Rattle.xc_isa.specs.Effects.{Regs, Effect, Goes, Asks, Faults, Quits, effect}
use Rattle.xc_isa_streams.specs.Class.{Class, Source, Private, Shared, in_place}
use Rattle.xc_isa_streams.specs.Parts.{Ask, Of, Side, Act, act}
use Rattle.xc_isa_streams.specs.Local.{Own, own_of, first_own, Next, asked, stopped, num_after, hid, touch_of, privately, shared, asks, does, local, local_from, IsOver}
use Rattle.xc_isa_streams_protocols.specs.Weights.{Sum, sum_asked, sum_hid, sum_privately, sum_shared, sum_asks, sum_does, tally, tally_from, by_steps}
use Rattle.xc_isa_streams_protocols.specs.Protocol.{StepsAreCounted}

abbrev Below : Sum → Sum → Type 0
Below f g = (pc : ℕ) (r : Regs) (o : Own) (rs : List Reply) → f pc r o rs ≤ g pc r o rs

asked_below : (f g : Sum) → Below f g → (pc : ℕ) (rf : ℕ → Regs) (o : Own) (rs : List Reply) → sum_asked pc rf f o rs ≤ sum_asked pc rf g o rs
asked_below f g le pc rf o [] = omega arith
asked_below f g le pc rf o (Dead ∷ rs) = omega arith
asked_below f g le pc rf o (Got v ∷ rs) = le pc (rf v) o rs

hid_below : (f g : Sum) → Below f g → (u : Option (Reply × List Cell)) (h : ℕ) (nums : ℕ → ℕ) (p : Segs) (pc : ℕ) (rf : ℕ → Regs) (rs : List Reply) → sum_hid u h nums p pc rf f rs ≤ sum_hid u h nums p pc rf g rs
hid_below f g le None h nums p pc rf rs = omega arith
hid_below f g le (Some (Dead, xs)) h nums p pc rf rs = omega arith
hid_below f g le (Some (Got v, xs)) h nums p pc rf rs = le pc (rf v) _ rs

privately_below : (f g : Sum) → Below f g → (y : Option Touch) (pc : ℕ) (rf : ℕ → Regs) (o : Own) (rs : List Reply) → sum_privately y pc rf f o rs ≤ sum_privately y pc rf g o rs
privately_below f g le None pc rf o rs = omega arith
privately_below f g le (Some y) pc rf o rs = hid_below f g le (op y (o.num 0) (o.priv (seg_of y (o.num 0)))) (seg_of y (o.num 0)) (num_after y o.num) o.priv pc rf rs

shared_below : (f g : Sum) → Below f g → (y : Option Touch) (pc : ℕ) (rf : ℕ → Regs) (o : Own) (rs : List Reply) → sum_shared y pc rf f o rs ≤ sum_shared y pc rf g o rs
shared_below f g le None pc rf o rs = omega arith
shared_below f g le (Some y) pc rf o rs = asked_below f g le pc rf o rs

asks_below : (f g : Sum) → Below f g → (c : Class) (q : Request) (pc : ℕ) (rf : ℕ → Regs) (o : Own) (rs : List Reply) → sum_asks c q pc rf f o rs ≤ sum_asks c q pc rf g o rs
asks_below f g le Source q pc rf o rs = asked_below f g le pc rf o rs
asks_below f g le Private q pc rf o rs = privately_below f g le (touch_of q) pc rf o rs
asks_below f g le Shared q pc rf o rs = shared_below f g le (touch_of q) pc rf o rs

does_below : (f g : Sum) → Below f g → (c : Class) (e : Effect) (o : Own) (rs : List Reply) → sum_does c e f o rs ≤ sum_does c e g o rs
does_below f g le c (Goes pc r) o rs = le pc r o rs
does_below f g le c (Asks q pc rf) o rs = asks_below f g le c q pc rf o rs
does_below f g le c (Faults kind) o rs = omega arith
does_below f g le c Quits o rs = omega arith

-- more steps weigh no less
pub tally_more : (weight : ℕ → ℕ) (of : ℕ → Class) (code : Code) (m n : ℕ) → m ≤ n → Below (tally weight of code m) (tally weight of code n)
tally_more weight of code zero n le pc r o rs = omega arith
tally_more weight of code (suc m) zero le pc r o rs = absurd (omega (arith, le))
tally_more weight of code (suc m) (suc n) le pc r o rs =
    let h = does_below (tally weight of code m) (tally weight of code n) (tally_more weight of code m n (omega (arith, le))) (in_place of (slice_get code.instrs pc)) (effect code.formats (slice_get code.instrs pc) pc r) o rs in
    omega (arith, h)

-- ---- steps that weigh 1

-- f weighs m, where none of the first m runs from there is over
abbrev Counts : (ℕ → Next) → Sum → ℕ → Type 0
Counts f g m = (pc : ℕ) (r : Regs) (o : Own) (rs : List Reply) (t : List Act) → ((j : ℕ) → j < m → IsOver (f j pc r o rs t) → ⊥) → g pc r o rs ≡ m

-- a run that is over after any number of steps
none_left : (m : ℕ) → ((j : ℕ) → j < m → ⊥) → 0 ≡ m
none_left zero h = refl
none_left (suc m) h = absurd (h 0 (omega arith))

asked_counts : (f : ℕ → Next) (g : Sum) (m : ℕ) → Counts f g m → (k : Ask) (pc : ℕ) (rf : ℕ → Regs) (o : Own) (rs : List Reply) (t : List Act) → ((j : ℕ) → j < m → IsOver (asked k pc rf (f j) o rs t) → ⊥) → sum_asked pc rf g o rs ≡ m
asked_counts f g m c k pc rf o [] t h = none_left m (λ j lt. h j lt tt)
asked_counts f g m c k pc rf o (Dead ∷ rs) t h = none_left m (λ j lt. h j lt tt)
asked_counts f g m c k pc rf o (Got v ∷ rs) t h = c pc (rf v) o rs (t ++ act k (Got v) ∷ []) h

hid_counts : (f : ℕ → Next) (g : Sum) (m : ℕ) → Counts f g m → (u : Option (Reply × List Cell)) (i : ℕ) (nums : ℕ → ℕ) (p : Segs) (pc : ℕ) (rf : ℕ → Regs) (rs : List Reply) (t : List Act) → ((j : ℕ) → j < m → IsOver (hid u i nums p pc rf (f j) rs t) → ⊥) → sum_hid u i nums p pc rf g rs ≡ m
hid_counts f g m c None i nums p pc rf rs t h = none_left m (λ j lt. h j lt tt)
hid_counts f g m c (Some (Dead, xs)) i nums p pc rf rs t h = none_left m (λ j lt. h j lt tt)
hid_counts f g m c (Some (Got v, xs)) i nums p pc rf rs t h = c pc (rf v) _ rs t h

privately_counts : (f : ℕ → Next) (g : Sum) (m : ℕ) → Counts f g m → (y : Option Touch) (pc : ℕ) (rf : ℕ → Regs) (o : Own) (rs : List Reply) (t : List Act) → ((j : ℕ) → j < m → IsOver (privately y pc rf (f j) o rs t) → ⊥) → sum_privately y pc rf g o rs ≡ m
privately_counts f g m c None pc rf o rs t h = none_left m (λ j lt. h j lt tt)
privately_counts f g m c (Some y) pc rf o rs t h = hid_counts f g m c (op y (o.num 0) (o.priv (seg_of y (o.num 0)))) (seg_of y (o.num 0)) (num_after y o.num) o.priv pc rf rs t h

shared_counts : (f : ℕ → Next) (g : Sum) (m : ℕ) → Counts f g m → (y : Option Touch) (pc : ℕ) (rf : ℕ → Regs) (o : Own) (rs : List Reply) (t : List Act) → ((j : ℕ) → j < m → IsOver (shared y pc rf (f j) o rs t) → ⊥) → sum_shared y pc rf g o rs ≡ m
shared_counts f g m c None pc rf o rs t h = none_left m (λ j lt. h j lt tt)
shared_counts f g m c (Some y) pc rf o rs t h = asked_counts f g m c (Side y) pc rf o rs t h

asks_counts : (f : ℕ → Next) (g : Sum) (m : ℕ) → Counts f g m → (d : Class) (q : Request) (pc : ℕ) (rf : ℕ → Regs) (o : Own) (rs : List Reply) (t : List Act) → ((j : ℕ) → j < m → IsOver (asks d q pc rf (f j) o rs t) → ⊥) → sum_asks d q pc rf g o rs ≡ m
asks_counts f g m c Source q pc rf o rs t h = asked_counts f g m c (Of q) pc rf o rs t h
asks_counts f g m c Private q pc rf o rs t h = privately_counts f g m c (touch_of q) pc rf o rs t h
asks_counts f g m c Shared q pc rf o rs t h = shared_counts f g m c (touch_of q) pc rf o rs t h

stopped_counts : (m : ℕ) (rs : List Reply) (t : List Act) → ((j : ℕ) → j < m → IsOver (stopped rs t) → ⊥) → 0 ≡ m
stopped_counts m [] t h = none_left m (λ j lt. h j lt tt)
stopped_counts m (a ∷ rs) t h = none_left m (λ j lt. h j lt tt)

does_counts : (f : ℕ → Next) (g : Sum) (m : ℕ) → Counts f g m → (d : Class) (e : Effect) (o : Own) (rs : List Reply) (t : List Act) → ((j : ℕ) → j < m → IsOver (does d e (f j) o rs t) → ⊥) → sum_does d e g o rs ≡ m
does_counts f g m c d (Goes pc r) o rs t h = c pc r o rs t h
does_counts f g m c d (Asks q pc rf) o rs t h = asks_counts f g m c d q pc rf o rs t h
does_counts f g m c d (Faults kind) o rs t h = stopped_counts m rs t h
does_counts f g m c d Quits o rs t h = none_left m (λ j lt. h j lt tt)

counts : (of : ℕ → Class) (code : Code) (m : ℕ) → Counts (local of code) (tally by_steps of code m) m
counts of code zero pc r o rs t h = refl
counts of code (suc m) pc r o rs t h =
    let e = does_counts (local of code) (tally by_steps of code m) m (counts of code m) (in_place of (slice_get code.instrs pc)) (effect code.formats (slice_get code.instrs pc) pc r) o rs t (λ j lt over. h (suc j) (omega (arith, lt)) over) in
    omega (arith, e)

pub steps_counted : (of : ℕ → Class) (code : Code) → StepsAreCounted of code
steps_counted of code m at arg num rs busy = counts of code m at (put (λ x. 0) 1 arg) (first_own num) rs [] busy
