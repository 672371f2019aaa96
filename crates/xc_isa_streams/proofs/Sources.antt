-- The source's part of the actions of a run.
use Rattle.std.proofs.Common.{◌≡◌, ℕ, zero, suc, ◌<◌, ◌≤◌, List, [], ◌∷◌, Some, refl, sym, ap, ◌∙◌, subst, arith}
use Rattle.xc_word.specs.declared.memory.Cell.{Cell}
use Rattle.xc_meaning_world.specs.World.{Segs, World, Touch, Reach, New, Free, Request, On, Print, Begin, Stop, Tick, Reply, Got, Dead, Action, put, seg_of, op}
use Rattle.xc_meaning_world.specs.Runs.{Allows, NewInTouch, NewIn, IsVacant, Applies}
use Rattle.xc_meaning_world.proofs.Numbers.{new_in}
use Rattle.xc_meaning_world.proofs.Puts.{by_same, put_other, put_at}
use Rattle.xc_isa_streams.specs.Parts.{Ask, Of, Side, Act, Parts, AllowsIn, request_of, IsAbove, up_touch, up, Serves, source_and, sources, SourcesApply}
use Rattle.xc_isa_streams.proofs.Views.{some_snd, touched_is}

-- a touch of a segment that is not live leaves it so
stays_dead : (x : Touch) (num : ℕ) (m : Segs) (h : ℕ) (a : Reply) (ys : List Cell) (n : ℕ) → ((g : ℕ) → n < g → m g ≡ []) → op x num [] ≡ Some (Dead, []) → op x num (m h) ≡ Some (a, ys) → (g : ℕ) → n < g → put m h ys g ≡ []
stays_dead x num m h a ys n high dead e g lt = by_same _ g h
    (λ is.
    let none : m h ≡ [] = ap m (sym is) ∙ high g lt in
    ap (put m h ys) is ∙ put_at m h ys ∙ some_snd (sym e ∙ ap (op x num) none ∙ dead))
    (λ ne. put_other m h g ys ne ∙ high g lt)

touch_high : (x : Touch) (num n : ℕ) (m : Segs) (a : Reply) (ys : List Cell) → NewInTouch (IsAbove n) x num → ((g : ℕ) → n < g → m g ≡ []) → op x num (m (seg_of x num)) ≡ Some (a, ys) → (g : ℕ) → up_touch x n num < g → put m (seg_of x num) ys g ≡ []
touch_high (Reach act) num n m a ys below high e g lt = stays_dead (Reach act) num m act.place.seg a ys n high refl e g lt
touch_high (New zero) num n m a ys below high e g lt = stays_dead (New zero) num m num a ys n high refl e g lt
touch_high (New (suc c)) num n m a ys below high e g lt = put_other m num g ys (λ q. omega (arith, lt, q)) ∙ high g (omega (arith, below.0, lt))
touch_high (Free h) num n m a ys below high e g lt = stays_dead (Free h) num m h a ys n high refl e g lt

source_high : (q : Request) (a : Reply) (num n : ℕ) (w w' : World) → NewIn (IsAbove n) q num → ((g : ℕ) → n < g → w.segs g ≡ []) → Allows q a num w w' → (g : ℕ) → up (Of q) n num < g → w'.segs g ≡ []
source_high (On x) a num n w w' below high h g lt =
    let t = touched_is x num w a w' h in
    ap (λ u. u.segs g) t.world ∙ touch_high x num n w.segs a t.ys below high t.op_is g lt
source_high (Print bytes) a num n w w' below high h g lt = ap (λ u. u.segs g) (sym (some_snd h)) ∙ high g lt
source_high (Begin at arg) Dead num n w w' below high h g lt = absurd h
source_high (Begin at arg) (Got v) num n w w' below high h g lt = ap (λ u. u.segs g) (sym h.0) ∙ high g lt
source_high Stop a num n w w' below high h g lt = ap (λ u. u.segs g) (sym (some_snd h)) ∙ high g lt
source_high Tick a num n w w' below high h g lt = ap (λ u. u.segs g) (sym h) ∙ high g lt

up_touch_grows : (x : Touch) (n num : ℕ) → NewInTouch (IsAbove n) x num → n ≤ up_touch x n num
up_touch_grows (Reach act) n num lt = omega arith
up_touch_grows (New zero) n num lt = omega arith
up_touch_grows (New (suc c)) n num lt = omega (arith, lt.0)
up_touch_grows (Free g) n num lt = omega arith

up_grows : (k : Ask) (n num : ℕ) → NewIn (IsAbove n) (request_of k) num → n ≤ up k n num
up_grows (Of (On x)) n num lt = up_touch_grows x n num lt
up_grows (Of (Print bytes)) n num lt = omega arith
up_grows (Of (Begin at arg)) n num lt = omega arith
up_grows (Of Stop) n num lt = omega arith
up_grows (Of Tick) n num lt = omega arith
up_grows (Side x) n num lt = up_touch_grows x n num lt

one_source : (k : Ask) (a : Reply) (i globals n num : ℕ) (p m p' : Parts) (rest : List (ℕ × Action)) → globals ≤ n → NewIn (IsAbove n) (request_of k) num → ((g : ℕ) → n < g → p.source.segs g ≡ []) → AllowsIn k a num p m → (((g : ℕ) → up k n num < g → m.source.segs g ≡ []) → Applies globals m.source rest p'.source) → Applies globals p.source (source_and i k a rest) p'.source
one_source (Of q) a i globals n num p m p' rest le lt high e go = (num, new_in (IsAbove n) (IsVacant globals p.source.segs) q num lt (λ h. (omega (arith, le, h.0), h.1, high num h.0)), m.source, e.0, go (source_high q a num n p.source m.source lt high e.0))
one_source (Side x) a i globals n num p m p' rest le lt high e go =
    subst (λ w. Applies globals w rest p'.source) (sym e.1) (go (λ g above. ap (λ (w : World). w.segs g) (sym e.1) ∙ high g (omega (arith, above, up_touch_grows x n num lt))))

applies_from : (globals n : ℕ) (p p' : Parts) (l : List (ℕ × Act)) (last : ℕ) → globals ≤ n → ((g : ℕ) → n < g → p.source.segs g ≡ []) → Serves p n l p' last → Applies globals p.source (sources l) p'.source
applies_from globals n p p' [] last le high h = ap (λ (u : Parts). u.source) h.0
applies_from globals n p p' ((i, a) ∷ l) last le high h =
    one_source a.ask a.reply i globals n h.0 p h.2 p' (sources l) le h.1 high h.3 (λ k. applies_from globals (up a.ask n h.0) h.2 p' l last (omega (arith, le, up_grows a.ask n h.0 h.1)) k h.4)

pub sources_apply : SourcesApply
sources_apply globals p p' l last high h = applies_from globals globals p p' l last (omega arith) high h
