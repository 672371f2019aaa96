-- The small code meets what the theorem asks.
use Rattle.std.proofs.Common.{◌≡◌, ℕ, zero, suc, ◌+◌, ◌*◌, ◌^◌, ◌≤◌, List, [], ◌∷◌, ◌++◌, Bool, true, false, cond, refl, sym, ap, ◌∙◌, subst, arith, inl, inr}
use Rattle.std.specs.Prelude.{nat_lt, ◌==◌, slice_get}
use Rattle.xc_word.specs.declared.memory.Cell.{Cell}
use Rattle.xc_word.specs.declared.memory.Kind.{Kind}
use Rattle.xc_word.specs.declared.memory.Kind.TheVariants.{ReadXx, WriteXf}
use Rattle.xc_word.specs.Cells.{fresh}
use Rattle.xc_meaning_world.specs.World.{Reach, New, Free, On, Print, Begin, Stop, Tick, Reply, Got, Dead, put, op}
use Rattle.xc_meaning_world.specs.Runs.{part_of}
use Rattle.xc_meaning_world.proofs.Puts.{put_at}
use Rattle.xc_isa.specs.declared.code.Code.{Code}
use Rattle.xc_isa.specs.declared.instr.TrapKind.TheVariants as trap
use Rattle.xc_isa.specs.Effects.{Regs, Asks, Faults, reaches, frees, effect}
use Rattle.xc_isa.specs.Words.{segment_of, offset_of}
use Rattle.xc_isa.proofs.Follows.{at_base, reaches_base, frees_base}
use Rattle.xc_isa_streams.specs.Class.{Source, Private, in_place}
use Rattle.xc_isa_streams.specs.Parts.{Ask, Of, Side, Act, act, FairTouch, Fair}
use Rattle.xc_isa_streams.specs.Local.{End, Ended, Fault, Short, Going, Bad, Own, own_of, hid, does, local, local_from, end_trace, replies_of}
use Rattle.xc_isa_streams.specs.Promises.{globals_of, CanStart, NeverBad, AsksNext, AlwaysFair, RunsStand}
use Rattle.xc_isa_streams.proofs.Stand.{stand, never_bad_owns}
use Rattle.xc_isa_streams.specs.TwoStreams.{by_frame, two_streams_code}

-- what is asked is of global 1, or no touch
abbrev IsPlain : Ask → Type 0
IsPlain (Of (On x)) = FairTouch (λ g. g ≤ 1) x
IsPlain (Of (Print bytes)) = Unit {0}
IsPlain (Of (Begin at arg)) = Unit {0}
IsPlain (Of Stop) = Unit {0}
IsPlain (Of Tick) = Unit {0}
IsPlain (Side x) = ⊥

abbrev ArePlain : List Act → Type 0
ArePlain [] = Unit {0}
ArePlain (a ∷ t) = IsPlain a.ask × ArePlain t

plain_more : (t : List Act) (k : Ask) (a : Reply) → ArePlain t → IsPlain k → ArePlain (t ++ act k a ∷ [])
plain_more [] k a h p = (p, tt)
plain_more (b ∷ t) k a h p = (h.0, plain_more t k a h.1 p)

plain_last : (t : List Act) (k : Ask) (a : Reply) → ArePlain (t ++ act k a ∷ []) → IsPlain k
plain_last [] k a h = h.0
plain_last (b ∷ t) k a h = plain_last t k a h.1

-- it is not bad, and its actions are plain
abbrev IsGood : End → Type 0
IsGood (Ended rs t) = ArePlain t
IsGood (Fault t) = ArePlain t
IsGood (Short t) = ArePlain t
IsGood (Going t) = ArePlain t
IsGood (Bad t) = ⊥

good_trace : (e : End) → IsGood e → ArePlain (end_trace e)
good_trace (Ended rs t) h = h
good_trace (Fault t) h = h
good_trace (Short t) h = h
good_trace (Going t) h = h
good_trace (Bad t) h = absurd h

module _ (code : Code) (instrs : code.instrs ≡ two_streams_code) (globals : globals_of code ≡ 1) where
  -- from a position on
  abbrev IsGoodAt : ℕ → ℕ → Regs → Own → List Reply → Type 0
  IsGoodAt m pc r o rs = (t : List Act) → ArePlain t → IsGood (local by_frame code m pc r o rs t)

  step : (m pc : ℕ) (r : Regs) (o : Own) (rs : List Reply) → ((t : List Act) → ArePlain t → IsGood (does (in_place by_frame (slice_get two_streams_code pc)) (effect code.formats (slice_get two_streams_code pc) pc r) (local by_frame code m) o rs t)) → IsGoodAt (suc m) pc r o rs
  step m pc r o rs h t plain = subst (λ is. IsGood (does (in_place by_frame (slice_get is pc)) (effect code.formats (slice_get is pc) pc r) (local by_frame code m) o rs t)) (sym instrs) (h t plain)

  good9 : (m : ℕ) (r : Regs) (o : Own) (rs : List Reply) → IsGoodAt m 9 r o rs
  good9 zero r o rs = λ t plain. plain
  good9 (suc m) r o rs = step m 9 r o rs (λ t plain. plain)

  -- an access to global 1
  good8 : (m : ℕ) (r : Regs) (o : Own) (rs : List Reply) → r 2 ≡ 1 * 2 ^ 32 → IsGoodAt m 8 r o rs
  good8 zero r o rs at = λ t plain. plain
  good8 (suc m) r o rs at = step m 8 r o rs (λ t plain. subst (λ e. IsGood (does Source e (local by_frame code m) o rs t)) (sym (reaches_base WriteXf (r 2) 1 0 (r 24) 9 (λ v. r) at (omega arith))) (asked rs t plain))
    where
      asked : (rs : List Reply) (t : List Act) → ArePlain t → IsGood (does Source (Asks (On (Reach (at_base WriteXf 1 0 (r 24)))) 9 (λ v. r)) (local by_frame code m) o rs t)
      asked [] t plain = plain
      asked (Dead ∷ rs) t plain = plain_more t (Of (On (Reach (at_base WriteXf 1 0 (r 24))))) Dead plain (omega arith)
      asked (Got v ∷ rs) t plain = good9 m r o rs (t ++ act (Of (On (Reach (at_base WriteXf 1 0 (r 24))))) (Got v) ∷ []) (plain_more t (Of (On (Reach (at_base WriteXf 1 0 (r 24))))) (Got v) plain (omega arith))

  good7 : (m : ℕ) (r : Regs) (o : Own) (rs : List Reply) → IsGoodAt m 7 r o rs
  good7 zero r o rs = λ t plain. plain
  good7 (suc m) r o rs = step m 7 r o rs (λ t plain. good8 m (put r 2 (2 ^ 32)) o rs (omega arith) t plain)

  -- the frame is segment g, of one cell
  abbrev HasFrame : Regs → Own → Type 0
  HasFrame r o = (g : ℕ) × (c : Cell) × (r 23 ≡ g * 2 ^ 32) × (o.priv g ≡ c ∷ [])

  good6 : (m : ℕ) (r : Regs) (o : Own) (rs : List Reply) → HasFrame r o → IsGoodAt m 6 r o rs
  good6 zero r o rs f = λ t plain. plain
  good6 (suc m) r o rs f = step m 6 r o rs (λ t plain.
      subst (λ e. IsGood (does Private e (local by_frame code m) o rs t)) (sym (frees_base (r 23) f.0 7 r f.2))
      (subst (λ xs. IsGood (hid (op (Free f.0) (o.num 0) xs) f.0 o.num o.priv 7 (λ v. r) (local by_frame code m) rs t)) (sym f.3)
      (good7 m r (own_of o.num (put o.priv f.0 [])) rs t plain)))

  good5 : (m : ℕ) (r : Regs) (o : Own) (rs : List Reply) → HasFrame r o → IsGoodAt m 5 r o rs
  good5 zero r o rs f = λ t plain. plain
  good5 (suc m) r o rs f = step m 5 r o rs (λ t plain.
      subst (λ e. IsGood (does Private e (local by_frame code m) o rs t)) (sym (reaches_base ReadXx (r 23) f.0 0 0 6 (λ v. put r 24 v) f.2 (omega arith)))
      (subst (λ xs. IsGood (hid (op (Reach (at_base ReadXx f.0 0 0)) (o.num 0) xs) f.0 o.num o.priv 6 (λ v. put r 24 v) (local by_frame code m) rs t)) (sym f.3)
      (good6 m (put r 24 f.1.value) (own_of o.num (put o.priv f.0 (f.1 ∷ []))) rs (f.0, f.1, f.2, put_at o.priv f.0 (f.1 ∷ [])) t plain)))

  good4 : (m : ℕ) (r : Regs) (o : Own) (rs : List Reply) → HasFrame r o → IsGoodAt m 4 r o rs
  good4 zero r o rs f = λ t plain. plain
  good4 (suc m) r o rs f = step m 4 r o rs (λ t plain.
      subst (λ e. IsGood (does Private e (local by_frame code m) o rs t)) (sym (reaches_base WriteXf (r 23) f.0 0 (r 1) 5 (λ v. r) f.2 (omega arith)))
      (subst (λ xs. IsGood (hid (op (Reach (at_base WriteXf f.0 0 (r 1))) (o.num 0) xs) f.0 o.num o.priv 5 (λ v. r) (local by_frame code m) rs t)) (sym f.3)
      (good5 m r (own_of o.num (put o.priv f.0 (record { value = r 1; full = true } ∷ []))) rs (f.0, record { value = r 1; full = true }, f.2, put_at o.priv f.0 (record { value = r 1; full = true } ∷ [])) t plain)))

  good3 : (m : ℕ) (r : Regs) (o : Own) (rs : List Reply) → r 2 ≡ 1 → IsGoodAt m 3 r o rs
  good3 zero r o rs one = λ t plain. plain
  good3 (suc m) r o rs one = step m 3 r o rs (λ t plain.
      subst (λ n. IsGood (hid (op (New n) (o.num 0) (o.priv (o.num 0))) (o.num 0) (λ i. o.num (suc i)) o.priv 4 (λ v. put r 23 v) (local by_frame code m) rs t)) (sym one)
      (good4 m (put r 23 (o.num 0 * 2 ^ 32)) (own_of (λ i. o.num (suc i)) (put o.priv (o.num 0) (fresh ∷ []))) rs (o.num 0, fresh, refl, put_at o.priv (o.num 0) (fresh ∷ [])) t plain))

  good2 : (m : ℕ) (r : Regs) (o : Own) (rs : List Reply) → IsGoodAt m 2 r o rs
  good2 zero r o rs = λ t plain. plain
  good2 (suc m) r o rs = step m 2 r o rs (λ t plain. good3 m (put r 2 1) o rs refl t plain)

  good1 : (m : ℕ) (r : Regs) (o : Own) (rs : List Reply) → IsGoodAt m 1 r o rs
  good1 zero r o rs = λ t plain. plain
  good1 (suc m) r o rs = step m 1 r o rs (asked rs)
    where
      asked : (rs : List Reply) (t : List Act) → ArePlain t → IsGood (does Source (Asks (Begin 2 (r 1)) 2 (λ v. put r 2 v)) (local by_frame code m) o rs t)
      asked [] t plain = plain
      asked (Dead ∷ rs) t plain = plain_more t (Of (Begin 2 (r 1))) Dead plain tt
      asked (Got v ∷ rs) t plain = good2 m (put r 2 v) o rs (t ++ act (Of (Begin 2 (r 1))) (Got v) ∷ []) (plain_more t (Of (Begin 2 (r 1))) (Got v) plain tt)

  good0 : (m : ℕ) (r : Regs) (o : Own) (rs : List Reply) → IsGoodAt m 0 r o rs
  good0 zero r o rs = λ t plain. plain
  good0 (suc m) r o rs = step m 0 r o rs (λ t plain. good1 m (put r 1 7) o rs t plain)

  -- ---- threads begin at 0 and at 2

  reaches_no_start : (kind : Kind) (w n v pc : ℕ) (rf : ℕ → Regs) (at arg next : ℕ) (rf' : ℕ → Regs) → reaches kind w n v pc rf ≡ Asks (Begin at arg) next rf' → ⊥
  reaches_no_start kind w n v pc rf at arg next rf' = split (nat_lt (offset_of w + n) (2 ^ 32))
    where
      split : (b : Bool) → cond b (Asks (On (Reach (record { kind = kind; place = record { seg = segment_of w; off = offset_of w + n }; value = v }))) pc rf) (Faults trap.Place) ≡ Asks (Begin at arg) next rf' → ⊥
      split true e = cc
      split false e = cc

  frees_no_start : (w pc : ℕ) (r : Regs) (at arg next : ℕ) (rf' : ℕ → Regs) → frees w pc r ≡ Asks (Begin at arg) next rf' → ⊥
  frees_no_start w pc r at arg next rf' = split (offset_of w == 0)
    where
      split : (b : Bool) → cond b (Asks (On (Free (segment_of w))) pc (λ v. r)) (Faults trap.Place) ≡ Asks (Begin at arg) next rf' → ⊥
      split true e = cc
      split false e = cc

  begins_at : (pc : ℕ) (r : Regs) (at arg next : ℕ) (rf : ℕ → Regs) → effect code.formats (slice_get two_streams_code pc) pc r ≡ Asks (Begin at arg) next rf → at ≡ 2
  begins_at zero r at arg next rf e = cc
  begins_at (suc zero) r at arg next rf e = let z : 2 ≡ at = cc in sym z
  begins_at (suc (suc zero)) r at arg next rf e = cc
  begins_at (suc (suc (suc zero))) r at arg next rf e = cc
  begins_at (suc (suc (suc (suc zero)))) r at arg next rf e = absurd (reaches_no_start WriteXf (r 23) 0 (r 1) 5 (λ v. r) at arg next rf e)
  begins_at (suc (suc (suc (suc (suc zero))))) r at arg next rf e = absurd (reaches_no_start ReadXx (r 23) 0 0 6 (λ v. put r 24 v) at arg next rf e)
  begins_at (suc (suc (suc (suc (suc (suc zero)))))) r at arg next rf e = absurd (frees_no_start (r 23) 7 r at arg next rf e)
  begins_at (suc (suc (suc (suc (suc (suc (suc zero))))))) r at arg next rf e = cc
  begins_at (suc (suc (suc (suc (suc (suc (suc (suc zero)))))))) r at arg next rf e = absurd (reaches_no_start WriteXf (r 2) 0 (r 24) 9 (λ v. r) at arg next rf e)
  begins_at (suc (suc (suc (suc (suc (suc (suc (suc (suc zero))))))))) r at arg next rf e = cc
  begins_at (suc (suc (suc (suc (suc (suc (suc (suc (suc (suc pc)))))))))) r at arg next rf e = cc

  good : (m at arg : ℕ) (num : ℕ → ℕ) (rs : List Reply) → CanStart code at arg → IsGood (local_from by_frame code m at arg num rs)
  good m at arg num rs (inl h) = subst (λ a. IsGood (local_from by_frame code m a arg num rs)) (sym h.0) (good0 m (put (λ x. 0) 1 arg) (own_of num (λ g. [])) rs [] tt)
  good m at arg num rs (inr (pc, r, next, rf, e)) =
      let is : at ≡ 2 = begins_at pc r at arg next rf (ap (λ i. effect code.formats (slice_get i pc) pc r) (sym instrs) ∙ e) in
      subst (λ a. IsGood (local_from by_frame code m a arg num rs)) (sym is) (good2 m (put (λ x. 0) 1 arg) (own_of num (λ g. [])) rs [] tt)

  pub never_bad : NeverBad by_frame code
  never_bad at arg m num rs t starts new e = subst IsGood e (good m at arg num rs starts)

  fair_of : (l : List (ℕ × Act)) (k : Ask) → IsPlain k → Fair (globals_of code) l k
  fair_of l (Of (On (Reach a))) p = inl (omega (arith, p, globals))
  fair_of l (Of (On (New n))) p = tt
  fair_of l (Of (On (Free g))) p = inl (omega (arith, p, globals))
  fair_of l (Of (Print bytes)) p = tt
  fair_of l (Of (Begin at arg)) p = tt
  fair_of l (Of Stop) p = tt
  fair_of l (Of Tick) p = tt
  fair_of l (Side x) p = absurd p

  fair_next : (l : List (ℕ × Act)) (k : Ask) → AsksNext by_frame code l k → Fair (globals_of code) l k
  fair_next l k h =
      let starts = (h.shown.each h.a h.at h.arg h.thread).0 in
      let rs = replies_of (part_of h.a l ++ act k Dead ∷ []) in
      let plain = good_trace (local_from by_frame code (h.m + 0) h.at h.arg h.shows.num rs) (good (h.m + 0) h.at h.arg h.shows.num rs starts) in
      fair_of l k (plain_last (part_of h.a l) k Dead (subst ArePlain (h.shows.by 0) plain))

  pub always_fair : AlwaysFair by_frame code
  always_fair = record { source = λ l q h. fair_next l (Of q) h; side = λ l x h. fair_next l (Side x) h }

pub two_stand : (code : Code) → code.instrs ≡ two_streams_code → globals_of code ≡ 1 → RunsStand by_frame code
two_stand code instrs globals = stand by_frame code (never_bad_owns by_frame code (never_bad code instrs globals)) (always_fair code instrs globals)
