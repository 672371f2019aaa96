-- Runs of steps.
use Rattle.std.proofs.Common.{◌≡◌, ◌≢◌, ℕ, zero, suc, ◌+◌, ◌-◌, ◌<◌, ◌≤◌, ◌^◌, ◌&&◌, Bool, true, false, List, [], ◌∷◌, ◌++◌, length, drop, set, Option, Some, None, get_or, refl, sym, ap, subst, ◌∙◌, append_assoc, arith}
use Rattle.std.specs.Prelude.{slice_get, replicate}
use Rattle.std.specs.Option.{option_map}
use Rattle.std.proofs.lemmas.Bool.{and_parts}
use Rattle.std.proofs.lemmas.Bool.Decides.{nat_tests}
use Rattle.std.proofs.lemmas.Grind.{flat_map-append}
use Rattle.std.proofs.lemmas.List.{append-nil, drop_more, drop-set, length-set, replicate-append-replicate}
use Rattle.std.proofs.lemmas.List.Concat.{flat_map-cons}
use Rattle.xc_sched.specs.declared.run.Run.{Run}
use Rattle.xc_sched.specs.Runs.{is_valid, is_other, may_follow, FitsAfter, Fits, steps_of}
use Rattle.xc_sched.specs.InnerRuns.{last_of}
use Rattle.xc_sched.specs.Runs.{KeepsRuns}

-- ---- the last run

last_get : (r : Run) (runs : List Run) → last_of (Some r.stream) runs ≡ option_map (λ x. x.stream) (slice_get (r ∷ runs) (length runs))
last_get r [] = refl
last_get r (x ∷ runs) = last_get x runs

pub last_is : (runs : List Run) (r : Run) → Some r ≡ slice_get runs (length runs - 1) → last_of None runs ≡ Some r.stream
last_is [] r h = absurd cc
last_is (x ∷ runs) r h = last_get x runs ∙ ap (option_map (λ x. x.stream)) (sym (h ∙ ap (slice_get (x ∷ runs)) (omega arith)))

pub last_push : (before : Option ℕ) (runs : List Run) (r : Run) → last_of before (runs ++ r ∷ []) ≡ Some r.stream
last_push before [] r = refl
last_push before (x ∷ runs) r = last_push (Some x.stream) runs r

-- ---- one run

pub record Ranges (r : Run) : Type 0 where
  pub stream : r.stream < 8192
  pub some : 1 ≤ r.count
  pub most : r.count ≤ 2 ^ 31

pub ranges_of : (r : Run) → is_valid r ≡ true → Ranges r
ranges_of r h = record { stream = grind (arith, nat_tests, h); some = grind (arith, nat_tests, h); most = grind (arith, nat_tests, h) }

pub valid_of : (r : Run) → Ranges r → is_valid r ≡ true
valid_of r h = grind (arith, nat_tests, h.stream, h.some, h.most)

pub valid_in : (before : Option ℕ) (r : Run) → may_follow before r ≡ true → is_valid r ≡ true
valid_in before r h = (and_parts (is_valid r) (is_other before r.stream) h).0

pub other_in : (before : Option ℕ) (r : Run) → may_follow before r ≡ true → is_other before r.stream ≡ true
other_in before r h = (and_parts (is_valid r) (is_other before r.stream) h).1

both_true : (a b : Bool) → a ≡ true → b ≡ true → (a && b) ≡ true
both_true true b e h = h
both_true false b e h = absurd cc

pub may_from : (before : Option ℕ) (r : Run) → is_valid r ≡ true → is_other before r.stream ≡ true → may_follow before r ≡ true
may_from before r h k = both_true (is_valid r) (is_other before r.stream) h k

pub fits_push : (before : Option ℕ) (runs : List Run) (r : Run) → FitsAfter before runs → may_follow (last_of before runs) r ≡ true → FitsAfter before (runs ++ r ∷ [])
fits_push before [] r h k = (k, tt)
fits_push before (x ∷ runs) r h k = (h.0, fits_push (Some x.stream) runs r h.1 k)

-- ---- the steps of runs

pub steps_of-cons : (r : Run) (runs : List Run) → steps_of (r ∷ runs) ≡ replicate r.count r.stream ++ steps_of runs
steps_of-cons r runs = flat_map-cons (λ (x : Run). replicate x.count x.stream) r runs

pub steps_of-push : (runs : List Run) (r : Run) → steps_of (runs ++ r ∷ []) ≡ steps_of runs ++ replicate r.count r.stream
steps_of-push runs r =
    flat_map-append (λ (x : Run). replicate x.count x.stream) runs (r ∷ []) ∙ ap (λ (x : List ℕ). steps_of runs ++ x) (steps_of-cons r [] ∙ append-nil (replicate r.count r.stream))

-- ---- a step is taken

relaxed : (s : ℕ) (runs : List Run) → FitsAfter (Some s) runs → Fits runs
relaxed s [] h = tt
relaxed s (r ∷ runs) h = (may_from None r (valid_in (Some s) r h.0) refl, h.1)

-- the run at hand, and those after it
pub run_at : (at : ℕ) (runs : List Run) (r : Run) → at < length runs → r ≡ get_or runs at r → drop at runs ≡ r ∷ drop (at + 1) runs
run_at at runs r h e = drop_more runs at r h ∙ ap (λ x. x ∷ drop (at + 1) runs) (sym e)

pub kept_next : (at : ℕ) (runs : List Run) (r : Run) → KeepsRuns at runs → at < length runs → r ≡ get_or runs at r → KeepsRuns (at + 1) runs
kept_next at runs r kept h e = record {
  within = omega arith;
  few = kept.few;
  fit = let fit : Fits (r ∷ drop (at + 1) runs) = subst Fits (run_at at runs r h e) kept.fit in relaxed r.stream (drop (at + 1) runs) fit.1;
}

abbrev pub shorter : Run → Run
shorter r = record { stream = r.stream; count = r.count - 1 }

replicate-more : (n s : ℕ) → 1 ≤ n → replicate n s ≡ s ∷ replicate (n - 1) s
replicate-more zero s h = absurd (omega arith)
replicate-more (suc n) s h = let e : n ≡ suc n - 1 = omega arith in ap (λ k. s ∷ replicate k s) e

pub run_shorter : (at : ℕ) (runs : List Run) (r : Run) → at < length runs → drop at (set runs at (shorter r)) ≡ shorter r ∷ drop (at + 1) runs
run_shorter at runs r h = drop-set runs at (shorter r) h

pub kept_shorter : (at : ℕ) (runs : List Run) (r : Run) → KeepsRuns at runs → at < length runs → r ≡ get_or runs at r → r.count ≢ 1 → KeepsRuns at (set runs at (shorter r))
kept_shorter at runs r kept h e more =
    let fit : Fits (r ∷ drop (at + 1) runs) = subst Fits (run_at at runs r h e) kept.fit in
    let ranges = ranges_of r (valid_in None r fit.0) in
    let len : length (set runs at (shorter r)) ≡ length runs = length-set runs at (shorter r) in
    let valid : is_valid (shorter r) ≡ true = valid_of (shorter r) (record { stream = ranges.stream; some = omega (arith, ranges.some); most = omega (arith, ranges.most) }) in
    record {
      within = omega (arith, kept.within, len);
      few = omega (arith, kept.few, len);
      fit = subst Fits (sym (run_shorter at runs r h)) (may_from None (shorter r) valid refl, fit.1);
    }

-- ---- a step is added

-- a run that grows by one step
abbrev pub longer : Run → Run
longer r = record { stream = r.stream; count = r.count + 1 }

pub grow_fits : (before : Option ℕ) (runs : List Run) (n : ℕ) (r : Run) → length runs ≡ n + 1 → get_or runs n r ≡ r → r.count < 2 ^ 31 → FitsAfter before runs → FitsAfter before (set runs n (longer r))
grow_fits before [] n r len e small h = absurd (omega arith)
grow_fits before (x ∷ []) zero r len e small h =
    let same : is_other before x.stream ≡ true = (and_parts (is_valid x) (is_other before x.stream) h.0).1 in
    let ranges = ranges_of x (valid_in before x h.0) in
    let valid : is_valid (longer x) ≡ true = valid_of (longer x) (record { stream = ranges.stream; some = omega arith; most = omega (arith, small, ap (λ y. y.count) e) }) in
    subst (λ y. FitsAfter before (longer y ∷ [])) e (may_from before (longer x) valid same, tt)
grow_fits before (x ∷ y ∷ runs) zero r len e small h = absurd (omega arith)
grow_fits before (x ∷ []) (suc n) r len e small h = absurd (omega arith)
grow_fits before (x ∷ y ∷ runs) (suc n) r len e small h = (h.0, grow_fits (Some x.stream) (y ∷ runs) n r (omega arith) e small h.1)

replicate-push : (n s : ℕ) → replicate (n + 1) s ≡ replicate n s ++ s ∷ []
replicate-push n s = sym (replicate-append-replicate n 1 s)

pub grow_steps : (runs : List Run) (n : ℕ) (r : Run) → length runs ≡ n + 1 → get_or runs n r ≡ r → steps_of (set runs n (longer r)) ≡ steps_of runs ++ r.stream ∷ []
grow_steps [] n r len e = absurd (omega arith)
grow_steps (x ∷ []) zero r len e =
    subst (λ y. steps_of (longer y ∷ []) ≡ steps_of (x ∷ []) ++ y.stream ∷ []) e (
    steps_of-cons (longer x) [] ∙ append-nil (replicate (x.count + 1) x.stream) ∙ replicate-push x.count x.stream
    ∙ ap (λ (s : List ℕ). s ++ x.stream ∷ []) (sym (steps_of-cons x [] ∙ append-nil (replicate x.count x.stream)))
    )
grow_steps (x ∷ y ∷ runs) zero r len e = absurd (omega arith)
grow_steps (x ∷ []) (suc n) r len e = absurd (omega arith)
grow_steps (x ∷ y ∷ runs) (suc n) r len e =
    steps_of-cons x (set (y ∷ runs) n (longer r)) ∙ ap (λ (s : List ℕ). replicate x.count x.stream ++ s) (grow_steps (y ∷ runs) n r (omega arith) e)
    ∙ sym (append_assoc (replicate x.count x.stream) (steps_of (y ∷ runs)) (r.stream ∷ []))
    ∙ ap (λ (s : List ℕ). s ++ r.stream ∷ []) (sym (steps_of-cons x (y ∷ runs)))

-- ---- runs by their steps

abbrev IsOtherHead : ℕ → List ℕ → Type 0
IsOtherHead s [] = Unit {0}
IsOtherHead s (x ∷ xs) = x ≢ s

split_same : (n m s : ℕ) (xs ys : List ℕ) → IsOtherHead s xs → IsOtherHead s ys → replicate n s ++ xs ≡ replicate m s ++ ys → (n ≡ m) × (xs ≡ ys)
split_same zero zero s xs ys h k e = (refl, e)
split_same zero (suc m) s [] ys h k e = absurd cc
split_same zero (suc m) s (x ∷ xs) ys h k e = absurd (h cc)
split_same (suc n) zero s xs [] h k e = absurd cc
split_same (suc n) zero s xs (y ∷ ys) h k e = absurd (k cc)
split_same (suc n) (suc m) s xs ys h k e =
    let rest : replicate n s ++ xs ≡ replicate m s ++ ys = cc in
    let p = split_same n m s xs ys h k rest in
    (ap suc p.0, p.1)

heads : (n m s t : ℕ) (xs ys : List ℕ) → 1 ≤ n → 1 ≤ m → replicate n s ++ xs ≡ replicate m t ++ ys → s ≡ t
heads zero m s t xs ys h k e = absurd (omega arith)
heads (suc n) zero s t xs ys h k e = absurd (omega arith)
heads (suc n) (suc m) s t xs ys h k e = cc

pub is_not : (s t : ℕ) → is_other (Some s) t ≡ true → t ≢ s
is_not s t h e = absurd (grind (arith, nat_tests, h, e))

other_head : (s : ℕ) (runs : List Run) → FitsAfter (Some s) runs → IsOtherHead s (steps_of runs)
other_head s [] h = tt
other_head s (r ∷ runs) h =
    let some = (ranges_of r (valid_in (Some s) r h.0)).some in
    subst (IsOtherHead s) (sym (steps_of-cons r runs ∙ ap (λ (x : List ℕ). x ++ steps_of runs) (replicate-more r.count r.stream some))) (is_not s r.stream (other_in (Some s) r h.0))

no_steps : (before : Option ℕ) (r : Run) (runs : List Run) → FitsAfter before (r ∷ runs) → [] ≡ steps_of (r ∷ runs) → ⊥
no_steps before r runs h e =
    let some = (ranges_of r (valid_in before r h.0)).some in
    let is = e ∙ steps_of-cons r runs ∙ ap (λ (x : List ℕ). x ++ steps_of runs) (replicate-more r.count r.stream some) in
    absurd cc

-- the runs of steps are unique
pub unique : (p q : Option ℕ) (a b : List Run) → FitsAfter p a → FitsAfter q b → steps_of a ≡ steps_of b → a ≡ b
unique p q [] [] h k e = refl
unique p q [] (y ∷ b) h k e = absurd (no_steps q y b k e)
unique p q (x ∷ a) [] h k e = absurd (no_steps p x a h (sym e))
unique p q (x ∷ a) (y ∷ b) h k e =
    let all : replicate x.count x.stream ++ steps_of a ≡ replicate y.count y.stream ++ steps_of b = sym (steps_of-cons x a) ∙ e ∙ steps_of-cons y b in
    let sx = (ranges_of x (valid_in p x h.0)).some in
    let sy = (ranges_of y (valid_in q y k.0)).some in
    let stream : x.stream ≡ y.stream = heads x.count y.count x.stream y.stream (steps_of a) (steps_of b) sx sy all in
    let other : IsOtherHead x.stream (steps_of b) = subst (λ s. IsOtherHead s (steps_of b)) (sym stream) (other_head y.stream b k.1) in
    let parts = split_same x.count y.count x.stream (steps_of a) (steps_of b) (other_head x.stream a h.1) other (all ∙ ap (λ s. replicate y.count s ++ steps_of b) (sym stream)) in
    let first : x ≡ y = ap (λ s. record { stream = s; count = x.count }) stream ∙ ap (λ n. record { stream = y.stream; count = n }) parts.0 in
    let rest : a ≡ b = unique (Some x.stream) (Some y.stream) a b h.1 k.1 parts.1 in
    ap (λ r. r ∷ a) first ∙ ap (λ (l : List Run). y ∷ l) rest
