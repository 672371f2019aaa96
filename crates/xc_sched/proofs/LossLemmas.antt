-- What is lost of the steps that a recorder is given.
use Rattle.std.proofs.Common.{◌≡◌, ◌≢◌, ℕ, zero, suc, ◌+◌, ◌-◌, ◌<◌, ◌≤◌, ◌^◌, inl, inr, true, false, cond, eqb, ltb, List, [], ◌∷◌, ◌++◌, length, drop, set, lit≤, Option, Some, None, get_or, refl, sym, ap, subst, ◌∙◌, arith}
use Rattle.std.specs.Prelude.{slice_get, replicate, fold}
use Rattle.std.proofs.lemmas.Bool.{cases_eq}
use Rattle.std.proofs.lemmas.Bool.Decides.{nat_tests}
use Rattle.std.proofs.lemmas.Option.{slice_get-get_or}
use Rattle.std.proofs.lemmas.List.{drop-append-le, drop-set-add, get_or-drop, length-drop, length-append, length-set}
use Rattle.xc_sched.specs.declared.run.Run.{Run}
use Rattle.xc_sched.specs.declared.recorder.Loss.TheVariants.{Steps}
use Rattle.xc_sched.specs.Runs.{is_other, FitsAfter, Fits, steps_of}
use Rattle.xc_sched.specs.InnerRuns.{last_of}
use Rattle.xc_sched.specs.Runs.{KeepsRuns}
use Rattle.xc_sched.specs.Losses.{steps_at_end, loss_of}
use Rattle.xc_sched.proofs.RunLemmas.{Ranges, ranges_of, valid_of, valid_in, other_in, is_not, may_from, fits_push, last_is, steps_of-cons, steps_of-push, longer, grow_fits, grow_steps}

-- ---- how many of the last steps are of one stream

abbrev one_more : ℕ → ℕ → ℕ → ℕ
one_more s n t = cond (eqb t s) (n + 1) 0

eqb_same : (s : ℕ) → eqb s s ≡ true
eqb_same s = grind (arith, nat_tests)

eqb_other : (t s : ℕ) → t ≢ s → eqb t s ≡ false
eqb_other t s h = grind (arith, nat_tests, h)

after_append : (s n : ℕ) (xs ys : List ℕ) → fold (one_more s) n (xs ++ ys) ≡ fold (one_more s) (fold (one_more s) n xs) ys
after_append s n [] ys = refl
after_append s n (x ∷ xs) ys = after_append s (one_more s n x) xs ys

after_same : (s n c : ℕ) → fold (one_more s) n (replicate c s) ≡ n + c
after_same s n zero = omega arith
after_same s n (suc c) = ap (λ b. fold (one_more s) (cond b (n + 1) 0) (replicate c s)) (eqb_same s) ∙ after_same s (n + 1) c ∙ omega arith

after_others : (s t n c : ℕ) → t ≢ s → 1 ≤ c → fold (one_more s) n (replicate c t) ≡ 0
after_others s t n zero h some = absurd (omega arith)
after_others s t n (suc zero) h some = ap (λ b. cond b (n + 1) 0) (eqb_other t s h)
after_others s t n (suc (suc c)) h some =
    ap (λ b. fold (one_more s) (cond b (n + 1) 0) (replicate (suc c) t)) (eqb_other t s h) ∙ after_others s t 0 (suc c) h (omega arith)

-- the steps of the last run, where it is of this stream
abbrev trailing : ℕ → Run → List Run → ℕ
trailing s x [] = cond (eqb x.stream s) x.count 0
trailing s x (r ∷ runs) = trailing s r runs

ends : (s n : ℕ) (x : Run) → (x.stream ≡ s → n ≡ x.count) → (x.stream ≢ s → n ≡ 0) → n ≡ cond (eqb x.stream s) x.count 0
ends s n x same other =
    elim (cases_eq x.stream s) [
      | inl e ↦ same e ∙ ap (λ b. cond b x.count 0) (sym (ap (λ t. eqb t s) e ∙ eqb_same s))
      | inr ne ↦ other ne ∙ ap (λ b. cond b x.count 0) (sym (eqb_other x.stream s ne))
    ]

counts : (s n : ℕ) (x r : Run) → x.stream ≢ r.stream → (x.stream ≢ s → n ≡ 0) → r.stream ≡ s → fold (one_more s) n (replicate r.count r.stream) ≡ r.count
counts s n x r differ other is =
    let none : n ≡ 0 = other (λ e. differ (e ∙ sym is)) in
    ap (λ t. fold (one_more s) n (replicate r.count t)) is ∙ after_same s n r.count ∙ omega (arith, none)

at_end_from : (s n : ℕ) (x : Run) (runs : List Run) → FitsAfter (Some x.stream) runs → (x.stream ≡ s → n ≡ x.count) → (x.stream ≢ s → n ≡ 0) → fold (one_more s) n (steps_of runs) ≡ trailing s x runs
at_end_from s n x [] h same other = ends s n x same other
at_end_from s n x (r ∷ runs) h same other =
    let some = (ranges_of r (valid_in (Some x.stream) r h.0)).some in
    let differ : x.stream ≢ r.stream = λ e. is_not x.stream r.stream (other_in (Some x.stream) r h.0) (sym e) in
    ap (fold (one_more s) n) (steps_of-cons r runs) ∙ after_append s n (replicate r.count r.stream) (steps_of runs)
    ∙ at_end_from s (fold (one_more s) n (replicate r.count r.stream)) r runs h.1 (counts s n x r differ other) (λ ne. after_others s r.stream n r.count ne some)

at_end : (s : ℕ) (before : Option ℕ) (r : Run) (runs : List Run) → FitsAfter before (r ∷ runs) → steps_at_end s (steps_of (r ∷ runs)) ≡ trailing s r runs
at_end s before r runs h =
    let some = (ranges_of r (valid_in before r h.0)).some in
    ap (fold (one_more s) 0) (steps_of-cons r runs) ∙ after_append s 0 (replicate r.count r.stream) (steps_of runs)
    ∙ at_end_from s (fold (one_more s) 0 (replicate r.count r.stream)) r runs h.1
    (λ e. ap (λ t. fold (one_more s) 0 (replicate r.count t)) e ∙ after_same s 0 r.count ∙ omega arith) (λ ne. after_others s r.stream 0 r.count ne some)

not_other : (o : Option ℕ) (s : ℕ) → is_other o s ≡ false → o ≡ Some s
not_other None s e = absurd cc
not_other (Some t) s e = ap Some (let is : t ≡ s = grind (arith, nat_tests, e) in is)

trailing_other : (s : ℕ) (x : Run) (runs : List Run) → is_other (last_of (Some x.stream) runs) s ≡ true → trailing s x runs ≡ 0
trailing_other s x [] h = ap (λ b. cond b x.count 0) (eqb_other x.stream s (λ e. is_not x.stream s h (sym e)))
trailing_other s x (r ∷ runs) h = trailing_other s r runs h

trailing_same : (s : ℕ) (x d : Run) (runs : List Run) → last_of (Some x.stream) runs ≡ Some s → trailing s x runs ≡ (get_or (x ∷ runs) (length runs) d).count
trailing_same s x d [] h = let e : x.stream ≡ s = cc in ap (λ b. cond b x.count 0) (ap (λ t. eqb t s) e ∙ eqb_same s)
trailing_same s x d (r ∷ runs) h = trailing_same s r d runs h

end_other : (s : ℕ) (runs : List Run) → Fits runs → is_other (last_of None runs) s ≡ true → steps_at_end s (steps_of runs) ≡ 0
end_other s [] h e = refl
end_other s (r ∷ runs) h e = at_end s None r runs h ∙ trailing_other s r runs e

end_same : (s : ℕ) (d : Run) (runs : List Run) → Fits runs → last_of None runs ≡ Some s → steps_at_end s (steps_of runs) ≡ (get_or runs (length runs - 1) d).count
end_same s d [] h e = absurd cc
end_same s d (r ∷ runs) h e = let last : length runs ≡ suc (length runs) - 1 = omega arith in at_end s None r runs h ∙ trailing_same s r d runs e ∙ ap (λ n. (get_or (r ∷ runs) n d).count) last

valid_at : (before : Option ℕ) (runs : List Run) (i : ℕ) (d : Run) → FitsAfter before runs → i < length runs → Ranges (get_or runs i d)
valid_at before [] i d h lt = absurd (omega arith)
valid_at before (r ∷ runs) zero d h lt = ranges_of r (valid_in before r h.0)
valid_at before (r ∷ runs) (suc i) d h lt = valid_at (Some r.stream) runs i d h.1 (omega arith)

-- ---- losses

no_loss : (steps : List ℕ) (s : ℕ) → s < 8192 → steps_at_end s steps < 2 ^ 31 → None ≡ loss_of steps s
no_loss steps s small room =
    let a : ltb s 8192 ≡ true = grind (arith, nat_tests, small) in
    let b : eqb (steps_at_end s steps) (2 ^ 31) ≡ false = grind (arith, nat_tests, room) in
    rw (a, b) refl

steps_lost : (steps : List ℕ) (s : ℕ) → s < 8192 → steps_at_end s steps ≡ 2 ^ 31 → Some Steps ≡ loss_of steps s
steps_lost steps s small full =
    let a : ltb s 8192 ≡ true = grind (arith, nat_tests, small) in
    let b : eqb (steps_at_end s steps) (2 ^ 31) ≡ true = grind (arith, nat_tests, full) in
    rw (a, b) refl

module _ (at s : ℕ) (runs : List Run) (steps : List ℕ) (kept : KeepsRuns at runs) (view : steps_of (drop at runs) ≡ steps) (small : s < 8192) where
  -- another stream than the last one
  pub other_fits : is_other (last_of None (drop at runs)) s ≡ true → loss_of steps s ≡ None
  other_fits e = sym (no_loss steps s small (omega (arith, ap (steps_at_end s) view, end_other s (drop at runs) kept.fit e)))

  pub other_kept : is_other (last_of None (drop at runs)) s ≡ true → length runs < 2 ^ 32 - 3 → KeepsRuns at (runs ++ record { stream = s; count = 1 } ∷ [])
  other_kept e few =
      let r : Run = record { stream = s; count = 1 } in
      let valid = valid_of r (record { stream = small; some = lit≤ tt; most = lit≤ tt }) in
      record {
        within = omega (arith, kept.within, length-append runs (r ∷ []));
        few = omega (arith, few, length-append runs (r ∷ []));
        fit = subst Fits (sym (drop-append-le at runs (r ∷ []) kept.within)) (fits_push None (drop at runs) r kept.fit (may_from (last_of None (drop at runs)) r valid e));
      }

  pub other_steps : steps_of (drop at (runs ++ record { stream = s; count = 1 } ∷ [])) ≡ steps ++ s ∷ []
  other_steps =
      let r : Run = record { stream = s; count = 1 } in
      ap steps_of (drop-append-le at runs (r ∷ []) kept.within) ∙ steps_of-push (drop at runs) r ∙ ap (λ (x : List ℕ). x ++ s ∷ []) view

  -- the last stream again
  module _ (r : Run) (same : is_other (last_of None (drop at runs)) s ≡ false) (last : r ≡ get_or runs (length runs - 1) r) where
    pub there : at < length runs
    there = some (drop at runs) refl
      where
        some : (rest : List Run) → drop at runs ≡ rest → at < length runs
        some [] e = absurd (let h = ap (λ x. is_other (last_of None x) s) (sym e) ∙ same in cc)
        some (x ∷ rest) e = omega (arith, ap length e, length-drop at runs)

    last_rest : r ≡ get_or (drop at runs) (length (drop at runs) - 1) r
    last_rest =
        let lt = there in
        let e : at + (length (drop at runs) - 1) ≡ length runs - 1 = omega (arith, length-drop at runs, lt) in
        last ∙ ap (λ n. get_or runs n r) (sym e) ∙ sym (get_or-drop at runs (length (drop at runs) - 1) r)

    pub is_stream : r.stream ≡ s
    is_stream =
        let lt = there in
        let found : Some r ≡ slice_get (drop at runs) (length (drop at runs) - 1) = ap Some last_rest ∙ sym (slice_get-get_or (drop at runs) (length (drop at runs) - 1) r (omega (arith, length-drop at runs, lt))) in
        let two = sym (last_is (drop at runs) r found) ∙ not_other (last_of None (drop at runs)) s same in
        cc

    steps_are : steps_at_end s steps ≡ r.count
    steps_are =
        ap (steps_at_end s) (sym view) ∙ end_same s r (drop at runs) kept.fit (not_other (last_of None (drop at runs)) s same) ∙ ap (λ x. x.count) (sym last_rest)

    pub last_full : 2 ^ 31 ≤ r.count → loss_of steps s ≡ Some Steps
    last_full full =
        let lt = there in
        let ranges = valid_at None (drop at runs) (length (drop at runs) - 1) r kept.fit (omega (arith, length-drop at runs, lt)) in
        let most : r.count ≤ 2 ^ 31 = omega (arith, ranges.most, ap (λ x. x.count) last_rest) in
        sym (steps_lost steps s small (omega (arith, steps_are)))

    pub last_fits : r.count < 2 ^ 31 → loss_of steps s ≡ None
    last_fits room = sym (no_loss steps s small (omega (arith, steps_are)))

    grown : drop at (set runs (length runs - 1) (longer r)) ≡ set (drop at runs) (length (drop at runs) - 1) (longer r)
    grown =
        let lt = there in
        let e : length runs - 1 ≡ at + (length (drop at runs) - 1) = omega (arith, length-drop at runs, lt) in
        ap (λ n. drop at (set runs n (longer r))) e ∙ drop-set-add at runs (length (drop at runs) - 1) (longer r)

    grown_kept : r.count < 2 ^ 31 → KeepsRuns at (set runs (length runs - 1) (longer r))
    grown_kept room =
        let lt = there in
        let len : length (set runs (length runs - 1) (longer r)) ≡ length runs = length-set runs (length runs - 1) (longer r) in
        record {
          within = omega (arith, kept.within, len);
          few = omega (arith, kept.few, len);
          fit = subst Fits (sym grown) (grow_fits None (drop at runs) (length (drop at runs) - 1) r (omega (arith, length-drop at runs, lt)) (sym last_rest) room kept.fit);
        }

    grown_steps : steps_of (drop at (set runs (length runs - 1) (longer r))) ≡ steps ++ s ∷ []
    grown_steps =
        let lt = there in
        ap steps_of grown ∙ grow_steps (drop at runs) (length (drop at runs) - 1) r (omega (arith, length-drop at runs, lt)) (sym last_rest)
        ∙ ap (λ (x : List ℕ). x ++ r.stream ∷ []) view ∙ ap (λ t. steps ++ t ∷ []) is_stream

    longer_is : longer r ≡ record { stream = s; count = r.count + 1 }
    longer_is = ap (λ t. record { stream = t; count = r.count + 1 }) is_stream

    -- the run that is written
    pub written_kept : r.count < 2 ^ 31 → KeepsRuns at (set runs (length runs - 1) (record { stream = s; count = r.count + 1 }))
    written_kept room = subst (λ x. KeepsRuns at (set runs (length runs - 1) x)) longer_is (grown_kept room)

    pub written_steps : steps_of (drop at (set runs (length runs - 1) (record { stream = s; count = r.count + 1 }))) ≡ steps ++ s ∷ []
    written_steps = subst (λ x. steps_of (drop at (set runs (length runs - 1) x)) ≡ steps ++ s ∷ []) longer_is grown_steps
