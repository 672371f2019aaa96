-- Where the threads of a list stand, when one of them goes on and when one begins.
use Rattle.std.proofs.Common.{◌≡◌, ℕ, zero, suc, ◌+◌, ◌<◌, ◌≤◌, List, [], ◌∷◌, ◌++◌, length, Some, None, refl, sym, ap, ◌∙◌, subst, arith, length-append, ⊎_elim}
use Rattle.std.specs.Prelude.{slice_get, slice_set}
use Rattle.std.proofs.lemmas.Option.{slice_get_past}
use Rattle.std.proofs.Math.ListN.{length-set}
use Rattle.xc_meaning_world.specs.World.{Segs, put}
use Rattle.xc_meaning_world.specs.Runs.{part_of}
use Rattle.xc_meaning_world.proofs.Puts.{by_same, get_set_same, get_set_other}
use Rattle.xc_isa.specs.declared.code.Code.{Code}
use Rattle.xc_isa.specs.Effects.{Regs}
use Rattle.xc_isa.specs.Machine.{Slot, Live}
use Rattle.xc_isa_streams.specs.Class.{Class}
use Rattle.xc_isa_streams.specs.Parts.{Act}
use Rattle.xc_isa_streams.specs.Promises.{globals_of, CanStart, Stands, Core, total}
use Rattle.xc_isa_streams.proofs.Lists.{get_left, get_last, get_cases, get_none, none_more}
use Rattle.xc_isa_streams.proofs.Standing.{stands_up, stands_first}

-- one step more of thread i
abbrev pub bump : List ℕ → ℕ → List ℕ
bump [] i = []
bump (m ∷ ms) zero = suc m ∷ ms
bump (m ∷ ms) (suc i) = m ∷ bump ms i

pub bump_same : (ms : List ℕ) (i m : ℕ) → slice_get ms i ≡ Some m → slice_get (bump ms i) i ≡ Some (suc m)
bump_same [] i m h = cc
bump_same (n ∷ ms) zero m h = let e : n ≡ m = cc in ap (λ n. Some (suc n)) e
bump_same (n ∷ ms) (suc i) m h = bump_same ms i m h

pub bump_other : (ms : List ℕ) (i j : ℕ) → (j ≡ i → ⊥) → slice_get (bump ms i) j ≡ slice_get ms j
bump_other [] i j ne = refl
bump_other (n ∷ ms) zero zero ne = absurd (ne refl)
bump_other (n ∷ ms) zero (suc j) ne = refl
bump_other (n ∷ ms) (suc i) zero ne = refl
bump_other (n ∷ ms) (suc i) (suc j) ne = bump_other ms i j (λ e. ne (ap suc e))

pub bump_length : (ms : List ℕ) (i : ℕ) → length (bump ms i) ≡ length ms
bump_length [] i = refl
bump_length (n ∷ ms) zero = refl
bump_length (n ∷ ms) (suc i) = ap suc (bump_length ms i)

pub bump_total : (ms : List ℕ) (i : ℕ) → i < length ms → total (bump ms i) ≡ suc (total ms)
bump_total [] i lt = absurd (omega (arith, lt))
bump_total (n ∷ ms) zero lt = omega arith
bump_total (n ∷ ms) (suc i) lt = omega (arith, bump_total ms i (omega (arith, lt)))

pub total_more : (ms : List ℕ) → total (ms ++ 0 ∷ []) ≡ total ms
total_more [] = refl
total_more (n ∷ ms) = ap (λ k. n + k) (total_more ms)

-- what is known of thread i, which is here
module _ (of : ℕ → Class) (code : Code) (threads : List (ℕ × ℕ)) (acts : List Slot) (steps : List ℕ) (own : ℕ → Segs) (last : ℕ) (l : List (ℕ × Act)) (core : Core of code acts steps own last threads l) (i pc : ℕ) (r : Regs) (here : slice_get acts i ≡ Some (Live pc r)) where
  pub is_here : (at arg : ℕ) → slice_get threads i ≡ Some (at, arg) → CanStart code at arg × (m : ℕ) × (slice_get steps i ≡ Some m) × Stands of code at arg m (Live pc r) (own i) last (part_of i l)
  is_here at arg h =
      let x = core.each i at arg h in
      let same : x.0 ≡ Live pc r = let q : Some x.0 ≡ Some (Live pc r) = sym x.2 ∙ here in cc in
      (x.4, x.1, x.3, subst (λ u. Stands of code at arg x.1 u (own i) last (part_of i l)) same x.5)

  pub not_here : (s : ℕ) → slice_get threads s ≡ None → s ≡ i → ⊥
  not_here s h e = let a = (core.none s h).0 in let b : slice_get acts s ≡ Some (Live pc r) = ap (λ u. slice_get acts u) e ∙ here in let bad : None ≡ Some (Live pc r) = sym a ∙ b in cc

  -- it has become this slot by one step
  module _ (own' : ℕ → Segs) (last' : ℕ) (l' : List (ℕ × Act)) (slot : Slot) where
    pub core_set : last ≤ last' → ((s : ℕ) → (s ≡ i → ⊥) → own' s ≡ own s) → ((s : ℕ) → (s ≡ i → ⊥) → part_of s l' ≡ part_of s l) → ((at arg m : ℕ) → Stands of code at arg m (Live pc r) (own i) last (part_of i l) → Stands of code at arg (suc m) slot (own' i) last' (part_of i l')) → Core of code (slice_set acts i slot) (bump steps i) own' last' threads l'
    core_set le same_own others mine = record {
      each = λ s at arg h. by_same _ s i
          (λ same.
          let x = is_here at arg (ap (λ u. slice_get threads u) (sym same) ∙ h) in
          (slot, suc x.1, ap (λ u. slice_get (slice_set acts i slot) u) same ∙ get_set_same acts i slot (Live pc r) here, ap (λ u. slice_get (bump steps i) u) same ∙ bump_same steps i x.1 x.2, x.0, subst (λ u. Stands of code at arg (suc x.1) slot (own' u) last' (part_of u l')) (sym same) (mine at arg x.1 x.3)))
          (λ ne.
          let x = core.each s at arg h in
          let kept = stands_up of code at arg x.1 x.0 (own s) last last' (part_of s l) le x.5 in
          (x.0, x.1, get_set_other acts i s slot ne ∙ x.2, bump_other steps i s ne ∙ x.3, x.4, subst (λ p. Stands of code at arg x.1 x.0 p last' (part_of s l')) (sym (same_own s ne)) (subst (λ t. Stands of code at arg x.1 x.0 (own s) last' t) (sym (others s ne)) kept)));
      none = λ s h. let ne = not_here s h in (get_set_other acts i s slot ne ∙ (core.none s h).0, others s ne ∙ (core.none s h).1);
      long = omega (arith, core.long, length-set acts i slot);
      counted = omega (arith, core.counted, bump_length steps i);
    }

-- a thread begins, which has nothing for itself
pub core_new : (of : ℕ → Class) (code : Code) (threads : List (ℕ × ℕ)) (acts : List Slot) (steps : List ℕ) (own : ℕ → Segs) (last : ℕ) (l : List (ℕ × Act)) (at arg : ℕ) → Core of code acts steps own last threads l → globals_of code ≤ last → CanStart code at arg → own (length acts) ≡ (λ g. []) → Core of code (acts ++ Live at (put (λ x. 0) 1 arg) ∷ []) (steps ++ 0 ∷ []) own last (threads ++ (at, arg) ∷ []) l
core_new of code threads acts steps own last l at arg core le starts nothing = record {
  each = λ a at' arg' h. ⊎_elim
      (λ old. let x = core.each a at' arg' old in (x.0, x.1, get_left acts _ a x.0 x.2, get_left steps _ a x.1 x.3, x.4, x.5))
      (λ new.
      let same_at : at ≡ at' = ap (λ p. p.0) new.1 in
      let same_arg : arg ≡ arg' = ap (λ p. p.1) new.1 in
      let n : length acts ≡ a = omega (arith, core.long, new.0) in
      let k : length steps ≡ a = omega (arith, core.counted, new.0) in
      let gone : slice_get threads a ≡ None = slice_get_past threads a (omega (arith, new.0)) in
      let empty : part_of a l ≡ [] = (core.none a gone).1 in
      let first = subst (λ p. Stands of code at arg 0 (Live at (put (λ x. 0) 1 arg)) p last []) (sym (ap own (sym n) ∙ nothing)) (stands_first of code at arg last le) in
      let mine = subst (λ t. Stands of code at arg 0 (Live at (put (λ x. 0) 1 arg)) (own a) last t) (sym empty) first in (
        Live at (put (λ x. 0) 1 arg),
        0,
        ap (λ u. slice_get (acts ++ Live at (put (λ x. 0) 1 arg) ∷ []) u) (sym n) ∙ get_last acts (Live at (put (λ x. 0) 1 arg)),
        ap (λ u. slice_get (steps ++ 0 ∷ []) u) (sym k) ∙ get_last steps 0,
        subst (λ u. CanStart code at' u) same_arg (subst (λ u. CanStart code u arg) same_at starts),
        subst (λ u. Stands of code at' u 0 (Live at (put (λ x. 0) 1 arg)) (own a) last (part_of a l)) same_arg (subst (λ u. Stands of code u arg 0 (Live at (put (λ x. 0) 1 arg)) (own a) last (part_of a l)) same_at mine),
      ))
      (get_cases threads (at, arg) a (at', arg') h);
  none = λ a h. let x = get_none threads (at, arg) a h in let y = core.none a x.0 in (none_more acts (Live at (put (λ x. 0) 1 arg)) a y.0 (λ q. x.1 (omega (arith, core.long, q))), y.1);
  long = omega (arith, core.long, length-append acts (Live at (put (λ x. 0) 1 arg) ∷ []), length-append threads ((at, arg) ∷ []));
  counted = omega (arith, core.counted, length-append steps (0 ∷ []), length-append threads ((at, arg) ∷ []));
}
