-- The machine is exact, since what has halted stays so.
use Rattle.std.proofs.Common.{◌≡◌, ℕ, zero, suc, ◌+◌, ◌-◌, ◌≤◌, List, refl, sym, ap, ◌∙◌, subst, arith, ◌⊎◌, inl, inr, ⊎_elim}
use Rattle.xc_meaning_terms.specs.Terms.{Program}
use Rattle.xc_meaning_threads.specs.Events.{Event, Main}
use Rattle.xc_meaning_threads.specs.Meaning.{Trapped, NoReply, NoFuel, Outcome, Gives, Halts, Exit, run_of}
use Rattle.xc_meaning_moves.specs.Machine.{Config, Next, Goes, Stops, does, on_next, moves, start}
use Rattle.xc_meaning_moves.specs.Laws.{IsLate, HaltsRightly, OneOutcome}
use Rattle.xc_meaning_moves.proofs.Interprets.{interprets}

-- more moves change nothing of what has halted
pub halted : (prog : Program) (j i : ℕ) (c : Config) → (IsLate (moves prog j c) → ⊥) → moves prog (j + i) c ≡ moves prog j c
halted prog zero i c h = absurd (h tt)
halted prog (suc j) i c h =
    let more : suc j + i ≡ suc (j + i) = omega arith in
    ap (λ m. moves prog m c) more ∙ at (does prog c.control c.stack c.point) h (λ d. halted prog j i d) where
      at : (x : Next) → (IsLate (on_next x (moves prog j)) → ⊥) → ((d : Config) → (IsLate (moves prog j d) → ⊥) → moves prog (j + i) d ≡ moves prog j d)
          → on_next x (moves prog (j + i)) ≡ on_next x (moves prog j)
      at (Goes d) h go = go d h
      at (Stops o) h go = refl

halted_at : (prog : Program) (j k : ℕ) (c : Config) → j ≤ k → (IsLate (moves prog j c) → ⊥) → moves prog k c ≡ moves prog j c
halted_at prog j k c le h = let sum : j + (k - j) ≡ k = omega (arith, le) in ap (λ m. moves prog m c) (sym sum) ∙ halted prog j (k - j) c h

-- two numbers of moves after which it has halted come to the same
both_halted : (prog : Program) (j k : ℕ) (c : Config) → (IsLate (moves prog j c) → ⊥) → (IsLate (moves prog k c) → ⊥) → moves prog j c ≡ moves prog k c
both_halted prog j k c h g = let turned : j + k ≡ k + j = omega arith in sym (halted prog j k c h) ∙ ap (λ m. moves prog m c) turned ∙ halted prog k j c g

-- an outcome is late, or it is not
pub late_or_not : (o : Outcome Exit) → ((t : List Event) × (o ≡ Halts NoFuel t)) ⊎ (IsLate o → ⊥)
late_or_not (Gives exit p) = inr (λ h. h)
late_or_not (Halts Trapped t) = inr (λ h. h)
late_or_not (Halts NoReply t) = inr (λ h. h)
late_or_not (Halts NoFuel t) = inl (t, refl)

pub halts_rightly : HaltsRightly
halts_rightly prog rs j o is h =
    let run = interprets prog (suc j) rs in
    let there : IsLate (moves prog j (start prog rs)) → ⊥ = λ l. h (subst IsLate is l) in
    ⊎_elim
    (λ late. absurd (
    let long : suc j ≤ run.0 = run.2 late.0 late.1 in
    let same : moves prog run.0 (start prog rs) ≡ moves prog j (start prog rs) = halted_at prog j run.0 (start prog rs) (omega (arith, long)) there in
    there (subst IsLate (sym late.1 ∙ sym run.1 ∙ same) tt)))
    (λ not. (suc j, sym run.1 ∙ both_halted prog run.0 j (start prog rs) (λ l. not (subst IsLate run.1 l)) there ∙ is))
    (late_or_not (run_of prog (suc j) Main rs))

pub one_outcome : OneOutcome
one_outcome prog rs m n h g =
    let a = interprets prog m rs in
    let b = interprets prog n rs in
    sym a.1 ∙ both_halted prog a.0 b.0 (start prog rs) (λ l. h (subst IsLate a.1 l)) (λ l. g (subst IsLate b.1 l)) ∙ b.1
