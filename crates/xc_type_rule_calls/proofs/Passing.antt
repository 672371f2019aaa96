-- Arguments, walked in order.
use Rattle.std.proofs.Common.{◌≡◌, ◌≢◌, ℕ, suc, ◌+◌, ◌<◌, List, [], ◌∷◌, ◌++◌, length, get_or, drop, Bool, true, false, refl, sym, ap, ◌∙◌, add-one}
use Rattle.std.specs.Prelude.{◌&&◌, Option, Some, None, slice_get, option_and_then}
use Rattle.std.proofs.Math.Seq.{drop-cons}
use Rattle.std.proofs.lemmas.Grind.{common_steps}
use Rattle.xc_tree.specs.declared.ty.Ty.{Ty}
use Rattle.xc_tree.specs.declared.expr.Expr.{Expr}
use Rattle.xc_type_rule.specs.declared.found.Found.{Found}
use Rattle.xc_type_rule.specs.Making.{both}
use Rattle.xc_type_rule_calls.specs.Arguments.{given_by, held_by, given_to, may_pass, all_fit, all_made}
use Rattle.xc_type_rule_calls.specs.InnerArguments.{one_more}

pub given_none : (ps : List (Option Ty)) → given_to ps [] ≡ []
given_none [] = refl
given_none (p ∷ ps) = refl

-- one more argument is given to the parameter at its place
pub given_snoc : (ps : List (Option Ty)) (fs : List Found) (f : Found) →
    given_to ps (fs ++ f ∷ []) ≡ given_to ps fs ++ given_by (option_and_then held_by (slice_get ps (length (given_to ps fs)))) f ∷ []
given_snoc [] fs f = refl
given_snoc (p ∷ ps) [] f = ap (λ r. given_by (held_by p) f ∷ r) (given_none ps)
given_snoc (p ∷ ps) (g ∷ gs) f = ap (λ r. given_by (held_by p) g ∷ r) (given_snoc ps gs f)

pub given_more : (ps : List (Option Ty)) (fs all : List Found) (f g : Found) → all ≡ given_to ps fs → g ≡ given_by (option_and_then held_by (slice_get ps (length all))) f →
    all ++ g ∷ [] ≡ given_to ps (fs ++ f ∷ [])
given_more ps fs all f g e h =
    ap (λ x. all ++ x ∷ []) h ∙ ap (λ a. a ++ given_by (option_and_then held_by (slice_get ps (length a))) f ∷ []) e ∙ sym (given_snoc ps fs f)

pub ruleset given_rules = (common_steps, given_more, given_none)

made_first : (m : Option Expr) → both (λ e es. e ∷ es) m (Some []) ≡ one_more (Some []) m
unfolding both
made_first None = refl
made_first (Some e) = refl

made_later : (a : Option Expr) (r : Option (List Expr)) (b : Option Expr) → both (λ e es. e ∷ es) a (one_more r b) ≡ one_more (both (λ e es. e ∷ es) a r) b
unfolding both
made_later None r b = refl
made_later (Some x) None b = refl
made_later (Some x) (Some es) None = refl
made_later (Some x) (Some es) (Some e) = refl

pub made_none : all_made [] ≡ Some []
unfolding all_made
made_none = refl

pub made_snoc : (fs : List Found) (f : Found) → all_made (fs ++ f ∷ []) ≡ one_more (all_made fs) f.made
unfolding all_made
made_snoc [] f = made_first f.made
made_snoc (g ∷ fs) f = ap (λ r. both (λ e es. e ∷ es) g.made r) (made_snoc fs f) ∙ made_later g.made (all_made fs) f.made

pub ruleset made_rules = (common_steps, made_none, made_snoc)

and_false : (b : Bool) → (b && false) ≡ false
and_false true = refl
and_false false = refl

pub fit_length : (ps : List (Option Ty)) (fs : List Found) → length ps ≢ length fs → all_fit ps fs ≡ false
fit_length [] [] h = absurd (h refl)
fit_length [] (f ∷ fs) h = refl
fit_length (p ∷ ps) [] h = refl
fit_length (p ∷ ps) (f ∷ fs) h = ap (λ b. may_pass p f.known && b) (fit_length ps fs (λ e. h (ap suc e))) ∙ and_false (may_pass p f.known)

pub fit_rest : (ps : List (Option Ty)) (fs : List Found) (i : ℕ) (p : Option Ty) (f : Found) → i < length ps → i < length fs →
    may_pass (get_or ps i p) (get_or fs i f).known ≡ true → all_fit (drop i ps) (drop i fs) ≡ all_fit (drop (i + 1) ps) (drop (i + 1) fs)
fit_rest ps fs i p f lt lt' e =
    rw add-one (ap (λ xs. all_fit xs (drop i fs)) (drop-cons ps i p lt) ∙ ap (λ xs. all_fit (get_or ps i p ∷ drop (suc i) ps) xs) (drop-cons fs i f lt')
    ∙ ap (λ b. b && all_fit (drop (suc i) ps) (drop (suc i) fs)) e)

pub fit_not : (ps : List (Option Ty)) (fs : List Found) (i : ℕ) (p : Option Ty) (f : Found) → i < length ps → i < length fs →
    may_pass (get_or ps i p) (get_or fs i f).known ≡ false → all_fit (drop i ps) (drop i fs) ≡ false
fit_not ps fs i p f lt lt' e =
    ap (λ xs. all_fit xs (drop i fs)) (drop-cons ps i p lt) ∙ ap (λ xs. all_fit (get_or ps i p ∷ drop (suc i) ps) xs) (drop-cons fs i f lt')
    ∙ ap (λ b. b && all_fit (drop (suc i) ps) (drop (suc i) fs)) e

pub ruleset fit_rules = (common_steps, fit_length, fit_rest, fit_not)
