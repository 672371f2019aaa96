-- Lists of what is made, and the beginning of loops.
use Rattle.std.proofs.Common.{◌≡◌, ℕ, List, [], ◌∷◌, refl, ap, append_assoc}
use Rattle.std.specs.Prelude.{Option, Some, None}
use Rattle.std.proofs.lemmas.List.{append-nil}
use Rattle.std.proofs.lemmas.Grind.{common_steps}
use Rattle.xc_type_rule.proofs.Least.{least_append, least_none}
use Rattle.xc_type_scopes.specs.declared.env.Env.{Env}
use Rattle.xc_type_expressions.specs.declared.text.Text.{Text}
use Rattle.xc_type_statement_parts.specs.Making.{one, followed, all_made}
use Rattle.xc_type_statement_parts.specs.Pragmas.{begun}

-- lists of statements ----------------------------------------------------------

pub followed_first : {A : Type 0} (x : Option (List A)) → followed (Some []) x ≡ x
unfolding followed
followed_first None = refl
followed_first (Some xs) = refl

pub followed_last : {A : Type 0} (x : Option (List A)) → followed x (Some []) ≡ x
unfolding followed
followed_last None = refl
followed_last (Some xs) = ap Some (append-nil xs)

pub followed_assoc : {A : Type 0} (x y z : Option (List A)) → followed (followed x y) z ≡ followed x (followed y z)
unfolding followed
followed_assoc None y z = refl
followed_assoc (Some xs) None z = refl
followed_assoc (Some xs) (Some ys) None = refl
followed_assoc (Some xs) (Some ys) (Some zs) = ap Some (append_assoc xs ys zs)

pub made_none : {A : Type 0} → all_made {A = A} [] ≡ Some []
unfolding all_made
made_none = refl

pub made_more : {A : Type 0} (x : Option A) (xs : List (Option A)) → all_made (x ∷ xs) ≡ followed (one x) (all_made xs)
unfolding all_made
made_more x xs = refl

-- loops ------------------------------------------------------------------------

-- to begin a loop breaks no rule
pub begun_faults : (t : Text) (at : ℕ) (e : Env) → (begun t at e).faults ≡ []
unfolding begun
begun_faults t at e = refl

pub ruleset part_rules = (common_steps, least_append, least_none, followed_first, followed_last, followed_assoc, begun_faults)
