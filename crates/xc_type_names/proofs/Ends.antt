-- The innermost scope.
use Rattle.std.proofs.Common.{◌≡◌, ℕ, List, [], ◌∷◌, ◌++◌, refl, ap}
use Rattle.std.specs.Prelude.{nat_eq, is_none}
use Rattle.std.proofs.lemmas.List.{map-append}
use Rattle.std.proofs.lemmas.Grind.{common_steps}
use Rattle.indexmap.specs.IndexMap.{insert_entry}
use Rattle.xc_type_names.specs.Scoped.{declared_in, is_new, in_one}

module _ {T : Type 0} where
  pub declared_end : (name : ℕ) (x : T) (front : List (List (ℕ × T))) (s : List (ℕ × T)) → declared_in name x (front ++ s ∷ []) ≡ front ++ insert_entry nat_eq s name x ∷ []
  declared_end name x [] s = refl
  declared_end name x (t ∷ []) s = refl
  declared_end name x (t ∷ u ∷ ts) s = ap (λ r. t ∷ r) (declared_end name x (u ∷ ts) s)

  pub is_new_end : (name : ℕ) (front : List (List (ℕ × T))) (s : List (ℕ × T)) → is_new name (front ++ s ∷ []) ≡ is_none (in_one name s)
  is_new_end name [] s = refl
  is_new_end name (t ∷ []) s = refl
  is_new_end name (t ∷ u ∷ ts) s = is_new_end name (u ∷ ts) s

pub ruleset end_rules = (common_steps, declared_end, map-append)

pub ruleset new_rules = (common_steps, is_new_end, map-append)
