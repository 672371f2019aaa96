-- Scopes, outermost first: lists of names with what they stand for (C99 6.2.1).
use Rattle.std.specs.Prelude.{ℕ, ◌-◌, Bool, true, false, nat_eq, is_none, List, [], ◌∷◌, ◌++◌, Option, Some, None, length, take}
use Rattle.std.specs.Map.{lookup}
use Rattle.indexmap.specs.IndexMap.{insert_entry}

module _ {T : Type 0} where
  -- what a name stands for in one scope
  abbrev pub in_one : ℕ → List (ℕ × T) → Option T
  in_one name es = lookup (nat_eq name) es

  abbrev pub or_else : Option T → Option T → Option T
  or_else None o = o
  or_else (Some x) o = Some x

  abbrev pub found_from : Option T → ℕ → List (List (ℕ × T)) → Option T
  found_from was name [] = was
  found_from was name (s ∷ ss) = found_from (or_else (in_one name s) was) name ss

  -- what a name stands for: a later scope, which is an inner one, hides those before it
  abbrev pub found_in : ℕ → List (List (ℕ × T)) → Option T
  found_in name env = found_from None name env

  -- with one more scope, innermost, that has no names
  abbrev pub entered : List (List (ℕ × T)) → List (List (ℕ × T))
  entered env = env ++ [] ∷ []

  -- without the innermost scope
  abbrev pub left : List (List (ℕ × T)) → List (List (ℕ × T))
  left env = take (length env - 1) env

  -- with a name in the innermost scope; one that is there stands for this from now on
  abbrev pub declared_in : ℕ → T → List (List (ℕ × T)) → List (List (ℕ × T))
  declared_in name x [] = []
  declared_in name x (s ∷ []) = insert_entry nat_eq s name x ∷ []
  declared_in name x (s ∷ t ∷ ss) = s ∷ declared_in name x (t ∷ ss)

  -- the innermost scope lacks the name
  abbrev pub is_new : ℕ → List (List (ℕ × T)) → Bool
  is_new name [] = true
  is_new name (s ∷ []) = is_none (in_one name s)
  is_new name (s ∷ t ∷ ss) = is_new name (t ∷ ss)

  -- there is no scope
  abbrev pub has_none : List (List (ℕ × T)) → Bool
  has_none [] = true
  has_none (s ∷ ss) = false
