-- The texts of `printf` (C99 7.19.6.1): `%d`, `%i`, `%u` with `l` or `ll` or without, and `%%`.
use Rattle.std.specs.Prelude.{ℕ, Bool, ◌==◌, if◌then◌else◌, List, [], ◌∷◌, codes, option_map, ◌+◌, Option, Some, None}
use Rattle.xc_tree.specs.Lists.{has}

-- where in a conversion a byte stands
pub data Mode : Type 0 where
  text : Mode
  percent : Mode
  long : Mode
  long_long : Mode

abbrev pub is_letter : ℕ → Bool
is_letter c = has c (codes "diu")

-- how many integers the text takes, none where it is no valid one; 37 is `%` and 108 is `l`
unfoldable pub taken_from : Mode → List ℕ → Option ℕ
taken_from text [] = Some 0
taken_from text (c ∷ cs) = taken_from (if c == 37 then percent else text) cs
taken_from percent (c ∷ cs) = if c == 37 then taken_from text cs else
    (if c == 108 then taken_from long cs else (if is_letter c then option_map (λ n. n + 1) (taken_from text cs) else None))
taken_from long (c ∷ cs) = if c == 108 then taken_from long_long cs else
    (if is_letter c then option_map (λ n. n + 1) (taken_from text cs) else None)
taken_from long_long (c ∷ cs) = if is_letter c then option_map (λ n. n + 1) (taken_from text cs) else None
taken_from _ [] = None

abbrev pub integers_taken : List ℕ → Option ℕ
integers_taken = taken_from text
