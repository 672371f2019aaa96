-- Tests of lists, walked by an index.
use Rattle.std.proofs.Common.{◌≡◌, ℕ, zero, suc, ◌+◌, ◌<◌, List, [], ◌∷◌, length, get_or, drop, map, Bool, true, false, refl, ap, ◌∙◌, subst, arith, add-one}
use Rattle.std.specs.Prelude.{IsTrue, ◌&&◌, ◌||◌}
use Rattle.std.proofs.Math.Seq.{drop-cons}
use Rattle.std.proofs.lemmas.Grind.{common_steps}
use Rattle.xc_tree.specs.Lists.{every, some}

pub and_left : (a b : Bool) → IsTrue (a && b) → IsTrue a
and_left true b h = refl
and_left false b h = cc

pub and_right : (a b : Bool) → IsTrue (a && b) → IsTrue b
and_right true b h = h
and_right false b h = cc

pub and_both : (a b : Bool) → IsTrue a → IsTrue b → IsTrue (a && b)
and_both true b h k = k
and_both false b h k = cc

-- the test with this number
pub pick : (bs : List Bool) (k : ℕ) → IsTrue (every bs) → IsTrue (get_or bs k true)
pick [] k h = refl
pick (b ∷ bs) zero h = and_left b _ h
pick (b ∷ bs) (suc k) h = pick bs k (and_right b _ h)

pub every_at : {X : Type 0} (p : X → Bool) (xs : List X) (i : ℕ) (d : X) → i < length xs → IsTrue (every (map p xs)) → IsTrue (p (get_or xs i d))
every_at p [] i d lt h = absurd (omega arith)
every_at p (x ∷ xs) zero d lt h = and_left (p x) _ h
every_at p (x ∷ xs) (suc i) d lt h = every_at p xs i d (omega arith) (and_right (p x) _ h)

pub every_rest : {X : Type 0} (p : X → Bool) (xs : List X) (i : ℕ) (d : X) → i < length xs → IsTrue (every (map p (drop i xs))) → IsTrue (every (map p (drop (i + 1) xs)))
every_rest p xs i d lt h =
    rw add-one (and_right (p (get_or xs i d)) _ (subst (λ l. IsTrue (every (map p l))) (drop-cons xs i d lt) h))

pub some_rest : {X : Type 0} (p : X → Bool) (xs : List X) (i : ℕ) (d : X) → i < length xs → p (get_or xs i d) ≡ false → some (map p (drop i xs)) ≡ some (map p (drop (i + 1) xs))
some_rest p xs i d lt fails =
    rw add-one (ap (λ l. some (map p l)) (drop-cons xs i d lt) ∙ ap (λ b. b || some (map p (drop (suc i) xs))) fails)

-- for walks over lists
pub ruleset list_rules = (common_steps, every_rest, some_rest)
