-- Lists, element by element.
use Rattle.std.proofs.Common.{◌≡◌, ℕ, zero, suc, ◌<◌, List, [], ◌∷◌, ◌++◌, length, map, take, Bool, refl, sym, ap, ◌∙◌, arith, ◌⊎◌, inl, inr}
use Rattle.std.specs.Prelude.{IsTrue, Option, Some, None, slice_get, slice_set, unwrap_or}
use Rattle.std.specs.List.{All}
use Rattle.xc_tree.specs.Lists.{every}
use Rattle.xc_tree.proofs.Lists.{and_both}
use Rattle.xc_welltyped_claims.specs.Lists.{Each, StartsWith}
use Rattle.xc_welltyped_claims.proofs.RankLevels.{same_list}

-- each element ------------------------------------------------------------------------------------

pub each_all : {A : Type 0} (P : A → Type 0) (xs : List A) → Each P xs → All P xs
each_all P [] h k d lt = absurd (omega (arith, lt))
each_all P (x ∷ xs) h zero d lt = h.0
each_all P (x ∷ xs) h (suc k) d lt = each_all P xs h.1 k d (omega (arith, lt))

pub all_each : {A : Type 0} (P : A → Type 0) (xs : List A) → All P xs → Each P xs
all_each P [] h = tt
all_each P (x ∷ xs) h = let lt : 0 < length (x ∷ xs) = omega arith in (h 0 x lt, all_each P xs (λ k d l. h (suc k) d (omega (arith, l))))

pub each_with : {A : Type 0} (P Q R : A → Type 0) → ((x : A) → P x → Q x → R x) → (xs : List A) → Each P xs → Each Q xs → Each R xs
each_with P Q R f [] h k = tt
each_with P Q R f (x ∷ xs) h k = (f x h.0 k.0, each_with P Q R f xs h.1 k.1)

pub map_each : {A B : Type 0} (f g : A → B) (xs : List A) → Each (λ x. f x ≡ g x) xs → map f xs ≡ map g xs
map_each f g [] h = refl
map_each f g (x ∷ xs) h = let first = h.0 in let rest = map_each f g xs h.1 in (λ i. first i ∷ rest i)

pub every_of : {A : Type 0} (p : A → Bool) (xs : List A) → Each (λ x. IsTrue (p x)) xs → IsTrue (every (map p xs))
every_of p [] h = refl
every_of p (x ∷ xs) h = and_both (p x) _ h.0 (every_of p xs h.1)

pub each_at : {A : Type 0} (P : A → Type 0) (xs : List A) → ((n : ℕ) (x : A) → slice_get xs n ≡ Some x → P x) → Each P xs
each_at P [] h = tt
each_at P (x ∷ xs) h = (h 0 x refl, each_at P xs (λ n. h (suc n)))

-- lists that agree where a third one has elements ------------------------------------------------

none_past : {A B : Type 0} (xs : List A) (ys : List B) → length xs ≡ length ys → (i : ℕ) → slice_get xs i ≡ None → slice_get ys i ≡ None
none_past [] [] e i is = refl
none_past [] (y ∷ ys) e i is = absurd (omega (arith, e))
none_past (x ∷ xs) [] e i is = refl
none_past (x ∷ xs) (y ∷ ys) e zero is = absurd cc
none_past (x ∷ xs) (y ∷ ys) e (suc i) is = none_past xs ys (omega (arith, e)) i is

pub same_over : {A B : Type 0} (os : List A) (xs ys : List B) → length os ≡ length xs → length os ≡ length ys →
    ((n : ℕ) (o : A) → slice_get os n ≡ Some o → slice_get xs n ≡ slice_get ys n) → xs ≡ ys
same_over {A} os xs ys ex ey h = same_list xs ys (λ i. by i (slice_get os i) refl)
  where
    by : (i : ℕ) (o : Option A) → slice_get os i ≡ o → slice_get xs i ≡ slice_get ys i
    by i None e = none_past os xs ex i e ∙ sym (none_past os ys ey i e)
    by i (Some o) e = h i o e

-- one more element ---------------------------------------------------------------------------------

pub get_push : {A : Type 0} (xs : List A) (y : A) (n : ℕ) (x : A) → slice_get (xs ++ y ∷ []) n ≡ Some x → (slice_get xs n ≡ Some x) ⊎ ((n ≡ length xs) × (y ≡ x))
get_push [] y zero x e = inr (refl, (let same : y ≡ x = cc in same))
get_push [] y (suc n) x e = absurd cc
get_push (z ∷ xs) y zero x e = inl e
get_push {A} (z ∷ xs) y (suc n) x e = by (get_push xs y n x e)
  where
    by : (slice_get xs n ≡ Some x) ⊎ ((n ≡ length xs) × (y ≡ x)) → (slice_get xs n ≡ Some x) ⊎ ((suc n ≡ suc (length xs)) × (y ≡ x))
    by (inl is) = inl is
    by (inr is) = inr (ap suc is.0, is.1)

pub get_end : {A : Type 0} (xs : List A) (y : A) → slice_get (xs ++ y ∷ []) (length xs) ≡ Some y
get_end [] y = refl
get_end (x ∷ xs) y = get_end xs y

pub zero_push : (xs : List ℕ) (n : ℕ) → unwrap_or (slice_get (xs ++ 0 ∷ []) n) 0 ≡ unwrap_or (slice_get xs n) 0
zero_push [] zero = refl
zero_push [] (suc n) = refl
zero_push (x ∷ xs) zero = refl
zero_push (x ∷ xs) (suc n) = zero_push xs n

-- one element is another one ------------------------------------------------------------------------

pub set_here : {A : Type 0} (xs : List A) (n : ℕ) (y : A) → n < length xs → slice_get (slice_set xs n y) n ≡ Some y
set_here [] n y lt = absurd (omega (arith, lt))
set_here (x ∷ xs) zero y lt = refl
set_here (x ∷ xs) (suc n) y lt = set_here xs n y (omega (arith, lt))

pub set_other : {A : Type 0} (xs : List A) (n k : ℕ) (y : A) → (n ≡ k → ⊥) → slice_get (slice_set xs n y) k ≡ slice_get xs k
set_other [] n k y ne = refl
set_other (x ∷ xs) zero zero y ne = absurd (ne refl)
set_other (x ∷ xs) zero (suc k) y ne = refl
set_other (x ∷ xs) (suc n) zero y ne = refl
set_other (x ∷ xs) (suc n) (suc k) y ne = set_other xs n k y (λ e. ne (ap suc e))

set_middle : {A : Type 0} (xs : List A) (y : A) (zs : List A) (v : A) → slice_set ((xs ++ y ∷ []) ++ zs) (length xs) v ≡ xs ++ v ∷ zs
set_middle [] y zs v = refl
set_middle (x ∷ xs) y zs v = ap (λ l. x ∷ l) (set_middle xs y zs v)

-- the element behind a list is another one
pub set_behind : {A : Type 0} (xs : List A) (y : A) (ys : List A) (n : ℕ) (v : A) → length xs ≡ n → (s : StartsWith (xs ++ y ∷ []) ys) → slice_set ys n v ≡ xs ++ v ∷ s.0
set_behind xs y ys n v e s = (λ i. slice_set (s.1 i) (sym e i) v) ∙ set_middle xs y s.0 v

-- the first elements --------------------------------------------------------------------------------

pub get_take : {A : Type 0} (k : ℕ) (xs : List A) (n : ℕ) → n < k → slice_get (take k xs) n ≡ slice_get xs n
get_take zero xs n lt = absurd (omega (arith, lt))
get_take (suc k) [] n lt = refl
get_take (suc k) (x ∷ xs) zero lt = refl
get_take (suc k) (x ∷ xs) (suc n) lt = get_take k xs n (omega (arith, lt))
