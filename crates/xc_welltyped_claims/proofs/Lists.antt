-- Lists that go on with others.
use Rattle.std.proofs.Common.{◌≡◌, ℕ, zero, suc, ◌≤◌, List, [], ◌∷◌, ◌++◌, map, length, take, Bool, refl, sym, ap, ◌∙◌, subst, arith, append_assoc}
use Rattle.std.specs.Prelude.{IsTrue, Some, slice_get}
use Rattle.std.proofs.lemmas.List.{append-nil, map-append}
use Rattle.xc_tree.specs.Lists.{every}
use Rattle.xc_tree.proofs.Lists.{and_left, and_right, and_both}
use Rattle.xc_welltyped_claims.specs.Lists.{Each, StartsWith, StaysSet}

-- beginnings --------------------------------------------------------------------

pub starts_self : {A : Type 0} (xs : List A) → StartsWith xs xs
starts_self xs = ([], sym (append-nil xs))

pub starts_same : {A : Type 0} (xs ys : List A) → ys ≡ xs → StartsWith xs ys
starts_same xs ys e = ([], e ∙ sym (append-nil xs))

pub starts_more : {A : Type 0} (xs ys : List A) → StartsWith xs (xs ++ ys)
starts_more xs ys = (ys, refl)

pub starts_then : {A : Type 0} (xs ys zs : List A) → StartsWith xs ys → StartsWith ys zs → StartsWith xs zs
starts_then xs ys zs s t = (s.0 ++ t.0, t.1 ∙ ap (λ l. l ++ t.0) s.1 ∙ append_assoc xs s.0 t.0)

pub starts_map : {A B : Type 0} (f : A → B) (xs ys : List A) → StartsWith xs ys → StartsWith (map f xs) (map f ys)
starts_map f xs ys s = (map f s.0, ap (map f) s.1 ∙ map-append f xs s.0)

-- an element of the first list
pub get_left : {A : Type 0} (xs ys : List A) (n : ℕ) (x : A) → slice_get xs n ≡ Some x → slice_get (xs ++ ys) n ≡ Some x
get_left [] ys n x e = absurd cc
get_left (y ∷ xs) ys zero x e = e
get_left (y ∷ xs) ys (suc n) x e = get_left xs ys n x e

pub starts_get : {A : Type 0} (xs ys : List A) → StartsWith xs ys → (n : ℕ) (x : A) → slice_get xs n ≡ Some x → slice_get ys n ≡ Some x
starts_get xs ys s n x e = subst (λ l. slice_get l n ≡ Some x) (sym s.1) (get_left xs s.0 n x e)

pub length_left : {A : Type 0} (xs ys : List A) → length xs ≤ length (xs ++ ys)
length_left [] ys = omega arith
length_left (x ∷ xs) ys = let less = length_left xs ys in omega (arith, less)

pub starts_length : {A : Type 0} (xs ys : List A) → StartsWith xs ys → length xs ≤ length ys
starts_length xs ys s = subst (λ l. length xs ≤ length l) (sym s.1) (length_left xs s.0)

-- the first few of a list
pub get_taken : {A : Type 0} (n : ℕ) (xs : List A) (k : ℕ) (x : A) → slice_get (take n xs) k ≡ Some x → slice_get xs k ≡ Some x
get_taken zero xs k x e = absurd cc
get_taken (suc n) [] k x e = absurd cc
get_taken (suc n) (y ∷ xs) zero x e = e
get_taken (suc n) (y ∷ xs) (suc k) x e = get_taken n xs k x e

pub get_taken_more : {A : Type 0} (n m : ℕ) (xs : List A) (k : ℕ) (x : A) → n ≤ m → slice_get (take n xs) k ≡ Some x → slice_get (take m xs) k ≡ Some x
get_taken_more zero m xs k x le e = absurd cc
get_taken_more (suc n) zero xs k x le e = absurd (omega (arith, le))
get_taken_more (suc n) (suc m) [] k x le e = absurd cc
get_taken_more (suc n) (suc m) (y ∷ xs) zero x le e = e
get_taken_more (suc n) (suc m) (y ∷ xs) (suc k) x le e = get_taken_more n m xs k x (omega (arith, le)) e

-- tests ---------------------------------------------------------------------------

pub every_left : (xs ys : List Bool) → IsTrue (every (xs ++ ys)) → IsTrue (every xs)
every_left [] ys h = refl
every_left (x ∷ xs) ys h = and_both x _ (and_left x _ h) (every_left xs ys (and_right x _ h))

pub every_both : (xs ys : List Bool) → IsTrue (every xs) → IsTrue (every ys) → IsTrue (every (xs ++ ys))
every_both [] ys h k = k
every_both (x ∷ xs) ys h k = and_both x _ (and_left x _ h) (every_both xs ys (and_right x _ h) k)

pub each_both : {A : Type 0} (P : A → Type 0) (xs ys : List A) → Each P xs → Each P ys → Each P (xs ++ ys)
each_both P [] ys h k = k
each_both P (x ∷ xs) ys h k = (h.0, each_both P xs ys h.1 k)

pub each_more : {A : Type 0} (P Q : A → Type 0) → ((x : A) → P x → Q x) → (xs : List A) → Each P xs → Each Q xs
each_more P Q f [] h = tt
each_more P Q f (x ∷ xs) h = (f x h.0, each_more P Q f xs h.1)

pub each_get : {A : Type 0} (P : A → Type 0) (xs : List A) (n : ℕ) (x : A) → slice_get xs n ≡ Some x → Each P xs → P x
each_get P [] n x e h = absurd cc
each_get P (y ∷ xs) zero x e h = let same : y ≡ x = cc in subst P same h.0
each_get P (y ∷ xs) (suc n) x e h = each_get P xs n x e h.1

-- marks ---------------------------------------------------------------------------

pub set_self : (bs : List Bool) → StaysSet bs bs
set_self bs n e = e

pub set_then : (xs ys zs : List Bool) → StaysSet xs ys → StaysSet ys zs → StaysSet xs zs
set_then xs ys zs f g n e = g n (f n e)
