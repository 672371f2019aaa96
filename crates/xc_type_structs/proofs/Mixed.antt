-- The summary of a list of cells decides whether it is mixed.
use Rattle.std.proofs.Common.{◌≡◌, List, [], ◌∷◌, ◌++◌, map, Bool, true, false, refl, sym, ap, ◌∙◌, subst}
use Rattle.std.specs.Prelude.{IsTrue, ◌&&◌, ◌||◌, not, Some}
use Rattle.xc_tree.specs.declared.ty.Ty.{Ty}
use Rattle.xc_tree.specs.Lists.{some}
use Rattle.xc_tree.specs.Types.{same_ty, holds_pointer, is_mixed}
use Rattle.xc_type_structs.specs.Kinds.{differ, summary, joined, is_varied, is_mixture, heads_differ, first_of}
use Rattle.xc_type_structs.proofs.Same.{same_is, same_self}

pub or_false : (b : Bool) → (b || false) ≡ b
or_false true = refl
or_false false = refl

or_true : (b : Bool) → (b || true) ≡ true
or_true true = refl
or_true false = refl

or_assoc : (a b c : Bool) → ((a || b) || c) ≡ (a || (b || c))
or_assoc true b c = refl
or_assoc false b c = refl

and_true : (b : Bool) → (b && true) ≡ b
and_true true = refl
and_true false = refl

and_false : (b : Bool) → (b && false) ≡ false
and_false true = refl
and_false false = refl

not_false : (b : Bool) → not b ≡ false → IsTrue b
not_false true e = refl
not_false false e = cc

-- types that do not differ are equal
alike : (t u : Ty) → differ t u ≡ false → t ≡ u
alike t u e = same_is t u (not_false (same_ty t u) e)

self : (t : Ty) → differ t t ≡ false
self t = ap not (same_self t)

-- two parts ----------------------------------------------------------------

some_append : {A : Type 0} (p : A → Bool) (xs ys : List A) → some (map p (xs ++ ys)) ≡ (some (map p xs) || some (map p ys))
some_append p [] ys = refl
some_append p (x ∷ xs) ys = ap (λ b. p x || b) (some_append p xs ys) ∙ sym (or_assoc (p x) (some (map p xs)) (some (map p ys)))

-- some of the second part differ from the first cell of all
varied_behind : (h : Ty) (b : List Ty) → some (map (differ h) b) ≡ (is_varied b || heads_differ (Some h) (first_of b))
varied_behind h [] = refl
varied_behind h (k ∷ ks) = by (differ h k) refl
  where
    by : (d : Bool) → differ h k ≡ d → (differ h k || some (map (differ h) ks)) ≡ (some (map (differ k) ks) || differ h k)
    by true e = ap (λ d. d || some (map (differ h) ks)) e ∙ sym (or_true (some (map (differ k) ks))) ∙ ap (λ d. some (map (differ k) ks) || d) (sym e)
    by false e = ap (λ d. d || some (map (differ h) ks)) e ∙ ap (λ t. some (map (differ t) ks)) (alike h k e)
        ∙ sym (or_false (some (map (differ k) ks))) ∙ ap (λ d. some (map (differ k) ks) || d) (sym e)

pub summary_append : (a b : List Ty) → summary (a ++ b) ≡ joined (summary a) (summary b)
unfolding summary
summary_append [] b = let v = sym (or_false (is_varied b)) in
    (λ i. record { head = first_of b; pointer = some (map holds_pointer b); varied = v i })
summary_append (h ∷ r) b =
    let p = some_append holds_pointer (h ∷ r) b in
    let v = some_append (differ h) r b ∙ ap (λ d. some (map (differ h) r) || d) (varied_behind h b) in
    (λ i. record { head = Some h; pointer = p i; varied = v i })

-- mixed --------------------------------------------------------------------

-- where all are one type, none is mixed with another
pure : (h : Ty) (ks : List Ty) (xs : List Ty) → some (map (differ h) ks) ≡ false → some (map (differ h) xs) ≡ false →
    some (map (λ t. holds_pointer t && some (map (differ t) ks)) xs) ≡ false
pure h ks [] none e = refl
pure h ks (x ∷ xs) none e = by (differ h x) refl (some (map (differ h) xs)) refl (pure h ks xs none)
  where
    by : (d : Bool) → differ h x ≡ d → (r : Bool) → some (map (differ h) xs) ≡ r →
        (some (map (differ h) xs) ≡ false → some (map (λ t. holds_pointer t && some (map (differ t) ks)) xs) ≡ false) →
        some (map (λ t. holds_pointer t && some (map (differ t) ks)) (x ∷ xs)) ≡ false
    by true f r g rest = absurd (let bad : true ≡ false = sym (ap (λ d. d || some (map (differ h) xs)) f) ∙ e in cc)
    by false f true g rest = absurd (let bad : true ≡ false = sym (ap (λ d. d || some (map (differ h) xs)) f ∙ g) ∙ e in cc)
    by false f false g rest =
        let here : some (map (differ x) ks) ≡ false = subst (λ t. some (map (differ t) ks) ≡ false) (alike h x f) none in
        ap (λ d. (holds_pointer x && d) || some (map (λ t. holds_pointer t && some (map (differ t) ks)) xs)) here
        ∙ ap (λ d. d || some (map (λ t. holds_pointer t && some (map (differ t) ks)) xs)) (and_false (holds_pointer x)) ∙ rest g

-- where the first differs from some, each type does
each : (h : Ty) (r : List Ty) → some (map (differ h) r) ≡ true → (t : Ty) → some (map (differ t) (h ∷ r)) ≡ true
each h r varied t = by (differ t h) refl
  where
    by : (d : Bool) → differ t h ≡ d → some (map (differ t) (h ∷ r)) ≡ true
    by true e = ap (λ d. d || some (map (differ t) r)) e
    by false e = ap (λ d. d || some (map (differ t) r)) e ∙ ap (λ u. some (map (differ u) r)) (alike t h e) ∙ varied

pointers : (p q : Ty → Bool) → ((t : Ty) → q t ≡ true) → (xs : List Ty) → some (map (λ t. p t && q t) xs) ≡ some (map p xs)
pointers p q all [] = refl
pointers p q all (x ∷ xs) = let e = ap (λ b. p x && b) (all x) ∙ and_true (p x) in let r = pointers p q all xs in (λ i. e i || r i)

pub mixture_is : (ks : List Ty) → is_mixture (summary ks) ≡ is_mixed ks
unfolding summary is_mixed
mixture_is [] = refl
mixture_is (h ∷ r) = by (some (map (differ h) r)) refl
  where
    by : (v : Bool) → some (map (differ h) r) ≡ v →
        (some (map holds_pointer (h ∷ r)) && some (map (differ h) r)) ≡ some (map (λ t. holds_pointer t && some (map (differ t) (h ∷ r))) (h ∷ r))
    by true e = ap (λ v. some (map holds_pointer (h ∷ r)) && v) e ∙ and_true _ ∙ sym (pointers holds_pointer (λ t. some (map (differ t) (h ∷ r))) (each h r e) (h ∷ r))
    by false e =
        let none : some (map (differ h) (h ∷ r)) ≡ false = ap (λ d. d || some (map (differ h) r)) (self h) ∙ e in
        ap (λ v. some (map holds_pointer (h ∷ r)) && v) e ∙ and_false _ ∙ sym (pure h (h ∷ r) (h ∷ r) none none)
