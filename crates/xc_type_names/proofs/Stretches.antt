-- Stretches of the source that were read before.
use Rattle.std.proofs.Common.{◌≡◌, ℕ, Bool, true, false, cond, List, [], ◌∷◌, ◌++◌, position, refl, sym, ap, ◌∙◌, true≢false, if◌then◌else◌}
use Rattle.std.specs.Prelude.{◌||◌, ◌&&◌, not, Option, Some}
use Rattle.std.specs.List.{list_any}
use Rattle.std.specs.Map.{lookup}
use Rattle.std.specs.Str.{bytes_eq}
use Rattle.std.proofs.lemmas.Bool.{eqb-true}
use Rattle.std.proofs.lemmas.List.Folds.{list_any-append}
use Rattle.std.proofs.lemmas.Slice.Eq.{bytes_eq-Decides}
use Rattle.indexmap.specs.IndexSet.{insert_key}
use Rattle.xc_type_names.specs.Stretches.{bytes_at, AreIn, ArePlaces}
use Rattle.xc_text_place.specs.Stretches.{stretch_eq}

both_true : (b c : Bool) → (b && c) ≡ true → (b ≡ true) × (c ≡ true)
both_true true c e = (refl, e)
both_true false c e = absurd (true≢false (sym e))

either_true : (b c : Bool) → (b || c) ≡ true → c ≡ false → b ≡ true
either_true true c e f = refl
either_true false c e f = absurd (true≢false (sym e ∙ f))

or_true : (b : Bool) → (b || true) ≡ true
or_true true = refl
or_true false = refl

same_bytes : (source : List ℕ) (p q : ℕ × ℕ) → stretch_eq p q ≡ true → bytes_at source p ≡ bytes_at source q
same_bytes source p q e =
    let two = both_true _ _ e in
    let first = eqb-true p.0 q.0 two.0 in
    let second = eqb-true p.1 q.1 two.1 in
    (λ i. bytes_at source (first i, second i))

bytes_self : (text : List ℕ) → bytes_eq text text ≡ true
bytes_self text = (bytes_eq-Decides text text).1 refl

pub not_false : (b : Bool) → not b ≡ false → b ≡ true
not_false true e = refl
not_false false e = absurd (true≢false e)

-- a text that is there is not put again
pub there : (known : List (List ℕ)) (text : List ℕ) → list_any (bytes_eq text) known ≡ true → insert_key bytes_eq known text ≡ known
there known text e = ap (λ b. if b then known else known ++ text ∷ []) e

stays : (known : List (List ℕ)) (text other : List ℕ) → list_any (bytes_eq other) known ≡ true → list_any (bytes_eq other) (insert_key bytes_eq known text) ≡ true
stays known text other e = by (list_any (bytes_eq text) known) refl
  where
    by : (b : Bool) → list_any (bytes_eq text) known ≡ b → list_any (bytes_eq other) (insert_key bytes_eq known text) ≡ true
    by true f = ap (list_any (bytes_eq other)) (there known text f) ∙ e
    by false f = ap (λ b. list_any (bytes_eq other) (if b then known else known ++ text ∷ [])) f
        ∙ list_any-append (bytes_eq other) known (text ∷ []) ∙ ap (λ b. b || list_any (bytes_eq other) (text ∷ [])) e

put : (known : List (List ℕ)) (text : List ℕ) → list_any (bytes_eq text) (insert_key bytes_eq known text) ≡ true
put known text = by (list_any (bytes_eq text) known) refl
  where
    by : (b : Bool) → list_any (bytes_eq text) known ≡ b → list_any (bytes_eq text) (insert_key bytes_eq known text) ≡ true
    by true f = ap (list_any (bytes_eq text)) (there known text f) ∙ f
    by false f = ap (λ b. list_any (bytes_eq text) (if b then known else known ++ text ∷ [])) f
        ∙ list_any-append (bytes_eq text) known (text ∷ []) ∙ ap (λ b. list_any (bytes_eq text) known || (b || false)) (bytes_self text) ∙ or_true _

-- one more stretch, with its text
pub are_in : (source : List ℕ) (seen : List (ℕ × ℕ)) (known : List (List ℕ)) (q : ℕ × ℕ) → AreIn source seen known →
    AreIn source (insert_key stretch_eq seen q) (insert_key bytes_eq known (bytes_at source q))
are_in source seen known q all p found = by (list_any (stretch_eq q) seen) refl
  where
    new : list_any (stretch_eq p) (seen ++ q ∷ []) ≡ true → (b : Bool) → stretch_eq p q ≡ b → list_any (bytes_eq (bytes_at source p)) (insert_key bytes_eq known (bytes_at source q)) ≡ true
    new e true f = ap (λ t. list_any (bytes_eq t) (insert_key bytes_eq known (bytes_at source q))) (same_bytes source p q f) ∙ put known (bytes_at source q)
    new e false f = stays known (bytes_at source q) (bytes_at source p)
        (all p (either_true _ (stretch_eq p q || false) (sym (list_any-append (stretch_eq p) seen (q ∷ [])) ∙ e) (ap (λ b. b || false) f)))

    by : (b : Bool) → list_any (stretch_eq q) seen ≡ b → list_any (bytes_eq (bytes_at source p)) (insert_key bytes_eq known (bytes_at source q)) ≡ true
    by true e = stays known (bytes_at source q) (bytes_at source p) (all p (sym (ap (λ b. list_any (stretch_eq p) (if b then seen else seen ++ q ∷ [])) e) ∙ found))
    by false e = new (sym (ap (λ b. list_any (stretch_eq p) (if b then seen else seen ++ q ∷ [])) e) ∙ found) (stretch_eq p q) refl

-- one more stretch, with its place
pub are_places : (source : List ℕ) (known : List (List ℕ)) (q : ℕ × ℕ) (here : Option ℕ) (old new : List ((ℕ × ℕ) × Option ℕ)) →
    here ≡ position (bytes_eq (bytes_at source q)) known → ArePlaces source known old →
    ((p : ℕ × ℕ) → lookup (stretch_eq p) new ≡ cond (stretch_eq q p) (Some here) (lookup (stretch_eq p) old)) → ArePlaces source known new
are_places source known q here old new is all put p place found = by (stretch_eq q p) refl
  where
    by : (b : Bool) → stretch_eq q p ≡ b → place ≡ position (bytes_eq (bytes_at source p)) known
    by true e =
        let two : Some place ≡ Some here = sym found ∙ put p ∙ ap (λ b. cond b (Some here) (lookup (stretch_eq p) old)) e in
        let same : place ≡ here = cc in
        same ∙ is ∙ ap (λ t. position (bytes_eq t) known) (same_bytes source q p e)
    by false e = all p place (sym (put p ∙ ap (λ b. cond b (Some here) (lookup (stretch_eq p) old)) e) ∙ found)
