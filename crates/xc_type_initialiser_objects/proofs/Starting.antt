-- The cells of objects without initialisers, level by level.
use Rattle.std.proofs.Common.{◌≡◌, ℕ, zero, suc, ◌+◌, ◌-◌, ◌<◌, List, [], ◌∷◌, ◌++◌, drop, map, true, refl, sym, ap, ◌∙◌, arith, add-one, append_assoc}
use Rattle.std.specs.Prelude.{fold, replicate, Some, None, slice_get, unwrap_or}
use Rattle.std.proofs.lemmas.List.{append-nil}
use Rattle.std.proofs.lemmas.Grind.{common_steps, fold-append}
use Rattle.xc_tree.specs.declared.ty.Ty.{Ty, out-Ty, roll-out-Ty}
use Rattle.xc_tree.specs.declared.ty.Ty.TheOpen.{Ty-F}
use Rattle.xc_tree.specs.declared.ty.Ty.TheFolds.{fold-roll-Ty, map-Ty}
use Rattle.xc_tree.specs.Lists.{joined}
use Rattle.xc_tree.specs.Types.{plain_at, is_plain}
use Rattle.xc_type_rule.specs.declared.found.Member.{Member}
use Rattle.xc_type_initialiser_objects.specs.declared.cells.Laid.{Laid}
use Rattle.xc_type_initialiser_objects.specs.Cells.{Cell, fresh, start_step, start_of, member_start, struct_start, starts_within}
use Rattle.xc_type_initialiser_objects.specs.InnerCells.{with_fresh, with_cell}
use Rattle.xc_type_initialiser_objects.proofs.Laying.{laid_all, laid_fresh, one_fresh}

-- elements ---------------------------------------------------------------------

joined_next : (n : ℕ) (xs : List Cell) → joined (replicate n xs) ++ xs ≡ xs ++ joined (replicate n xs)
joined_next zero xs = sym (append-nil xs)
joined_next (suc n) xs = append_assoc xs (joined (replicate n xs)) xs ∙ ap (λ (r : List Cell). xs ++ r) (joined_next n xs)

-- one more element
pub element_next : (l : Laid) (n : ℕ) (xs : List Cell) →
    fold with_cell (fold with_cell l (joined (replicate n xs))) xs ≡ fold with_cell l (joined (replicate (n + 1) xs))
element_next l n xs = rw add-one (sym (fold-append with_cell l (joined (replicate n xs)) xs) ∙ ap (fold with_cell l) (joined_next n xs))

joined_fresh : (n : ℕ) → joined (replicate n (fresh ∷ [])) ≡ replicate n fresh
joined_fresh zero = refl
joined_fresh (suc n) = ap (λ (r : List Cell). fresh ∷ r) (joined_fresh n)

start_opened : (structs : List (List Cell)) (ty : Ty) → start_of structs ty ≡ start_step structs (map-Ty Ty (List Cell) (start_of structs) (out-Ty ty))
start_opened structs ty = ap (start_of structs) (sym (roll-out-Ty ty)) ∙ fold-roll-Ty (List Cell) (start_step structs) (out-Ty ty)

plain_step : (structs : List (List Cell)) (l : Ty-F Ty) → plain_at l ≡ true → start_step structs (map-Ty Ty (List Cell) (start_of structs) l) ≡ fresh ∷ []
plain_step structs Ty-F.Void e = cc
plain_step structs Ty-F.Int e = refl
plain_step structs Ty-F.Uint e = refl
plain_step structs (Ty-F.Ptr to) e = refl
plain_step structs (Ty-F.Array n of) e = cc
plain_step structs (Ty-F.Struct s) e = cc
plain_step structs (Ty-F.Sync of) e = cc
plain_step structs (Ty-F.Future of) e = cc

plain_start : (structs : List (List Cell)) (ty : Ty) → is_plain ty ≡ true → start_of structs ty ≡ fresh ∷ []
plain_start structs ty e = start_opened structs ty ∙ plain_step structs (out-Ty ty) e

-- an array of plain scalars
pub plain_elements : (l : Laid) (n : ℕ) (structs : List (List Cell)) (of : Ty) → is_plain of ≡ true →
    fold with_cell l (joined (replicate n (start_of structs of))) ≡ with_fresh l n
plain_elements l n structs of e =
    ap (λ (cs : List Cell). fold with_cell l (joined (replicate n cs))) (plain_start structs of e) ∙ ap (fold with_cell l) (joined_fresh n) ∙ laid_fresh n l

-- members ----------------------------------------------------------------------

drop_at : {A : Type 0} (xs : List A) (k : ℕ) (x : A) → slice_get xs k ≡ Some x → drop k xs ≡ x ∷ drop (suc k) xs
drop_at [] k x e = cc
drop_at (y ∷ xs) zero x e = cc
drop_at (y ∷ xs) (suc k) x e = drop_at xs k x e

drop_none : {A : Type 0} (xs : List A) (k : ℕ) → slice_get xs k ≡ None → drop k xs ≡ drop (suc k) xs
drop_none [] zero e = refl
drop_none [] (suc k) e = refl
drop_none (y ∷ xs) zero e = cc
drop_none (y ∷ xs) (suc k) e = drop_none xs k e

pub member_next : (l : Laid) (structs : List (List Cell)) (ms : List Member) (k : ℕ) (m : Member) → slice_get ms k ≡ Some m →
    fold with_cell (fold with_cell l (member_start structs m)) (struct_start structs (drop (k + 1) ms)) ≡ fold with_cell l (struct_start structs (drop k ms))
member_next l structs ms k m e =
    rw add-one (sym (fold-append with_cell l (member_start structs m) (struct_start structs (drop (suc k) ms)))
    ∙ sym (ap (λ (r : List Member). fold with_cell l (struct_start structs r)) (drop_at ms k m e)))

pub member_none : (structs : List (List Cell)) (ms : List Member) (k : ℕ) → slice_get ms k ≡ None →
    struct_start structs (drop (k + 1) ms) ≡ struct_start structs (drop k ms)
member_none structs ms k e = rw add-one (sym (ap (struct_start structs) (drop_none ms k e)))

-- structs ----------------------------------------------------------------------

pub no_level : (deep number : ℕ) (members : List (List Member)) → deep ≡ 0 → unwrap_or (slice_get (starts_within deep members) number) [] ≡ []
unfolding starts_within
no_level zero number members e = refl
no_level (suc deep) number members e = cc

at_map : (f : List Member → List Cell) (mss : List (List Member)) (k : ℕ) (ms : List Member) → slice_get mss k ≡ Some ms → unwrap_or (slice_get (map f mss) k) [] ≡ f ms
at_map f [] k ms e = cc
at_map f (x ∷ mss) zero ms e = cc
at_map f (x ∷ mss) (suc k) ms e = at_map f mss k ms e

past_map : (f : List Member → List Cell) (mss : List (List Member)) (k : ℕ) → slice_get mss k ≡ None → unwrap_or (slice_get (map f mss) k) [] ≡ []
past_map f [] k e = refl
past_map f (x ∷ mss) zero e = cc
past_map f (x ∷ mss) (suc k) e = past_map f mss k e

pub one_level : (deep number : ℕ) (members : List (List Member)) (ms : List Member) → 0 < deep → slice_get members number ≡ Some ms →
    unwrap_or (slice_get (starts_within deep members) number) [] ≡ struct_start (starts_within (deep - 1) members) ms
unfolding starts_within
one_level zero number members ms lt e = absurd (omega arith)
one_level (suc deep) number members ms lt e =
    let below : deep ≡ suc deep - 1 = omega arith in
    at_map (struct_start (starts_within deep members)) members number ms e ∙ ap (λ (d : ℕ). struct_start (starts_within d members) ms) below

pub past_level : (deep number : ℕ) (members : List (List Member)) → slice_get members number ≡ None →
    unwrap_or (slice_get (starts_within deep members) number) [] ≡ []
unfolding starts_within
past_level zero number members e = refl
past_level (suc deep) number members e = past_map (struct_start (starts_within deep members)) members number e

pub ruleset start_rules = (common_steps, laid_all, one_fresh, element_next, plain_elements, member_next, member_none, no_level, one_level, past_level)
