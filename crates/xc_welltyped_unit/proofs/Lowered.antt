-- The objects of a function, of which those whose address is never taken become values.
use Rattle.std.proofs.Common.{◌≡◌, ℕ, zero, suc, List, [], ◌∷◌, ◌++◌, length, map, take, Bool, true, false, refl, sym, ap, ◌∙◌, subst, arith}
use Rattle.std.specs.Prelude.{IsTrue, ◌||◌, ◌&&◌, is_some, Some, slice_get}
use Rattle.std.proofs.lemmas.List.{length-map}
use Rattle.xc_text_place.specs.declared.Span.{Span}
use Rattle.xc_tree.specs.declared.ty.Ty.{Ty, out-roll-Ty}
use Rattle.xc_tree.specs.declared.ty.Ty.TheOpen.{Ty-F}
use Rattle.xc_tree.specs.declared.ty.Ty.TheFolds.{map-Ty, fold-roll-Ty}
use Rattle.xc_tree.specs.declared.tree.Local.{Local}
use Rattle.xc_tree.specs.Types.{Shape, Formed, form_step, formed, is_object, plain_at, is_plain, base}
use Rattle.xc_tree.specs.Valid.{param_ok}
use Rattle.xc_tree.proofs.Lists.{and_both}
use Rattle.xc_welltyped_rules.specs.Callees.{param_of}
use Rattle.xc_type_scopes.specs.Env.{has_address_at, has_address}
use Rattle.xc_type_lowering.specs.Kept.{with_address}
use Rattle.xc_type_unit.specs.Functions.{locals_of}
use Rattle.xc_welltyped_claims.specs.Lists.{Each, StartsWith}
use Rattle.xc_welltyped_claims.specs.Env.{object_of}
use Rattle.xc_welltyped_structs.proofs.Scalars.{at_layer}

abbrev Named : Type 0
Named = Span × Ty

-- types ---------------------------------------------------------------------------

layer_plain : (shapes : List Shape) (l : Ty-F Ty) → IsTrue (form_step shapes (map-Ty Ty Formed (formed shapes) l)).ok → has_address_at l ≡ false → IsTrue (plain_at l)
layer_plain shapes Ty-F.Void h a = absurd (let no : false ≡ true = h in cc)
layer_plain shapes Ty-F.Int h a = refl
layer_plain shapes Ty-F.Uint h a = refl
layer_plain shapes (Ty-F.Ptr to) h a = refl
layer_plain shapes (Ty-F.Array n of) h a = absurd cc
layer_plain shapes (Ty-F.Struct s) h a = absurd cc
layer_plain shapes (Ty-F.Sync of) h a = absurd cc
layer_plain shapes (Ty-F.Future of) h a = absurd cc

-- an object is a plain scalar, where its type demands no address
object_plain : (shapes : List Shape) (ty : Ty) → IsTrue (is_object shapes ty) → has_address ty ≡ false → IsTrue (is_plain ty)
object_plain shapes = at_layer (λ ty. IsTrue (is_object shapes ty) → has_address ty ≡ false → IsTrue (is_plain ty)) (λ l h a.
    let o = out-roll-Ty l in
    subst (λ y. IsTrue (plain_at y)) (sym o) (layer_plain shapes l
    (subst (λ (f : Formed). IsTrue f.ok) (fold-roll-Ty Formed (form_step shapes) l) h)
    (subst (λ y. has_address_at y ≡ false) o a)))

marked_plain : (shapes : List Shape) (ty : Ty) (b : Bool) → (has_address ty ≡ true → b ≡ true) → IsTrue (is_object shapes ty) → IsTrue (b || is_plain ty)
marked_plain shapes ty true m h = refl
marked_plain shapes ty false m h = by (has_address ty) refl
  where
    by : (c : Bool) → has_address ty ≡ c → IsTrue (is_plain ty)
    by true e = absurd (let no : false ≡ true = m e in cc)
    by false e = object_plain shapes ty h e

-- all objects -----------------------------------------------------------------------

-- the marks of all
pub marks_same : (ls : List Named) (bs : List Bool) → length bs ≡ length ls → map (λ (l : Local). l.addressed) (locals_of ls bs) ≡ bs
marks_same [] [] e = refl
marks_same [] (b ∷ bs) e = absurd (omega (arith, e))
marks_same (l ∷ ls) [] e = refl
marks_same (l ∷ ls) (b ∷ bs) e = ap (λ m. b ∷ m) (marks_same ls bs (omega (arith, e)))

-- before lowering each has an address
pub objects_same : (ls : List Named) (bs : List Bool) → length bs ≡ length ls → map with_address (locals_of ls bs) ≡ map object_of ls
objects_same [] bs e = refl
objects_same (l ∷ ls) [] e = absurd (omega (arith, e))
objects_same (l ∷ ls) (b ∷ bs) e = ap (λ m. object_of l ∷ m) (objects_same ls bs (omega (arith, e)))

pub locals_many : (ls : List Named) (bs : List Bool) → length bs ≡ length ls → length (locals_of ls bs) ≡ length ls
locals_many ls bs e = sym (length-map (locals_of ls bs) with_address) ∙ ap length (objects_same ls bs e) ∙ length-map ls object_of

-- what is not marked is a plain scalar
pub locals_fit : (shapes : List Shape) (ls : List Named) (bs : List Bool) → ((n : ℕ) (l : Named) → slice_get ls n ≡ Some l → has_address l.1 ≡ true → slice_get bs n ≡ Some true) →
    Each (λ l. IsTrue (is_object shapes l.1)) ls → Each (λ (l : Local). IsTrue (is_object shapes l.ty && (l.addressed || is_plain l.ty))) (locals_of ls bs)
locals_fit shapes [] bs m h = tt
locals_fit shapes (l ∷ ls) [] m h = tt
locals_fit shapes (l ∷ ls) (b ∷ bs) m h =
    (and_both (is_object shapes l.1) _ h.0 (marked_plain shapes l.1 b (λ a. let is : Some b ≡ Some true = m zero l refl a in cc) h.0), locals_fit shapes ls bs (λ n. m (suc n)) h.1)

-- parameters --------------------------------------------------------------------------

first_types : (ls more : List Named) (bs : List Bool) → length bs ≡ length (ls ++ more) → map param_of (take (length ls) (locals_of (ls ++ more) bs)) ≡ map (λ (l : Named). Some l.1) ls
first_types [] more bs e = refl
first_types (l ∷ ls) more [] e = absurd (omega (arith, e))
first_types (l ∷ ls) more (b ∷ bs) e = ap (λ m. Some l.1 ∷ m) (first_types ls more bs (omega (arith, e)))

-- the types of the first objects
pub params_same : (ls all : List Named) (bs : List Bool) → StartsWith ls all → length bs ≡ length all → map param_of (take (length ls) (locals_of all bs)) ≡ map (λ (l : Named). Some l.1) ls
params_same ls all bs s = subst (λ all. length bs ≡ length all → map param_of (take (length ls) (locals_of all bs)) ≡ map (λ (l : Named). Some l.1) ls) (sym s.1) (first_types ls s.0 bs)

-- objects of these types are scalars
pub params_scalar : (xs : List Local) (ls : List Named) → map param_of xs ≡ map (λ (l : Named). Some l.1) ls → Each (λ (l : Named). IsTrue (is_some (base l.1))) ls → Each (λ x. IsTrue (param_ok x)) xs
params_scalar [] ls e h = tt
params_scalar (x ∷ xs) [] e h = absurd cc
params_scalar (x ∷ xs) (l ∷ ls) e h =
    let same : l.1 ≡ x.ty = cc in
    (subst (λ ty. IsTrue (is_some (base ty))) same h.0, params_scalar xs ls (let more : map param_of xs ≡ map (λ (l : Named). Some l.1) ls = cc in more) h.1)
