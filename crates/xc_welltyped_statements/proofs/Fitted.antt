-- The value that an expression gives a scalar.
use Rattle.std.proofs.Common.{◌≡◌, ℕ, List, [], length, Bool, refl, sym, ap, ◌∙◌, subst, cond}
use Rattle.std.specs.Prelude.{IsTrue, Option, Some, None}
use Rattle.xc_text_place.specs.declared.Span.{Span}
use Rattle.xc_tree.specs.declared.ty.Ty.{Ty, out-Ty}
use Rattle.xc_tree.specs.declared.ty.Ty.TheOpen.{Ty-F}
use Rattle.xc_tree.specs.declared.ty.Ty.TheFolds.{map-Ty, fold_out-Ty}
use Rattle.xc_tree.specs.declared.expr.Expr.{Expr}
use Rattle.xc_tree.specs.Types.{Shape, Formed, formed, form_step, base, base_at, fits, is_object, cell_of}
use Rattle.xc_type_rule.specs.declared.found.Found.{Found}
use Rattle.xc_type_rule.specs.declared.found.Known.TheVariants as known
use Rattle.xc_type_rule.specs.Nulls.{given}
use Rattle.xc_type_rule.specs.Tests.{may_be}
use Rattle.xc_type_initialiser_objects.specs.Inits.{value_made, base_made, value_faults, base_faults}
use Rattle.xc_type_scopes.specs.declared.env.Env.{Env}
use Rattle.xc_type_expressions.specs.declared.text.Text.{Text}
use Rattle.xc_welltyped_claims.proofs.RankLevels.{formed_same}
use Rattle.xc_welltyped.specs.Sound.{Point, known_ok}
use Rattle.xc_welltyped.proofs.Objects.{base_ok}
use Rattle.xc_welltyped.proofs.Nulls.{given_sound}
use Rattle.xc_welltyped.proofs.Whole.{kept, given_whole}
use Rattle.xc_welltyped_locals.proofs.SeenValues.{given_seen}
use Rattle.xc_welltyped_locals.specs.Used.{IsUsed}
use Rattle.xc_welltyped_claims.specs.Types.{is_object_by}
use Rattle.xc_welltyped_claims.specs.Env.{Good, At}
use Rattle.xc_welltyped_claims.specs.Found.{Fine}
use Rattle.xc_welltyped_structs.proofs.Kept.{scalar_at}
use Rattle.xc_welltyped_statements.proofs.Values.{IsValue, has_value}

-- a scalar has one cell --------------------------------------------------------

one_level : (shapes : List Shape) (l : Ty-F Ty) → IsTrue (scalar_at l) → (form_step shapes (map-Ty Ty Formed (formed shapes) l)).shape.cell 0 ≡ Some (form_step shapes (map-Ty Ty Formed (formed shapes) l)).ty
one_level shapes Ty-F.Int h = refl
one_level shapes Ty-F.Uint h = refl
one_level shapes (Ty-F.Ptr to) h = refl
one_level shapes (Ty-F.Sync of) h = refl
one_level shapes (Ty-F.Future of) h = refl
one_level shapes Ty-F.Void h = absurd cc
one_level shapes (Ty-F.Array n of) h = absurd cc
one_level shapes (Ty-F.Struct s) h = absurd cc

scalar_level : (ty b : Ty) (l : Ty-F Ty) → base_at ty l ≡ Some b → IsTrue (scalar_at l)
scalar_level ty b Ty-F.Int e = refl
scalar_level ty b Ty-F.Uint e = refl
scalar_level ty b (Ty-F.Ptr to) e = refl
scalar_level ty b (Ty-F.Sync of) e = refl
scalar_level ty b (Ty-F.Future of) e = refl
scalar_level ty b Ty-F.Void e = absurd cc
scalar_level ty b (Ty-F.Array n of) e = absurd cc
scalar_level ty b (Ty-F.Struct s) e = absurd cc

pub scalar_cell : (shapes : List Shape) (ty b : Ty) → base ty ≡ Some b → cell_of shapes ty 0 ≡ Some ty
scalar_cell shapes ty b e =
    let out = fold_out-Ty Formed (form_step shapes) ty in
    ap (λ (f : Formed). f.shape.cell 0) out ∙ one_level shapes (out-Ty ty) (scalar_level ty b (out-Ty ty) e) ∙ sym (ap (λ (f : Formed). Some f.ty) out) ∙ ap Some (formed_same shapes ty)

-- values -------------------------------------------------------------------------

-- a value that is given to a scalar of this type
pub record IsFitted (t : Text) (e : Env) (ty : Ty) (o : Option Expr) : Type 0 where
  pub plain : Ty
  pub base : base ty ≡ Some plain
  pub made : Expr
  pub known : o ≡ Some made
  pub own : Ty
  pub fits : IsTrue (fits plain own)
  pub value : IsValue t e own made

-- a type is an object's in each program
abbrev pub ObjectTold : Text → Type 0
ObjectTold t = (so : Point) (e : Env) → Good e → At t so e → (ty : Ty) → is_object_by e.structs.sizes ty ≡ is_object so.shapes ty

module _ (t : Text) (object_told : ObjectTold t) (given_used : (flags : List Bool) (count : ℕ) (to : Ty) (f : Found) → IsUsed flags count f → IsUsed flags count (given to f)) where
  given_fine : (e : Env) (to : Ty) (f : Found) → ((so : Point) → At t so e → IsTrue (known_ok so (known.Value to))) → Fine t e f → Fine t e (given to f)
  given_fine e to f h k = record {
    whole = given_whole to f k.whole;
    sound = λ so p. given_sound so to f (h so p) (k.sound so p);
    seen = λ seen c. given_seen seen to f (k.seen seen c);
    used = λ flags m. given_used flags (length e.locals) to f (k.used flags m);
  }

  module _ (span : Span) (e : Env) (good : Good e) (ty : Ty) (object : IsTrue (is_object_by e.structs.sizes ty)) (v : Found) (fine : Fine t e v) where
    plain_fits : (b : Ty) → base ty ≡ Some b → IsTrue (may_be (fits b) (given b v).known) → IsFitted t e ty (base_made (Some b) v)
    plain_fits b is m =
        let g = given_fine e b v (λ so a. base_ok so ty b is (subst IsTrue (object_told so e good a ty) object)) fine in
        let x = has_value t e (fits b) (given b v) g m in
        record { plain = b; base = is; made = x.made; known = ap (λ c. cond c (given b v).made None) m ∙ x.is_made; own = x.ty; fits = x.passes; value = x.value }

    fits_by : (o : Option Ty) → base ty ≡ o → base_faults span o v ≡ [] → IsFitted t e ty (base_made o v)
    fits_by None is none = absurd cc
    fits_by (Some b) is none = plain_fits b is (kept span (may_be (fits b) (given b v).known) none)

    pub fitted_fine : value_faults span (Some ty) v ≡ [] → IsFitted t e ty (value_made (Some ty) v)
    unfolding value_made value_faults
    fitted_fine none = fits_by (base ty) refl none
