-- The program of a whole text has what stands at file scope.
use Rattle.std.proofs.Common.{◌≡◌, ℕ, ◌+◌, ◌^◌, ◌<◌, ◌≤◌, List, [], ◌∷◌, map, length, refl, sym, ◌∙◌, subst, arith}
use Rattle.std.specs.Prelude.{IsTrue, min, nat_lt, sum_by, Option, Some, None, slice_get}
use Rattle.std.proofs.lemmas.Bool.{lt-ltb}
use Rattle.std.proofs.lemmas.Option.{slice_get_within}
use Rattle.std.proofs.lemmas.List.Sums.{sum_by-cons}
use Rattle.xc_tree.specs.declared.ty.Ty.{Ty, Ptr}
use Rattle.xc_tree.specs.declared.tree.Object.{Object}
use Rattle.xc_tree.specs.declared.tree.Func.{Func}
use Rattle.xc_tree.specs.Lists.{passes}
use Rattle.xc_tree.specs.Types.{same_ty}
use Rattle.xc_tree.specs.Typed.{Context, context, leads_to, global_type}
use Rattle.xc_tree.proofs.Lists.{and_both}
use Rattle.xc_type_rule.specs.Cells.{cells}
use Rattle.xc_type_rule.specs.declared.found.Thing.{Thing}
use Rattle.xc_type_rule.specs.declared.found.Thing.TheVariants as thing
use Rattle.xc_type_names.specs.Scoped.{found_in}
use Rattle.xc_welltyped_rules.specs.Callees.{IsFunc, HasFunc, Defines, DefinesAny}
use Rattle.xc_welltyped.proofs.Types.{same_ty_refl, pointee_of}
use Rattle.xc_type_expressions.specs.declared.text.Text.{Text}
use Rattle.xc_type_unit.specs.declared.scope.FileScope.{FileScope}
use Rattle.xc_type_unit.specs.Functions.{Bodies}
use Rattle.xc_welltyped_claims.specs.Lists.{Each, StartsWith}
use Rattle.xc_welltyped_claims.specs.Types.{is_object_by}
use Rattle.xc_welltyped_claims.specs.Table.{struct_tys}
use Rattle.xc_welltyped_claims.specs.Things.{HasThing}
use Rattle.xc_welltyped_claims.specs.Env.{object_of, Into}
use Rattle.xc_welltyped_claims.proofs.Lists.{starts_self}
use Rattle.xc_welltyped_statements.proofs.Sized.{cells_least}
use Rattle.xc_welltyped_unit.specs.Files.{HasObject, FileFine}

-- objects and functions
global_there : (cx : Context) (n : ℕ) (ty : Option Ty) → HasObject cx.globals n ty → HasThing cx (thing.Global n ty)
global_there cx n None h = tt
global_there cx n (Some ty) h =
    let same : h.0.ty ≡ ty = (let e = h.2 in cc) in
    let leads : IsTrue (leads_to (Some ty) (Ptr ty)) = subst (λ o. IsTrue (passes (same_ty ty) o)) (sym (pointee_of ty)) (same_ty_refl ty) in
    and_both (nat_lt n (length cx.globals)) _ (lt-ltb n (length cx.globals) (slice_get_within cx.globals n h.0 h.1))
    (subst (λ o. IsTrue (leads_to (global_type o) (Ptr ty))) (sym h.1) (subst (λ u. IsTrue (leads_to (Some u) (Ptr ty))) (sym same) leads))

func_there : (cx : Context) (params : List (Option Ty)) (ret : Option Ty) (n : ℕ) (f : Func) → slice_get cx.funcs n ≡ Some f → IsFunc params ret f → Defines cx params ret n
func_there cx params ret n f e h = record {
  named = lt-ltb n (length cx.funcs) (slice_get_within cx.funcs n f e);
  func = subst (λ o. HasFunc params ret o) (sym e) h;
}

-- no more objects than cells
few_objects : (ns : List ℕ) (gs : List Object) → Each (λ g. IsTrue (is_object_by ns g.ty)) gs → length gs ≤ sum_by (λ g. cells ns g.ty) gs
few_objects ns [] h = omega arith
few_objects ns (g ∷ gs) h =
    let one = cells_least ns g.ty h.0 in
    let more = few_objects ns gs h.1 in
    let sum = sum_by-cons (λ (g : Object). cells ns g.ty) g gs in
    omega (arith, one, more, sum)

pub fitting : (n all : ℕ) → n ≤ 2 ^ 22 → n ≡ min all (2 ^ 22 + 1) → all ≤ 2 ^ 22
fitting n all le e = omega (arith, le, e)

module _ (t : Text) (b : Bodies) (s : FileScope) (f : FileFine t b s) (below : (name n : ℕ) → found_in name b ≡ Some n → n < s.defined) where
  abbrev pub program : Context
  program = context (struct_tys s.env.structs.members) s.globals f.funcs t.texts.now.formats []

  same_func : (a : Option Thing) (m n : Option ℕ) (ps qs : List (Option Ty)) (r q : Option Ty) → a ≡ Some (thing.Func m ps r) → a ≡ Some (thing.Func n qs q) → (ps ≡ qs) × (r ≡ q)
  same_func a m n ps qs r q e h = let same : Some (thing.Func m ps r) ≡ Some (thing.Func n qs q) = sym e ∙ h in ((let x : ps ≡ qs = cc in x), (let y : r ≡ q = cc in y))

  defined_there : (name : ℕ) (number : Option ℕ) (params : List (Option Ty)) (ret : Option Ty) → found_in name s.env.file ≡ Some (thing.Func number params ret) → number ≡ found_in name b → DefinesAny program params ret number
  defined_there name None params ret e h = tt
  defined_there name (Some n) params ret e h =
      let d = f.defined name n (sym h) (below name n (sym h)) in
      let same = same_func (found_in name s.env.file) (Some n) (Some n) d.params params d.ret ret d.thing e in
      func_there program params ret n d.func d.found (subst (λ ps. IsFunc ps ret d.func) same.0 (subst (λ r. IsFunc d.params r d.func) same.1 d.is))

  there : (name : ℕ) (x : Thing) → found_in name s.env.file ≡ Some x → HasThing program x
  there name (thing.Global n ty) e = global_there program n ty (f.objects name n ty e)
  there name (thing.Local n ty) e = tt
  there name (thing.Func number params ret) e = defined_there name number params ret e (f.numbers name number params ret e)

  pub program_has : Into t program s.env
  program_has = record {
    shapes = refl;
    structs = starts_self (struct_tys s.env.structs.members);
    complete = f.stands.complete;
    things = there;
    locals = subst (λ ls. StartsWith (map object_of ls) []) (sym f.stands.locals) (starts_self []);
    formats = refl;
    few = let less = few_objects s.env.structs.sizes s.globals f.typed in
        let all = fitting s.cells (sum_by (λ g. cells s.env.structs.sizes g.ty) s.globals) f.fits f.cells in
        omega (arith, less, all);
  }
