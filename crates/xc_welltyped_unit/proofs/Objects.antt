-- File scope with one more object.
use Rattle.std.proofs.Common.{◌≡◌, ℕ, ◌+◌, ◌^◌, ◌≤◌, List, [], ◌∷◌, ◌++◌, length, Bool, true, false, refl, sym, ap, ◌∙◌, subst, arith, ◌⊎◌, inl, inr}
use Rattle.std.specs.Prelude.{IsTrue, min, nat_eq, is_none, sum_by, Option, Some, None, slice_get}
use Rattle.std.proofs.lemmas.Bool.{eqb-true}
use Rattle.std.proofs.lemmas.List.Sums.{sum_by_push}
use Rattle.xc_tree.specs.declared.ty.Ty.{Ty}
use Rattle.xc_tree.specs.declared.tree.Object.{Object}
use Rattle.xc_tree.specs.Valid.{all_ids}
use Rattle.xc_type_rule.specs.Cells.{cells}
use Rattle.xc_type_rule.specs.declared.found.Thing.{Thing}
use Rattle.xc_type_rule.specs.declared.found.Thing.TheVariants as thing
use Rattle.xc_type_names.specs.Scoped.{in_one, found_in, declared_in, is_new}
use Rattle.xc_type_scopes.specs.declared.env.Env.{Env}
use Rattle.xc_type_expressions.specs.declared.text.Text.{Text}
use Rattle.xc_type_unit.specs.declared.scope.FileScope.{FileScope}
use Rattle.xc_type_unit.specs.Functions.{Bodies, main_of}
use Rattle.xc_welltyped_claims.specs.Lists.{Fresh}
use Rattle.xc_welltyped_claims.specs.Types.{is_object_by}
use Rattle.xc_welltyped_claims.specs.Env.{AtFile, Extends}
use Rattle.xc_welltyped_claims.proofs.Lists.{get_left, each_both, each_more}
use Rattle.xc_welltyped_claims.proofs.Env.{into_before}
use Rattle.xc_welltyped_structs.proofs.Lists.{get_end}
use Rattle.xc_welltyped_unit.specs.Files.{HasObject, IsDefined, IsMain, FuncFine, GlobalFine, FileFine}
use Rattle.xc_welltyped_unit.proofs.Going.{sums_behind, typed_behind}
use Rattle.xc_welltyped_unit.proofs.Names.{found_one, found_other, found_either}

module _ {T : Type 0} where
  new_none : (o : Option T) → is_none o ≡ true → (z : T) → o ≡ Some z → ⊥
  new_none None h z e = absurd cc
  new_none (Some x) h z e = absurd cc

  absent : (name : ℕ) (z : T) (ss : List (List (ℕ × T))) → length ss ≡ 1 → IsTrue (is_new name ss) → found_in name ss ≡ Some z → ⊥
  absent name z [] e h f = absurd (omega (arith, e))
  absent name z (s ∷ []) e h f = new_none (in_one name s) h z (sym (found_one name s) ∙ f)
  absent name z (s ∷ u ∷ ss) e h f = absurd (omega (arith, e))

  -- what is found stays, where a new name is added
  pub found_still : (name : ℕ) (x : T) (y : ℕ) (z : T) (ss : List (List (ℕ × T))) → length ss ≡ 1 → IsTrue (is_new name ss) → found_in y ss ≡ Some z → found_in y (declared_in name x ss) ≡ Some z
  found_still name x y z ss e h f = by (nat_eq y name) refl
    where
      by : (c : Bool) → nat_eq y name ≡ c → found_in y (declared_in name x ss) ≡ Some z
      by true p = absurd (absent name z ss e h (let same : y ≡ name = eqb-true y name p in subst (λ n. found_in n ss ≡ Some z) same f))
      by false p = found_other name x y p ss e ∙ f

capped : (a b c n : ℕ) → a ≡ min b (n + 1) → min (a + c) (n + 1) ≡ min (b + c) (n + 1)
capped a b c n e = omega (arith, e)

-- `s` stands before the object's name, and `e` behind its initialiser
module _ (t : Text) (b : Bodies) (s : FileScope) (f : FileFine t b s) (name : ℕ) (new : IsTrue (is_new name s.env.file)) (g : Object) (e : Env)
    (file : e.file ≡ declared_in name (thing.Global (length s.globals) (Some g.ty)) s.env.file) (loops : e.loops ≡ s.env.loops)
    (stands : AtFile e) (extends : Extends s.env e) (ok : IsTrue (is_object_by e.structs.sizes g.ty)) (fine : GlobalFine t e g)
    (n : ℕ) (counted : n ≡ min (s.cells + cells e.structs.sizes g.ty) (2 ^ 22 + 1)) (fits : n ≤ 2 ^ 22) where
  abbrev it : Thing
  it = thing.Global (length s.globals) (Some g.ty)

  abbrev more : List Object
  more = s.globals ++ g ∷ []

  abbrev found_as : (y : ℕ) (z : Thing) → Type 0
  found_as y z = ((y ≡ name) × (it ≡ z)) ⊎ ((nat_eq y name ≡ false) × (found_in y s.env.file ≡ Some z))

  found_there : (y : ℕ) (z : Thing) → found_in y e.file ≡ Some z → found_as y z
  found_there y z h = found_either name it y z s.env.file f.stands.one (subst (λ l. found_in y l ≡ Some z) file h)

  object_there : (y k : ℕ) (ty : Option Ty) → found_as y (thing.Global k ty) → HasObject more k ty
  object_there y k ty (inl p) =
      let number : length s.globals ≡ k = (let same = p.1 in cc) in
      let type : ty ≡ Some g.ty = (let same = p.1 in cc) in
      (g, subst (λ i. slice_get more i ≡ Some g) number (get_end s.globals g), type)
  object_there y k ty (inr p) = let o = f.objects y k ty p.1 in (o.0, get_left s.globals (g ∷ []) k o.0 o.1, o.2)

  number_there : (y : ℕ) (number : Option ℕ) (params : List (Option Ty)) (ret : Option Ty) → found_as y (thing.Func number params ret) → number ≡ found_in y b
  number_there y number params ret (inl p) = absurd (let same = p.1 in cc)
  number_there y number params ret (inr p) = f.numbers y number params ret p.1

  main_there : (y : ℕ) (z : Thing) → main_of t ≡ Some y → found_as y z → IsMain z
  main_there y z m (inl p) = subst IsMain p.1 tt
  main_there y z m (inr p) = f.mains y z m p.1

  defined_still : (y k : ℕ) → IsDefined s.env.file f.funcs y k → IsDefined e.file f.funcs y k
  defined_still y k d = record {
    params = d.params;
    ret = d.ret;
    thing = subst (λ l. found_in y l ≡ Some (thing.Func (Some k) d.params d.ret)) (sym file) (found_still name it y (thing.Func (Some k) d.params d.ret) s.env.file f.stands.one new d.thing);
    func = d.func;
    found = d.found;
    is = d.is;
  }

  pub with_one_more : FileFine t b (record s { env = e; globals = more; cells = n })
  with_one_more = record {
    stands = stands;
    fits = fits;
    cells = counted ∙ capped s.cells (sum_by (λ (x : Object). cells e.structs.sizes x.ty) s.globals) (cells e.structs.sizes g.ty) (2 ^ 22)
        (f.cells ∙ ap (λ k. min k (2 ^ 22 + 1)) (sums_behind s.env.structs e.structs extends.structs s.globals f.typed))
        ∙ ap (λ k. min k (2 ^ 22 + 1)) (sym (sum_by_push (λ (x : Object). cells e.structs.sizes x.ty) s.globals g));
    typed = each_both (λ (x : Object). IsTrue (is_object_by e.structs.sizes x.ty)) s.globals (g ∷ [])
        (typed_behind s.env.structs e.structs extends.structs s.globals f.typed) (ok, tt);
    objects = λ y k ty h. object_there y k ty (found_there y (thing.Global k ty) h);
    numbers = λ y number params ret h. number_there y number params ret (found_there y (thing.Func number params ret) h);
    funcs = f.funcs;
    known = f.known;
    many = f.many;
    defined = λ y k h lt. defined_still y k (f.defined y k h lt);
    mains = λ y z m h. main_there y z m (found_there y z h);
    funcs_fine = each_more (FuncFine t s.env) (FuncFine t e) (λ x h cx i. h cx (into_before t cx s.env e extends i)) f.funcs f.funcs_fine;
    globals_fine = each_both (GlobalFine t e) s.globals (g ∷ [])
        (each_more (GlobalFine t s.env) (GlobalFine t e) (λ x h cx i. h cx (into_before t cx s.env e extends i)) s.globals f.globals_fine) (fine, tt);
    ids = subst (λ k. Fresh 0 k (all_ids f.funcs)) (sym loops) f.ids;
  }
