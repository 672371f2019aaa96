-- File scope behind specifiers, declarators and initialisers.
use Rattle.std.proofs.Common.{◌≡◌, ◌+◌, ◌^◌, List, [], ◌∷◌, length, refl, sym, ap, ◌∙◌, subst, arith}
use Rattle.std.specs.Prelude.{IsTrue, min, sum_by, Some}
use Rattle.std.proofs.lemmas.List.Sums.{sum_by-cons}
use Rattle.xc_tree.specs.declared.tree.Object.{Object}
use Rattle.xc_tree.specs.Valid.{all_ids}
use Rattle.xc_type_rule.specs.Cells.{cells}
use Rattle.xc_type_rule.specs.declared.found.Thing.TheVariants as thing
use Rattle.xc_type_structs.specs.declared.structs.Structs.{Structs}
use Rattle.xc_type_names.specs.Scoped.{found_in}
use Rattle.xc_type_scopes.specs.declared.env.Env.{Env}
use Rattle.xc_type_scopes.specs.Env as env
use Rattle.xc_type_expressions.specs.declared.text.Text.{Text}
use Rattle.xc_type_unit.specs.declared.scope.FileScope.{FileScope}
use Rattle.xc_type_unit.specs.Functions.{Bodies}
use Rattle.xc_welltyped_claims.specs.Lists.{Each, Fresh}
use Rattle.xc_welltyped_claims.specs.Types.{is_object_by}
use Rattle.xc_welltyped_claims.specs.Table.{Grows}
use Rattle.xc_welltyped_claims.specs.Env.{Good, AtFile, Stays}
use Rattle.xc_welltyped_claims.proofs.Lists.{starts_self, each_more, set_self}
use Rattle.xc_welltyped_claims.proofs.Env.{grows_self, complete_behind, stays_extends, into_before}
use Rattle.xc_welltyped_statements.proofs.Sized.{cells_stay, object_stays}
use Rattle.xc_welltyped_unit.specs.Files.{IsDefined, FuncFine, GlobalFine, FileFine}

-- nothing is in a list without elements
pub no_element : {A : Type 0} (xs : List A) → length xs ≡ 0 → xs ≡ []
no_element [] e = refl
no_element (x ∷ xs) e = absurd (omega (arith, e))

pub at_file_behind : (e e' : Env) → AtFile e → Stays e e' → Good e' → AtFile e'
at_file_behind e e' h s g =
    let no_locals = s.locals ∙ h.locals in
    record {
      good = g;
      complete = complete_behind e.structs e'.structs s.structs h.complete;
      one = ap length s.file ∙ h.one;
      own = s.own ∙ h.own;
      own_tags = no_element e'.own_tags (s.own_tags ∙ ap length h.own_tags);
      locals = no_locals;
      addressed = no_element e'.addressed (g.marks.many ∙ ap length no_locals);
    }

-- pragmas before an item
pub stays_pragmas : (e : Env) → Stays e (env.past_pragmas e)
stays_pragmas e = record {
  file = refl;
  own = refl;
  own_tags = refl;
  structs = grows_self e.structs;
  layout = starts_self e.layout.members;
  locals = refl;
  addressed = set_self e.addressed;
  loops = refl;
}

pub good_pragmas : (e : Env) → Good e → Good (env.past_pragmas e)
good_pragmas e g = record { table = g.table; layout = g.layout; file = g.file; own = g.own; file_tags = g.file_tags; own_tags = g.own_tags; locals = g.locals; marks = g.marks }

-- the globals where more structs are declared
module _ (few more : Structs) (k : Grows few more) where
  pub sums_behind : (gs : List Object) → Each (λ g. IsTrue (is_object_by few.sizes g.ty)) gs → sum_by (λ g. cells few.sizes g.ty) gs ≡ sum_by (λ g. cells more.sizes g.ty) gs
  sums_behind [] h = refl
  sums_behind (g ∷ gs) h =
      let one = cells_stay few more k g.ty h.0 in
      let rest = sums_behind gs h.1 in
      let a = sum_by-cons (λ (g : Object). cells few.sizes g.ty) g gs in
      let b = sum_by-cons (λ (g : Object). cells more.sizes g.ty) g gs in
      omega (arith, one, rest, a, b)

  pub typed_behind : (gs : List Object) → Each (λ g. IsTrue (is_object_by few.sizes g.ty)) gs → Each (λ g. IsTrue (is_object_by more.sizes g.ty)) gs
  typed_behind = each_more (λ (g : Object). IsTrue (is_object_by few.sizes g.ty)) (λ g. IsTrue (is_object_by more.sizes g.ty)) (λ g. object_stays few more k g.ty)

module _ (t : Text) (b : Bodies) (s : FileScope) (f : FileFine t b s) (e' : Env) (k : Stays s.env e') (g : Good e') where
  pub file_behind : FileFine t b (record s { env = e' })
  file_behind = record {
    stands = at_file_behind s.env e' f.stands k g;
    fits = f.fits;
    cells = f.cells ∙ ap (λ n. min n (2 ^ 22 + 1)) (sums_behind s.env.structs e'.structs k.structs s.globals f.typed);
    typed = typed_behind s.env.structs e'.structs k.structs s.globals f.typed;
    objects = λ name n ty h. f.objects name n ty (subst (λ l. found_in name l ≡ Some (thing.Global n ty)) k.file h);
    numbers = λ name number params ret h. f.numbers name number params ret (subst (λ l. found_in name l ≡ Some (thing.Func number params ret)) k.file h);
    funcs = f.funcs;
    known = f.known;
    many = f.many;
    defined = λ name n h lt. subst (λ l. IsDefined l f.funcs name n) (sym k.file) (f.defined name n h lt);
    mains = λ name x m h. f.mains name x m (subst (λ l. found_in name l ≡ Some x) k.file h);
    funcs_fine = each_more (FuncFine t s.env) (FuncFine t e') (λ x h cx i. h cx (into_before t cx s.env e' (stays_extends s.env e' k) i)) f.funcs f.funcs_fine;
    globals_fine = each_more (GlobalFine t s.env) (GlobalFine t e') (λ x h cx i. h cx (into_before t cx s.env e' (stays_extends s.env e' k) i)) s.globals f.globals_fine;
    ids = subst (λ n. Fresh 0 n (all_ids f.funcs)) (sym k.loops) f.ids;
  }
