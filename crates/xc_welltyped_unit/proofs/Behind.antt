-- File scope behind a function, which adds its definition if it has a block (C99 6.9.1).
use Rattle.std.proofs.Common.{◌≡◌, ℕ, ◌+◌, ◌^◌, ◌<◌, ◌≤◌, List, [], ◌++◌, length, refl, sym, ap, ◌∙◌, subst, arith, ◌⊎◌, inl, inr}
use Rattle.std.specs.Prelude.{min, Option, Some}
use Rattle.std.proofs.lemmas.Bool.{cases_lt}
use Rattle.std.proofs.lemmas.List.{length-append}
use Rattle.xc_tree.specs.declared.ty.Ty.{Ty}
use Rattle.xc_tree.specs.declared.tree.Func.{Func}
use Rattle.xc_tree.specs.Walk.{loop_ids}
use Rattle.xc_tree.specs.Valid.{all_ids}
use Rattle.xc_type_rule.specs.declared.found.Thing.{Thing}
use Rattle.xc_type_rule.specs.declared.found.Thing.TheVariants as thing
use Rattle.xc_type_names.specs.Scoped.{found_in, left}
use Rattle.xc_type_scopes.specs.declared.env.Env.{Env}
use Rattle.xc_type_scopes.specs.Env as env
use Rattle.xc_type_expressions.specs.declared.text.Text.{Text}
use Rattle.xc_type_statement_parts.specs.Making.{followed}
use Rattle.xc_type_unit.specs.declared.heads.Head.{Head}
use Rattle.xc_type_unit.specs.declared.scope.FileScope.{FileScope}
use Rattle.xc_type_unit.specs.Functions.{Bodies, main_of}
use Rattle.xc_welltyped_claims.specs.Lists.{Each, StaysSet, Fresh}
use Rattle.xc_welltyped_claims.specs.Table.{Grows}
use Rattle.xc_welltyped_claims.specs.Env.{Good, Ready, AtFile, Extends}
use Rattle.xc_welltyped_claims.proofs.Lists.{starts_same, get_left, each_both, each_more, set_self}
use Rattle.xc_welltyped_claims.proofs.Env.{grows_then, into_before}
use Rattle.xc_welltyped_statements.proofs.Fresh.{fresh_both, joined_both}
use Rattle.xc_welltyped_unit.specs.Files.{HasObject, IsDefined, IsMain, FuncFine, GlobalFine, FileFine}
use Rattle.xc_welltyped_unit.specs.Functions.{is_for, IsHead}
use Rattle.xc_welltyped_unit.proofs.Going.{sums_behind, typed_behind}

-- what a function adds to these, where `e` stands behind its head and `e'` behind its block, if it has one
pub record AreNew (t : Text) (b : Bodies) (defined : ℕ) (funcs : List Func) (e e' : Env) (fs : List Func) : Type 0 where
  pub ready : Ready e'
  pub extends : Extends e e'
  pub file : e'.file ≡ e.file
  pub fine : Each (FuncFine t (env.after_function e')) fs
  pub ids : Fresh e.loops e'.loops (all_ids fs)
  pub stand : (name n : ℕ) → found_in name b ≡ Some n → defined ≤ n → n < defined + length fs → IsDefined e'.file (funcs ++ fs) name n

-- nothing of the function stands behind it
good_after : (e : Env) → Good e → Good (env.after_function e)
good_after e g = record {
  table = g.table;
  layout = g.layout;
  file = g.file;
  own = tt;
  file_tags = g.file_tags;
  own_tags = tt;
  locals = tt;
  marks = record { many = refl; marked = λ n l h a. absurd cc };
}

module _ (t : Text) (b : Bodies) (s : FileScope) (f : FileFine t b s) (e : Env) (h : Head) (head : IsHead t b s e h) (e' : Env) (fs : List Func) (new : AreNew t b s.defined f.funcs e e' fs) where
  abbrev after : Env
  after = env.after_function e'

  stands : AtFile after
  stands = record {
    good = good_after e' new.ready.good;
    complete = new.ready.complete;
    one = ap length new.file ∙ head.one;
    own = refl;
    own_tags = refl;
    locals = refl;
    addressed = refl;
  }

  grown : Grows s.env.structs e'.structs
  grown = grows_then s.env.structs e.structs e'.structs head.structs new.extends.structs

  pub extends_after : Extends s.env after
  extends_after = record {
    file = λ y x i. subst (λ l. found_in y l ≡ Some x) (sym new.file) (head.stays y x i);
    own = ap left (sym f.stands.own);
    scopes = ap length (sym f.stands.own);
    own_tags = ap length (sym f.stands.own_tags);
    structs = grown;
    locals = starts_same s.env.locals [] (sym f.stands.locals);
    addressed = subst (λ l. StaysSet l []) (sym f.stands.addressed) (set_self []);
    loops = (let less = new.extends.loops in let same = head.loops in omega (arith, less, same));
  }

  -- what a name stands for there
  abbrev IsThere : ℕ → Thing → Type 0
  IsThere y x = ((y ≡ head.name) × (x ≡ is_for b h head.name)) ⊎ (found_in y s.env.file ≡ Some x)

  there : (y : ℕ) (x : Thing) → found_in y e'.file ≡ Some x → IsThere y x
  there y x i = head.others y x (subst (λ l. found_in y l ≡ Some x) new.file i)

  object_there : (y n : ℕ) (ty : Option Ty) → IsThere y (thing.Global n ty) → HasObject s.globals n ty
  object_there y n ty (inl p) = absurd (let same = p.1 in cc)
  object_there y n ty (inr p) = f.objects y n ty p

  number_there : (y : ℕ) (number : Option ℕ) (params : List (Option Ty)) (ret : Option Ty) → IsThere y (thing.Func number params ret) → number ≡ found_in y b
  number_there y number params ret (inl p) =
      let is : number ≡ found_in head.name b = (let same = p.1 in cc) in
      is ∙ ap (λ n. found_in n b) (sym p.0)
  number_there y number params ret (inr p) = f.numbers y number params ret p

  main_there : (y : ℕ) (x : Thing) → main_of t ≡ Some y → IsThere y x → IsMain x
  main_there y x m (inl p) = subst IsMain (sym p.1) (head.main (subst (λ n. main_of t ≡ Some n) p.0 m))
  main_there y x m (inr p) = f.mains y x m p

  -- a function that was defined before, or one of these
  defined_there : (y n : ℕ) → found_in y b ≡ Some n → n < s.defined + length fs → IsDefined e'.file (f.funcs ++ fs) y n
  defined_there y n i lt = by (cases_lt n s.defined)
    where
      by : (n < s.defined) ⊎ (s.defined ≤ n) → IsDefined e'.file (f.funcs ++ fs) y n
      by (inl low) =
          let d = f.defined y n i low in
          record {
            params = d.params;
            ret = d.ret;
            thing = extends_after.file y (thing.Func (Some n) d.params d.ret) d.thing;
            func = d.func;
            found = get_left f.funcs fs n d.func d.found;
            is = d.is;
          }
      by (inr high) = new.stand y n i high lt

  ids_there : Fresh 0 e'.loops (all_ids (f.funcs ++ fs))
  ids_there =
      let less = new.extends.loops in
      let same = head.loops in
      subst (λ l. Fresh 0 e'.loops l) (sym (joined_both (λ (g : Func). loop_ids g.body) f.funcs fs))
      (fresh_both 0 s.env.loops e'.loops (all_ids f.funcs) (all_ids fs) (omega arith) (omega (arith, less, same)) f.ids (subst (λ n. Fresh n e'.loops (all_ids fs)) same new.ids))

  pub file_after : (made : Option (List Func)) → made ≡ Some fs → FileFine t b (record s { env = after; defined = s.defined + length fs; funcs = followed s.funcs made })
  unfolding followed
  file_after made is = record {
    stands = stands;
    fits = f.fits;
    cells = f.cells ∙ ap (λ n. min n (2 ^ 22 + 1)) (sums_behind s.env.structs e'.structs grown s.globals f.typed);
    typed = typed_behind s.env.structs e'.structs grown s.globals f.typed;
    objects = λ y n ty i. object_there y n ty (there y (thing.Global n ty) i);
    numbers = λ y number params ret i. number_there y number params ret (there y (thing.Func number params ret) i);
    funcs = f.funcs ++ fs;
    known = ap (λ x. followed x made) f.known ∙ ap (λ x. followed (Some f.funcs) x) is;
    many = length-append f.funcs fs ∙ ap (λ n. n + length fs) f.many;
    defined = defined_there;
    mains = λ y x m i. main_there y x m (there y x i);
    funcs_fine = each_both (FuncFine t after) f.funcs fs
        (each_more (FuncFine t s.env) (FuncFine t after) (λ g k cx i. k cx (into_before t cx s.env after extends_after i)) f.funcs f.funcs_fine) new.fine;
    globals_fine = each_more (GlobalFine t s.env) (GlobalFine t after) (λ g k cx i. k cx (into_before t cx s.env after extends_after i)) s.globals f.globals_fine;
    ids = ids_there;
  }
