-- What one expression gives an object.
use Rattle.std.proofs.Common.{◌≡◌, ℕ, ◌-◌, List, [], ◌∷◌, Bool, true, refl, sym, ap, ◌∙◌, subst, arith}
use Rattle.std.specs.Prelude.{IsTrue, is_some, Some}
use Rattle.xc_tree.specs.declared.ty.Ty.{Ty}
use Rattle.xc_tree.specs.declared.expr.Expr.{Expr}
use Rattle.xc_tree.specs.Lists.{passes}
use Rattle.xc_tree.specs.Types.{Shape, base, fits, may_hold, cell_of}
use Rattle.xc_tree.specs.Typed.{Context, value_ok}
use Rattle.xc_tree.specs.Valid.{word_ok}
use Rattle.xc_tree.proofs.Lists.{and_both}
use Rattle.xc_type_initialiser_objects.specs.Inits.{one_init}
use Rattle.xc_type_initialiser_objects.specs.Words.{word_of}
use Rattle.xc_type_scopes.specs.declared.env.Env.{Env}
use Rattle.xc_type_expressions.specs.declared.text.Text.{Text}
use Rattle.xc_welltyped_claims.specs.Types.{is_object_by}
use Rattle.xc_welltyped_claims.specs.Env.{Into}
use Rattle.xc_welltyped_statements.specs.Inits.{is_init_ok, is_word_ok, has_word, HaveWords, GivesAll}
use Rattle.xc_welltyped_statements.proofs.Ordered.{ascending_one}
use Rattle.xc_welltyped_statements.proofs.Sized.{cells_least}
use Rattle.xc_welltyped_statements.proofs.Values.{IsValue}
use Rattle.xc_welltyped_statements.proofs.Fitted.{scalar_cell}

-- a scalar's only cell
only_cell : (shapes : List Shape) (ty b : Ty) → base ty ≡ Some b → (off : ℕ) → cell_of shapes ty (off - off) ≡ Some ty
only_cell shapes ty b is off = let none : off - off ≡ 0 = omega arith in ap (cell_of shapes ty) none ∙ scalar_cell shapes ty b is

-- it holds the word
pub word_held : (cx : Context) (ty b : Ty) → base ty ≡ Some b → (off : ℕ) (x : Expr) (w : ℕ) → word_of x ≡ Some w → IsTrue (word_ok cx.globals w b) → IsTrue (has_word cx ty off (off, x))
word_held cx ty b is off x w word h =
    subst (λ o. IsTrue (passes (is_word_ok cx.globals o) (word_of x))) (sym (only_cell cx.shapes ty b is off))
    (subst (λ o. IsTrue (passes (is_word_ok cx.globals (Some ty)) o)) (sym word)
    (subst (λ o. IsTrue (passes (word_ok cx.globals w) o)) (sym is) h))

module _ (t : Text) (e : Env) (ty b own : Ty) (object : IsTrue (is_object_by e.structs.sizes ty)) (is : base ty ≡ Some b) (fit : IsTrue (fits b own)) (x : Expr) (v : IsValue t e own x) (off : ℕ) where
  held_by : (cx : Context) → Into t cx e → IsTrue (may_hold ty x.ty)
  held_by cx i = subst (λ o. IsTrue (passes (λ b. fits b x.ty) o)) (sym is) (subst (λ u. IsTrue (fits b u)) (sym (v.own cx i)) fit)

  init_ok : (cx : Context) → Into t cx e → IsTrue (is_init_ok cx ty off (off, x))
  init_ok cx i = and_both (value_ok cx x) _ (v.typed cx i) (subst (λ o. IsTrue (passes (λ c. may_hold c x.ty) o)) (sym (only_cell cx.shapes ty b is off)) (held_by cx i))

  pub one_given : (outermost : Bool) → (outermost ≡ true → IsTrue (is_some (word_of x))) → HaveWords t e ty off ((off, x) ∷ []) outermost → GivesAll t e ty off outermost (one_init off (Some x))
  one_given outermost k w = record {
    whole = refl;
    inits = record {
      ascends = ascending_one off;
      within = ((omega arith, (let least = cells_least e.structs.sizes ty object in omega (arith, least))), tt);
      typed = λ cx i. (init_ok cx i, tt);
      seen = λ seen c. (v.seen seen c, tt);
      used = λ flags m. (v.used flags m, tt);
    };
    worded = λ o. (k o, tt);
    words = w;
  }
