-- What calls of functions and of `printf` make is well typed where their arguments are.
use Rattle.std.proofs.Common.{rules, ◌≡◌, ℕ, List, map, length, take, Bool, true, false, refl, sym, subst, cond}
use Rattle.std.specs.Prelude.{IsTrue, ◌&&◌, ◌==◌, nat_lt, nat_le, Option, Some, None, option_map, slice_get}
use Rattle.std.proofs.lemmas.Bool.{eqb-true}
use Rattle.xc_text_place.specs.declared.Span.{Span}
use Rattle.xc_tree.specs.declared.ty.Ty.{Ty, Void}
use Rattle.xc_tree.specs.declared.expr.Expr.{Expr}
use Rattle.xc_tree.specs.declared.expr.ExprKind.{ExprKind, Call, Print}
use Rattle.xc_tree.specs.declared.expr.ExprKind.TheOpen.{ExprKind-F}
use Rattle.xc_tree.specs.declared.tree.Local.{Local}
use Rattle.xc_tree.specs.declared.tree.Func.{Func}
use Rattle.xc_tree.proofs.Lists.{and_left, and_right, and_both}
use Rattle.xc_tree.specs.Lists.{every, passes}
use Rattle.xc_tree.specs.Types.{is_void, is_number, same_ty}
use Rattle.xc_tree.specs.Typed.{Context, Part, part_of, part_ok, is_value, rule, are_values, args_fit, call_ok, print_ok}
use Rattle.xc_tree.specs.Formats.{integers_taken}
use Rattle.xc_type_rule.specs.declared.found.Found.{Found}
use Rattle.xc_type_rule.specs.declared.found.Known.TheVariants as known
use Rattle.xc_type_rule.specs.declared.found.Thing.{Thing}
use Rattle.xc_type_rule.specs.declared.found.Thing.TheVariants as thing
use Rattle.xc_type_rule.specs.Making.{typed, unknown_value, both}
use Rattle.xc_welltyped.specs.Sound.{Point, IsMade, known_ok, IsSound}
use Rattle.xc_welltyped.proofs.Types.{ty_opened, or_left, same_ty_refl}
use Rattle.xc_welltyped.proofs.Forms.{opened, Layer, made_at}
use Rattle.xc_welltyped.proofs.Founds.{KindMade, Typed, Keeps, found_sound}
use Rattle.xc_type_rule_calls.specs.Arguments.{ruled, given_to, all_fit, all_made}
use Rattle.xc_type_rule_calls.specs.Calls.{call_of, call_ruling, called_part, call_part}
use Rattle.xc_type_rule_calls.specs.declared.print.Text.{Text}
use Rattle.xc_type_rule_calls.specs.Prints.{all_numbers, so_many, print_ruling, print_of, is_short, print_kind, print_part}
use Rattle.xc_welltyped_rules.specs.Callees.{AreSound, param_of, HasFunc, DefinesAny, IsCallee, IsCalled, TakesSo, IsText}
use Rattle.xc_welltyped_rules.proofs.Arguments.{given_all, AreValues, ArgsMade, NumbersMade, args_made, numbers_made}

-- functions -----------------------------------------------------------------------

module _ (cx : Context) (span : Span) where
  call_row : (n : ℕ) (args : List Part) (ty : Ty) → IsTrue (nat_lt n (length cx.funcs)) → IsTrue (every (map part_ok args)) → IsTrue (every (map is_value args)) →
      IsTrue (call_ok (slice_get cx.funcs n) args ty) → Layer cx ty (ExprKind-F.Call n args)
  unfolding rule are_values
  call_row n args ty lt ok values r =
      and_both (every (map part_ok args)) _ ok (and_both (nat_lt n (length cx.funcs)) _ lt (and_both (every (map is_value args)) _ values r))

  called_made : (n : ℕ) (es : List Expr) (ty : Ty) → IsTrue (nat_lt n (length cx.funcs)) → AreValues cx es → IsTrue (call_ok (slice_get cx.funcs n) (map (part_of cx) es) ty) →
      IsMade cx ty false (typed span ty (Call n es))
  called_made n es ty lt v r = made_at cx span ty false (Call n es) (ExprKind-F.Call n (map (part_of cx) es)) (search (rules, opened))
      (call_row n (map (part_of cx) es) ty lt v.ok v.values r)

  call_fits : (o : Option Func) (ps : List (Option Ty)) (ty : Ty) (es : List Expr) → HasFunc ps (Some ty) o → ((ls : List Local) → map param_of ls ≡ ps → IsTrue (args_fit ls (map (part_of cx) es))) →
      IsTrue (call_ok o (map (part_of cx) es) ty)
  call_fits None ps ty es h fit = absurd h
  call_fits (Some f) ps ty es h fit =
      let same : ty ≡ f.ret = (let both : Some ty ≡ Some f.ret = h.gives in cc) in
      and_both (same_ty ty f.ret) _ (subst (λ r. IsTrue (same_ty ty r)) same (same_ty_refl ty)) (fit (take f.params f.locals) h.takes)

module _ (so : Point) (span : Span) where
  pub ruled_keeps : (fits : Bool) (ty : Ty) (k : Option ExprKind) → (IsTrue fits → Typed so span ty k) → Keeps so span (ruled fits (known.Value ty)) k
  ruled_keeps true ty k f = f refl
  ruled_keeps false ty k f = tt

  pub unruled_keeps : (fits place : Bool) (k : Option ExprKind) → Keeps so span (ruled fits (known.Unknown place)) k
  unruled_keeps true place k = tt
  unruled_keeps false place k = tt

  called_kind : (number : Option ℕ) (params : List (Option Ty)) (ty : Ty) (args : List Found) → DefinesAny so.cx params (Some ty) number → IsTrue (all_fit params args) → AreSound so args →
      KindMade so span ty (both call_of number (all_made args))
  unfolding both
  called_kind None params ty args d f s = tt
  called_kind (Some n) params ty args d f s = by (all_made args) (λ ls e. args_made so ls args (subst (λ ps. IsTrue (all_fit ps args)) (sym e) f) s)
    where
      by : (m : Option (List Expr)) → ((ls : List Local) → map param_of ls ≡ params → ArgsMade so.cx ls m) → KindMade so span ty (both call_of (Some n) m)
      by None a = tt
      by (Some es) a = called_made so.cx span n es ty d.named (values (slice_get so.cx.funcs n) d.func)
          (call_fits so.cx span (slice_get so.cx.funcs n) params ty es d.func (λ ls e. (a ls e).fit))
        where
          values : (o : Option Func) → HasFunc params (Some ty) o → AreValues so.cx es
          values None h = absurd h
          values (Some f) h = (a (take f.params f.locals) h.takes).values

  call_keeps : (number : Option ℕ) (params : List (Option Ty)) (ret : Option Ty) (args : List Found) → IsCallee so number params ret → AreSound so args →
      Keeps so span (call_ruling params ret args) (both call_of number (all_made args))
  unfolding call_ruling
  call_keeps number params None args c s = unruled_keeps (all_fit params args) false _
  call_keeps number params (Some ty) args c s = ruled_keeps (all_fit params args) ty _ (λ f. (c.gives, called_kind number params ty args c.defined f s))

  called_sound : (number : Option ℕ) (params : List (Option Ty)) (ret : Option Ty) (args : List Found) → IsCallee so number params ret → AreSound so args →
      IsSound so (called_part span number params ret args)
  unfolding called_part
  called_sound number params ret args c s = found_sound so span (call_ruling params ret args) (both call_of number (all_made args)) (call_keeps number params ret args c s)

  unknown_sound : IsSound so unknown_value
  unknown_sound = record { known = refl; made = tt }

  -- `f(args)`
  pub call_sound : (t : Option Thing) (args : List Found) → IsCalled so t → AreSound so args → IsSound so (call_part span t args)
  unfolding call_part
  call_sound None args c s = unknown_sound
  call_sound (Some (thing.Global n ty)) args c s = unknown_sound
  call_sound (Some (thing.Local n ty)) args c s = unknown_sound
  call_sound (Some (thing.Func number params ret)) args c s = called_sound number params ret (given_to params args) c (given_all so params args c.takes s)

-- texts ---------------------------------------------------------------------------

module _ (cx : Context) (span : Span) where
  print_row : (n : ℕ) (args : List Part) (ty : Ty) → IsTrue (nat_lt n (length cx.formats)) → IsTrue (every (map part_ok args)) → IsTrue (every (map is_value args)) →
      IsTrue (print_ok (slice_get cx.formats n) args) → IsTrue (is_void ty) → Layer cx ty (ExprKind-F.Print n args)
  unfolding rule are_values
  print_row n args ty lt ok values r v =
      and_both (every (map part_ok args)) _ ok (and_both (nat_lt n (length cx.formats)) _ lt (and_both (every (map is_value args)) _ values (and_both (print_ok (slice_get cx.formats n) args) _ r v)))

  print_made : (n : ℕ) (es : List Expr) → IsTrue (nat_lt n (length cx.formats)) → AreValues cx es → IsTrue (print_ok (slice_get cx.formats n) (map (part_of cx) es)) →
      IsMade cx Void false (typed span Void (Print n es))
  print_made n es lt v r = made_at cx span Void false (Print n es) (ExprKind-F.Print n (map (part_of cx) es)) (search (rules, opened))
      (print_row n (map (part_of cx) es) Void lt v.ok v.values r (search (rules, ty_opened)))

  -- as many integers as the text takes, and at most 8
  print_fits : (takes : Option ℕ) (o : Option (List ℕ)) (args : List Part) → TakesSo takes o → IsTrue (is_short takes) → IsTrue (so_many takes (length args)) →
      IsTrue (every (map (λ (a : Part). is_number a.ty) args)) → IsTrue (print_ok o args)
  print_fits takes None args h short many numbers = absurd h
  print_fits None (Some bytes) args h short many numbers = absurd cc
  print_fits (Some m) (Some bytes) args h short many numbers =
      let is : m ≡ length args = eqb-true m (length args) many in
      let few : IsTrue (nat_le (length args) 8) = subst (λ k. IsTrue (nat_le k 8)) is short in
      let same : IsTrue (passes (λ k. k == length args) (integers_taken bytes)) = subst (λ o. IsTrue (passes (λ k. k == length args) o)) h many in
      and_both (every (map (λ (a : Part). is_number a.ty) args)) _ numbers (and_both (nat_le (length args) 8) _ few same)

module _ (so : Point) (span : Span) where
  pub void_ok : IsTrue (known_ok so (known.Value Void))
  void_ok = or_left (is_void Void) _ (search (rules, ty_opened))

  printed_kind : (text : Text) (args : List Found) → IsText so.cx text → IsTrue (so_many text.takes (length args)) → IsTrue (all_numbers args) → AreSound so args →
      KindMade so span Void (print_kind text args)
  unfolding print_kind
  printed_kind text args t many numbers s = at (is_short text.takes) refl
    where
      by : IsTrue (is_short text.takes) → (m : Option (List Expr)) → NumbersMade so.cx (length args) m → KindMade so span Void (option_map (print_of text.number) m)
      by short None a = tt
      by short (Some es) a = print_made so.cx span text.number es t.named a.values
          (print_fits so.cx span text.takes (slice_get so.cx.formats text.number) (map (part_of so.cx) es) t.takes short (subst (λ n. IsTrue (so_many text.takes n)) (sym a.many) many) a.numbers)

      at : (short : Bool) → is_short text.takes ≡ short → KindMade so span Void (cond short (option_map (print_of text.number) (all_made args)) None)
      at false e = tt
      at true e = by e (all_made args) (numbers_made so args numbers s)

  print_keeps : (text : Text) (args : List Found) → IsText so.cx text → AreSound so args → Keeps so span (print_ruling text.takes args) (print_kind text args)
  unfolding print_ruling
  print_keeps text args t s = ruled_keeps so span (so_many text.takes (length args) && all_numbers args) Void _
      (λ r. (void_ok, printed_kind text args t (and_left (so_many text.takes (length args)) _ r) (and_right (so_many text.takes (length args)) _ r) s))

  -- `printf` of a text of the program
  pub print_sound : (text : Text) (args : List Found) → IsText so.cx text → AreSound so args → IsSound so (print_part span (Some text) args)
  unfolding print_part
  print_sound text args t s = found_sound so span (print_ruling text.takes args) (print_kind text args) (print_keeps text args t s)
