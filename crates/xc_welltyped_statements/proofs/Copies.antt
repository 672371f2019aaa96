-- What a `future` statement copies.
use Rattle.std.proofs.Common.{rules, ◌≡◌, ℕ, List, [], ◌∷◌, ◌++◌, map, Bool, true, false, cond, refl, sym, ap, ◌∙◌, subst}
use Rattle.std.specs.Prelude.{IsTrue, is_some, not, if◌then◌else◌, Option, Some, None}
use Rattle.xc_text_place.specs.declared.Span.{Span}
use Rattle.xc_word.specs.declared.memory.Kind.{Kind}
use Rattle.xc_word.specs.declared.memory.Kind.TheVariants.{ReadXx}
use Rattle.xc_tree.specs.declared.ty.Ty.{Ty, out-Ty, Ptr}
use Rattle.xc_tree.specs.declared.ty.Ty.TheOpen.{Ty-F}
use Rattle.xc_tree.specs.declared.expr.Expr.{Expr}
use Rattle.xc_tree.specs.declared.expr.ExprKind.{ExprKind, out-ExprKind, Global, Auto, Read}
use Rattle.xc_tree.specs.declared.expr.ExprKind.TheOpen.{ExprKind-F}
use Rattle.xc_tree.specs.Lists.{every, passes}
use Rattle.xc_tree.specs.Types.{is_plain, plain_at}
use Rattle.xc_tree.specs.Kinds.{read_kind, read_through, read_demanded}
use Rattle.xc_tree.specs.Typed.{Context, part_of}
use Rattle.xc_tree.specs.Statements.{object_named, variable_named}
use Rattle.xc_tree.proofs.Lists.{and_left, and_right, and_both}
use Rattle.xc_type_rule.specs.declared.fault.Fault.{Fault}
use Rattle.xc_type_rule.specs.declared.found.Found.{Found}
use Rattle.xc_type_rule.specs.declared.found.Known.TheVariants as known
use Rattle.xc_type_rule.specs.declared.found.Thing.{Thing}
use Rattle.xc_type_rule.specs.declared.found.Thing.TheVariants as thing
use Rattle.xc_type_rule.specs.Least.{fault_unless, type_fault}
use Rattle.xc_type_rule.specs.Making.{typed, unknown_place, value_from, place_from, declared_place}
use Rattle.xc_type_rule.specs.Values.{held, rvalue, rvalue_faults}
use Rattle.xc_type_rule_places.specs.Places.{name_part, name_faults}
use Rattle.xc_type_names.specs.Scoped.{found_in, or_else}
use Rattle.xc_type_scopes.specs.declared.env.Env.{Env}
use Rattle.xc_type_scopes.specs.Env as env
use Rattle.xc_type_scopes.specs.Judge.{Judge, Judged, give, and_then}
use Rattle.xc_type_expressions.specs.declared.text.Text.{Text}
use Rattle.xc_type_expressions.specs.Places.{name_of, named, is_reserved}
use Rattle.xc_type_statement_parts.specs.declared.futures.Copied.{Copied}
use Rattle.xc_type_statement_parts.specs.Futures as futures
use Rattle.xc_welltyped.specs.Sound.{IsMade}
use Rattle.xc_welltyped.proofs.Forms.{opened}
use Rattle.xc_welltyped.proofs.Types.{pointee_of}
use Rattle.xc_welltyped.proofs.Whole.{kept}
use Rattle.xc_welltyped_claims.specs.Lists.{Each}
use Rattle.xc_welltyped_claims.specs.Types.{is_object_by}
use Rattle.xc_welltyped_claims.specs.Things.{InScopes, SeenThing, FileThing, OwnThing}
use Rattle.xc_welltyped_claims.specs.Env.{Good, Stays, Into}
use Rattle.xc_welltyped_claims.specs.Judges.{Clean, Given, Gives}
use Rattle.xc_welltyped_claims.specs.Found.{Fine}
use Rattle.xc_welltyped_claims.proofs.Lists.{each_get, set_then}
use Rattle.xc_welltyped_claims.proofs.Things.{in_found}
use Rattle.xc_welltyped_claims.proofs.Env.{point, at_point, into_before, stays_extends, stays_then}
use Rattle.xc_welltyped_claims.proofs.Judges.{given_self, clean_first, clean_second, none_left, none_right}
use Rattle.xc_welltyped_statements.proofs.Passing.{passing_copies}
use Rattle.xc_welltyped_statements.proofs.Values.{IsValue, some_of}
use Rattle.xc_welltyped_statements.proofs.Reached.{PlacesFine}

-- a copy of a variable that is a plain scalar
pub record IsCopy (t : Text) (e : Env) (c : Copied) : Type 0 where
  pub name : ℕ
  pub named : c.declared.name ≡ Some name
  pub ty : Ty
  pub known : c.declared.ty ≡ Some ty
  pub plain : IsTrue (is_plain ty)
  pub object : IsTrue (is_object_by e.structs.sizes ty)
  pub from : Expr
  pub is_made : c.from ≡ Some from
  pub value : IsValue t e ty from
  pub variable : IsTrue (variable_named (out-ExprKind from.kind))

-- variables ---------------------------------------------------------------------

read_is : (k : Kind) (x : Expr) → out-ExprKind (Read k x) ≡ ExprKind-F.Read k x
read_is k x = search (rules, opened)

global_is : (n : ℕ) → IsTrue (object_named (out-ExprKind (Global n)))
global_is n = search (rules, opened)

auto_is : (n : ℕ) → IsTrue (object_named (out-ExprKind (Auto n)))
auto_is n = search (rules, opened)

plain_kind : (y : Ty-F Ty) → IsTrue (plain_at y) → read_demanded y ≡ ReadXx
plain_kind Ty-F.Int h = refl
plain_kind Ty-F.Uint h = refl
plain_kind (Ty-F.Ptr to) h = refl
plain_kind Ty-F.Void h = absurd (let no : false ≡ true = h in cc)
plain_kind (Ty-F.Array n of) h = absurd (let no : false ≡ true = h in cc)
plain_kind (Ty-F.Struct s) h = absurd (let no : false ≡ true = h in cc)
plain_kind (Ty-F.Sync of) h = absurd (let no : false ≡ true = h in cc)
plain_kind (Ty-F.Future of) h = absurd (let no : false ≡ true = h in cc)

abbrev place_found : Ty → Expr → Found
place_found ty x = record { known = known.Place ty false; made = Some x }

abbrev value_found : Ty → Expr → Found
value_found ty x = record { known = known.Value ty; made = Some x }

abbrev read_value : Span → Ty → Expr → Expr
read_value span ty x = typed span ty (Read (read_kind x.ty) x)

variable_read : (span : Span) (ty : Ty) (k : ExprKind) → IsTrue (is_plain ty) → IsTrue (object_named (out-ExprKind k)) → IsTrue (variable_named (out-ExprKind (Read (read_kind (Ptr ty)) (typed span (Ptr ty) k))))
variable_read span ty k p o =
    let x = typed span (Ptr ty) k in
    let kind : read_kind (Ptr ty) ≡ ReadXx = ap read_through (pointee_of ty) ∙ plain_kind (out-Ty ty) p in
    subst (λ y. IsTrue (variable_named y)) (sym (read_is (read_kind (Ptr ty)) x))
    (subst (λ k. IsTrue (variable_named (ExprKind-F.Read k x))) (sym kind)
    (and_both (object_named (out-ExprKind k)) _ o (subst (λ q. IsTrue (passes is_plain q)) (sym (pointee_of ty)) p)))

held_plain : (sizes : List ℕ) (span : Span) (ty : Ty) (x : Expr) (y : Ty-F Ty) → IsTrue (plain_at y) → held sizes span ty false (Some x) y ≡ value_found ty (read_value span ty x)
unfolding value_from
held_plain sizes span ty x Ty-F.Int h = refl
held_plain sizes span ty x Ty-F.Uint h = refl
held_plain sizes span ty x (Ty-F.Ptr to) h = refl
held_plain sizes span ty x Ty-F.Void h = absurd (let no : false ≡ true = h in cc)
held_plain sizes span ty x (Ty-F.Array n of) h = absurd (let no : false ≡ true = h in cc)
held_plain sizes span ty x (Ty-F.Struct s) h = absurd (let no : false ≡ true = h in cc)
held_plain sizes span ty x (Ty-F.Sync of) h = absurd (let no : false ≡ true = h in cc)
held_plain sizes span ty x (Ty-F.Future of) h = absurd (let no : false ≡ true = h in cc)

plain_read : (sizes : List ℕ) (span : Span) (ty : Ty) (x : Expr) → IsTrue (is_plain ty) → rvalue sizes span (place_found ty x) ≡ value_found ty (read_value span ty x)
unfolding rvalue
plain_read sizes span ty x h = held_plain sizes span ty x (out-Ty ty) h

value_is : (t : Text) (e : Env) (ty : Ty) (x : Expr) → Fine t e (value_found ty x) → IsValue t e ty x
value_is t e ty x h =
    let made : (cx : Context) → Into t cx e → IsMade cx ty false x = λ cx i. (h.sound (point cx e) (at_point t cx e i)).made in
    record {
      typed = λ cx i. let m = made cx i in and_both (part_of cx x).ok _ m.ok (ap not m.within);
      own = λ cx i. (made cx i).own;
      seen = h.seen;
      used = h.used;
    }

-- what is made of what the name stands for
abbrev rest_of : Text → ℕ → Found → Judge Copied
rest_of t token a = and_then (futures.as_value (futures.spot_of t token) a) (λ v. give (futures.copy_from t token a.known v) (fault_unless (futures.may_be_variable a.known) (futures.spot_of t token)))

-- things ----------------------------------------------------------------------------

module _ (t : Text) (places : PlacesFine t) (token : ℕ) (name : ℕ) (is : name_of t token ≡ Some name) (e : Env) (g : Good e) where
  abbrev at : Span
  at = futures.spot_of t token

  abbrev copy : Found → Copied
  copy f = futures.copy_from t token f.known (rvalue e.structs.sizes at f)

  abbrev CopyFine : Found → List Fault → Type 0
  CopyFine f faults = faults ≡ [] → Fine t e f → rvalue_faults at f.known ≡ [] → IsTrue (futures.may_be_variable f.known) → IsCopy t e (copy f)

  some_if : (b : Bool) (ty : Ty) → IsTrue b → (if b then Some ty else None) ≡ Some ty
  some_if true ty h = refl
  some_if false ty h = absurd (let no : false ≡ true = h in cc)

  copy_object : (ty : Ty) (k : ExprKind) (faults : List Fault) → IsTrue (object_named (out-ExprKind k)) → IsTrue (is_object_by e.structs.sizes ty) → CopyFine (place_found ty (typed at (Ptr ty) k)) faults
  copy_object ty k faults o h none f r p =
      let x = typed at (Ptr ty) k in
      let same = plain_read e.structs.sizes at ty x p in
      let v : Fine t e (value_found ty (read_value at ty x)) = subst (Fine t e) same (places.as_value_fine at at (place_found ty x) e g f r) in
      record {
        name = name;
        named = is;
        ty = ty;
        known = some_if (is_plain ty) ty p;
        plain = p;
        object = h;
        from = read_value at ty x;
        is_made = ap (λ (f : Found). f.made) same;
        value = value_is t e ty (read_value at ty x) v;
        variable = variable_read at ty k p o;
      }

  name_not : (xs : List Fault) (f : Fault) → f ∷ xs ≡ [] → ⊥
  name_not xs f h = cc

  own_copy : (x : Thing) → OwnThing e.locals x → CopyFine (name_part at (Some x)) (name_faults at (Some x))
  unfolding name_part declared_place place_from
  own_copy (thing.Local n (Some ty)) h = copy_object ty (Auto n) _ (auto_is n) (each_get (λ l. IsTrue (is_object_by e.structs.sizes l.1)) e.locals n (h.0, ty) h.1 g.locals)
  own_copy (thing.Local n None) h = absurd h
  own_copy (thing.Global n ty) h = absurd h
  own_copy (thing.Func number params ret) h = absurd h

  file_copy : (x : Thing) → FileThing e.structs.sizes x → CopyFine (name_part at (Some x)) (name_faults at (Some x))
  unfolding name_part declared_place place_from name_faults
  file_copy (thing.Global n (Some ty)) h = copy_object ty (Global n) _ (global_is n) h
  file_copy (thing.Global n None) h = absurd (let no : false ≡ true = h in cc)
  file_copy (thing.Local n ty) h = absurd (let no : false ≡ true = h in cc)
  file_copy (thing.Func number params ret) h = λ none f r p. absurd (name_not _ _ none)

  either_copy : (own file : Option Thing) → (found : Option Thing) → or_else own file ≡ found → ((x : Thing) → own ≡ Some x → OwnThing e.locals x) → ((x : Thing) → file ≡ Some x → FileThing e.structs.sizes x) → CopyFine (name_part at (or_else own file)) (name_faults at (or_else own file))
  unfolding name_faults
  either_copy (Some x) file o p f k = own_copy x (f x refl)
  either_copy None (Some x) o p f k = file_copy x (k x refl)
  either_copy None None o p f k = λ none h r q. absurd (name_not _ _ none)

  thing_copy : CopyFine (name_part at (env.found name e)) (name_faults at (env.found name e))
  thing_copy = either_copy (found_in name e.own) (found_in name e.file) (env.found name e) refl
      (λ x h. in_found (OwnThing e.locals) name e.own x h g.own) (λ x h. in_found (FileThing e.structs.sizes) name e.file x h g.file)

  -- ---- the name is no reserved one
  abbrev there : Judged Found
  there = record { env = e; part = name_part at (env.found name e); faults = name_faults at (env.found name e) }

  named_is : (named at (Some name) e).faults ≡ [] → named at (Some name) e ≡ there
  unfolding named
  named_is h = by (is_reserved name) h
    where
      by : (b : Bool) → (cond b (give unknown_place (type_fault at) e) (give (name_part at (env.found name e)) (name_faults at (env.found name e)) e)).faults ≡ [] →
          cond b (give unknown_place (type_fault at) e) (give (name_part at (env.found name e)) (name_faults at (env.found name e)) e) ≡ there
      by true h = absurd (name_not _ _ h)
      by false h = refl

  abbrev Claim : Judged Found → Type 0
  Claim a = (rest_of t token a.part a.env).faults ≡ [] → Given e (rest_of t token a.part a.env).env (IsCopy t (rest_of t token a.part a.env).env (rest_of t token a.part a.env).part)

  copy_named : Clean (and_then (named at (Some name)) (rest_of t token)) e → Given e (and_then (named at (Some name)) (rest_of t token) e).env (IsCopy t (and_then (named at (Some name)) (rest_of t token) e).env (and_then (named at (Some name)) (rest_of t token) e).part)
  copy_named c =
      let j = named at (Some name) in
      let none = none_left (j e).faults _ c.faultless in
      let more = none_right (j e).faults _ c.faultless in
      let same = named_is none in
      let f = places.named_fine at name e g (clean_first j (rest_of t token) e c (λ x f h. h)) in
      let fine : Fine t e (name_part at (env.found name e)) = subst (λ (a : Judged Found). Fine t a.env a.part) same f.holds in
      let none' : name_faults at (env.found name e) ≡ [] = ap (λ (a : Judged Found). a.faults) (sym same) ∙ none in
      subst Claim (sym same) (λ k.
      let r = none_left (rvalue_faults at (name_part at (env.found name e)).known) _ k in
      let q = none_right (rvalue_faults at (name_part at (env.found name e)).known) _ k in
      given_self e _ g (thing_copy none' fine r (kept at (futures.may_be_variable (name_part at (env.found name e)).known) q))) more

-- assumed of types
abbrev pub ObjectGrows : Type 0
ObjectGrows = (few added : List ℕ) (ty : Ty) → IsTrue (is_object_by few ty) → IsTrue (is_object_by (few ++ added) ty)

module _ (t : Text) (places : PlacesFine t) where
  pub copy_fine : (token : ℕ) → IsTrue (is_some (name_of t token)) → Gives (IsCopy t) (futures.copy_of t token)
  unfolding futures.copy_of
  copy_fine token h e g =
      let at = futures.spot_of t token in
      let n = some_of (name_of t token) h in
      subst (λ o. Clean (and_then (named at o) (rest_of t token)) e → Given e (and_then (named at o) (rest_of t token) e).env
      (IsCopy t (and_then (named at o) (rest_of t token) e).env (and_then (named at o) (rest_of t token) e).part)) (sym n.1) (copy_named t places token n.0 n.1 e g)

  -- it stays so, where types of objects stay such types
  copy_behind : ObjectGrows → (e e' : Env) (c : Copied) → Stays e e' → IsCopy t e c → IsCopy t e' c
  copy_behind grows e e' c s k = let v = k.value in record {
    name = k.name;
    named = k.named;
    ty = k.ty;
    known = k.known;
    plain = k.plain;
    object = subst (λ ns. IsTrue (is_object_by ns k.ty)) (sym s.structs.sizes) (grows e.structs.sizes s.structs.added k.ty k.object);
    from = k.from;
    is_made = k.is_made;
    value = record {
      typed = λ cx i. v.typed cx (into_before t cx e e' (stays_extends e e' s) i);
      own = λ cx i. v.own cx (into_before t cx e e' (stays_extends e e' s) i);
      seen = λ seen c. v.seen seen (subst (λ o. InScopes (SeenThing seen) o) s.own c);
      used = λ flags m. v.used flags (set_then e.addressed e'.addressed flags s.addressed m);
    };
    variable = k.variable;
  }

  pub copies_fine : ObjectGrows → (ns : List ℕ) → IsTrue (every (map (λ n. is_some (name_of t n)) ns)) → Gives (λ e cs. Each (IsCopy t e) cs) (futures.copies t ns)
  unfolding futures.copies
  copies_fine grows [] h e g c = given_self e _ g tt
  copies_fine grows (n ∷ ns) h e g c =
      let j1 = futures.copy_of t n in
      let j2 = futures.copies t ns in
      let k2 : Copied → List Copied → Judge (List Copied) = λ c cs. give (c ∷ cs) [] in
      let k1 : Copied → Judge (List Copied) = λ c. and_then j2 (k2 c) in
      let m1 = copy_fine n (and_left _ _ h) e g (clean_first j1 k1 e c (λ v. passing_copies t ns)) in
      let e1 = (j1 e).env in
      let c1 = clean_second j1 k1 e c in
      let m2 = copies_fine grows ns (and_right (is_some (name_of t n)) _ h) e1 m1.good (clean_first j2 (k2 (j1 e).part) e1 c1 (λ v f i. i)) in
      let e2 = (j2 e1).env in
      record { good = m2.good; stays = stays_then e e1 e2 m1.stays m2.stays; holds = (copy_behind grows e1 e2 (j1 e).part m2.stays m1.holds, m2.holds) }
