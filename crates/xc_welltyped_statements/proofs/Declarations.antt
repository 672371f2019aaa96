-- Declarations of a function.
use Rattle.std.proofs.Common.{◌≡◌, ℕ, ◌+◌, ◌-◌, ◌<◌, List, [], ◌∷◌, ◌++◌, length, map, Bool, false, refl, sym, ap, ◌∙◌, subst, arith, length-append}
use Rattle.std.specs.Prelude.{IsTrue, ◌&&◌, nat_lt, Option, Some, slice_get}
use Rattle.std.proofs.lemmas.Bool.{lt-ltb}
use Rattle.std.proofs.lemmas.Option.{slice_get_within}
use Rattle.xc_text_place.specs.declared.Span.{Span}
use Rattle.xc_tree.specs.declared.ty.Ty.{Ty}
use Rattle.xc_tree.specs.declared.expr.Expr.{Expr}
use Rattle.xc_tree.specs.declared.stmt.Stmt.{Stmt}
use Rattle.xc_tree.specs.declared.stmt.StmtKind.{Declare, roll-StmtKind}
use Rattle.xc_tree.specs.declared.stmt.Item.TheOpen.{StmtKind-F}
use Rattle.xc_tree.specs.declared.tree.Local.{Local}
use Rattle.xc_tree.specs.Lists.{every, ascending, passes}
use Rattle.xc_tree.specs.Types.{may_hold, cell_of}
use Rattle.xc_tree.specs.Typed.{Context, value_ok}
use Rattle.xc_tree.specs.Statements.{Leaving, leaving, clause_ok, sight, sees, init_ok, inits_ok}
use Rattle.xc_tree.proofs.Lists.{and_left, and_right, and_both}
use Rattle.xc_raw.specs.declared.rule.Rule.{Rule}
use Rattle.xc_raw.specs.declared.rule.Rule.TheVariants as rule
use Rattle.xc_raw.specs.declared.tree.Raw.{Raw, out-Raw}
use Rattle.xc_type_scopes.specs.declared.env.Env.{Env}
use Rattle.xc_type_scopes.specs.Judge.{Judge, give, and_then}
use Rattle.xc_type_expressions.specs.declared.text.Text.{Text}
use Rattle.xc_type_expressions.specs.declared.types.Declared.{Declared}
use Rattle.xc_type_expressions.specs.Judged.{judged, span_in}
use Rattle.xc_type_initialisers.specs.Initialisers.{local_inits}
use Rattle.xc_type_statement_parts.specs.declared.answer.Answer.{Answer}
use Rattle.xc_type_statement_parts.specs.Making.{Stmts, stmt, one, followed}
use Rattle.xc_type_statement_parts.specs.Declarations.{declared_object, initialised, declare_made, declares_by, declares, declares_all, declaration}
use Rattle.xc_type_lowering.specs.Accessed.{only_accessed}
use Rattle.xc_welltyped_claims.specs.Lists.{Each, Fresh}
use Rattle.xc_welltyped_claims.specs.Types.{is_object_by, will_be_object}
use Rattle.xc_welltyped_claims.specs.Env.{Good, AreComplete, Ready, Stays, Covers, object_of}
use Rattle.xc_welltyped_claims.specs.Judges.{Clean, Given, Made, Makes}
use Rattle.xc_welltyped_claims.specs.Roles.{IsBase, RoleFine}
use Rattle.xc_welltyped_claims.specs.Shaped.{rule_in, is_specs, is_declr, is_dinit, is_init, one_at_most, all_of, is_token, level_ok, Shaped, IsLexed, Spoken}
use Rattle.xc_welltyped_claims.proofs.Env.{stays_extends, extends_then}
use Rattle.xc_welltyped_claims.proofs.Judges.{given_self, made_self, made_of, clean_first, clean_second}
use Rattle.xc_welltyped_claims.proofs.Nodes.{parts_shaped, level_shaped}
use Rattle.xc_welltyped_claims.proofs.Strings.{spoken_of}
use Rattle.xc_welltyped_statements.specs.Inits.{AreInits, is_init_ok, LocalInits}
use Rattle.xc_welltyped_statements.specs.Stmts.{IsStmt, AreStmts, IsObject}
use Rattle.xc_welltyped_statements.proofs.Passing.{passing_object, passing_initialised, passing_declares_all}
use Rattle.xc_welltyped_statements.proofs.Folds.{IsForm, stmt_by, adds_by, leaving_by}
use Rattle.xc_welltyped_statements.proofs.Fresh.{fresh_none, fresh_one}
use Rattle.xc_welltyped_statements.proofs.Values.{some_of}
use Rattle.xc_welltyped_statements.proofs.Joins.{stmts_none, stmts_both, stmts_alone, stmts_from}
use Rattle.xc_welltyped_statements.proofs.Simple.{covers_stays, one_spoken}
use Rattle.xc_welltyped_statements.proofs.Places.{local_at}
use Rattle.xc_welltyped_statements.proofs.Objects.{object_fine, get_last}
use Rattle.xc_welltyped_structs.proofs.Lists.{every_of}
use Rattle.xc_welltyped_expressions.proofs.Bounds.{base_behind}
use Rattle.xc_welltyped.proofs.Types.{or_left}

from_zero : (n : ℕ) → n - 0 ≡ n
from_zero n = omega arith

init_cells : (cx : Context) (l : Local) (init : List (ℕ × Expr)) → Each (λ i. IsTrue (is_init_ok cx l.ty 0 i)) init → Each (λ i. IsTrue (init_ok cx l i)) init
init_cells cx l [] h = tt
init_cells cx l (i ∷ is) h = (subst (λ k. IsTrue (value_ok cx i.1 && passes (λ t. may_hold t i.1.ty) (cell_of cx.shapes l.ty k))) (from_zero i.0) h.0, init_cells cx l is h.1)

-- an object with what it begins with
pub record MadeDeclared (t : Text) (a : Answer) (looping : Bool) (ns : List Raw) (e e' : Env) (o : Option Stmt) : Type 0 where
  pub made : Stmt
  pub is_made : o ≡ Some made
  pub stmt : IsStmt t a looping e e' made
  pub covers : (seen : List ℕ) → Covers seen e → Covers ((sight made).adds ++ seen) e'
  pub declares : IsTrue (leaving made).declares
  pub spoken : Each (Spoken t) ns

pub record MadeDecls (t : Text) (a : Answer) (looping : Bool) (ns : List Raw) (e e' : Env) (o : Stmts) : Type 0 where
  pub made : List Stmt
  pub known : o ≡ Some made
  pub stmts : AreStmts t a looping e e' made
  pub declare : IsTrue (every (map (λ (s : Leaving). s.declares) (map leaving made)))
  pub spoken : Each (Spoken t) ns

pub clause_all : (ls : List Leaving) → IsTrue (every (map (λ s. s.declares) ls)) → IsTrue (clause_ok ls)
clause_all [] h = refl
clause_all (s ∷ []) h = or_left s.declares s.evaluates (and_left s.declares _ h)
clause_all (s ∷ s' ∷ ls) h = h

pub one_longer : (xs ys : List (Span × Ty)) (x : Span × Ty) → ys ≡ xs ++ x ∷ [] → length xs < length ys
one_longer xs ys x e = let long : length ys ≡ length xs + 1 = ap length e ∙ length-append xs (x ∷ []) in omega (arith, long)

module _ (t : Text) (a : Answer) (looping : Bool) (e e1 e2 e3 : Env) (at : Span) (ty : Ty) (k : Stays e e1) (o : IsObject at ty e1 e2) (l : Stays e2 e3) (init : List (ℕ × Expr)) (h : AreInits t e3 ty 0 init) where
  abbrev number : ℕ
  number = length e1.locals

  covers_declared : (seen : List ℕ) → Covers seen e → Covers (number ∷ seen) e3
  covers_declared seen c = covers_stays (number ∷ seen) e2 e3 l (o.covers seen (covers_stays seen e e1 k c))

  locals_are : e3.locals ≡ e1.locals ++ (at, ty) ∷ []
  locals_are = l.locals ∙ o.locals

  there : slice_get e3.locals number ≡ Some (at, ty)
  there = subst (λ ls. slice_get ls number ≡ Some (at, ty)) (sym locals_are) (get_last e1.locals (at, ty))

  declare_form : IsForm t a looping e e3 (StmtKind-F.Declare number init)
  declare_form = record {
    typed = λ cx i. let here = local_at t cx e3 i number (at, ty) there in
        and_both (nat_lt number (length cx.locals)) _ (lt-ltb number (length cx.locals) (slice_get_within cx.locals number _ here))
        (and_both (ascending (map (λ i. i.0) init)) _ h.ascends
        (subst (λ q. IsTrue (inits_ok cx q init)) (sym here) (every_of (init_ok cx (object_of (at, ty))) init (init_cells cx (object_of (at, ty)) init (h.typed cx i)))));
    leaves = λ cx i ret r. refl;
    sees = λ seen c. every_of (λ i. sees (number ∷ seen) i.1) init (h.seen (number ∷ seen) (covers_declared seen c));
    ids = fresh_none e.loops e3.loops;
    declares = subst (λ ls. Fresh (length ls) (length e3.locals) (number ∷ [])) k.locals (fresh_one number (length e3.locals) (one_longer e1.locals e3.locals (at, ty) locals_are));
    used = λ flags m. every_of (λ i. only_accessed flags i.1) init (h.used flags m);
  }

  declared_made : (ns : List Raw) (span : Span) (x : Option ℕ) (y : Option (List (ℕ × Expr))) → x ≡ Some number → y ≡ Some init → Each (Spoken t) ns → MadeDeclared t a looping ns e e3 (declare_made span x y)
  unfolding roll-StmtKind denote.Hole.Carrier.roll
  declared_made ns span x y p q s = record {
    made = stmt span (Declare number init);
    is_made = ap (λ x. declare_made span x y) p ∙ ap (λ y. declare_made span (Some number) y) q;
    stmt = stmt_by t a looping e e3 span (StmtKind-F.Declare number init) declare_form;
    covers = λ seen c. subst (λ ns. Covers (ns ++ seen) e3) (sym (adds_by span (StmtKind-F.Declare number init))) (covers_declared seen c);
    declares = ap (λ (l : Leaving). l.declares) (leaving_by span (StmtKind-F.Declare number init));
    spoken = s;
  }

no_inits : (t : Text) (e : Env) (ty : Ty) → LocalInits t e ty (Some [])
unfolding ascending
no_inits t e ty = record { made = []; known = refl; inits = record { ascends = refl; within = tt; typed = λ cx i. tt; seen = λ seen c. tt; used = λ flags m. tt } }

-- assumed of declarators and initialisers
abbrev pub LocalInitsFine : Text → Type 0
LocalInitsFine t = (node : Raw) → Shaped t node → IsTrue (is_init (rule_in node)) → (ty : Ty) (e : Env) → Good e → AreComplete e.structs.sizes →
    IsTrue (is_object_by e.structs.sizes ty) → Clean (local_inits t node (Some ty)) e →
    Given e (local_inits t node (Some ty) e).env (LocalInits t (local_inits t node (Some ty) e).env ty (local_inits t node (Some ty) e).part × Spoken t node)

abbrev pub PromiseKept : Type 0
PromiseKept = (ns : List ℕ) → AreComplete ns → (ty : Ty) → IsTrue (will_be_object ns ty) → IsTrue (is_object_by ns ty)

-- the parts of a declarator with its initialiser
pub dinit_parts : (t : Text) (n : Raw) (r : Rule) (ps : List Raw) → IsTrue (is_dinit r) → IsTrue (level_ok t n r ps) → (d : Raw) × (is : List Raw) × (ps ≡ d ∷ is) × IsTrue (is_declr (rule_in d)) × IsTrue (one_at_most is_init is) × (is_token r ps ≡ false)
unfolding level_ok
dinit_parts t n rule.Dinit [] h k = absurd cc
dinit_parts t n rule.Dinit (d ∷ is) h k = (d, is, refl, and_left (is_declr (rule_in d)) _ k, and_right (is_declr (rule_in d)) _ k, refl)
dinit_parts t n r ps h k = absurd cc

module _ (t : Text) (lexed : IsLexed t) (role_fine : (node : Raw) → Shaped t node → RoleFine t node (judged t node)) (kept : PromiseKept) (inits_fine : LocalInitsFine t) (a : Answer) (looping : Bool) where
  initialised_fine : (is : List Raw) → Each (Shaped t) is → IsTrue (one_at_most is_init is) → (ty : Ty) (e : Env) → Good e → AreComplete e.structs.sizes → IsTrue (is_object_by e.structs.sizes ty) →
      (o : Option Ty) → o ≡ Some ty → Clean (initialised t o is) e → Given e (initialised t o is e).env (LocalInits t (initialised t o is e).env ty (initialised t o is e).part × Each (Spoken t) is)
  unfolding initialised
  initialised_fine [] h x ty e g c w o p = λ cl. given_self e _ g (no_inits t e ty, tt)
  initialised_fine (i ∷ is) h x ty e g c w o p =
      subst (λ o. Clean (local_inits t i o) e → Given e (local_inits t i o e).env (LocalInits t (local_inits t i o e).env ty (local_inits t i o e).part × Each (Spoken t) (i ∷ is))) (sym p)
      (λ cl. let m = inits_fine i h.0 (and_left _ _ x) ty e g c w cl in
      record { good = m.good; stays = m.stays; holds = (m.holds.0, one_spoken t i is (and_right (is_init (rule_in i)) _ x) m.holds.1) })

  declares_fine : (span : Span) (base : Option Ty) (d : Raw) (is : List Raw) → Shaped t d → IsTrue (is_declr (rule_in d)) → Each (Shaped t) is → IsTrue (one_at_most is_init is) → (e : Env) → Ready e → IsBase e base →
      Clean (declares_by t span base (d ∷ is)) e → Made e (declares_by t span base (d ∷ is) e).env (MadeDeclared t a looping (d ∷ is) e (declares_by t span base (d ∷ is) e).env (declares_by t span base (d ∷ is) e).part)
  unfolding declares_by
  declares_fine span base d is hd xd hs xs e r b c =
      let j1 = (judged t d).declared base in
      let x = (j1 e).part in
      let j2 = declared_object x in
      let j3 = initialised t x.ty is in
      let k3 : Option ℕ → Option (List (ℕ × Expr)) → Judge (Option Stmt) = λ number init. give (declare_made span number init) [] in
      let k2 : Declared → Option ℕ → Judge (Option Stmt) = λ x number. and_then (initialised t x.ty is) (k3 number) in
      let k1 : Declared → Judge (Option Stmt) = λ x. and_then (declared_object x) (k2 x) in
      let m1 = (role_fine d hd).declared xd base e r.good b (clean_first j1 k1 e c (λ v f i. passing_object v f (passing_initialised t v.ty is (declared_object v f).env i))) in
      let e1 = (j1 e).env in
      let c1 = clean_second j1 k1 e c in
      let q = m1.holds.0 in
      let r1 = (made_of e e1 _ r m1).ready in
      let ok = kept e1.structs.sizes r1.complete q.ty q.object in
      let name = some_of x.name q.named in
      let m2 = object_fine x q.ty name.0 q.known name.1 e1 r1 ok in
      let e2 = (j2 e1).env in
      let o = m2.holds.0 in
      let c2 = clean_second j2 (k2 x) e1 c1 in
      let ok2 = subst (λ s. IsTrue (is_object_by s.sizes q.ty)) (sym o.structs) ok in
      let m3 = initialised_fine is hs xs q.ty e2 m2.ready.good m2.ready.complete ok2 x.ty q.known (clean_first j3 (k3 (j2 e1).part) e2 c2 (λ v f i. i)) in
      let e3 = (j3 e2).env in
      let z = m3.holds.0 in
      let m4 = made_of e2 e3 _ m2.ready m3 in
      record {
        ready = m4.ready;
        extends = extends_then e e1 e3 (stays_extends e e1 m1.stays) (extends_then e1 e2 e3 m2.extends m4.extends);
        file = m4.file ∙ m2.file ∙ m1.stays.file;
        holds = declared_made t a looping e e1 e2 e3 x.at q.ty m1.stays o m3.stays z.made z.inits (d ∷ is) span (j2 e1).part (j3 e2).part m2.holds.1 z.known (m1.holds.1, m3.holds.1);
      }

  declares_node : (base : Option Ty) (n : Raw) → Shaped t n → IsTrue (is_dinit (rule_in n)) → (e : Env) → Ready e → IsBase e base →
      Clean (declares t base n) e → Made e (declares t base n e).env (MadeDeclared t a looping (n ∷ []) e (declares t base n e).env (declares t base n e).part)
  declares_node base n h x e r b =
      let q = dinit_parts t n (rule_in n) (out-Raw n).parts x (level_shaped t n h) in
      let s : Each (Shaped t) (q.0 ∷ q.1) = subst (λ ps. Each (Shaped t) ps) q.2 (parts_shaped t n h) in
      let m = declares_fine (span_in t n) base q.0 q.1 s.0 q.3 s.1 q.4 e r b in
      let made = subst (λ ps. Clean (declares_by t (span_in t n) base ps) e → Made e (declares_by t (span_in t n) base ps e).env (MadeDeclared t a looping ps e (declares_by t (span_in t n) base ps e).env (declares_by t (span_in t n) base ps e).part)) (sym q.2) m in
      λ c. let y = made c in let z = y.holds in
      record {
        ready = y.ready;
        extends = y.extends;
        file = y.file;
        holds = record {
          made = z.made;
          is_made = z.is_made;
          stmt = z.stmt;
          covers = z.covers;
          declares = z.declares;
          spoken = (spoken_of t lexed n h q.5 z.spoken, tt);
        };
      }

  followed_is : (s : Stmt) (ss : List Stmt) (x : Option Stmt) (y : Stmts) → x ≡ Some s → y ≡ Some ss → followed (one x) y ≡ Some (s ∷ ss)
  unfolding followed one
  followed_is s ss x y p q = ap (λ x. followed (one x) y) p ∙ ap (λ y. followed (Some (s ∷ [])) y) q

  all_fine : (base : Option Ty) (ds : List Raw) → Each (Shaped t) ds → IsTrue (all_of is_dinit ds) → (e : Env) → Ready e → IsBase e base →
      Clean (declares_all t base ds) e → Made e (declares_all t base ds e).env (MadeDecls t a looping ds e (declares_all t base ds e).env (declares_all t base ds e).part)
  unfolding declares_all
  all_fine base [] h x e r b c = made_self e _ r (record { made = []; known = refl; stmts = stmts_none t a looping e e refl; declare = refl; spoken = tt })
  all_fine base (d ∷ ds) h x e r b c =
      let j1 = declares t base d in
      let j2 = declares_all t base ds in
      let k2 : Option Stmt → Stmts → Judge Stmts = λ x xs. give (followed (one x) xs) [] in
      let k1 : Option Stmt → Judge Stmts = λ x. and_then j2 (k2 x) in
      let m1 = declares_node base d h.0 (and_left _ _ x) e r b (clean_first j1 k1 e c (λ v. passing_declares_all t base ds)) in
      let e1 = (j1 e).env in
      let c1 = clean_second j1 k1 e c in
      let m2 = all_fine base ds h.1 (and_right (is_dinit (rule_in d)) _ x) e1 m1.ready (base_behind e e1 m1.extends.structs base b) (clean_first j2 (k2 (j1 e).part) e1 c1 (λ v f i. i)) in
      let e2 = (j2 e1).env in
      let s = m1.holds in
      let q = m2.holds in
      record {
        ready = m2.ready;
        extends = extends_then e e1 e2 m1.extends m2.extends;
        file = m2.file ∙ m1.file;
        holds = record {
          made = s.made ∷ q.made;
          known = followed_is s.made q.made (j1 e).part (j2 e1).part s.is_made q.known;
          stmts = stmts_both t a looping e e1 e2 (s.made ∷ []) q.made m1.extends m2.extends (stmts_alone t a looping e e1 s.made s.covers s.stmt) q.stmts;
          declare = and_both (leaving s.made).declares _ s.declares q.declare;
          spoken = (s.spoken.0, q.spoken);
        };
      }

  pub declaration_fine : (s : Raw) (ds : List Raw) → Each (Shaped t) (s ∷ ds) → IsTrue (is_specs (rule_in s)) → IsTrue (all_of is_dinit ds) → Makes (MadeDecls t a looping (s ∷ ds)) (declaration t (s ∷ ds))
  unfolding declaration
  declaration_fine s ds h x y e r c =
      let j1 = (judged t s).specified false in
      let k1 : Option Ty → Judge Stmts = λ base. declares_all t base ds in
      let m1 = (role_fine s h.0).specified x false e r.good (clean_first j1 k1 e c (λ v. passing_declares_all t v ds)) in
      let e1 = (j1 e).env in
      let c1 = clean_second j1 k1 e c in
      let m0 = made_of e e1 _ r m1 in
      let m2 = all_fine (j1 e).part ds h.1 y e1 m0.ready m1.holds.0 c1 in
      let e2 = (k1 (j1 e).part e1).env in
      let q = m2.holds in
      record {
        ready = m2.ready;
        extends = extends_then e e1 e2 m0.extends m2.extends;
        file = m2.file ∙ m0.file;
        holds = record {
          made = q.made;
          known = q.known;
          stmts = stmts_from t a looping e e1 e2 q.made m1.stays.own m1.stays.loops m1.stays.locals q.stmts;
          declare = q.declare;
          spoken = (m1.holds.1, q.spoken);
        };
      }
