-- Expressions that are well typed and have code stand for straight terms.
use Rattle.std.proofs.Common.{◌≡◌, ℕ, List, [], ◌∷◌, map, get_or, Option, Some, None, Bool, true, false, cond, refl, sym, ap, ◌∙◌, subst}
use Rattle.std.specs.Prelude.{IsTrue, slice_get, ◌&&◌, ◌||◌}
use Rattle.xc_text_place.specs.declared.Span.{Span}
use Rattle.xc_word.specs.declared.memory.Kind.{Kind}
use Rattle.xc_word.specs.declared.memory.Kind.TheVariants as kind
use Rattle.xc_tree.specs.declared.operator.BinOp.{BinOp}
use Rattle.xc_tree.specs.declared.operator.UnOp.{UnOp}
use Rattle.xc_tree.specs.declared.operator.UnOp.TheVariants as unary
use Rattle.xc_tree.specs.declared.ty.Ty.{Ty, Int}
use Rattle.xc_tree.specs.declared.expr.Expr.{Expr, roll-Expr}
use Rattle.xc_tree.specs.declared.expr.ExprKind.{ExprKind, roll-ExprKind}
use Rattle.xc_tree.specs.declared.expr.ExprKind.TheOpen.{ExprKind-F, Expr-F}
use Rattle.xc_tree.specs.declared.expr.ExprKind.TheFolds.{fold-ExprKind, fold-roll-ExprKind, fold-roll-Expr, ind-Expr, map-ExprKind}
use Rattle.xc_tree.specs.declared.tree.Object.{Object}
use Rattle.xc_tree.specs.Lists.{every, passes}
use Rattle.xc_tree.specs.Types.{Shape, is_number, is_void, is_pointer, same_ty, common_type, both_numbers, fits, content}
use Rattle.xc_tree.specs.Kinds.{is_read, is_write, same_write, read_kind, write_kind}
use Rattle.xc_tree.specs.Typed.{Context, Row, Sort, sum, difference, shift, comparison, number, sort_of, binary_ok, unary_ok, update_ok, kind_step, part_of as typed_of, expr_ok, part_ok, parts, named, operands, are_values, rule, global_type, leads_to}
use Rattle.xc_tree.specs.Typed as typed
use Rattle.xc_tree.proofs.Lists.{and_left, and_right, pick}
use Rattle.xc_tree_words.specs.Words.{works_on_uint}
use Rattle.xc_meaning.specs.Terms as old
use Rattle.xc_gen.specs.Unbuilt.{earlier, first_in, first_of}
use Rattle.xc_gen.proofs.Typed.{none_left, none_right, none_before}
use Rattle.xc_meaning_terms.specs.declared.operation.Operation.{Operation}
use Rattle.xc_meaning_terms.specs.declared.operation.Operation.TheVariants.{OnWords}
use Rattle.xc_meaning_terms.specs.Terms.{Term, Number, Global, Read, Write, Update, Unary, Binary, And, Or, Cond, Comma, Print, Terms, NoMore, More}
use Rattle.xc_meaning_straight.specs.Straight.{term_for, terms_for, HasMeaning, HaveMeaning}
use Rattle.xc_meaning_trees.specs.Trees.{Part, Form, local_in, term_in, terms_of, form_step, part_of, term_of, operation_of, update_in}
use Rattle.xc_gen_straight.proofs.Flat.{Flat, number_flat, void_flat, same_flat, same_number, int_flat, common_flat, words_alone, Leads, reads_plainly, writes_plainly, at_place, leads}

-- where the globals are numbers
module _ (cx : Context) (shapes : List Shape) (numbers : (i : ℕ) (g : Object) → slice_get cx.globals i ≡ Some g → is_number g.ty ≡ true) where
  -- The two readings of an expression of this type agree: of the place of a global, and of a value whose forms all have code.
  pub record Agrees (variable : Bool) (ty : Ty) (global : Option ℕ) (t : old.Term) (local : Option ℕ) (u : Term) : Type 0 where
    pub place : (g : ℕ) → global ≡ Some g → (u ≡ Global g) × (local ≡ None) × (variable ≡ false) × Leads ty
    pub built : first_in t ≡ None → HasMeaning t × (term_for t ≡ u) × Flat ty

  abbrev row_of : ExprKind → Row
  row_of = fold-ExprKind Row typed.Part (kind_step cx) (λ e. record { ty = e.ty; variable = e.kind.variable; within = e.kind.within; ok = e.kind.ok e.ty })

  abbrev old_of : ExprKind → old.Form
  old_of = fold-ExprKind old.Form old.Part old.form_step (λ e. record { ty = e.ty; global = e.kind.global; term = e.kind.term e.ty e.span })

  abbrev new_of : ExprKind → Form
  new_of = fold-ExprKind Form Part (form_step shapes) (λ e. record { ty = e.ty; local = e.kind.local; term = e.kind.term e.ty })

  abbrev KindAgrees : ExprKind → Type 0
  KindAgrees k = (ty : Ty) (span : Span) → IsTrue ((row_of k).ok ty) → Agrees (row_of k).variable ty (old_of k).global ((old_of k).term ty span) (new_of k).local ((new_of k).term ty)

  -- its type is one, and its readings agree
  pub record ExprAgrees (e : Expr) : Type 0 where
    pub old_ty : (old.part_of e).ty ≡ (typed_of cx e).ty
    pub new_ty : (part_of shapes e).ty ≡ (typed_of cx e).ty
    pub agrees : IsTrue (expr_ok cx e) → Agrees (typed_of cx e).variable (typed_of cx e).ty (old.part_of e).global (old.term_of e) (part_of shapes e).local (term_of shapes e)

  -- a child and what is known of it
  abbrev Child : Type 0
  Child = (e : Expr) × ExprAgrees e

  abbrev KindChild : Type 0
  KindChild = (k : ExprKind) × KindAgrees k

  abbrev layer : ExprKind-F KindChild Child → ExprKind-F ExprKind Expr
  layer y = map-ExprKind KindChild Child ExprKind Expr (λ k. k.0) (λ e. e.0) y

  abbrev typed_layer : ExprKind-F KindChild Child → ExprKind-F Row typed.Part
  typed_layer y = map-ExprKind ExprKind Expr Row typed.Part row_of (typed_of cx) (layer y)

  abbrev old_layer : ExprKind-F KindChild Child → ExprKind-F old.Form old.Part
  old_layer y = map-ExprKind ExprKind Expr old.Form old.Part old_of old.part_of (layer y)

  abbrev new_layer : ExprKind-F KindChild Child → ExprKind-F Form Part
  new_layer y = map-ExprKind ExprKind Expr Form Part new_of (part_of shapes) (layer y)

  -- the test of the whole form
  abbrev Whole : ExprKind-F KindChild Child → Ty → Type 0
  Whole y ty = IsTrue ((kind_step cx (typed_layer y)).ok ty)

  ruled : (y : ExprKind-F KindChild Child) (ty : Ty) → Whole y ty → IsTrue (rule cx (typed_layer y) ty)
  ruled y ty h = and_right (are_values (operands (typed_layer y))) _ (and_right (named cx (typed_layer y)) _ (and_right (every (map part_ok (parts (typed_layer y)))) _ h))

  one : (y : ExprKind-F KindChild Child) (ty : Ty) (k : ℕ) → Whole y ty → IsTrue (get_or (map part_ok (parts (typed_layer y))) k true)
  one y ty k h = pick (map part_ok (parts (typed_layer y))) k (and_left _ _ h)

  -- no place
  abbrev Value : Ty → old.Term → Term → Type 0
  Value ty t u = first_in t ≡ None → HasMeaning t × (term_for t ≡ u) × Flat ty

  no_place : (v : Bool) (ty : Ty) (t : old.Term) (local : Option ℕ) (u : Term) → Value ty t u → Agrees v ty None t local u
  no_place v ty t local u h = record { place = λ g e. absurd cc; built = h }

  unbuilt : (v : Bool) (ty : Ty) (span : Span) (local : Option ℕ) (u : Term) → Agrees v ty None (old.Term.Unbuilt span) local u
  unbuilt v ty span local u = no_place v ty (old.Term.Unbuilt span) local u (λ e. absurd cc)

  -- what is known of a part
  abbrev typ : Child → Ty
  typ c = (typed_of cx c.0).ty

  abbrev told : Child → old.Term
  told c = old.term_of c.0

  abbrev tnew : Child → Term
  tnew c = term_of shapes c.0

  abbrev Known : Child → Type 0
  Known c = Agrees (typed_of cx c.0).variable (typ c) (old.part_of c.0).global (told c) (part_of shapes c.0).local (tnew c)

  both : (a b : Child) → Known a → Known b → earlier (first_in (told a)) (first_in (told b)) ≡ None
      → (HasMeaning (told a) × HasMeaning (told b)) × (term_for (told a) ≡ tnew a) × (term_for (told b) ≡ tnew b) × Flat (typ a) × Flat (typ b)
  both a b ka kb e =
      let ga = ka.built (none_left (first_in (told a)) (first_in (told b)) e) in
      let gb = kb.built (none_right (first_in (told a)) (first_in (told b)) e) in
      ((ga.0, gb.0), ga.1, gb.1, ga.2, gb.2)

  -- an operation on values is one on words
  on_words : (o : BinOp) (a b : Child) → Flat (typ a) → Flat (typ b) → OnWords o (works_on_uint o (old.part_of a.0).ty (old.part_of b.0).ty) ≡ operation_of shapes o (part_of shapes a.0).ty (part_of shapes b.0).ty
  on_words o a b x y =
      ap (λ s. OnWords o (works_on_uint o s (old.part_of b.0).ty)) a.1.old_ty ∙ ap (λ s. OnWords o (works_on_uint o (typ a) s)) b.1.old_ty
      ∙ sym (words_alone shapes o (typ a) (typ b) x y)
      ∙ ap (λ s. operation_of shapes o s (typ b)) (sym a.1.new_ty) ∙ ap (λ s. operation_of shapes o (part_of shapes a.0).ty s) (sym b.1.new_ty)

  -- ---- the type of a whole

  of_sums : (a b ty : Ty) (rest : Bool) → Flat a → Flat b → IsTrue ((both_numbers a b && same_ty ty (common_type a b)) || rest) → (rest ≡ true → ⊥) → Flat ty
  of_sums a b ty rest x y h none = at (both_numbers a b && same_ty ty (common_type a b)) refl h
    where
      at : (s : Bool) → (both_numbers a b && same_ty ty (common_type a b)) ≡ s → IsTrue (s || rest) → Flat ty
      at true e h = same_flat ty (common_type a b) (and_right (both_numbers a b) _ e) (common_flat a b x)
      at false e h = absurd (none h)

  never_and : (a b : Bool) → a ≡ false → (a && b) ≡ true → ⊥
  never_and true b e h = cc
  never_and false b e h = cc

  no_pointers : (a b ty : Ty) → Flat a → Flat b → ((is_pointer a && is_number b && same_ty ty a) || (is_number a && is_pointer b && same_ty ty b)) ≡ true → ⊥
  no_pointers a b ty x y h = at (is_pointer a) (is_number a) (is_pointer b) (is_number b) (same_ty ty a) (same_ty ty b) x y h
    where
      at : (p n q m s u : Bool) → p ≡ false → q ≡ false → ((p && m && s) || (n && q && u)) ≡ true → ⊥
      at true n q m s u x y h = cc
      at false true true m s u x y h = cc
      at false true false m s u x y h = cc
      at false false q m s u x y h = cc

  of_binary : (s : Sort) (a b ty : Ty) → Flat a → Flat b → IsTrue (binary_ok s a b ty) → Flat ty
  of_binary sum a b ty x y h = of_sums a b ty _ x y h (no_pointers a b ty x y)
  of_binary difference a b ty x y h = of_sums a b ty _ x y h (never_and (is_pointer a) _ x)
  of_binary shift a b ty x y h = same_flat ty a (and_right (both_numbers a b) _ h) x
  of_binary comparison a b ty x y h = int_flat ty (and_right (fits a b) _ h)
  of_binary number a b ty x y h = same_flat ty (common_type a b) (and_right (both_numbers a b) _ h) (common_flat a b x)

  of_unary : (o : UnOp) (of ty : Ty) → Flat of → IsTrue (unary_ok o of ty) → Flat ty
  of_unary unary.Neg of ty x h = same_flat ty of (and_right (is_number of) _ h) x
  of_unary unary.Complement of ty x h = same_flat ty of (and_right (is_number of) _ h) x
  of_unary unary.Not of ty x h = int_flat ty (and_right _ _ h)
  of_unary unary.Cast of ty x h = number_flat ty (and_right (is_number of) _ h)

  -- ---- accesses of globals

  read_agrees : (v : Bool) (place : Child) (ty : Ty) (span : Span) (o : Option ℕ) → (old.part_of place.0).global ≡ o → Known place → IsTrue (passes (λ t. same_ty t ty) (content (typ place)))
      → Agrees v ty None (old.at_global o span old.Read) None (Read kind.ReadXx (tnew place))
  read_agrees v place ty span None e k h = unbuilt v ty span None (Read kind.ReadXx (tnew place))
  read_agrees v place ty span (Some g) e k h =
      let p = k.place g e in
      no_place v ty (old.Read g) None (Read kind.ReadXx (tnew place)) (λ u.
      (tt, ap (Read kind.ReadXx) (sym p.0), number_flat ty (same_number p.3.to ty (at_place (λ t. same_ty t ty) (typ place) p.3 h) p.3.number)))

  write_flat : (t from ty : Ty) (k : Kind) (w : Kind) → is_number t ≡ true → IsTrue (fits t from && (is_void ty || (same_ty t ty && same_write k w))) → Flat ty
  write_flat t from ty k w n h = at (is_void ty) refl (and_right (fits t from) _ h)
    where
      at : (s : Bool) → is_void ty ≡ s → IsTrue (s || (same_ty t ty && same_write k w)) → Flat ty
      at true e h = void_flat ty e
      at false e h = number_flat ty (same_number t ty (and_left (same_ty t ty) _ h) n)

  write_agrees : (v : Bool) (place value : Child) (ty : Ty) (span : Span) (o : Option ℕ) → (old.part_of place.0).global ≡ o → Known place → Known value
      → IsTrue (passes (λ t. fits t (typ value) && (is_void ty || (same_ty t ty && same_write kind.WriteXf (write_kind (typ place))))) (content (typ place)))
      → Agrees v ty None (old.at_global o span (λ g. old.Write g (told value))) None (Write kind.WriteXf (tnew place) (tnew value))
  write_agrees v place value ty span None e k kv h = unbuilt v ty span None (Write kind.WriteXf (tnew place) (tnew value))
  write_agrees v place value ty span (Some g) e k kv h =
      let p = k.place g e in
      no_place v ty (old.Write g (told value)) None (Write kind.WriteXf (tnew place) (tnew value)) (λ u.
      (let b = kv.built u in (
        b.0,
        ap (λ w. Write kind.WriteXf (Global g) w) b.1 ∙ ap (λ w. Write kind.WriteXf w (tnew value)) (sym p.0),
        write_flat p.3.to (typ value) ty kind.WriteXf (write_kind (typ place)) p.3.number (at_place _ (typ place) p.3 h),
      )))

  update_agrees : (v : Bool) (o : BinOp) (post : Bool) (place value : Child) (ty : Ty) (span : Span) (g : Option ℕ) → (old.part_of place.0).global ≡ g → Known place → Known value
      → IsTrue (is_number (typ value) && (update_ok (sort_of o) ty && cond (typed_of cx place.0).variable (same_ty (typ place) ty) (passes (λ t. same_ty t ty) (content (typ place)))))
      → Agrees v ty None (old.at_global g span (λ g. old.Update o (works_on_uint o ty (old.part_of value.0).ty) post g (told value))) None
      (update_in (operation_of shapes o ty (part_of shapes value.0).ty) post (part_of shapes place.0).local (part_of shapes place.0) (tnew value))
  update_agrees v o post place value ty span None e k kv h = unbuilt v ty span None _
  update_agrees v o post place value ty span (Some g) e k kv h =
      let p = k.place g e in
      let rest = and_right (update_ok (sort_of o) ty) _ (and_right (is_number (typ value)) _ h) in
      let at : IsTrue (passes (λ t. same_ty t ty) (content (typ place))) = subst (λ b. IsTrue (cond b (same_ty (typ place) ty) (passes (λ t. same_ty t ty) (content (typ place))))) p.2 rest in
      let flat : Flat ty = number_flat ty (same_number p.3.to ty (at_place (λ t. same_ty t ty) (typ place) p.3 at) p.3.number) in
      let words : OnWords o (works_on_uint o ty (old.part_of value.0).ty) ≡ operation_of shapes o ty (part_of shapes value.0).ty =
      ap (λ s. OnWords o (works_on_uint o ty s)) value.1.old_ty ∙ sym (words_alone shapes o ty (typ value) flat (number_flat (typ value) (and_left (is_number (typ value)) _ h))) ∙ ap (λ s. operation_of shapes o ty s) (sym value.1.new_ty) in
      let operation = operation_of shapes o ty (part_of shapes value.0).ty in
      no_place v ty (old.Update o (works_on_uint o ty (old.part_of value.0).ty) post g (told value)) None _ (λ u.
      (let b = kv.built u in (
        b.0,
        ap (λ w. Update w post kind.ReadXx kind.WriteXf (Global g) (term_for (told value))) words
            ∙ ap (λ w. Update operation post kind.ReadXx kind.WriteXf (Global g) w) b.1
            ∙ ap (λ w. Update operation post kind.ReadXx kind.WriteXf w (tnew value)) (sym p.0)
            ∙ ap (λ w. Update operation post w kind.WriteXf (tnew place) (tnew value)) (sym (reads_plainly (typ place) p.3))
            ∙ ap (λ w. Update operation post (read_kind (typ place)) w (tnew place) (tnew value)) (sym (writes_plainly (typ place) p.3))
            ∙ ap (λ w. Update operation post (read_kind w) (write_kind w) (tnew place) (tnew value)) (sym place.1.new_ty)
            ∙ ap (λ w. update_in operation post w (part_of shapes place.0) (tnew value)) (sym p.1),
        flat,
      )))

  -- ---- arguments

  args_agree : (es : List Child) (found : Option Span) → IsTrue (every (map part_ok (map (typed_of cx) (map (λ e. e.0) es)))) → first_of (old.terms_of (map old.part_of (map (λ e. e.0) es))) found ≡ None
      → HaveMeaning (old.terms_of (map old.part_of (map (λ e. e.0) es))) × (terms_for (old.terms_of (map old.part_of (map (λ e. e.0) es))) ≡ terms_of (map (part_of shapes) (map (λ e. e.0) es)))
  args_agree [] found h u = (tt, refl)
  args_agree (e ∷ es) found h u =
      let t = old.term_of e.0 in
      let none = none_right found (first_in t) (none_before (old.terms_of (map old.part_of (map (λ e. e.0) es))) (earlier found (first_in t)) u) in
      let here = (e.1.agrees (and_left _ _ h)).built none in
      let rest = args_agree es (earlier found (first_in t)) (and_right (expr_ok cx e.0) _ h) u in
      ((here.0, rest.0), ap (λ w. More w (terms_for (old.terms_of (map old.part_of (map (λ e. e.0) es))))) here.1 ∙ ap (More (term_of shapes e.0)) rest.1)

  -- ---- each form

  level : (y : ExprKind-F KindChild Child) (ty : Ty) (span : Span) → Whole y ty → Agrees (typed.is_variable (typed_layer y)) ty (old.global_in (old_layer y)) (old.term_in (old_layer y) ty span) (local_in (new_layer y)) (term_in shapes (new_layer y) ty)
  unfolding rule
  level (ExprKind-F.Const n) ty span h = at (is_number ty) refl
    where
      at : (b : Bool) → is_number ty ≡ b → Agrees false ty None (cond b (old.Number n) (old.Term.Unbuilt span)) None (Number n)
      at true e = no_place false ty (old.Number n) None (Number n) (λ u. (tt, refl, number_flat ty e))
      at false e = unbuilt false ty span None (Number n)
  level (ExprKind-F.Local x) ty span h = unbuilt true ty span (Some x) _
  level (ExprKind-F.Set x v) ty span h = unbuilt false ty span None _
  level (ExprKind-F.Global g) ty span h = record {
    place = λ g' e. (let same : g ≡ g' = cc in (ap Global same, refl, refl, leads (slice_get cx.globals g) ty (λ o is. numbers g o is) (ruled (ExprKind-F.Global g) ty h)));
    built = λ e. absurd cc;
  }
  level (ExprKind-F.Auto x) ty span h = unbuilt false ty span None _
  level (ExprKind-F.Index base index size bound) ty span h = unbuilt false ty span None _
  level (ExprKind-F.Member base off) ty span h = unbuilt false ty span None _
  level (ExprKind-F.Read kind.ReadXx place) ty span h =
      read_agrees false place ty span (old.part_of place.0).global refl (place.1.agrees (one (ExprKind-F.Read kind.ReadXx place) ty 0 h)) (and_right (is_read kind.ReadXx) _ (ruled (ExprKind-F.Read kind.ReadXx place) ty h))
  level (ExprKind-F.Read k place) ty span h = unbuilt false ty span None _
  level (ExprKind-F.Write kind.WriteXf place value) ty span h =
      write_agrees false place value ty span (old.part_of place.0).global refl (place.1.agrees (one (ExprKind-F.Write kind.WriteXf place value) ty 0 h)) (value.1.agrees (one (ExprKind-F.Write kind.WriteXf place value) ty 1 h))
      (and_right (is_write kind.WriteXf) _ (ruled (ExprKind-F.Write kind.WriteXf place value) ty h))
  level (ExprKind-F.Write k place value) ty span h = unbuilt false ty span None _
  level (ExprKind-F.FetchAdd place value) ty span h = unbuilt false ty span None _
  level (ExprKind-F.Purge place) ty span h = unbuilt false ty span None _
  level (ExprKind-F.Update o post place value) ty span h =
      update_agrees false o post place value ty span (old.part_of place.0).global refl (place.1.agrees (one (ExprKind-F.Update o post place value) ty 0 h)) (value.1.agrees (one (ExprKind-F.Update o post place value) ty 1 h))
      (ruled (ExprKind-F.Update o post place value) ty h)
  level (ExprKind-F.Unary o of) ty span h = no_place false ty (old.Unary o (told of)) None (Unary o (tnew of)) (λ u.
      (let b = (of.1.agrees (one (ExprKind-F.Unary o of) ty 0 h)).built u in (b.0, ap (Unary o) b.1, of_unary o (typ of) ty b.2 (ruled (ExprKind-F.Unary o of) ty h))))
  level (ExprKind-F.Binary o a b) ty span h = no_place false ty _ None _ (λ u.
      (let g = both a b (a.1.agrees (one (ExprKind-F.Binary o a b) ty 0 h)) (b.1.agrees (one (ExprKind-F.Binary o a b) ty 1 h)) u in (
        g.0,
        ap (λ w. Binary w (term_for (told a)) (term_for (told b))) (on_words o a b g.3 g.4)
            ∙ ap (λ w. Binary (operation_of shapes o (part_of shapes a.0).ty (part_of shapes b.0).ty) w (term_for (told b))) g.1
            ∙ ap (λ w. Binary (operation_of shapes o (part_of shapes a.0).ty (part_of shapes b.0).ty) (tnew a) w) g.2,
        of_binary (sort_of o) (typ a) (typ b) ty g.3 g.4 (ruled (ExprKind-F.Binary o a b) ty h),
      )))
  level (ExprKind-F.And a b) ty span h = no_place false ty (old.And (told a) (told b)) None (And (tnew a) (tnew b)) (λ u.
      (let g = both a b (a.1.agrees (one (ExprKind-F.And a b) ty 0 h)) (b.1.agrees (one (ExprKind-F.And a b) ty 1 h)) u in
      (g.0, ap (λ w. And w (term_for (told b))) g.1 ∙ ap (And (tnew a)) g.2, int_flat ty (and_right _ _ (and_right _ _ (ruled (ExprKind-F.And a b) ty h))))))
  level (ExprKind-F.Or a b) ty span h = no_place false ty (old.Or (told a) (told b)) None (Or (tnew a) (tnew b)) (λ u.
      (let g = both a b (a.1.agrees (one (ExprKind-F.Or a b) ty 0 h)) (b.1.agrees (one (ExprKind-F.Or a b) ty 1 h)) u in
      (g.0, ap (λ w. Or w (term_for (told b))) g.1 ∙ ap (Or (tnew a)) g.2, int_flat ty (and_right _ _ (and_right _ _ (ruled (ExprKind-F.Or a b) ty h))))))
  level (ExprKind-F.Cond test a b) ty span h = no_place false ty (old.Cond (told test) (told a) (told b)) None (Cond (tnew test) (tnew a) (tnew b)) (λ u.
      (let rest = earlier (first_in (told a)) (first_in (told b)) in
      let t = (test.1.agrees (one (ExprKind-F.Cond test a b) ty 0 h)).built (none_left (first_in (told test)) rest u) in
      let g = both a b (a.1.agrees (one (ExprKind-F.Cond test a b) ty 1 h)) (b.1.agrees (one (ExprKind-F.Cond test a b) ty 2 h)) (none_right (first_in (told test)) rest u) in (
        (t.0, g.0.0, g.0.1),
        ap (λ w. Cond w (term_for (told a)) (term_for (told b))) t.1 ∙ ap (λ w. Cond (tnew test) w (term_for (told b))) g.1 ∙ ap (Cond (tnew test) (tnew a)) g.2,
        same_flat ty (common_type (typ a) (typ b)) (and_right _ _ (and_right _ _ (ruled (ExprKind-F.Cond test a b) ty h))) (common_flat (typ a) (typ b) g.3),
      )))
  level (ExprKind-F.Comma a b) ty span h = no_place false ty (old.Comma (told a) (told b)) None (Comma (tnew a) (tnew b)) (λ u.
      (let g = both a b (a.1.agrees (one (ExprKind-F.Comma a b) ty 0 h)) (b.1.agrees (one (ExprKind-F.Comma a b) ty 1 h)) u in
      (g.0, ap (λ w. Comma w (term_for (told b))) g.1 ∙ ap (Comma (tnew a)) g.2, same_flat ty (typ b) (ruled (ExprKind-F.Comma a b) ty h) g.4)))
  level (ExprKind-F.Call f args) ty span h = unbuilt false ty span None _
  level (ExprKind-F.Print f args) ty span h = no_place false ty (old.Print f (old.terms_of (map old.part_of (map (λ e. e.0) args)))) None _ (λ u.
      (let g = args_agree args None (and_left _ _ h) u in (g.0, ap (Print f) g.1, void_flat ty (and_right _ _ (ruled (ExprKind-F.Print f args) ty h)))))

  pub expr_agrees : (e : Expr) → ExprAgrees e
  expr_agrees = ind-Expr KindAgrees ExprAgrees
      (λ x y is. subst (λ z. KindAgrees (roll-ExprKind z)) is (λ ty span h.
      let typed_same = fold-roll-ExprKind Row typed.Part (kind_step cx) (λ e. record { ty = e.ty; variable = e.kind.variable; within = e.kind.within; ok = e.kind.ok e.ty }) (layer y) in
      let old_same = fold-roll-ExprKind old.Form old.Part old.form_step (λ e. record { ty = e.ty; global = e.kind.global; term = e.kind.term e.ty e.span }) (layer y) in
      let new_same = fold-roll-ExprKind Form Part (form_step shapes) (λ e. record { ty = e.ty; local = e.kind.local; term = e.kind.term e.ty }) (layer y) in
      subst (λ (r : Row). Agrees r.variable ty (old_of (roll-ExprKind (layer y))).global ((old_of (roll-ExprKind (layer y))).term ty span) (new_of (roll-ExprKind (layer y))).local ((new_of (roll-ExprKind (layer y))).term ty)) (sym typed_same)
      (subst (λ (k : old.Form). Agrees (typed.is_variable (typed_layer y)) ty k.global (k.term ty span) (new_of (roll-ExprKind (layer y))).local ((new_of (roll-ExprKind (layer y))).term ty)) (sym old_same)
      (subst (λ (k : Form). Agrees (typed.is_variable (typed_layer y)) ty (old.global_in (old_layer y)) (old.term_in (old_layer y) ty span) k.local (k.term ty)) (sym new_same)
      (level y ty span (subst (λ (k : Row). IsTrue (k.ok ty)) typed_same h))))))
      (λ x y is. subst (λ z. ExprAgrees (roll-Expr z)) is (
      let e : Expr-F ExprKind Expr = record { ty = y.ty; span = y.span; kind = y.kind.0 } in
      let typed_same = fold-roll-Expr Row typed.Part (kind_step cx) (λ e. record { ty = e.ty; variable = e.kind.variable; within = e.kind.within; ok = e.kind.ok e.ty }) e in
      let old_same = fold-roll-Expr old.Form old.Part old.form_step (λ e. record { ty = e.ty; global = e.kind.global; term = e.kind.term e.ty e.span }) e in
      let new_same = fold-roll-Expr Form Part (form_step shapes) (λ e. record { ty = e.ty; local = e.kind.local; term = e.kind.term e.ty }) e in
      record {
        old_ty = ap (λ (p : old.Part). p.ty) old_same ∙ sym (ap (λ (p : typed.Part). p.ty) typed_same);
        new_ty = ap (λ (p : Part). p.ty) new_same ∙ sym (ap (λ (p : typed.Part). p.ty) typed_same);
        agrees = λ h.
            subst (λ (r : typed.Part). Agrees r.variable r.ty (old.part_of (roll-Expr e)).global (old.part_of (roll-Expr e)).term (part_of shapes (roll-Expr e)).local (part_of shapes (roll-Expr e)).term) (sym typed_same)
            (subst (λ (k : old.Part). Agrees (row_of y.kind.0).variable y.ty k.global k.term (part_of shapes (roll-Expr e)).local (part_of shapes (roll-Expr e)).term) (sym old_same)
            (subst (λ (k : Part). Agrees (row_of y.kind.0).variable y.ty (old_of y.kind.0).global ((old_of y.kind.0).term y.ty y.span) k.local k.term) (sym new_same)
            (y.kind.1 y.ty y.span (subst (λ (p : typed.Part). IsTrue p.ok) typed_same h))));
      }))
