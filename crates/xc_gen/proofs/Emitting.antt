-- Instructions that are appended one after the other are those of the whole.
use Rattle.std.proofs.Common.{◌≡◌, ℕ, zero, suc, ◌+◌, ◌≤◌, ◌<◌, List, [], ◌∷◌, ◌++◌, length, map, drop, Some, Bool, refl, sym, ap, ◌∙◌, subst, arith, append_assoc, length-append}
use Rattle.std.specs.Prelude.{Result, Ok, Err, OnOk, slice_get, slice_set, IsSome}
use Rattle.std.specs.Option.{option_and_then}
use Rattle.std.proofs.Math.Seq.{set-append_seam}
use Rattle.std.proofs.lemmas.Grind.{common_steps}
use Rattle.xc_tree.specs.declared.operator.BinOp.{BinOp}
use Rattle.xc_tree.specs.declared.operator.UnOp.{UnOp}
use Rattle.xc_tree.specs.declared.expr.Expr.{Expr}
use Rattle.xc_tree.specs.declared.expr.ExprKind.TheFolds as folds
use Rattle.xc_tree.specs.declared.expr.ExprKind.TheViews as views
use Rattle.xc_tree.specs.declared.stmt.Item.TheFolds as stmt_folds
use Rattle.xc_tree.specs.declared.stmt.Item.TheViews as stmt_views
use Rattle.xc_isa.specs.declared.instr.Instr.{Instr}
use Rattle.xc_isa.specs.declared.instr.Instr.TheVariants as instr
use Rattle.xc_isa.specs.declared.instr.Test.{Test}
use Rattle.xc_isa.specs.declared.instr.Test.TheVariants.{Zero, NotZero}
use Rattle.xc_isa.specs.Targets.{aimed, aimed_at, with_instr, patched}
use Rattle.xc_meaning.specs.Terms.{Term, Write, Update, Unary, Binary, And, Or, Cond, Comma, Print, Terms, NoMore, More, Command, Return, Commands, Then, terms_of, part_of}
use Rattle.xc_gen.specs.Fits.{count_of}
use Rattle.xc_gen.specs.Code.{unary_code, read_code, write_code, save, apply_code, as_truth_code, old_code, loads_code, print_code, term_code, terms_code, command_code, commands_code, leave_code, decided_code, waiting_among}

-- one layer of a tree
pub ruleset opened = (folds.the_lemmas, views.the_lemmas, stmt_folds.the_lemmas, stmt_views.the_lemmas)

pub on_ok : {T E : Type 0} {P Q : Type 0} (r : Result T E) → (P → Q) → OnOk r P → OnOk r Q
on_ok (Ok x) f h = f h
on_ok (Err e) f h = h

-- the position behind what was appended
behind : (c c' a : List Instr) → c' ≡ c ++ a → length c' ≡ length c + length a
behind c c' a e = ap length e ∙ length-append c a

pub emits_write : (c0 c1 c2 : List Instr) (t a : Term) (g d : ℕ) → t ≡ Write g a → c1 ≡ c0 ++ term_code a d (length c0) → c2 ≡ c1 ++ write_code g → c2 ≡ c0 ++ term_code t d (length c0)
emits_write c0 c1 c2 t a g d is e1 e2 =
    e2 ∙ ap (λ c. c ++ write_code g) e1 ∙ append_assoc c0 (term_code a d (length c0)) (write_code g) ∙ ap (λ u. c0 ++ term_code u d (length c0)) (sym is)

pub emits_unary : (c0 c1 c2 : List Instr) (t a : Term) (op : UnOp) (d : ℕ) → t ≡ Unary op a → c1 ≡ c0 ++ term_code a d (length c0) → c2 ≡ c1 ++ unary_code op → c2 ≡ c0 ++ term_code t d (length c0)
emits_unary c0 c1 c2 t a op d is e1 e2 =
    e2 ∙ ap (λ c. c ++ unary_code op) e1 ∙ append_assoc c0 (term_code a d (length c0)) (unary_code op) ∙ ap (λ u. c0 ++ term_code u d (length c0)) (sym is)

pub emits_comma : (c0 c1 c2 : List Instr) (t a b : Term) (d : ℕ) → t ≡ Comma a b → c1 ≡ c0 ++ term_code a d (length c0) → c2 ≡ c1 ++ term_code b d (length c1) → c2 ≡ c0 ++ term_code t d (length c0)
emits_comma c0 c1 c2 t a b d is e1 e2 =
    let ca = term_code a d (length c0) in
    e2 ∙ ap (λ n. c1 ++ term_code b d n) (behind c0 c1 ca e1) ∙ ap (λ c. c ++ term_code b d (length c0 + length ca)) e1
    ∙ append_assoc c0 ca (term_code b d (length c0 + length ca)) ∙ ap (λ u. c0 ++ term_code u d (length c0)) (sym is)

pub emits_binary : (c0 c1 c2 c3 c4 : List Instr) (t a b : Term) (op : BinOp) (u : Bool) (d : ℕ) → t ≡ Binary op u a b → c1 ≡ c0 ++ term_code a d (length c0) → c2 ≡ c1 ++ save d ∷ [] → c3 ≡ c2 ++ term_code b (d + 1) (length c2) → c4 ≡ c3 ++ apply_code op u d
    → c4 ≡ c0 ++ term_code t d (length c0)
emits_binary c0 c1 c2 c3 c4 t a b op u d is e1 e2 e3 e4 =
    let ca = term_code a d (length c0) in
    let n2 = length c0 + length ca + 1 in
    let l2 : length c2 ≡ n2 = omega (arith, behind c0 c1 ca e1, behind c1 c2 (save d ∷ []) e2) in
    let cb = term_code b (d + 1) n2 in
    let e3' : c3 ≡ c2 ++ cb = e3 ∙ ap (λ n. c2 ++ term_code b (d + 1) n) l2 in
    let all : c4 ≡ (((c0 ++ ca) ++ save d ∷ []) ++ cb) ++ apply_code op u d = e4 ∙ ap (λ c. c ++ apply_code op u d) (e3' ∙ ap (λ c. c ++ cb) (e2 ∙ ap (λ c. c ++ save d ∷ []) e1)) in
    let flat : (((c0 ++ ca) ++ save d ∷ []) ++ cb) ++ apply_code op u d ≡ c0 ++ (ca ++ (save d ∷ (cb ++ apply_code op u d))) = simp append_assoc in
    all ∙ flat ∙ ap (λ u. c0 ++ term_code u d (length c0)) (sym is)

pub emits_update : (c0 c1 c2 c3 c4 c5 c6 : List Instr) (t a : Term) (op : BinOp) (u post : Bool) (g d : ℕ) → t ≡ Update op u post g a → c1 ≡ c0 ++ read_code g → c2 ≡ c1 ++ save d ∷ [] → c3 ≡ c2 ++ term_code a (d + 1) (length c2) → c4 ≡ c3 ++ apply_code op u d
    → c5 ≡ c4 ++ write_code g → c6 ≡ c5 ++ old_code post d → c6 ≡ c0 ++ term_code t d (length c0)
emits_update c0 c1 c2 c3 c4 c5 c6 t a op u post g d is e1 e2 e3 e4 e5 e6 =
    let n2 = length c0 + 3 in
    let l2 : length c2 ≡ n2 = omega (arith, behind c0 c1 (read_code g) e1, behind c1 c2 (save d ∷ []) e2) in
    let ca = term_code a (d + 1) n2 in
    let e3' : c3 ≡ c2 ++ ca = e3 ∙ ap (λ n. c2 ++ term_code a (d + 1) n) l2 in
    let all : c6 ≡ (((((c0 ++ read_code g) ++ save d ∷ []) ++ ca) ++ apply_code op u d) ++ write_code g) ++ old_code post d =
    e6 ∙ ap (λ c. c ++ old_code post d) (e5 ∙ ap (λ c. c ++ write_code g) (e4 ∙ ap (λ c. c ++ apply_code op u d) (e3' ∙ ap (λ c. c ++ ca) (e2 ∙ ap (λ c. c ++ save d ∷ []) e1)))) in
    let flat : (((((c0 ++ read_code g) ++ save d ∷ []) ++ ca) ++ apply_code op u d) ++ write_code g) ++ old_code post d ≡ c0 ++ (read_code g ++ (save d ∷ (ca ++ (apply_code op u d ++ (write_code g ++ old_code post d))))) = simp append_assoc in
    all ∙ flat ∙ ap (λ u. c0 ++ term_code u d (length c0)) (sym is)

pub emits_print : (c0 c1 c2 c3 : List Instr) (t : Term) (es : Terms) (f d : ℕ) → t ≡ Print f es → c1 ≡ c0 ++ terms_code es d (length c0) → c2 ≡ c1 ++ loads_code es 24 d → c3 ≡ c2 ++ print_code f → c3 ≡ c0 ++ term_code t d (length c0)
emits_print c0 c1 c2 c3 t es f d is e1 e2 e3 =
    let cs = terms_code es d (length c0) in
    let all : c3 ≡ ((c0 ++ cs) ++ loads_code es 24 d) ++ print_code f = e3 ∙ ap (λ c. c ++ print_code f) (e2 ∙ ap (λ c. c ++ loads_code es 24 d) e1) in
    let flat : ((c0 ++ cs) ++ loads_code es 24 d) ++ print_code f ≡ c0 ++ (cs ++ (loads_code es 24 d ++ print_code f)) = simp append_assoc in
    all ∙ flat ∙ ap (λ u. c0 ++ term_code u d (length c0)) (sym is)

-- one argument more
pub emits_more : (c0 c1 c2 : List Instr) (e : Term) (es : Terms) (d : ℕ) → c1 ≡ c0 ++ term_code e d (length c0) → c2 ≡ c1 ++ save d ∷ [] → c2 ++ terms_code es (d + 1) (length c2) ≡ c0 ++ terms_code (More e es) d (length c0)
emits_more c0 c1 c2 e es d e1 e2 =
    let ce = term_code e d (length c0) in
    let l2 : length c2 ≡ length c0 + length ce + 1 = omega (arith, behind c0 c1 ce e1, behind c1 c2 (save d ∷ []) e2) in
    let cs = terms_code es (d + 1) (length c0 + length ce + 1) in
    let flat : ((c0 ++ ce) ++ save d ∷ []) ++ cs ≡ c0 ++ (ce ++ (save d ∷ cs)) = simp append_assoc in
    ap (λ n. c2 ++ terms_code es (d + 1) n) l2 ∙ ap (λ c. c ++ cs) (e2 ∙ ap (λ c. c ++ save d ∷ []) e1) ∙ flat

-- ---- an instruction that gets its target later

at_length : (front : List Instr) (i : Instr) (is : List Instr) → slice_get (front ++ i ∷ is) (length front) ≡ Some i
at_length [] i is = refl
at_length (j ∷ front) i is = at_length front i is

-- the branch at the end of c1 in c3
pub branch_at : (c1 c2 c3 b : List Instr) (test : Test) (n at : ℕ) → at ≡ length c1 → c2 ≡ c1 ++ instr.Branch test 16 n ∷ [] → c3 ≡ c2 ++ b → slice_get c3 at ≡ Some (instr.Branch test 16 n)
branch_at c1 c2 c3 b test n at is e2 e3 =
    ap (λ c. slice_get c at) (e3 ∙ ap (λ c. c ++ b) e2 ∙ append_assoc c1 (instr.Branch test 16 n ∷ []) b) ∙ ap (slice_get (c1 ++ instr.Branch test 16 n ∷ b)) is ∙ at_length c1 (instr.Branch test 16 n) b

pub patch_branch : (c1 c2 c3 b : List Instr) (test : Test) (n at to : ℕ) → at ≡ length c1 → c2 ≡ c1 ++ instr.Branch test 16 n ∷ [] → c3 ≡ c2 ++ b → patched c3 at to ≡ c1 ++ instr.Branch test 16 to ∷ b
patch_branch c1 c2 c3 b test n at to is e2 e3 =
    let all : c3 ≡ c1 ++ instr.Branch test 16 n ∷ b = e3 ∙ ap (λ c. c ++ b) e2 ∙ append_assoc c1 (instr.Branch test 16 n ∷ []) b in
    ap (λ o. with_instr c3 at (option_and_then (λ i. aimed i to) o)) (branch_at c1 c2 c3 b test n at is e2 e3)
    ∙ ap (λ c. slice_set c at (instr.Branch test 16 to)) all
    ∙ ap (λ k. slice_set (c1 ++ instr.Branch test 16 n ∷ b) k (instr.Branch test 16 to)) is
    ∙ set-append_seam c1 (instr.Branch test 16 n) b (instr.Branch test 16 to)

jump_at : (c1 c2 c3 b : List Instr) (n at : ℕ) → at ≡ length c1 → c2 ≡ c1 ++ instr.Jmp n ∷ [] → c3 ≡ c2 ++ b → slice_get c3 at ≡ Some (instr.Jmp n)
jump_at c1 c2 c3 b n at is e2 e3 =
    ap (λ c. slice_get c at) (e3 ∙ ap (λ c. c ++ b) e2 ∙ append_assoc c1 (instr.Jmp n ∷ []) b) ∙ ap (slice_get (c1 ++ instr.Jmp n ∷ b)) is ∙ at_length c1 (instr.Jmp n) b

patch_jump : (c1 c2 c3 b : List Instr) (n at to : ℕ) → at ≡ length c1 → c2 ≡ c1 ++ instr.Jmp n ∷ [] → c3 ≡ c2 ++ b → patched c3 at to ≡ c1 ++ instr.Jmp to ∷ b
patch_jump c1 c2 c3 b n at to is e2 e3 =
    let all : c3 ≡ c1 ++ instr.Jmp n ∷ b = e3 ∙ ap (λ c. c ++ b) e2 ∙ append_assoc c1 (instr.Jmp n ∷ []) b in
    ap (λ o. with_instr c3 at (option_and_then (λ i. aimed i to) o)) (jump_at c1 c2 c3 b n at is e2 e3)
    ∙ ap (λ c. slice_set c at (instr.Jmp to)) all
    ∙ ap (λ k. slice_set (c1 ++ instr.Jmp n ∷ b) k (instr.Jmp to)) is
    ∙ set-append_seam c1 (instr.Jmp n) b (instr.Jmp to)

pub branch_there : (c1 c2 c3 b : List Instr) (test : Test) (n at to : ℕ) → at ≡ length c1 → c2 ≡ c1 ++ instr.Branch test 16 n ∷ [] → c3 ≡ c2 ++ b → IsSome (aimed_at c3 at to)
branch_there c1 c2 c3 b test n at to is e2 e3 = subst (λ o. IsSome (option_and_then (λ i. aimed i to) o)) (sym (branch_at c1 c2 c3 b test n at is e2 e3)) refl

pub jump_there : (c1 c2 c3 b : List Instr) (n at to : ℕ) → at ≡ length c1 → c2 ≡ c1 ++ instr.Jmp n ∷ [] → c3 ≡ c2 ++ b → IsSome (aimed_at c3 at to)
jump_there c1 c2 c3 b n at to is e2 e3 = subst (λ o. IsSome (option_and_then (λ i. aimed i to) o)) (sym (jump_at c1 c2 c3 b n at is e2 e3)) refl

-- `&&` and `||`: c3 is patched to c4
pub emits_decided : (c0 c1 c2 c3 c4 c5 : List Instr) (test : Test) (a b : Term) (n at to d : ℕ) → c1 ≡ c0 ++ term_code a d (length c0) → at ≡ length c1 → c2 ≡ c1 ++ instr.Branch test 16 n ∷ [] → c3 ≡ c2 ++ term_code b d (length c2) → to ≡ length c3 → c4 ≡ patched c3 at to
    → c5 ≡ c4 ++ as_truth_code → c5 ≡ c0 ++ decided_code test (term_code a d (length c0)) (term_code b d) (length c0)
emits_decided c0 c1 c2 c3 c4 c5 test a b n at to d e1 is e2 e3 end e4 e5 =
    let ca = term_code a d (length c0) in
    let b_at = length c0 + length ca + 1 in
    let l1 = behind c0 c1 ca e1 in
    let l2 : length c2 ≡ b_at = omega (arith, l1, behind c1 c2 (instr.Branch test 16 n ∷ []) e2) in
    let cb = term_code b d b_at in
    let e3' : c3 ≡ c2 ++ cb = e3 ∙ ap (λ n. c2 ++ term_code b d n) l2 in
    let to_is : to ≡ b_at + length cb = omega (arith, end, behind c2 c3 cb e3', l2) in
    e5 ∙ ap (λ c. c ++ as_truth_code) (e4 ∙ patch_branch c1 c2 c3 cb test n at to is e2 e3' ∙ ap (λ k. c1 ++ instr.Branch test 16 k ∷ cb) to_is ∙ ap (λ c. c ++ instr.Branch test 16 (b_at + length cb) ∷ cb) e1)
    ∙ append_assoc (c0 ++ ca) (instr.Branch test 16 (b_at + length cb) ∷ cb) as_truth_code ∙ append_assoc c0 ca (instr.Branch test 16 (b_at + length cb) ∷ (cb ++ as_truth_code))

pub emits_and : (c0 c5 : List Instr) (t a b : Term) (d : ℕ) → t ≡ And a b → c5 ≡ c0 ++ decided_code Zero (term_code a d (length c0)) (term_code b d) (length c0) → c5 ≡ c0 ++ term_code t d (length c0)
emits_and c0 c5 t a b d is e = e ∙ ap (λ u. c0 ++ term_code u d (length c0)) (sym is)

pub emits_or : (c0 c5 : List Instr) (t a b : Term) (d : ℕ) → t ≡ Or a b → c5 ≡ c0 ++ decided_code NotZero (term_code a d (length c0)) (term_code b d) (length c0) → c5 ≡ c0 ++ term_code t d (length c0)
emits_or c0 c5 t a b d is e = e ∙ ap (λ u. c0 ++ term_code u d (length c0)) (sym is)

-- `?:`: c4 is patched to c5, and c6 to c7
pub emits_cond : (c0 c1 c2 c3 c4 c5 c6 c7 : List Instr) (t x a b : Term) (n m at at' to to' d : ℕ) → t ≡ Cond x a b → c1 ≡ c0 ++ term_code x d (length c0) → at ≡ length c1 → c2 ≡ c1 ++ instr.Branch Zero 16 n ∷ [] → c3 ≡ c2 ++ term_code a d (length c2) → at' ≡ length c3
    → c4 ≡ c3 ++ instr.Jmp m ∷ [] → to ≡ length c4 → c5 ≡ patched c4 at to → c6 ≡ c5 ++ term_code b d (length c5) → to' ≡ length c6 → c7 ≡ patched c6 at' to' → c7 ≡ c0 ++ term_code t d (length c0)
emits_cond c0 c1 c2 c3 c4 c5 c6 c7 t x a b n m at at' to to' d is e1 p1 e2 e3 p2 e4 p3 e5 e6 p4 e7 =
    let cx = term_code x d (length c0) in
    let a_at = length c0 + length cx + 1 in
    let l1 = behind c0 c1 cx e1 in
    let l2 : length c2 ≡ a_at = omega (arith, l1, behind c1 c2 (instr.Branch Zero 16 n ∷ []) e2) in
    let ca = term_code a d a_at in
    let e3' : c3 ≡ c2 ++ ca = e3 ∙ ap (λ n. c2 ++ term_code a d n) l2 in
    let l3 = behind c2 c3 ca e3' in
    let b_at = a_at + length ca + 1 in
    let l4 : length c4 ≡ b_at = omega (arith, l2, l3, behind c3 c4 (instr.Jmp m ∷ []) e4) in
    let cb = term_code b d b_at in
    let e4' : c4 ≡ c2 ++ (ca ++ instr.Jmp m ∷ []) = e4 ∙ ap (λ c. c ++ instr.Jmp m ∷ []) e3' ∙ append_assoc c2 ca (instr.Jmp m ∷ []) in
    let to_is : to ≡ b_at = p3 ∙ l4 in
    let e5' : c5 ≡ c1 ++ instr.Branch Zero 16 b_at ∷ (ca ++ instr.Jmp m ∷ []) = e5 ∙ patch_branch c1 c2 c4 (ca ++ instr.Jmp m ∷ []) Zero n at to p1 e2 e4' ∙ ap (λ k. c1 ++ instr.Branch Zero 16 k ∷ (ca ++ instr.Jmp m ∷ [])) to_is in
    let front = c1 ++ instr.Branch Zero 16 b_at ∷ ca in
    let e5f : c5 ≡ front ++ instr.Jmp m ∷ [] = e5' ∙ sym (append_assoc c1 (instr.Branch Zero 16 b_at ∷ ca) (instr.Jmp m ∷ [])) in
    let lf : length front ≡ length c1 + (length ca + 1) = omega (arith, length-append c1 (instr.Branch Zero 16 b_at ∷ ca)) in
    let l5 : length c5 ≡ b_at = omega (arith, behind front c5 (instr.Jmp m ∷ []) e5f, lf, l1) in
    let e6' : c6 ≡ c5 ++ cb = e6 ∙ ap (λ n. c5 ++ term_code b d n) l5 in
    let at_is : at' ≡ length front = omega (arith, p2, l3, l2, lf, l1) in
    let end : to' ≡ b_at + length cb = omega (arith, p4, behind c5 c6 cb e6', l5) in
    let flat : front ++ instr.Jmp (b_at + length cb) ∷ cb ≡ c1 ++ (instr.Branch Zero 16 b_at ∷ (ca ++ (instr.Jmp (b_at + length cb) ∷ cb))) = append_assoc c1 (instr.Branch Zero 16 b_at ∷ ca) (instr.Jmp (b_at + length cb) ∷ cb) in
    let rest = instr.Branch Zero 16 b_at ∷ (ca ++ (instr.Jmp (b_at + length cb) ∷ cb)) in
    e7 ∙ patch_jump front c5 c6 cb m at' to' at_is e5f e6' ∙ ap (λ k. front ++ instr.Jmp k ∷ cb) end ∙ flat ∙ ap (λ c. c ++ rest) e1 ∙ append_assoc c0 cx rest ∙ ap (λ u. c0 ++ term_code u d (length c0)) (sym is)

-- one statement more
pub emits_then : (c0 c1 : List Instr) (s : Command) (ss : Commands) → c1 ≡ c0 ++ command_code s (length c0) → c1 ++ commands_code ss (length c1) ≡ c0 ++ commands_code (Then s ss) (length c0)
emits_then c0 c1 s ss e1 =
    let cs = command_code s (length c0) in
    ap (λ n. c1 ++ commands_code ss n) (behind c0 c1 cs e1) ∙ ap (λ c. c ++ commands_code ss (length c0 + length cs)) e1 ∙ append_assoc c0 cs (commands_code ss (length c0 + length cs))

pub emits_return : (c0 c1 c2 : List Instr) (s : Command) (e : Term) → s ≡ Return e → c1 ≡ c0 ++ term_code e 0 (length c0) → c2 ≡ c1 ++ leave_code → c2 ≡ c0 ++ command_code s (length c0)
emits_return c0 c1 c2 s e is e1 e2 =
    e2 ∙ ap (λ c. c ++ leave_code) e1 ∙ append_assoc c0 (term_code e 0 (length c0)) leave_code ∙ ap (λ u. c0 ++ command_code u (length c0)) (sym is)

count_waits : (es : Terms) (before : ℕ) → before + count_of es ≤ waiting_among es before
count_waits NoMore before = omega arith
count_waits (More e es) before = omega (arith, count_waits es (before + 1))

pub room_for : (es : Terms) (d n : ℕ) → d + waiting_among es 0 < n → d + count_of es < n
room_for es d n lt = omega (arith, lt, count_waits es 0)

pub before_more : (es : List Expr) (i before : ℕ) → i < length es → before + 1 ≤ waiting_among (terms_of (map part_of (drop i es))) before
before_more [] i before lt = absurd (omega arith)
before_more (e ∷ es) zero before lt = omega (arith, count_waits (terms_of (map part_of es)) (before + 1))
before_more (e ∷ es) (suc i) before lt = before_more es i before (omega arith)

pub ruleset emit_rules = (common_steps, emits_write, emits_unary, emits_comma, emits_binary, emits_update, emits_print, emits_more, emits_then, emits_return, emits_decided, emits_and, emits_or, emits_cond, branch_there, jump_there, room_for)
