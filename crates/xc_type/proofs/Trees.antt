-- The tree of a text without faults is well typed.
use Rattle.std.proofs.Common.{◌≡◌, ℕ, ◌^◌, ◌≤◌, List, [], ◌∷◌, length, Bool, true, false, cond, refl, sym, ap, ◌∙◌, subst}
use Rattle.std.specs.Prelude.{IsTrue, IfOk, is_some, Option, Some, None, Result, Ok, Err}
use Rattle.std.specs.List.{All}
use Rattle.std.specs.Option.{option_zip}
use Rattle.std.proofs.lemmas.Grind.{common_steps}
use Rattle.xc_lex.specs.declared.token.Token.{Token}
use Rattle.xc_lex.specs.Source.{IsSpelled}
use Rattle.xc_raw.specs.declared.tree.Raw.{Raw, out-Raw}
use Rattle.xc_parse.specs.Texts.{words_of, Parsed}
use Rattle.xc_tree.specs.declared.ty.Ty.{Ty}
use Rattle.xc_tree.specs.declared.tree.Func.{Func}
use Rattle.xc_tree.specs.declared.tree.Tree.{Tree}
use Rattle.xc_tree.specs.Valid.{tree_ok}
use Rattle.xc_tree_sizes.specs.Nodes.{IsSmall}
use Rattle.xc_type_rule.specs.declared.fault.Fault.{Fault}
use Rattle.xc_type_rule.specs.declared.found.Member.{Member}
use Rattle.xc_type_rule.specs.Least.{is_before, least_from}
use Rattle.xc_type_literals.specs.Texts.{formats_of}
use Rattle.xc_type_statement_parts.specs.Making.{one, followed, all_made}
use Rattle.xc_type_unit.specs.declared.scope.FileScope.{FileScope}
use Rattle.xc_type_unit.specs.declared.text.Whole.{Whole}
use Rattle.xc_type_unit.specs.Functions.{bodies_of}
use Rattle.xc_type_unit.specs.Texts.{whole, main_in}
use Rattle.xc_welltyped_claims.specs.Lists.{Each}
use Rattle.xc_welltyped_claims.specs.Table.{with_known, tys_of, struct_tys}
use Rattle.xc_welltyped_claims.proofs.Texts as texts
use Rattle.xc_welltyped_counts.specs.Few.{AreFew}
use Rattle.xc_welltyped_counts.proofs.Few.{whole_few}
use Rattle.xc_welltyped_sizes.proofs.Small.{tree_small}
use Rattle.xc_welltyped_unit.specs.Files.{IsTyped}
use Rattle.xc_welltyped_unit.proofs.Whole.{whole_typed}
use Rattle.xc_type.specs.Checked.{known_types, struct_types, scope_of, IsTree}
use Rattle.xc_type.specs.InnerChecked.{IsWholeOf}

-- types of members -------------------------------------------------------------

one_more : (o : Option Ty) → IsTrue (is_some o) → (ts : List Ty) → followed (one o) (Some ts) ≡ Some (with_known o ts)
unfolding one followed
one_more None h ts = absurd cc
one_more (Some t) h ts = refl

types_known : (ms : List Member) → Each (λ (m : Member). IsTrue (is_some m.ty)) ms → known_types ms ≡ Some (tys_of ms)
unfolding all_made
types_known [] h = refl
types_known (m ∷ ms) h = ap (followed (one m.ty)) (types_known ms h.1) ∙ one_more m.ty h.0 (tys_of ms)

struct_more : (ts : List Ty) (rest : List (List Ty)) → followed (one (Some ts)) (Some rest) ≡ Some (ts ∷ rest)
unfolding one followed
struct_more ts rest = refl

structs_known : (ss : List (List Member)) → Each (λ ms. Each (λ (m : Member). IsTrue (is_some m.ty)) ms) ss → struct_types ss ≡ Some (struct_tys ss)
unfolding all_made
structs_known [] h = refl
structs_known (ms ∷ ss) h = ap (λ o. followed (one o) (struct_types ss)) (types_known ms h.0)
    ∙ (ap (followed (one (Some (tys_of ms)))) (structs_known ss h.1) ∙ struct_more (tys_of ms) (struct_tys ss))

-- the tree ---------------------------------------------------------------------

same_some : {A : Type 0} (o : Option A) (x y : A) → o ≡ Some x → o ≡ Some y → x ≡ y
same_some o x y e h = let both : Some x ≡ Some y = sym e ∙ h in cc

pub tree_valid : (s : FileScope) (main : Option ℕ) (formats : List (List ℕ)) (structs : List (List Ty)) (funcs : List Func) (n : ℕ) → IsTyped s main formats →
    struct_types s.env.structs.members ≡ Some structs → s.funcs ≡ Some funcs → main ≡ Some n →
    IsTrue (tree_ok structs s.globals funcs formats s.env.loops n)
tree_valid s main formats structs funcs n typed structs_are funcs_are main_is =
    let same_structs = same_some (struct_types s.env.structs.members) (struct_tys s.env.structs.members) structs (structs_known s.env.structs.members typed.members) structs_are in
    let same_funcs = same_some s.funcs typed.funcs funcs typed.funcs_are funcs_are in
    let same_main = same_some main typed.number n typed.main_is main_is in
    subst (λ ss. IsTrue (tree_ok ss s.globals funcs formats s.env.loops n)) same_structs
    (subst (λ fs. IsTrue (tree_ok (struct_tys s.env.structs.members) s.globals fs formats s.env.loops n)) same_funcs
    (subst (λ k. IsTrue (tree_ok (struct_tys s.env.structs.members) s.globals typed.funcs formats s.env.loops k)) same_main
    typed.valid))

-- the function `main`, the functions and the types of the structs are known
pub all_known : (s : FileScope) (main : Option ℕ) (formats : List (List ℕ)) → IsTyped s main formats →
    option_zip main (option_zip s.funcs (struct_types s.env.structs.members)) ≡ None → ⊥
all_known s main formats typed none =
    let zipped : option_zip (Some typed.number) (option_zip (Some typed.funcs) (Some (struct_tys s.env.structs.members))) ≡ None =
    subst (λ m. option_zip m (option_zip (Some typed.funcs) (Some (struct_tys s.env.structs.members))) ≡ None) typed.main_is
    (subst (λ fs. option_zip main (option_zip fs (Some (struct_tys s.env.structs.members))) ≡ None) typed.funcs_are
    (subst (λ ss. option_zip main (option_zip s.funcs ss) ≡ None) (structs_known s.env.structs.members typed.members) none)) in
    cc

-- texts ------------------------------------------------------------------------

lesser_is : (b : Bool) (g f : Fault) → cond b (Some g) (Some f) ≡ Some (cond b g f)
lesser_is true g f = refl
lesser_is false g f = refl

least_some : (fs : List Fault) (f : Fault) → least_from (Some f) fs ≡ None → ⊥
unfolding least_from
least_some [] f e = absurd cc
least_some (g ∷ gs) f e = least_some gs (cond (is_before g f) g f) (ap (λ o. least_from o gs) (sym (lesser_is (is_before g f) g f)) ∙ e)

no_faults : (fs : List Fault) → least_from None fs ≡ None → fs ≡ []
unfolding least_from
no_faults [] e = refl
no_faults (f ∷ fs) e = absurd (least_some fs f e)

-- what the declarations of a text without faults make is well typed
pub typed_whole : (source : List ℕ) (tokens : List Token) (raw : Raw) (w : Whole) (formats : List (List ℕ)) → length tokens ≤ 2 ^ 20 → All (IsSpelled source) tokens → Parsed (words_of source tokens) raw →
    IsWholeOf source tokens raw w → formats ≡ formats_of source tokens → IsTyped w.scope w.main formats
typed_whole source tokens raw w formats short spelled parsed h is =
    let t = h.0 in
    let x = h.1 in
    let made = h.2 in
    let main = main_in t (bodies_of t (out-Raw raw).parts) in
    let lexed = texts.lexed source tokens t x.source_is x.tokens_are x.names x.constants x.numbers x.formats x.takes in
    let unit = texts.shaped source tokens t x.source_is x.tokens_are x.names x.constants x.numbers x.formats x.takes spelled raw parsed in
    let few = λ (funcs : List Func) (known : (whole t raw).scope.funcs ≡ Some funcs). subst (AreFew (struct_tys (whole t raw).scope.env.structs.members) funcs) (sym x.formats)
    (whole_few source tokens t raw x.tokens_are short parsed funcs known) in
    let end = whole_typed t raw lexed unit few (no_faults (whole t raw).faults made.faultless.faultless) made.faultless.within in
    subst (λ m. IsTyped w.scope m formats) (sym made.main_is)
    (subst (λ s. IsTyped s main formats) (sym made.scope)
    (subst (λ fs. IsTyped (scope_of t raw) main fs) (x.formats ∙ sym is) end))

-- the tree of a text is small
small : (source : List ℕ) (tokens : List Token) (raw : Raw) (tree : Tree) → length tokens ≤ 2 ^ 20 → Parsed (words_of source tokens) raw → IsTree source tokens raw tree → IsSmall tree
small source tokens raw tree short parsed h =
    let t = h.0 in
    let x = h.1 in
    let made = h.2.made in
    tree_small source tokens t raw tree x.tokens_are short parsed made.globals made.funcs (made.formats_are ∙ x.formats)

pub all_small : {E : Type 0} (source : List ℕ) (tokens : List Token) (raw : Raw) (r : Result Tree E) → length tokens ≤ 2 ^ 20 → Parsed (words_of source tokens) raw → IfOk r (IsTree source tokens raw) → IfOk r IsSmall
all_small source tokens raw (Ok tree) short parsed h = small source tokens raw tree short parsed h
all_small source tokens raw (Err e) short parsed h = tt

pub ruleset tree_rules = (common_steps, tree_valid)
