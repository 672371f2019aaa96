-- What is told of a text, put together.
use Rattle.std.proofs.Common.{◌≡◌, ℕ, List, Result, Ok, Err, sym, subst, ◌∙◌}
use Rattle.std.specs.Prelude.{Some, IfOk, IfErr}
use Rattle.std.proofs.lemmas.Grind.{common_steps}
use Rattle.xc_lex.specs.declared.token.Token.{Token}
use Rattle.xc_raw.specs.declared.tree.Raw.{Raw, out-Raw}
use Rattle.xc_tree.specs.declared.tree.Tree.{Tree}
use Rattle.xc_type_rule.specs.declared.fault.Fault.{Fault}
use Rattle.xc_type_literals.specs.Texts.{formats_of}
use Rattle.xc_type_expressions.specs.declared.text.Text.{Text}
use Rattle.xc_type_unit.specs.declared.text.Whole.{Whole}
use Rattle.xc_type_unit.specs.Functions.{bodies_of}
use Rattle.xc_type_unit.specs.Texts.{main_in}
use Rattle.xc_type.specs.declared.fault.CheckFault.{CheckFault}
use Rattle.xc_type.specs.declared.fault.CheckFault.TheVariants.{NoMemory, Name, Typing, Count}
use Rattle.xc_type.specs.Checked.{IsText, IsPlaced, IsFaultIn, IsFault, IsMade, IsTree, first_fault, scope_of}
use Rattle.xc_type.specs.InnerChecked.{IsWhole, IsWholeOf}

-- the first fault, with its line and column
pub first_told : (t : Text) (raw : Raw) (f : Fault) (e : CheckFault) → first_fault t raw ≡ Some f → IsPlaced t.source.now f e → IsFaultIn t raw e
first_told t raw f NoMemory is h = tt
first_told t raw f (Name pos) is h = (f, is, h)
first_told t raw f (Typing pos) is h = (f, is, h)
first_told t raw f (Count pos) is h = absurd h

fault_of : (source : List ℕ) (tokens : List Token) (t : Text) (raw : Raw) (e : CheckFault) → IsText source tokens t → IsFaultIn t raw e → IsFault source tokens raw e
fault_of source tokens t raw NoMemory is h = tt
fault_of source tokens t raw (Name pos) is h = (t, is, h)
fault_of source tokens t raw (Typing pos) is h = (t, is, h)
fault_of source tokens t raw (Count pos) is h = (t, is, h)

pub faults_of : {A : Type 0} (source : List ℕ) (tokens : List Token) (t : Text) (raw : Raw) (r : Result A CheckFault) → IsText source tokens t
    → IfErr r (IsFaultIn t raw) → IfErr r (IsFault source tokens raw)
faults_of source tokens t raw (Ok x) is h = h
faults_of source tokens t raw (Err e) is h = fault_of source tokens t raw e is h

pub wholes_of : {E : Type 0} (source : List ℕ) (tokens : List Token) (t : Text) (raw : Raw) (r : Result Whole E) → IsText source tokens t
    → IfOk r (IsWhole t raw) → IfOk r (IsWholeOf source tokens raw)
wholes_of source tokens t raw (Ok w) is h = (t, is, h)
wholes_of source tokens t raw (Err e) is h = h

tree_of : (source : List ℕ) (tokens : List Token) (raw : Raw) (w : Whole) (formats : List (List ℕ)) (tree : Tree) → IsWholeOf source tokens raw w
    → formats ≡ formats_of source tokens → IsMade w.scope w.main formats tree → IsTree source tokens raw tree
tree_of source tokens raw w formats tree h is made =
    let t = h.0 in
    let text = h.1 in
    let whole = h.2 in
    let main = main_in t (bodies_of t (out-Raw raw).parts) in
    let in_scope = subst (λ s. IsMade s w.main formats tree) whole.scope made in
    let with_main = subst (λ m. IsMade (scope_of t raw) m formats tree) whole.main_is in_scope in
    (t, text, record { faultless = whole.faultless; made = subst (λ f. IsMade (scope_of t raw) main f tree) (is ∙ sym text.formats) with_main })

pub trees_of : {E : Type 0} (source : List ℕ) (tokens : List Token) (raw : Raw) (w : Whole) (formats : List (List ℕ)) (r : Result Tree E) → IsWholeOf source tokens raw w
    → formats ≡ formats_of source tokens → IfOk r (IsMade w.scope w.main formats) → IfOk r (IsTree source tokens raw)
trees_of source tokens raw w formats (Ok tree) h is made = tree_of source tokens raw w formats tree h is made
trees_of source tokens raw w formats (Err e) h is made = made

pub ruleset fault_rules = (common_steps, first_told, faults_of, wholes_of, trees_of)
