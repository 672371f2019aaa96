use Rattle.std.specs.Prelude.{◌≡◌, ◌≢◌, ℤ, pos, ◌+ℤ◌, ◌*ℤ◌, ◌≤◌, ◌^◌, Bool, false, not, ◌==◌, List, [], ◌∷◌, ◌++◌, length, map, filter, All, if◌then◌else◌, unsigned_abs, ◌||◌}
use Rattle.xc_lin.specs.declared.affine.Var.{Var}
use Rattle.xc_lin.specs.declared.affine.Var.TheVariants.{Index, Symbol, GlobalSymbol}
use Rattle.xc_lin.specs.declared.affine.Term.{Term}

-- an affine form: a constant plus coefficients times variables
pub record Form : Type 0 where
  pub terms : List Term
  pub constant : ℤ

-- the value of a sum of terms, where each variable has a value
abbrev pub sum_of : List Term → (Var → ℤ) → ℤ
sum_of [] at = pos 0
sum_of (term ∷ terms) at = (term.coeff *ℤ at term.var) +ℤ sum_of terms at

-- the value of an affine form
abbrev pub value_of : Form → (Var → ℤ) → ℤ
value_of form at = form.constant +ℤ sum_of form.terms at

-- whether two variables are the same one
abbrev pub same_var : Var → Var → Bool
same_var (Index a) (Index b) = a == b
same_var (Symbol a) (Symbol b) = a == b
same_var (GlobalSymbol a) (GlobalSymbol b) = a == b
same_var _ _ = false

-- whether a variable stands in some terms
abbrev pub has_var : List Term → Var → Bool
has_var [] var = false
has_var (term ∷ terms) var = same_var term.var var || has_var terms var

-- what a variable is multiplied with, 0 where it does not stand
abbrev pub coefficient_of : List Term → Var → ℤ
coefficient_of [] var = pos 0
coefficient_of (term ∷ terms) var = if same_var term.var var then term.coeff else coefficient_of terms var

-- no variable stands twice
abbrev pub IsSingle : List Term → Type 0
IsSingle [] = Unit {0}
IsSingle (term ∷ terms) = (has_var terms term.var ≡ false) × IsSingle terms

-- a coefficient that a term may have
abbrev pub IsCoefficient : ℤ → Type 0
IsCoefficient coeff = (coeff ≢ pos 0) × (unsigned_abs coeff ≤ 2 ^ 20)

-- at most 8 terms, each within its limits
abbrev pub AreNarrow : List Term → Type 0
AreNarrow terms = (length terms ≤ 8) × All (λ term. IsCoefficient term.coeff) terms

-- the limits of an affine form
abbrev pub IsNarrow : Form → Type 0
IsNarrow form = AreNarrow form.terms × (unsigned_abs form.constant ≤ 2 ^ 31)

-- the terms that are not 0
abbrev pub nonzero : List Term → List Term
nonzero terms = filter (λ term. not (unsigned_abs term.coeff == 0)) terms

-- a term with what other terms add to it
abbrev pub raised_by : List Term → Term → Term
raised_by terms term = record term { coeff = term.coeff +ℤ coefficient_of terms term.var }

-- the terms whose variables other terms do not have
abbrev pub without : List Term → List Term → List Term
without known terms = filter (λ term. not (has_var known term.var)) terms

-- the terms of two forms, those with one variable together
abbrev pub merged : List Term → List Term → List Term
merged a b = map (raised_by b) a ++ without a b

-- the sum of two forms
abbrev pub plus : Form → Form → Form
plus a b = record { terms = nonzero (merged a.terms b.terms); constant = a.constant +ℤ b.constant }

-- a term times a number
abbrev pub scaled : ℤ → Term → Term
scaled by term = record term { coeff = term.coeff *ℤ by }

-- a form times a number
abbrev pub times : Form → ℤ → Form
times a by = record { terms = nonzero (map (scaled by) a.terms); constant = a.constant *ℤ by }
