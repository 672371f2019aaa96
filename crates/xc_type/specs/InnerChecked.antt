-- What only private functions and proofs speak of, beside `Checked`.
use Rattle.std.specs.Prelude.{◌≡◌, ℕ, List, Option, option_and_then, slice_get}
use Rattle.xc_lex.specs.declared.token.Token.{Token}
use Rattle.xc_raw.specs.declared.tree.Raw.{Raw, out-Raw}
use Rattle.xc_tree.specs.declared.ty.Ty.{Ty}
use Rattle.xc_type_rule.specs.declared.found.Member.{Member}
use Rattle.xc_type_expressions.specs.declared.text.Text.{Text}
use Rattle.xc_type_unit.specs.declared.text.Whole.{Whole}
use Rattle.xc_type_unit.specs.Functions.{bodies_of}
use Rattle.xc_type_unit.specs.Texts.{main_in}
use Rattle.xc_type.specs.Checked.{IsText, scope_of, IsFaultless}

-- the type of the member with this number, if it is there and known
abbrev pub type_at : List Member → ℕ → Option Ty
type_at ms n = option_and_then (λ m. m.ty) (slice_get ms n)

-- what its declarations make, and the number of its `main`
pub record IsWhole (t : Text) (raw : Raw) (w : Whole) : Type 0 where
  pub faultless : IsFaultless t raw
  pub scope : w.scope ≡ scope_of t raw
  pub main_is : w.main ≡ main_in t (bodies_of t (out-Raw raw).parts)

abbrev pub IsWholeOf : List ℕ → List Token → Raw → Whole → Type 0
IsWholeOf source tokens raw w = (t : Text) × IsText source tokens t × IsWhole t raw w
