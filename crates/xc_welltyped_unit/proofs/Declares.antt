-- A name of an object of file scope, and the object.
use Rattle.std.proofs.Common.{◌≡◌, ℕ, List, length, sym, subst}
use Rattle.std.specs.Prelude.{IsTrue, ⊤, Option, Some}
use Rattle.xc_tree.specs.declared.ty.Ty.{Ty}
use Rattle.xc_raw.specs.declared.tree.Raw.{Raw}
use Rattle.xc_type_expressions.specs.declared.text.Text.{Text}
use Rattle.xc_type_expressions.specs.declared.types.Declared.{Declared}
use Rattle.xc_type_unit.specs.declared.scope.FileScope.{FileScope}
use Rattle.xc_type_unit.specs.Functions.{Bodies}
use Rattle.xc_type_unit.specs.Items.{Item, by_part}
use Rattle.xc_type_unit.specs.Globals as globals
use Rattle.xc_welltyped_claims.specs.Lists.{Each}
use Rattle.xc_welltyped_claims.specs.Types.{is_object_by}
use Rattle.xc_welltyped_claims.specs.Env.{Extends}
use Rattle.xc_welltyped_claims.specs.Shaped.{is_init, one_at_most, Shaped, Spoken, IsLexed}
use Rattle.xc_welltyped_unit.specs.Files.{CleanItem, FileFine}
use Rattle.xc_welltyped_unit.proofs.Passing.{passing_begins}
use Rattle.xc_welltyped_unit.proofs.Parts.{part_first, part_second, named_new}
use Rattle.xc_welltyped_unit.proofs.Begins.{begins_fine}

module _ (t : Text) (lexed : IsLexed t)
    (b : Bodies) (s : FileScope) (f : FileFine t b s) (d : Declared) (ty : Ty) (name : ℕ) (known : IsTrue (is_object_by s.env.structs.sizes ty))
    (is : List Raw) (shaped : Each (Shaped t) is) (inits : IsTrue (one_at_most is_init is)) where
  abbrev Claim : FileScope → Type 0
  Claim s' = FileFine t b s' × Extends s.env s'.env × Each (Spoken t) is

  abbrev declares_by : Option Ty → Option ℕ → Item
  declares_by o n s = by_part (globals.named_global d.at o (length s.globals) n) (λ x. globals.begins t d.at o is) s

  by_known : CleanItem (declares_by (Some ty) (Some name)) s → Claim (declares_by (Some ty) (Some name) s).scope
  unfolding globals.named_global
  by_known c =
      let j = globals.named_global d.at (Some ty) (length s.globals) (Some name) in
      let k : ⊤ → Item = λ x. globals.begins t d.at (Some ty) is in
      let c' : CleanItem (by_part j k) s = record { faultless = c.faultless; within = c.within } in
      let new = named_new d.at (Some ty) (length s.globals) name s.env (part_first j k s c' (λ x. passing_begins t d.at (Some ty) is)) in
      begins_fine t lexed b s f d.at ty name new known is shaped inits (part_second j k s c')

  pub declares_fine : d.ty ≡ Some ty → d.name ≡ Some name → CleanItem (globals.declares t d is) s → Claim (globals.declares t d is s).scope
  declares_fine p q = subst (λ o. CleanItem (declares_by o d.name) s → Claim (declares_by o d.name s).scope) (sym p)
      (subst (λ n. CleanItem (declares_by (Some ty) n) s → Claim (declares_by (Some ty) n s).scope) (sym q) by_known)
