-- An object of file scope, behind its declarator.
use Rattle.std.proofs.Common.{◌≡◌, ℕ, ◌+◌, ◌^◌, ◌≤◌, List, [], ◌∷◌, length, Bool, true, refl, sym, ap, ◌∙◌, subst}
use Rattle.std.specs.Prelude.{IsTrue, min, Some}
use Rattle.xc_text_place.specs.declared.Span.{Span}
use Rattle.xc_tree.specs.declared.ty.Ty.{Ty}
use Rattle.xc_raw.specs.declared.tree.Raw.{Raw}
use Rattle.xc_type_rule.specs.declared.found.Thing.TheVariants as thing
use Rattle.xc_type_names.specs.Scoped.{is_new}
use Rattle.xc_type_scopes.specs.declared.env.Env.{Env}
use Rattle.xc_type_expressions.specs.declared.text.Text.{Text}
use Rattle.xc_type_unit.specs.declared.scope.FileScope.{FileScope}
use Rattle.xc_type_unit.specs.Functions.{Bodies}
use Rattle.xc_type_unit.specs.Globals as globals
use Rattle.xc_welltyped_claims.specs.Lists.{Each}
use Rattle.xc_welltyped_claims.specs.Types.{is_object_by}
use Rattle.xc_welltyped_claims.specs.Env.{Stays, Extends}
use Rattle.xc_welltyped_claims.specs.Judges.{Clean, Given}
use Rattle.xc_welltyped_claims.specs.Shaped.{is_init, one_at_most, Shaped, Spoken, IsLexed}
use Rattle.xc_welltyped_claims.proofs.Judges.{none_left}
use Rattle.xc_welltyped_expressions.proofs.Passing.{none_first}
use Rattle.xc_welltyped_statements.proofs.Sized.{cells_stay}
use Rattle.xc_welltyped_unit.specs.Files.{CleanItem, FileFine}
use Rattle.xc_welltyped_unit.proofs.Begun.{AreCells, begun_fine}
use Rattle.xc_welltyped_unit.proofs.Parts.{cells_fit}
use Rattle.xc_welltyped_unit.proofs.Added.{named, good_named, object_added}

-- cells are counted, and none is made where they are too many: nothing else differs
begun_env : (t : Text) (q : Bool) (ty : Ty) (is : List Raw) (e : Env) → (globals.begun t q ty is e).env ≡ (globals.begun t true ty is e).env
unfolding globals.begun
begun_env t q ty [] e = refl
begun_env t q ty (i ∷ is) e = refl

begun_clean : (t : Text) (q : Bool) (ty : Ty) (is : List Raw) (e : Env) → Clean (globals.begun t q ty is) e → Clean (globals.begun t true ty is) e
unfolding globals.begun
begun_clean t q ty [] e = λ c. record { faultless = c.faultless; within = c.within }
begun_clean t q ty (i ∷ is) e = λ c. record { faultless = c.faultless; within = c.within }

module _ (t : Text) (lexed : IsLexed t)
    (b : Bodies) (s : FileScope) (f : FileFine t b s) (at : Span) (ty : Ty) (name : ℕ) (new : IsTrue (is_new name s.env.file)) (known : IsTrue (is_object_by s.env.structs.sizes ty))
    (is : List Raw) (shaped : Each (Shaped t) is) (inits : IsTrue (one_at_most is_init is)) where
  abbrev start : Env
  start = named name (thing.Global (length s.globals) (Some ty)) s.env

  abbrev pub begins_at : FileScope
  begins_at = record s { env = start }

  abbrev behind : Bool → Env
  behind q = (globals.begun t q ty is start).env

  abbrev count : Bool → ℕ
  count q = globals.cells_with ty (record begins_at { env = behind q })

  abbrev ending : Bool → FileScope
  ending q = globals.with_object at ty (globals.begun t q ty is start).part (record begins_at { env = behind q })

  abbrev Claim : FileScope → Type 0
  Claim s' = FileFine t b s' × Extends s.env s'.env × Each (Spoken t) is

  begun_so : Clean (globals.begun t true ty is) start → Given start (behind true) (AreCells t (behind true) ty (globals.begun t true ty is start).part × Each (Spoken t) is)
  begun_so = begun_fine t lexed is shaped inits ty start (good_named name (thing.Global (length s.globals) (Some ty)) s.env f.stands.good known) f.stands.complete known

  count_same : Stays start (behind true) → globals.cells_with ty begins_at ≡ count true
  unfolding globals.cells_with
  count_same k = ap (λ c. min (s.cells + c) (2 ^ 22 + 1)) (cells_stay s.env.structs (behind true).structs k.structs ty known)

  at_true : Clean (globals.begun t true ty is) start → count true ≤ 2 ^ 22 → Claim (ending true)
  unfolding globals.with_object globals.cells_with
  at_true c fits =
      let g = begun_so c in
      let a = object_added t b s f at ty name new known (behind true) g.good g.stays (globals.begun t true ty is start).part g.holds.0 (globals.over_at (count true) at) (count true) refl fits in
      (a.0, a.1, g.holds.1)

  pub begins_fine : CleanItem (globals.begins t at (Some ty) is) begins_at → Claim (globals.begins t at (Some ty) is begins_at).scope
  unfolding globals.begins globals.with_object
  begins_fine c =
      let q = globals.fits (globals.cells_with ty begins_at) in
      let clean : Clean (globals.begun t q ty is) start = record {
        faultless = none_left (globals.begun t q ty is start).faults [] c.faultless;
        within = none_first (behind q).over (globals.over_at (count q) at) c.within;
      } in
      let clean_true = begun_clean t q ty is start clean in
      let fit = cells_fit (behind q).over (count q) at c.within in
      let told : count q ≡ count true = ap (λ e. globals.cells_with ty (record begins_at { env = e })) (begun_env t q ty is start) in
      let fitting : q ≡ true = ap globals.fits (count_same (begun_so clean_true).stays ∙ sym told) ∙ fit.0 in
      subst (λ q. Claim (ending q)) (sym fitting) (at_true clean_true (subst (λ n. n ≤ 2 ^ 22) told fit.1))
