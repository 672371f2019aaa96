-- A declarator of file scope with its initialiser.
use Rattle.std.proofs.Common.{List, ◌∷◌}
use Rattle.std.specs.Prelude.{IsTrue, Option}
use Rattle.xc_tree.specs.declared.ty.Ty.{Ty}
use Rattle.xc_raw.specs.declared.tree.Raw.{Raw}
use Rattle.xc_type_expressions.specs.declared.text.Text.{Text}
use Rattle.xc_type_expressions.specs.declared.types.Declared.{Declared}
use Rattle.xc_type_expressions.specs.Judged.{judged}
use Rattle.xc_type_unit.specs.declared.scope.FileScope.{FileScope}
use Rattle.xc_type_unit.specs.Functions.{Bodies}
use Rattle.xc_type_unit.specs.Items.{Item, by_part}
use Rattle.xc_type_unit.specs.Globals as globals
use Rattle.xc_welltyped_claims.specs.Lists.{Each}
use Rattle.xc_welltyped_claims.specs.Env.{Extends}
use Rattle.xc_welltyped_claims.specs.Roles.{IsBase}
use Rattle.xc_welltyped_claims.specs.Shaped.{rule_in, is_init, is_declr, one_at_most, Shaped, Spoken, IsLexed}
use Rattle.xc_welltyped_claims.proofs.Env.{stays_extends, extends_then}
use Rattle.xc_welltyped_structs.proofs.Promises.{promise_kept}
use Rattle.xc_welltyped_statements.proofs.Values.{some_of}
use Rattle.xc_welltyped_expressions.proofs.Roles.{role_fine}
use Rattle.xc_welltyped_unit.specs.Files.{CleanItem, FileFine}
use Rattle.xc_welltyped_unit.proofs.Passing.{passing_declares}
use Rattle.xc_welltyped_unit.proofs.Going.{file_behind}
use Rattle.xc_welltyped_unit.proofs.Parts.{part_first, part_second}
use Rattle.xc_welltyped_unit.proofs.Declares.{declares_fine}

module _ (t : Text) (lexed : IsLexed t) (b : Bodies) (base : Option Ty) where
  pub dinit_fine : (d : Raw) (is : List Raw) → Shaped t d → IsTrue (is_declr (rule_in d)) → Each (Shaped t) is → IsTrue (one_at_most is_init is) → (s : FileScope) → FileFine t b s → IsBase s.env base →
      CleanItem (globals.global_by t base (d ∷ is)) s →
      FileFine t b (globals.global_by t base (d ∷ is) s).scope × Extends s.env (globals.global_by t base (d ∷ is) s).scope.env × Each (Spoken t) (d ∷ is)
  unfolding globals.global_by
  dinit_fine d is hd xd hs xs s f ib c =
      let j = (judged t d).declared base in
      let k : Declared → Item = λ x. globals.declares t x is in
      let c' : CleanItem (by_part j k) s = record { faultless = c.faultless; within = c.within } in
      let m = (role_fine t lexed d hd).declared xd base s.env f.stands.good ib (part_first j k s c' (λ x. passing_declares t x is)) in
      let e1 = (j s.env).env in
      let f1 = file_behind t b s f e1 m.stays m.good in
      let q = m.holds.0 in
      let name = some_of (j s.env).part.name q.named in
      let ok = promise_kept e1.structs.sizes f1.stands.complete q.ty q.object in
      let r = declares_fine t lexed b (record s { env = e1 }) f1 (j s.env).part q.ty name.0 ok is hs xs q.known name.1 (part_second j k s c') in
      (r.0, extends_then s.env e1 _ (stays_extends s.env e1 m.stays) r.1, (m.holds.1, r.2))
