-- Declarations of objects at file scope (C99 6.9.2).
use Rattle.std.proofs.Common.{List, [], ◌∷◌, map, true, sym, subst}
use Rattle.std.specs.Prelude.{IsTrue, Option}
use Rattle.xc_tree.specs.declared.ty.Ty.{Ty}
use Rattle.xc_tree.proofs.Lists.{and_left, and_right}
use Rattle.xc_raw.specs.declared.rule.Rule.TheVariants as rule
use Rattle.xc_raw.specs.declared.tree.Raw.{Raw, out-Raw}
use Rattle.xc_type_expressions.specs.declared.text.Text.{Text}
use Rattle.xc_type_expressions.specs.Judged.{judged}
use Rattle.xc_type_unit.specs.declared.scope.FileScope.{FileScope}
use Rattle.xc_type_unit.specs.Functions.{Bodies}
use Rattle.xc_type_unit.specs.Items.{Item, by_part, in_turn}
use Rattle.xc_type_unit.specs.Globals as globals
use Rattle.xc_welltyped_claims.specs.Lists.{Each}
use Rattle.xc_welltyped_claims.specs.Env.{Extends}
use Rattle.xc_welltyped_claims.specs.Roles.{IsBase}
use Rattle.xc_welltyped_claims.specs.Shaped.{rule_in, is_specs, is_dinit, all_of, level_ok, Shaped, IsLexed, Spoken}
use Rattle.xc_welltyped_claims.proofs.Env.{stays_extends, extends_self, extends_then}
use Rattle.xc_welltyped_claims.proofs.Judges.{none_left, none_right}
use Rattle.xc_welltyped_claims.proofs.Nodes.{parts_shaped, level_shaped}
use Rattle.xc_welltyped_claims.proofs.Strings.{spoken_of}
use Rattle.xc_welltyped_expressions.proofs.Roles.{role_fine}
use Rattle.xc_welltyped_unit.specs.Files.{CleanItem, FileFine, DoesParts}
use Rattle.xc_welltyped_unit.proofs.Passing.{passing_turn, passing_globals}
use Rattle.xc_welltyped_unit.proofs.Going.{file_behind}
use Rattle.xc_welltyped_unit.proofs.Parts.{part_first, part_second}
use Rattle.xc_welltyped_unit.proofs.Dinits.{dinit_fine}
use Rattle.xc_welltyped_expressions.proofs.Bounds.{base_behind}
use Rattle.xc_welltyped_statements.proofs.Declarations.{dinit_parts}

module _ (t : Text) (lexed : IsLexed t) (b : Bodies) where
  abbrev Done : FileScope → Item → List Raw → Type 0
  Done s i ps = FileFine t b (i s).scope × Extends s.env (i s).scope.env × Each (Spoken t) ps

  global_fine : (base : Option Ty) (d : Raw) → Shaped t d → IsTrue (is_dinit (rule_in d)) → (s : FileScope) → FileFine t b s → IsBase s.env base →
      CleanItem (globals.global t base d) s → Done s (globals.global t base d) (d ∷ [])
  unfolding globals.global
  global_fine base d h x s f ib c =
      let q = dinit_parts t d (rule_in d) (out-Raw d).parts x (level_shaped t d h) in
      let hs = subst (λ l. Each (Shaped t) l) q.2 (parts_shaped t d h) in
      let does = dinit_fine t lexed b base q.0 q.1 hs.0 q.3 hs.1 q.4 s f ib in
      let does_all = subst (λ l. CleanItem (globals.global_by t base l) s → Done s (globals.global_by t base l) l) (sym q.2) does in
      let r = does_all (record { faultless = c.faultless; within = c.within }) in
      (r.0, r.1, (spoken_of t lexed d h q.5 r.2, tt))

  -- one behind another
  globals_fine : (base : Option Ty) (ds : List Raw) → Each (Shaped t) ds → IsTrue (all_of is_dinit ds) → (s : FileScope) → FileFine t b s → IsBase s.env base →
      CleanItem (in_turn (map (globals.global t base) ds)) s → Done s (in_turn (map (globals.global t base) ds)) ds
  unfolding in_turn
  globals_fine base [] h x s f ib c = (f, extends_self s.env, tt)
  globals_fine base (d ∷ ds) h x s f ib c =
      let i = globals.global t base d in
      let is = map (globals.global t base) ds in
      let a = i s in
      let z = in_turn is a.scope in
      let first : CleanItem i s = record { faultless = none_left a.faults z.faults c.faultless; within = passing_turn is (passing_globals t base ds) a.scope c.within } in
      let more : CleanItem (in_turn is) a.scope = record { faultless = none_right a.faults z.faults c.faultless; within = c.within } in
      let one = global_fine base d h.0 (and_left (is_dinit (rule_in d)) _ x) s f ib first in
      let rest = globals_fine base ds h.1 (and_right (is_dinit (rule_in d)) _ x) a.scope one.0 (base_behind s.env a.scope.env one.1.structs base ib) more in
      (rest.0, extends_then s.env a.scope.env z.scope.env one.1 rest.1, (one.2.0, rest.2))

  -- behind the specifiers
  declares_all : (specs : Raw) (ds : List Raw) → Each (Shaped t) (specs ∷ ds) → IsTrue (is_specs (rule_in specs)) → IsTrue (all_of is_dinit ds) → DoesParts t b (specs ∷ ds) (globals.declaration t (specs ∷ ds))
  unfolding globals.declaration globals.globals_by
  declares_all specs ds h x y s f c =
      let j = (judged t specs).specified true in
      let k : Option Ty → Item = λ base. globals.globals_by t base ds in
      let c' : CleanItem (by_part j k) s = record { faultless = c.faultless; within = c.within } in
      let m = (role_fine t lexed specs h.0).specified x true s.env f.stands.good (part_first j k s c' (λ base. passing_turn (map (globals.global t base) ds) (passing_globals t base ds))) in
      let base = (j s.env).part in
      let e = (j s.env).env in
      let d = part_second j k s c' in
      let r = globals_fine base ds h.1 y (record s { env = e }) (file_behind t b s f e m.stays m.good) m.holds.0 (record { faultless = d.faultless; within = d.within }) in
      (r.0, extends_then s.env e _ (stays_extends s.env e m.stays) r.1, (m.holds.1, r.2))

  pub declaration_done : (node : Raw) (parts : List Raw) → IsTrue (level_ok t node rule.Declaration parts) → Each (Shaped t) parts → DoesParts t b parts (globals.declaration t parts)
  unfolding level_ok
  declaration_done node [] l h = absurd cc
  declaration_done node (specs ∷ ds) l h = declares_all specs ds h (and_left (is_specs (rule_in specs)) _ l) (and_right (is_specs (rule_in specs)) _ l)
