-- Items one behind another, where each does what it claims.
use Rattle.std.proofs.Common.{◌≡◌, List, [], ◌∷◌, map, true}
use Rattle.std.specs.Prelude.{IsTrue, None}
use Rattle.xc_raw.specs.declared.tree.Raw.{Raw}
use Rattle.xc_parse_grammar.specs.Grammar.{is_item}
use Rattle.xc_tree.proofs.Lists.{and_left, and_right}
use Rattle.xc_type_expressions.specs.declared.text.Text.{Text}
use Rattle.xc_type_unit.specs.declared.scope.FileScope.{FileScope}
use Rattle.xc_type_unit.specs.Items.{in_turn}
use Rattle.xc_type_unit.specs.Functions.{Bodies}
use Rattle.xc_type_unit.specs.Texts.{item}
use Rattle.xc_welltyped_claims.specs.Lists.{Each}
use Rattle.xc_welltyped_claims.specs.Shaped.{rule_in, all_of, Shaped, Spoken}
use Rattle.xc_welltyped_claims.proofs.Judges.{none_left, none_right}
use Rattle.xc_welltyped_unit.specs.Files.{FileFine, CleanItem, Does}
use Rattle.xc_welltyped_unit.proofs.Passing.{passing_turn, items_passing}

module _ (t : Text) (b : Bodies) (item_does : (node : Raw) → Shaped t node → is_item (rule_in node) ≡ true → Does t b node (item t b node)) where
  pub items_done : (nodes : List Raw) → Each (Shaped t) nodes → IsTrue (all_of is_item nodes) → (s : FileScope) → FileFine t b s →
      (in_turn (map (item t b) nodes) s).faults ≡ [] → (in_turn (map (item t b) nodes) s).scope.env.over ≡ None →
      FileFine t b (in_turn (map (item t b) nodes) s).scope × Each (Spoken t) nodes
  unfolding in_turn
  items_done [] h x s f none within = (f, tt)
  items_done (n ∷ ns) h x s f none within =
      let i = item t b n in
      let is = map (item t b) ns in
      let a = i s in
      let c : CleanItem i s = record { faultless = none_left a.faults (in_turn is a.scope).faults none; within = passing_turn is (items_passing t b ns) a.scope within } in
      let d = item_does n h.0 (and_left (is_item (rule_in n)) _ x) s f c in
      let r = items_done ns h.1 (and_right (is_item (rule_in n)) _ x) a.scope d.fine (none_right a.faults (in_turn is a.scope).faults none) within in
      (r.0, (d.spoken, r.1))
