-- Nodes by their parts, and their shapes.
use Rattle.std.proofs.Common.{◌≡◌, List, [], ◌∷◌, map, Bool, sym, ap, ◌∙◌, subst}
use Rattle.std.specs.Prelude.{IsTrue}
use Rattle.xc_raw.specs.declared.tree.Raw.{Raw, out-Raw, roll-Raw, out-roll-Raw}
use Rattle.xc_raw.specs.declared.tree.Raw.TheOpen.{Raw-F}
use Rattle.xc_raw.specs.declared.tree.Raw.TheFolds.{ind-Raw}
use Rattle.xc_tree.specs.Lists.{every}
use Rattle.xc_tree.proofs.Lists.{and_left, and_right}
use Rattle.xc_raw_parts.proofs.Nodes.{by_nodes_is}
use Rattle.xc_type_expressions.specs.declared.text.Text.{Text}
use Rattle.xc_type_expressions.specs.Judged.{role_of, judged}
use Rattle.xc_welltyped_claims.specs.Lists.{Each}
use Rattle.xc_welltyped_claims.specs.Shaped.{rule_in, level_ok, strings_ok, shape_step, is_shaped, Shaped}

-- what holds of a node where it holds of its parts holds of all nodes
module _ (P : Raw → Type 0) (step : (node : Raw) → Each P (out-Raw node).parts → P node) where
  abbrev Child : Type 0
  Child = (n : Raw) × P n

  held : (cs : List Child) → Each P (map (λ c. c.0) cs)
  held [] = tt
  held (c ∷ cs) = (c.1, held cs)

  pub by_parts : (node : Raw) → P node
  by_parts = ind-Raw P (λ x y is. step (roll-Raw x)
      (subst (λ l. Each P l) (ap (λ (z : Raw-F Raw). z.parts) is ∙ ap (λ (z : Raw-F Raw). z.parts) (sym (out-roll-Raw x))) (held y.parts)))

-- shapes --------------------------------------------------------------------------

module _ (t : Text) where
  shaped_opens : (node : Raw) → is_shaped t node ≡ shape_step t node (map (is_shaped t) (out-Raw node).parts)
  unfolding is_shaped
  shaped_opens node = by_nodes_is (shape_step t) node

  opened : (node : Raw) → Shaped t node → IsTrue (shape_step t node (map (is_shaped t) (out-Raw node).parts))
  opened node h = sym (shaped_opens node) ∙ h

  each_shaped : (ns : List Raw) → IsTrue (every (map (is_shaped t) ns)) → Each (Shaped t) ns
  each_shaped [] h = tt
  each_shaped (n ∷ ns) h = (and_left (is_shaped t n) _ h, each_shaped ns (and_right (is_shaped t n) _ h))

  module _ (node : Raw) (h : Shaped t node) where
    abbrev all : Bool
    all = every (map (is_shaped t) (out-Raw node).parts)

    abbrev level : Bool
    level = level_ok t node (rule_in node) (out-Raw node).parts

    pub parts_shaped : Each (Shaped t) (out-Raw node).parts
    parts_shaped = each_shaped (out-Raw node).parts (and_left all _ (opened node h))

    pub level_shaped : IsTrue level
    level_shaped = and_left level _ (and_right all _ (opened node h))

    pub strings_shaped : IsTrue (strings_ok t node (rule_in node) (out-Raw node).parts)
    strings_shaped = and_right level _ (and_right all _ (opened node h))

-- roles ---------------------------------------------------------------------------

pub judged_is : (t : Text) (node : Raw) → judged t node ≡ role_of t node (map (judged t) (out-Raw node).parts)
unfolding judged
judged_is t node = by_nodes_is (role_of t) node
