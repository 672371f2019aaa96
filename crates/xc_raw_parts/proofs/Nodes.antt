-- A node by what its parts are.
use Rattle.std.proofs.Common.{◌≡◌, List, [], ◌∷◌, map, refl, sym, ap, ◌∙◌}
use Rattle.xc_raw.specs.declared.tree.Raw.{Raw, out-Raw, roll-out-Raw}
use Rattle.xc_raw.specs.declared.tree.Raw.TheFolds.{fold-Raw, fold-roll-Raw, map-Raw}
use Rattle.xc_raw.specs.declared.tree.Raw.TheOpen.{Raw-F}
use Rattle.xc_raw_parts.specs.Nodes.{applied, by_nodes}

module _ {A : Type 0} (step : Raw → List A → A) where
  abbrev layer : Raw-F (Raw → A) → Raw → A
  layer l node = step node (applied l.parts (out-Raw node).parts)

  abbrev folded : Raw → Raw → A
  folded = fold-Raw (Raw → A) layer

  opened : (raw : Raw) → folded raw ≡ layer (map-Raw Raw (Raw → A) folded (out-Raw raw))
  opened raw = ap folded (sym (roll-out-Raw raw)) ∙ fold-roll-Raw (Raw → A) layer (out-Raw raw)

  applied_all : (ns : List Raw) → applied (map folded ns) ns ≡ map (by_nodes step) ns
  unfolding by_nodes
  applied_all [] = refl
  applied_all (n ∷ ns) = ap (λ rs. by_nodes step n ∷ rs) (applied_all ns)

  pub by_nodes_is : (raw : Raw) → by_nodes step raw ≡ step raw (map (by_nodes step) (out-Raw raw).parts)
  unfolding by_nodes
  by_nodes_is raw = ap (λ f. f raw) (opened raw) ∙ ap (step raw) (applied_all (out-Raw raw).parts)
