-- What nodes are, each by what its parts are.
use Rattle.std.specs.Prelude.{List, [], ◌∷◌}
use Rattle.xc_raw.specs.declared.tree.Raw.{Raw, out-Raw}
use Rattle.xc_raw.specs.declared.tree.Raw.TheFolds.{fold-Raw}

-- each of these of its node
abbrev pub applied : {A : Type 0} → List (Raw → A) → List Raw → List A
applied [] nodes = []
applied (f ∷ fs) [] = []
applied (f ∷ fs) (n ∷ ns) = f n ∷ applied fs ns

-- a node by `step`, from what its parts are, all the way down
unfoldable pub by_nodes : {A : Type 0} → (Raw → List A → A) → Raw → A
by_nodes {A} step raw = fold-Raw (Raw → A) (λ l node. step node (applied l.parts (out-Raw node).parts)) raw raw
