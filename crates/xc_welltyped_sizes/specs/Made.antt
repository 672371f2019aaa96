-- How many nodes what is made of parts of a text has.
use Rattle.std.specs.Prelude.{◌≡◌, ℕ, ◌≤◌, List, length, map, Some}
use Rattle.xc_tree.specs.declared.stmt.Capture.{Capture}
use Rattle.xc_tree.specs.declared.tree.Func.{Func}
use Rattle.xc_type_rule.specs.declared.found.Found.{Found}
use Rattle.xc_type_scopes.specs.declared.env.Env.{Env}
use Rattle.xc_type_scopes.specs.Judge.{Judge}
use Rattle.xc_type_unit.specs.declared.scope.FileScope.{FileScope}
use Rattle.xc_tree_sizes.specs.Nodes.{total, if_there, expr_nodes, funcs_nodes}

abbrev pub found_nodes : Found → ℕ
found_nodes f = if_there expr_nodes f.made

abbrev pub captures_nodes : List Capture → ℕ
captures_nodes cs = total (map (λ c. expr_nodes c.from) cs)

-- what is made has at most so many, wherever the part stands
abbrev pub Makes : {A : Type 0} → (A → ℕ) → ℕ → Judge A → Type 0
Makes measure n j = (e : Env) → measure (j e).part ≤ n

-- so many objects at file scope at most, and so many nodes of functions
pub record Holds (objects nodes : ℕ) (s : FileScope) : Type 0 where
  pub objects_few : length s.globals ≤ objects
  pub nodes_few : (fs : List Func) → s.funcs ≡ Some fs → funcs_nodes fs ≤ nodes
