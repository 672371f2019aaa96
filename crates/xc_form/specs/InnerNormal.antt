-- What only private functions and proofs speak of, beside `Normal`.
use Rattle.std.specs.Prelude.{Bool, List, map}
use Rattle.xc_tree.specs.declared.stmt.Stmt.{Stmt}
use Rattle.xc_tree.specs.declared.stmt.Item.{Item}
use Rattle.xc_tree.specs.declared.stmt.Item.TheFolds.{fold-Item}
use Rattle.xc_tree.specs.Lists.{some}
use Rattle.xc_tree.specs.Walk.{of_item}
use Rattle.xc_form.specs.Normal.{stays, exits_step, exits}

abbrev pub any_exits : List Stmt → Bool → Bool
any_exits ss here = some (map (λ s. s here) (map exits ss))

abbrev pub item_exits : Item → Bool → Bool
item_exits = fold-Item (Bool → Bool) (Bool → Bool) (Bool → Bool) (of_item stays) exits_step (λ s. s.kind)

abbrev pub any_item_exits : List Item → Bool → Bool
any_item_exits items here = some (map (λ s. s here) (map item_exits items))
