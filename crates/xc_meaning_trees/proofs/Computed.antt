-- The samples hold by the equations of folds.
use Rattle.std.proofs.Common.{rules}
use Rattle.xc_tree.specs.declared.expr.ExprKind.TheFolds as folds
use Rattle.xc_tree.specs.declared.expr.ExprKind.TheViews as views
use Rattle.xc_tree.specs.declared.stmt.Item.TheFolds as stmt_folds
use Rattle.xc_tree.specs.declared.stmt.Item.TheViews as stmt_views
use Rattle.xc_tree.specs.declared.ty.Ty.TheFolds as ty_folds
use Rattle.xc_tree.specs.declared.ty.Ty.TheViews as ty_views
use Rattle.xc_form.specs.Normal.{normal_form}
use Rattle.xc_form.specs.Concurrency.{all_inside}
use Rattle.xc_form_stable.specs.Addresses.{is_kept_at, is_variable}
use Rattle.xc_form_stable.specs.Stable.{has_threads, clause_of, first_unstable}
use Rattle.xc_meaning_trees.specs.Samples.{UpdateOfElement, PointerSum, Declarations, Loops, Switches, Roots, TreeSamples}

ruleset opened = (folds.the_lemmas, views.the_lemmas, ty_folds.the_lemmas, ty_views.the_lemmas, stmt_folds.the_lemmas, stmt_views.the_lemmas, stmt_views.outs-Do')

update_of_element : UpdateOfElement
update_of_element = search (rules, opened)

pointer_sum : PointerSum
pointer_sum = search (rules, opened)

declarations : Declarations
declarations = search (rules, opened)

loops : Loops
unfolding normal_form all_inside first_unstable has_threads clause_of is_kept_at is_variable
loops = search (rules, opened)

switches : Switches
switches = search (rules, opened)

pub roots : Roots
roots = search (rules, opened)

pub tree_samples : TreeSamples
tree_samples = (update_of_element, pointer_sum, declarations, loops, switches)
