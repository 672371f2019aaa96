-- Items of a text, one behind another.
use Rattle.std.proofs.Common.{◌≡◌, ℕ, ◌+◌, ◌<◌, List, [], ◌∷◌, ◌++◌, length, get_or, drop, map, refl, sym, ap, ◌∙◌}
use Rattle.std.specs.Prelude.{Option, Some}
use Rattle.std.proofs.lemmas.List.{append-nil, drop_more}
use Rattle.std.proofs.lemmas.Grind.{common_steps}
use Rattle.xc_raw.specs.declared.tree.Raw.TheViews as views
use Rattle.xc_type_rule.specs.declared.fault.Fault.{Fault}
use Rattle.xc_type_rule.specs.Least.{least_from}
use Rattle.xc_type_rule.proofs.Least.{least_append, least_none}
use Rattle.xc_type_scopes.specs.declared.env.Env.{Env}
use Rattle.xc_type_scopes.specs.Judge.{each}
use Rattle.xc_type_scopes.proofs.Walks.{each_rules}
use Rattle.xc_type_unit.specs.declared.scope.FileScope.{FileScope}
use Rattle.xc_type_unit.specs.Items.{Item, in_turn}

pub turn_none : (s : FileScope) → in_turn [] s ≡ record { scope = s; faults = [] }
unfolding in_turn
turn_none s = refl

pub parts_none : {A : Type 0} (e : Env) → each {A = A} [] e ≡ record { env = e; part = []; faults = [] }
unfolding each
parts_none e = refl

module _ {C : Type 0} (I : C → Item) where
  module _ (xs : List C) (k : ℕ) (d : C) (lt : k < length xs) (s : FileScope) where
    abbrev here : FileScope
    here = (I (get_or xs k d) s).scope

    -- behind the next item the rest leaves what all that were left leave
    pub turn_scope : (in_turn (map I (drop (k + 1) xs)) here).scope ≡ (in_turn (map I (drop k xs)) s).scope
    unfolding in_turn
    turn_scope = sym (ap (λ r. (in_turn (map I r) s).scope) (drop_more xs k d lt))

    pub turn_faults : (f : Option Fault) → least_from (least_from f (I (get_or xs k d) s).faults) (in_turn (map I (drop (k + 1) xs)) here).faults
        ≡ least_from f (in_turn (map I (drop k xs)) s).faults
    unfolding in_turn
    turn_faults f = sym (least_append f _ _) ∙ sym (ap (λ r. least_from f (in_turn (map I r) s).faults) (drop_more xs k d lt))

pub ruleset node_rules = (common_steps, views.the_lemmas, least_append, least_none)

pub ruleset part_rules = (common_steps, least_append, least_none, parts_none, each_rules)

pub ruleset turn_rules = (common_steps, least_append, least_none, turn_none, turn_scope, turn_faults)
