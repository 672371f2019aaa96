-- What a whole text makes of file scope.
use Rattle.std.specs.Prelude.{ℕ, Bool, is_some, List, [], ◌∷◌, ◌++◌, length, map, Option, Some, option_and_then}
use Rattle.xc_text_place.specs.declared.Span.{Span}
use Rattle.xc_raw.specs.declared.rule.Rule.{Rule}
use Rattle.xc_raw.specs.declared.rule.Rule.TheVariants as rule
use Rattle.xc_raw.specs.declared.tree.Raw.{Raw, out-Raw}
use Rattle.xc_type_rule.specs.declared.fault.Fault.{Fault}
use Rattle.xc_type_names.specs.Scoped.{found_in}
use Rattle.xc_type_scopes.specs.Env as env
use Rattle.xc_type_expressions.specs.declared.text.Text.{Text}
use Rattle.xc_type_expressions.specs.Types.{name_fault_unless}
use Rattle.xc_type_expressions.specs.Judged.{span_in}
use Rattle.xc_type_unit.specs.declared.scope.FileScope.{FileScope}
use Rattle.xc_type_unit.specs.Items.{Outcome, Item, nothing, becomes, in_turn}
use Rattle.xc_type_unit.specs.Globals.{declaration}
use Rattle.xc_type_unit.specs.Functions.{Bodies, bodies_of, main_of, function}

-- nothing is declared
abbrev pub empty : FileScope
empty = record { env = env.nothing; globals = []; cells = 0; defined = 0; funcs = Some [] }

-- a pragma at file scope is before no loop
abbrev pub past_pragmas : FileScope → FileScope
past_pragmas s = record s { env = env.past_pragmas s.env }

abbrev pub with_pragma : Span → FileScope → FileScope
with_pragma at s = record s { env = env.with_pragma at s.env }

unfoldable pub item_by : Text → Bodies → Raw → Rule → Item
item_by t b node rule.Pragma s = becomes (with_pragma (span_in t node) s)
item_by t b node rule.Declaration s = declaration t (out-Raw node).parts (past_pragmas s)
item_by t b node rule.Function s = function t b (out-Raw node).parts (past_pragmas s)
item_by t b node _ s = nothing s

unfoldable pub item : Text → Bodies → Raw → Item
item t b node = item_by t b node (out-Raw node).rule

unfoldable pub items : Text → Bodies → List Raw → Item
items t b nodes = in_turn (map (item t b) nodes)

-- the end of the text
abbrev pub end_of : Text → Span
end_of t = record { start = length t.source.now; end = length t.source.now }

-- the number of the definition of `main`
abbrev pub main_in : Text → Bodies → Option ℕ
main_in t b = option_and_then (λ name. found_in name b) (main_of t)

-- a text without a definition of `main` is told at its end
abbrev pub main_faults : Text → Bodies → List Fault
main_faults t b = name_fault_unless (is_some (main_in t b)) (end_of t)

unfoldable pub whole_by : Text → List Raw → Outcome
whole_by t nodes = let a = items t (bodies_of t nodes) nodes empty in
    record { scope = past_pragmas a.scope; faults = a.faults ++ main_faults t (bodies_of t nodes) }

-- a node `Unit`
abbrev pub whole : Text → Raw → Outcome
whole t node = whole_by t (out-Raw node).parts
