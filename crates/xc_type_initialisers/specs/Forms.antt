-- What may be a pointer to a global by the text alone: a name, or `&` of a name, in parentheses or not.
use Rattle.std.specs.Prelude.{Bool, false, is_some, List, [], ◌∷◌, Option, Some}
use Rattle.xc_raw.specs.declared.rule.Rule.{Rule}
use Rattle.xc_raw.specs.declared.rule.Rule.TheVariants as rule
use Rattle.xc_raw.specs.declared.tree.Raw.{Raw, out-Raw}
use Rattle.xc_raw_parts.specs.declared.operators.Prefix.{Prefix}
use Rattle.xc_raw_parts.specs.declared.operators.Prefix.TheVariants as prefix
use Rattle.xc_raw_parts.specs.Nodes.{by_nodes}
use Rattle.xc_type_expressions.specs.declared.text.Text.{Text}
use Rattle.xc_type_expressions.specs.Places.{name_of}
use Rattle.xc_type_expressions.specs.Judged.{prefix_in}
use Rattle.xc_type_initialisers.specs.declared.forms.Form.{Form}

abbrev pub token_form : Bool → Form
token_form named = record { name = named; pointer = named }

abbrev pub no_form : Form
no_form = record { name = false; pointer = false }

abbrev pub prefix_form : Option Prefix → Form → Form
prefix_form (Some prefix.Address) f = record { name = false; pointer = f.name }
prefix_form _ f = no_form

-- a node by its parts
unfoldable pub form_by : Text → Raw → Rule → List Form → Form
form_by t node rule.Prim [] = token_form (is_some (name_of t (out-Raw node).first))
form_by t node rule.Prim (f ∷ []) = f
form_by t node rule.Unary (f ∷ []) = prefix_form (prefix_in t node) f
form_by t node _ _ = no_form

unfoldable pub form_in : Text → Raw → Form
form_in t = by_nodes (λ node. form_by t node (out-Raw node).rule)
