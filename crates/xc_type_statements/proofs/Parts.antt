-- A node by its parts.
use Rattle.std.proofs.Common.{◌≡◌, Bool, List, map, ap}
use Rattle.std.proofs.lemmas.Grind.{common_steps}
use Rattle.xc_raw.specs.declared.tree.Raw.{Raw, out-Raw}
use Rattle.xc_type_rule.proofs.Least.{least_append, least_none}
use Rattle.xc_raw_parts.proofs.Nodes.{by_nodes_is}
use Rattle.xc_type_expressions.specs.declared.text.Text.{Text}
use Rattle.xc_type_expressions.specs.Judged.{span_in}
use Rattle.xc_type_statement_parts.specs.declared.answer.Answer.{Answer}
use Rattle.xc_type_statement_parts.proofs.Parts.{followed_first, followed_last, followed_assoc, begun_faults}
use Rattle.xc_type_statements.specs.Stated.{Part, part_of, statement, stated_by, enclosed}

statement_is : (t : Text) (raw : Raw) → statement t raw ≡ part_of t raw (map (statement t) (out-Raw raw).parts)
unfolding statement
statement_is t raw = by_nodes_is (part_of t) raw

abbrev parts_of : Text → Raw → List Part
parts_of t raw = map (statement t) (out-Raw raw).parts

pub node_is : (t : Text) (raw : Raw) → (statement t raw).node ≡ raw
node_is t raw = ap (λ (p : Part). p.node) (statement_is t raw)

pub stated_is : (t : Text) (raw : Raw) (a : Answer) (looping : Bool) → (statement t raw).stated a looping ≡ stated_by t raw (out-Raw raw).rule (parts_of t raw) a looping
stated_is t raw a looping = ap (λ (p : Part). p.stated a looping) (statement_is t raw)

pub body_is : (t : Text) (raw : Raw) (a : Answer) (looping : Bool) → (statement t raw).body a looping ≡ enclosed (span_in t raw) a looping (parts_of t raw)
body_is t raw a looping = ap (λ (p : Part). p.body a looping) (statement_is t raw)

pub ruleset part_rules = (common_steps, least_append, least_none, followed_first, followed_last, followed_assoc, begun_faults, node_is, stated_is, body_is)
