-- The roles of a node by those of its parts.
use Rattle.std.proofs.Common.{◌≡◌, Bool, List, map, ap}
use Rattle.std.specs.Prelude.{Option, option_and_then}
use Rattle.std.proofs.lemmas.Grind.{common_steps}
use Rattle.xc_raw.specs.declared.tree.Raw.{Raw, out-Raw}
use Rattle.xc_tree.specs.declared.ty.Ty.{Ty}
use Rattle.xc_raw_parts.specs.Words.{specifier_words}
use Rattle.xc_type_constants.specs.Pieces.{piece_in}
use Rattle.xc_raw_parts.proofs.Nodes.{by_nodes_is}
use Rattle.xc_raw_parts.specs.Names.{struct_name}
use Rattle.xc_type_rule.proofs.Least.{least_append, least_none}
use Rattle.xc_type_expressions.specs.declared.text.Text.{Text}
use Rattle.xc_type_expressions.specs.Roles.{Role}
use Rattle.xc_type_expressions.specs.Places.{name_of, alone_in}
use Rattle.xc_type_expressions.specs.Types.{specified_by, struct_by, member_by}
use Rattle.xc_type_expressions.specs.Judged.{span_in, spot_in, role_of, found_of, declared_of, judged, inner_of}

judged_is : (t : Text) (raw : Raw) → judged t raw ≡ role_of t raw (map (judged t) (out-Raw raw).parts)
unfolding judged
judged_is t raw = by_nodes_is (role_of t) raw

abbrev parts_of : Text → Raw → List Role
parts_of t raw = map (judged t) (out-Raw raw).parts

-- each role by itself, so that no goal has to hold all of them
pub span_is : (t : Text) (raw : Raw) → (judged t raw).span ≡ span_in t raw
span_is t raw = ap (λ (r : Role). r.span) (judged_is t raw)

pub inner_is : (t : Text) (raw : Raw) → (judged t raw).inner ≡ inner_of (span_in t raw) (out-Raw raw).rule (parts_of t raw)
inner_is t raw = ap (λ (r : Role). r.inner) (judged_is t raw)

pub alone_is : (t : Text) (raw : Raw) → (judged t raw).alone ≡ alone_in raw
alone_is t raw = ap (λ (r : Role). r.alone) (judged_is t raw)

pub found_is : (t : Text) (raw : Raw) → (judged t raw).found ≡ found_of t raw (out-Raw raw).rule (parts_of t raw)
found_is t raw = ap (λ (r : Role). r.found) (judged_is t raw)

pub constant_is : (t : Text) (raw : Raw) → (judged t raw).constant ≡ piece_in t.source.now t.tokens.now t.texts.now.constants.items raw
constant_is t raw = ap (λ (r : Role). r.constant) (judged_is t raw)

pub specified_is : (t : Text) (raw : Raw) (outermost : Bool) → (judged t raw).specified outermost ≡ specified_by (span_in t raw) (specifier_words t.source.now t.tokens.now raw) (parts_of t raw) outermost
specified_is t raw outermost = ap (λ (r : Role). r.specified outermost) (judged_is t raw)

pub struct_is : (t : Text) (raw : Raw) → (judged t raw).struct ≡ struct_by (spot_in t (struct_name t.tokens.now raw)) (option_and_then (name_of t) (struct_name t.tokens.now raw)) (parts_of t raw)
struct_is t raw = ap (λ (r : Role). r.struct) (judged_is t raw)

pub member_is : (t : Text) (raw : Raw) → (judged t raw).member ≡ member_by (parts_of t raw)
member_is t raw = ap (λ (r : Role). r.member) (judged_is t raw)

pub declared_is : (t : Text) (raw : Raw) (base : Option Ty) → (judged t raw).declared base ≡ declared_of t raw (parts_of t raw) base
declared_is t raw base = ap (λ (r : Role). r.declared base) (judged_is t raw)

pub ruleset judge_rules = (common_steps, least_append, least_none, span_is, inner_is, alone_is, found_is, constant_is, specified_is, struct_is, member_is, declared_is)
