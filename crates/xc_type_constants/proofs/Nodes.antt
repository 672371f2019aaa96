-- A part of a constant by its parts.
use Rattle.std.proofs.Common.{◌≡◌, ℕ, List}
use Rattle.std.proofs.lemmas.Grind.{common_steps}
use Rattle.std.specs.Prelude.{Option}
use Rattle.xc_lex.specs.declared.number.Number.{Number}
use Rattle.xc_lex.specs.declared.token.Token.{Token}
use Rattle.xc_raw.specs.declared.tree.Raw.{Raw, out-Raw}
use Rattle.xc_type_rule.proofs.Least.{least_append, least_none}
use Rattle.xc_raw_parts.proofs.Nodes.{by_nodes_is}
use Rattle.xc_type_constants.specs.Pieces.{piece_by, piece_in}
use Rattle.xc_type_constants.specs.InnerPieces.{pieces_in}

pub piece_is : (source : List ℕ) (ts : List Token) (numbers : List (Option Number)) (raw : Raw) → piece_in source ts numbers raw ≡ piece_by source ts numbers raw (out-Raw raw).rule (pieces_in source ts numbers (out-Raw raw).parts)
unfolding piece_in
piece_is source ts numbers raw = by_nodes_is (λ node. piece_by source ts numbers node (out-Raw node).rule) raw

pub ruleset piece_rules = (common_steps, least_append, least_none, piece_is)
