-- What only private functions and proofs speak of, beside `Pieces`.
use Rattle.std.specs.Prelude.{ℕ, List, map, Option}
use Rattle.xc_lex.specs.declared.number.Number.{Number}
use Rattle.xc_lex.specs.declared.token.Token.{Token}
use Rattle.xc_raw.specs.declared.tree.Raw.{Raw}
use Rattle.xc_type_constants.specs.Pieces.{Piece, piece_in}

abbrev pub pieces_in : List ℕ → List Token → List (Option Number) → List Raw → List Piece
pieces_in source ts numbers nodes = map (piece_in source ts numbers) nodes
