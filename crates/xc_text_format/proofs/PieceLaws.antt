-- What a loop over the bytes of a format keeps.
use Rattle.std.proofs.Common.{◌≡◌, ℕ, ◌+◌, List, [], ◌++◌, Option, true}
use Rattle.std.specs.Prelude.{is_some, unwrap_or}
use Rattle.std.specs.Option.{option_map}
use Rattle.xc_text_format.specs.declared.Reading.{Reading}
use Rattle.xc_text_format.specs.Pieces.{pieces_from, conversions_of, printed}

-- n conversions, and those that are left
abbrev pub counted : ℕ → Reading → List ℕ → Option ℕ
counted n r bs = option_map (λ ps. n + conversions_of ps) (pieces_from r bs)

-- the bytes that are left are pieces, and print the rest of the whole text
pub record Prints (before whole : List ℕ) (r : Reading) (bs vs : List ℕ) : Type 0 where
  pub valid : is_some (pieces_from r bs) ≡ true
  pub text : before ++ printed (unwrap_or (pieces_from r bs) []) vs ≡ whole
