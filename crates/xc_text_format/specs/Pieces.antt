-- Formats of printf (C99 7.19.6.1) with the conversions d, i and u, alone or with the lengths l and ll, and %%.
use Rattle.std.specs.Prelude.{ℕ, suc, ◌==◌, ◌||◌, Bool, true, false, List, [], ◌∷◌, ◌++◌, unwrap_or, Option, Some, None, if◌then◌else◌}
use Rattle.std.specs.Option.{option_map}
use Rattle.std.specs.Int.{w64, cast_signed}
use Rattle.std.specs.Fmt.{decimal, signed_decimal}
use Rattle.xc_text_format.specs.declared.Piece.{Piece}
use Rattle.xc_text_format.specs.declared.Piece.TheVariants.{Byte, Signed, Unsigned}
use Rattle.xc_text_format.specs.declared.Reading.{Reading}
use Rattle.xc_text_format.specs.declared.Reading.TheVariants.{Text, Percent, Long, LongLong}
use Rattle.xc_text_format.specs.declared.Step.{Step}
use Rattle.xc_text_format.specs.declared.Step.TheVariants.{Gives, Reads, Wrong}

-- the letter that ends a conversion: d and i print signed, u prints unsigned
abbrev pub ends_in : ℕ → Step
ends_in b = if (b == 100) || (b == 105) then Gives Signed else if b == 117 then Gives Unsigned else Wrong

-- what one more byte makes: 37 is %, 108 is l
abbrev pub step_of : Reading → ℕ → Step
step_of Text b = if b == 37 then Reads Percent else Gives (Byte b)
step_of Percent b = if b == 37 then Gives (Byte b) else if b == 108 then Reads Long else ends_in b
step_of Long b = if b == 108 then Reads LongLong else ends_in b
step_of LongLong b = ends_in b

abbrev pub goes_on : Step → (Reading → Option (List Piece)) → Option (List Piece)
goes_on (Gives p) go = option_map (λ ps. p ∷ ps) (go Text)
goes_on (Reads r) go = go r
goes_on Wrong go = None

abbrev pub ended : Reading → Option (List Piece)
ended Text = Some []
ended Percent = None
ended Long = None
ended LongLong = None

abbrev pub pieces_from : Reading → List ℕ → Option (List Piece)
pieces_from r [] = ended r
pieces_from r (b ∷ bs) = goes_on (step_of r b) (λ r. pieces_from r bs)

-- the pieces of a format; none where it is no format
abbrev pub pieces_of : List ℕ → Option (List Piece)
pieces_of bs = pieces_from Text bs

abbrev pub conversions_of : List Piece → ℕ
conversions_of [] = 0
conversions_of (Byte b ∷ ps) = conversions_of ps
conversions_of (Signed ∷ ps) = suc (conversions_of ps)
conversions_of (Unsigned ∷ ps) = suc (conversions_of ps)

-- a value as decimal digits
abbrev pub value_text : Bool → ℕ → List ℕ
value_text true v = signed_decimal (cast_signed w64 v)
value_text false v = decimal v

-- what the pieces print of these values, each conversion of the next one
abbrev pub printed : List Piece → List ℕ → List ℕ
printed [] vs = []
printed (Byte b ∷ ps) vs = b ∷ printed ps vs
printed (Signed ∷ ps) [] = printed ps []
printed (Signed ∷ ps) (v ∷ vs) = value_text true v ++ printed ps vs
printed (Unsigned ∷ ps) [] = printed ps []
printed (Unsigned ∷ ps) (v ∷ vs) = value_text false v ++ printed ps vs

-- what a format prints of these values
abbrev pub text_of : List ℕ → List ℕ → List ℕ
text_of format values = printed (unwrap_or (pieces_of format) []) values
