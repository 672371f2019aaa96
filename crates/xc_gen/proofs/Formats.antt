-- The two readings of a format are one: how many integers it takes, and its pieces.
use Rattle.std.proofs.Common.{◌≡◌, ℕ, suc, ◌+◌, List, [], ◌∷◌, Option, Some, None, Bool, true, false, cond, refl, ap, ◌∙◌, arith}
use Rattle.std.specs.Prelude.{◌==◌, ◌||◌}
use Rattle.std.specs.Option.{option_map}
use Rattle.xc_text_format.specs.declared.Piece.{Piece}
use Rattle.xc_text_format.specs.declared.Piece.TheVariants.{Byte, Signed, Unsigned}
use Rattle.xc_text_format.specs.declared.Reading.{Reading}
use Rattle.xc_text_format.specs.declared.Reading.TheVariants.{Text, Percent, Long, LongLong}
use Rattle.xc_text_format.specs.declared.Step.TheVariants.{Gives, Reads, Wrong}
use Rattle.xc_text_format.specs.Pieces.{ends_in, goes_on, pieces_from, pieces_of, conversions_of}
use Rattle.xc_tree.specs.Formats.{Mode, text, percent, long, long_long, is_letter, taken_from, integers_taken}

abbrev count : Option (List Piece) → Option ℕ
count o = option_map conversions_of o

abbrev one_more : Option ℕ → Option ℕ
one_more o = option_map (λ n. n + 1) o

count_byte : (c : ℕ) (o : Option (List Piece)) → count o ≡ count (option_map (λ ps. Byte c ∷ ps) o)
count_byte c None = refl
count_byte c (Some ps) = refl

count_signed : (o : Option (List Piece)) → one_more (count o) ≡ count (option_map (λ ps. Signed ∷ ps) o)
count_signed None = refl
count_signed (Some ps) = let e : conversions_of ps + 1 ≡ suc (conversions_of ps) = omega arith in ap Some e

count_unsigned : (o : Option (List Piece)) → one_more (count o) ≡ count (option_map (λ ps. Unsigned ∷ ps) o)
count_unsigned None = refl
count_unsigned (Some ps) = let e : conversions_of ps + 1 ≡ suc (conversions_of ps) = omega arith in ap Some e

-- the letter that ends a conversion, by what the byte is
letter : (d i u : Bool) (cs : List ℕ) (o : Option ℕ) → o ≡ count (pieces_from Text cs) → cond (d || (i || (u || false))) (one_more o) None ≡ count (goes_on (cond (d || i) (Gives Signed) (cond u (Gives Unsigned) Wrong)) (λ r. pieces_from r cs))
letter true i u cs o e = ap one_more e ∙ count_signed (pieces_from Text cs)
letter false true u cs o e = ap one_more e ∙ count_signed (pieces_from Text cs)
letter false false true cs o e = ap one_more e ∙ count_unsigned (pieces_from Text cs)
letter false false false cs o e = refl

abbrev reading_of : Mode → Reading
reading_of text = Text
reading_of percent = Percent
reading_of long = Long
reading_of long_long = LongLong

abbrev Agree : Mode → List ℕ → Type 0
Agree m cs = taken_from m cs ≡ count (pieces_from (reading_of m) cs)

at_text : (c : ℕ) (cs : List ℕ) (b : Bool) → Agree percent cs → Agree text cs → taken_from (cond b percent text) cs ≡ count (goes_on (cond b (Reads Percent) (Gives (Byte c))) (λ r. pieces_from r cs))
at_text c cs true p t = p
at_text c cs false p t = t ∙ count_byte c (pieces_from Text cs)

at_percent : (c : ℕ) (cs : List ℕ) (b l : Bool) → Agree long cs → Agree text cs → cond b (taken_from text cs) (cond l (taken_from long cs) (cond (is_letter c) (one_more (taken_from text cs)) None))
    ≡ count (goes_on (cond b (Gives (Byte c)) (cond l (Reads Long) (ends_in c))) (λ r. pieces_from r cs))
at_percent c cs true l p t = t ∙ count_byte c (pieces_from Text cs)
at_percent c cs false true p t = p
at_percent c cs false false p t = letter (c == 100) (c == 105) (c == 117) cs (taken_from text cs) t

at_long : (c : ℕ) (cs : List ℕ) (l : Bool) → Agree long_long cs → Agree text cs → cond l (taken_from long_long cs) (cond (is_letter c) (one_more (taken_from text cs)) None) ≡ count (goes_on (cond l (Reads LongLong) (ends_in c)) (λ r. pieces_from r cs))
at_long c cs true p t = p
at_long c cs false p t = letter (c == 100) (c == 105) (c == 117) cs (taken_from text cs) t

agree : (m : Mode) (cs : List ℕ) → Agree m cs
unfolding taken_from
agree text [] = refl
agree percent [] = refl
agree long [] = refl
agree long_long [] = refl
agree text (c ∷ cs) = at_text c cs (c == 37) (agree percent cs) (agree text cs)
agree percent (c ∷ cs) = at_percent c cs (c == 37) (c == 108) (agree long cs) (agree text cs)
agree long (c ∷ cs) = at_long c cs (c == 108) (agree long_long cs) (agree text cs)
agree long_long (c ∷ cs) = letter (c == 100) (c == 105) (c == 117) cs (taken_from text cs) (agree text cs)

pub formats_agree : (bytes : List ℕ) → integers_taken bytes ≡ option_map conversions_of (pieces_of bytes)
formats_agree bytes = agree text bytes
