-- The texts that print are the texts that take integers, as many as they print.
use Rattle.std.proofs.Common.{◌≡◌, ℕ, ◌+◌, List, [], ◌∷◌, Bool, true, false, refl, sym, ap, ◌∙◌, add-one}
use Rattle.std.specs.Prelude.{◌==◌, ◌||◌, if◌then◌else◌, Option, Some, None}
use Rattle.std.specs.Option.{option_map}
use Rattle.std.proofs.lemmas.Grind.{common_steps}
use Rattle.xc_text_format.specs.declared.Piece.{Piece}
use Rattle.xc_text_format.specs.declared.Piece.TheVariants.{Byte, Signed, Unsigned}
use Rattle.xc_text_format.specs.declared.Reading.{Reading}
use Rattle.xc_text_format.specs.declared.Reading.TheVariants.{Text, Percent, Long, LongLong}
use Rattle.xc_text_format.specs.declared.Step.TheVariants.{Gives, Reads, Wrong}
use Rattle.xc_text_format.specs.Pieces.{conversions_of, pieces_of, pieces_from, goes_on}
use Rattle.xc_tree.specs.Formats.{Mode, text, percent, long, long_long, taken_from, integers_taken}

abbrev mode : Reading → Mode
mode Text = text
mode Percent = percent
mode Long = long
mode LongLong = long_long

abbrev counted : Option (List Piece) → Option ℕ
counted o = option_map conversions_of o

byte_counts : (b : ℕ) (o : Option (List Piece)) → counted (option_map (λ ps. Byte b ∷ ps) o) ≡ counted o
byte_counts b None = refl
byte_counts b (Some ps) = refl

signed_counts : (o : Option (List Piece)) → counted (option_map (λ ps. Signed ∷ ps) o) ≡ option_map (λ n. n + 1) (counted o)
signed_counts None = refl
signed_counts (Some ps) = ap Some (sym (add-one (conversions_of ps)))

unsigned_counts : (o : Option (List Piece)) → counted (option_map (λ ps. Unsigned ∷ ps) o) ≡ option_map (λ n. n + 1) (counted o)
unsigned_counts None = refl
unsigned_counts (Some ps) = ap Some (sym (add-one (conversions_of ps)))

-- one more byte, whatever the others do
module _ (f : Reading → Option (List Piece)) (g : Mode → Option ℕ) (agree : (r : Reading) → counted (f r) ≡ g (mode r)) where
  byte_at : (b : ℕ) → counted (goes_on (Gives (Byte b)) f) ≡ g text
  byte_at b = byte_counts b (f Text) ∙ agree Text

  in_text : (b : ℕ) (p : Bool) → counted (goes_on (if p then Reads Percent else Gives (Byte b)) f) ≡ g (if p then percent else text)
  in_text b true = agree Percent
  in_text b false = byte_at b

  letters : (d i u : Bool) → counted (goes_on (if d || i then Gives Signed else if u then Gives Unsigned else Wrong) f)
      ≡ (if d || (i || (u || false)) then option_map (λ n. n + 1) (g text) else None)
  letters true i u = signed_counts (f Text) ∙ ap (option_map (λ n. n + 1)) (agree Text)
  letters false true u = signed_counts (f Text) ∙ ap (option_map (λ n. n + 1)) (agree Text)
  letters false false true = unsigned_counts (f Text) ∙ ap (option_map (λ n. n + 1)) (agree Text)
  letters false false false = refl

  in_long : (l d i u : Bool) → counted (goes_on (if l then Reads LongLong else if d || i then Gives Signed else if u then Gives Unsigned else Wrong) f)
      ≡ (if l then g long_long else (if d || (i || (u || false)) then option_map (λ n. n + 1) (g text) else None))
  in_long true d i u = agree LongLong
  in_long false d i u = letters d i u

  in_percent : (b : ℕ) (p l d i u : Bool) →
      counted (goes_on (if p then Gives (Byte b) else if l then Reads Long else if d || i then Gives Signed else if u then Gives Unsigned else Wrong) f)
      ≡ (if p then g text else (if l then g long else (if d || (i || (u || false)) then option_map (λ n. n + 1) (g text) else None)))
  in_percent b true l d i u = byte_at b
  in_percent b false true d i u = agree Long
  in_percent b false false d i u = letters d i u

counts_agree : (bs : List ℕ) (r : Reading) → counted (pieces_from r bs) ≡ taken_from (mode r) bs
unfolding taken_from
counts_agree [] Text = refl
counts_agree [] Percent = refl
counts_agree [] Long = refl
counts_agree [] LongLong = refl
counts_agree (b ∷ bs) Text = in_text (λ r. pieces_from r bs) (λ m. taken_from m bs) (counts_agree bs) b (b == 37)
counts_agree (b ∷ bs) Percent = in_percent (λ r. pieces_from r bs) (λ m. taken_from m bs) (counts_agree bs) b (b == 37) (b == 108) (b == 100) (b == 105) (b == 117)
counts_agree (b ∷ bs) Long = in_long (λ r. pieces_from r bs) (λ m. taken_from m bs) (counts_agree bs) (b == 108) (b == 100) (b == 105) (b == 117)
counts_agree (b ∷ bs) LongLong = letters (λ r. pieces_from r bs) (λ m. taken_from m bs) (counts_agree bs) (b == 100) (b == 105) (b == 117)

pub integers_agree : (bs : List ℕ) → option_map conversions_of (pieces_of bs) ≡ integers_taken bs
integers_agree bs = counts_agree bs Text

pub ruleset format_rules = (common_steps, integers_agree)
