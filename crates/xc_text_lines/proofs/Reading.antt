-- Reading goes on by one line.
use Rattle.std.proofs.Common.{◌≡◌, ℕ, ◌+◌, ◌<◌, ◌≤◌, inl, inr, not, ◌||◌, Bool, true, false, cond, ltb, List, [], ◌∷◌, length, take, drop, Option, Some, None, Result, Err, refl, sym, ap, subst, ◌∙◌, arith}
use Rattle.std.specs.Prelude.{position}
use Rattle.std.specs.List.{onto_first, position_or_len, prefix_len, slice_split}
use Rattle.std.proofs.lemmas.Bool.{ltb-true, lt-ltb, cases_lt}
use Rattle.std.proofs.lemmas.Option.{cond_some, none-some}
use Rattle.std.proofs.lemmas.List.{length-drop}
use Rattle.std.proofs.lemmas.List.Splits.{slice_split_first, slice_split-cons_no, length-slice_split}
use Rattle.xc_text_lines.specs.Lines.{is_feed, pieces, at_option, read_pieces}
use Rattle.xc_text_lines.specs.InnerLines.{CutsLine}

pub neither : (b t : Bool) → (b || t) ≡ false → (b ≡ false) × (t ≡ false)
neither true t e = absurd cc
neither false t e = (refl, e)

-- reading goes on behind a line that fits
pub read_on : {S : Type 0} (next : S → List ℕ → Option S) (whole : S → Bool) (s : S) (k : ℕ) (piece : List ℕ) (others : List (List ℕ)) → 0 < length others
    → read_pieces next whole s k (piece ∷ others) ≡ at_option (next s piece) (Err k) (λ t. read_pieces next whole t (k + 1) others)
read_on next whole s k piece [] h = absurd (omega arith)
read_on next whole s k piece (other ∷ others) h = refl

cut_at : (text : List ℕ) (at : ℕ) → at < length text → pieces text ≡ take at text ∷ pieces (drop (at + 1) text) → CutsLine text (take at text) (drop (at + 1) text)
cut_at text at within e = record {
  shorter = omega (arith, length-drop (at + 1) text);
  parts = e;
  count = omega (arith, length-slice_split is_feed text, length-slice_split is_feed (drop (at + 1) text), ap length e);
}

pub some_pieces : (text : List ℕ) → 0 < length (pieces text)
some_pieces text = omega (arith, length-slice_split is_feed text)

none_step : (p : ℕ → Bool) (b : ℕ) (bs : List ℕ) (t : Bool) → p b ≡ t → length (b ∷ bs) ≤ cond (not t) (1 + prefix_len (λ x. not (p x)) bs) 0
    → (length bs ≤ prefix_len (λ x. not (p x)) bs → slice_split p bs ≡ bs ∷ []) → slice_split p (b ∷ bs) ≡ (b ∷ bs) ∷ []
none_step p b bs true e h before = absurd (omega arith)
none_step p b bs false e h before = slice_split-cons_no p b bs e ∙ ap (onto_first b) (before (omega arith))

none_in : (p : ℕ → Bool) (text : List ℕ) → length text ≤ prefix_len (λ b. not (p b)) text → slice_split p text ≡ text ∷ []
none_in p [] h = refl
none_in p (b ∷ bs) h = none_step p b bs (p b) refl h (none_in p bs)

-- a list that is not cut
pub uncut : (p : ℕ → Bool) (text : List ℕ) → position p text ≡ None → slice_split p text ≡ text ∷ []
uncut p text e =
    elim (cases_lt (position_or_len p text) (length text)) [
      | inl lt ↦ absurd (none-some (position_or_len p text) (sym e ∙ rw (lt-ltb _ _ lt) refl))
      | inr le ↦ none_in p text le
    ]

-- the first part of a list that is cut, and the rest
pub cut_first : (p : ℕ → Bool) (text : List ℕ) (at : ℕ) → position p text ≡ Some at → slice_split p text ≡ take at text ∷ slice_split p (drop (at + 1) text)
cut_first p text at e =
    let found = cond_some (ltb (position_or_len p text) (length text)) (position_or_len p text) at e in
    let within : position_or_len p text < length text = ltb-true _ _ found.0 in
    subst (λ n. slice_split p text ≡ take n text ∷ slice_split p (drop (n + 1) text)) found.1 (slice_split_first p text 0 within)

-- the first line of a text
pub cuts : (text : List ℕ) (at : ℕ) → position is_feed text ≡ Some at → (at < length text) × CutsLine text (take at text) (drop (at + 1) text)
cuts text at e =
    let found = cond_some (ltb (position_or_len is_feed text) (length text)) (position_or_len is_feed text) at e in
    let within : at < length text = subst (λ n. n < length text) found.1 (ltb-true _ _ found.0) in
    (within, cut_at text at within (cut_first is_feed text at e))

module _ {S : Type 0} (next : S → List ℕ → Option S) (whole : S → Bool) where
  one_line : (s : S) (k : ℕ) (rest line after : List ℕ) (o : Option S) → CutsLine rest line after → next s line ≡ o
      → read_pieces next whole s k (pieces rest) ≡ at_option o (Err k) (λ t. read_pieces next whole t (k + 1) (pieces after))
  one_line s k rest line after o cut e =
      ap (read_pieces next whole s k) cut.parts ∙ read_on next whole s k line (pieces after) (some_pieces after)
      ∙ ap (λ (x : Option S). at_option x (Err k) (λ t. read_pieces next whole t (k + 1) (pieces after))) e

  pub stops : (s : S) (k : ℕ) (rest line after : List ℕ) (read : Result S ℕ) → CutsLine rest line after → next s line ≡ None → read_pieces next whole s k (pieces rest) ≡ read → read ≡ Err k
  stops s k rest line after read cut e so_far = sym so_far ∙ one_line s k rest line after None cut e

  pub goes_on : (s t : S) (k : ℕ) (rest line after : List ℕ) (read : Result S ℕ) → CutsLine rest line after → next s line ≡ Some t → read_pieces next whole s k (pieces rest) ≡ read → read_pieces next whole t (k + 1) (pieces after) ≡ read
  goes_on s t k rest line after read cut e so_far = sym (one_line s k rest line after (Some t) cut e) ∙ so_far
