-- Reading on by one piece.
use Rattle.std.proofs.Common.{◌≡◌, ◌≤◌, ◌<◌, ℕ, zero, suc, ◌+◌, ◌-◌, List, [], ◌∷◌, ◌++◌, length, drop, slice_range, refl, sym, ap, ◌∙◌, arith, length-drop}
use Rattle.std.proofs.lemmas.Grind.{common_steps}
use Rattle.std.proofs.lemmas.List.{take_rest}
use Rattle.xc_lex.specs.declared.token.Token.{Token}
use Rattle.xc_lex.specs.declared.token.TokenKind.{TokenKind}
use Rattle.xc_lex.specs.declared.front.Front.{Front}
use Rattle.xc_lex.specs.declared.front.Front.TheVariants.{End, LineEnd, Blank, Whole, Hash, Bad}
use Rattle.xc_lex.specs.Front.{front_of}
use Rattle.xc_lex.specs.Lines.{Words, token_of, words_by, words_from, blanks_by, blanks_from}

drop-drop_at : (n at : ℕ) (source : List ℕ) → drop n (drop at source) ≡ drop (at + n) source
drop-drop_at n at source = grind (arith, common_steps)

-- bytes of what was read last
words_skip : (n at : ℕ) (found : List Token) (bs : List ℕ) → n ≤ length bs → words_from n at found bs ≡ words_from 0 (at + n) found (drop n bs)
words_skip zero at found bs h = let e : at ≡ at + 0 = omega arith in ap (λ k. words_from 0 k found bs) e
words_skip (suc n) at found [] h = absurd (omega arith)
words_skip (suc n) at found (b ∷ bs) h = let e : at + 1 + n ≡ at + suc n = omega arith in words_skip n (at + 1) found bs (omega arith) ∙ ap (λ k. words_from 0 k found (drop n bs)) e

blanks_skip : (front : List ℕ → Front) (n at : ℕ) (bs : List ℕ) → n ≤ length bs → blanks_from front n at bs ≡ blanks_from front 0 (at + n) (drop n bs)
blanks_skip front zero at bs h = let e : at ≡ at + 0 = omega arith in ap (λ k. blanks_from front 0 k bs) e
blanks_skip front (suc n) at [] h = absurd (omega arith)
blanks_skip front (suc n) at (b ∷ bs) h = let e : at + 1 + n ≡ at + suc n = omega arith in blanks_skip front n (at + 1) bs (omega arith) ∙ ap (λ k. blanks_from front 0 k (drop n bs)) e

words_suc : (n at : ℕ) (found : List Token) (b : ℕ) (bs : List ℕ) → 0 < n → words_from (n - 1) (at + 1) found bs ≡ words_from n at found (b ∷ bs)
words_suc zero at found b bs h = absurd (omega arith)
words_suc (suc n) at found b bs h = let e : suc n - 1 ≡ n = omega arith in ap (λ k. words_from k (at + 1) found bs) e

blanks_suc : (front : List ℕ → Front) (n at : ℕ) (b : ℕ) (bs : List ℕ) → 0 < n → blanks_from front (n - 1) (at + 1) bs ≡ blanks_from front n at (b ∷ bs)
blanks_suc front zero at b bs h = absurd (omega arith)
blanks_suc front (suc n) at b bs h = let e : suc n - 1 ≡ n = omega arith in ap (λ k. blanks_from front k (at + 1) bs) e

-- a blank is passed
words_blank : (at : ℕ) (found : List Token) (bs : List ℕ) (n : ℕ) → front_of bs ≡ Blank n → 0 < n → n ≤ length bs → words_from 0 at found bs ≡ words_from 0 (at + n) found (drop n bs)
words_blank at found [] n f some h = absurd (cc)
words_blank at found (b ∷ bs) n f some h =
    ap (λ v. words_by v at found (λ skip found. words_from skip (at + 1) found bs)) f ∙ words_suc n at found b bs some ∙ words_skip n at found (b ∷ bs) h

-- a token is found
words_whole : (at : ℕ) (found : List Token) (bs : List ℕ) (kind : TokenKind) (n : ℕ) → front_of bs ≡ Whole kind n → 0 < n → n ≤ length bs
    → words_from 0 at found bs ≡ words_from 0 (at + n) (found ++ token_of kind at (at + n) ∷ []) (drop n bs)
words_whole at found [] kind n f some h = absurd (cc)
words_whole at found (b ∷ bs) kind n f some h =
    ap (λ v. words_by v at found (λ skip found. words_from skip (at + 1) found bs)) f ∙ words_suc n at (found ++ token_of kind at (at + n) ∷ []) b bs some ∙ words_skip n at (found ++ token_of kind at (at + n) ∷ []) (b ∷ bs) h

-- neither stands there
stops_by : (v : Front) (at : ℕ) (found : List Token) (more : ℕ → List Token → Words) → ((n : ℕ) → v ≡ Blank n → ⊥) → ((kind : TokenKind) (n : ℕ) → v ≡ Whole kind n → ⊥) → words_by v at found more ≡ record { found = found; stop = at; front = v }
stops_by (Blank n) at found more no_blank no_whole = absurd (no_blank n refl)
stops_by (Whole kind n) at found more no_blank no_whole = absurd (no_whole kind n refl)
stops_by End at found more no_blank no_whole = refl
stops_by LineEnd at found more no_blank no_whole = refl
stops_by Hash at found more no_blank no_whole = refl
stops_by Bad at found more no_blank no_whole = refl

pub words_stop : (at : ℕ) (found : List Token) (bs : List ℕ) → ((n : ℕ) → front_of bs ≡ Blank n → ⊥) → ((kind : TokenKind) (n : ℕ) → front_of bs ≡ Whole kind n → ⊥) → words_from 0 at found bs ≡ record { found = found; stop = at; front = front_of bs }
words_stop at found [] no_blank no_whole = refl
words_stop at found (b ∷ bs) no_blank no_whole = stops_by (front_of (b ∷ bs)) at found (λ skip found. words_from skip (at + 1) found bs) no_blank no_whole

blanks_blank : (front : List ℕ → Front) (at : ℕ) (bs : List ℕ) (n : ℕ) → front bs ≡ Blank n → 0 < n → n ≤ length bs → blanks_from front 0 at bs ≡ blanks_from front 0 (at + n) (drop n bs)
blanks_blank front at [] n f some h = absurd (omega arith)
blanks_blank front at (b ∷ bs) n f some h = ap (λ v. blanks_by v at (λ skip. blanks_from front skip (at + 1) bs)) f ∙ blanks_suc front n at b bs some ∙ blanks_skip front n at (b ∷ bs) h

blanks_end : (v : Front) (at : ℕ) (more : ℕ → ℕ) → ((n : ℕ) → v ≡ Blank n → ⊥) → blanks_by v at more ≡ at
blanks_end (Blank n) at more no_blank = absurd (no_blank n refl)
blanks_end (Whole kind n) at more no_blank = refl
blanks_end End at more no_blank = refl
blanks_end LineEnd at more no_blank = refl
blanks_end Hash at more no_blank = refl
blanks_end Bad at more no_blank = refl

pub blanks_stop : (front : List ℕ → Front) (at : ℕ) (bs : List ℕ) → ((n : ℕ) → front bs ≡ Blank n → ⊥) → blanks_from front 0 at bs ≡ at
blanks_stop front at [] no_blank = refl
blanks_stop front at (b ∷ bs) no_blank = blanks_end (front (b ∷ bs)) at (λ skip. blanks_from front skip (at + 1) bs) no_blank

-- what stands at a place of a source, and how far it goes
pub record StandsAt (front : List ℕ → Front) (source : List ℕ) (at n : ℕ) (v : Front) : Type 0 where
  pub here : front (drop at source) ≡ v
  pub fits : n ≤ length (drop at source)
  pub within : at + n ≤ length source

pub stands_at : (front : List ℕ → Front) (source : List ℕ) (at n : ℕ) (v : Front) → at ≤ length source → v ≡ front (slice_range source at (length source)) → n ≤ length (slice_range source at (length source)) → StandsAt front source at n v
stands_at front source at n v inside value moves =
    let whole = take_rest source at in
    let size = ap length whole in
    let rest = length-drop at source in
    record { here = ap front (sym whole) ∙ sym value; fits = omega (arith, size, moves); within = omega (arith, size, rest, moves, inside) }

-- the same within a source
pub words_blank_at : (source : List ℕ) (at : ℕ) (found : List Token) (n : ℕ) → front_of (drop at source) ≡ Blank n → 0 < n → n ≤ length (drop at source) → words_from 0 at found (drop at source) ≡ words_from 0 (at + n) found (drop (at + n) source)
words_blank_at source at found n f some h = words_blank at found (drop at source) n f some h ∙ ap (λ bs. words_from 0 (at + n) found bs) (drop-drop_at n at source)

pub words_whole_at : (source : List ℕ) (at : ℕ) (found : List Token) (kind : TokenKind) (n : ℕ) → front_of (drop at source) ≡ Whole kind n → 0 < n → n ≤ length (drop at source)
    → words_from 0 at found (drop at source) ≡ words_from 0 (at + n) (found ++ token_of kind at (at + n) ∷ []) (drop (at + n) source)
words_whole_at source at found kind n f some h = words_whole at found (drop at source) kind n f some h ∙ ap (λ bs. words_from 0 (at + n) (found ++ token_of kind at (at + n) ∷ []) bs) (drop-drop_at n at source)

pub blanks_blank_at : (front : List ℕ → Front) (source : List ℕ) (at n : ℕ) → front (drop at source) ≡ Blank n → 0 < n → n ≤ length (drop at source) → blanks_from front 0 at (drop at source) ≡ blanks_from front 0 (at + n) (drop (at + n) source)
blanks_blank_at front source at n f some h = blanks_blank front at (drop at source) n f some h ∙ ap (λ bs. blanks_from front 0 (at + n) bs) (drop-drop_at n at source)
