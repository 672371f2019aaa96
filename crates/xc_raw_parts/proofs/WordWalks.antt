-- Words, walked by an index.
use Rattle.std.proofs.Common.{◌≡◌, ℕ, suc, ◌+◌, ◌<◌, List, [], ◌∷◌, ◌++◌, length, get_or, drop, true, false, refl, sym, ap, ◌∙◌, add-one, slice_range, append_assoc, if◌then◌else◌}
use Rattle.std.proofs.Math.Seq.{drop-cons}
use Rattle.std.proofs.lemmas.Grind.{common_steps}
use Rattle.xc_lex.specs.declared.token.Token.{Token}
use Rattle.xc_raw.specs.declared.tree.Raw.{Raw, out-Raw}
use Rattle.xc_raw.specs.declared.tree.Raw.TheViews as views
use Rattle.xc_raw.specs.declared.word.Word.{Word}
use Rattle.xc_raw.specs.declared.word.Word.TheVariants as word
use Rattle.xc_raw_parts.specs.Words.{word_in, words_in, words_around, is_of_stars, leading}

pub around_none : (source : List ℕ) (ts : List Token) (at end : ℕ) → words_around source ts at end [] ≡ words_in source (slice_range ts at end)
unfolding words_around
around_none source ts at end = refl

-- the words so far, those up to the next struct, its keyword, and those behind it
pub around_one : (source : List ℕ) (ts : List Token) (done : List Word) (at end : ℕ) (ps : List Raw) (i : ℕ) (d : Raw) → i < length ps →
    ((done ++ words_in source (slice_range ts at (out-Raw (get_or ps i d)).first)) ++ word.Struct ∷ []) ++ words_around source ts (out-Raw (get_or ps i d)).end end (drop (i + 1) ps)
    ≡ done ++ words_around source ts at end (drop i ps)
unfolding words_around
around_one source ts done at end ps i d lt =
    let p = out-Raw (get_or ps i d) in
    let here = words_in source (slice_range ts at p.first) in
    let rest = words_around source ts p.end end (drop (suc i) ps) in
    rw add-one (append_assoc (done ++ here) (word.Struct ∷ []) rest ∙ append_assoc done here (word.Struct ∷ rest)
    ∙ sym (ap (λ l. done ++ words_around source ts at end l) (drop-cons ps i d lt)))

pub leading_none : leading [] ≡ []
unfolding leading
leading_none = refl

pub leading_one : (source : List ℕ) (done : List Word) (ts : List Token) (i : ℕ) (d : Token) → i < length ts → is_of_stars (word_in source (get_or ts i d)) ≡ true →
    (done ++ word_in source (get_or ts i d) ∷ []) ++ leading (words_in source (drop (i + 1) ts)) ≡ done ++ leading (words_in source (drop i ts))
unfolding leading
leading_one source done ts i d lt e =
    let w = word_in source (get_or ts i d) in
    let rest = leading (words_in source (drop (suc i) ts)) in
    rw add-one (append_assoc done (w ∷ []) rest
    ∙ sym (ap (λ l. done ++ leading (words_in source l)) (drop-cons ts i d lt) ∙ ap (λ b. done ++ (if b then w ∷ rest else [])) e))

pub leading_end : (source : List ℕ) (ts : List Token) (i : ℕ) (d : Token) → i < length ts → is_of_stars (word_in source (get_or ts i d)) ≡ false →
    leading (words_in source (drop i ts)) ≡ []
unfolding leading
leading_end source ts i d lt e =
    let w = word_in source (get_or ts i d) in
    let rest = leading (words_in source (drop (suc i) ts)) in
    ap (λ l. leading (words_in source l)) (drop-cons ts i d lt) ∙ ap (λ b. if b then w ∷ rest else []) e

pub ruleset walk_rules = (common_steps, views.the_lemmas, around_none, around_one, leading_none, leading_one, leading_end)
