use Rattle.std.proofs.Common.{◌≡◌, ◌<◌, ℕ, true, List, [], ◌∷◌, length, Option, Some, None, refl, sym, ap, ◌∙◌, arith}
use Rattle.std.specs.Prelude.{MatchOption, is_some}
use Rattle.std.proofs.lemmas.List.Splits.{length-slice_split}
use Rattle.xc_text_lines.specs.Lines.{is_space, words_of}
use Rattle.xc_sched.specs.Drafts.{count_of}
use Rattle.xc_sched.proofs.draft.count_in.Goals as goal

some_of : {X : Type 0} (o : Option X) (P : Type 0) (Q : X → Type 0) → MatchOption o P Q → is_some o ≡ true → (x : X) × Q x
some_of None P Q h e = absurd cc
some_of (Some x) P Q h e = (x, h)

-- two words are no number of steps
two_words : (a : List ℕ) (bs : List (List ℕ)) → 0 < length bs → None ≡ count_of (a ∷ bs)
two_words a [] h = absurd (omega arith)
two_words a (b ∷ bs) h = refl

some_words : (line : List ℕ) → 0 < length (words_of line)
some_words line = omega (arith, length-slice_split is_space line)

pub returns-then-is_some : goal.returns-then-is_some
returns-then-is_some c =
    let cut = some_of c.cut_word.result _ _ c.cut_word.ensures (sym c.is_some.ensures ∙ c.if-is_some.true) in
    two_words cut.0.0.now (words_of cut.0.1.now) (some_words cut.0.1.now) ∙ sym (ap count_of cut.1)
