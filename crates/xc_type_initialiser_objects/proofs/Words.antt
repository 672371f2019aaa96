-- The words of initialisers, one after another.
use Rattle.std.proofs.Common.{◌≡◌, ℕ, ◌+◌, ◌<◌, List, [], ◌∷◌, ◌++◌, length, get_or, drop, refl, sym, ap, ◌∙◌, append_assoc}
use Rattle.std.specs.Prelude.{Option, Some, None, option_map}
use Rattle.std.proofs.lemmas.List.{append-nil, drop_more}
use Rattle.std.proofs.lemmas.Grind.{common_steps}
use Rattle.xc_tree.specs.declared.expr.Expr.{Expr}
use Rattle.xc_type_rule.specs.Making.{both}
use Rattle.xc_type_initialiser_objects.specs.Words.{init_word, words_of}

abbrev Word : Type 0
Word = ℕ × ℕ

abbrev Init : Type 0
Init = ℕ × Expr

-- these words, and then those of the initialisers
unfoldable pub with_words : List Word → List Init → Option (List Word)
with_words ws is = option_map (λ more. ws ++ more) (words_of is)

pub words_done : (ws : List Word) → with_words ws [] ≡ Some ws
unfolding with_words words_of
words_done ws = ap Some (append-nil ws)

pub words_all : (is : List Init) → with_words [] is ≡ words_of is
unfolding with_words
words_all is = by (words_of is)
  where
    by : (r : Option (List Word)) → option_map (λ more. [] ++ more) r ≡ r
    by None = refl
    by (Some ws) = refl

one_with : (ws : List Word) (w : Word) (r : Option (List Word)) →
    option_map (λ more. (ws ++ w ∷ []) ++ more) r ≡ option_map (λ more. ws ++ more) (both (λ v vs. v ∷ vs) (Some w) r)
unfolding both
one_with ws w None = refl
one_with ws w (Some more) = ap Some (append_assoc ws (w ∷ []) more)

-- the next initialiser has a word
pub words_next : (ws : List Word) (is : List Init) (k : ℕ) (i : Init) (w : Word) → k < length is → init_word (get_or is k i) ≡ Some w →
    with_words (ws ++ w ∷ []) (drop (k + 1) is) ≡ with_words ws (drop k is)
unfolding with_words words_of
words_next ws is k i w lt e =
    one_with ws w (words_of (drop (k + 1) is))
    ∙ ap (λ v. option_map (λ more. ws ++ more) (both (λ v vs. v ∷ vs) v (words_of (drop (k + 1) is)))) (sym e)
    ∙ ap (λ js. option_map (λ more. ws ++ more) (words_of js)) (sym (drop_more is k i lt))

-- the next one has none
pub words_stop : (ws : List Word) (is : List Init) (k : ℕ) (i : Init) → k < length is → init_word (get_or is k i) ≡ None →
    with_words ws (drop k is) ≡ None
unfolding with_words words_of both
words_stop ws is k i lt e =
    ap (λ js. option_map (λ more. ws ++ more) (words_of js)) (drop_more is k i lt)
    ∙ ap (λ v. option_map (λ more. ws ++ more) (both (λ v vs. v ∷ vs) v (words_of (drop (k + 1) is)))) e

pub ruleset word_rules = (common_steps, words_done, words_all)
