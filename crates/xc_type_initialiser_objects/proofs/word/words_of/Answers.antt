use Rattle.std.proofs.Common.{ap, ◌∙◌, sym, ◌+◌, drop}
use Rattle.xc_type_initialiser_objects.specs.Words.{init_word}
use Rattle.xc_type_initialiser_objects.proofs.Words.{with_words, words_next, words_stop}
use Rattle.xc_type_initialiser_objects.proofs.word.words_of.Goals as goal

pub returns-in-None : goal.returns-in-None
returns-in-None c =
    let none = ap init_word (sym c.init-item.is) ∙ sym c.init_word.ensures ∙ c.in-None.is in
    sym (words_stop c.inits.words c.args.inits.now c.inits.init-index c.init-item.result c.inits-test.true none) ∙ c.inits.invariant

pub inits-preserved : goal.inits-preserved
inits-preserved c =
    let one = ap init_word (sym c.init-item.is) ∙ sym c.init_word.ensures ∙ c.in-Some.is in
    ap (λ ws. with_words ws (drop (c.inits.init-index + 1) c.args.inits.now)) c.in_ok-push-in-Some.ensures.ok
    ∙ words_next c.inits.words c.args.inits.now c.inits.init-index c.init-item.result _ c.inits-test.true one
    ∙ c.inits.invariant
