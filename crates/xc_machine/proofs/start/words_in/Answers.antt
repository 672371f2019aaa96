use Rattle.std.proofs.Common.{◌≡◌, get_or, ap, ◌∙◌, arith}
use Rattle.std.proofs.lemmas.List.Sums.{sum_by-drop_more}
use Rattle.xc_isa.specs.Texts.{size_of}
use Rattle.xc_machine.proofs.Globals.{few_words}
use Rattle.xc_machine.proofs.start.words_in.Goals as goal

pub overflow_add-words : goal.overflow_add-words
overflow_add-words c =
    let gs = c.args.globals.now in
    let next = sum_by-drop_more size_of gs c.loop-global.global-index c.global-item.result c.loop-global-test.true in
    let here : c.size-words.result ≡ size_of (c.global-item.result) = c.size-words.ensures ∙ ap size_of c.as_slice.ensures in
    let is : size_of c.global-item.result ≡ size_of (get_or gs c.loop-global.global-index c.global-item.result) = ap size_of c.global-item.is in
    let bound = few_words gs c.requires.each in
    let sum = c.loop-global.invariant in
    let few = c.requires.few in
    omega (arith, next, here, is, bound, sum, few)
