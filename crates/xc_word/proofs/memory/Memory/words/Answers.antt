use Rattle.std.proofs.Common.{◌≡◌, length, ◌∙◌, [], sym, ap, arith}
use Rattle.std.specs.Prelude.{unwrap_or}
use Rattle.xc_word.specs.Total.{words_of}
use Rattle.xc_word.proofs.Seen.{get_now, items_at}
use Rattle.xc_word.proofs.memory.Memory.words.Goals as goal

pub returns-in-Some : goal.returns-in-Some
returns-in-Some c =
    let same : words_of c.args.self.now c.args.seg ≡ length c.in-Some.cells.now.items = ap (λ o. length (unwrap_or o [])) (get_now c.self.inside.segments c.args.self.now c.self.view_is c.args.seg ∙ ap items_at (sym c.in-Some.ensures.value)) in
    let is = c.len.ensures in
    omega (arith, same, is)

pub returns-in-None : goal.returns-in-None
returns-in-None c = sym (ap (λ o. length (unwrap_or o [])) (get_now c.self.inside.segments c.args.self.now c.self.view_is c.args.seg ∙ ap items_at (sym c.in-None.ensures.value)))
