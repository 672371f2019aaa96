use Rattle.std.proofs.Common.{rules, refl, sym, ap, ◌∙◌, arith}
use Rattle.xc_meaning_world.specs.World.{Got}
use Rattle.xc_machine.specs.Shows.{world_in}
use Rattle.std.specs.Prelude.{Some}
use Rattle.xc_machine.proofs.Shown.{free_served}
use Rattle.xc_machine.proofs.WordCounts.{freed_count, freed_beyond}
use Rattle.xc_machine.proofs.store.Store.free.Goals as goal

pub overflow_sub-self : goal.overflow_sub-self
overflow_sub-self c =
    let s = c.args.self.now in
    let count = freed_count s.memory c.free.new.self c.args.seg s.last s.live c.free.ensures.removed s.none_beyond (λ e. absurd (c.if-words-eq0.false (c.words-words.ensures ∙ e))) s.counted in
    let is = c.words-words.ensures in
    omega (arith, count, is)

pub invariant_of-self : goal.invariant_of-self
invariant_of-self c =
    let s = c.args.self.now in
    let n = c.free.new.self in
    let count = freed_count s.memory n c.args.seg s.last s.live c.free.ensures.removed s.none_beyond (λ e. absurd (c.if-words-eq0.false (c.words-words.ensures ∙ e))) s.counted in
    let is = c.words-words.ensures in
    record {
      numbered = search rules;
      none_beyond = λ q lt. freed_beyond s.memory n c.args.seg q c.free.ensures.removed (s.none_beyond q lt);
      counted = omega (arith, count, is);
      words_within = omega arith;
      few_words = search rules;
      out_within = search rules;
      little_out = search rules;
    }

pub returns : goal.returns
returns c =
    let s = c.args.self.now in
    (free_served s.memory s.output.items c.args.seg (λ e. absurd (c.if-words-eq0.false (c.words-words.ensures ∙ e))) ∙ ap (λ m. Some (Got 0, world_in m s.output.items)) (sym c.free.ensures.removed), (refl, (refl, refl)))
