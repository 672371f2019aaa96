use Rattle.std.proofs.Common.{rules, sym, subst}
use Rattle.xc_word.specs.Table.{outcome, answer_of}
use Rattle.xc_meaning_world.specs.World.{On, Reach, serve}
use Rattle.xc_machine.specs.Shows.{world_in}
use Rattle.xc_machine.specs.InnerStores.{Serves}
use Rattle.xc_machine.proofs.Shown.{access_served}
use Rattle.xc_machine.proofs.WordCounts.{left_count, left_beyond}
use Rattle.xc_machine.proofs.store.Store.touch.Goals as goal

pub invariant_of-self : goal.invariant_of-self
invariant_of-self c =
    let s = c.args.self.now in
    let act = c.args.act.now in
    record {
      numbered = search rules;
      none_beyond = λ g lt. left_beyond s.memory c.apply.new.self act.place (outcome s.memory act) g c.apply.ensures.left (s.none_beyond g lt);
      counted = left_count s.memory c.apply.new.self act.place (outcome s.memory act) s.last s.live c.apply.ensures.left s.counted;
      words_within = search rules;
      few_words = search rules;
      out_within = search rules;
      little_out = search rules;
    }

pub returns-clause-served : goal.returns-clause-served
returns-clause-served c =
    let m = c.args.self.now.memory in
    let out = c.args.self.now.output.items in
    let act = c.args.act.now in
    subst (λ r. Serves r (world_in m out) (world_in c.apply.new.self out) (serve (On (Reach act)) 0 (world_in m out))) (sym c.apply.ensures.answer)
    (subst (λ n. Serves (answer_of (outcome m act)) (world_in m out) (world_in n out) (serve (On (Reach act)) 0 (world_in m out))) (sym c.apply.ensures.left) (access_served m out act))
