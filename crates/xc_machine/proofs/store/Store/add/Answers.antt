use Rattle.std.proofs.Common.{rules, ◌+◌, refl, ap, arith}
use Rattle.xc_machine.proofs.WordCounts.{added_segs, added_count, added_beyond}
use Rattle.xc_machine.proofs.store.Store.add.Goals as goal

pub invariant_of-self : goal.invariant_of-self
invariant_of-self c =
    let s = c.args.self.now in
    let n = c.add_segment.new.self in
    record {
      numbered = omega arith;
      none_beyond = λ g lt. added_beyond s.memory n c.args.cells s.last g c.in-Ok.ensures.added lt (s.none_beyond g (omega (arith, lt)));
      counted = added_count s.memory n c.args.cells s.last s.live c.in-Ok.ensures.added s.counted;
      words_within = omega arith;
      few_words = search rules;
      out_within = search rules;
      little_out = search rules;
    }

pub returns-in-Ok : goal.returns-in-Ok
returns-in-Ok c =
    let s = c.args.self.now in
    let segs = added_segs s.memory c.add_segment.new.self (s.last + 1) c.args.cells c.in-Ok.ensures.added in
    (omega arith, omega arith, omega arith, ap (λ x. record { segs = x; out = s.output.items }) segs, refl, (refl, refl))
