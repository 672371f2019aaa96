use Rattle.std.proofs.Common.{◌≡◌, ◌∙◌, length, ap, arith}
use Rattle.std.proofs.lemmas.List.{take_rest}
use Rattle.xc_edge.proofs.GainedLemmas.{gained-piece}
use Rattle.xc_edge.proofs.sink.put_all.Goals as goal

pub loop-put-preserved : goal.loop-put-preserved
loop-put-preserved g c = record {
  within = omega (arith, c.in_ok-put.ensures.within);
  written = gained-piece _ _ _ c.args.text.now c.loop-put.put c.in_ok-put.field-0 c.loop-put.invariant.written (simp take_rest at c.in_ok-put.ensures.appends);
  no_fault = c.in_ok-put.ensures.no_fault ∙ c.loop-put.invariant.no_fault;
  at_start = λ none. let empty : length c.args.text.now ≡ 0 = ap length none in absurd (omega (arith, empty));
}
