use Rattle.std.proofs.Common.{get_or, refl, arith}
use Rattle.std.proofs.Math.ListN.{length-set}
use Rattle.xc_parse_depth.specs.declared.stretch.Stretch.{Stretch}
use Rattle.xc_parse_depth.proofs.Sweep.{tallied_more, tally_small}
use Rattle.xc_parse_depth.proofs.stretch.tally.Goals as goal

pub overflow_add-index_mut : goal.overflow_add-index_mut
overflow_add-index_mut c =
    let inside = c.requires.within c.stretches.stretch-index (record { first = 0; end = 0 }) c.stretches-test.true in
    let small = tally_small (λ s. s.first) c.args.stretches.now c.stretches.begins.items c.stretches.stretch-index c.args.count _ c.index_mut.result.now c.stretches.invariant.begins_length (omega (arith, inside)) c.index_mut.ensures.value c.stretches.invariant.begin in
    omega (arith, small)

pub overflow_add-index_mut-in-stretches : goal.overflow_add-index_mut-in-stretches
overflow_add-index_mut-in-stretches c =
    let inside = c.requires.within c.stretches.stretch-index (record { first = 0; end = 0 }) c.stretches-test.true in
    let small = tally_small (λ s. s.end) c.args.stretches.now c.stretches.ends.items c.stretches.stretch-index c.args.count _ c.index_mut-in-stretches.result.now c.stretches.invariant.ends_length (omega (arith, inside)) c.index_mut-in-stretches.ensures.value c.stretches.invariant.end in
    omega (arith, small)

pub stretches-preserved : goal.stretches-preserved
stretches-preserved c =
    let d : Stretch = record { first = 0; end = 0 } in
    let s = get_or c.args.stretches.now c.stretches.stretch-index d in
    let inside = c.requires.within c.stretches.stretch-index d c.stretches-test.true in
    record {
      begins_length = simp length-set c.stretches.invariant.begins_length;
      ends_length = simp length-set c.stretches.invariant.ends_length;
      begin = tallied_more (λ s. s.first) c.args.stretches.now c.stretches.begins.items c.stretches.stretch-index c.args.count s.first c.index_mut.result.now d c.stretches-test.true c.stretches.invariant.begins_length refl (omega (arith, inside)) c.index_mut.ensures.value c.stretches.invariant.begin;
      end = tallied_more (λ s. s.end) c.args.stretches.now c.stretches.ends.items c.stretches.stretch-index c.args.count s.end c.index_mut-in-stretches.result.now d c.stretches-test.true c.stretches.invariant.ends_length refl (omega (arith, inside)) c.index_mut-in-stretches.ensures.value c.stretches.invariant.end;
    }
