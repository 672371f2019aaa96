use Rattle.std.proofs.Common.{◌≡◌, ◌+◌, ◌++◌, ◌∷◌, [], suc, length, map, take, refl, sym, ap, ◌∙◌, arith}
use Rattle.std.proofs.lemmas.List.{take_all}
use Rattle.xc_meaning_world.specs.World.{segs_of}
use Rattle.xc_isa.specs.Texts.{cells_of}
use Rattle.xc_machine.specs.Shows.{segs_in}
use Rattle.xc_machine.proofs.Globals.{none_yet, global_added, taken_more, taken_count}
use Rattle.xc_machine.proofs.start.memory_of.Goals as goal

pub loop-global-init : goal.loop-global-init
loop-global-init c = record { segments = ap segs_in c.new-memory.ensures ∙ none_yet; number = refl }

pub loop-global-preserved : goal.loop-global-preserved
loop-global-preserved c =
    let gs = c.args.globals.now in
    let i = c.loop-global.global-index in
    let cells : c.in_ok-cells.cells.items ≡ cells_of c.global-item.result = c.in_ok-cells.ensures ∙ ap cells_of c.as_slice.ensures in
    let count = taken_count gs i (omega arith) in
    let last = c.loop-global.invariant.number in
    let number : c.loop-global.last + 1 ≡ suc (length (map cells_of (take i gs))) = omega (arith, count, last) in
    record {
      segments =
          global_added c.loop-global.memory c.add_cells.new.self (map cells_of (take i gs)) (c.loop-global.last + 1) c.in_ok-cells.cells.items c.loop-global.invariant.segments number c.in-Ok.ensures.added
          ∙ ap (λ xs. segs_of (map cells_of (take i gs) ++ xs ∷ [])) (cells ∙ ap cells_of c.global-item.is)
          ∙ ap segs_of (sym (taken_more gs i c.global-item.result c.loop-global-test.true));
      number = omega arith;
    }

pub returns : goal.returns
returns c = c.loop-global.invariant.segments ∙ ap (λ xs. segs_of (map cells_of xs)) (take_all c.loop-global.global-index c.args.globals.now c.loop-global-test.false)
