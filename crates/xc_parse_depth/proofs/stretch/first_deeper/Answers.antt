use Rattle.std.proofs.Common.{◌≡◌, ◌+◌, sym, below_more, arith}
use Rattle.xc_parse_depth.specs.Depths.{depth_at}
use Rattle.xc_parse_depth.proofs.Sweep.{sum_fits, swept, next, none_before}
use Rattle.xc_parse_depth.proofs.stretch.first_deeper.Goals as goal
use Rattle.xc_parse_depth.proofs.stretch.first_deeper.Goals.{After-index-in-places}

read : (c : After-index-in-places) → c.places.depth + c.index.result.now ≡ depth_at c.args.stretches.now c.places.at + c.index-in-places.result.now
read c =
    swept c.args.stretches.now c.in_ok-edges.edges.begins.items c.in_ok-edges.edges.ends.items c.args.count c.places.at c.index.result.now c.places.depth c.places-test.true c.requires.few c.requires.fits c.requires.within c.in_ok-edges.ensures c.places.invariant.0 c.index.ensures
    c.index-in-places.result.now c.index-in-places.ensures

pub places-init : goal.places-init
places-init c = (sym (none_before c.args.stretches.now), λ j h. absurd (omega (arith, h)))

pub overflow_add-depth : goal.overflow_add-depth
overflow_add-depth c =
    let small =
    sum_fits c.args.stretches.now c.in_ok-edges.edges.begins.items c.in_ok-edges.edges.ends.items c.args.count c.places.at c.index.result.now c.places.depth c.places-test.true c.requires.few c.requires.fits c.requires.within c.in_ok-edges.ensures c.places.invariant.0 c.index.ensures in
    omega arith

pub overflow_sub-depth : goal.overflow_sub-depth
overflow_sub-depth c = let r = read (goal.at.overflow_sub-depth c).After-index-in-places in omega arith

pub returns-then-depth-limit : goal.returns-then-depth-limit
returns-then-depth-limit c =
    let r = read (goal.at.returns-then-depth-limit c).After-index-in-places in
    (c.places-test.true, omega (arith, c.if-depth-limit.true), c.places.invariant.1)

pub places-preserved : goal.places-preserved
places-preserved c =
    let r = read (goal.at.places-preserved c).After-index-in-places in
    let n = next c.args.stretches.now c.places.at in
    (omega arith, below_more _ _ c.places.invariant.1 (omega (arith, c.if-depth-limit.false)))
