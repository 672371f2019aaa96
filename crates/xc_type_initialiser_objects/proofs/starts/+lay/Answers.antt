use Rattle.std.proofs.Common.{ap, ◌∙◌, sym}
use Rattle.xc_type_initialiser_objects.specs.InnerCells.{with_fresh}
use Rattle.xc_type_initialiser_objects.proofs.Starting.{plain_elements}
use Rattle.xc_type_initialiser_objects.proofs.starts.+lay.Goals as goal

pub lay_array-returns-then-is_plain : goal.lay_array-returns-then-is_plain
lay_array-returns-then-is_plain t c =
    c.in_ok-skip.ensures ∙ ap (with_fresh c.args.laid.now) c.from.ensures
    ∙ sym (plain_elements c.args.laid.now c.args.n _ c.args.of.now (sym c.is_plain.ensures ∙ c.if-is_plain.true))
