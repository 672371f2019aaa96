use Rattle.std.proofs.Common.{◌∙◌, ap}
use Rattle.xc_type_rule.specs.Cells.{cells}
use Rattle.xc_type_structs.proofs.Table.{cells_told}
use Rattle.xc_type_structs.proofs.structs.Structs.cells.Goals as goal

pub returns-clause-agrees : goal.returns-clause-agrees
returns-clause-agrees c shapes a =
    c.cells.ensures ∙ ap (λ s. cells s c.args.ty.now) c.as_slice.ensures ∙ cells_told c.args.self.now shapes a c.args.ty.now
