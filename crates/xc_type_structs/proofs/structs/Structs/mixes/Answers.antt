use Rattle.std.proofs.Common.{◌∙◌, ap}
use Rattle.std.specs.Prelude.{false, unwrap_or}
use Rattle.xc_type_structs.proofs.Table.{mixed_told}
use Rattle.xc_type_structs.proofs.structs.Structs.mixes.Goals as goal

pub returns-in-None-clause-agrees : goal.returns-in-None-clause-agrees
returns-in-None-clause-agrees c shapes a = ap (λ o. unwrap_or o false) c.in-None.ensures.value ∙ mixed_told c.args.self.now shapes a c.args.number

pub returns-in-Some-clause-agrees : goal.returns-in-Some-clause-agrees
returns-in-Some-clause-agrees c shapes a = ap (λ o. unwrap_or o false) c.in-Some.ensures.value ∙ mixed_told c.args.self.now shapes a c.args.number
