use Rattle.std.proofs.Common.{◌≡◌, [], subst, sym, rules}
use Rattle.xc_type_structs.specs.Agree.{Lays, members_shape}
use Rattle.xc_type_structs.specs.Table as table
use Rattle.xc_type_structs.proofs.Table.{lays_nothing}
use Rattle.xc_type_structs.proofs.structs.Layout.new.Goals as goal

pub returns-clause-agrees : goal.returns-clause-agrees
returns-clause-agrees c shapes =
    let is : record { members = c.new.result; size = 0; kinds = c.no_kinds.result } ≡ table.nothing = search rules in
    subst (λ l. Lays l (members_shape shapes [])) (sym is) (lays_nothing shapes)
