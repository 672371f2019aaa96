use Rattle.std.proofs.Common.{◌≡◌, [], ◌∷◌, ◌++◌, subst, sym, rules}
use Rattle.xc_type_structs.specs.declared.structs.Layout.{Layout}
use Rattle.xc_type_structs.specs.Agree.{Lays, members_shape}
use Rattle.xc_type_structs.specs.Table as table
use Rattle.xc_type_structs.proofs.Table.{lays_with}
use Rattle.xc_type_structs.proofs.structs.Layout.with.Goals as goal

pub returns-clause-agrees : goal.returns-clause-agrees
returns-clause-agrees c shapes members a b =
    let made : Layout = record { members = c.add.new.self; size = c.saturating_add.result; kinds = c.joined.result } in
    let is : made ≡ table.with_member c.args.structs.now c.args.name c.args.ty c.args.self = search rules in
    subst (λ l. Lays l (members_shape shapes (members ++ c.args.ty ∷ []))) (sym is)
    (lays_with c.args.structs.now shapes a c.args.self members c.args.name c.args.ty b)
