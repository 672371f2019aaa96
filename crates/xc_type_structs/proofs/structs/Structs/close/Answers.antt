use Rattle.std.proofs.Common.{◌≡◌, subst, sym, rules}
use Rattle.std.specs.Prelude.{slice_set}
use Rattle.xc_type_structs.specs.declared.structs.Structs.{Structs}
use Rattle.xc_type_structs.specs.Agree.{Agrees}
use Rattle.xc_type_structs.specs.Table as table
use Rattle.xc_type_structs.proofs.Table.{agrees_closed}
use Rattle.xc_type_structs.proofs.structs.Structs.close.Goals as goal

pub returns-clause-agrees : goal.returns-clause-agrees
returns-clause-agrees c shapes shape a b few =
    let made : Structs = record { sizes = c.put-4.new.items; kinds = c.put-3.new.items; mixed = c.put-2.new.items; members = c.put.new.items } in
    let is : made ≡ table.closed c.args.self.now c.args.number c.args.layout = search rules in
    subst (λ s. Agrees s (slice_set shapes c.args.number shape)) (sym is) (agrees_closed c.args.self.now shapes a c.args.layout c.args.number shape b few)
