use Rattle.std.proofs.Common.{◌≡◌, [], ◌∷◌, ◌++◌, subst, sym, rules}
use Rattle.xc_tree.specs.Types.{no_cells}
use Rattle.xc_type_structs.specs.declared.structs.Structs.{Structs}
use Rattle.xc_type_structs.specs.Agree.{Agrees}
use Rattle.xc_type_structs.specs.Table as table
use Rattle.xc_type_structs.proofs.Table.{agrees_opened}
use Rattle.xc_type_structs.proofs.structs.Structs.open.Goals as goal

pub returns-clause-agrees : goal.returns-clause-agrees
returns-clause-agrees c shapes a =
    let made : Structs = record { sizes = c.push-4.new.self; kinds = c.push-3.new.self; mixed = c.push-2.new.self; members = c.push.new.self } in
    let is : made ≡ table.opened c.args.self.now = search rules in
    subst (λ s. Agrees s (shapes ++ no_cells ∷ [])) (sym is) (agrees_opened c.args.self.now shapes a)
