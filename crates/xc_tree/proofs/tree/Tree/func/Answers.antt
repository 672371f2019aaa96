use Rattle.std.proofs.Common.{arith}
use Rattle.std.specs.Prelude.{IsTrue}
use Rattle.xc_tree.specs.Valid.{func_ok}
use Rattle.xc_tree.proofs.Parts.{func_typed, part_rules}
use Rattle.xc_tree.proofs.tree.Tree.func.Goals as goal

pub returns-clause-typed : goal.returns-clause-typed
returns-clause-typed c =
    let t = c.args.self.now in
    let valid : IsTrue (func_ok t.structs t.globals t.funcs t.formats c.index-as_slice-at.result) = grind (arith, part_rules) in
    func_typed t.structs t.globals t.funcs t.formats c.index-as_slice-at.result valid
