use Rattle.std.proofs.Common.{◌≡◌, ◌∙◌, sym, subst}
use Rattle.std.proofs.lemmas.Result.{IfOk-at_ok}
use Rattle.xc_meaning.specs.Terms.{program_of}
use Rattle.xc_meaning_trees.specs.Trees as whole
use Rattle.xc_gen_promises.specs.Promises.{StandsFor}
use Rattle.xc_gen_whole.proofs.Stands.{code_stands}
use Rattle.xc_gen.specs.Faithful.{Faithful, NoStuck, Ends}
use Rattle.xc_driver.specs.Compiles as spec
use Rattle.xc_driver.proofs.compiler.compile_tree.Goals as goal

pub returns-in-Some-clause-refused : goal.returns-in-Some-clause-refused
returns-in-Some-clause-refused c = subst (spec.IsRefused c.args.source.now) (sym c.refusal.ensures) (
  c.args.tree,
  c.requires.tree,
  c.in-Some.at,
  (sym c.unbuilt.ensures ∙ c.in-Some.is),
  record { line = c.position-pos.ensures.line; column = c.position-pos.ensures.column },
)

pub returns-in_ok-code-in-None-clause-compiled : goal.returns-in_ok-code-in-None-clause-compiled
returns-in_ok-code-in-None-clause-compiled c =
    let kept = c.in_ok-code-in-None.ensures in
    let code = c.in_ok-code-in-None.code in
    let of_tree : spec.IsCodeOf c.args.tree code = record {
      stands = code_stands c.args.tree (sym c.unbuilt.ensures ∙ c.in-None.is) code (IfOk-at_ok (Faithful (program_of c.args.tree)) kept.outcome c.code_of.ensures.faithful);
      no_stuck = IfOk-at_ok NoStuck kept.outcome c.code_of.ensures.no_stuck;
      ends = IfOk-at_ok (Ends (program_of c.args.tree)) kept.outcome c.code_of.ensures.ends;
    } in
    record {
      tree = subst (spec.IsTreeOf c.args.source.now) (sym kept.part) c.requires.tree;
      code = subst (λ t. spec.IsCodeOf t code) (sym kept.part) of_tree;
    }
