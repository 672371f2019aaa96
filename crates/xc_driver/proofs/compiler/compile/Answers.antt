use Rattle.std.proofs.lemmas.Result.{IfErr-weaker}
use Rattle.xc_driver.proofs.OneAnswer.{built_only, refused_only, refused_complete, complete}
use Rattle.xc_driver.proofs.compiler.compile.Goals as goal

pub returns-in-Ok-clause-only_tree : goal.returns-in-Ok-clause-only_tree
returns-in-Ok-clause-only_tree c = built_only c.args.source.now c.compile_tree.result c.compile_tree.ensures.compiled c.compile_tree.ensures.built

pub returns-in-Ok-clause-only_refusal : goal.returns-in-Ok-clause-only_refusal
returns-in-Ok-clause-only_refusal c = IfErr-weaker c.compile_tree.result _ _ (refused_only c.args.source.now) c.compile_tree.ensures.refused

pub returns-in-Ok-clause-complete : goal.returns-in-Ok-clause-complete
returns-in-Ok-clause-complete c = complete c.args.source.now c.compile_tree.result c.compile_tree.ensures.compiled c.compile_tree.ensures.built c.compile_tree.ensures.refused

pub returns-in-Err-clause-only_refusal : goal.returns-in-Err-clause-only_refusal
returns-in-Err-clause-only_refusal c = refused_only c.args.source.now c.in-Err.fault c.in-Err.ensures.refused

pub returns-in-Err-clause-complete : goal.returns-in-Err-clause-complete
returns-in-Err-clause-complete c = refused_complete c.args.source.now c.in-Err.fault c.in-Err.ensures.refused
