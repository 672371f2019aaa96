use Rattle.std.proofs.Common.{[]}
use Rattle.std.proofs.lemmas.Result.{IfOk-weaker}
use Rattle.xc_top_words.specs.Words.{compile_line}
use Rattle.xc_top_words.proofs.LineLemmas.{arg_added}
use Rattle.xc_top_words.proofs.line.compile_line.Goals as goal

pub returns : goal.returns
unfolding compile_line
returns c = IfOk-weaker c.arg.result _ _ (λ line added. arg_added c.bare_line.result c.file.result line [] _ c.bare_line.ensures c.file.ensures.rule c.file.ensures.local added) c.arg.ensures
