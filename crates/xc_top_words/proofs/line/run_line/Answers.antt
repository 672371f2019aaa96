use Rattle.std.proofs.lemmas.Result.{IfOk-weaker}
use Rattle.xc_top_words.specs.Words.{run_line}
use Rattle.xc_top_words.proofs.LineLemmas.{arg_added}
use Rattle.xc_top_words.proofs.line.run_line.Goals as goal

pub returns : goal.returns
unfolding run_line
returns c =
    let recorded = arg_added c.in_ok-options_line.field-0 c.flag.result c.in_ok-arg.field-0 _ _ c.in_ok-options_line.ensures c.flag.ensures.rule c.flag.ensures.local c.in_ok-arg.ensures in
    IfOk-weaker c.arg-2.result _ _ (λ line added. arg_added c.in_ok-arg.field-0 c.file.result line _ _ recorded c.file.ensures.rule c.file.ensures.local added) c.arg-2.ensures
