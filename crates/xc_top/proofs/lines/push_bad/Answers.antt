use Rattle.std.proofs.Common.{◌++◌, sym, ap, ◌∙◌}
use Rattle.std.specs.Prelude.{string_bytes}
use Rattle.std.proofs.lemmas.Result.{on_ok_weaker}
use Rattle.xc_top.specs.Lines.{bad_line_of}
use Rattle.xc_top.proofs.lines.push_bad.Goals as goal

pub returns-in-Entry : goal.returns-in-Entry
returns-in-Entry c = on_ok_weaker c.push_count.result (λ e. e ∙ ap (λ b. string_bytes c.args.line.now ++ bad_line_of b) (sym c.in-Entry.is)) c.push_count.ensures
