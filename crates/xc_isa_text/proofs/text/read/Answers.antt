use Rattle.std.proofs.Common.{sym, ◌∙◌}
use Rattle.xc_isa_text.specs.InnerReadings.{contents_in}
use Rattle.xc_isa_text.proofs.Laws.{code_found, code_only, code_bad, has_text, line_err, only_err, same_contents, drafted}
use Rattle.xc_isa_text.proofs.text.read.Goals as goal

pub finished-requires : goal.finished-requires
finished-requires c =
    let found = code_found c.args.text.now c.read_lines.new.reader (rw c.new-draft.ensures at c.in-Ok.ensures) in
    has_text c.args.text.now (contents_in c.read_lines.new.reader) c.requires found

pub returns-in-Ok-clause-found : goal.returns-in-Ok-clause-found
returns-in-Ok-clause-found c =
    rw c.finished.ensures (code_found c.args.text.now c.read_lines.new.reader (rw c.new-draft.ensures at c.in-Ok.ensures))

pub returns-in-Ok-clause-only : goal.returns-in-Ok-clause-only
returns-in-Ok-clause-only c = λ contents h.
    let only = code_only c.args.text.now contents h in
    let read = rw c.new-draft.ensures at c.in-Ok.ensures in
    c.finished.ensures ∙ same_contents c.read_lines.new.reader (drafted contents) (sym read ∙ only)

pub returns-in-Err-clause-only : goal.returns-in-Err-clause-only
returns-in-Err-clause-only c = λ contents h.
    let only = code_only c.args.text.now contents h in
    c.why.ensures ∙ only_err c.in-Err.fault c.read_lines.new.reader (drafted contents) _ (rw c.new-draft.ensures at c.in-Err.ensures) only

pub returns-in-Err-clause-line : goal.returns-in-Err-clause-line
returns-in-Err-clause-line c = λ k e. code_bad c.args.text.now k (line_err c.in-Err.fault c.read_lines.new.reader _ k (rw c.new-draft.ensures at c.in-Err.ensures) (cc))
