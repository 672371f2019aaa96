use Rattle.std.proofs.Common.{◌++◌, sym, ap, ◌∙◌}
use Rattle.std.specs.Prelude.{string_bytes}
use Rattle.std.proofs.lemmas.Result.{on_ok_weaker}
use Rattle.xc_top.specs.declared.status.Status.TheVariants.{ReadFault, Long}
use Rattle.xc_top.specs.Lines.{line_of}
use Rattle.xc_top.proofs.lines.push_line.Goals as goal

pub returns-in-ReadFault : goal.returns-in-ReadFault
returns-in-ReadFault c =
    let old = string_bytes c.args.line.now in
    on_ok_weaker c.push_about.result (λ e. e ∙ ap (λ n. old ++ line_of (ReadFault n)) c.as_str.ensures ∙ ap (λ s. old ++ line_of s) (sym c.in-ReadFault.is)) c.push_about.ensures

pub returns-in-Long : goal.returns-in-Long
returns-in-Long c =
    let old = string_bytes c.args.line.now in
    on_ok_weaker c.push_about-in-Long.result (λ e. e ∙ ap (λ n. old ++ line_of (Long n)) c.as_str-in-Long.ensures ∙ ap (λ s. old ++ line_of s) (sym c.in-Long.is)) c.push_about-in-Long.ensures

pub returns-in-WordsFull : goal.returns-in-WordsFull
returns-in-WordsFull c = on_ok_weaker c.push_full.result (λ e. e ∙ ap (λ s. string_bytes c.args.line.now ++ line_of s) (sym c.in-WordsFull.is)) c.push_full.ensures

pub returns-in-OutFull : goal.returns-in-OutFull
returns-in-OutFull c = on_ok_weaker c.push_full-in-OutFull.result (λ e. e ∙ ap (λ s. string_bytes c.args.line.now ++ line_of s) (sym c.in-OutFull.is)) c.push_full-in-OutFull.ensures

pub returns-in-Usage : goal.returns-in-Usage
returns-in-Usage c = on_ok_weaker c.push_text.result (λ e. e ∙ ap (λ s. string_bytes c.args.line.now ++ line_of s) (sym c.in-Usage.is)) c.push_text.ensures

pub returns-in-NoMemory : goal.returns-in-NoMemory
returns-in-NoMemory c = on_ok_weaker c.push_text-in-NoMemory.result (λ e. e ∙ ap (λ s. string_bytes c.args.line.now ++ line_of s) (sym c.in-NoMemory.is)) c.push_text-in-NoMemory.ensures
