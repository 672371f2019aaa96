use Rattle.std.proofs.Common.{append_assoc, rules}
use Rattle.xc_form_stable.specs.InnerStable.{frame_of}
use Rattle.xc_form_stable.proofs.Standing.{in_cell_update, in_and, in_binary, in_call, in_comma, in_cond, in_fetchAdd, in_index, in_or, in_print, in_purge, in_read, in_update, in_write}
use Rattle.xc_form_stable.proofs.walk.+collect.Goals as goal

pub collect_expr-returns-then-is_variable : goal.collect_expr-returns-then-is_variable
collect_expr-returns-then-is_variable t c =
    let same = in_update (frame_of c.args.w.now) c.args.over.now c.args.e.now c.in-Update.op c.in-Update.post c.in-Update.place c.in-Update.value c.in-Update.is in
    search (rules, append_assoc, same)

pub collect_expr-returns-in_ok-collect_expr-in-Index : goal.collect_expr-returns-in_ok-collect_expr-in-Index
collect_expr-returns-in_ok-collect_expr-in-Index t c =
    let same = in_index (frame_of c.args.w.now) c.args.over.now c.args.e.now c.in-Index.base c.in-Index.index c.in-Index.size c.in-Index.bound c.in-Index.is in
    search (rules, append_assoc, same)

pub collect_expr-returns-in_ok-collect_expr-in-Read : goal.collect_expr-returns-in_ok-collect_expr-in-Read
collect_expr-returns-in_ok-collect_expr-in-Read t c =
    let same = in_read (frame_of c.args.w.now) c.args.over.now c.args.e.now c.in-Read.kind c.in-Read.place c.in-Read.is in
    search (rules, append_assoc, same)

pub collect_expr-returns-in_ok-collect_expr-in-Write-2 : goal.collect_expr-returns-in_ok-collect_expr-in-Write-2
collect_expr-returns-in_ok-collect_expr-in-Write-2 t c =
    let same = in_write (frame_of c.args.w.now) c.args.over.now c.args.e.now c.in-Write.kind c.in-Write.place c.in-Write.value c.in-Write.is in
    search (rules, append_assoc, same)

pub collect_expr-returns-in_ok-collect_expr-in-FetchAdd : goal.collect_expr-returns-in_ok-collect_expr-in-FetchAdd
collect_expr-returns-in_ok-collect_expr-in-FetchAdd t c =
    let same = in_fetchAdd (frame_of c.args.w.now) c.args.over.now c.args.e.now c.in-FetchAdd.place c.in-FetchAdd.value c.in-FetchAdd.is in
    search (rules, append_assoc, same)

pub collect_expr-returns-in_ok-put-in-Purge : goal.collect_expr-returns-in_ok-put-in-Purge
collect_expr-returns-in_ok-put-in-Purge t c =
    let same = in_purge (frame_of c.args.w.now) c.args.over.now c.args.e.now c.in-Purge.place c.in-Purge.is in
    search (rules, append_assoc, same)

pub collect_expr-returns-in_ok-collect_address-in-Update : goal.collect_expr-returns-in_ok-collect_address-in-Update
collect_expr-returns-in_ok-collect_address-in-Update t c =
    let same = in_cell_update (frame_of c.args.w.now) c.args.over.now c.args.e.now c.in-Update.op c.in-Update.post c.in-Update.place c.in-Update.value c.in-Update.is (search rules) in
    search (rules, append_assoc, same)

pub collect_expr-returns-in_ok-collect_expr-in-Binary : goal.collect_expr-returns-in_ok-collect_expr-in-Binary
collect_expr-returns-in_ok-collect_expr-in-Binary t c =
    let same = in_binary (frame_of c.args.w.now) c.args.over.now c.args.e.now c.in-Binary.op c.in-Binary.a c.in-Binary.b c.in-Binary.is in
    search (rules, append_assoc, same)

pub collect_expr-returns-in_ok-collect_expr-in-And : goal.collect_expr-returns-in_ok-collect_expr-in-And
collect_expr-returns-in_ok-collect_expr-in-And t c =
    let same = in_and (frame_of c.args.w.now) c.args.over.now c.args.e.now c.in-And.a c.in-And.b c.in-And.is in
    search (rules, append_assoc, same)

pub collect_expr-returns-in_ok-collect_expr-in-Or : goal.collect_expr-returns-in_ok-collect_expr-in-Or
collect_expr-returns-in_ok-collect_expr-in-Or t c =
    let same = in_or (frame_of c.args.w.now) c.args.over.now c.args.e.now c.in-Or.a c.in-Or.b c.in-Or.is in
    search (rules, append_assoc, same)

pub collect_expr-returns-in_ok-collect_expr-in-Comma : goal.collect_expr-returns-in_ok-collect_expr-in-Comma
collect_expr-returns-in_ok-collect_expr-in-Comma t c =
    let same = in_comma (frame_of c.args.w.now) c.args.over.now c.args.e.now c.in-Comma.a c.in-Comma.b c.in-Comma.is in
    search (rules, append_assoc, same)

pub collect_expr-returns-in_ok-collect_expr-in-Cond-2 : goal.collect_expr-returns-in_ok-collect_expr-in-Cond-2
collect_expr-returns-in_ok-collect_expr-in-Cond-2 t c =
    let same = in_cond (frame_of c.args.w.now) c.args.over.now c.args.e.now c.in-Cond.test c.in-Cond.then c.in-Cond.other c.in-Cond.is in
    search (rules, append_assoc, same)

pub collect_expr-returns-in_ok-put_if-in-Call : goal.collect_expr-returns-in_ok-put_if-in-Call
collect_expr-returns-in_ok-put_if-in-Call t c =
    let same = in_call (frame_of c.args.w.now) c.args.over.now c.args.e.now c.in-Call.func c.in-Call.args c.in-Call.is in
    search (rules, append_assoc, same)

pub collect_expr-returns-in_ok-put-in-Print : goal.collect_expr-returns-in_ok-put-in-Print
collect_expr-returns-in_ok-put-in-Print t c =
    let same = in_print (frame_of c.args.w.now) c.args.over.now c.args.e.now c.in-Print.format c.in-Print.args c.in-Print.is in
    search (rules, append_assoc, same)
