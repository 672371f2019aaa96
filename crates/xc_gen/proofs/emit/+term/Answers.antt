use Rattle.std.proofs.Common.{rules, ◌≡◌, ◌+◌, ◌<◌, ◌^◌, ◌++◌, map, ap, sym, ◌∙◌, arith, subst}
use Rattle.xc_isa.specs.declared.instr.Test.TheVariants.{Zero, NotZero}
use Rattle.xc_meaning.specs.Terms.{Write, Update, Unary, Binary, And, Or, Cond, Comma, Print, term_of, terms_of, part_of}
use Rattle.xc_gen.proofs.Emitting.{opened, on_ok, emits_write, emits_update, emits_unary, emits_binary, emits_decided, emits_and, emits_or, emits_cond, emits_comma, emits_print, room_for, before_more}
use Rattle.xc_gen.specs.Code.{loads_code, waiting_in}
use Rattle.xc_gen.proofs.emit.+term.Goals as goal

pub put_term-returns-in_ok-put_term-in-Some-global_of : goal.put_term-returns-in_ok-put_term-in-Some-global_of
put_term-returns-in_ok-put_term-in-Some-global_of t c =
    let is : term_of c.args.e.now ≡ Write c.in-Some-global_of.global (term_of c.get-in-Some-global_of.result.now) = search (rules, opened) in
    on_ok c.put_write.result (λ h. emits_write c.args.emit.now c.put_term.new.emit c.put_write.new.emit (term_of c.args.e.now) (term_of c.get-in-Some-global_of.result.now) c.in-Some-global_of.global c.args.depth is c.in_ok-put_term-in-Some-global_of.ensures h) c.put_write.ensures

pub put_term-returns-in_ok-put_write-in-Some-global_of-2 : goal.put_term-returns-in_ok-put_write-in-Some-global_of-2
put_term-returns-in_ok-put_write-in-Some-global_of-2 t c =
    let is : term_of c.args.e.now ≡ Update c.in-Update.op c.works_on_uint-unsigned.result c.in-Update.post c.in-Some-global_of-2.global (term_of c.get-in-Some-global_of-2-2.result.now) = search (rules, opened) in
    on_ok c.put_old.result (λ h. emits_update c.args.emit.now c.put_read-in-Some-global_of-2.new.emit c.put_save.new.emit c.put_term-in-Some-global_of-2.new.emit c.put_apply.new.emit c.put_write-in-Some-global_of-2.new.emit c.put_old.new.emit (term_of c.args.e.now) (term_of c.get-in-Some-global_of-2-2.result.now)
    c.in-Update.op c.works_on_uint-unsigned.result c.in-Update.post c.in-Some-global_of-2.global c.args.depth is c.in_ok-put_read-in-Some-global_of-2.ensures c.in_ok-put_save-in-Some-global_of-2.ensures c.in_ok-put_term-in-Some-global_of-2.ensures c.in_ok-put_apply-in-Some-global_of-2.ensures c.in_ok-put_write-in-Some-global_of-2.ensures h) c.put_old.ensures

pub put_term-returns-in_ok-put_term-in-Unary : goal.put_term-returns-in_ok-put_term-in-Unary
put_term-returns-in_ok-put_term-in-Unary t c =
    let is : term_of c.args.e.now ≡ Unary c.in-Unary.op (term_of c.get-in-Unary.result.now) = search (rules, opened) in
    on_ok c.put_unary.result (λ h. emits_unary c.args.emit.now c.put_term-in-Unary.new.emit c.put_unary.new.emit (term_of c.args.e.now) (term_of c.get-in-Unary.result.now) c.in-Unary.op c.args.depth is c.in_ok-put_term-in-Unary.ensures h) c.put_unary.ensures

pub put_term-returns-in_ok-put_term-in-Binary-2 : goal.put_term-returns-in_ok-put_term-in-Binary-2
put_term-returns-in_ok-put_term-in-Binary-2 t c =
    let is : term_of c.args.e.now ≡ Binary c.in-Binary.op c.works_on_uint-unsigned-in-Binary.result (term_of c.get-in-Binary-3.result.now) (term_of c.get-in-Binary-4.result.now) = search (rules, opened) in
    on_ok c.put_apply-in-Binary.result (λ h. emits_binary c.args.emit.now c.put_term-in-Binary.new.emit c.put_save-in-Binary.new.emit c.put_term-in-Binary-2.new.emit c.put_apply-in-Binary.new.emit (term_of c.args.e.now) (term_of c.get-in-Binary-3.result.now) (term_of c.get-in-Binary-4.result.now)
    c.in-Binary.op c.works_on_uint-unsigned-in-Binary.result c.args.depth is c.in_ok-put_term-in-Binary.ensures c.in_ok-put_save-in-Binary.ensures c.in_ok-put_term-in-Binary-2.ensures h) c.put_apply-in-Binary.ensures

pub put_term-returns-in_ok-put_term-in-And-2 : goal.put_term-returns-in_ok-put_term-in-And-2
put_term-returns-in_ok-put_term-in-And-2 t c =
    let is : term_of c.args.e.now ≡ And (term_of c.get-in-And.result.now) (term_of c.get-in-And-2.result.now) = search (rules, opened) in
    on_ok c.put_as_truth.result (λ h. emits_and c.args.emit.now c.put_as_truth.new.emit (term_of c.args.e.now) (term_of c.get-in-And.result.now) (term_of c.get-in-And-2.result.now) c.args.depth is
    (emits_decided c.args.emit.now c.put_term-in-And.new.emit c.push.new.self c.put_term-in-And-2.new.emit c.patch.new.self c.put_as_truth.new.emit Zero (term_of c.get-in-And.result.now) (term_of c.get-in-And-2.result.now) 0 c.in_ok-decides-in-And.decides c.position-end.result c.args.depth
    c.in_ok-put_term-in-And.ensures c.in_ok-decides-in-And.ensures.at (search (rules, opened)) c.in_ok-put_term-in-And-2.ensures c.position-end.ensures c.patch.ensures h)) c.put_as_truth.ensures

pub put_term-returns-in_ok-put_term-in-Or-2 : goal.put_term-returns-in_ok-put_term-in-Or-2
put_term-returns-in_ok-put_term-in-Or-2 t c =
    let is : term_of c.args.e.now ≡ Or (term_of c.get-in-Or.result.now) (term_of c.get-in-Or-2.result.now) = search (rules, opened) in
    on_ok c.put_as_truth-in-Or.result (λ h. emits_or c.args.emit.now c.put_as_truth-in-Or.new.emit (term_of c.args.e.now) (term_of c.get-in-Or.result.now) (term_of c.get-in-Or-2.result.now) c.args.depth is
    (emits_decided c.args.emit.now c.put_term-in-Or.new.emit c.push-in-Or.new.self c.put_term-in-Or-2.new.emit c.patch-in-Or.new.self c.put_as_truth-in-Or.new.emit NotZero (term_of c.get-in-Or.result.now) (term_of c.get-in-Or-2.result.now) 0 c.in_ok-decides-in-Or.decides c.position-end-in-Or.result c.args.depth
    c.in_ok-put_term-in-Or.ensures c.in_ok-decides-in-Or.ensures.at (search (rules, opened)) c.in_ok-put_term-in-Or-2.ensures c.position-end-in-Or.ensures c.patch-in-Or.ensures h)) c.put_as_truth-in-Or.ensures

pub put_term-returns-in_ok-put_term-in-Cond-3 : goal.put_term-returns-in_ok-put_term-in-Cond-3
put_term-returns-in_ok-put_term-in-Cond-3 t c =
    let x = term_of c.get-in-Cond.result.now in
    let a = term_of c.get-in-Cond-2.result.now in
    let b = term_of c.get-in-Cond-3.result.now in
    let is : term_of c.args.e.now ≡ Cond x a b = search (rules, opened) in
    emits_cond c.args.emit.now c.put_term-in-Cond.new.emit c.push-in-Cond.new.self c.put_term-in-Cond-2.new.emit c.push-in-Cond-2.new.self c.patch-in-Cond.new.self c.put_term-in-Cond-3.new.emit c.patch-in-Cond-2.new.self (term_of c.args.e.now) x a b 0 0
    c.in_ok-skips-in-Cond.skips c.in_ok-leaves-in-Cond.leaves c.position-second.result c.position-end-in-Cond.result c.args.depth is c.in_ok-put_term-in-Cond.ensures c.in_ok-skips-in-Cond.ensures.at (search (rules, opened)) c.in_ok-put_term-in-Cond-2.ensures c.in_ok-leaves-in-Cond.ensures.at c.in_ok-leaves-in-Cond.ensures.ok
    c.position-second.ensures c.patch-in-Cond.ensures c.in_ok-put_term-in-Cond-3.ensures c.position-end-in-Cond.ensures c.patch-in-Cond-2.ensures

pub put_term-returns-in_ok-put_term-in-Comma : goal.put_term-returns-in_ok-put_term-in-Comma
put_term-returns-in_ok-put_term-in-Comma t c =
    let is : term_of c.args.e.now ≡ Comma (term_of c.get-in-Comma.result.now) (term_of c.get-in-Comma-2.result.now) = search (rules, opened) in
    on_ok c.put_term-in-Comma-2.result (λ h. emits_comma c.args.emit.now c.put_term-in-Comma.new.emit c.put_term-in-Comma-2.new.emit (term_of c.args.e.now) (term_of c.get-in-Comma.result.now) (term_of c.get-in-Comma-2.result.now) c.args.depth is c.in_ok-put_term-in-Comma.ensures h) c.put_term-in-Comma-2.ensures

pub put_term-returns-in_ok-put_loads-in-Print : goal.put_term-returns-in_ok-put_loads-in-Print
put_term-returns-in_ok-put_loads-in-Print t c =
    let es = terms_of (map part_of c.as_slice.result.now) in
    let is : term_of c.args.e.now ≡ Print c.in-Print.format es = search (rules, opened) in
    let same : es ≡ terms_of (map part_of c.as_slice-in-Print.result.now) = ap (λ l. terms_of (map part_of l)) (c.as_slice.ensures ∙ sym c.as_slice-in-Print.ensures) in
    on_ok c.put_print.result (λ h. emits_print c.args.emit.now c.put_terms.new.emit c.put_loads.new.emit c.put_print.new.emit (term_of c.args.e.now) es c.in-Print.format c.args.depth is c.in_ok-put_terms-in-Print.ensures
    (c.in_ok-put_loads-in-Print.ensures ∙ ap (λ l. c.put_terms.new.emit ++ loads_code l 24 c.args.depth) (sym same)) h) c.put_print.ensures

pub put_term-put_loads-requires-clause-room : goal.put_term-put_loads-requires-clause-room
put_term-put_loads-requires-clause-room t c =
    let es = terms_of (map part_of c.as_slice-in-Print.result.now) in
    let is : term_of c.args.e.now ≡ Print c.in-Print.format es = search (rules, opened) in
    room_for es c.args.depth (2 ^ 32) (subst (λ u. c.args.depth + waiting_in u < 2 ^ 32) is c.requires.room)

pub put_terms-overflow_add-before : goal.put_terms-overflow_add-before
put_terms-overflow_add-before t c =
    let more = before_more c.args.args.now c.loop-arg.arg-index c.loop-arg.before (search rules) in
    grind (arith, more)
