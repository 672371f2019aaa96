use Rattle.std.proofs.Common.{◌≤◌, ◌^◌, ◌++◌, ◌∙◌, ◌∷◌, [], List, ap, sym, subst, arith, length, map, reverse, true, IfErr, rules}
use Rattle.std.proofs.Math.ListN.{set}
use Rattle.std.specs.List.{slice_range}
use Rattle.std.proofs.lemmas.List.{reverse-append}
use Rattle.xc_lex.specs.declared.token.Token.{Token}
use Rattle.xc_lex.specs.declared.macros.Frame.{Frame}
use Rattle.xc_lex.specs.State.{moved, Passes}
use Rattle.xc_lex.specs.InnerState.{Entered}
use Rattle.xc_lex.proofs.Frames.{Entered-keep, Entered-added, Entered-enter}
use Rattle.xc_lex.proofs.Made.{made_again}
use Rattle.xc_lex.proofs.macros.Macros.enter.Goals as goal

pub returns-in_ok-push-in-Keep-clause-ok : goal.returns-in_ok-push-in-Keep-clause-ok
returns-in_ok-push-in-Keep-clause-ok c =
    let a = c.args in
    let frames = reverse a.stack.now.items in
    let step = Entered-keep a.source.now a.at a.self.now.entries.items a.self.now.opened.items a.self.now.made.items frames a.tokens.now.items a.word c.requires.kept c.requires.fits c.in-Keep.ensures (omega arith) in
    subst (λ (ts : List Token). Entered a.source.now a.at a.self.now.entries.items a.self.now.opened.items frames a.tokens.now.items a.word a.self.now.opened.items a.self.now.made.items frames ts) (sym c.in_ok-push-in-Keep.ensures.items) step

pub returns-in_ok-push-in-Enter-clause-ok : goal.returns-in_ok-push-in-Enter-clause-ok
returns-in_ok-push-in-Enter-clause-ok c =
    let a = c.args in
    let frames = reverse a.stack.now.items in
    let e = c.in-Enter.ensures in
    let step = Entered-enter a.source.now a.at a.self.now.entries.items a.self.now.opened.items a.self.now.made.items frames a.tokens.now.items a.word c.in-Enter.number c.len-from.result c.requires.kept c.requires.fits e.0 e.1 e.2 (omega (arith, c.len-from.ensures, c.args.tokens.now.ok.0)) c.requires.few in
    let turned = ap reverse c.in_ok-push-in-Enter.ensures.items ∙ reverse-append a.stack.now.items (record { number = c.in-Enter.number; next = 0; from = c.len-from.result } ∷ []) in
    subst (λ (fs : List Frame). Entered a.source.now a.at a.self.now.entries.items a.self.now.opened.items frames a.tokens.now.items a.word (set a.self.now.opened.items c.in-Enter.number true) a.self.now.made.items fs a.tokens.now.items) (sym turned) step

pub returns-in_err-copy-in-Copy-clause-err : goal.returns-in_err-copy-in-Copy-clause-err
returns-in_err-copy-in-Copy-clause-err c =
    let a = c.args in
    let m = a.self.now in
    let named = c.in-Copy.ensures in
    let same = made_again a.source.now a.at m.entries.items m.opened.items m.made.items a.tokens.now.items a.word c.in-Copy.number c.requires.kept.opened_len c.requires.fits named.0 named.1 named.2 in
    let range = ap (λ made. map (moved a.at) (slice_range a.tokens.now.items made.from made.to)) c.made_of.ensures ∙ same in
    let more = subst (λ (ts : List Token). IfErr c.copy.result (λ e. Passes a.at a.tokens.now.items ts e)) range c.copy.ensures.err in
    search (rules, more)

pub returns-in_ok-copy-in-Copy-clause-ok : goal.returns-in_ok-copy-in-Copy-clause-ok
returns-in_ok-copy-in-Copy-clause-ok c =
    let a = c.args in
    let m = a.self.now in
    let named = c.in-Copy.ensures in
    let same = made_again a.source.now a.at m.entries.items m.opened.items m.made.items a.tokens.now.items a.word c.in-Copy.number c.requires.kept.opened_len c.requires.fits named.0 named.1 named.2 in
    let range = ap (λ made. map (moved a.at) (slice_range a.tokens.now.items made.from made.to)) c.made_of.ensures ∙ same in
    let done = c.in_ok-copy-in-Copy.ensures in
    let count : length (a.tokens.now.items ++ map (moved a.at) (slice_range a.tokens.now.items c.made_of.result.from c.made_of.result.to)) ≤ 2 ^ 20 = subst (λ (ts : List Token). length ts ≤ 2 ^ 20) done.ok done.few in
    let step = Entered-added a.source.now a.at m.entries.items m.opened.items m.made.items (reverse a.stack.now.items) a.tokens.now.items _ a.word c.requires.kept c.requires.fits range count in
    subst (λ (ts : List Token). Entered a.source.now a.at m.entries.items m.opened.items (reverse a.stack.now.items) a.tokens.now.items a.word m.opened.items m.made.items (reverse a.stack.now.items) ts) (sym done.ok) step
