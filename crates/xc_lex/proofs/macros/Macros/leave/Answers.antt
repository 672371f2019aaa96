use Rattle.std.proofs.Common.{◌≡◌, ◌∙◌, ℕ, false, sym, length, subst, arith}
use Rattle.std.proofs.Math.ListN.{set}
use Rattle.xc_lex.specs.State.{is_made, MadeFits}
use Rattle.xc_lex.proofs.Made.{MadeFits-left}
use Rattle.xc_lex.proofs.macros.Macros.leave.Goals as goal

pub returns-then-anywhere-clause-fits : goal.returns-then-anywhere-clause-fits
returns-then-anywhere-clause-fits c =
    let a = c.args in
    let m = a.self.now in
    let r = c.requires in
    let anywhere = c.is_settled_body-anywhere.result in
    let off : is_made m.entries.items m.made.items a.frame.number ≡ false = sym c.is_made.ensures ∙ c.if-not-is_made.true in
    let count : length m.entries.items ≡ c.len.result = omega (arith, c.len.ensures, m.entries.ok.0) in
    let left = MadeFits-left a.source.now m.entries.items m.opened.items m.made.items a.tokens.now a.frame anywhere a.in_text r.kept.opened_len (omega (arith, r.within, r.kept.made_len)) r.within off c.is_settled_body-anywhere.ensures r.shut c.then-anywhere.either r.fits r.made in
    subst (λ (n : ℕ). MadeFits a.source.now m.entries.items (set m.opened.items a.frame.number false) (set m.made.items a.frame.number (record { from = a.frame.from; to = length a.tokens.now; macros = n; anywhere = anywhere })) a.tokens.now) count left
