use Rattle.std.proofs.Common.{◌≡◌, ◌<◌, ◌∙◌, ℕ, take, List, [], length, Bool, ap, sym, subst, arith}
use Rattle.xc_text_place.specs.Place.{line_of, column_of}
use Rattle.xc_lex.specs.declared.token.Token.{Token}
use Rattle.xc_lex.specs.declared.macros.Macro.{Macro}
use Rattle.xc_lex.specs.declared.macros.Made.{Made}
use Rattle.xc_lex.specs.Source.{Reached, first, IsFault}
use Rattle.xc_lex.specs.Numbering.{number_in}
use Rattle.xc_lex.specs.State.{AreNumbered, MadeFits, all_of}
use Rattle.xc_lex.specs.declared.stop.Stop.{Stop}
use Rattle.xc_lex.specs.Lines.{line_at}
use Rattle.xc_lex.specs.Steps.{LineStops, IsIdle}
use Rattle.xc_lex.proofs.Made.{MadeFits-none}
use Rattle.xc_lex.proofs.Sources.{Reached-next, AreTokens-last}
use Rattle.xc_lex.proofs.Defining.{IsIdle-empty}
use Rattle.xc_lex.proofs.Unique.{tokens_only, fault_only}
use Rattle.xc_lex.proofs.Spelling.{tokens_spelled}
use Rattle.xc_lex.proofs.lexer.lex.Goals as goal

-- a text begins
start : (source : List ℕ) (ms : List Macro) (opened : List Bool) (made : List Made) (tokens : List Token) → ms ≡ [] → opened ≡ [] → made ≡ [] → tokens ≡ [] → IsIdle source ms opened made × MadeFits source ms opened made tokens × Reached source 0 (all_of source ms) tokens
start source ms opened made tokens e f g h =
    let a = subst (λ (ns : List Macro). IsIdle source ns [] []) (sym e) (IsIdle-empty source) in
    let b = subst (λ (os : List Bool). IsIdle source ms os []) (sym f) a in
    let c = subst (λ (ns : List Made). IsIdle source ms opened ns) (sym g) b in
    let none = MadeFits-none source ms opened made tokens (λ i below. absurd (let empty = ap length e in omega (arith, below, empty))) in
    let d = subst (λ (ns : List Macro). Reached source 0 (all_of source ns) []) (sym e) first in
    (c, none, subst (λ (ts : List Token). Reached source 0 (all_of source ms) ts) (sym h) d)

pub lines-init : goal.lines-init
lines-init c =
    let m = c.new-macros in
    let both = start c.args.source.now m.result.entries.items m.result.opened.items m.result.made.items c.new-tokens.result.items m.ensures.entries m.ensures.opened m.ensures.made c.new-tokens.ensures.items in
    let none = ap length c.new-tokens.ensures.items in
    record {
      within = omega arith;
      idle = both.0;
      fits = both.1;
      numbered = subst (λ (ms : List Macro). AreNumbered c.args.source.now ms (number_in m.result.numbers)) (sym m.ensures.entries) tt;
      reached = both.2;
      few = omega (arith, none);
    }

pub lines-preserved : goal.lines-preserved
lines-preserved c =
    let line = c.in-Ok.ensures.ok in
    let far : c.in-Ok.end < length c.args.source.now = omega (arith, c.in-Ok.ensures.within, c.if-end-source.false) in
    record {
      within = omega (arith, far);
      idle = line.idle;
      fits = line.fits;
      numbered = c.in-Ok.ensures.numbered;
      reached = Reached-next c.args.source.now c.lines.macros.entries.items _ c.lines.at c.in-Ok.end c.lines.tokens.items _ _ _ c.lines.invariant.reached line far;
      few = line.few;
    }

pub returns-then-end-source-clause-only_tokens : goal.returns-then-end-source-clause-only_tokens
returns-then-end-source-clause-only_tokens c =
    let line = c.in-Ok.ensures.ok in
    tokens_only c.args.source.now c.read_line.new.tokens.items (AreTokens-last c.args.source.now c.lines.macros.entries.items _ c.lines.at c.in-Ok.end c.lines.tokens.items _ _ _ c.lines.invariant.reached line (omega (arith, c.if-end-source.true)))

pub returns-then-end-source-clause-spelled : goal.returns-then-end-source-clause-spelled
returns-then-end-source-clause-spelled c =
    let line = c.in-Ok.ensures.ok in
    tokens_spelled c.args.source.now c.read_line.new.tokens.items (AreTokens-last c.args.source.now c.lines.macros.entries.items _ c.lines.at c.in-Ok.end c.lines.tokens.items _ _ _ c.lines.invariant.reached line (omega (arith, c.if-end-source.true)))

pub returns-in-Err-At-clause-only_fault : goal.returns-in-Err-At-clause-only_fault
returns-in-Err-At-clause-only_fault c =
    let stops = subst (λ (stop : Stop). LineStops c.lines.tokens.items (line_at c.args.source.now (all_of c.args.source.now c.lines.macros.entries.items) c.lines.at) stop) c.in-Err-At.field-0-is c.in-Err-At.ensures.err in
    let fault : IsFault c.args.source.now c.in-Err-At.place = record { at = c.lines.at; macros = all_of c.args.source.now c.lines.macros.entries.items; before = c.lines.tokens.items; reached = c.lines.invariant.reached; fault = stops } in
    fault_only c.args.source.now c.position.result c.in-Err-At.place fault (record {
      line = c.position.ensures.line ∙ ap (λ n. line_of (take n c.args.source.now)) c.in-Err-At.place-is;
      column = c.position.ensures.column ∙ ap (λ n. column_of (take n c.args.source.now)) c.in-Err-At.place-is;
    })
