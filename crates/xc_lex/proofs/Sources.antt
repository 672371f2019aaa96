-- From line to line.
use Rattle.std.proofs.Common.{◌≡◌, ◌<◌, ℕ, ◌+◌, List, ◌++◌, length, sym, ◌∙◌, subst, arith, Bool}
use Rattle.xc_lex.specs.declared.token.Token.{Token}
use Rattle.xc_lex.specs.declared.macros.Macro.{Macro}
use Rattle.xc_lex.specs.declared.macros.Made.{Made}
use Rattle.xc_lex.specs.Macros.{Macros}
use Rattle.xc_lex.specs.Lines.{line_at}
use Rattle.xc_lex.specs.Source.{Reached, next, AreTokens}
use Rattle.xc_lex.specs.State.{all_of}
use Rattle.xc_lex.specs.Steps.{LineRead}

-- a further line
pub Reached-next : (source : List ℕ) (ms ms' : List Macro) (at end : ℕ) (before tokens : List Token) (opened : List Bool) (made : List Made) → Reached source at (all_of source ms) before → LineRead source (line_at source (all_of source ms) at) before end ms' opened made tokens → end < length source
    → Reached source (end + 1) (all_of source ms') tokens
Reached-next source ms ms' at end before tokens opened made reached line within =
    let far : (line_at source (all_of source ms) at).stop < length source = omega (arith, line.stop, within) in
    let one = next reached line.faultless far in
    let two = subst (λ (k : ℕ). Reached source (k + 1) (line_at source (all_of source ms) at).macros (before ++ (line_at source (all_of source ms) at).tokens)) line.stop one in
    let three = subst (λ (ns : Macros). Reached source (end + 1) ns (before ++ (line_at source (all_of source ms) at).tokens)) line.macros two in
    subst (λ (ts : List Token). Reached source (end + 1) (all_of source ms') ts) (sym line.told) three

-- the last line
pub AreTokens-last : (source : List ℕ) (ms ms' : List Macro) (at end : ℕ) (before tokens : List Token) (opened : List Bool) (made : List Made) → Reached source at (all_of source ms) before → LineRead source (line_at source (all_of source ms) at) before end ms' opened made tokens → end ≡ length source
    → AreTokens source tokens
AreTokens-last source ms ms' at end before tokens opened made reached line last = record {
  at = at;
  macros = all_of source ms;
  before = before;
  reached = reached;
  faultless = line.faultless;
  last = line.stop ∙ last;
  tokens_are = line.told;
}
