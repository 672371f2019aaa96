-- The text that is printed.
use Rattle.std.proofs.Common.{◌≡◌, ℕ, List, [], ◌∷◌, ◌++◌, map, ap, ◌∙◌, append_assoc, arith}
use Rattle.std.specs.List.{AllByRecursion, flat_map}
use Rattle.std.specs.Prelude.{codes}
use Rattle.std.proofs.lemmas.Grind.{flat_map-append}
use Rattle.std.proofs.lemmas.List.Elements.{recursion_from_All}
use Rattle.hex.specs.Hex.{IsBytes}
use Rattle.xc_text_lines.specs.Lines.{HasFewLines}
use Rattle.xc_text_lines.specs.Grammar.{with_feeds}
use Rattle.xc_isa.specs.declared.code.Run.{Run}
use Rattle.xc_isa.specs.declared.code.LoopMark.{LoopMark}
use Rattle.xc_isa.specs.declared.instr.Instr.{Instr}
use Rattle.xc_isa.specs.Texts.{IsGlobal, IsFormat, HasText}
use Rattle.xc_isa_text.specs.Instructions.{instr_line, IsInstr}
use Rattle.xc_isa_text.specs.Texts.{Contents, global_lines, format_line, mark_line, code_line, lines_of, IsRun, IsMark, IsCode, Spells}
use Rattle.xc_isa_text.proofs.Laws.{feeds_are}

with_feeds-append : (a b : List (List ℕ)) → with_feeds (a ++ b) ≡ with_feeds a ++ with_feeds b
with_feeds-append a b = flat_map-append (λ (line : List ℕ). line ++ 10 ∷ []) a b

printed : (c : Contents)
    → with_feeds (lines_of c) ≡ ((((codes "xmtasm 1\n" ++ with_feeds (flat_map global_lines c.globals)) ++ with_feeds (map format_line c.formats)) ++ with_feeds (map mark_line c.loops)) ++ codes "code\n") ++ with_feeds (map instr_line c.instrs)
printed c =
    let g = flat_map global_lines c.globals in
    let f = map format_line c.formats in
    let m = map mark_line c.loops in
    let i = map instr_line c.instrs in
    let rest : with_feeds (g ++ (f ++ (m ++ code_line ∷ i))) ≡ with_feeds g ++ (with_feeds f ++ (with_feeds m ++ (codes "code\n" ++ with_feeds i))) =
    with_feeds-append g (f ++ (m ++ code_line ∷ i))
    ∙ ap (λ (x : List ℕ). with_feeds g ++ x) (with_feeds-append f (m ++ code_line ∷ i) ∙ ap (λ (x : List ℕ). with_feeds f ++ x) (with_feeds-append m (code_line ∷ i))) in
    ap (λ (x : List ℕ). codes "xmtasm 1\n" ++ x) rest ∙ simp append_assoc

pub printed_by : (c : Contents) (a b d e h k : List ℕ) (globals : List (List Run)) (formats : List (List ℕ)) (loops : List LoopMark) (instrs : List Instr)
    → globals ≡ c.globals → formats ≡ c.formats → loops ≡ c.loops → instrs ≡ c.instrs
    → a ≡ codes "xmtasm 1\n" → b ≡ a ++ with_feeds (flat_map global_lines globals) → d ≡ b ++ with_feeds (map format_line formats) → e ≡ d ++ with_feeds (map mark_line loops)
    → h ≡ e ++ codes "code\n" → k ≡ h ++ with_feeds (map instr_line instrs) → k ≡ with_feeds (lines_of c)
printed_by c a b d e h k globals formats loops instrs g f m i p q r s t u = let is = printed c in cc

both_all : (globals : List (List Run)) → AllByRecursion IsGlobal globals → AllByRecursion (AllByRecursion IsRun) globals → AllByRecursion (λ runs. IsGlobal runs × AllByRecursion IsRun runs) globals
both_all [] h k = tt
both_all (runs ∷ globals) h k = ((h.0, k.0), both_all globals h.1 k.1)

both_formats : (formats : List (List ℕ)) → AllByRecursion IsFormat formats → AllByRecursion IsBytes formats → AllByRecursion (λ bytes. IsFormat bytes × IsBytes bytes) formats
both_formats [] h k = tt
both_formats (bytes ∷ formats) h k = ((h.0, k.0), both_formats formats h.1 k.1)

pub is_code_by : (c : Contents) → HasText c.globals c.formats c.loops c.instrs → AllByRecursion (AllByRecursion IsRun) c.globals → AllByRecursion IsBytes c.formats → AllByRecursion IsMark c.loops → AllByRecursion IsInstr c.instrs → IsCode c
is_code_by c h g f m i = record {
  globals = both_all c.globals (recursion_from_All IsGlobal c.globals h.each_global) g;
  formats = both_formats c.formats (recursion_from_All IsFormat c.formats h.each_format) f;
  loops = (h.in_order, m);
  instrs = i;
}

pub few_feeds : (text : List ℕ) (c : Contents) → Spells text c → HasText c.globals c.formats c.loops c.instrs → HasFewLines text
few_feeds text c s h = omega (arith, feeds_are text c s, h.short)
