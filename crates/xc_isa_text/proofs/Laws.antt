-- Texts of code are a format of lines.
use Rattle.std.proofs.Common.{◌≡◌, ◌≢◌, ℕ, zero, suc, ◌+◌, ◌-◌, ◌^◌, ◌<◌, ◌≤◌, eqb, Bool, true, false, not, ◌&&◌, List, [], ◌∷◌, ◌++◌, length, map, count_by, Option, Some, None, Result, Ok, Err, refl, sym, ap, subst, ◌∙◌, append_assoc, arith}
use Rattle.std.specs.List.{AllByRecursion, flat_map, sum_by}
use Rattle.std.proofs.lemmas.Bool.{eqb-true}
use Rattle.std.proofs.lemmas.Bool.Decides.{nat_tests}
use Rattle.std.proofs.lemmas.List.{length-append, length-map}
use Rattle.std.proofs.lemmas.List.Concat.{length-flat_map}
use Rattle.std.proofs.lemmas.List.Elements.{All-from_recursion, recursion_from_All}
use Rattle.std.proofs.lemmas.List.Sums.{sum_by-cons}
use mathlib.Core.Bool.{beq}
use Rattle.xc_text_lines.specs.declared.lines.ReadFault.{ReadFault}
use Rattle.xc_text_lines.specs.declared.lines.ReadFault.TheVariants as reading
use Rattle.xc_text_lines.specs.Lines.{is_feed, pieces, read_pieces, Reads, HasFewLines}
use Rattle.xc_text_lines.specs.Grammar.{with_feeds, IsFirstBad}
use Rattle.xc_text_lines.specs.InnerGrammar.{HasNoFeed, IsFormat, InFormat}
use Rattle.xc_text_lines.specs.InnerGrammar.{Spells as LinesSpell}
use Rattle.xc_text_lines.proofs.Laws.{is_found, is_only, is_first_bad, first_bad_same, count-with_feeds}
use Rattle.xc_word.specs.declared.memory.Cell.{Cell}
use Rattle.xc_isa.specs.declared.code.Run.{Run}
use Rattle.xc_isa.specs.declared.code.LoopMark.{LoopMark}
use Rattle.xc_isa.specs.Texts.{size_of, IsGlobal, HasText, lines_of as count_lines}
use Rattle.xc_isa.specs.Texts.{IsFormat as IsPrintf}
use Rattle.xc_isa_text.specs.declared.draft.Stage.{Stage}
use Rattle.xc_isa_text.specs.declared.draft.Stage.TheVariants as stage
use Rattle.xc_isa_text.specs.declared.text.AsmFault.TheVariants.{Line, NoMemory}
use Rattle.xc_isa_text.specs.Instructions.{instr_line, IsInstr}
use Rattle.xc_isa_text.specs.Texts.{Contents, header, run_line, global_lines, format_line, mark_line, code_line, lines_of, state_number, IsRun, IsMark, IsCode, Spells, IsAssembly}
use Rattle.xc_isa_text.specs.Readings.{Reading}
use Rattle.xc_isa_text.specs.InnerReadings.{at_start, contents_in, last_of, may_follow, differ, in_order, with_runs, next, whole_at, whole}
use Rattle.xc_isa_text.specs.Faults.{fault_of}
use Rattle.xc_isa_text.proofs.Chains.{Chain, chain_from, each_from, all_append, all_map, all_flat, all_same}
use Rattle.xc_isa_text.proofs.InstrLaws.{line_free}
use Rattle.xc_isa_text.proofs.DataLines.{global_free, run_free, format_free, mark_free}
use Rattle.xc_isa_text.proofs.Drafted.{open_lines, data_in, so_far_at, so_far, FitRuns, FitGlobal, FitFormat, FitsSoFar}
use Rattle.xc_isa_text.proofs.Growth.{grows}
use Rattle.xc_isa_text.proofs.Again.{reads, then_reads, code_draft, code_begins, code_read, ran}

-- ---- no line has a line feed

runs_free : (runs : List Run) → FitRuns runs → AllByRecursion HasNoFeed (map run_line runs)
runs_free runs h = all_map run_line (λ (r : Run). (1 ≤ r.count) × IsRun r) HasNoFeed (λ r k. run_free r k.1) runs h.1

global_lines_free : (runs : List Run) → FitGlobal runs → AllByRecursion HasNoFeed (global_lines runs)
global_lines_free runs h = (global_free (size_of runs) h.2, runs_free runs h.1)

open_free : (missing : ℕ) (runs : List Run) → size_of runs + missing < 2 ^ 32 → FitRuns runs → AllByRecursion HasNoFeed (open_lines missing runs)
open_free zero runs h k = tt
open_free (suc n) runs h k = (global_free (size_of runs + suc n) h, runs_free runs k)

data_free : (s : Reading) → FitsSoFar s → AllByRecursion HasNoFeed (data_in s)
data_free s fits =
    all_append HasNoFeed (flat_map global_lines s.globals) (open_lines s.missing s.runs ++ (map format_line s.formats ++ map mark_line s.loops)) (all_flat global_lines FitGlobal HasNoFeed global_lines_free s.globals fits.globals)
    (all_append HasNoFeed (open_lines s.missing s.runs) (map format_line s.formats ++ map mark_line s.loops) (open_free s.missing s.runs fits.room fits.runs)
    (all_append HasNoFeed (map format_line s.formats) (map mark_line s.loops) (all_map format_line FitFormat HasNoFeed (λ b k. format_free b k.1) s.formats fits.formats) (all_map mark_line IsMark HasNoFeed mark_free s.loops fits.loops.1)))

free_at : (g : Stage) (s : Reading) → FitsSoFar s → AllByRecursion HasNoFeed (so_far_at g s)
free_at stage.Start s fits = tt
free_at stage.Data s fits = (refl, data_free s fits)
free_at stage.Code s fits = (refl, all_append HasNoFeed (data_in s) (code_line ∷ map instr_line s.instrs) (data_free s fits) (refl, all_map instr_line IsInstr HasNoFeed line_free s.instrs fits.instrs))

-- ---- every draft can be completed

-- the cells that are missing, in another state than the last run
abbrev others : Option Run → ℕ → Run
others None n = record { count = n; cell = record { value = 0; full = true } }
others (Some r) n = record { count = n; cell = record { value = 0; full = not r.cell.full } }

not_same : (same full : Bool) → not (same && beq full (not full)) ≡ true
not_same true true = refl
not_same true false = refl
not_same false full = refl

others_follow : (last : Option Run) (n : ℕ) → may_follow differ last (others last n) ≡ true
others_follow None n = refl
others_follow (Some r) n = not_same (eqb r.cell.value 0) r.cell.full

state_small : (full : Bool) → state_number full < 2
state_small true = omega arith
state_small false = omega arith

others_are : (last : Option Run) (n : ℕ) → n < 2 ^ 32 → IsRun (others last n)
others_are None n h = (h, (omega arith, (omega arith, tt)))
others_are (Some r) n h = (h, (omega arith, (state_small (not r.cell.full), tt)))

others_count : (last : Option Run) (n : ℕ) → (others last n).count ≡ n
others_count None n = refl
others_count (Some r) n = refl

abbrev CanEnd : Reading → Type 0
CanEnd s = (t : Reading) × (lines : List (List ℕ)) × (reads s lines ≡ Some t) × (whole t ≡ true)

data_ends : (s : Reading) (missing : ℕ) → s.stage ≡ stage.Data → FitsSoFar s → s.missing ≡ missing → CanEnd s
data_ends s zero e fits m = (record s { stage = stage.Code }, code_line ∷ [], then_reads s (record s { stage = stage.Code }) code_line [] (code_begins s e m), refl)
data_ends s (suc n) e fits m =
    let last = last_of None s.runs in
    let r = others last s.missing in
    let count : r.count ≡ s.missing = others_count last s.missing in
    let one = ran s r e (omega arith) (omega arith) (others_follow last s.missing) (others_are last s.missing (omega (arith, fits.room))) in
    let none : s.missing - r.count ≡ 0 = omega arith in
    let closed = with_runs s zero (s.runs ++ r ∷ []) in
    let taken : next s (run_line r) ≡ Some closed = one ∙ ap (λ k. Some (with_runs s k (s.runs ++ r ∷ []))) none in
    (record closed { stage = stage.Code }, run_line r ∷ code_line ∷ [], then_reads s closed (run_line r) (code_line ∷ []) taken ∙ then_reads closed (record closed { stage = stage.Code }) code_line [] (code_begins closed e refl), refl)

ends_at : (g : Stage) (s : Reading) → s.stage ≡ g → FitsSoFar s → CanEnd s
ends_at stage.Start s e fits = subst CanEnd (sym (fits.start e)) (code_draft [] [] [] [], header ∷ code_line ∷ [], refl, refl)
ends_at stage.Data s e fits = data_ends s s.missing e fits refl
ends_at stage.Code s e fits = (s, [], refl, ap whole_at e)

-- ---- the laws

whole_is : (g : Stage) → whole_at g ≡ true → g ≡ stage.Code
whole_is stage.Start e = absurd cc
whole_is stage.Data e = absurd cc
whole_is stage.Code e = refl

abbrev draft_of : Stage → ℕ → List Run → Reading → Reading
draft_of g missing runs s = record { stage = g; missing = missing; runs = runs; globals = s.globals; formats = s.formats; loops = s.loops; instrs = s.instrs }

is_code_draft : (s : Reading) → FitsSoFar s → whole s ≡ true → s ≡ code_draft s.globals s.formats s.loops s.instrs
is_code_draft s fits w =
    let code = whole_is s.stage w in
    let none = fits.no_lack code in
    ap (λ g. draft_of g s.missing s.runs s) code ∙ ap (λ m. draft_of stage.Code m s.runs s) none ∙ ap (λ (x : List Run). draft_of stage.Code 0 x s) (fits.no_runs none)

again : (s : Reading) → FitsSoFar s → whole s ≡ true → reads at_start (so_far s) ≡ Some s
again s fits w =
    subst (λ x. reads at_start (so_far x) ≡ Some x) (sym (is_code_draft s fits w))
    (code_read s.globals s.formats s.loops s.instrs fits.globals fits.formats fits.loops.0 fits.loops.1 fits.instrs)

code_fits : (c : Contents) → AllByRecursion FitGlobal c.globals → AllByRecursion FitFormat c.formats → Chain in_order None c.loops → AllByRecursion IsMark c.loops → AllByRecursion IsInstr c.instrs → FitsSoFar (code_draft c.globals c.formats c.loops c.instrs)
code_fits c g f o m i = record {
  start = λ e. absurd cc;
  no_instrs = λ e. absurd cc;
  no_lack = λ e. refl;
  no_runs = λ e. refl;
  first_of_data = λ e. absurd (omega arith);
  room = omega arith;
  runs = (tt, tt);
  globals = g;
  formats = f;
  loops = (o, m);
  instrs = i;
}

start_fits : FitsSoFar at_start
start_fits = record {
  start = λ e. refl;
  no_instrs = λ e. refl;
  no_lack = λ e. refl;
  no_runs = λ e. refl;
  first_of_data = λ e. absurd (omega arith);
  room = omega arith;
  runs = (tt, tt);
  globals = tt;
  formats = tt;
  loops = (tt, tt);
  instrs = tt;
}

pub laws : IsFormat next whole at_start so_far FitsSoFar
laws = record {
  starts = (start_fits, refl);
  grows = λ s t line fits h. grows s t line fits h;
  again = λ s fits w. again s fits w;
  no_feeds = λ s fits. free_at s.stage s fits;
  ends = λ s fits. ends_at s.stage s refl fits;
}

-- ---- the same in the words of the grammar

eq_self : (n : ℕ) → eqb n n ≡ true
eq_self n = grind (arith, nat_tests)

beq_self : (b : Bool) → beq b b ≡ true
beq_self true = refl
beq_self false = refl

differ_apart : (a b : Run) → differ a b ≡ true → a.cell ≢ b.cell
differ_apart a b h e =
    let same : not (eqb a.cell.value a.cell.value && beq a.cell.full a.cell.full) ≡ true = subst (λ (c : Cell). not (eqb a.cell.value c.value && beq a.cell.full c.full) ≡ true) (sym e) h in
    let no : not (eqb a.cell.value a.cell.value && beq a.cell.full a.cell.full) ≡ false = rw (eq_self a.cell.value, beq_self a.cell.full) refl in
    absurd cc

beq_is : (a b : Bool) → beq a b ≡ true → a ≡ b
beq_is true true e = refl
beq_is true false e = absurd cc
beq_is false true e = absurd cc
beq_is false false e = refl

cells_apart : (a b : Cell) (v f : Bool) → eqb a.value b.value ≡ v → beq a.full b.full ≡ f → a ≢ b → not (v && f) ≡ true
cells_apart a b true true p q h = absurd (h (ap (λ n. record { value = n; full = a.full }) (eqb-true _ _ p) ∙ ap (λ full. record { value = b.value; full = full }) (beq_is _ _ q)))
cells_apart a b true false p q h = refl
cells_apart a b false f p q h = refl

apart_differ : (a b : Run) → a.cell ≢ b.cell → differ a b ≡ true
apart_differ a b h = cells_apart a.cell b.cell _ _ refl refl h

order_is : (a b : LoopMark) → in_order a b ≡ true → a.id ≤ b.id
order_is a b h = grind (arith, nat_tests, h)

is_order : (a b : LoopMark) → a.id ≤ b.id → in_order a b ≡ true
is_order a b h = grind (arith, nat_tests, h)

long_runs : (runs : List Run) → AllByRecursion (λ r. 1 ≤ r.count) runs → AllByRecursion IsRun runs → AllByRecursion (λ r. (1 ≤ r.count) × IsRun r) runs
long_runs [] h k = tt
long_runs (r ∷ runs) h k = ((h.0, k.0), long_runs runs h.1 k.1)

global_fits : (runs : List Run) → IsGlobal runs × AllByRecursion IsRun runs → FitGlobal runs
global_fits runs h = (h.0.0, (chain_from differ (λ x y. x.cell ≢ y.cell) apart_differ runs h.0.2, long_runs runs (recursion_from_All (λ (x : Run). 1 ≤ x.count) runs h.0.1) h.1), h.0.3)

fits_global : (runs : List Run) → FitGlobal runs → IsGlobal runs × AllByRecursion IsRun runs
fits_global runs h = (
  (h.0, All-from_recursion (λ (x : Run). 1 ≤ x.count) runs (all_same (λ (r : Run). (1 ≤ r.count) × IsRun r) (λ r. 1 ≤ r.count) (λ r k. k.0) runs h.1.1), each_from differ (λ x y. x.cell ≢ y.cell) differ_apart runs h.1.0, h.2),
  all_same (λ (r : Run). (1 ≤ r.count) × IsRun r) IsRun (λ r k. k.1) runs h.1.1,
)

abbrev pub drafted : Contents → Reading
drafted c = code_draft c.globals c.formats c.loops c.instrs

is_drafted : (c : Contents) → IsCode c → FitsSoFar (drafted c)
is_drafted c h =
    code_fits c (all_same (λ runs. IsGlobal runs × AllByRecursion IsRun runs) FitGlobal global_fits c.globals h.globals) h.formats
    (chain_from in_order (λ x y. x.id ≤ y.id) is_order c.loops h.loops.0) h.loops.1 h.instrs

is_code : (s : Reading) → FitsSoFar s → IsCode (contents_in s)
is_code s fits = record {
  globals = all_same FitGlobal (λ runs. IsGlobal runs × AllByRecursion IsRun runs) fits_global s.globals fits.globals;
  formats = fits.formats;
  loops = (each_from in_order (λ x y. x.id ≤ y.id) order_is s.loops fits.loops.0, fits.loops.1);
  instrs = fits.instrs;
}

lines_same : (c : Contents) → so_far (drafted c) ≡ lines_of c
lines_same c =
    ap (λ (x : List (List ℕ)). header ∷ x)
    (append_assoc (flat_map global_lines c.globals) (map format_line c.formats ++ map mark_line c.loops) (code_line ∷ map instr_line c.instrs)
    ∙ ap (λ (x : List (List ℕ)). flat_map global_lines c.globals ++ x) (append_assoc (map format_line c.formats) (map mark_line c.loops) (code_line ∷ map instr_line c.instrs)))

abbrev Drafted : List ℕ → Type 0
Drafted text = InFormat whole so_far FitsSoFar text

spelled : (text : List ℕ) (s : Reading) → LinesSpell whole so_far FitsSoFar text s → Spells text (contents_in s)
spelled text s h = record {
  is_code = is_code s h.fits;
  is_text = h.is_text ∙ ap with_feeds (ap so_far (is_code_draft s h.fits h.is_whole) ∙ lines_same (contents_in s));
}

spelled_by : (text : List ℕ) (c : Contents) → Spells text c → LinesSpell whole so_far FitsSoFar text (drafted c)
spelled_by text c h = record { fits = is_drafted c h.is_code; is_whole = refl; is_text = h.is_text ∙ ap with_feeds (sym (lines_same c)) }

abbrev read_from_start : List ℕ → Result Reading ℕ
read_from_start text = read_pieces next whole at_start 1 (pieces text)

pub code_found : (text : List ℕ) (s : Reading) → read_from_start text ≡ Ok s → Spells text (contents_in s)
code_found text s e = spelled text s (is_found next whole at_start so_far FitsSoFar laws text s e)

pub code_only : (text : List ℕ) (c : Contents) → Spells text c → read_from_start text ≡ Ok (drafted c)
code_only text c h = is_only next whole at_start so_far FitsSoFar laws text (drafted c) (spelled_by text c h)

pub code_bad : (text : List ℕ) (k : ℕ) → read_from_start text ≡ Err k → IsFirstBad IsAssembly text k
code_bad text k e =
    first_bad_same Drafted IsAssembly (λ t d. (contents_in d.0, spelled t d.0 d.1)) (λ t d. (drafted d.0, spelled_by t d.0 d.1)) text k
    (is_first_bad next whole at_start so_far FitsSoFar laws text k e)

-- ---- how many lines there are

sum_same : {X : Type 0} (f g : X → ℕ) → ((x : X) → f x ≡ g x) → (xs : List X) → sum_by f xs ≡ sum_by g xs
sum_same f g e [] = refl
sum_same f g e (x ∷ xs) = omega (arith, sum_by-cons f x xs, sum_by-cons g x xs, e x, sum_same f g e xs)

global_count : (runs : List Run) → length (global_lines runs) ≡ 1 + length runs
global_count runs = omega (arith, length-map runs run_line)

count_is : (c : Contents) → length (lines_of c) ≡ count_lines c.globals c.formats c.loops c.instrs
count_is c =
    let f = length-flat_map global_lines c.globals ∙ sum_same (λ x. length (global_lines x)) (λ (x : List Run). 1 + length x) global_count c.globals in
    omega (arith, f, length-append (flat_map global_lines c.globals) (map format_line c.formats ++ (map mark_line c.loops ++ code_line ∷ map instr_line c.instrs)), length-append (map format_line c.formats) (map mark_line c.loops ++ code_line ∷ map instr_line c.instrs), length-append (map mark_line c.loops) (code_line ∷ map instr_line c.instrs), length-map c.formats format_line, length-map c.loops mark_line, length-map c.instrs instr_line)

pub feeds_are : (text : List ℕ) (c : Contents) → Spells text c → count_by is_feed text ≡ count_lines c.globals c.formats c.loops c.instrs
feeds_are text c h =
    let free = subst (λ (x : List (List ℕ)). AllByRecursion HasNoFeed x) (lines_same c) (free_at stage.Code (drafted c) (is_drafted c h.is_code)) in
    ap (count_by is_feed) h.is_text ∙ count-with_feeds (lines_of c) free ∙ count_is c

pub has_text : (text : List ℕ) (c : Contents) → HasFewLines text → Spells text c → HasText c.globals c.formats c.loops c.instrs
has_text text c few h = record {
  each_global = All-from_recursion IsGlobal c.globals (all_same (λ runs. IsGlobal runs × AllByRecursion IsRun runs) IsGlobal (λ runs k. k.0) c.globals h.is_code.globals);
  each_format = All-from_recursion IsPrintf c.formats (all_same FitFormat IsPrintf (λ bytes k. k.0) c.formats h.is_code.formats);
  in_order = h.is_code.loops.0;
  short = omega (arith, few, feeds_are text c h);
}

-- ---- what an error says

pub line_err : (fault : ReadFault) (s : Reading) (read : Result Reading ℕ) (k : ℕ) → Reads (Err fault) s read → fault_of fault ≡ Line k → read ≡ Err k
line_err (reading.Line j) s read k r e = let same : j ≡ k = cc in r ∙ ap Err same
line_err reading.NoMemory s read k r e = absurd cc

pub only_err : (fault : ReadFault) (s t : Reading) (read : Result Reading ℕ) → Reads (Err fault) s read → read ≡ Ok t → fault_of fault ≡ NoMemory
only_err (reading.Line j) s t read r e = absurd cc
only_err reading.NoMemory s t read r e = refl

abbrev read_as : Reading → Result Reading ℕ
read_as s = Ok s

pub same_contents : (s t : Reading) → read_as s ≡ read_as t → contents_in s ≡ contents_in t
same_contents s t e = let same : s ≡ t = cc in ap contents_in same
