-- A line that is taken is one more line of the draft.
use Rattle.std.proofs.Common.{◌≡◌, ℕ, zero, suc, ◌+◌, ◌-◌, ◌^◌, ◌<◌, ◌≤◌, leb, eqb, true, ◌&&◌, List, [], ◌∷◌, ◌++◌, length, map, Option, Some, None, refl, sym, ap, subst, ◌∙◌, append_assoc, arith}
use Rattle.std.specs.List.{AllByRecursion, flat_map, join_with_byte}
use Rattle.std.specs.Prelude.{is_some, IsSome}
use Rattle.std.specs.Str.{bytes_eq}
use Rattle.std.proofs.lemmas.Bool.{and_parts, eqb-true}
use Rattle.std.proofs.lemmas.Bool.Decides.{nat_tests}
use Rattle.std.proofs.lemmas.Grind.{flat_map-append}
use Rattle.std.proofs.lemmas.List.{map_push, append-nil, nil_from_length}
use Rattle.std.proofs.lemmas.List.Concat.{flat_map-cons}
use Rattle.std.proofs.lemmas.List.Sums.{sum_by_push}
use Rattle.std.proofs.lemmas.Option.{cond_some, same_Some}
use Rattle.std.proofs.lemmas.Slice.Eq.{bytes_eq-Decides}
use Rattle.xc_text_format.specs.Pieces.{pieces_of}
use Rattle.xc_text_lines.specs.Lines.{words_of}
use Rattle.xc_isa.specs.declared.code.Run.{Run}
use Rattle.xc_isa.specs.declared.code.LoopMark.{LoopMark}
use Rattle.xc_isa.specs.declared.instr.Instr.{Instr}
use Rattle.xc_isa.specs.Texts.{size_of}
use Rattle.xc_isa_text.specs.declared.keyword.Keyword.{Keyword}
use Rattle.xc_isa_text.specs.declared.keyword.Keyword.TheVariants as keyword
use Rattle.xc_isa_text.specs.declared.draft.Stage.{Stage}
use Rattle.xc_isa_text.specs.declared.draft.Stage.TheVariants as stage
use Rattle.xc_isa_text.specs.Operands.{Number, Value, State}
use Rattle.xc_isa_text.specs.InnerOperands.{numbers_in, none_left}
use Rattle.xc_isa_text.specs.Instructions.{instr_line, IsInstr}
use Rattle.xc_isa_text.specs.InnerInstructions.{instr_in}
use Rattle.xc_isa_text.specs.Texts.{header, global_line, run_line, global_lines, format_line, mark_line, code_line, IsRun, IsMark}
use Rattle.xc_isa_text.specs.Readings.{Reading}
use Rattle.xc_isa_text.specs.InnerReadings.{at_start, last_of, may_follow, differ, in_order, keyword_name, with_global, with_runs, with_run, bytes_in, with_format, with_mark, with_code, with_data, with_instr, next_at, next}
use Rattle.xc_isa_text.proofs.Chains.{Chain, chain_push, all_push}
use Rattle.xc_isa_text.proofs.OperandLaws.{bind_some}
use Rattle.xc_isa_text.proofs.InstrLaws.{line_spelled}
use Rattle.xc_isa_text.proofs.DataLines.{data_of, one_number, run_is, mark_is, bytes_are, nothing_left}
use Rattle.xc_isa_text.proofs.Drafted.{open_lines, data_lines, data_in, so_far_at, so_far, FitRuns, FitGlobal, FitFormat, FitsSoFar}

abbrev pub Grows : Reading → Reading → List ℕ → Type 0
Grows s t line = FitsSoFar t × (so_far t ≡ so_far s ++ line ∷ [])

empty_from : {X : Type 0} (xs : List X) → eqb (length xs) 0 ≡ true → xs ≡ []
empty_from xs e = nil_from_length xs (eqb-true _ _ e)

data_is : (s : Reading) → s.stage ≡ stage.Data → so_far s ≡ header ∷ data_in s
data_is s e = ap (λ g. so_far_at g s) e

-- a draft of data whose lines grow by one
data_grows : (s t : Reading) (line : List ℕ) → s.stage ≡ stage.Data → t.stage ≡ stage.Data → data_in t ≡ data_in s ++ line ∷ [] → so_far t ≡ so_far s ++ line ∷ []
data_grows s t line e f h = data_is t f ∙ ap (λ (x : List (List ℕ)). header ∷ x) h ∙ sym (ap (λ (x : List (List ℕ)). x ++ line ∷ []) (data_is s e))

-- ---- a global begins

open_one : (n : ℕ) → 1 ≤ n → open_lines n [] ≡ global_line n ∷ []
open_one zero h = absurd (omega arith)
open_one (suc n) h = let e : 0 + suc n ≡ suc n = omega arith in ap (λ k. global_line k ∷ []) e

global_lines_grow : (globals : List (List Run)) (m n : ℕ) (runs : List Run) (formats : List (List ℕ)) (loops : List LoopMark) → m ≡ 0 → runs ≡ [] → formats ≡ [] → loops ≡ [] → 1 ≤ n
    → data_lines globals n runs formats loops ≡ data_lines globals m runs formats loops ++ global_line n ∷ []
global_lines_grow globals m n runs formats loops a b c d h =
    rw (a, b, c, d, open_one n h) (ap (λ (x : List (List ℕ)). x ++ global_line n ∷ []) (sym (append-nil (flat_map global_lines globals))))

record MayOpen (s : Reading) (n : ℕ) : Type 0 where
  some : 1 ≤ n
  none : s.missing ≡ 0
  formats : s.formats ≡ []
  loops : s.loops ≡ []

may_open : (s : Reading) (n : ℕ) → (leb 1 n && (eqb s.missing 0 && (eqb (length s.formats) 0 && eqb (length s.loops) 0))) ≡ true → MayOpen s n
may_open s n h =
    let a = and_parts (leb 1 n) (eqb s.missing 0 && (eqb (length s.formats) 0 && eqb (length s.loops) 0)) h in
    let b = and_parts (eqb s.missing 0) (eqb (length s.formats) 0 && eqb (length s.loops) 0) a.1 in
    let c = and_parts (eqb (length s.formats) 0) (eqb (length s.loops) 0) b.1 in
    record { some = grind (arith, nat_tests, a.0); none = eqb-true _ _ b.0; formats = empty_from s.formats c.0; loops = empty_from s.loops c.1 }

global_opened : (s : Reading) (n : ℕ) → s.stage ≡ stage.Data → FitsSoFar s → MayOpen s n → n < 2 ^ 32 → Grows s (record s { missing = n }) (global_line n)
global_opened s n e fits may h =
    let none : s.runs ≡ [] = fits.no_runs may.none in (
      record {
        start = λ f. absurd (let g : stage.Data ≡ stage.Start = sym e ∙ f in cc);
        no_instrs = fits.no_instrs;
        no_lack = λ f. absurd (let g : stage.Data ≡ stage.Code = sym e ∙ f in cc);
        no_runs = λ f. none;
        first_of_data = λ f. (may.formats, may.loops);
        room = rw none (omega arith);
        runs = fits.runs;
        globals = fits.globals;
        formats = fits.formats;
        loops = fits.loops;
        instrs = fits.instrs;
      },
      data_grows s (record s { missing = n }) (global_line n) e e (global_lines_grow s.globals s.missing n s.runs s.formats s.loops may.none none may.formats may.loops may.some),
    )

global_grows : (s t : Reading) (ws : List (List ℕ)) → s.stage ≡ stage.Data → FitsSoFar s → with_data s ws keyword.Global ≡ Some t → Grows s t (join_with_byte 32 (keyword_name keyword.Global ∷ ws))
global_grows s t ws e fits h =
    let a = bind_some (numbers_in (Number ∷ []) ws) (with_global s) t h in
    let n = one_number ws a.0 a.1 in
    let does : with_global s (n.0 ∷ []) ≡ Some t = ap (with_global s) (sym n.1) ∙ a.2 in
    let c = cond_some _ (record s { missing = n.0 }) t does in
    let grown = global_opened s n.0 e fits (may_open s n.0 c.0) n.2 in
    subst (λ (x : List (List ℕ)). Grows s t (join_with_byte 32 (keyword_name keyword.Global ∷ x))) (sym n.3) (subst (λ x. Grows s x (global_line n.0)) c.1 grown)

-- ---- a run follows

record MayRun (s : Reading) (r : Run) : Type 0 where
  some : 1 ≤ r.count
  fits : r.count ≤ s.missing
  other : may_follow differ (last_of None s.runs) r ≡ true

may_run : (s : Reading) (r : Run) → (leb 1 r.count && (leb r.count s.missing && may_follow differ (last_of None s.runs) r)) ≡ true → MayRun s r
may_run s r h =
    let a = and_parts (leb 1 r.count) (leb r.count s.missing && may_follow differ (last_of None s.runs) r) h in
    let b = and_parts (leb r.count s.missing) (may_follow differ (last_of None s.runs) r) a.1 in
    record { some = grind (arith, nat_tests, a.0); fits = grind (arith, nat_tests, b.0); other = b.1 }

runs_push : (s : Reading) (r : Run) → FitRuns s.runs → MayRun s r → IsRun r → FitRuns (s.runs ++ r ∷ [])
runs_push s r fit may is = (chain_push differ None s.runs r fit.0 may.other, all_push (λ (x : Run). (1 ≤ x.count) × IsRun x) s.runs r fit.1 (may.some, is))

size_push : (runs : List Run) (r : Run) → size_of (runs ++ r ∷ []) ≡ size_of runs + r.count
size_push runs r = sum_by_push (λ (x : Run). x.count) runs r

pub some_push : {X : Type 0} (xs : List X) (x : X) → 1 ≤ length (xs ++ x ∷ [])
some_push [] x = omega arith
some_push (y ∷ xs) x = omega arith

-- the lines of the last global, with one more run
open_push : (missing : ℕ) (runs : List Run) (r : Run) (size : ℕ) → 1 ≤ missing → size ≡ size_of runs + missing → global_line size ∷ map run_line (runs ++ r ∷ []) ≡ open_lines missing runs ++ run_line r ∷ []
open_push zero runs r size h e = absurd (omega arith)
open_push (suc n) runs r size h e = rw e (ap (λ (x : List (List ℕ)). global_line (size_of runs + suc n) ∷ x) (map_push run_line runs r))

closed_lines : (globals : List (List Run)) (missing : ℕ) (runs : List Run) (formats : List (List ℕ)) (loops : List LoopMark) (r : Run) → formats ≡ [] → loops ≡ [] → 1 ≤ missing → r.count ≡ missing
    → data_lines (globals ++ (runs ++ r ∷ []) ∷ []) 0 [] formats loops ≡ data_lines globals missing runs formats loops ++ run_line r ∷ []
closed_lines globals missing runs formats loops r a b some all =
    let last : global_lines (runs ++ r ∷ []) ≡ open_lines missing runs ++ run_line r ∷ [] =
    open_push missing runs r (size_of (runs ++ r ∷ [])) some (size_push runs r ∙ ap (λ n. size_of runs + n) all) in
    rw (a, b) (
    append-nil (flat_map global_lines (globals ++ (runs ++ r ∷ []) ∷ []))
    ∙ flat_map-append global_lines globals ((runs ++ r ∷ []) ∷ [])
    ∙ ap (λ (x : List (List ℕ)). flat_map global_lines globals ++ x) (flat_map-cons global_lines (runs ++ r ∷ []) [] ∙ append-nil (global_lines (runs ++ r ∷ [])) ∙ last)
    ∙ sym (append_assoc (flat_map global_lines globals) (open_lines missing runs) (run_line r ∷ []))
    ∙ ap (λ (x : List (List ℕ)). (flat_map global_lines globals ++ x) ++ run_line r ∷ []) (sym (append-nil (open_lines missing runs)))
    )

more_lines : (globals : List (List Run)) (missing n : ℕ) (runs : List Run) (formats : List (List ℕ)) (loops : List LoopMark) (r : Run) → formats ≡ [] → loops ≡ [] → 1 ≤ missing → missing ≡ r.count + suc n
    → data_lines globals (suc n) (runs ++ r ∷ []) formats loops ≡ data_lines globals missing runs formats loops ++ run_line r ∷ []
more_lines globals missing n runs formats loops r a b some left =
    let size : size_of (runs ++ r ∷ []) + suc n ≡ size_of runs + missing = omega (arith, size_push runs r) in
    let last : open_lines (suc n) (runs ++ r ∷ []) ≡ open_lines missing runs ++ run_line r ∷ [] =
    open_push missing runs r (size_of (runs ++ r ∷ []) + suc n) some size in
    rw (a, b) (
    ap (λ (x : List (List ℕ)). flat_map global_lines globals ++ x) (append-nil (open_lines (suc n) (runs ++ r ∷ [])) ∙ last)
    ∙ sym (append_assoc (flat_map global_lines globals) (open_lines missing runs) (run_line r ∷ []))
    ∙ ap (λ (x : List (List ℕ)). (flat_map global_lines globals ++ x) ++ run_line r ∷ []) (sym (append-nil (open_lines missing runs)))
    )

run_added : (s : Reading) (r : Run) (left : ℕ) → s.stage ≡ stage.Data → FitsSoFar s → MayRun s r → IsRun r → s.missing - r.count ≡ left → Grows s (with_runs s left (s.runs ++ r ∷ [])) (run_line r)
run_added s r zero e fits may is f =
    let some : 0 < s.missing = omega (arith, may.some, may.fits) in
    let first = fits.first_of_data some in
    let all : r.count ≡ s.missing = omega (arith, may.fits) in
    let whole : FitGlobal (s.runs ++ r ∷ []) =
    (some_push s.runs r, runs_push s r fits.runs may is, omega (arith, fits.room, size_push s.runs r)) in (
      record {
        start = λ g. absurd (let k : stage.Data ≡ stage.Start = sym e ∙ g in cc);
        no_instrs = fits.no_instrs;
        no_lack = λ g. refl;
        no_runs = λ g. refl;
        first_of_data = λ g. absurd (omega arith);
        room = omega arith;
        runs = (tt, tt);
        globals = all_push FitGlobal s.globals (s.runs ++ r ∷ []) fits.globals whole;
        formats = fits.formats;
        loops = fits.loops;
        instrs = fits.instrs;
      },
      data_grows s (with_runs s zero (s.runs ++ r ∷ [])) (run_line r) e e (closed_lines s.globals s.missing s.runs s.formats s.loops r first.0 first.1 some all),
    )
run_added s r (suc n) e fits may is f =
    let some : 0 < s.missing = omega (arith, may.some, may.fits) in
    let first = fits.first_of_data some in
    let left : s.missing ≡ r.count + suc n = omega (arith, may.fits) in (
      record {
        start = λ g. absurd (let k : stage.Data ≡ stage.Start = sym e ∙ g in cc);
        no_instrs = fits.no_instrs;
        no_lack = λ g. absurd (let k : stage.Data ≡ stage.Code = sym e ∙ g in cc);
        no_runs = λ g. absurd (omega arith);
        first_of_data = λ g. first;
        room = omega (arith, fits.room, size_push s.runs r);
        runs = runs_push s r fits.runs may is;
        globals = fits.globals;
        formats = fits.formats;
        loops = fits.loops;
        instrs = fits.instrs;
      },
      data_grows s (with_runs s (suc n) (s.runs ++ r ∷ [])) (run_line r) e e (more_lines s.globals s.missing n s.runs s.formats s.loops r first.0 first.1 some left),
    )

run_grows : (s t : Reading) (ws : List (List ℕ)) → s.stage ≡ stage.Data → FitsSoFar s → with_data s ws keyword.Cells ≡ Some t → Grows s t (join_with_byte 32 (keyword_name keyword.Cells ∷ ws))
run_grows s t ws e fits h =
    let a = bind_some (numbers_in (Number ∷ Value ∷ State ∷ []) ws) (with_run s) t h in
    let r = run_is s t ws a.0 a.1 a.2 in
    let c = cond_some _ (with_runs s (s.missing - r.0.count) (s.runs ++ r.0 ∷ [])) t r.3 in
    let grown = run_added s r.0 (s.missing - r.0.count) e fits (may_run s r.0 c.0) r.2 refl in
    subst (λ (x : List (List ℕ)). Grows s t (join_with_byte 32 (keyword_name keyword.Cells ∷ x))) (sym r.1) (subst (λ x. Grows s x (run_line r.0)) c.1 grown)

-- ---- a format, a mark

format_lines_grow : (globals : List (List Run)) (m : ℕ) (runs : List Run) (formats : List (List ℕ)) (loops : List LoopMark) (bytes : List ℕ) → m ≡ 0 → loops ≡ []
    → data_lines globals m runs (formats ++ bytes ∷ []) loops ≡ data_lines globals m runs formats loops ++ format_line bytes ∷ []
format_lines_grow globals m runs formats loops bytes a b =
    rw (a, b) (
    ap (λ (x : List (List ℕ)). flat_map global_lines globals ++ x) (append-nil (map format_line (formats ++ bytes ∷ [])) ∙ map_push format_line formats bytes)
    ∙ sym (append_assoc (flat_map global_lines globals) (map format_line formats) (format_line bytes ∷ []))
    ∙ ap (λ (x : List (List ℕ)). (flat_map global_lines globals ++ x) ++ format_line bytes ∷ []) (sym (append-nil (map format_line formats)))
    )

is_some_true : {X : Type 0} (o : Option X) → is_some o ≡ true → IsSome o
is_some_true None e = absurd cc
is_some_true (Some x) e = refl

-- other formats and marks, where no cell is missing
listed : (s : Reading) (formats : List (List ℕ)) (loops : List LoopMark) → s.stage ≡ stage.Data → s.missing ≡ 0 → FitsSoFar s → AllByRecursion FitFormat formats → Chain in_order None loops × AllByRecursion IsMark loops
    → FitsSoFar (record s { formats = formats; loops = loops })
listed s formats loops e none fits f l = record {
  start = λ g. absurd (let k : stage.Data ≡ stage.Start = sym e ∙ g in cc);
  no_instrs = fits.no_instrs;
  no_lack = fits.no_lack;
  no_runs = fits.no_runs;
  first_of_data = λ g. absurd (omega arith);
  room = fits.room;
  runs = fits.runs;
  globals = fits.globals;
  formats = f;
  loops = l;
  instrs = fits.instrs;
}

format_grows : (s t : Reading) (ws : List (List ℕ)) → s.stage ≡ stage.Data → FitsSoFar s → with_data s ws keyword.Format ≡ Some t → Grows s t (join_with_byte 32 (keyword_name keyword.Format ∷ ws))
format_grows s t ws e fits h =
    let a = bind_some (bytes_in ws) (with_format s) t h in
    let are = bytes_are ws a.0 a.1 in
    let c = cond_some _ (record s { formats = s.formats ++ a.0 ∷ [] }) t a.2 in
    let p = and_parts (eqb s.missing 0) (eqb (length s.loops) 0 && is_some (pieces_of a.0)) c.0 in
    let q = and_parts (eqb (length s.loops) 0) (is_some (pieces_of a.0)) p.1 in
    let none : s.missing ≡ 0 = eqb-true _ _ p.0 in
    let grown : Grows s (record s { formats = s.formats ++ a.0 ∷ [] }) (format_line a.0) = (
      listed s (s.formats ++ a.0 ∷ []) s.loops e none fits (all_push FitFormat s.formats a.0 fits.formats (is_some_true (pieces_of a.0) q.1, are.1)) fits.loops,
      data_grows s (record s { formats = s.formats ++ a.0 ∷ [] }) (format_line a.0) e e (format_lines_grow s.globals s.missing s.runs s.formats s.loops a.0 none (empty_from s.loops q.0)),
    ) in
    subst (λ (x : List (List ℕ)). Grows s t (join_with_byte 32 (keyword_name keyword.Format ∷ x))) (sym are.0) (subst (λ x. Grows s x (format_line a.0)) c.1 grown)

mark_lines_grow : (globals : List (List Run)) (m : ℕ) (runs : List Run) (formats : List (List ℕ)) (loops : List LoopMark) (mark : LoopMark)
    → data_lines globals m runs formats (loops ++ mark ∷ []) ≡ data_lines globals m runs formats loops ++ mark_line mark ∷ []
mark_lines_grow globals m runs formats loops mark =
    ap (λ (x : List (List ℕ)). flat_map global_lines globals ++ (open_lines m runs ++ (map format_line formats ++ x))) (map_push mark_line loops mark)
    ∙ simp append_assoc

mark_grows : (s t : Reading) (ws : List (List ℕ)) → s.stage ≡ stage.Data → FitsSoFar s → with_data s ws keyword.Loop ≡ Some t → Grows s t (join_with_byte 32 (keyword_name keyword.Loop ∷ ws))
mark_grows s t ws e fits h =
    let a = bind_some (numbers_in (Number ∷ Number ∷ Number ∷ Number ∷ Number ∷ []) ws) (with_mark s) t h in
    let m = mark_is s t ws a.0 a.1 a.2 in
    let c = cond_some _ (record s { loops = s.loops ++ m.0 ∷ [] }) t m.3 in
    let p = and_parts (eqb s.missing 0) (may_follow in_order (last_of None s.loops) m.0) c.0 in
    let none : s.missing ≡ 0 = eqb-true _ _ p.0 in
    let grown : Grows s (record s { loops = s.loops ++ m.0 ∷ [] }) (mark_line m.0) = (
      listed s s.formats (s.loops ++ m.0 ∷ []) e none fits fits.formats (chain_push in_order None s.loops m.0 fits.loops.0 p.1, all_push IsMark s.loops m.0 fits.loops.1 m.2),
      data_grows s (record s { loops = s.loops ++ m.0 ∷ [] }) (mark_line m.0) e e (mark_lines_grow s.globals s.missing s.runs s.formats s.loops m.0),
    ) in
    subst (λ (x : List (List ℕ)). Grows s t (join_with_byte 32 (keyword_name keyword.Loop ∷ x))) (sym m.1) (subst (λ x. Grows s x (mark_line m.0)) c.1 grown)

-- ---- the instructions begin

code_grows : (s t : Reading) (ws : List (List ℕ)) → s.stage ≡ stage.Data → FitsSoFar s → with_data s ws keyword.Code ≡ Some t → Grows s t (join_with_byte 32 (keyword_name keyword.Code ∷ ws))
code_grows s t ws e fits h =
    let a = bind_some (none_left ws) (with_code s) t h in
    let left = nothing_left ws a.0 a.1 in
    let does : with_code s [] ≡ Some t = ap (with_code s) (sym left.1) ∙ a.2 in
    let c = cond_some _ (record s { stage = stage.Code }) t does in
    let lines : so_far (record s { stage = stage.Code }) ≡ so_far s ++ code_line ∷ [] =
    ap (λ (x : List Instr). header ∷ (data_in s ++ code_line ∷ map instr_line x)) (fits.no_instrs e) ∙ sym (ap (λ (x : List (List ℕ)). x ++ code_line ∷ []) (data_is s e)) in
    let grown : Grows s (record s { stage = stage.Code }) code_line = (
      record {
        start = λ g. absurd cc;
        no_instrs = λ g. absurd cc;
        no_lack = λ g. eqb-true _ _ c.0;
        no_runs = fits.no_runs;
        first_of_data = fits.first_of_data;
        room = fits.room;
        runs = fits.runs;
        globals = fits.globals;
        formats = fits.formats;
        loops = fits.loops;
        instrs = fits.instrs;
      },
      lines,
    ) in
    subst (λ (x : List (List ℕ)). Grows s t (join_with_byte 32 (keyword_name keyword.Code ∷ x))) (sym left.0) (subst (λ x. Grows s x code_line) c.1 grown)

-- ---- any line

keyword_grows : (s t : Reading) (ws : List (List ℕ)) (k : Keyword) → s.stage ≡ stage.Data → FitsSoFar s → with_data s ws k ≡ Some t → Grows s t (join_with_byte 32 (keyword_name k ∷ ws))
keyword_grows s t ws keyword.Global e fits h = global_grows s t ws e fits h
keyword_grows s t ws keyword.Cells e fits h = run_grows s t ws e fits h
keyword_grows s t ws keyword.Format e fits h = format_grows s t ws e fits h
keyword_grows s t ws keyword.Loop e fits h = mark_grows s t ws e fits h
keyword_grows s t ws keyword.Code e fits h = code_grows s t ws e fits h

instr_grows : (s : Reading) (i : Instr) → s.stage ≡ stage.Code → FitsSoFar s → IsInstr i → Grows s (record s { instrs = s.instrs ++ i ∷ [] }) (instr_line i)
instr_grows s i e fits is = (
  record {
    start = λ g. absurd (let k : stage.Code ≡ stage.Start = sym e ∙ g in cc);
    no_instrs = λ g. absurd (let k : stage.Code ≡ stage.Data = sym e ∙ g in cc);
    no_lack = fits.no_lack;
    no_runs = fits.no_runs;
    first_of_data = fits.first_of_data;
    room = fits.room;
    runs = fits.runs;
    globals = fits.globals;
    formats = fits.formats;
    loops = fits.loops;
    instrs = all_push IsInstr s.instrs i fits.instrs is;
  },
  ap (λ g. so_far_at g (record s { instrs = s.instrs ++ i ∷ [] })) e
      ∙ ap (λ (x : List (List ℕ)). header ∷ (data_in s ++ code_line ∷ x)) (map_push instr_line s.instrs i)
      ∙ ap (λ (x : List (List ℕ)). header ∷ x) (sym (append_assoc (data_in s) (code_line ∷ map instr_line s.instrs) (instr_line i ∷ [])))
      ∙ sym (ap (λ (x : List (List ℕ)). x ++ instr_line i ∷ []) (ap (λ g. so_far_at g s) e)),
)

grows_at : (g : Stage) (s t : Reading) (line : List ℕ) → s.stage ≡ g → FitsSoFar s → next_at g s line ≡ Some t → Grows s t line
grows_at stage.Start s t line e fits h =
    let c = cond_some (bytes_eq line header) (record s { stage = stage.Data }) t h in
    let is : line ≡ header = (bytes_eq-Decides line header).0 c.0 in
    let empty : s ≡ at_start = fits.start e in
    let grown : Grows at_start (record at_start { stage = stage.Data }) line = (
      record {
        start = λ g. absurd cc;
        no_instrs = λ g. refl;
        no_lack = λ g. refl;
        no_runs = λ g. refl;
        first_of_data = λ g. absurd (omega arith);
        room = omega arith;
        runs = (tt, tt);
        globals = tt;
        formats = tt;
        loops = (tt, tt);
        instrs = tt;
      },
      ap (λ (x : List ℕ). x ∷ []) (sym is),
    ) in
    subst (λ x. Grows s x line) c.1 (subst (λ x. Grows x (record x { stage = stage.Data }) line) (sym empty) grown)
grows_at stage.Data s t line e fits h =
    let d = data_of s t line h in
    subst (Grows s t) (sym d.is) (keyword_grows s t d.words d.keyword e fits d.does)
grows_at stage.Code s t line e fits h =
    let a = bind_some (instr_in (words_of line)) (with_instr s) t h in
    let is = line_spelled line a.0 a.1 in
    subst (Grows s t) (sym is.0) (subst (λ x. Grows s x (instr_line a.0)) (same_Some _ _ a.2) (instr_grows s a.0 e fits is.1))

pub grows : (s t : Reading) (line : List ℕ) → FitsSoFar s → next s line ≡ Some t → Grows s t line
grows s t line fits h = grows_at s.stage s t line refl fits h
