-- The lines of a draft are read to it.
use Rattle.std.proofs.Common.{◌≡◌, ℕ, zero, suc, ◌+◌, ◌-◌, ◌^◌, ◌<◌, ◌≤◌, leb, eqb, Bool, true, false, ◌&&◌, cond, List, [], ◌∷◌, ◌++◌, map, Option, Some, None, refl, sym, ap, subst, ◌∙◌, append_assoc, arith}
use Rattle.std.specs.List.{AllByRecursion, flat_map}
use Rattle.std.specs.Prelude.{is_some}
use Rattle.std.proofs.lemmas.Bool.Decides.{nat_tests}
use Rattle.std.proofs.lemmas.List.{append-nil}
use Rattle.std.proofs.lemmas.List.Sums.{sum_by-cons}
use Rattle.xc_text_format.specs.Pieces.{pieces_of}
use Rattle.xc_text_lines.specs.Lines.{at_option}
use Rattle.xc_text_lines.specs.InnerGrammar.{runs as runs_lines}
use Rattle.xc_text_lines.proofs.Laws.{runs_append}
use Rattle.xc_isa.specs.declared.code.Run.{Run}
use Rattle.xc_isa.specs.declared.code.LoopMark.{LoopMark}
use Rattle.xc_isa.specs.declared.instr.Instr.{Instr}
use Rattle.xc_isa.specs.Texts.{size_of}
use Rattle.xc_isa_text.specs.declared.draft.Stage.TheVariants as stage
use Rattle.xc_isa_text.specs.Instructions.{instr_line, IsInstr}
use Rattle.xc_isa_text.specs.Texts.{global_line, run_line, global_lines, format_line, mark_line, code_line, IsRun, IsMark}
use Rattle.xc_isa_text.specs.Readings.{Reading}
use Rattle.xc_isa_text.specs.InnerReadings.{at_start, last_of, may_follow, differ, in_order, with_runs, next_at, next, whole}
use Rattle.xc_isa_text.proofs.Chains.{last_push, Chain}
use Rattle.xc_isa_text.proofs.InstrLaws.{line_again}
use Rattle.xc_isa_text.proofs.DataLines.{global_again, run_again, format_again, mark_again, code_again}
use Rattle.xc_isa_text.proofs.Drafted.{so_far, FitGlobal, FitFormat}

abbrev pub reads : Reading → List (List ℕ) → Option Reading
reads s lines = runs_lines next s lines

-- one line, and then the others
pub then_reads : (s t : Reading) (line : List ℕ) (lines : List (List ℕ)) → next s line ≡ Some t → reads s (line ∷ lines) ≡ reads t lines
then_reads s t line lines e = ap (λ (x : Option Reading). at_option x None (λ u. reads u lines)) e

pub cond_true : {X : Type 0} (b : Bool) (x y : X) → b ≡ true → cond b x y ≡ x
cond_true true x y e = refl
cond_true false x y e = absurd cc

both : (a b : Bool) → a ≡ true → b ≡ true → (a && b) ≡ true
both true b e f = f
both false b e f = absurd cc

le_true : (a b : ℕ) → a ≤ b → leb a b ≡ true
le_true a b h = grind (arith, nat_tests, h)

-- a draft of data
abbrev pub data_draft : List (List Run) → ℕ → List Run → List (List ℕ) → List LoopMark → Reading
data_draft globals missing runs formats loops = record { stage = stage.Data; missing = missing; runs = runs; globals = globals; formats = formats; loops = loops; instrs = [] }

abbrev pub code_draft : List (List Run) → List (List ℕ) → List LoopMark → List Instr → Reading
code_draft globals formats loops instrs = record { stage = stage.Code; missing = 0; runs = []; globals = globals; formats = formats; loops = loops; instrs = instrs }

-- ---- globals

opened : (front : List (List Run)) (n : ℕ) → 1 ≤ n → n < 2 ^ 32 → next (data_draft front 0 [] [] []) (global_line n) ≡ Some (data_draft front n [] [] [])
opened front n h k = global_again (data_draft front 0 [] [] []) n k ∙ cond_true (leb 1 n && true) _ _ (both (leb 1 n) true (le_true 1 n h) refl)

pub ran : (s : Reading) (r : Run) → s.stage ≡ stage.Data → 1 ≤ r.count → r.count ≤ s.missing → may_follow differ (last_of None s.runs) r ≡ true → IsRun r
    → next s (run_line r) ≡ Some (with_runs s (s.missing - r.count) (s.runs ++ r ∷ []))
ran s r e some fits other is =
    let test = both (leb 1 r.count) _ (le_true 1 r.count some) (both (leb r.count s.missing) _ (le_true r.count s.missing fits) other) in
    ap (λ g. next_at g s (run_line r)) e ∙ run_again s r is ∙ cond_true (leb 1 r.count && (leb r.count s.missing && may_follow differ (last_of None s.runs) r)) _ _ test

with_more : (front : List (List Run)) (m n : ℕ) (done runs : List Run) → 1 ≤ n → with_runs (data_draft front m done [] []) n runs ≡ data_draft front n runs [] []
with_more front m zero done runs h = absurd (omega arith)
with_more front m (suc n) done runs h = refl

abbrev IsLong : Run → Type 0
IsLong r = (1 ≤ r.count) × IsRun r

size_cons : (r : Run) (runs : List Run) → size_of (r ∷ runs) ≡ r.count + size_of runs
size_cons r runs = sum_by-cons (λ (x : Run). x.count) r runs

pub some_size : (r : Run) (runs : List Run) → 1 ≤ r.count → 1 ≤ size_of (r ∷ runs)
some_size r runs h = omega (arith, size_cons r runs)

runs_read : (front : List (List Run)) (done : List Run) (r : Run) (todo : List Run) → Chain differ (last_of None done) (r ∷ todo) → AllByRecursion IsLong (r ∷ todo)
    → reads (data_draft front (size_of (r ∷ todo)) done [] []) (map run_line (r ∷ todo)) ≡ Some (data_draft (front ++ (done ++ r ∷ todo) ∷ []) 0 [] [] [])
runs_read front done r [] h k =
    let all : size_of (r ∷ []) ≡ r.count = omega (arith, size_cons r []) in
    let none : size_of (r ∷ []) - r.count ≡ 0 = omega arith in
    let one = ran (data_draft front (size_of (r ∷ [])) done [] []) r refl k.0.0 (omega arith) h.0 k.0.1 in
    then_reads (data_draft front (size_of (r ∷ [])) done [] []) _ (run_line r) [] one ∙ ap (λ n. Some (with_runs (data_draft front (size_of (r ∷ [])) done [] []) n (done ++ r ∷ []))) none
runs_read front done r (x ∷ todo) h k =
    let all : size_of (r ∷ x ∷ todo) ≡ r.count + size_of (x ∷ todo) = size_cons r (x ∷ todo) in
    let left : size_of (r ∷ x ∷ todo) - r.count ≡ size_of (x ∷ todo) = omega arith in
    let one = ran (data_draft front (size_of (r ∷ x ∷ todo)) done [] []) r refl k.0.0 (omega arith) h.0 k.0.1 in
    let rest = runs_read front (done ++ r ∷ []) x todo (subst (λ (o : Option Run). Chain differ o (x ∷ todo)) (sym (last_push None done r)) h.1) k.1 in
    then_reads (data_draft front (size_of (r ∷ x ∷ todo)) done [] []) _ (run_line r) (map run_line (x ∷ todo)) one
    ∙ ap (λ n. reads (with_runs (data_draft front (size_of (r ∷ x ∷ todo)) done [] []) n (done ++ r ∷ [])) (map run_line (x ∷ todo))) left
    ∙ ap (λ s. reads s (map run_line (x ∷ todo))) (with_more front (size_of (r ∷ x ∷ todo)) (size_of (x ∷ todo)) done (done ++ r ∷ []) (some_size x todo k.1.0.0))
    ∙ rest
    ∙ ap (λ (l : List Run). Some (data_draft (front ++ l ∷ []) 0 [] [] [])) (append_assoc done (r ∷ []) (x ∷ todo))

global_read : (front : List (List Run)) (runs : List Run) → FitGlobal runs → reads (data_draft front 0 [] [] []) (global_lines runs) ≡ Some (data_draft (front ++ runs ∷ []) 0 [] [] [])
global_read front [] h = absurd (omega (arith, h.0))
global_read front (r ∷ runs) h =
    then_reads (data_draft front 0 [] [] []) (data_draft front (size_of (r ∷ runs)) [] [] []) (global_line (size_of (r ∷ runs))) (map run_line (r ∷ runs)) (opened front (size_of (r ∷ runs)) (some_size r runs h.1.1.0.0) h.2)
    ∙ runs_read front [] r runs h.1.0 h.1.1

globals_read : (front globals : List (List Run)) → AllByRecursion FitGlobal globals → reads (data_draft front 0 [] [] []) (flat_map global_lines globals) ≡ Some (data_draft (front ++ globals) 0 [] [] [])
globals_read front [] h = ap (λ (x : List (List Run)). Some (data_draft x 0 [] [] [])) (sym (append-nil front))
globals_read front (runs ∷ globals) h =
    runs_append next whole (data_draft front 0 [] [] []) (data_draft (front ++ runs ∷ []) 0 [] [] []) (global_lines runs) (flat_map global_lines globals) (global_read front runs h.0)
    ∙ globals_read (front ++ runs ∷ []) globals h.1
    ∙ ap (λ (x : List (List Run)). Some (data_draft x 0 [] [] [])) (append_assoc front (runs ∷ []) globals)

-- ---- formats, marks and instructions

formats_read : (globals : List (List Run)) (front formats : List (List ℕ)) → AllByRecursion FitFormat formats → reads (data_draft globals 0 [] front []) (map format_line formats) ≡ Some (data_draft globals 0 [] (front ++ formats) [])
formats_read globals front [] h = ap (λ (x : List (List ℕ)). Some (data_draft globals 0 [] x [])) (sym (append-nil front))
formats_read globals front (bytes ∷ formats) h =
    let valid : is_some (pieces_of bytes) ≡ true = h.0.0 in
    let one : next (data_draft globals 0 [] front []) (format_line bytes) ≡ Some (data_draft globals 0 [] (front ++ bytes ∷ []) []) = format_again (data_draft globals 0 [] front []) bytes h.0.1 ∙ cond_true (is_some (pieces_of bytes)) _ _ valid in
    then_reads (data_draft globals 0 [] front []) (data_draft globals 0 [] (front ++ bytes ∷ []) []) (format_line bytes) (map format_line formats) one
    ∙ formats_read globals (front ++ bytes ∷ []) formats h.1
    ∙ ap (λ (x : List (List ℕ)). Some (data_draft globals 0 [] x [])) (append_assoc front (bytes ∷ []) formats)

marks_read : (globals : List (List Run)) (formats : List (List ℕ)) (front loops : List LoopMark) → Chain in_order (last_of None front) loops → AllByRecursion IsMark loops → reads (data_draft globals 0 [] formats front) (map mark_line loops) ≡ Some (data_draft globals 0 [] formats (front ++ loops))
marks_read globals formats front [] h k = ap (λ (x : List LoopMark). Some (data_draft globals 0 [] formats x)) (sym (append-nil front))
marks_read globals formats front (m ∷ loops) h k =
    let one : next (data_draft globals 0 [] formats front) (mark_line m) ≡ Some (data_draft globals 0 [] formats (front ++ m ∷ [])) = mark_again (data_draft globals 0 [] formats front) m k.0 ∙ cond_true (may_follow in_order (last_of None front) m) _ _ h.0 in
    then_reads (data_draft globals 0 [] formats front) (data_draft globals 0 [] formats (front ++ m ∷ [])) (mark_line m) (map mark_line loops) one
    ∙ marks_read globals formats (front ++ m ∷ []) loops (subst (λ (o : Option LoopMark). Chain in_order o loops) (sym (last_push None front m)) h.1) k.1
    ∙ ap (λ (x : List LoopMark). Some (data_draft globals 0 [] formats x)) (append_assoc front (m ∷ []) loops)

instrs_read : (globals : List (List Run)) (formats : List (List ℕ)) (loops : List LoopMark) (front instrs : List Instr) → AllByRecursion IsInstr instrs → reads (code_draft globals formats loops front) (map instr_line instrs) ≡ Some (code_draft globals formats loops (front ++ instrs))
instrs_read globals formats loops front [] h = ap (λ (x : List Instr). Some (code_draft globals formats loops x)) (sym (append-nil front))
instrs_read globals formats loops front (i ∷ instrs) h =
    let one : next (code_draft globals formats loops front) (instr_line i) ≡ Some (code_draft globals formats loops (front ++ i ∷ [])) = rw (line_again i h.0) refl in
    then_reads (code_draft globals formats loops front) (code_draft globals formats loops (front ++ i ∷ [])) (instr_line i) (map instr_line instrs) one
    ∙ instrs_read globals formats loops (front ++ i ∷ []) instrs h.1
    ∙ ap (λ (x : List Instr). Some (code_draft globals formats loops x)) (append_assoc front (i ∷ []) instrs)

-- ---- all of it

pub code_begins : (s : Reading) → s.stage ≡ stage.Data → s.missing ≡ 0 → next s code_line ≡ Some (record s { stage = stage.Code })
code_begins s e h = ap (λ g. next_at g s code_line) e ∙ code_again s ∙ cond_true (eqb s.missing 0) _ _ (rw h refl)

data_read : (globals : List (List Run)) (formats : List (List ℕ)) (loops : List LoopMark) → AllByRecursion FitGlobal globals → AllByRecursion FitFormat formats → Chain in_order None loops → AllByRecursion IsMark loops
    → reads (data_draft [] 0 [] [] []) (flat_map global_lines globals ++ (map format_line formats ++ map mark_line loops)) ≡ Some (data_draft globals 0 [] formats loops)
data_read globals formats loops g f c m =
    runs_append next whole (data_draft [] 0 [] [] []) (data_draft globals 0 [] [] []) (flat_map global_lines globals) (map format_line formats ++ map mark_line loops) (globals_read [] globals g)
    ∙ runs_append next whole (data_draft globals 0 [] [] []) (data_draft globals 0 [] formats []) (map format_line formats) (map mark_line loops) (formats_read globals [] formats f)
    ∙ marks_read globals formats [] loops c m

pub code_read : (globals : List (List Run)) (formats : List (List ℕ)) (loops : List LoopMark) (instrs : List Instr) → AllByRecursion FitGlobal globals → AllByRecursion FitFormat formats → Chain in_order None loops → AllByRecursion IsMark loops → AllByRecursion IsInstr instrs
    → reads at_start (so_far (code_draft globals formats loops instrs)) ≡ Some (code_draft globals formats loops instrs)
code_read globals formats loops instrs g f c m i =
    let lines = flat_map global_lines globals ++ (map format_line formats ++ map mark_line loops) in
    runs_append next whole (data_draft [] 0 [] [] []) (data_draft globals 0 [] formats loops) lines (code_line ∷ map instr_line instrs) (data_read globals formats loops g f c m)
    ∙ then_reads (data_draft globals 0 [] formats loops) (code_draft globals formats loops []) code_line (map instr_line instrs) (code_begins (data_draft globals 0 [] formats loops) refl refl)
    ∙ instrs_read globals formats loops [] instrs i
