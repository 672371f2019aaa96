-- Schedules are a format of lines.
use Rattle.std.proofs.Common.{◌≡◌, ℕ, zero, suc, ◌+◌, ◌*◌, ◌-◌, ◌/◌, ◌%◌, ◌^◌, ◌<◌, ◌≤◌, lit≤, Bool, true, false, cond, List, [], ◌∷◌, ◌++◌, length, map, count_by, Option, Some, None, Result, Ok, Err, refl, sym, ap, subst, ◌∙◌, append_assoc, arith}
use Rattle.std.specs.Prelude.{is_some}
use Rattle.std.specs.Fmt.{decimal}
use Rattle.std.specs.List.{AllByRecursion, join_with_byte}
use Rattle.std.specs.Option.{option_map}
use Rattle.std.specs.Str.{bytes_eq}
use Rattle.std.proofs.lemmas.Option.{cond_some}
use Rattle.std.proofs.lemmas.List.{map_push, append-nil, length-map}
use Rattle.std.proofs.lemmas.Slice.Eq.{bytes_eq-Decides}
use Rattle.xc_text_lines.specs.declared.lines.ReadFault.{ReadFault}
use Rattle.xc_text_lines.specs.declared.lines.ReadFault.TheVariants as reading
use Rattle.xc_text_lines.specs.Lines.{is_feed, words_of, pieces, read_pieces, at_option, Reads, HasFewLines}
use Rattle.xc_text_lines.specs.Numbers.{number_of}
use Rattle.xc_text_lines.specs.Grammar.{IsFirstBad}
use Rattle.xc_text_lines.specs.InnerGrammar.{HasNoFeed, IsFormat, InFormat}
use Rattle.xc_text_lines.specs.InnerGrammar.{runs as runs_lines}
use Rattle.xc_text_lines.specs.InnerGrammar.{Spells as LinesSpell}
use Rattle.xc_text_lines.proofs.Numerals.{number_spells, number_decimal}
use Rattle.xc_text_lines.proofs.Laws.{is_found, is_only, is_first_bad, first_bad_same, count-with_feeds}
use Rattle.xc_text_lines.proofs.Joins.{IsWord, words-join, join-words, no_feed-join, decimal_word}
use Rattle.xc_sched.specs.declared.run.Run.{Run}
use Rattle.xc_sched.specs.declared.text.SchedFault.TheVariants.{Line, NoMemory}
use Rattle.xc_sched.specs.Faults.{fault_of}
use Rattle.xc_sched.specs.declared.form.Form.{Form}
use Rattle.xc_sched.specs.declared.form.Form.TheVariants.{Streams, Slots}
use Rattle.xc_sched.specs.Runs.{header, name_of, HasName, is_valid, is_other, FitsAfter, Fits, steps_of, line_of, text_of, SpellsIn, IsRead, IsSchedule}
use Rattle.xc_sched.specs.InnerRuns.{last_of}
use Rattle.xc_sched.specs.Drafts.{Reading, form_of, not_zero, count_of, stream_at, run_from, run_of, added, next_in, next, whole, lines_in, lines_of, FitsIn, FitsSoFar}
use Rattle.xc_sched.proofs.RunLemmas.{ranges_of, valid_of, valid_in, other_in, may_from, fits_push, last_push}

abbrev spelled : Form → Run → List (List ℕ)
spelled form e = name_of form e.stream ++ decimal e.count ∷ []

-- ---- one run

counted : (o : Option ℕ) (b : List ℕ) (n : ℕ) → number_of (2 ^ 31 + 1) b ≡ o → not_zero o ≡ Some n → (decimal n ≡ b) × (1 ≤ n) × (n ≤ 2 ^ 31)
counted None b n p h = absurd cc
counted (Some zero) b n p h = absurd cc
counted (Some (suc m)) b n p h =
    let is : suc m ≡ n = cc in
    let spells = number_spells (2 ^ 31 + 1) b (suc m) (lit≤ tt) p in
    let made : (decimal (suc m) ≡ b) × (1 ≤ suc m) × (suc m ≤ 2 ^ 31) = (spells.0, omega arith, omega (arith, spells.1)) in
    subst (λ k. (decimal k ≡ b) × (1 ≤ k) × (k ≤ 2 ^ 31)) is made

-- a number of steps is the last word
count_spells : (ws : List (List ℕ)) (n : ℕ) → count_of ws ≡ Some n → (ws ≡ decimal n ∷ []) × (1 ≤ n) × (n ≤ 2 ^ 31)
count_spells [] n h = absurd cc
count_spells (a ∷ []) n h =
    let c = counted (number_of (2 ^ 31 + 1) a) a n refl h in
    (ap (λ (x : List ℕ). x ∷ []) (sym c.0), c.1, c.2)
count_spells (a ∷ b ∷ ws) n h = absurd cc

not_zero_again : (n : ℕ) → 1 ≤ n → not_zero (Some n) ≡ Some n
not_zero_again zero h = absurd (omega arith)
not_zero_again (suc n) h = refl

count_again : (n : ℕ) → 1 ≤ n → n ≤ 2 ^ 31 → count_of (decimal n ∷ []) ≡ Some n
count_again n some most = ap not_zero (number_decimal (2 ^ 31 + 1) n (lit≤ tt) (omega arith)) ∙ not_zero_again n some

-- the parts of a run
run_parts : (s n : Option ℕ) (r : Run) → run_from s n ≡ Some r → (s ≡ Some r.stream) × (n ≡ Some r.count)
run_parts None n r h = absurd cc
run_parts (Some s) None r h = absurd cc
run_parts (Some s) (Some n) r h =
    let is : record { stream = s; count = n } ≡ r = cc in
    (ap (λ (x : Run). Some x.stream) is, ap (λ (x : Run). Some x.count) is)

stream_parts : (q i : Option ℕ) (s : ℕ) → stream_at q i ≡ Some s → (a : ℕ) × (b : ℕ) × (q ≡ Some a) × (i ≡ Some b) × (s ≡ 128 * a + b)
stream_parts None i s h = absurd cc
stream_parts (Some a) None s h = absurd cc
stream_parts (Some a) (Some b) s h = (a, b, refl, refl, cc)

slot_parts : (a b s : ℕ) → b < 128 → s ≡ 128 * a + b → (s / 128 ≡ a) × (s % 128 ≡ b)
slot_parts a b s h e = (omega arith, omega arith)

-- what a line that is read says of its run
abbrev Spelled : Form → List (List ℕ) → Run → Type 0
Spelled form ws r = (ws ≡ spelled form r) × (is_valid r ≡ true) × HasName form r

spelled_first : (a : List ℕ) (ws : List (List ℕ)) (r : Run) → number_of 1024 a ≡ Some r.stream → count_of ws ≡ Some r.count → Spelled Streams (a ∷ ws) r
spelled_first a ws r p q =
    let s = number_spells 1024 a r.stream (lit≤ tt) p in
    let n = count_spells ws r.count q in (
      ap (λ (x : List ℕ). x ∷ ws) (sym s.0) ∙ ap (λ (x : List (List ℕ)). decimal r.stream ∷ x) n.0,
      valid_of r (record { stream = omega (arith, s.1); some = n.1; most = n.2 }),
      s.1,
    )

spelled_second : (a b : List ℕ) (ws : List (List ℕ)) (r : Run) → stream_at (number_of 64 a) (number_of 128 b) ≡ Some r.stream → count_of ws ≡ Some r.count → Spelled Slots (a ∷ b ∷ ws) r
spelled_second a b ws r p q =
    let parts = stream_parts (number_of 64 a) (number_of 128 b) r.stream p in
    let x = number_spells 64 a parts.0 (lit≤ tt) parts.2 in
    let y = number_spells 128 b parts.1 (lit≤ tt) parts.3 in
    let at = slot_parts parts.0 parts.1 r.stream y.1 parts.4 in
    let n = count_spells ws r.count q in
    let first : a ≡ decimal (r.stream / 128) = sym x.0 ∙ ap decimal (sym at.0) in
    let second : b ≡ decimal (r.stream % 128) = sym y.0 ∙ ap decimal (sym at.1) in (
      ap (λ (w : List ℕ). w ∷ b ∷ ws) first ∙ ap (λ (w : List ℕ). decimal (r.stream / 128) ∷ w ∷ ws) second ∙ ap (λ (w : List (List ℕ)). decimal (r.stream / 128) ∷ decimal (r.stream % 128) ∷ w) n.0,
      valid_of r (record { stream = omega (arith, x.1, y.1, parts.4); some = n.1; most = n.2 }),
      tt,
    )

run_spells : (form : Form) (ws : List (List ℕ)) (r : Run) → run_of form ws ≡ Some r → Spelled form ws r
run_spells form [] r h = absurd cc
run_spells Streams (a ∷ ws) r h = let p = run_parts (number_of 1024 a) (count_of ws) r h in spelled_first a ws r p.0 p.1
run_spells Slots (a ∷ []) r h = absurd cc
run_spells Slots (a ∷ b ∷ ws) r h = let p = run_parts (stream_at (number_of 64 a) (number_of 128 b)) (count_of ws) r h in spelled_second a b ws r p.0 p.1

run_again : (form : Form) (r : Run) → is_valid r ≡ true → HasName form r → run_of form (spelled form r) ≡ Some r
run_again Streams r h low =
    let k = ranges_of r h in
    rw (number_decimal 1024 r.stream (lit≤ tt) low, count_again r.count k.some k.most) refl
run_again Slots r h low =
    let k = ranges_of r h in
    let whole : 128 * (r.stream / 128) + r.stream % 128 ≡ r.stream = omega arith in
    rw (number_decimal 64 (r.stream / 128) (lit≤ tt) (omega (arith, k.stream)), number_decimal 128 (r.stream % 128) (lit≤ tt) (omega arith), count_again r.count k.some k.most)
    (ap (λ s. Some (record { stream = s; count = r.count })) whole)

run_words : (form : Form) (e : Run) → is_valid e ≡ true → AllByRecursion IsWord (spelled form e)
run_words Streams e h =
    let r = ranges_of e h in
    (decimal_word e.stream (omega (arith, r.stream)), (decimal_word e.count (omega (arith, r.most)), tt))
run_words Slots e h =
    let r = ranges_of e h in
    (decimal_word (e.stream / 128) (omega (arith, r.stream)), (decimal_word (e.stream % 128) (omega arith), (decimal_word e.count (omega (arith, r.most)), tt)))

words_again : (form : Form) (e : Run) → is_valid e ≡ true → words_of (line_of form e) ≡ spelled form e
words_again Streams e h = words-join (decimal e.stream) (decimal e.count ∷ []) (run_words Streams e h)
words_again Slots e h = words-join (decimal (e.stream / 128)) (decimal (e.stream % 128) ∷ decimal e.count ∷ []) (run_words Slots e h)

line_again : (form : Form) (e : Run) → is_valid e ≡ true → HasName form e → run_of form (words_of (line_of form e)) ≡ Some e
line_again form e h low = ap (run_of form) (words_again form e h) ∙ run_again form e h low

line_spells : (form : Form) (line : List ℕ) (e : Run) → run_of form (words_of line) ≡ Some e → (line ≡ line_of form e) × (is_valid e ≡ true) × HasName form e
line_spells form line e h =
    let s = run_spells form (words_of line) e h in
    (sym (join-words line) ∙ ap (join_with_byte 32) s.0, s.1, s.2)

-- ---- the first line

form_spells : (line : List ℕ) (form : Form) → form_of line ≡ Some form → line ≡ header form
form_spells line form h = first (bytes_eq line (header Streams)) (bytes_eq line (header Slots)) refl refl h
  where
    first : (p q : Bool) → bytes_eq line (header Streams) ≡ p → bytes_eq line (header Slots) ≡ q → cond p (Some Streams) (cond q (Some Slots) None) ≡ Some form → line ≡ header form
    first true q a b e = let is : Streams ≡ form = cc in (bytes_eq-Decides line (header Streams)).0 a ∙ ap header is
    first false true a b e = let is : Slots ≡ form = cc in (bytes_eq-Decides line (header Slots)).0 b ∙ ap header is
    first false false a b e = absurd cc

form_again : (form : Form) → form_of (header form) ≡ Some form
form_again Streams = refl
form_again Slots = refl

header_free : (form : Form) → HasNoFeed (header form)
header_free Streams = refl
header_free Slots = refl

-- ---- the laws

begun_is : (es : List Run) (o : Option Form) (t : Reading) → option_map (λ form. (Some form, es)) o ≡ Some t → (form : Form) × (o ≡ Some form) × ((Some form, es) ≡ t)
begun_is es None t h = absurd cc
begun_is es (Some form) t h = (form, refl, cc)

added_is : (form : Form) (es : List Run) (o : Option Run) (t : Reading) → added form es o ≡ Some t → (e : Run) × (o ≡ Some e) × (is_other (last_of None es) e.stream ≡ true) × ((Some form, es ++ e ∷ []) ≡ t)
added_is form es None t h = absurd cc
added_is form es (Some e) t h = let c = cond_some (is_other (last_of None es) e.stream) (Some form, es ++ e ∷ []) t h in (e, refl, c.0, c.1)

names_push : (form : Form) (es : List Run) (e : Run) → AllByRecursion (HasName form) es → HasName form e → AllByRecursion (HasName form) (es ++ e ∷ [])
names_push form [] e h k = (k, tt)
names_push form (x ∷ es) e h k = (h.0, names_push form es e h.1 k)

grows : (o : Option Form) (es : List Run) (t : Reading) (line : List ℕ) → FitsIn o es → next_in o es line ≡ Some t → FitsSoFar t × (lines_of t ≡ lines_in o es ++ line ∷ [])
grows None es t line fits h =
    let b = begun_is es (form_of line) t h in
    let is = form_spells line b.0 b.1 in
    let made : FitsSoFar (Some b.0, []) × (lines_of (Some b.0, []) ≡ line ∷ []) = ((tt, tt), ap (λ (x : List ℕ). x ∷ []) (sym is)) in
    subst (λ (x : Reading). FitsSoFar x × (lines_of x ≡ line ∷ [])) (ap (λ (x : List Run). (Some b.0, x)) (sym fits) ∙ b.2) made
grows (Some form) es t line fits h =
    let a = added_is form es (run_of form (words_of line)) t h in
    let s = line_spells form line a.0 a.1 in
    let lines : lines_of (Some form, es ++ a.0 ∷ []) ≡ lines_of (Some form, es) ++ line ∷ [] =
    ap (λ (x : List (List ℕ)). header form ∷ x) (map_push (line_of form) es a.0 ∙ ap (λ (x : List ℕ). map (line_of form) es ++ x ∷ []) (sym s.0)) in
    subst (λ (x : Reading). FitsSoFar x × (lines_of x ≡ lines_of (Some form, es) ++ line ∷ [])) a.3
    ((fits_push None es a.0 fits.0 (may_from (last_of None es) a.0 s.1 a.2), names_push form es a.0 fits.1 s.2), lines)

runs_again : (form : Form) (front es : List Run) → FitsAfter (last_of None front) es → AllByRecursion (HasName form) es → runs_lines next (Some form, front) (map (line_of form) es) ≡ Some (Some form, front ++ es)
runs_again form front [] h k = ap (λ (x : List Run). Some (Some form, x)) (sym (append-nil front))
runs_again form front (e ∷ es) h k =
    let one : next (Some form, front) (line_of form e) ≡ Some (Some form, front ++ e ∷ []) =
    ap (added form front) (line_again form e (valid_in (last_of None front) e h.0) k.0) ∙ rw (other_in (last_of None front) e h.0) refl in
    let rest = runs_again form (front ++ e ∷ []) es (subst (λ (x : Option ℕ). FitsAfter x es) (sym (last_push None front e)) h.1) k.1 in
    ap (λ (x : Option Reading). at_option x None (λ u. runs_lines next u (map (line_of form) es))) one ∙ rest ∙ ap (λ (x : List Run). Some (Some form, x)) (append_assoc front (e ∷ []) es)

again : (o : Option Form) (es : List Run) → FitsIn o es → is_some o ≡ true → runs_lines next (None, []) (lines_in o es) ≡ Some (o, es)
again None es h w = absurd cc
again (Some form) es h w =
    ap (λ (x : Option Form). at_option (option_map (λ (f : Form). (Some f, [])) x) None (λ u. runs_lines next u (map (line_of form) es))) (form_again form) ∙ runs_again form [] es h.0 h.1

lines_free : (form : Form) (before : Option ℕ) (es : List Run) → FitsAfter before es → AllByRecursion HasNoFeed (map (line_of form) es)
lines_free form before [] h = tt
lines_free form before (e ∷ es) h = (no_feed-join (spelled form e) (run_words form e (valid_in before e h.0)), lines_free form (Some e.stream) es h.1)

no_feeds : (o : Option Form) (es : List Run) → FitsIn o es → AllByRecursion HasNoFeed (lines_in o es)
no_feeds None es h = tt
no_feeds (Some form) es h = (header_free form, lines_free form None es h.0)

ends : (o : Option Form) (es : List Run) → FitsIn o es → (t : Reading) × (lines : List (List ℕ)) × (runs_lines next (o, es) lines ≡ Some t) × (whole t ≡ true)
ends None es h = ((Some Slots, es), header Slots ∷ [], refl, refl)
ends (Some form) es h = ((Some form, es), [], refl, refl)

pub laws : IsFormat next whole (None, []) lines_of FitsSoFar
laws = record {
  starts = (refl, refl);
  grows = λ s t line fits h. grows s.0 s.1 t line fits h;
  again = λ v h w. again v.0 v.1 h w;
  no_feeds = λ v h. no_feeds v.0 v.1 h;
  ends = λ s h. ends s.0 s.1 h;
}

-- ---- the text in the words of the contracts

abbrev Drafted : List ℕ → Type 0
Drafted text = InFormat whole lines_of FitsSoFar text

-- A draft's form and its runs, whose text this is.
pub record IsText (text : List ℕ) (o : Option Form) (runs : List Run) : Type 0 where
  pub form : Form
  pub is_form : o ≡ Some form
  pub fit : Fits runs
  pub names : AllByRecursion (HasName form) runs
  pub is_text : text ≡ text_of form runs

spells : (text : List ℕ) (o : Option Form) (runs : List Run) → LinesSpell whole lines_of FitsSoFar text (o, runs) → IsText text o runs
spells text None runs h = absurd (let e = h.is_whole in cc)
spells text (Some form) runs h = record { form = form; is_form = refl; fit = h.fits.0; names = h.fits.1; is_text = h.is_text }

-- what is read of a text
pub read_as_steps : (text : List ℕ) (o : Option Form) (runs : List Run) (steps : List ℕ) → IsText text o runs → steps ≡ steps_of runs → IsRead text steps
read_as_steps text o runs steps t e = (t.form, record { runs = runs; fit = t.fit; names = t.names; are = e; is_text = t.is_text })

spelled_by : (form : Form) (text steps : List ℕ) (h : SpellsIn form text steps) → LinesSpell whole lines_of FitsSoFar text (Some form, h.runs)
spelled_by form text steps h = record { fits = (h.fit, h.names); is_whole = refl; is_text = h.is_text }

abbrev read_from_start : List ℕ → Result Reading ℕ
read_from_start text = read_pieces next whole (None, []) 1 (pieces text)

pub schedule_found : (text : List ℕ) (v : Reading) → read_from_start text ≡ Ok v → IsText text v.0 v.1
schedule_found text v e = spells text v.0 v.1 (is_found next whole (None, []) lines_of FitsSoFar laws text v e)

pub schedule_only : (text steps : List ℕ) (h : IsRead text steps) → read_from_start text ≡ Ok (Some h.0, h.1.runs)
schedule_only text steps h = is_only next whole (None, []) lines_of FitsSoFar laws text (Some h.0, h.1.runs) (spelled_by h.0 text steps h.1)

pub schedule_bad : (text : List ℕ) (k : ℕ) → read_from_start text ≡ Err k → IsFirstBad IsSchedule text k
schedule_bad text k e =
    first_bad_same Drafted IsSchedule
    (λ t d. (steps_of d.0.1, read_as_steps t d.0.0 d.0.1 (steps_of d.0.1) (spells t d.0.0 d.0.1 d.1) refl))
    (λ t d. ((Some d.1.0, d.1.1.runs), spelled_by d.1.0 t d.0 d.1.1))
    text k (is_first_bad next whole (None, []) lines_of FitsSoFar laws text k e)

text_lines : (form : Form) (runs : List Run) → Fits runs → count_by is_feed (text_of form runs) ≡ suc (length runs)
text_lines form runs h =
    let free : AllByRecursion HasNoFeed (header form ∷ map (line_of form) runs) = (header_free form, lines_free form None runs h) in
    count-with_feeds (header form ∷ map (line_of form) runs) free ∙ ap suc (length-map runs (line_of form))

-- a schedule of few lines has few runs
pub few_runs : (text : List ℕ) (o : Option Form) (runs : List Run) → HasFewLines text → IsText text o runs → length runs < 2 ^ 32 - 2
few_runs text o runs few t = omega (arith, few, ap (count_by is_feed) t.is_text, text_lines t.form runs t.fit)

-- and the other way
pub few_lines : (runs : List Run) → length runs < 2 ^ 32 - 2 → Fits runs → HasFewLines (text_of Slots runs)
few_lines runs few h = omega (arith, few, text_lines Slots runs h)

-- the second form names every stream
pub all_named : (runs : List Run) → AllByRecursion (HasName Slots) runs
all_named [] = tt
all_named (r ∷ runs) = (tt, all_named runs)

-- ---- what an error says

pub line_err : (fault : ReadFault) (v : Reading) (read : Result Reading ℕ) (k : ℕ) → Reads (Err fault) v read → fault_of fault ≡ Line k → read ≡ Err k
line_err (reading.Line j) v read k r e = let same : j ≡ k = cc in r ∙ ap Err same
line_err reading.NoMemory v read k r e = absurd cc

pub only_err : (fault : ReadFault) (v w : Reading) (read : Result Reading ℕ) → Reads (Err fault) v read → read ≡ Ok w → fault_of fault ≡ NoMemory
only_err (reading.Line j) v w read r e = absurd cc
only_err reading.NoMemory v w read r e = refl

abbrev read_as : Reading → Result Reading ℕ
read_as v = Ok v

pub same_runs : (v w : Reading) → read_as v ≡ read_as w → v.1 ≡ w.1
same_runs v w e = let same : v ≡ w = cc in ap (λ x. x.1) same
