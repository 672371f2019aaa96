-- The lines before the instructions.
use Rattle.std.proofs.Common.{◌≡◌, ℕ, zero, suc, ◌^◌, ◌<◌, Bool, true, false, List, [], ◌∷◌, Some, refl, sym, ap, ◌∙◌, arith}
use Rattle.std.specs.List.{AllByRecursion, join_with_byte}
use Rattle.std.specs.Str.{bytes_eq}
use Rattle.std.proofs.lemmas.Option.{same_Some}
use Rattle.std.proofs.lemmas.Slice.Eq.{bytes_eq-Decides}
use Rattle.hex.specs.Hex.{IsBytes}
use Rattle.xc_text_lines.specs.Lines.{words_of}
use Rattle.xc_text_lines.specs.InnerGrammar.{HasNoFeed}
use Rattle.xc_text_lines.specs.HexWords.{hex_word}
use Rattle.xc_text_lines.proofs.HexLemmas.{hex_word_word, bytes_spell, bytes_again}
use Rattle.xc_text_lines.proofs.Joins.{IsWord, words-join, join-words, no_feed-join}
use Rattle.xc_isa.specs.declared.code.Run.{Run}
use Rattle.xc_isa.specs.declared.code.LoopMark.{LoopMark}
use Rattle.xc_isa_text.specs.declared.keyword.Keyword.{Keyword}
use Rattle.xc_isa_text.specs.declared.keyword.Keyword.TheVariants as keyword
use Rattle.xc_isa_text.specs.Operands.{Number, Value, State, words_in, AreBelow}
use Rattle.xc_isa_text.specs.InnerOperands.{numbers_in, none_left}
use Rattle.xc_isa_text.specs.Texts.{global_line, state_number, run_numbers, run_line, format_line, mark_numbers, mark_line, code_line, IsRun, IsMark}
use Rattle.xc_isa_text.specs.Readings.{Reading}
use Rattle.xc_isa_text.specs.InnerReadings.{keyword_name, all_keywords, keyword_named, is_full, run_of, bytes_in, with_data, data_next, with_global, with_this_run, with_run, with_format, with_this_mark, with_mark, with_code}
use Rattle.xc_isa_text.proofs.OperandLaws.{bind_some, numbers_spelled, numbers_again, are_words}
use Rattle.xc_isa_text.proofs.InstrLaws.{found}

-- ---- keywords

pub keyword_spelled : (w : List ℕ) (k : Keyword) → keyword_named w ≡ Some k → w ≡ keyword_name k
keyword_spelled w k e = sym ((bytes_eq-Decides (keyword_name k) w).0 (found (λ x. bytes_eq (keyword_name x) w) all_keywords k e))

keyword_again : (k : Keyword) → keyword_named (keyword_name k) ≡ Some k
keyword_again keyword.Global = refl
keyword_again keyword.Cells = refl
keyword_again keyword.Format = refl
keyword_again keyword.Loop = refl
keyword_again keyword.Code = refl

keyword_word : (k : Keyword) → IsWord (keyword_name k)
keyword_word keyword.Global = (refl, refl)
keyword_word keyword.Cells = (refl, refl)
keyword_word keyword.Format = (refl, refl)
keyword_word keyword.Loop = (refl, refl)
keyword_word keyword.Code = (refl, refl)

-- ---- a line of data

pub record IsData (s t : Reading) (line : List ℕ) : Type 0 where
  pub keyword : Keyword
  pub words : List (List ℕ)
  pub is : line ≡ join_with_byte 32 (keyword_name keyword ∷ words)
  pub does : with_data s words keyword ≡ Some t

data_words : (s t : Reading) (line : List ℕ) (ws : List (List ℕ)) → words_of line ≡ ws → data_next s ws ≡ Some t → IsData s t line
data_words s t line [] e h = absurd cc
data_words s t line (w ∷ ws) e h =
    let k = bind_some (keyword_named w) (with_data s ws) t h in
    record {
      keyword = k.0;
      words = ws;
      is = sym (join-words line) ∙ ap (join_with_byte 32) (e ∙ ap (λ (x : List ℕ). x ∷ ws) (keyword_spelled w k.0 k.1));
      does = k.2;
    }

pub data_of : (s t : Reading) (line : List ℕ) → data_next s (words_of line) ≡ Some t → IsData s t line
data_of s t line h = data_words s t line (words_of line) refl h

data_again : (s : Reading) (k : Keyword) (ws : List (List ℕ)) → AllByRecursion IsWord ws → data_next s (words_of (join_with_byte 32 (keyword_name k ∷ ws))) ≡ with_data s ws k
data_again s k ws h = ap (data_next s) (words-join (keyword_name k) ws (keyword_word k, h)) ∙ rw (keyword_again k) refl

data_free : (k : Keyword) (ws : List (List ℕ)) → AllByRecursion IsWord ws → HasNoFeed (join_with_byte 32 (keyword_name k ∷ ws))
data_free k ws h = no_feed-join (keyword_name k ∷ ws) (keyword_word k, h)

-- ---- the kinds of lines are read again

pub global_again : (s : Reading) (n : ℕ) → n < 2 ^ 32 → data_next s (words_of (global_line n)) ≡ with_global s (n ∷ [])
global_again s n h = data_again s keyword.Global (words_in (Number ∷ []) (n ∷ [])) (are_words (Number ∷ []) (n ∷ []) (h, tt)) ∙ rw (numbers_again (Number ∷ []) (n ∷ []) (h, tt)) refl

full_back : (full : Bool) → is_full (state_number full) ≡ full
full_back true = refl
full_back false = refl

pub run_again : (s : Reading) (r : Run) → IsRun r → data_next s (words_of (run_line r)) ≡ with_this_run s r
run_again s r h =
    data_again s keyword.Cells (words_in (Number ∷ Value ∷ State ∷ []) (run_numbers r)) (are_words (Number ∷ Value ∷ State ∷ []) (run_numbers r) h)
    ∙ rw (numbers_again (Number ∷ Value ∷ State ∷ []) (run_numbers r) h) (ap (λ full. with_this_run s (record { count = r.count; cell = record { value = r.cell.value; full = full } })) (full_back r.cell.full))

pub format_again : (s : Reading) (bytes : List ℕ) → IsBytes bytes → data_next s (words_of (format_line bytes)) ≡ with_format s bytes
format_again s bytes h = data_again s keyword.Format (hex_word bytes ∷ []) (hex_word_word bytes h, tt) ∙ rw (bytes_again bytes h) refl

pub mark_again : (s : Reading) (m : LoopMark) → IsMark m → data_next s (words_of (mark_line m)) ≡ with_this_mark s m
mark_again s m h =
    data_again s keyword.Loop (words_in (Number ∷ Number ∷ Number ∷ Number ∷ Number ∷ []) (mark_numbers m)) (are_words (Number ∷ Number ∷ Number ∷ Number ∷ Number ∷ []) (mark_numbers m) h)
    ∙ rw (numbers_again (Number ∷ Number ∷ Number ∷ Number ∷ Number ∷ []) (mark_numbers m) h) refl

pub code_again : (s : Reading) → data_next s (words_of code_line) ≡ with_code s []
code_again s = data_again s keyword.Code [] tt

-- ---- and have no line feed

pub global_free : (n : ℕ) → n < 2 ^ 32 → HasNoFeed (global_line n)
global_free n h = data_free keyword.Global (words_in (Number ∷ []) (n ∷ [])) (are_words (Number ∷ []) (n ∷ []) (h, tt))

pub run_free : (r : Run) → IsRun r → HasNoFeed (run_line r)
run_free r h = data_free keyword.Cells (words_in (Number ∷ Value ∷ State ∷ []) (run_numbers r)) (are_words (Number ∷ Value ∷ State ∷ []) (run_numbers r) h)

pub format_free : (bytes : List ℕ) → IsBytes bytes → HasNoFeed (format_line bytes)
format_free bytes h = data_free keyword.Format (hex_word bytes ∷ []) (hex_word_word bytes h, tt)

pub mark_free : (m : LoopMark) → IsMark m → HasNoFeed (mark_line m)
mark_free m h = data_free keyword.Loop (words_in (Number ∷ Number ∷ Number ∷ Number ∷ Number ∷ []) (mark_numbers m)) (are_words (Number ∷ Number ∷ Number ∷ Number ∷ Number ∷ []) (mark_numbers m) h)

-- ---- what the words say

-- one number
pub one_number : (ws : List (List ℕ)) (ns : List ℕ) → numbers_in (Number ∷ []) ws ≡ Some ns → (n : ℕ) × (ns ≡ n ∷ []) × (n < 2 ^ 32) × (ws ≡ words_in (Number ∷ []) (n ∷ []))
one_number ws ns e = let s = numbers_spelled (Number ∷ []) ws ns e in one ns s.0 s.1
  where
    one : (ns : List ℕ) → ws ≡ words_in (Number ∷ []) ns → AreBelow (Number ∷ []) ns → (n : ℕ) × (ns ≡ n ∷ []) × (n < 2 ^ 32) × (ws ≡ words_in (Number ∷ []) (n ∷ []))
    one [] p h = absurd h
    one (n ∷ []) p h = (n, refl, h.0, p)
    one (n ∷ m ∷ ns) p h = absurd h.1

number_back : (n : ℕ) → n < 2 → state_number (is_full n) ≡ n
number_back zero h = refl
number_back (suc zero) h = refl
number_back (suc (suc n)) h = absurd (omega arith)

-- a run
pub run_is : (s t : Reading) (ws : List (List ℕ)) (ns : List ℕ) → numbers_in (Number ∷ Value ∷ State ∷ []) ws ≡ Some ns → with_run s ns ≡ Some t
    → (r : Run) × (ws ≡ words_in (Number ∷ Value ∷ State ∷ []) (run_numbers r)) × IsRun r × (with_this_run s r ≡ Some t)
run_is s t ws ns e f = let q = numbers_spelled (Number ∷ Value ∷ State ∷ []) ws ns e in three ns q.0 q.1 f
  where
    three : (ns : List ℕ) → ws ≡ words_in (Number ∷ Value ∷ State ∷ []) ns → AreBelow (Number ∷ Value ∷ State ∷ []) ns → with_run s ns ≡ Some t
        → (r : Run) × (ws ≡ words_in (Number ∷ Value ∷ State ∷ []) (run_numbers r)) × IsRun r × (with_this_run s r ≡ Some t)
    three [] p h f = absurd cc
    three (a ∷ []) p h f = absurd cc
    three (a ∷ b ∷ []) p h f = absurd cc
    three (a ∷ b ∷ c ∷ []) p h f =
        let back = number_back c h.1.1.0 in
        (run_of a b c, rw back p, rw back h, f)
    three (a ∷ b ∷ c ∷ d ∷ ns) p h f = absurd cc

-- a mark
pub mark_is : (s t : Reading) (ws : List (List ℕ)) (ns : List ℕ) → numbers_in (Number ∷ Number ∷ Number ∷ Number ∷ Number ∷ []) ws ≡ Some ns → with_mark s ns ≡ Some t
    → (m : LoopMark) × (ws ≡ words_in (Number ∷ Number ∷ Number ∷ Number ∷ Number ∷ []) (mark_numbers m)) × IsMark m × (with_this_mark s m ≡ Some t)
mark_is s t ws ns e f = let q = numbers_spelled (Number ∷ Number ∷ Number ∷ Number ∷ Number ∷ []) ws ns e in all ns q.0 q.1 f
  where
    all : (ns : List ℕ) → ws ≡ words_in (Number ∷ Number ∷ Number ∷ Number ∷ Number ∷ []) ns → AreBelow (Number ∷ Number ∷ Number ∷ Number ∷ Number ∷ []) ns → with_mark s ns ≡ Some t
        → (m : LoopMark) × (ws ≡ words_in (Number ∷ Number ∷ Number ∷ Number ∷ Number ∷ []) (mark_numbers m)) × IsMark m × (with_this_mark s m ≡ Some t)
    all [] p h f = absurd cc
    all (a ∷ []) p h f = absurd cc
    all (a ∷ b ∷ []) p h f = absurd cc
    all (a ∷ b ∷ c ∷ []) p h f = absurd cc
    all (a ∷ b ∷ c ∷ d ∷ []) p h f = absurd cc
    all (a ∷ b ∷ c ∷ d ∷ e ∷ []) p h f = (record { id = a; start = b; worker = c; serial = d; after = e }, p, h, f)
    all (a ∷ b ∷ c ∷ d ∷ e ∷ g ∷ ns) p h f = absurd cc

-- the bytes of a format
pub bytes_are : (ws : List (List ℕ)) (bytes : List ℕ) → bytes_in ws ≡ Some bytes → (ws ≡ hex_word bytes ∷ []) × IsBytes bytes
bytes_are [] bytes e = absurd cc
bytes_are (w ∷ []) bytes e = let s = bytes_spell w bytes e in (ap (λ (x : List ℕ). x ∷ []) s.0, s.1)
bytes_are (w ∷ v ∷ ws) bytes e = absurd cc

pub nothing_left : (ws : List (List ℕ)) (ns : List ℕ) → none_left ws ≡ Some ns → (ws ≡ []) × (ns ≡ [])
nothing_left [] ns e = (refl, sym (same_Some _ _ e))
nothing_left (w ∷ ws) ns e = absurd cc
