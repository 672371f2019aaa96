-- What a text says that a reader took or refused.
use Rattle.std.proofs.Common.{◌≡◌, ℕ, suc, ◌-◌, ◌+◌, ◌^◌, ◌<◌, ◌&&◌, Bool, true, false, cond, eqb, List, [], ◌∷◌, ◌++◌, length, count_by, take, Option, Some, None, Result, Ok, Err, refl, sym, ap, subst, ◌∙◌, append_assoc, add-zero, arith}
use Rattle.std.specs.List.{onto_first, AllByRecursion, list_any, join_with_byte}
use Rattle.std.proofs.lemmas.Bool.{and_parts, eqb-true}
use Rattle.std.proofs.lemmas.List.{append-nil, length-append, nil_from_length, take_at}
use Rattle.std.proofs.lemmas.List.Concat.{flat_map-cons}
use Rattle.std.proofs.lemmas.Grind.{flat_map-append}
use Rattle.std.proofs.lemmas.List.Splits.{slice_split-cons_yes, slice_split-cons_no, join_with_byte-slice_split, length-slice_split}
use Rattle.std.proofs.lemmas.List.Sums.{count_by-le-length}
use Rattle.xc_text_lines.specs.Lines.{is_feed, pieces, HasFewLines, at_option, read_from, read_pieces}
use Rattle.xc_text_lines.specs.Grammar.{with_feeds, IsGood, IsFirstBad}
use Rattle.xc_text_lines.specs.InnerGrammar.{runs, HasNoFeed, IsFormat, Spells, InFormat}
use Rattle.xc_text_lines.proofs.Reading.{neither, read_on, some_pieces}

-- ---- pieces

-- a line and its line feed are the first piece
pub piece_first : (line rest : List ℕ) → HasNoFeed line → pieces (line ++ 10 ∷ rest) ≡ line ∷ pieces rest
piece_first [] rest h = slice_split-cons_yes is_feed 10 rest refl
piece_first (b ∷ line) rest h =
    let parts = neither (is_feed b) (list_any is_feed line) h in
    slice_split-cons_no is_feed b (line ++ 10 ∷ rest) parts.0 ∙ ap (onto_first b) (piece_first line rest parts.1)

pub pieces-with_feeds : (lines : List (List ℕ)) (rest : List ℕ) → AllByRecursion HasNoFeed lines → pieces (with_feeds lines ++ rest) ≡ lines ++ pieces rest
pieces-with_feeds [] rest h = refl
pieces-with_feeds (line ∷ lines) rest h =
    ap pieces (ap (λ (x : List ℕ). x ++ rest) (flat_map-cons (λ (l : List ℕ). l ++ 10 ∷ []) line lines) ∙ append_assoc (line ++ 10 ∷ []) (with_feeds lines) rest ∙ append_assoc line (10 ∷ []) (with_feeds lines ++ rest))
    ∙ piece_first line (with_feeds lines ++ rest) h.0 ∙ ap (λ (x : List (List ℕ)). line ∷ x) (pieces-with_feeds lines rest h.1)

-- no piece has a line feed
onto_no_feed : (b : ℕ) (ps : List (List ℕ)) → is_feed b ≡ false → AllByRecursion HasNoFeed ps → AllByRecursion HasNoFeed (onto_first b ps)
onto_no_feed b [] e h = (rw e refl, tt)
onto_no_feed b (p ∷ ps) e h = (rw e h.0, h.1)

piece_step : (b : ℕ) (text : List ℕ) (t : Bool) → is_feed b ≡ t → AllByRecursion HasNoFeed (pieces text) → AllByRecursion HasNoFeed (pieces (b ∷ text))
piece_step b text true e h = rw (slice_split-cons_yes is_feed b text e) (refl, h)
piece_step b text false e h = rw (slice_split-cons_no is_feed b text e) (onto_no_feed b (pieces text) e h)

pub pieces_no_feed : (text : List ℕ) → AllByRecursion HasNoFeed (pieces text)
pieces_no_feed [] = (refl, tt)
pieces_no_feed (b ∷ text) = piece_step b text (is_feed b) refl (pieces_no_feed text)

-- a text of lines has as many line feeds as lines
pub count-with_feeds : (lines : List (List ℕ)) → AllByRecursion HasNoFeed lines → count_by is_feed (with_feeds lines) ≡ length lines
count-with_feeds lines h =
    let e = ap pieces (sym (append-nil (with_feeds lines))) ∙ pieces-with_feeds lines [] h in
    omega (arith, ap length e, length-slice_split is_feed (with_feeds lines), length-append lines ([] ∷ []))

-- one more line
pub with_feeds-push : (lines : List (List ℕ)) (line : List ℕ) → with_feeds (lines ++ line ∷ []) ≡ with_feeds lines ++ (line ++ 10 ∷ [])
with_feeds-push lines line = flat_map-append (λ (l : List ℕ). l ++ 10 ∷ []) lines (line ∷ []) ∙ ap (λ (x : List ℕ). with_feeds lines ++ x) (append-nil (line ++ 10 ∷ []))

-- a text of fewer than 2^32 - 1 bytes has fewer lines
pub few_lines : (text : List ℕ) → length text < 2 ^ 32 - 1 → HasFewLines text
few_lines text h = omega (arith, count_by-le-length is_feed text)

join_lines : (lines : List (List ℕ)) (last : List ℕ) → join_with_byte 10 (lines ++ last ∷ []) ≡ with_feeds lines ++ last
join_lines [] last = refl
join_lines (line ∷ []) last = simp append_assoc
join_lines (line ∷ other ∷ lines) last =
    ap (λ (x : List ℕ). line ++ 10 ∷ x) (join_lines (other ∷ lines) last)
    ∙ sym (append_assoc line (10 ∷ []) (with_feeds (other ∷ lines) ++ last))
    ∙ sym (append_assoc (line ++ 10 ∷ []) (with_feeds (other ∷ lines)) last)

-- the pieces up to the last one, with line feeds, and the last one are the text
pub joined : (text : List ℕ) (lines : List (List ℕ)) (last : List ℕ) → pieces text ≡ lines ++ last ∷ [] → text ≡ with_feeds lines ++ last
joined text lines last e = sym (join_with_byte-slice_split 10 text) ∙ ap (join_with_byte 10) e ∙ join_lines lines last

front_no_feed : (xs ys : List (List ℕ)) → AllByRecursion HasNoFeed (xs ++ ys) → AllByRecursion HasNoFeed xs
front_no_feed [] ys h = tt
front_no_feed (x ∷ xs) ys h = (h.0, front_no_feed xs ys h.1)

-- ---- runs

abbrev okay : {S : Type 0} → S → Result S ℕ
okay t = Ok t

abbrev failed : {S : Type 0} → ℕ → Result S ℕ
failed k = Err k

module _ {S : Type 0} (next : S → List ℕ → Option S) (whole : S → Bool) where
  option_then : (o : Option S) (f : S → Option S) (t : S) → at_option o None f ≡ Some t → (s : S) × (o ≡ Some s) × (f s ≡ Some t)
  option_then None f t e = absurd cc
  option_then (Some s) f t e = (s, refl, e)

  -- the first step of a run
  pub runs_first : (s t : S) (line : List ℕ) (lines : List (List ℕ)) → runs next s (line ∷ lines) ≡ Some t → (m : S) × (next s line ≡ Some m) × (runs next m lines ≡ Some t)
  runs_first s t line lines e = option_then (next s line) (λ m. runs next m lines) t e

  pub runs_append : (s m : S) (front back : List (List ℕ)) → runs next s front ≡ Some m → runs next s (front ++ back) ≡ runs next m back
  runs_append s m [] back e = ap (λ x. at_option x None (λ u. runs next u back)) e
  runs_append s m (line ∷ front) back e =
      let first = runs_first s m line front e in
      ap (λ x. at_option x None (λ u. runs next u (front ++ back))) first.1 ∙ runs_append first.0 m front back first.2

  some_others : (lines others : List (List ℕ)) → 0 < length others → 0 < length (lines ++ others)
  some_others lines others h = omega (arith, length-append lines others)

  pub read_runs : (s t : S) (k : ℕ) (lines others : List (List ℕ)) → runs next s lines ≡ Some t → 0 < length others → read_pieces next whole s k (lines ++ others) ≡ read_pieces next whole t (k + length lines) others
  read_runs s t k [] others e h =
      let same : s ≡ t = cc in
      rw (same, add-zero) refl
  read_runs s t k (line ∷ lines) others e h =
      let first = runs_first s t line lines e in
      let steps : k + suc (length lines) ≡ k + 1 + length lines = omega arith in
      read_on next whole s k line (lines ++ others) (some_others lines others h)
      ∙ ap (λ (x : Option S). at_option x (Err k) (λ u. read_pieces next whole u (k + 1) (lines ++ others))) first.1
      ∙ read_runs first.0 t (k + 1) lines others first.2 h
      ∙ ap (λ n. read_pieces next whole t n others) (sym steps)

  -- ---- how reading ends

  -- the lines before the end, and the state that they lead to
  pub record EndsWell (s : S) (k : ℕ) (ps : List (List ℕ)) (t : S) : Type 0 where
    pub lines : List (List ℕ)
    pub are : ps ≡ lines ++ [] ∷ []
    pub leads : runs next s lines ≡ Some t
    pub is_whole : whole t ≡ true

  -- the lines before the first that does not fit
  pub record EndsBadly (s : S) (k at : ℕ) (ps : List (List ℕ)) : Type 0 where
    pub lines : List (List ℕ)
    pub last : List ℕ
    pub others : List (List ℕ)
    pub state : S
    pub are : ps ≡ lines ++ last ∷ others
    pub leads : runs next s lines ≡ Some state
    pub place : at ≡ k + length lines
    pub unfit : 0 < length others → next state last ≡ None

  ended : (s t : S) (k : ℕ) (piece : List ℕ) (b : Bool) → (eqb (length piece) 0 && b) ≡ true → (piece ≡ []) × (b ≡ true)
  ended s t k piece b e = let p = and_parts (eqb (length piece) 0) b e in (nil_from_length piece (eqb-true _ _ p.0), p.1)

  end_well : (s t : S) (k : ℕ) (piece : List ℕ) (b : Bool) → (eqb (length piece) 0 && whole s) ≡ b → cond b (Ok s) (Err k) ≡ okay t → EndsWell s k (piece ∷ []) t
  end_well s t k piece true e r =
      let p = ended s t k piece (whole s) e in
      let same : s ≡ t = cc in
      record { lines = []; are = ap (λ (x : List ℕ). x ∷ []) p.0; leads = ap Some same; is_whole = ap whole (sym same) ∙ p.1 }
  end_well s t k piece false e r = absurd cc

  step_well : (s t : S) (k : ℕ) (piece other : List ℕ) (others : List (List ℕ)) (o : Option S) → next s piece ≡ o
      → ((m : S) → read_from next whole m (k + 1) other others ≡ okay t → EndsWell m (k + 1) (other ∷ others) t)
      → at_option o (Err k) (λ m. read_from next whole m (k + 1) other others) ≡ okay t → EndsWell s k (piece ∷ other ∷ others) t
  step_well s t k piece other others None e h r = absurd cc
  step_well s t k piece other others (Some m) e h r =
      let w = h m r in
      record { lines = piece ∷ w.lines; are = ap (λ (x : List (List ℕ)). piece ∷ x) w.are; leads = ap (λ x. at_option x None (λ u. runs next u w.lines)) e ∙ w.leads; is_whole = w.is_whole }

  read_well : (s t : S) (k : ℕ) (piece : List ℕ) (others : List (List ℕ)) → read_from next whole s k piece others ≡ okay t → EndsWell s k (piece ∷ others) t
  read_well s t k piece [] r = end_well s t k piece _ refl r
  read_well s t k piece (other ∷ others) r = step_well s t k piece other others (next s piece) refl (λ m. read_well m t (k + 1) other others) r

  end_badly : (s : S) (k at : ℕ) (piece : List ℕ) (b : Bool) → cond b (Ok s) (Err k) ≡ failed at → EndsBadly s k at (piece ∷ [])
  end_badly s k at piece true r = absurd cc
  end_badly s k at piece false r = record { lines = []; last = piece; others = []; state = s; are = refl; leads = refl; place = (let e : k ≡ at = cc in omega arith); unfit = λ h. absurd (omega arith) }

  step_badly : (s : S) (k at : ℕ) (piece other : List ℕ) (others : List (List ℕ)) (o : Option S) → next s piece ≡ o
      → ((m : S) → read_from next whole m (k + 1) other others ≡ failed at → EndsBadly m (k + 1) at (other ∷ others))
      → at_option o (Err k) (λ m. read_from next whole m (k + 1) other others) ≡ failed at → EndsBadly s k at (piece ∷ other ∷ others)
  step_badly s k at piece other others None e h r = record { lines = []; last = piece; others = other ∷ others; state = s; are = refl; leads = refl; place = (let e : k ≡ at = cc in omega arith); unfit = λ _. e }
  step_badly s k at piece other others (Some m) e h r =
      let w = h m r in
      record { lines = piece ∷ w.lines; last = w.last; others = w.others; state = w.state; are = ap (λ (x : List (List ℕ)). piece ∷ x) w.are; leads = ap (λ x. at_option x None (λ u. runs next u w.lines)) e ∙ w.leads; place = omega (arith, w.place); unfit = w.unfit }

  read_badly : (s : S) (k at : ℕ) (piece : List ℕ) (others : List (List ℕ)) → read_from next whole s k piece others ≡ failed at → EndsBadly s k at (piece ∷ others)
  read_badly s k at piece [] r = end_badly s k at piece _ r
  read_badly s k at piece (other ∷ others) r = step_badly s k at piece other others (next s piece) refl (λ m. read_badly m (k + 1) at other others) r

  -- ---- what a format's laws give

  module _ (start : S) (lines_of : S → List (List ℕ)) (Fits : S → Type 0) (laws : IsFormat next whole start lines_of Fits) where
    pub grown : (s t : S) (lines : List (List ℕ)) → Fits s → runs next s lines ≡ Some t → Fits t × (lines_of t ≡ lines_of s ++ lines)
    grown s t [] fits e =
        let same : s ≡ t = cc in
        subst (λ x. Fits x × (lines_of x ≡ lines_of s ++ [])) same (fits, sym (append-nil (lines_of s)))
    grown s t (line ∷ lines) fits e =
        let first = runs_first s t line lines e in
        let one = laws.grows s first.0 line fits first.1 in
        let rest = grown first.0 t lines one.0 first.2 in
        (rest.0, rest.1 ∙ ap (λ (x : List (List ℕ)). x ++ lines) one.1 ∙ append_assoc (lines_of s) (line ∷ []) lines)

    from_start : (t : S) (lines : List (List ℕ)) → runs next start lines ≡ Some t → Fits t × (lines_of t ≡ lines)
    from_start t lines e = let g = grown start t lines laws.starts.0 e in (g.0, g.1 ∙ ap (λ (x : List (List ℕ)). x ++ lines) laws.starts.1)

    pieces_read : (text : List ℕ) (r : Result S ℕ) → read_pieces next whole start 1 (pieces text) ≡ r → (piece : List ℕ) × (others : List (List ℕ)) × (pieces text ≡ piece ∷ others) × (read_from next whole start 1 piece others ≡ r)
    pieces_read text r e = go (pieces text) (some_pieces text) refl
      where
        go : (ps : List (List ℕ)) → 0 < length ps → pieces text ≡ ps → (piece : List ℕ) × (others : List (List ℕ)) × (pieces text ≡ piece ∷ others) × (read_from next whole start 1 piece others ≡ r)
        go [] h p = absurd (omega arith)
        go (piece ∷ others) h p = (piece, others, p, sym (ap (read_pieces next whole start 1) p) ∙ e)

    pub is_found : (text : List ℕ) (v : S) → read_pieces next whole start 1 (pieces text) ≡ okay v → Spells whole lines_of Fits text v
    is_found text v e =
        let p = pieces_read text (okay v) e in
        let w = read_well start v 1 p.0 p.1 p.3 in
        let g = from_start v w.lines w.leads in
        record { fits = g.0; is_whole = w.is_whole; is_text = joined text w.lines [] (p.2 ∙ w.are) ∙ append-nil (with_feeds w.lines) ∙ ap with_feeds (sym g.1) }

    pub is_only : (text : List ℕ) (v : S) → Spells whole lines_of Fits text v → read_pieces next whole start 1 (pieces text) ≡ okay v
    is_only text v h =
        let split : pieces text ≡ lines_of v ++ [] ∷ [] =
        ap pieces (h.is_text ∙ sym (append-nil (with_feeds (lines_of v)))) ∙ pieces-with_feeds (lines_of v) [] (laws.no_feeds v h.fits) in
        ap (read_pieces next whole start 1) split ∙ read_runs start v 1 (lines_of v) ([] ∷ []) (laws.again v h.fits h.is_whole) (omega arith) ∙ rw h.is_whole refl

    not_good : (text : List ℕ) (k : ℕ) (front : List (List ℕ)) (last : List ℕ) (after : List (List ℕ)) (state : S) (lines others : List (List ℕ)) (more : List ℕ) (v : S)
        → pieces text ≡ front ++ last ∷ after → runs next start front ≡ Some state → k ≡ 1 + length front → (0 < length after → next state last ≡ None)
        → length lines ≡ k → 0 < length others → pieces text ≡ lines ++ others → Spells whole lines_of Fits (with_feeds lines ++ more) v → ⊥
    not_good text k front last after state lines others more v are leads place unfit len some split spells =
        let total : 0 < length after =
        omega (arith, ap length are, ap length split, length-append front (last ∷ after), length-append lines others) in
        let regroup : front ++ last ∷ after ≡ (front ++ last ∷ []) ++ after = sym (append_assoc front (last ∷ []) after) in
        let same : lines ≡ front ++ last ∷ [] =
        sym (take_at lines others k len) ∙ ap (take k) (sym split ∙ are ∙ regroup) ∙ take_at (front ++ last ∷ []) after k (omega (arith, length-append front (last ∷ []))) in
        let free = front_no_feed lines others (subst (λ (x : List (List ℕ)). AllByRecursion HasNoFeed x) split (pieces_no_feed text)) in
        let cut : pieces (with_feeds lines ++ more) ≡ front ++ last ∷ pieces more =
        pieces-with_feeds lines more free ∙ ap (λ (x : List (List ℕ)). x ++ pieces more) same ∙ append_assoc front (last ∷ []) (pieces more) in
        let fails : read_pieces next whole start 1 (pieces (with_feeds lines ++ more)) ≡ failed (1 + length front) =
        ap (read_pieces next whole start 1) cut ∙ read_runs start state 1 front (last ∷ pieces more) leads (omega arith)
        ∙ read_on next whole state (1 + length front) last (pieces more) (some_pieces more)
        ∙ ap (λ (x : Option S). at_option x (Err (1 + length front)) (λ u. read_pieces next whole u (1 + length front + 1) (pieces more))) (unfit total) in
        let takes = is_only (with_feeds lines ++ more) v spells in
        absurd cc

    pub is_first_bad : (text : List ℕ) (k : ℕ) → read_pieces next whole start 1 (pieces text) ≡ failed k → IsFirstBad (InFormat whole lines_of Fits) text k
    is_first_bad text k e =
        let p = pieces_read text (failed k) e in
        let w = read_badly start 1 k p.0 p.1 p.3 in
        let are : pieces text ≡ w.lines ++ w.last ∷ w.others = p.2 ∙ w.are in
        let free = pieces_no_feed text in
        record {
          outside = λ h. let is = is_only text h.0 h.1 in absurd cc;
          numbered = omega (arith, w.place);
          good_before =
              let g = from_start w.state w.lines w.leads in
              let t = laws.ends w.state g.0 in
              let whole_lines = runs_append start w.state w.lines t.1 w.leads ∙ t.2 in
              let h = from_start t.0 (w.lines ++ t.1) whole_lines in
              (w.lines, w.last ∷ w.others, with_feeds t.1, omega (arith, w.place), omega arith, are, (t.0, record { fits = h.0; is_whole = t.3; is_text = sym (flat_map-append (λ (l : List ℕ). l ++ 10 ∷ []) w.lines t.1) ∙ ap with_feeds (sym h.1) }));
          bad = λ good. not_good text k w.lines w.last w.others w.state good.0 good.1 good.2 good.6.0 are w.leads w.place w.unfit good.3 good.4 good.5 good.6.1;
        }

-- ---- the same grammar in other words

good_same : (G H : List ℕ → Type 0) → ((text : List ℕ) → G text → H text) → (text : List ℕ) (k : ℕ) → IsGood G text k → IsGood H text k
good_same G H to text k good = (good.0, good.1, good.2, good.3, good.4, good.5, to (with_feeds good.0 ++ good.2) good.6)

pub first_bad_same : (G H : List ℕ → Type 0) → ((text : List ℕ) → G text → H text) → ((text : List ℕ) → H text → G text) → (text : List ℕ) (k : ℕ) → IsFirstBad G text k → IsFirstBad H text k
first_bad_same G H to back text k bad = record {
  outside = λ h. bad.outside (back text h);
  numbered = bad.numbered;
  good_before = good_same G H to text (k - 1) bad.good_before;
  bad = λ good. bad.bad (good_same H G back text k good);
}
