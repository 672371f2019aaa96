-- A source has one answer: its tree, or a reason at a place why there is no code.
use Rattle.std.proofs.Common.{◌≡◌, ◌<◌, ◌≤◌, ◌+◌, ℕ, List, [], ◌∷◌, ◌++◌, length, take, drop, Option, Some, None, Result, Ok, Err, refl, sym, ap, ◌∙◌, subst, append_assoc, arith}
use Rattle.std.specs.Prelude.{slice_get, IfOk, IfErr}
use Rattle.std.proofs.lemmas.List.{take-append-drop, take-take}
use Rattle.xc_text_place.specs.declared.Pos.{Pos}
use Rattle.xc_text_place.specs.declared.Span.{Span}
use Rattle.xc_text_place.specs.Place.{IsPosition}
use Rattle.xc_lex.specs.declared.token.Token.{Token}
use Rattle.xc_lex.specs.declared.lexer.LexFault.TheVariants as lex
use Rattle.xc_lex.specs.Source.{AreTokens, FaultFits as IsLexFault}
use Rattle.xc_lex.proofs.Unique.{tokens_once, fault_once, no_tokens}
use Rattle.xc_raw.specs.declared.tree.Raw.{Raw}
use Rattle.xc_raw.specs.declared.word.Word.{Word}
use Rattle.xc_parse_grammar.specs.Grammar.{Form, Derives, CanGoOn, Stops}
use Rattle.xc_parse.specs.declared.parser.ParseFault.{ParseFault}
use Rattle.xc_parse.specs.declared.parser.ParseFault.TheVariants as parse
use Rattle.xc_parse.specs.Depth.{IsFirstDeep}
use Rattle.xc_parse.specs.Raws.{raws_of}
use Rattle.xc_parse.specs.Texts.{words_of, place_of, IsTree as IsForm, Parsed, IsTooDeep, StandsAt, FaultFits as IsParseFault}
use Rattle.xc_tree.specs.declared.tree.Tree.{Tree}
use Rattle.xc_type.specs.declared.fault.CheckFault.{CheckFault}
use Rattle.xc_type.specs.declared.fault.CheckFault.TheVariants as check
use Rattle.xc_type.specs.Checked.{IsTree, IsFault}
use Rattle.xc_type.proofs.OneAnswer.{one_position, IsTold, one_fault, no_fault, one_tree}
use Rattle.xc_gen.specs.Unbuilt.{unbuilt_of}
use Rattle.xc_driver.specs.declared.fault.RefusalKind.{RefusalKind}
use Rattle.xc_driver.specs.declared.fault.RefusalKind.TheVariants.{Lex, Syntax, Depth, Name, Typing, Count, Unbuilt}
use Rattle.xc_driver.specs.declared.compiler.Compiled.{Compiled}
use Rattle.xc_driver.specs.declared.fault.CompileFault.{CompileFault}
use Rattle.xc_driver.specs.declared.fault.CompileFault.TheVariants.{NoMemory, Refused}
use Rattle.xc_driver.specs.Compiles.{IsParsed, IsTreeOf, IsCompiled, IsUnbuilt, IsRefusal, IsRefused, IsOnlyTree, IsOnlyRefusal, IsOnlyRefused, IsComplete}

-- ---- untyped trees

-- words that can go on to a longer text can go on to a shorter one
goes_on : (words : List Word) (j k : ℕ) → j ≤ k → CanGoOn (take k words) → CanGoOn (take j words)
goes_on words j k le h =
    let more = drop j (take k words) in
    let split : take k words ++ h.1 ≡ take j words ++ (more ++ h.1) =
    ap (λ ws. ws ++ h.1) (sym (take-append-drop j (take k words)) ∙ ap (λ ws. ws ++ more) (take-take j k words le)) ∙ append_assoc (take j words) more h.1 in
    (h.0, more ++ h.1, subst (Derives h.0) split h.2)

not_before : (words : List Word) (j k : ℕ) → Stops words j → Stops words k → j < k → ⊥
not_before words j k a b lt =
    let within = b.within in
    a.after (omega (arith, lt, within)) (goes_on words (j + 1) k (omega (arith, lt)) b.before)

stops_once : (words : List Word) (j k : ℕ) → Stops words j → Stops words k → j ≡ k
stops_once words j k a b =
    let low : j < k → ⊥ = not_before words j k a b in
    let high : k < j → ⊥ = not_before words k j b a in
    omega (arith, low, high)

deep_once : (words : List Word) (j k : ℕ) → IsTooDeep words j → IsTooDeep words k → j ≡ k
deep_once words j k a b =
    let same = a.is_tree.only b.tree b.is_tree.derives in
    let here : IsFirstDeep b.tree j = subst (λ f. IsFirstDeep f j) same a.first in
    let low = here.1 k b.first.0 in
    let high = b.first.1 j here.0 in
    omega (arith, low, high)

raw_once : (words : List Word) (a b : Raw) → Parsed words a → Parsed words b → a ≡ b
raw_once words a b h k =
    let same = h.is_tree.only k.tree k.is_tree.derives in
    let both : a ∷ [] ≡ b ∷ [] = h.made ∙ ap (raws_of 0) same ∙ sym k.made in
    cc

-- what is parsed does not stop, and no node of it is too deep
no_parse_fault : (source : List ℕ) (tokens : List Token) (raw : Raw) (e : ParseFault) → Parsed (words_of source tokens) raw → IsParseFault source tokens e → e ≡ parse.NoMemory
no_parse_fault source tokens raw parse.NoMemory h k = refl
no_parse_fault source tokens raw (parse.Syntax p) h k = absurd (k.1.no_tree h.tree h.is_tree.derives)
no_parse_fault source tokens raw (parse.Depth p) h k =
    let same = k.1.is_tree.only h.tree h.is_tree.derives in
    let deep : IsFirstDeep h.tree k.0 = subst (λ f. IsFirstDeep f k.0) same k.1.first in
    absurd (h.shallow k.0 deep.0)

stands_once : (source : List ℕ) (tokens : List Token) (j k : ℕ) (p q : Pos) → j ≡ k → StandsAt source tokens j p → StandsAt source tokens k q → p ≡ q
stands_once source tokens j k p q e a b =
    one_position source (place_of (length source) (slice_get tokens k)) p q (subst (λ n. StandsAt source tokens n p) e a) b

-- ---- reasons

-- a fault of the parser and one of the checker, told as a reason
abbrev IsToldParse : ParseFault → RefusalKind → Pos → Type 0
IsToldParse parse.NoMemory k p = ⊥
IsToldParse (parse.Syntax q) k p = (k ≡ Syntax) × (p ≡ q)
IsToldParse (parse.Depth q) k p = (k ≡ Depth) × (p ≡ q)

abbrev IsToldCheck : CheckFault → RefusalKind → Pos → Type 0
IsToldCheck check.NoMemory k p = ⊥
IsToldCheck (check.Name q) k p = (k ≡ Name) × (p ≡ q)
IsToldCheck (check.Typing q) k p = (k ≡ Typing) × (p ≡ q)
IsToldCheck (check.Count q) k p = (k ≡ Count) × (p ≡ q)

-- a reason, by how far the source is right
data Reason (source : List ℕ) (k : RefusalKind) (p : Pos) : Type 0 where
  NoTokens : k ≡ Lex → IsLexFault source (lex.At p) → Reason source k p
  NoForm : (tokens : List Token) → AreTokens source tokens → (e : ParseFault) → IsParseFault source tokens e → IsToldParse e k p → Reason source k p
  NoTree : (tokens : List Token) (raw : Raw) → IsParsed source tokens raw → (e : CheckFault) → IsFault source tokens raw e → IsToldCheck e k p → Reason source k p
  NoCode : k ≡ Unbuilt → IsUnbuilt source p → Reason source k p

reason_of : (source : List ℕ) (k : RefusalKind) (p : Pos) → IsRefusal source k p → Reason source k p
reason_of source Lex p h = NoTokens refl h
reason_of source Syntax p h = NoForm h.0 h.1 (parse.Syntax p) h.2 (refl, refl)
reason_of source Depth p h = NoForm h.0 h.1 (parse.Depth p) h.2 (refl, refl)
reason_of source Name p h = NoTree h.0 h.1 h.2 (check.Name p) h.3 (refl, refl)
reason_of source Typing p h = NoTree h.0 h.1 h.2 (check.Typing p) h.3 (refl, refl)
reason_of source Count p h = NoTree h.0 h.1 h.2 (check.Count p) h.3 (refl, refl)
reason_of source Unbuilt p h = NoCode refl h

same_lex : (source : List ℕ) (p q : Pos) → IsLexFault source (lex.At p) → IsLexFault source (lex.At q) → p ≡ q
same_lex source p q a b = one_position source b.0 p q (subst (λ n. IsPosition source n p) (fault_once source a.0 b.0 a.1 b.1) a.2) b.2

same_parse : (source : List ℕ) (tokens : List Token) (e f : ParseFault) (j k : RefusalKind) (p q : Pos) → IsParseFault source tokens e → IsParseFault source tokens f → IsToldParse e j p → IsToldParse f k q → (j ≡ k) × (p ≡ q)
same_parse source tokens parse.NoMemory f j k p q a b t u = absurd t
same_parse source tokens (parse.Syntax x) parse.NoMemory j k p q a b t u = absurd u
same_parse source tokens (parse.Depth x) parse.NoMemory j k p q a b t u = absurd u
same_parse source tokens (parse.Syntax x) (parse.Syntax y) j k p q a b t u =
    (t.0 ∙ sym u.0, t.1 ∙ stands_once source tokens a.0 b.0 x y (stops_once (words_of source tokens) a.0 b.0 a.1 b.1) a.2 b.2 ∙ sym u.1)
same_parse source tokens (parse.Depth x) (parse.Depth y) j k p q a b t u =
    (t.0 ∙ sym u.0, t.1 ∙ stands_once source tokens a.0 b.0 x y (deep_once (words_of source tokens) a.0 b.0 a.1 b.1) a.2 b.2 ∙ sym u.1)
same_parse source tokens (parse.Syntax x) (parse.Depth y) j k p q a b t u = absurd (a.1.no_tree b.1.tree b.1.is_tree.derives)
same_parse source tokens (parse.Depth x) (parse.Syntax y) j k p q a b t u = absurd (b.1.no_tree a.1.tree a.1.is_tree.derives)

told_same : (e f : CheckFault) (j k : RefusalKind) (p q : Pos) → e ≡ f → IsToldCheck e j p → IsToldCheck f k q → (j ≡ k) × (p ≡ q)
told_same e check.NoMemory j k p q same t u = absurd u
told_same e (check.Name y) j k p q same t u = let h = subst (λ x. IsToldCheck x j p) same t in (h.0 ∙ sym u.0, h.1 ∙ sym u.1)
told_same e (check.Typing y) j k p q same t u = let h = subst (λ x. IsToldCheck x j p) same t in (h.0 ∙ sym u.0, h.1 ∙ sym u.1)
told_same e (check.Count y) j k p q same t u = let h = subst (λ x. IsToldCheck x j p) same t in (h.0 ∙ sym u.0, h.1 ∙ sym u.1)

is_told : (e : CheckFault) (k : RefusalKind) (p : Pos) → IsToldCheck e k p → IsTold e
is_told check.NoMemory k p h = h
is_told (check.Name q) k p h = tt
is_told (check.Typing q) k p h = tt
is_told (check.Count q) k p h = tt

-- ---- of a source

same_tokens : (source : List ℕ) (tokens others : List Token) (P : List Token → Type 0) → AreTokens source tokens → AreTokens source others → P others → P tokens
same_tokens source tokens others P a b h = subst P (tokens_once source others tokens b a) h

-- the untyped tree, and what is known by it
same_raw : (source : List ℕ) (tokens others : List Token) (raw other : Raw) (P : List Token → Raw → Type 0) → IsParsed source tokens raw → IsParsed source others other → P others other → P tokens raw
same_raw source tokens others raw other P a b h =
    let moved = same_tokens source tokens others (λ ts. Parsed (words_of source ts) other × P ts other) a.tokens_are b.tokens_are (b.parsed, h) in
    subst (P tokens) (raw_once (words_of source tokens) other raw moved.0 a.parsed) moved.1

-- a source has one typed tree
pub tree_once : (source : List ℕ) (a b : Tree) → IsTreeOf source a → IsTreeOf source b → a ≡ b
tree_once source a b h k = one_tree source h.0 h.1 a b h.3 (same_raw source h.0 k.0 h.1 k.1 (λ ts r. IsTree source ts r b) h.2 k.2 k.3)

-- what has tokens has no fault of the first kind, and so on
lex_or_tokens : (source : List ℕ) (p : Pos) (tokens : List Token) → IsLexFault source (lex.At p) → AreTokens source tokens → ⊥
lex_or_tokens source p tokens h k = no_tokens source tokens h.0 k h.1

parse_or_form : (source : List ℕ) (tokens others : List Token) (raw : Raw) (e : ParseFault) (k : RefusalKind) (p : Pos) → AreTokens source tokens → IsParseFault source tokens e → IsToldParse e k p → IsParsed source others raw → ⊥
parse_or_form source tokens others raw e k p a h t b =
    let parsed = same_tokens source tokens others (λ ts. Parsed (words_of source ts) raw) a b.tokens_are b.parsed in
    subst (λ x. IsToldParse x k p) (no_parse_fault source tokens raw e parsed h) t

check_or_tree : (source : List ℕ) (tokens : List Token) (raw : Raw) (e : CheckFault) (k : RefusalKind) (p : Pos) (tree : Tree) → IsParsed source tokens raw → IsFault source tokens raw e → IsToldCheck e k p → IsTreeOf source tree → ⊥
check_or_tree source tokens raw e k p tree a h t b =
    let typed = same_raw source tokens b.0 raw b.1 (λ ts r. IsTree source ts r tree) a b.2 b.3 in
    subst (λ x. IsToldCheck x k p) (no_fault source tokens raw tree e typed h) t

-- the form without code that is told is that of the tree
unbuilt_once : (source : List ℕ) (p : Pos) (tree : Tree) → IsUnbuilt source p → IsTreeOf source tree → (at : Span) × (unbuilt_of tree ≡ Some at) × IsPosition source at.start p
unbuilt_once source p tree h k = (h.2, ap unbuilt_of (tree_once source tree h.0 k h.1) ∙ h.3, h.4)

same_unbuilt : (source : List ℕ) (p q : Pos) → IsUnbuilt source p → IsUnbuilt source q → p ≡ q
same_unbuilt source p q a b =
    let here = unbuilt_once source p b.0 a b.1 in
    let same : here.0 ≡ b.2 = (let e = sym here.1 ∙ b.3 in cc) in
    one_position source b.2.start p q (subst (λ (s : Span). IsPosition source s.start p) same here.2) b.4

one_reason : (source : List ℕ) (j k : RefusalKind) (p q : Pos) → Reason source j p → Reason source k q → (j ≡ k) × (p ≡ q)
one_reason source j k p q (NoTokens a h) (NoTokens b i) = (a ∙ sym b, same_lex source p q h i)
one_reason source j k p q (NoTokens a h) (NoForm ts b e i t) = absurd (lex_or_tokens source p ts h b)
one_reason source j k p q (NoTokens a h) (NoTree ts r b e i t) = absurd (lex_or_tokens source p ts h b.tokens_are)
one_reason source j k p q (NoTokens a h) (NoCode b i) = absurd (lex_or_tokens source p i.1.0 h i.1.2.tokens_are)
one_reason source j k p q (NoForm ts a e h t) (NoTokens b i) = absurd (lex_or_tokens source q ts i a)
one_reason source j k p q (NoForm ts a e h t) (NoForm us b f i u) = same_parse source ts e f j k p q h (same_tokens source ts us (λ x. IsParseFault source x f) a b i) t u
one_reason source j k p q (NoForm ts a e h t) (NoTree us r b f i u) = absurd (parse_or_form source ts us r e j p a h t b)
one_reason source j k p q (NoForm ts a e h t) (NoCode b i) = absurd (parse_or_form source ts i.1.0 i.1.1 e j p a h t i.1.2)
one_reason source j k p q (NoTree ts r a e h t) (NoTokens b i) = absurd (lex_or_tokens source q ts i a.tokens_are)
one_reason source j k p q (NoTree ts r a e h t) (NoForm us b f i u) = absurd (parse_or_form source us ts r f k q b i u a)
one_reason source j k p q (NoTree ts r a e h t) (NoTree us o b f i u) =
    let moved = same_raw source ts us r o (λ x y. IsFault source x y f) a b i in
    told_same e f j k p q (one_fault source ts r e f (is_told e j p t) (is_told f k q u) h moved) t u
one_reason source j k p q (NoTree ts r a e h t) (NoCode b i) = absurd (check_or_tree source ts r e j p i.0 a h t i.1)
one_reason source j k p q (NoCode a h) (NoTokens b i) = absurd (lex_or_tokens source q h.1.0 i h.1.2.tokens_are)
one_reason source j k p q (NoCode a h) (NoForm us b f i u) = absurd (parse_or_form source us h.1.0 h.1.1 f k q b i u h.1.2)
one_reason source j k p q (NoCode a h) (NoTree us o b f i u) = absurd (check_or_tree source us o f k q h.0 b i u h.1)
one_reason source j k p q (NoCode a h) (NoCode b i) = (a ∙ sym b, same_unbuilt source p q h i)

reason_unbuilt : (source : List ℕ) (k : RefusalKind) (p : Pos) (tree : Tree) → Reason source k p → IsTreeOf source tree → (k ≡ Unbuilt) × IsUnbuilt source p
reason_unbuilt source k p tree (NoTokens a h) b = absurd (lex_or_tokens source p b.0 h b.2.tokens_are)
reason_unbuilt source k p tree (NoForm ts a e h t) b = absurd (parse_or_form source ts b.0 b.1 e k p a h t b.2)
reason_unbuilt source k p tree (NoTree ts r a e h t) b = absurd (check_or_tree source ts r e k p tree a h t b)
reason_unbuilt source k p tree (NoCode a h) b = (a, h)

-- ---- what the compiler answers

-- a reason is the only one
pub refusal_only : (source : List ℕ) (kind : RefusalKind) (pos : Pos) → IsRefusal source kind pos → IsOnlyRefusal source kind pos
refusal_only source kind pos h = record {
  once = λ k p i. one_reason source k kind p pos (reason_of source k p i) (reason_of source kind pos h);
  unbuilt = λ t b.
      let u = reason_unbuilt source kind pos t (reason_of source kind pos h) b in
      let at = unbuilt_once source pos t u.1 b in
      (u.0, at.0, at.1, at.2);
}

-- so is a tree all of whose forms have code
pub tree_only : (source : List ℕ) (tree : Tree) → IsTreeOf source tree → unbuilt_of tree ≡ None → IsOnlyTree source tree
tree_only source tree h none = record {
  once = λ t b. tree_once source t tree b h;
  unrefused = λ kind pos i.
      let u = reason_unbuilt source kind pos tree (reason_of source kind pos i) h in
      let at = unbuilt_once source pos tree u.1 h in
      let bad = sym none ∙ at.1 in
      cc;
}

pub refused_only : (source : List ℕ) (e : CompileFault) → IsRefused source e → IsOnlyRefused source e
refused_only source NoMemory h = tt
refused_only source (Refused r) h = refusal_only source r.kind r.at h

pub built_only : (source : List ℕ) (r : Result Compiled CompileFault) → IfOk r (IsCompiled source) → IfOk r (λ c. unbuilt_of c.tree ≡ None) → IfOk r (λ c. IsOnlyTree source c.tree)
built_only source (Ok c) h built = tree_only source c.tree h.tree built
built_only source (Err e) h built = tt

-- where all forms have code, no reason is left but want of memory
pub refused_complete : (source : List ℕ) (e : CompileFault) → IsRefused source e → (tree : Tree) → IsTreeOf source tree → unbuilt_of tree ≡ None → e ≡ NoMemory
refused_complete source NoMemory h tree b none = refl
refused_complete source (Refused r) h tree b none = absurd (let at = (refusal_only source r.kind r.at h).unbuilt tree b in let bad = sym none ∙ at.2 in cc)

pub complete : (source : List ℕ) (r : Result Compiled CompileFault) → IfOk r (IsCompiled source) → IfOk r (λ c. unbuilt_of c.tree ≡ None) → IfErr r (IsRefused source) → IsComplete source r
complete source (Ok c) h built k = λ tree b none. tree_once source c.tree tree h.tree b
complete source (Err e) h built k = refused_complete source e k
