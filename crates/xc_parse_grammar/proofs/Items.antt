-- Declarations, functions and statements are read to their trees; so are whole texts.
use Rattle.std.proofs.Common.{◌≡◌, List, [], ◌∷◌, ◌++◌, Some, true, false, refl, sym, ap, ◌∙◌, subst, arith, append_assoc}
use Rattle.std.specs.Prelude.{◌⊎◌, nat_lt}
use Rattle.std.proofs.lemmas.List.{append-nil}
use mathlib.Core.Logic.{inl, inr, ⊎_elim}
use Rattle.xc_raw.specs.declared.word.Word.{Word}
use Rattle.xc_raw.specs.declared.word.Word.TheVariants as word
use Rattle.xc_raw.specs.declared.rule.Rule.{Rule}
use Rattle.xc_raw.specs.declared.rule.Rule.TheVariants as rule
use Rattle.xc_parse_grammar.specs.declared.marks.Strength.TheVariants as strength
use Rattle.xc_parse_grammar.specs.declared.marks.Class.{Class}
use Rattle.xc_parse_grammar.specs.declared.marks.Class.TheVariants as class
use Rattle.xc_parse_grammar.specs.declared.marks.Kind.TheVariants as kind
use Rattle.xc_parse_grammar.specs.declared.marks.Item.{Item}
use Rattle.xc_parse_grammar.specs.declared.marks.Item.TheVariants as item
use Rattle.xc_parse_grammar.specs.declared.spots.Spot.{Spot}
use Rattle.xc_parse_grammar.specs.declared.spots.Spot.TheVariants as spot
use Rattle.xc_parse_grammar.specs.declared.goals.Use.TheVariants.{Plain}
use Rattle.xc_parse_grammar.specs.declared.goals.Goal.{Goal}
use Rattle.xc_parse_grammar.specs.declared.goals.Goal.TheVariants as goal
use Rattle.xc_parse_grammar.specs.declared.goals.Shape.TheVariants as shape
use Rattle.xc_parse_grammar.specs.Marks.{accepts, is_specifier, is_word_specifier, is_pragma, begins_rule, begins_declarator, begins_expr}
use Rattle.xc_raw.specs.Kinds.{is_struct}
use Rattle.xc_parse_grammar.specs.Grammar.{Form, leaf, begin, ◌▹◌, leaves, Among, Fits, sort, Is, InClass, is_item, is_stmt, Derives}
use Rattle.xc_parse_grammar.specs.Spots.{steps, start}
use Rattle.xc_parse_grammar.specs.Plan.{Act, does, begin_at, statement, read_item, read_block_item, read_init, item_rest, future_next, planned}
use Rattle.xc_parse_grammar.proofs.Links.{Spotted, Complete, to_complete}
use Rattle.xc_parse_grammar.proofs.Needs.{Calm, future, sort_closed, calm_closed}
use Rattle.xc_parse_grammar.proofs.Ends.{first}
use Rattle.xc_parse_grammar.proofs.Tables.{same_word, class_begins}
use Rattle.xc_parse_grammar.proofs.Follow.{pull, is_open_bracket, rule_goes, is_plain, readable, looser_pull}
use Rattle.xc_parse_grammar.proofs.Machine.{St, Leads, here, on, join, respell, into, by}
use Rattle.xc_parse_grammar.proofs.Run.{Opened, fit_first, node_first, first_is, Reading, Known, KnownIf, Parts, Ext, Later, AtDinit, AtNamed, AtWhole, is_some, nothing_more}
use Rattle.xc_parse_grammar.proofs.PartsOf.{PartOf, part_of, lead_of, run_from, run_node, head_of, head_first, only}
use Rattle.xc_parse_grammar.proofs.Expressions.{specs_cast, brace_init}
use Rattle.xc_parse_grammar.proofs.Operands.{base_of, behind_of, operating_of, tails_of, still_of, expr_of, index_of, assign_plain, read_at}
use Rattle.xc_parse_grammar.proofs.Names.{word_part, kind_is, token_part, part_or, or_false_right, declr_of, callee_of, bounds_of, place_of}

abbrev specified : Act
specified = does shape.Specify (goal.At spot.SpecsMore ∷ goal.Join ∷ goal.At spot.DeclarationFirst ∷ [])

statement_Block : (w : Word) → begins_rule rule.Block w ≡ true → statement w ≡ rule.Block
statement_Block word.OpenBrace h = refl
statement_Block _ h = cc h

statement_If : (w : Word) → begins_rule rule.If w ≡ true → statement w ≡ rule.If
statement_If word.If h = refl
statement_If _ h = cc h

statement_While : (w : Word) → begins_rule rule.While w ≡ true → statement w ≡ rule.While
statement_While word.While h = refl
statement_While _ h = cc h

statement_Do : (w : Word) → begins_rule rule.Do w ≡ true → statement w ≡ rule.Do
statement_Do word.Do h = refl
statement_Do _ h = cc h

statement_For : (w : Word) → begins_rule rule.For w ≡ true → statement w ≡ rule.For
statement_For word.For h = refl
statement_For _ h = cc h

statement_Return : (w : Word) → begins_rule rule.Return w ≡ true → statement w ≡ rule.Return
statement_Return word.Return h = refl
statement_Return _ h = cc h

statement_Break : (w : Word) → begins_rule rule.Break w ≡ true → statement w ≡ rule.Break
statement_Break word.Break h = refl
statement_Break _ h = cc h

statement_Continue : (w : Word) → begins_rule rule.Continue w ≡ true → statement w ≡ rule.Continue
statement_Continue word.Continue h = refl
statement_Continue _ h = cc h

statement_Future : (w : Word) → begins_rule rule.Future w ≡ true → statement w ≡ rule.Future
statement_Future word.Future h = refl
statement_Future _ h = cc h

statement_Eval : (w : Word) → begins_rule rule.Eval w ≡ true → statement w ≡ rule.Eval
statement_Eval word.Semicolon h = refl
statement_Eval word.Name h = refl
statement_Eval (word.Literal x) h = refl
statement_Eval word.Open h = refl
statement_Eval word.Star h = refl
statement_Eval word.Ampersand h = refl
statement_Eval (word.Sign x) h = refl
statement_Eval (word.Complement x) h = refl
statement_Eval (word.Step x) h = refl
statement_Eval _ h = cc h

statement_of : (r : Rule) (w : Word) → is_stmt r ≡ true → begins_rule r w ≡ true → statement w ≡ r
statement_of rule.Eval w e h = statement_Eval w h
statement_of rule.Block w e h = statement_Block w h
statement_of rule.If w e h = statement_If w h
statement_of rule.While w e h = statement_While w h
statement_of rule.Do w e h = statement_Do w h
statement_of rule.For w e h = statement_For w h
statement_of rule.Return w e h = statement_Return w h
statement_of rule.Break w e h = statement_Break w h
statement_of rule.Continue w e h = statement_Continue w h
statement_of rule.Future w e h = statement_Future w h
statement_of _ w e h = cc e

block_Block : (w : Word) → begins_rule rule.Block w ≡ true → read_block_item w ≡ does shape.Keep (goal.Read class.Stmt ∷ [])
block_Block word.OpenBrace h = refl
block_Block _ h = cc h

block_If : (w : Word) → begins_rule rule.If w ≡ true → read_block_item w ≡ does shape.Keep (goal.Read class.Stmt ∷ [])
block_If word.If h = refl
block_If _ h = cc h

block_While : (w : Word) → begins_rule rule.While w ≡ true → read_block_item w ≡ does shape.Keep (goal.Read class.Stmt ∷ [])
block_While word.While h = refl
block_While _ h = cc h

block_Do : (w : Word) → begins_rule rule.Do w ≡ true → read_block_item w ≡ does shape.Keep (goal.Read class.Stmt ∷ [])
block_Do word.Do h = refl
block_Do _ h = cc h

block_For : (w : Word) → begins_rule rule.For w ≡ true → read_block_item w ≡ does shape.Keep (goal.Read class.Stmt ∷ [])
block_For word.For h = refl
block_For _ h = cc h

block_Return : (w : Word) → begins_rule rule.Return w ≡ true → read_block_item w ≡ does shape.Keep (goal.Read class.Stmt ∷ [])
block_Return word.Return h = refl
block_Return _ h = cc h

block_Break : (w : Word) → begins_rule rule.Break w ≡ true → read_block_item w ≡ does shape.Keep (goal.Read class.Stmt ∷ [])
block_Break word.Break h = refl
block_Break _ h = cc h

block_Continue : (w : Word) → begins_rule rule.Continue w ≡ true → read_block_item w ≡ does shape.Keep (goal.Read class.Stmt ∷ [])
block_Continue word.Continue h = refl
block_Continue _ h = cc h

block_Eval : (w : Word) → begins_rule rule.Eval w ≡ true → read_block_item w ≡ does shape.Keep (goal.Read class.Stmt ∷ [])
block_Eval word.Semicolon h = refl
block_Eval word.Name h = refl
block_Eval (word.Literal x) h = refl
block_Eval word.Open h = refl
block_Eval word.Star h = refl
block_Eval word.Ampersand h = refl
block_Eval (word.Sign x) h = refl
block_Eval (word.Complement x) h = refl
block_Eval (word.Step x) h = refl
block_Eval _ h = cc h

block_stmt : (r : Rule) (w : Word) → is_stmt r ≡ true → begins_rule r w ≡ true → (r ≡ rule.Future) ⊎ (read_block_item w ≡ does shape.Keep (goal.Read class.Stmt ∷ []))
block_stmt rule.Future w e h = inl refl
block_stmt rule.Eval w e h = inr (block_Eval w h)
block_stmt rule.Block w e h = inr (block_Block w h)
block_stmt rule.If w e h = inr (block_If w h)
block_stmt rule.While w e h = inr (block_While w h)
block_stmt rule.Do w e h = inr (block_Do w h)
block_stmt rule.For w e h = inr (block_For w h)
block_stmt rule.Return w e h = inr (block_Return w h)
block_stmt rule.Break w e h = inr (block_Break w h)
block_stmt rule.Continue w e h = inr (block_Continue w h)
block_stmt _ w e h = cc e

stmt_plain : (r : Rule) → is_stmt r ≡ true → (is_plain r ≡ true) × ((w : Word) → rule_goes r w ≡ false)
stmt_plain rule.Eval e = (refl, λ w. refl)
stmt_plain rule.Block e = (refl, λ w. refl)
stmt_plain rule.If e = (refl, λ w. refl)
stmt_plain rule.While e = (refl, λ w. refl)
stmt_plain rule.Do e = (refl, λ w. refl)
stmt_plain rule.For e = (refl, λ w. refl)
stmt_plain rule.Return e = (refl, λ w. refl)
stmt_plain rule.Break e = (refl, λ w. refl)
stmt_plain rule.Continue e = (refl, λ w. refl)
stmt_plain rule.Future e = (refl, λ w. refl)
stmt_plain _ e = cc e

block_specifier : (w : Word) → is_specifier w ≡ true → (w ≡ word.Future) ⊎ (read_block_item w ≡ begin_at rule.Declaration)
block_specifier word.Future h = inl refl
block_specifier (word.Specifier x) h = inr refl
block_specifier word.Void h = inr refl
block_specifier (word.Qualifier x) h = inr refl
block_specifier word.Struct h = inr refl
block_specifier _ h = cc h

item_specifier : (w : Word) → is_specifier w ≡ true → read_item w ≡ does (shape.Begin rule.Specs) (goal.At spot.Specs ∷ goal.ItemRest ∷ [])
item_specifier word.Future h = refl
item_specifier (word.Specifier x) h = refl
item_specifier word.Void h = refl
item_specifier (word.Qualifier x) h = refl
item_specifier word.Struct h = refl
item_specifier _ h = cc h

pragma_is : (w : Word) → is_pragma w ≡ true → w ≡ word.Pragma
pragma_is word.Pragma h = refl
pragma_is _ h = cc h

declarator_rest : (w : Word) → begins_declarator w ≡ true → item_rest w ≡ does (shape.Begin rule.Declr) (goal.ItemDeclr ∷ [])
declarator_rest word.Star h = refl
declarator_rest word.Name h = refl
declarator_rest _ h = cc h

specifier_specifies : (w : Word) → is_specifier w ≡ true → future_next w ≡ specified
specifier_specifies word.Future h = refl
specifier_specifies (word.Specifier x) h = refl
specifier_specifies word.Void h = refl
specifier_specifies (word.Qualifier x) h = refl
specifier_specifies word.Struct h = refl
specifier_specifies _ h = cc h

declarator_next : (w : Word) → begins_declarator w ≡ true → (w ≡ word.Name) ⊎ (future_next w ≡ specified)
declarator_next word.Name h = inl refl
declarator_next word.Star h = inr refl
declarator_next _ h = cc h

declarator_quiet : (w : Word) → begins_declarator w ≡ true → rule_goes rule.Specs w ≡ false
declarator_quiet word.Name h = refl
declarator_quiet word.Star h = refl
declarator_quiet _ h = cc h

word_is_specifier : (w : Word) → is_word_specifier w ≡ true → is_specifier w ≡ true
word_is_specifier (word.Specifier x) h = refl
word_is_specifier word.Void h = refl
word_is_specifier (word.Qualifier x) h = refl
word_is_specifier word.Future h = refl
word_is_specifier _ h = cc h

struct_is_specifier : (w : Word) → is_struct w ≡ true → is_specifier w ≡ true
struct_is_specifier word.Struct h = refl
struct_is_specifier _ h = cc h

item_is : (r : Rule) → is_item r ≡ true → (r ≡ rule.Pragma) ⊎ ((r ≡ rule.Declaration) ⊎ (r ≡ rule.Function))
item_is rule.Pragma e = inl refl
item_is rule.Declaration e = inr (inl refl)
item_is rule.Function e = inr (inr refl)
item_is _ e = cc e

more_quiet : (i : Item) (t : Spot) (w : Word) → Among i t (steps spot.DeclarationMore) → accepts i w ≡ true → rule_goes rule.Dinit w ≡ false
more_quiet i t w m h =
    ⊎_elim (λ k. ap (rule_goes rule.Dinit) (same_word word.Comma w refl (ap (λ x. accepts x w) k.0 ∙ h)))
    (λ m. ⊎_elim (λ k. ap (rule_goes rule.Dinit) (same_word word.Semicolon w refl (ap (λ x. accepts x w) k.0 ∙ h))) (λ z. absurd z) m) m

open_is : (w : Word) → begins_rule rule.Params w ≡ true → w ≡ word.Open
open_is word.Open h = refl
open_is _ h = cc h

alone : (words : List Word) → word.Future ∷ words ≡ word.Future ∷ [] → words ≡ []
alone words e = cc e

quiet_dinit : (w : Word) → rule_goes rule.Dinit w ≡ false → nat_lt 1 (pull w) ≡ false
quiet_dinit w h = or_false_right (is_open_bracket w) (nat_lt 1 (pull w)) h

-- a part of a rule that is one node
node_part : (b f : Form) (ws : List Word) (t u : Spot) (c : Class) (x : PartOf b f ws t) → steps t ≡ (item.Part c, u) ∷ [] → (Complete x.part × Is c (sort x.part)) × (u ≡ x.to)
node_part b f ws t u c x e =
    let o = only x.item (item.Part c) x.to u (subst (λ l. Among x.item x.to l) e x.allowed) in
    (subst (λ i. Fits i x.part (Complete x.part)) (sym o.0) x.fits, o.1)

sort_is : (r : Rule) (g : Form) → Is (class.Node r) (sort g) → sort g ≡ Some r
sort_is r g i = let q = is_some (class.Node r) (sort g) i in q.1 ∙ ap Some q.2

-- behind a declarator: an initialiser, or the end
dinit_word : (b f : Form) (ws ts : List Word) → Ext b f ws → Complete f → Parts f → Spotted b spot.DinitSet → rule_goes rule.Dinit (first ts) ≡ false → nat_lt 2 (pull (first (ws ++ ts))) ≡ false
dinit_word b f ws ts e c q k n =
    ⊎_elim (λ i. ap (λ v. nat_lt 2 (pull (first (v ++ ts)))) (nothing_more b f ws e i) ∙ looser_pull 1 2 (pull (first ts)) (omega arith) (quiet_dinit (first ts) n))
    (λ x.
    let o = only x.item (item.Word word.Set) x.to spot.DinitInit x.allowed in
    let t = word_part b f ws spot.DinitSet spot.DinitInit word.Set x refl o.0 o.1 in
    ap (λ v. nat_lt 2 (pull (first (v ++ ts)))) t.spelled)
    (part_or b f ws e c q spot.DinitSet k)

dinit_calm : (f : Form) (w : Word) → sort f ≡ Some rule.Dinit → Calm f w
dinit_calm f w s = calm_closed f w (sort_closed rule.Dinit f s refl)

dinit_of : (f : Form) → Complete f → Parts f → sort f ≡ Some rule.Dinit → AtDinit f
dinit_of f c q s gs p d ts n =
    let x = lead_of f rule.Dinit c s q in
    let g = node_part (begin rule.Dinit) f (leaves f) spot.Dinit spot.DinitSet (class.Node rule.Declr) x refl in
    let k : Spotted (begin rule.Dinit ▹ x.part) spot.DinitSet = subst (λ i. Spotted (begin rule.Dinit ▹ x.part) i) (sym g.1) x.spotted in
    let o = node_first f rule.Dinit c s in
    join (by goal.ItemRest (does (shape.Begin rule.Declr) (goal.ItemDeclr ∷ [])) gs (p ∷ d) (leaves f ++ ts) (St (goal.ItemDeclr ∷ gs) (begin rule.Declr ∷ p ∷ d) (leaves f ++ ts)) (ap item_rest (first_is f _ ts o) ∙ declarator_rest o.word o.holds) refl)
    (respell (ap (λ v. v ++ ts) x.spelled ∙ append_assoc (leaves x.part) x.words ts)
    (join ((x.known g.0.0).declr (sort_is rule.Declr x.part g.0.1) gs p d (x.words ++ ts) (dinit_word (begin rule.Dinit ▹ x.part) f x.words ts x.ext c q k n))
    (join (run_from (begin rule.Dinit ▹ x.part) f x.words spot.DinitSet rule.Dinit k refl x.ext c s q (goal.Join ∷ goal.At spot.DeclarationMore ∷ gs) ((begin rule.Declaration ▹ p) ∷ d) ts n (dinit_calm f (first ts) s))
    (on refl here))))

named_of : (f : Form) → Complete f → Parts f → sort f ≡ Some rule.Dinit → AtNamed f
named_of f c q s a gs d ts n =
    let x = lead_of f rule.Dinit c s q in
    let g = node_part (begin rule.Dinit) f (leaves f) spot.Dinit spot.DinitSet (class.Node rule.Declr) x refl in
    let k : Spotted (begin rule.Dinit ▹ x.part) spot.DinitSet = subst (λ i. Spotted (begin rule.Dinit ▹ x.part) i) (sym g.1) x.spotted in
    let o = node_first x.part rule.Declr g.0.0 (sort_is rule.Declr x.part g.0.1) in
    let w : first (leaves x.part) ≡ word.Name = ap first o.spelled ∙ sym (ap (λ v. first (v ++ x.words)) o.spelled) ∙ ap first (sym x.spelled) ∙ a in
    let z : first (leaves f ++ ts) ≡ word.Name = ap (λ v. first (v ++ ts)) (x.spelled ∙ ap (λ v. v ++ x.words) o.spelled) ∙ sym (ap first o.spelled) ∙ w in
    let specs = begin rule.Declaration ▹ (begin rule.Specs ▹ leaf word.Future) in
    join (by goal.FutureNext (does (shape.Begin rule.Place) (goal.FutureName ∷ [])) gs (future ∷ d) (leaves f ++ ts) (St (goal.FutureName ∷ gs) (begin rule.Place ∷ future ∷ d) (leaves f ++ ts)) (ap future_next z) refl)
    (respell (ap (λ v. v ++ ts) x.spelled ∙ append_assoc (leaves x.part) x.words ts)
    (join ((x.known g.0.0).bounds (sort_is rule.Declr x.part g.0.1) w gs d (x.words ++ ts) (dinit_word (begin rule.Dinit ▹ x.part) f x.words ts x.ext c q k n))
    (join (run_from (begin rule.Dinit ▹ x.part) f x.words spot.DinitSet rule.Dinit k refl x.ext c s q (goal.Join ∷ goal.At spot.DeclarationMore ∷ gs) (specs ∷ d) ts n (dinit_calm f (first ts) s))
    (on refl here))))

-- specifiers -------------------------------------------------------------------------------------

specs_calm : (f : Form) (w : Word) → sort f ≡ Some rule.Specs → Calm f w
specs_calm f w s = calm_closed f w (sort_closed rule.Specs f s refl)

specs_item : (i : Item) (t : Spot) (w : Word) → Among i t (steps spot.SpecsMore) → accepts i w ≡ true → is_specifier w ≡ true
specs_item i t w m h = ⊎_elim (λ k. word_is_specifier w (ap (λ x. accepts x w) k.0 ∙ h)) (λ m. ⊎_elim (λ k. struct_is_specifier w (ap (λ x. accepts x w) k.0 ∙ h)) (λ z. absurd z) m) m

later_of : (f : Form) → Complete f → Parts f → sort f ≡ Some rule.Specs → first (leaves f) ≡ word.Future → Later f
later_of f c q s a =
    let x = lead_of f rule.Specs c s q in
    ⊎_elim
    (λ m.
    let y = kind_is kind.Specifier x.part (subst (λ i. Fits i x.part (Complete x.part)) (sym m.0) x.fits) in
    let z : y.0 ≡ word.Future = sym (ap first (x.spelled ∙ ap (λ g. leaves g ++ x.words) y.1)) ∙ a in
    let t = token_part (begin rule.Specs) f (leaves f) spot.Specs spot.SpecsMore word.Future x (y.1 ∙ ap leaf z) (sym m.1) in
    record {
      words = t.words;
      spelled = t.spelled;
      run = λ gs d ts n. run_from (begin rule.Specs ▹ leaf word.Future) f t.words spot.SpecsMore rule.Specs t.spotted refl t.ext c s q gs d ts n (specs_calm f (first ts) s);
      end = ⊎_elim (λ i. inl (sym i)) (λ u. let o = fit_first u.item u.part u.fits in inr (o.word, o.rest ++ u.words, u.spelled ∙ ap (λ v. v ++ u.words) o.spelled, specs_item u.item u.to o.word u.allowed o.holds))
          (part_or (begin rule.Specs ▹ leaf word.Future) f t.words t.ext c q spot.SpecsMore t.spotted);
    })
    (λ m. ⊎_elim
    (λ m.
    let g = subst (λ i. Fits i x.part (Complete x.part)) (sym m.0) x.fits in
    let o = node_first x.part rule.Struct g.0 (sort_is rule.Struct x.part g.1) in
    let z : o.word ≡ word.Future = sym (ap first (x.spelled ∙ ap (λ v. v ++ x.words) o.spelled)) ∙ a in
    let bad : false ≡ true = ap (begins_rule rule.Struct) (sym z) ∙ o.holds in cc bad)
    (λ z. absurd z) m)
    x.allowed

-- items ------------------------------------------------------------------------------------------

-- a node that begins with specifiers
record Specified (r : Rule) (t : Spot) (f : Form) : Type 0 where
  part : Form
  words : List Word
  ext : Ext (begin r ▹ part) f words
  spelled : leaves f ≡ leaves part ++ words
  known : Known part
  complete : Complete part
  sorted : sort part ≡ Some rule.Specs
  spotted : Spotted (begin r ▹ part) t
  opening : Opened f (λ w. is_specifier w ≡ true)
  same : (o : Opened part (λ w. is_specifier w ≡ true)) → o.word ≡ opening.word

specified_by : (r : Rule) (t : Spot) (f : Form) → steps (start r) ≡ (item.Part (class.Node rule.Specs), t) ∷ [] → ((w : Word) → begins_rule r w ≡ is_specifier w) → Complete f → sort f ≡ Some r → Parts f → Specified r t f
specified_by r t f e k c s q =
    let x = lead_of f r c s q in
    let g = node_part (begin r) f (leaves f) (start r) t (class.Node rule.Specs) x e in
    let o = node_first f r c s in
    record {
      part = x.part;
      words = x.words;
      ext = x.ext;
      spelled = x.spelled;
      known = x.known g.0.0;
      complete = g.0.0;
      sorted = sort_is rule.Specs x.part g.0.1;
      spotted = subst (λ i. Spotted (begin r ▹ x.part) i) (sym g.1) x.spotted;
      opening = record { word = o.word; rest = o.rest; spelled = o.spelled; holds = sym (k o.word) ∙ o.holds };
      same = λ u. let z : u.word ∷ (u.rest ++ x.words) ≡ o.word ∷ o.rest = sym (ap (λ v. v ++ x.words) u.spelled) ∙ sym x.spelled ∙ o.spelled in cc z;
    }

module _ (gs : List Goal) (d : List Form) (ts : List Word) where
  read_pragma : (c : Class) (f : Form) → AtWhole f → sort f ≡ Some rule.Pragma → ((w : Word) → w ≡ word.Pragma → planned (goal.Read c) w ≡ begin_at rule.Pragma) → Complete f → Leads (St (goal.Read c ∷ gs) d (leaves f ++ ts)) (St gs (f ∷ d) ts)
  read_pragma c f h s k y =
      let o = node_first f rule.Pragma y s in
      join (by (goal.Read c) (begin_at rule.Pragma) gs d (leaves f ++ ts) (St (goal.At spot.Pragma ∷ gs) (begin rule.Pragma ∷ d) (leaves f ++ ts)) (k (first (leaves f ++ ts)) (first_is f _ ts o ∙ pragma_is o.word o.holds)) refl)
      (h rule.Pragma refl s gs d ts refl (calm_closed f (first ts) (sort_closed rule.Pragma f s refl)))

  -- the specifiers at file scope
  item_specs : (r : Rule) (t : Spot) (f : Form) (x : Specified r t f) → rule_goes rule.Specs (first (x.words ++ ts)) ≡ false → Leads (St (goal.Read class.Item ∷ gs) d (leaves f ++ ts)) (St (goal.ItemRest ∷ gs) (x.part ∷ d) (x.words ++ ts))
  item_specs r t f x n =
      join (by (goal.Read class.Item) (does (shape.Begin rule.Specs) (goal.At spot.Specs ∷ goal.ItemRest ∷ [])) gs d (leaves f ++ ts) (St (goal.At spot.Specs ∷ goal.ItemRest ∷ gs) (begin rule.Specs ∷ d) (leaves f ++ ts)) (ap read_item (first_is f _ ts x.opening) ∙ item_specifier x.opening.word x.opening.holds) refl)
      (respell (ap (λ v. v ++ ts) x.spelled ∙ append_assoc (leaves x.part) x.words ts)
      (x.known.whole rule.Specs refl x.sorted (goal.ItemRest ∷ gs) d (x.words ++ ts) n (specs_calm x.part (first (x.words ++ ts)) x.sorted)))

  item_declaration : (f : Form) → Complete f → sort f ≡ Some rule.Declaration → Parts f → Leads (St (goal.Read class.Item ∷ gs) d (leaves f ++ ts)) (St gs (f ∷ d) ts)
  item_declaration f c s q =
      let x = specified_by rule.Declaration spot.DeclarationFirst f refl (λ w. refl) c s q in
      let b = begin rule.Declaration ▹ x.part in
      let y = part_of b f x.words x.ext c q spot.DeclarationFirst x.spotted refl in
      let calm = calm_closed f (first ts) (sort_closed rule.Declaration f s refl) in
      ⊎_elim
      (λ m.
      let g = subst (λ i. Fits i y.part (Complete y.part)) (sym m.0) y.fits in
      let e = sort_is rule.Dinit y.part g.1 in
      let o = node_first y.part rule.Dinit g.0 e in
      let k : Spotted (b ▹ y.part) spot.DeclarationMore = subst (λ i. Spotted (b ▹ y.part) i) (sym m.1) y.spotted in
      let h = head_of (b ▹ y.part) f y.words spot.DeclarationMore (part_of (b ▹ y.part) f y.words y.ext c q spot.DeclarationMore k refl) in
      let z : first (x.words ++ ts) ≡ o.word = ap (λ v. first (v ++ ts)) (y.spelled ∙ ap (λ v. v ++ y.words) o.spelled) in
      join (item_specs rule.Declaration spot.DeclarationFirst f x (ap (rule_goes rule.Specs) z ∙ declarator_quiet o.word o.holds))
      (respell (ap (λ v. v ++ ts) y.spelled ∙ append_assoc (leaves y.part) y.words ts)
      (join ((y.known g.0).dinit e gs x.part d (y.words ++ ts) (ap (rule_goes rule.Dinit) (head_first y.words ts spot.DeclarationMore h) ∙ more_quiet h.item h.to h.word h.allowed h.accepted))
      (run_from (b ▹ y.part) f y.words spot.DeclarationMore rule.Declaration k refl y.ext c s q gs d ts refl calm))))
      (λ m. ⊎_elim
      (λ m.
      let t = word_part b f x.words spot.DeclarationFirst spot.Done word.Semicolon y refl m.0 m.1 in
      let z : first (x.words ++ ts) ≡ word.Semicolon = ap (λ v. first (v ++ ts)) t.spelled in
      join (item_specs rule.Declaration spot.DeclarationFirst f x (ap (rule_goes rule.Specs) z))
      (join (by goal.ItemRest (does (shape.Wrap rule.Declaration) (goal.At spot.DeclarationFirst ∷ [])) gs (x.part ∷ d) (x.words ++ ts) (St (goal.At spot.DeclarationFirst ∷ gs) (b ∷ d) (x.words ++ ts)) (ap item_rest z) refl)
      (run_from b f x.words spot.DeclarationFirst rule.Declaration x.spotted refl x.ext c s q gs d ts refl calm)))
      (λ z. absurd z) m)
      y.allowed

  item_function : (f : Form) → Complete f → sort f ≡ Some rule.Function → Parts f → Leads (St (goal.Read class.Item ∷ gs) d (leaves f ++ ts)) (St gs (f ∷ d) ts)
  item_function f c s q =
      let x = specified_by rule.Function spot.FunctionCallee f refl (λ w. refl) c s q in
      let b = begin rule.Function ▹ x.part in
      let y = part_of b f x.words x.ext c q spot.FunctionCallee x.spotted refl in
      let g = node_part b f x.words spot.FunctionCallee spot.FunctionParams (class.Node rule.Callee) y refl in
      let e = sort_is rule.Callee y.part g.0.1 in
      let o = node_first y.part rule.Callee g.0.0 e in
      let k : Spotted (b ▹ y.part) spot.FunctionParams = subst (λ i. Spotted (b ▹ y.part) i) (sym g.1) y.spotted in
      let u = part_of (b ▹ y.part) f y.words y.ext c q spot.FunctionParams k refl in
      let v = node_part (b ▹ y.part) f y.words spot.FunctionParams spot.FunctionBody (class.Node rule.Params) u refl in
      let w = node_first u.part rule.Params v.0.0 (sort_is rule.Params u.part v.0.1) in
      let z : first (x.words ++ ts) ≡ o.word = ap (λ i. first (i ++ ts)) (y.spelled ∙ ap (λ i. i ++ y.words) o.spelled) in
      let open_comes : first (y.words ++ ts) ≡ word.Open = ap (λ i. first (i ++ ts)) (u.spelled ∙ ap (λ i. i ++ u.words) w.spelled) ∙ open_is w.word w.holds in
      join (item_specs rule.Function spot.FunctionCallee f x (ap (rule_goes rule.Specs) z ∙ declarator_quiet o.word o.holds))
      (respell (ap (λ i. i ++ ts) y.spelled ∙ append_assoc (leaves y.part) y.words ts)
      (join ((y.known g.0.0).callee e gs x.part d (y.words ++ ts) open_comes)
      (run_from (b ▹ y.part) f y.words spot.FunctionParams rule.Function k refl y.ext c s q gs d ts refl (calm_closed f (first ts) (sort_closed rule.Function f s refl)))))

  -- in a block: future, and what follows, are specifiers
  future_specs : (f : Form) (x : Specified rule.Declaration spot.DeclarationFirst f) (l : Later x.part) → Complete f → sort f ≡ Some rule.Declaration → Parts f → rule_goes rule.Specs (first (x.words ++ ts)) ≡ false → future_next (first (l.words ++ (x.words ++ ts))) ≡ specified
      → Leads (St (goal.FutureNext ∷ gs) (future ∷ d) (l.words ++ (x.words ++ ts))) (St gs (f ∷ d) ts)
  future_specs f x l c s q n e =
      join (by goal.FutureNext specified gs (future ∷ d) (l.words ++ (x.words ++ ts)) (St (goal.At spot.SpecsMore ∷ goal.Join ∷ goal.At spot.DeclarationFirst ∷ gs) ((begin rule.Specs ▹ leaf word.Future) ∷ begin rule.Declaration ∷ d) (l.words ++ (x.words ++ ts))) e refl)
      (join (l.run (goal.Join ∷ goal.At spot.DeclarationFirst ∷ gs) (begin rule.Declaration ∷ d) (x.words ++ ts) n)
      (on refl
      (run_from (begin rule.Declaration ▹ x.part) f x.words spot.DeclarationFirst rule.Declaration x.spotted refl x.ext c s q gs d ts refl (calm_closed f (first ts) (sort_closed rule.Declaration f s refl)))))

  -- future alone, then names
  future_names : (f : Form) (x : Specified rule.Declaration spot.DeclarationFirst f) → x.part ≡ begin rule.Specs ▹ leaf word.Future → (y : PartOf (begin rule.Declaration ▹ x.part) f x.words spot.DeclarationFirst) → item.Part (class.Node rule.Dinit) ≡ y.item → spot.DeclarationMore ≡ y.to → first (leaves y.part) ≡ word.Name → Complete f → sort f ≡ Some rule.Declaration → Parts f
      → Leads (St (goal.FutureNext ∷ gs) (future ∷ d) (x.words ++ ts)) (St gs (f ∷ d) ts)
  future_names f x i y m0 m1 a c s q =
      let b = begin rule.Declaration ▹ x.part in
      let g = subst (λ i. Fits i y.part (Complete y.part)) (sym m0) y.fits in
      let k : Spotted (b ▹ y.part) spot.DeclarationMore = subst (λ i. Spotted (b ▹ y.part) i) (sym m1) y.spotted in
      let h = head_of (b ▹ y.part) f y.words spot.DeclarationMore (part_of (b ▹ y.part) f y.words y.ext c q spot.DeclarationMore k refl) in
      respell (ap (λ v. v ++ ts) y.spelled ∙ append_assoc (leaves y.part) y.words ts)
      (join (into (ap (λ v. (begin rule.Declaration ▹ v ▹ y.part) ∷ d) (sym i))
      ((y.known g.0).named (sort_is rule.Dinit y.part g.1) a gs d (y.words ++ ts) (ap (rule_goes rule.Dinit) (head_first y.words ts spot.DeclarationMore h) ∙ more_quiet h.item h.to h.word h.allowed h.accepted)))
      (run_from (b ▹ y.part) f y.words spot.DeclarationMore rule.Declaration k refl y.ext c s q gs d ts refl (calm_closed f (first ts) (sort_closed rule.Declaration f s refl))))

  future_declares : (f : Form) (x : Specified rule.Declaration spot.DeclarationFirst f) (l : Later x.part) → Complete f → sort f ≡ Some rule.Declaration → Parts f → Leads (St (goal.FutureNext ∷ gs) (future ∷ d) (l.words ++ (x.words ++ ts))) (St gs (f ∷ d) ts)
  future_declares f x l c s q =
      let b = begin rule.Declaration ▹ x.part in
      let y = part_of b f x.words x.ext c q spot.DeclarationFirst x.spotted refl in
      ⊎_elim
      (λ m.
      let g = subst (λ i. Fits i y.part (Complete y.part)) (sym m.0) y.fits in
      let o = node_first y.part rule.Dinit g.0 (sort_is rule.Dinit y.part g.1) in
      let z : first (x.words ++ ts) ≡ o.word = ap (λ v. first (v ++ ts)) (y.spelled ∙ ap (λ v. v ++ y.words) o.spelled) in
      let n = ap (rule_goes rule.Specs) z ∙ declarator_quiet o.word o.holds in
      ⊎_elim
      (λ i.
      let w : l.words ≡ [] = alone l.words (sym l.spelled ∙ ap leaves i) in
      ⊎_elim
      (λ a. respell (ap (λ v. v ++ (x.words ++ ts)) w) (future_names f x i y m.0 m.1 (ap first o.spelled ∙ a) c s q))
      (λ e. future_specs f x l c s q n (ap (λ v. future_next (first (v ++ (x.words ++ ts)))) w ∙ ap future_next z ∙ e))
      (declarator_next o.word o.holds))
      (λ k. future_specs f x l c s q n (ap (λ v. future_next (first (v ++ (x.words ++ ts)))) k.2 ∙ specifier_specifies k.0 k.3))
      l.end)
      (λ m. ⊎_elim
      (λ m.
      let t = word_part b f x.words spot.DeclarationFirst spot.Done word.Semicolon y refl m.0 m.1 in
      let z : first (x.words ++ ts) ≡ word.Semicolon = ap (λ v. first (v ++ ts)) t.spelled in
      future_specs f x l c s q (ap (rule_goes rule.Specs) z)
      (⊎_elim
      (λ i. ap (λ v. future_next (first (v ++ (x.words ++ ts)))) (alone l.words (sym l.spelled ∙ ap leaves i)) ∙ ap future_next z)
      (λ k. ap (λ v. future_next (first (v ++ (x.words ++ ts)))) k.2 ∙ specifier_specifies k.0 k.3)
      l.end))
      (λ z. absurd z) m)
      y.allowed

  block_declaration : (f : Form) → Complete f → sort f ≡ Some rule.Declaration → Parts f → Leads (St (goal.Read class.BlockItem ∷ gs) d (leaves f ++ ts)) (St gs (f ∷ d) ts)
  block_declaration f c s q =
      let x = specified_by rule.Declaration spot.DeclarationFirst f refl (λ w. refl) c s q in
      ⊎_elim
      (λ w.
      let o = node_first x.part rule.Specs x.complete x.sorted in
      let a : first (leaves x.part) ≡ word.Future = ap first o.spelled ∙ x.same o ∙ w in
      let l = x.known.later x.sorted a in
      respell (ap (λ v. v ++ ts) (x.spelled ∙ ap (λ v. v ++ x.words) l.spelled) ∙ ap (λ v. word.Future ∷ v) (append_assoc l.words x.words ts))
      (on refl (on refl (future_declares f x l c s q))))
      (λ e. join (by (goal.Read class.BlockItem) (begin_at rule.Declaration) gs d (leaves f ++ ts) (St (goal.At spot.Declaration ∷ gs) (begin rule.Declaration ∷ d) (leaves f ++ ts)) (ap read_block_item (first_is f _ ts x.opening) ∙ e) refl)
      (run_node f rule.Declaration refl c s q gs d ts refl (calm_closed f (first ts) (sort_closed rule.Declaration f s refl))))
      (block_specifier x.opening.word x.opening.holds)

  block_future : (f : Form) → Complete f → sort f ≡ Some rule.Future → Parts f → Leads (St (goal.Read class.BlockItem ∷ gs) d (leaves f ++ ts)) (St gs (f ∷ d) ts)
  block_future f c s q =
      let x = lead_of f rule.Future c s q in
      let m = only x.item (item.Word word.Future) x.to spot.FuturePlace x.allowed in
      let t = word_part (begin rule.Future) f (leaves f) spot.Future spot.FuturePlace word.Future x refl m.0 m.1 in
      let y = part_of future f t.words t.ext c q spot.FuturePlace t.spotted refl in
      let g = node_part future f t.words spot.FuturePlace spot.FutureOpen (class.Node rule.Place) y refl in
      let k : Spotted (future ▹ y.part) spot.FutureOpen = subst (λ i. Spotted (future ▹ y.part) i) (sym g.1) y.spotted in
      let u = part_of (future ▹ y.part) f y.words y.ext c q spot.FutureOpen k refl in
      let n = only u.item (item.Word word.Open) u.to spot.FutureFirst u.allowed in
      let v = word_part (future ▹ y.part) f y.words spot.FutureOpen spot.FutureFirst word.Open u refl n.0 n.1 in
      respell (ap (λ i. i ++ ts) t.spelled)
      (on refl (on refl
      (respell (ap (λ i. i ++ ts) y.spelled ∙ append_assoc (leaves y.part) y.words ts)
      (join ((y.known g.0.0).place (sort_is rule.Place y.part g.0.1) gs d (y.words ++ ts) (ap (λ i. first (i ++ ts)) v.spelled))
      (run_from (future ▹ y.part) f y.words spot.FutureOpen rule.Future k refl y.ext c s q gs d ts refl (calm_closed f (first ts) (sort_closed rule.Future f s refl)))))))

  read_statement : (f : Form) (r : Rule) → is_stmt r ≡ true → Complete f → sort f ≡ Some r → Parts f → Calm f (first ts) → Leads (St (goal.Read class.Stmt ∷ gs) d (leaves f ++ ts)) (St gs (f ∷ d) ts)
  read_statement f r i c s q m =
      let o = node_first f r c s in
      join (by (goal.Read class.Stmt) (begin_at r) gs d (leaves f ++ ts) (St (goal.At (start r) ∷ gs) (begin r ∷ d) (leaves f ++ ts)) (ap (λ w. begin_at (statement w)) (first_is f _ ts o) ∙ ap begin_at (statement_of r o.word i o.holds)) refl)
      (run_node f r (stmt_plain r i).0 c s q gs d ts ((stmt_plain r i).1 (first ts)) m)

  block_statement : (f : Form) (r : Rule) → is_stmt r ≡ true → Complete f → sort f ≡ Some r → Parts f → Calm f (first ts) → Leads (St (goal.Read class.BlockItem ∷ gs) d (leaves f ++ ts)) (St gs (f ∷ d) ts)
  block_statement f r i c s q m =
      let o = node_first f r c s in
      ⊎_elim (λ e. block_future f c (s ∙ ap Some e) q)
      (λ e. join (by (goal.Read class.BlockItem) (does shape.Keep (goal.Read class.Stmt ∷ [])) gs d (leaves f ++ ts) (St (goal.Read class.Stmt ∷ gs) d (leaves f ++ ts)) (ap read_block_item (first_is f _ ts o) ∙ e) refl)
      (read_statement f r i c s q m))
      (block_stmt r o.word i o.holds)

  read_initialisers : (f : Form) → Complete f → sort f ≡ Some rule.Initialisers → Parts f → Leads (St (goal.Read class.Init ∷ gs) d (leaves f ++ ts)) (St gs (f ∷ d) ts)
  read_initialisers f c s q =
      let o = node_first f rule.Initialisers c s in
      join (by (goal.Read class.Init) (begin_at rule.Initialisers) gs d (leaves f ++ ts) (St (goal.At spot.Initialisers ∷ gs) (begin rule.Initialisers ∷ d) (leaves f ++ ts)) (ap read_init (first_is f _ ts o) ∙ brace_init o.word o.holds) refl)
      (run_node f rule.Initialisers refl c s q gs d ts refl (calm_closed f (first ts) (sort_closed rule.Initialisers f s refl)))

-- whole nodes ------------------------------------------------------------------------------------

read_item_of : (f : Form) (r : Rule) → is_item r ≡ true → Complete f → sort f ≡ Some r → Parts f → Reading class.Item f
read_item_of f r i c s q gs d ts n m =
    ⊎_elim (λ e. read_pragma gs d ts class.Item f (λ x p z. run_node f x p c z q) (s ∙ ap Some e) (λ w k. ap read_item k) c)
    (λ k. ⊎_elim (λ e. item_declaration gs d ts f c (s ∙ ap Some e) q) (λ e. item_function gs d ts f c (s ∙ ap Some e) q) k)
    (item_is r i)

read_block_item_of : (f : Form) (r : Rule) → InClass class.BlockItem r → Complete f → sort f ≡ Some r → Parts f → Reading class.BlockItem f
read_block_item_of f r i c s q gs d ts n m =
    ⊎_elim (λ e. read_pragma gs d ts class.BlockItem f (λ x p z. run_node f x p c z q) (s ∙ ap Some e) (λ w k. ap read_block_item k) c)
    (λ k. ⊎_elim (λ e. block_declaration gs d ts f c (s ∙ ap Some e) q) (λ e. block_statement gs d ts f r e c s q m) k)
    i

read_init_of : (f : Form) (r : Rule) → InClass class.Init r → Complete f → sort f ≡ Some r → Parts f → Reading class.Init f
read_init_of f r i c s q gs d ts n m =
    ⊎_elim (λ e. read_initialisers gs d ts f c (s ∙ ap Some e) q)
    (λ a.
    let o = node_first f r c s in
    let w : begins_expr o.word ≡ true = class_begins (class.At strength.Assign) r o.word a o.holds in
    join (by (goal.Read class.Init) (does shape.Keep (goal.Assignment Plain ∷ [])) gs d (leaves f ++ ts) (St (goal.Assignment Plain ∷ gs) d (leaves f ++ ts)) (ap read_init (first_is f _ ts o) ∙ specs_cast o.word w) refl)
    (assign_plain f r c s q a gs d ts n))
    i

reading_of : (x : Class) (f : Form) (r : Rule) → readable x ≡ true → InClass x r → Complete f → sort f ≡ Some r → Parts f → Reading x f
reading_of (class.Node p) f r e i c s q gs d ts n m = on refl (run_node f p e c (s ∙ ap Some i) q gs d ts n m)
reading_of class.Item f r e i c s q gs d ts n m = read_item_of f r i c s q gs d ts n m
reading_of class.BlockItem f r e i c s q gs d ts n m = read_block_item_of f r i c s q gs d ts n m
reading_of class.Stmt f r e i c s q gs d ts n m = read_statement gs d ts f r i c s q m
reading_of class.Init f r e i c s q gs d ts n m = read_init_of f r i c s q gs d ts n m
reading_of (class.At x) f r e i c s q gs d ts n m = read_at x f r e c s q i gs d ts n m

known : (f : Form) → Parts f → KnownIf f
known f q c = record {
  read = λ x e i. let k = is_some x (sort f) i in reading_of x f k.0 e k.2 c k.1 q;
  base = λ i. let k = is_some (class.At strength.Postfix) (sort f) i in base_of f k.0 c k.1 q k.2;
  behind = λ i. let k = is_some (class.At strength.Unary) (sort f) i in behind_of f k.0 c k.1 q k.2;
  operating = λ i. let k = is_some (class.At strength.Cast) (sort f) i in operating_of f k.0 c k.1 q k.2;
  tails = λ l i. let k = is_some (class.At (strength.Binary l)) (sort f) i in tails_of l f k.0 c k.1 q k.2;
  still = λ i. let k = is_some (class.At strength.Cond) (sort f) i in still_of f k.0 c k.1 q k.2;
  expr = λ i. let k = is_some (class.At strength.Expr) (sort f) i in expr_of f k.0 c k.1 q k.2;
  index = λ i. let k = is_some (class.At strength.Expr) (sort f) i in index_of f k.0 c k.1 q k.2;
  whole = λ r p s. run_node f r p c s q;
  callee = callee_of f c q;
  declr = declr_of f c q;
  dinit = dinit_of f c q;
  bounds = bounds_of f c q;
  named = named_of f c q;
  place = place_of f c q;
  later = later_of f c q;
}

all_known : (f : Form) → Parts f × KnownIf f
all_known (leaf w) = (tt, λ c. absurd c.1)
all_known (begin r) = (tt, known (begin r) tt)
all_known (p ▹ g) = (((all_known p).0, (all_known g).1), known (p ▹ g) ((all_known p).0, (all_known g).1))

-- each text is read to its tree
pub complete : (f : Form) (words : List Word) → Derives f words → Leads (St (goal.Read (class.Node rule.Unit) ∷ []) [] words) (St [] (f ∷ []) [])
complete f words h =
    let c = to_complete f h.whole in
    respell (sym h.spelled ∙ sym (append-nil (leaves f)))
    (on refl (run_node f rule.Unit refl c h.unit (all_known f).0 [] [] [] refl (calm_closed f word.Foreign (sort_closed rule.Unit f h.unit refl))))
