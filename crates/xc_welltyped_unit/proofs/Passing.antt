-- No item takes back a count that was passed.
use Rattle.std.proofs.Common.{◌≡◌, ℕ, List, [], ◌∷◌, map, length, Bool, true, false, refl, sym, ◌∙◌}
use Rattle.std.specs.Prelude.{Option, Some, None}
use Rattle.xc_text_place.specs.declared.Span.{Span}
use Rattle.xc_tree.specs.declared.ty.Ty.{Ty}
use Rattle.xc_raw.specs.declared.rule.Rule.{Rule}
use Rattle.xc_raw.specs.declared.rule.Rule.TheVariants as rule
use Rattle.xc_raw.specs.declared.tree.Raw.{Raw, out-Raw}
use Rattle.xc_type_scopes.specs.declared.env.Env.{Env}
use Rattle.xc_type_scopes.specs.Env as env
use Rattle.xc_type_scopes.specs.Judge.{Judge}
use Rattle.xc_type_expressions.specs.declared.text.Text.{Text}
use Rattle.xc_type_expressions.specs.declared.types.Declared.{Declared}
use Rattle.xc_type_expressions.specs.Judged.{judged}
use Rattle.xc_type_statement_parts.specs.declared.answer.Answer.TheVariants as answer
use Rattle.xc_type_unit.specs.declared.scope.FileScope.{FileScope}
use Rattle.xc_type_unit.specs.declared.heads.Head.{Head}
use Rattle.xc_type_unit.specs.Items.{Item, by_part, in_turn}
use Rattle.xc_type_unit.specs.Globals as globals
use Rattle.xc_type_unit.specs.Parameters as parameters
use Rattle.xc_type_unit.specs.Functions as functions
use Rattle.xc_type_unit.specs.Functions.{Bodies}
use Rattle.xc_type_unit.specs.Texts as texts
use Rattle.xc_welltyped_claims.specs.Lists.{Each}
use Rattle.xc_welltyped_claims.specs.Judges.{Passing}
use Rattle.xc_welltyped_claims.proofs.Judges.{passing_each}
use Rattle.xc_welltyped_expressions.proofs.Passing.{none_first, role_passing, all_passing, passing_bounds}
use Rattle.xc_welltyped_statements.proofs.Passing.{passing_object, passing_global, statement_passing}

abbrev pub ItemPassing : Item → Type 0
ItemPassing i = (s : FileScope) → (i s).scope.env.over ≡ None → s.env.over ≡ None

pub passing_part : {A : Type 0} (j : Judge A) (k : A → Item) → Passing j → ((x : A) → ItemPassing (k x)) → ItemPassing (by_part j k)
passing_part j k p q s h = p s.env (q (j s.env).part (record s { env = (j s.env).env }) h)

pub passing_turn : (is : List Item) → Each ItemPassing is → ItemPassing (in_turn is)
unfolding in_turn
passing_turn [] p = λ s h. h
passing_turn (i ∷ is) p = λ s h. p.0 s (passing_turn is p.1 (i s).scope h)

-- objects -----------------------------------------------------------------------

passing_begun : (t : Text) (b : Bool) (ty : Ty) (is : List Raw) → Passing (globals.begun t b ty is)
unfolding globals.begun
passing_begun t b ty [] = λ e h. h
passing_begun t b ty (i ∷ is) = λ e h. passing_global t i (Some ty) e h

passing_unknown : (t : Text) (is : List Raw) → Passing (globals.begun_unknown t is)
unfolding globals.begun_unknown
passing_unknown t [] = λ e h. h
passing_unknown t (i ∷ is) = λ e h. passing_global t i None e h

pub passing_begins : (t : Text) (at : Span) (ty : Option Ty) (is : List Raw) → ItemPassing (globals.begins t at ty is)
unfolding globals.begins globals.with_object
passing_begins t at None is = λ s h. passing_unknown t is s.env h
passing_begins t at (Some ty) is = λ s h.
    let b = globals.fits (globals.cells_with ty s) in
    let e = (globals.begun t b ty is s.env).env in
    passing_begun t b ty is s.env (none_first e.over (globals.over_at (globals.cells_with ty (record s { env = e })) at) h)

passing_named : (at : Span) (ty : Option Ty) (n : ℕ) (o : Option ℕ) → Passing (globals.named_global at ty n o)
unfolding globals.named_global
passing_named at ty n None = λ e h. h
passing_named at ty n (Some name) = λ e h. h

pub passing_declares : (t : Text) (d : Declared) (is : List Raw) → ItemPassing (globals.declares t d is)
passing_declares t d is s h =
    let n = globals.named_global d.at d.ty (length s.globals) d.name s.env in
    passing_named d.at d.ty (length s.globals) d.name s.env (passing_begins t d.at d.ty is (record s { env = n.env }) h)

passing_global_by : (t : Text) (base : Option Ty) (ps : List Raw) → ItemPassing (globals.global_by t base ps)
unfolding globals.global_by
passing_global_by t base [] = λ s h. h
passing_global_by t base (d ∷ is) = λ s h.
    let x = (judged t d).declared base s.env in
    (role_passing t d).declared base s.env (passing_declares t x.part is (record s { env = x.env }) h)

pub passing_globals : (t : Text) (base : Option Ty) (ds : List Raw) → Each ItemPassing (map (globals.global t base) ds)
unfolding globals.global
passing_globals t base [] = tt
passing_globals t base (d ∷ ds) = (passing_global_by t base (out-Raw d).parts, passing_globals t base ds)

passing_declaration : (t : Text) (ps : List Raw) → ItemPassing (globals.declaration t ps)
unfolding globals.declaration globals.globals_by
passing_declaration t [] = λ s h. h
passing_declaration t (specs ∷ ds) = λ s h.
    let x = (judged t specs).specified true s.env in
    (role_passing t specs).specified true s.env (passing_turn (map (globals.global t x.part) ds) (passing_globals t x.part ds) (record s { env = x.env }) h)

-- functions -----------------------------------------------------------------------

passing_described : (t : Text) (node : Raw) (ps : List Raw) → Passing (parameters.described_by t node ps)
unfolding parameters.described_by
passing_described t node [] = λ e h. h
passing_described t node (specs ∷ bs) = λ e h.
    let x = (judged t specs).specified false e in
    (role_passing t specs).specified false e (passing_bounds (map (judged t) bs) (all_passing t bs) x.env h)

unnamed_keeps : (at : Span) (ty : Option Ty) (e : Env) → (parameters.unnamed at ty e).over ≡ e.over
unnamed_keeps at None e = refl
unnamed_keeps at (Some ty) e = refl

passing_object_of : (d : Declared) (o : Option ℕ) → Passing (parameters.object_of d o)
passing_object_of d None = λ e h. sym (unnamed_keeps d.at d.ty e) ∙ h
passing_object_of d (Some name) = λ e h. passing_object d e h

pub passing_next : (d : Declared) → Passing (parameters.begun d)
unfolding parameters.begun
passing_next d = passing_object_of d d.name

passing_parameter : (t : Text) (node : Raw) → Passing (parameters.parameter t node)
unfolding parameters.parameter
passing_parameter t node e h =
    let d = parameters.described_by t node (out-Raw node).parts e in
    passing_described t node (out-Raw node).parts e (passing_next d.part d.env h)

each_parameter : (t : Text) (ps : List Raw) → Each Passing (map (parameters.parameter t) ps)
each_parameter t [] = tt
each_parameter t (p ∷ ps) = (passing_parameter t p, each_parameter t ps)

pub passing_all_parameters : (t : Text) (ps : List Raw) → Passing (parameters.all_parameters t ps)
passing_all_parameters t ps = passing_each (map (parameters.parameter t) ps) (each_parameter t ps)

passing_parameters : (t : Text) (ps : List Raw) → Passing (parameters.parameters t ps)
unfolding parameters.parameters
passing_parameters t ps = passing_all_parameters t (parameters.listed t ps)

pub passing_named_function : (t : Text) (b : Bodies) (h : Head) (o : Option ℕ) → Passing (functions.named_function t b h o)
unfolding functions.named_function
passing_named_function t b h None = λ e k. k
passing_named_function t b h (Some name) = λ e k. k

pub passing_defined : (t : Text) (b : Bodies) (n : ℕ) (h : Head) (rest : List Raw) → Passing (functions.defined_as t b n h rest)
unfolding functions.defined_as functions.bodied
passing_defined t b n h [] = λ e k. k
passing_defined t b n h (block ∷ rest) = λ e k. (statement_passing t block).body (answer.Function h.ret) false e k

pub passing_inner : (t : Text) (b : Bodies) (n : ℕ) (base : Option Ty) (callee params : Raw) (rest : List Raw) → Passing (functions.inner t b n base callee params rest)
unfolding functions.inner functions.headed
passing_inner t b n base callee params rest e k =
    let h = functions.headed t base callee params (env.in_function e) in
    let x = functions.named_function t b h.part h.part.name h.env in
    passing_parameters t (out-Raw params).parts (env.in_function e) (passing_named_function t b h.part h.part.name h.env (passing_defined t b n h.part rest x.env k))

passing_function : (t : Text) (b : Bodies) (ps : List Raw) → ItemPassing (functions.function t b ps)
unfolding functions.function
passing_function t b [] = λ s h. h
passing_function t b (x ∷ []) = λ s h. h
passing_function t b (x ∷ y ∷ []) = λ s h. h
passing_function t b (specs ∷ callee ∷ params ∷ rest) = λ s h.
    let x = (judged t specs).specified true s.env in
    (role_passing t specs).specified true s.env (passing_inner t b s.defined x.part callee params rest x.env h)

-- items -------------------------------------------------------------------------------

passing_by : (t : Text) (b : Bodies) (node : Raw) (r : Rule) → ItemPassing (texts.item_by t b node r)
unfolding texts.item_by
passing_by t b node rule.Pragma = λ s h. h
passing_by t b node rule.Declaration = λ s h. passing_declaration t (out-Raw node).parts (texts.past_pragmas s) h
passing_by t b node rule.Function = λ s h. passing_function t b (out-Raw node).parts (texts.past_pragmas s) h
passing_by t b node _ = λ s h. h

pub item_passing : (t : Text) (b : Bodies) (node : Raw) → ItemPassing (texts.item t b node)
unfolding texts.item
item_passing t b node = passing_by t b node (out-Raw node).rule

pub items_passing : (t : Text) (b : Bodies) (nodes : List Raw) → Each ItemPassing (map (texts.item t b) nodes)
items_passing t b [] = tt
items_passing t b (n ∷ ns) = (item_passing t b n, items_passing t b ns)
