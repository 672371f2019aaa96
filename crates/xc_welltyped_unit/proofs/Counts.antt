-- How many functions items define.
use Rattle.std.proofs.Common.{◌≡◌, ◌+◌, List, [], ◌∷◌, map, length, true, refl, ap, ◌∙◌, arith}
use Rattle.std.specs.Prelude.{Option, Some, None}
use Rattle.xc_text_place.specs.declared.Span.{Span}
use Rattle.xc_tree.specs.declared.ty.Ty.{Ty}
use Rattle.xc_raw.specs.declared.rule.Rule.{Rule}
use Rattle.xc_raw.specs.declared.rule.Rule.TheVariants as rule
use Rattle.xc_raw.specs.declared.tree.Raw.{Raw, out-Raw}
use Rattle.xc_type_expressions.specs.declared.text.Text.{Text}
use Rattle.xc_type_expressions.specs.Judged.{judged}
use Rattle.xc_type_unit.specs.declared.scope.FileScope.{FileScope}
use Rattle.xc_type_unit.specs.Items.{in_turn}
use Rattle.xc_type_unit.specs.Globals as globals
use Rattle.xc_type_unit.specs.Functions as functions
use Rattle.xc_type_unit.specs.Functions.{Bodies, defined, defined_by, next}
use Rattle.xc_type_unit.specs.Texts as texts
use Rattle.xc_welltyped_unit.proofs.Bodies.{definitions}

-- objects define none
begins_counts : (t : Text) (at : Span) (ty : Option Ty) (is : List Raw) (s : FileScope) → (globals.begins t at ty is s).scope.defined ≡ s.defined
unfolding globals.begins globals.with_object
begins_counts t at None is s = refl
begins_counts t at (Some ty) is s = refl

global_counts : (t : Text) (base : Option Ty) (ps : List Raw) (s : FileScope) → (globals.global_by t base ps s).scope.defined ≡ s.defined
unfolding globals.global_by
global_counts t base [] s = refl
global_counts t base (d ∷ is) s =
    let x = (judged t d).declared base s.env in
    let s' = record s { env = x.env } in
    let n = globals.named_global x.part.at x.part.ty (length s'.globals) x.part.name x.env in
    begins_counts t x.part.at x.part.ty is (record s' { env = n.env })

globals_counts : (t : Text) (base : Option Ty) (ds : List Raw) (s : FileScope) → (in_turn (map (globals.global t base) ds) s).scope.defined ≡ s.defined
unfolding in_turn globals.global
globals_counts t base [] s = refl
globals_counts t base (d ∷ ds) s = globals_counts t base ds (globals.global t base d s).scope ∙ global_counts t base (out-Raw d).parts s

declaration_counts : (t : Text) (ps : List Raw) (s : FileScope) → (globals.declaration t ps s).scope.defined ≡ s.defined
unfolding globals.declaration globals.globals_by
declaration_counts t [] s = refl
declaration_counts t (specs ∷ ds) s =
    let x = (judged t specs).specified true s.env in
    globals_counts t x.part ds (record s { env = x.env })

-- a function with a block is one
function_counts : (t : Text) (b : Bodies) (ps : List Raw) (s : FileScope) → (functions.function t b ps s).scope.defined ≡ next (defined_by t rule.Function ps) s.defined
unfolding functions.function
function_counts t b [] s = refl
function_counts t b (x ∷ []) s = refl
function_counts t b (x ∷ y ∷ []) s = refl
function_counts t b (x ∷ y ∷ z ∷ []) s = (let none : s.defined + 0 ≡ s.defined = omega arith in none)
function_counts t b (x ∷ y ∷ z ∷ block ∷ rest) s = refl

counts_by : (t : Text) (b : Bodies) (node : Raw) (r : Rule) (s : FileScope) → (texts.item_by t b node r s).scope.defined ≡ next (defined_by t r (out-Raw node).parts) s.defined
unfolding texts.item_by
counts_by t b node rule.Declaration s = declaration_counts t (out-Raw node).parts (texts.past_pragmas s)
counts_by t b node rule.Function s = function_counts t b (out-Raw node).parts (texts.past_pragmas s)
counts_by t b node rule.Pragma s = refl
counts_by t b node _ s = refl

item_counts : (t : Text) (b : Bodies) (node : Raw) (s : FileScope) → (texts.item t b node s).scope.defined ≡ next (defined t node) s.defined
unfolding texts.item
item_counts t b node s = counts_by t b node (out-Raw node).rule s

pub items_count : (t : Text) (b : Bodies) (nodes : List Raw) (s : FileScope) → (in_turn (map (texts.item t b) nodes) s).scope.defined ≡ definitions t s.defined nodes
unfolding in_turn definitions
items_count t b [] s = refl
items_count t b (n ∷ ns) s = items_count t b ns (texts.item t b n s).scope ∙ ap (λ k. definitions t k ns) (item_counts t b n s)
