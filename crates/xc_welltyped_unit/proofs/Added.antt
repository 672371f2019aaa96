-- An object that is declared at file scope.
use Rattle.std.proofs.Common.{◌≡◌, ℕ, ◌+◌, ◌^◌, ◌≤◌, List, [], ◌∷◌, ◌++◌, length, ◌∙◌}
use Rattle.std.specs.Prelude.{IsTrue, min, Option, Some}
use Rattle.xc_text_place.specs.declared.Span.{Span}
use Rattle.xc_tree.specs.declared.ty.Ty.{Ty}
use Rattle.xc_tree.specs.Types.{is_object}
use Rattle.xc_tree.specs.Typed.{Context}
use Rattle.xc_tree.specs.Valid as valid
use Rattle.xc_tree.specs.Valid.{cells_from}
use Rattle.xc_tree.proofs.Lists.{and_both}
use Rattle.xc_type_rule.specs.Cells.{cells}
use Rattle.xc_type_rule.specs.declared.found.Thing.{Thing}
use Rattle.xc_type_rule.specs.declared.found.Thing.TheVariants as thing
use Rattle.xc_type_initialiser_objects.specs.Cells.{Cell}
use Rattle.xc_type_names.specs.Scoped.{is_new}
use Rattle.xc_type_scopes.specs.declared.env.Env.{Env}
use Rattle.xc_type_scopes.specs.Env as env
use Rattle.xc_type_expressions.specs.declared.text.Text.{Text}
use Rattle.xc_type_unit.specs.declared.scope.FileScope.{FileScope}
use Rattle.xc_type_unit.specs.Functions.{Bodies}
use Rattle.xc_type_unit.specs.Globals as globals
use Rattle.xc_welltyped_claims.specs.Types.{is_object_by}
use Rattle.xc_welltyped_claims.specs.Things.{FileThing}
use Rattle.xc_welltyped_claims.specs.Env.{Good, AtFile, Stays, Extends, Into}
use Rattle.xc_welltyped_claims.proofs.Env.{stays_extends}
use Rattle.xc_welltyped_claims.proofs.Things.{in_declared, length_declared}
use Rattle.xc_welltyped_structs.proofs.Sizes.{object_in}
use Rattle.xc_welltyped_statements.proofs.Sized.{object_stays}
use Rattle.xc_welltyped_unit.specs.Files.{GlobalFine, FileFine}
use Rattle.xc_welltyped_unit.proofs.Begun.{AreCells}
use Rattle.xc_welltyped_unit.proofs.Going.{at_file_behind}
use Rattle.xc_welltyped_unit.proofs.Objects.{found_still, with_one_more}

-- the name stands for it
module _ (name : ℕ) (x : Thing) (e : Env) where
  abbrev pub named : Env
  named = env.with_global name x e

  pub good_named : Good e → FileThing e.structs.sizes x → Good named
  good_named g h = record { table = g.table; layout = g.layout; file = in_declared (FileThing e.structs.sizes) name x e.file g.file h; own = g.own; file_tags = g.file_tags; own_tags = g.own_tags; locals = g.locals; marks = g.marks }

  pub at_file_named : AtFile e → FileThing e.structs.sizes x → AtFile named
  at_file_named s h = record {
    good = good_named s.good h;
    complete = s.complete;
    one = length_declared name x e.file ∙ s.one;
    own = s.own;
    own_tags = s.own_tags;
    locals = s.locals;
    addressed = s.addressed;
  }

  pub extends_named : length e.file ≡ 1 → IsTrue (is_new name e.file) → (e' : Env) → Stays named e' → Extends e e'
  extends_named one new e' s = let more = stays_extends named e' s in record {
    file = λ y z h. more.file y z (found_still name x y z e.file one new h);
    own = more.own;
    scopes = more.scopes;
    own_tags = more.own_tags;
    structs = more.structs;
    locals = more.locals;
    addressed = more.addressed;
    loops = more.loops;
  }

-- where a count may be passed
module _ (o : Option ℕ) (e : Env) where
  abbrev over : Env
  over = env.with_over o e

  good_over : Good e → Good over
  good_over g = record { table = g.table; layout = g.layout; file = g.file; own = g.own; file_tags = g.file_tags; own_tags = g.own_tags; locals = g.locals; marks = g.marks }

  pub at_file_over : AtFile e → AtFile over
  at_file_over s = record { good = good_over s.good; complete = s.complete; one = s.one; own = s.own; own_tags = s.own_tags; locals = s.locals; addressed = s.addressed }

  pub extends_over : (e0 : Env) → Extends e0 e → Extends e0 over
  extends_over e0 s = record { file = s.file; own = s.own; scopes = s.scopes; own_tags = s.own_tags; structs = s.structs; locals = s.locals; addressed = s.addressed; loops = s.loops }

  pub into_over : (t : Text) (cx : Context) → Into t cx over → Into t cx e
  into_over t cx i = record { shapes = i.shapes; structs = i.structs; complete = i.complete; things = i.things; locals = i.locals; formats = i.formats; few = i.few }

module _ (t : Text) (b : Bodies) (s : FileScope) (f : FileFine t b s) (at : Span) (ty : Ty) (name : ℕ) (new : IsTrue (is_new name s.env.file)) (known : IsTrue (is_object_by s.env.structs.sizes ty)) where
  abbrev pub it : Thing
  it = thing.Global (length s.globals) (Some ty)

  -- behind its initialiser, which gives it these cells
  module _ (e : Env) (g : Good e) (k : Stays (named name it s.env) e) (cs : List Cell) (h : AreCells t e ty cs) (o : Option ℕ) where
    still : IsTrue (is_object_by e.structs.sizes ty)
    still = object_stays s.env.structs e.structs k.structs ty known

    object_fine : GlobalFine t (over o e) (globals.object at ty cs)
    unfolding valid.global_ok
    object_fine cx i = and_both (is_object cx.shapes ty) _ (object_in t cx e g (into_over o e t cx i) ty still) (h cx (into_over o e t cx i))

    pub object_added : (n : ℕ) → n ≡ min (s.cells + cells e.structs.sizes ty) (2 ^ 22 + 1) → n ≤ 2 ^ 22 →
        FileFine t b (record s { env = over o e; globals = s.globals ++ globals.object at ty cs ∷ []; cells = n }) × Extends s.env (over o e)
    object_added n counted fits =
        let stands = at_file_over o e (at_file_behind (named name it s.env) e (at_file_named name it s.env f.stands known) k g) in
        let extends = extends_over o e s.env (extends_named name it s.env f.stands.one new e k) in
        (with_one_more t b s f name new (globals.object at ty cs) (over o e) k.file k.loops stands extends still object_fine n counted fits, extends)
