-- Structs and members in what is declared.
use Rattle.std.proofs.Common.{◌≡◌, ℕ, ◌≤◌, [], ◌∷◌, length, Bool, true, false, refl, sym, ap, ◌∙◌, arith, length-append}
use Rattle.std.specs.Prelude.{IsTrue, is_none, cond, Some, slice_get}
use Rattle.std.proofs.lemmas.List.{length-map}
use Rattle.xc_tree.specs.declared.ty.Ty.{Ty}
use Rattle.xc_tree.proofs.Lists.{and_both}
use Rattle.xc_tree.specs.Types.{Shape, is_size, is_mixed}
use Rattle.xc_type_rule.specs.Cells.{listed}
use Rattle.xc_type_rule.specs.Members.{member_named}
use Rattle.xc_type_names.specs.Scoped.{declared_in, has_none}
use Rattle.xc_type_structs.specs.declared.structs.Structs.{Structs}
use Rattle.xc_type_structs.specs.Table as table
use Rattle.xc_type_structs.specs.Kinds.{is_mixture}
use Rattle.xc_type_scopes.specs.declared.env.Env.{Env}
use Rattle.xc_type_scopes.specs.Env as env
use Rattle.xc_type_expressions.specs.Types.{the_next, struct_begun, fits_in}
use Rattle.xc_welltyped_claims.specs.Types.{will_be_object}
use Rattle.xc_welltyped_claims.specs.Table.{has_members, IsTable, Grows}
use Rattle.xc_welltyped_claims.specs.Things.{IsTag}
use Rattle.xc_welltyped_claims.specs.Env.{Good, Stays}
use Rattle.xc_welltyped_claims.proofs.Lists.{starts_self, starts_get, length_left}
use Rattle.xc_welltyped_claims.proofs.Things.{in_declared, length_declared}
use Rattle.xc_welltyped_structs.proofs.Lists.{get_end, set_behind}
use Rattle.xc_welltyped_structs.proofs.Promises.{listed_left}
use Rattle.xc_welltyped_structs.proofs.Tables.{laid_nothing, laid_with, laid_grows, sizes_many, shapes_many}
use Rattle.xc_welltyped_structs.proofs.Opened.{table_opened}
use Rattle.xc_welltyped_structs.proofs.Closed.{is_sized, same_sizes, fewer, table_closed}
use Rattle.xc_welltyped_structs.proofs.Grown.{things_go, tags_go, locals_go}

-- a new struct ----------------------------------------------------------------------------------------

good_opened : (e : Env) → Good e → Good (env.in_struct e)
good_opened e g =
    let s = e.structs in
    let more = length_left s.sizes (0 ∷ []) in
    let same = listed_left s.sizes (0 ∷ []) in
    record {
      table = table_opened s g.table;
      layout = laid_nothing (table.opened s) (table_opened s g.table);
      file = things_go s.sizes (table.opened s).sizes same more e.file g.file;
      own = g.own;
      file_tags = tags_go s.sizes (table.opened s).sizes same more e.file_tags g.file_tags;
      own_tags = tags_go s.sizes (table.opened s).sizes same more e.own_tags g.own_tags;
      locals = locals_go s.sizes (table.opened s).sizes same more e.locals g.locals;
      marks = g.marks;
    }

good_tagged : (e : Env) → Good e → (name number : ℕ) → IsTag e.structs.sizes number → Good (env.with_tag name number e)
good_tagged e g name number is = by (has_none e.own_tags)
  where
    by : (b : Bool) → Good (cond b (record e { file_tags = declared_in name number e.file_tags }) (record e { own_tags = declared_in name number e.own_tags }))
    by true = record {
      table = g.table;
      layout = g.layout;
      file = g.file;
      own = g.own;
      file_tags = in_declared (IsTag e.structs.sizes) name number e.file_tags g.file_tags is;
      own_tags = g.own_tags;
      locals = g.locals;
      marks = g.marks;
    }
    by false = record {
      table = g.table;
      layout = g.layout;
      file = g.file;
      own = g.own;
      file_tags = g.file_tags;
      own_tags = in_declared (IsTag e.structs.sizes) name number e.own_tags g.own_tags is;
      locals = g.locals;
      marks = g.marks;
    }

pub good_begun : (e : Env) → Good e → (name : ℕ) → Good (struct_begun name e)
good_begun e g name = good_tagged (env.in_struct e) (good_opened e g) name (the_next e)
    (let one = length-append e.structs.sizes (0 ∷ []) in omega (arith, one))

-- a member ----------------------------------------------------------------------------------------------

pub good_member : (e : Env) → Good e → (name : ℕ) (ty : Ty) → IsTrue (is_none (member_named name e.layout.members)) → IsTrue (will_be_object e.structs.sizes ty) → Good (env.with_member name (Some ty) e)
good_member e g name ty new kept = record {
  table = g.table;
  layout = laid_with e.structs g.table e.layout name ty g.layout new kept;
  file = g.file;
  own = g.own;
  file_tags = g.file_tags;
  own_tags = g.own_tags;
  locals = g.locals;
  marks = g.marks;
}

-- behind the braces ---------------------------------------------------------------------------------------

-- the name of the struct changes nothing else
untagged : (e e' : Env) (name number : ℕ) → Stays (env.with_tag name number e) e' → Stays e e'
untagged e e' name number s = by (has_none e.own_tags) s
  where
    by : (b : Bool) → Stays (cond b (record e { file_tags = declared_in name number e.file_tags }) (record e { own_tags = declared_in name number e.own_tags })) e' → Stays e e'
    by true s = record {
      file = s.file;
      own = s.own;
      own_tags = s.own_tags;
      structs = s.structs;
      layout = s.layout;
      locals = s.locals;
      addressed = s.addressed;
      loops = s.loops;
    }
    by false s = record {
      file = s.file;
      own = s.own;
      own_tags = s.own_tags ∙ length_declared name number e.own_tags;
      structs = s.structs;
      layout = s.layout;
      locals = s.locals;
      addressed = s.addressed;
      loops = s.loops;
    }

mixed_many : (s : Structs) → IsTable s → length s.mixed ≡ length s.sizes
mixed_many s h = ap length h.agrees.mixed ∙ length-map _ (λ (x : Shape). is_mixed x.kinds) ∙ shapes_many s h ∙ sym (sizes_many s h)

module _ (e e' : Env) (name : ℕ) (g : Good e) (g' : Good e') (stays : Stays (struct_begun name e) e') (full : IsTrue (has_members e'.layout.members)) (fits : IsTrue (fits_in e')) where
  abbrev number : ℕ
  number = the_next e

  abbrev new : Structs
  new = table.closed e'.structs number e'.layout

  within : Stays (env.in_struct e) e'
  within = untagged (env.in_struct e) e' name number stays

  empty : slice_get e'.structs.members number ≡ Some []
  empty = starts_get (table.opened e.structs).members e'.structs.members within.structs.members number []
      (ap (slice_get (table.opened e.structs).members) (sizes_many e.structs g.table) ∙ get_end e.structs.members [])

  closed : IsTable new
  closed = table_closed e'.structs g'.table e'.layout number empty g'.layout full fits

  grown : Grows e.structs new
  grown = record {
    added = e'.layout.size ∷ within.structs.added;
    sizes = set_behind e.structs.sizes 0 e'.structs.sizes number e'.layout.size refl (within.structs.added, within.structs.sizes);
    complete = and_both (is_size e'.layout.size) _ (is_sized e'.structs g'.table e'.layout number empty g'.layout full fits) within.structs.complete;
    mixed = (
      is_mixture e'.layout.kinds ∷ within.structs.mixed.0,
      set_behind e.structs.mixed false e'.structs.mixed number (is_mixture e'.layout.kinds) (mixed_many e.structs g.table) within.structs.mixed,
    );
    members = (
      e'.layout.members ∷ within.structs.members.0,
      set_behind e.structs.members [] e'.structs.members number e'.layout.members (sym (sizes_many e.structs g.table)) within.structs.members,
    );
  }

  same : (n : ℕ) → IsTrue (is_size (listed e'.structs.sizes n)) → listed e'.structs.sizes n ≡ listed new.sizes n
  same = same_sizes e'.structs g'.table e'.layout number empty g'.layout full fits

  many : length e'.structs.sizes ≤ length new.sizes
  many = fewer e'.structs g'.table e'.layout number empty g'.layout full fits

  pub good_behind : Good (env.after_struct number e.layout e') × Stays e (env.after_struct number e.layout e')
  good_behind = (
    record {
      table = closed;
      layout = laid_grows e.structs new g.table closed grown e.layout g.layout;
      file = things_go e'.structs.sizes new.sizes same many e'.file g'.file;
      own = g'.own;
      file_tags = tags_go e'.structs.sizes new.sizes same many e'.file_tags g'.file_tags;
      own_tags = tags_go e'.structs.sizes new.sizes same many e'.own_tags g'.own_tags;
      locals = locals_go e'.structs.sizes new.sizes same many e'.locals g'.locals;
      marks = g'.marks;
    },
    record {
      file = within.file;
      own = within.own;
      own_tags = within.own_tags;
      structs = grown;
      layout = starts_self e.layout.members;
      locals = within.locals;
      addressed = within.addressed;
      loops = within.loops;
    },
  )
