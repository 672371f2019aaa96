-- Pragmas at file scope.
use Rattle.std.proofs.Common.{refl}
use Rattle.xc_text_place.specs.declared.Span.{Span}
use Rattle.xc_type_scopes.specs.declared.env.Env.{Env}
use Rattle.xc_type_scopes.specs.Env as env
use Rattle.xc_type_expressions.specs.declared.text.Text.{Text}
use Rattle.xc_type_unit.specs.declared.scope.FileScope.{FileScope}
use Rattle.xc_type_unit.specs.Functions.{Bodies}
use Rattle.xc_type_unit.specs.Texts as texts
use Rattle.xc_welltyped_claims.specs.Env.{Good, Stays, Extends}
use Rattle.xc_welltyped_claims.proofs.Lists.{starts_self, set_self}
use Rattle.xc_welltyped_claims.proofs.Env.{grows_self, stays_extends}
use Rattle.xc_welltyped_unit.specs.Files.{FileFine}
use Rattle.xc_welltyped_unit.proofs.Going.{stays_pragmas, good_pragmas, file_behind}

stays_pragma : (at : Span) (e : Env) → Stays e (env.with_pragma at e)
stays_pragma at e = record {
  file = refl;
  own = refl;
  own_tags = refl;
  structs = grows_self e.structs;
  layout = starts_self e.layout.members;
  locals = refl;
  addressed = set_self e.addressed;
  loops = refl;
}

good_pragma : (at : Span) (e : Env) → Good e → Good (env.with_pragma at e)
good_pragma at e g = record { table = g.table; layout = g.layout; file = g.file; own = g.own; file_tags = g.file_tags; own_tags = g.own_tags; locals = g.locals; marks = g.marks }

module _ (t : Text) (b : Bodies) (s : FileScope) (f : FileFine t b s) where
  -- one more
  pub pragma_fine : (at : Span) → FileFine t b (texts.with_pragma at s) × Extends s.env (texts.with_pragma at s).env
  pragma_fine at = (file_behind t b s f (env.with_pragma at s.env) (stays_pragma at s.env) (good_pragma at s.env f.stands.good), stays_extends s.env (env.with_pragma at s.env) (stays_pragma at s.env))

  -- those before another item
  pub past_fine : FileFine t b (texts.past_pragmas s) × Extends s.env (texts.past_pragmas s).env
  past_fine = (file_behind t b s f (env.past_pragmas s.env) (stays_pragmas s.env) (good_pragmas s.env f.stands.good), stays_extends s.env (env.past_pragmas s.env) (stays_pragmas s.env))
