-- File scope before the first item.
use Rattle.std.proofs.Common.{[], refl, arith}
use Rattle.xc_tree.specs.Lists.{distinct}
use Rattle.xc_type_structs.specs.Table as table
use Rattle.xc_type_expressions.specs.declared.text.Text.{Text}
use Rattle.xc_type_scopes.specs.Env as env
use Rattle.xc_type_unit.specs.Functions.{Bodies}
use Rattle.xc_type_unit.specs.Texts.{empty}
use Rattle.xc_welltyped_claims.specs.Lists.{Fresh}
use Rattle.xc_welltyped_claims.specs.Env.{AtFile}
use Rattle.xc_welltyped_structs.proofs.Tables.{table_none, laid_nothing}
use Rattle.xc_welltyped_unit.specs.Files.{FileFine}

nothing_stands : AtFile env.nothing
nothing_stands = record {
  good = record {
    table = table_none;
    layout = laid_nothing table.no_structs table_none;
    file = (tt, tt);
    own = tt;
    file_tags = (tt, tt);
    own_tags = tt;
    locals = tt;
    marks = record { many = refl; marked = λ n l e h. absurd cc };
  };
  complete = refl;
  one = refl;
  own = refl;
  own_tags = refl;
  locals = refl;
  addressed = refl;
}

no_ids : Fresh 0 0 []
unfolding distinct
no_ids = (refl, tt)

pub empty_fine : (t : Text) (b : Bodies) → FileFine t b empty
empty_fine t b = record {
  stands = nothing_stands;
  fits = omega arith;
  cells = refl;
  typed = tt;
  objects = λ name n ty e. absurd cc;
  numbers = λ name number params ret e. absurd cc;
  funcs = [];
  known = refl;
  many = refl;
  defined = λ name n e lt. absurd (omega (arith, lt));
  mains = λ name x m e. absurd cc;
  funcs_fine = tt;
  globals_fine = tt;
  ids = no_ids;
}
