-- Words that stand alone in their kind.
use Rattle.std.specs.Prelude.{Bool, true, false}
use Rattle.xc_raw.specs.declared.word.Word.{Word}
use Rattle.xc_raw.specs.declared.word.Word.TheVariants as word

abbrev pub is_void : Word → Bool
is_void word.Void = true
is_void _ = false

abbrev pub is_struct : Word → Bool
is_struct word.Struct = true
is_struct _ = false

abbrev pub is_future : Word → Bool
is_future word.Future = true
is_future _ = false
