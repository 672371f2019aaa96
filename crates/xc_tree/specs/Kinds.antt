-- The kinds of access, and those that a qualifier demands (Alverson et al., The Tera Computer System, 1990).
use Rattle.std.specs.Prelude.{Bool, true, false, Option, Some, None}
use Rattle.xc_word.specs.declared.memory.Kind.{Kind}
use Rattle.xc_word.specs.declared.memory.Kind.TheVariants as kind
use Rattle.xc_tree.specs.declared.ty.Ty.{Ty, out-Ty}
use Rattle.xc_tree.specs.declared.ty.Ty.TheOpen.{Ty-F}
use Rattle.xc_tree.specs.Types.{pointee}

abbrev pub is_read : Kind → Bool
is_read kind.ReadXx = true
is_read kind.ReadFe = true
is_read kind.ReadFf = true
is_read _ = false

abbrev pub is_write : Kind → Bool
is_write kind.WriteXf = true
is_write kind.WriteEf = true
is_write kind.WriteFf = true
is_write _ = false

-- the two are one kind of write
abbrev pub same_write : Kind → Kind → Bool
same_write kind.WriteXf kind.WriteXf = true
same_write kind.WriteEf kind.WriteEf = true
same_write kind.WriteFf kind.WriteFf = true
same_write _ _ = false

abbrev pub read_demanded : Ty-F Ty → Kind
read_demanded (Ty-F.Sync of) = kind.ReadFe
read_demanded (Ty-F.Future of) = kind.ReadFf
read_demanded _ = kind.ReadXx

abbrev pub write_demanded : Ty-F Ty → Kind
write_demanded (Ty-F.Sync of) = kind.WriteEf
write_demanded (Ty-F.Future of) = kind.WriteFf
write_demanded _ = kind.WriteXf

abbrev pub read_through : Option Ty → Kind
read_through None = kind.ReadXx
read_through (Some t) = read_demanded (out-Ty t)

abbrev pub write_through : Option Ty → Kind
write_through None = kind.WriteXf
write_through (Some t) = write_demanded (out-Ty t)

-- how the object is read to which a pointer of this type leads
abbrev pub read_kind : Ty → Kind
read_kind ty = read_through (pointee ty)

-- how it is written
abbrev pub write_kind : Ty → Kind
write_kind ty = write_through (pointee ty)
