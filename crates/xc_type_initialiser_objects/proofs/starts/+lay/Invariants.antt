use Rattle.std.proofs.Common.{◌≡◌, ◌+◌, ◌*◌, drop}
use Rattle.std.specs.Prelude.{fold, replicate}
use Rattle.xc_tree.specs.Lists.{joined}
use Rattle.xc_type_initialiser_objects.specs.Cells.{start_of, starts_within, struct_start}
use Rattle.xc_type_initialiser_objects.specs.InnerCells.{with_cell}
use Rattle.xc_type_initialiser_objects.proofs.starts.+lay.Given as goal

-- by the levels that are left, and then by who calls whom
abbrev pub decreases-lay : goal.decreases-lay
decreases-lay l = l.room * 10

abbrev pub decreases-lay_array : goal.decreases-lay_array
decreases-lay_array l = l.room * 10 + 5

abbrev pub decreases-lay_struct : goal.decreases-lay_struct
decreases-lay_struct l = l.room * 10 + 9

abbrev pub decreases-lay_members : goal.decreases-lay_members
decreases-lay_members l = l.room * 10 + 7

abbrev pub decreases-lay_typed : goal.decreases-lay_typed
decreases-lay_typed l = l.room * 10 + 5

-- the elements so far
abbrev pub invariant-lay_array-elements : goal.invariant-lay_array-elements
invariant-lay_array-elements l = l.laid ≡ fold with_cell l.initial.laid (joined (replicate l.counter (start_of (starts_within l.deep l.structs.members) l.of)))

-- the members to come give what all give
abbrev pub invariant-lay_members-members : goal.invariant-lay_members-members
invariant-lay_members-members l = fold with_cell l.laid (struct_start (starts_within l.deep l.structs.members) (drop l.k l.members))
    ≡ fold with_cell l.initial.laid (struct_start (starts_within l.deep l.structs.members) l.members)
