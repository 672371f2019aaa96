-- What only private functions and proofs speak of, beside `Addresses` and `Stable`.
use Rattle.std.specs.Prelude.{ℕ, Bool, List, map}
use Rattle.xc_text_place.specs.declared.Span.{Span}
use Rattle.xc_tree.specs.declared.expr.Expr.{Expr}
use Rattle.xc_tree.specs.declared.stmt.Stmt.{Stmt}
use Rattle.xc_tree.specs.declared.stmt.Item.{Item}
use Rattle.xc_tree.specs.declared.stmt.Item.TheFolds.{fold-Item}
use Rattle.xc_tree.specs.Lists.{joined}
use Rattle.xc_form_stable.specs.declared.breach.Breach.{Breach}
use Rattle.xc_form_stable.specs.declared.walk.Walk.{Walk}
use Rattle.xc_form_stable.specs.Addresses.{Frame, part_of, all_breaches, address_breaches}
use Rattle.xc_form_stable.specs.Stable.{Entry, Shape, Piece, entry_at, shape_step, piece_at, piece_of, pieces_breaches}

abbrev pub frame_of : Walk → Frame
frame_of w = record { pures = w.pures.now; locals = w.locals.now; effects = w.effects.now; index = w.index }

-- in an address every read may stand, or those of kept objects alone
abbrev pub is_steady_where : Frame → Bool → List ℕ → Expr → Bool
is_steady_where fr all over e = (part_of fr e).steady all over

abbrev pub address_of : Frame → List ℕ → Expr → Span → List Breach
address_of fr over place at = address_breaches fr (part_of fr place) at over

abbrev pub exprs_breaches : Frame → List ℕ → List Expr → List Breach
exprs_breaches fr over es = all_breaches (map (part_of fr) es) over

abbrev pub stmts_breaches : Frame → List ℕ → List Stmt → List Breach
stmts_breaches fr over ss = pieces_breaches (map (piece_of fr) ss) over

abbrev pub entry_of : Frame → Item → Entry
entry_of fr = fold-Item Entry Shape Piece entry_at (shape_step fr) piece_at

abbrev pub item_breaches : Frame → List ℕ → Item → List Breach
item_breaches fr over i = (entry_of fr i).breaches over

abbrev pub items_breaches : Frame → List ℕ → List Item → List Breach
items_breaches fr over is = joined (map (λ i. i.breaches over) (map (entry_of fr) is))
