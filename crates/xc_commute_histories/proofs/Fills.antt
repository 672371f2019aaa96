-- The program of TwoFills is quiet, its loop does what its serial trace does, and a team run of it in which the later iteration goes first ends.
use Rattle.std.specs.Prelude.{Some}
use Rattle.std.proofs.Common.{◌≡◌, List, [], ◌∷◌, refl, true, false}
use Rattle.xc_commute_histories.specs.History.{hist, Each}
use Rattle.xc_commute_histories.specs.Runs.{Block, stays, goes, Plain, In, put, TeamRun, begins, enters, member, leaves, Indep, Always, Quiet, AnswersFit, OneLoop}
use Rattle.xc_commute_histories.specs.TwoFills.{Fill, Begin, FillZeroth, FillFirst, Finish, Flags, Stage, Outside, Standing, Half, Whole, Over, filled, begins as begins_loop, zeroth_turn, first_turn, finishes, first_alone, first_then_zeroth, Out, in_order, turned, begin_at, two_fills}

abbrev AllCells : Stage → Flags → Fill → Type 0
AllCells t e a = Unit {0}

abbrev NoTraps : Fill → Type 0
NoTraps a = ⊥

-- no two fills conflict
any_two : (a b : Fill) → Indep filled a b
any_two Begin Begin = (λ m. refl, λ m p q. (_, refl))
any_two Begin FillZeroth = (λ m. refl, λ m p q. (_, refl))
any_two Begin FillFirst = (λ m. refl, λ m p q. (_, refl))
any_two Begin Finish = (λ m. refl, λ m p q. (_, refl))
any_two FillZeroth Begin = (λ m. refl, λ m p q. (_, refl))
any_two FillZeroth FillZeroth = (λ m. refl, λ m p q. (_, refl))
any_two FillZeroth FillFirst = (λ m. refl, λ m p q. (_, refl))
any_two FillZeroth Finish = (λ m. refl, λ m p q. (_, refl))
any_two FillFirst Begin = (λ m. refl, λ m p q. (_, refl))
any_two FillFirst FillZeroth = (λ m. refl, λ m p q. (_, refl))
any_two FillFirst FillFirst = (λ m. refl, λ m p q. (_, refl))
any_two FillFirst Finish = (λ m. refl, λ m p q. (_, refl))
any_two Finish Begin = (λ m. refl, λ m p q. (_, refl))
any_two Finish FillZeroth = (λ m. refl, λ m p q. (_, refl))
any_two Finish FillFirst = (λ m. refl, λ m p q. (_, refl))
any_two Finish Finish = (λ m. refl, λ m p q. (_, refl))

pub quiet : Quiet two_fills AllCells
quiet = record {
  next = λ h s m src u v t n a c o is may g fits. any_two a c;
  cells = λ h s m src u v c d ne o w. any_two c d;
}

pub answers : AnswersFit two_fills AllCells
answers = record { possible = λ a m is. tt; before = λ t e c o in_cells m k is a fits. tt }

-- its cells are all that it does
always : (b : List Fill) → Each (λ a. AllCells Standing (record { zeroth = false; first = false }) a × Always two_fills a) b
always [] = tt
always (a ∷ b) = ((tt, λ r u. (tt, refl)), always b)

-- what the loop does serially
abbrev serially : List Fill
serially = Finish ∷ FillFirst ∷ FillZeroth ∷ []

serial_block : Block two_fills.can Standing serially Over
serial_block = goes (goes (goes stays FillZeroth Half zeroth_turn) FillFirst Whole first_turn) Finish Over finishes

in_any_order : (t n : Stage) (e k : Flags) (l : List Fill) → Out t l n → hist filled l e ≡ Some k → (b : List Fill) × Block two_fills.can t b n × Each (λ a. AllCells t e a × Always two_fills a) b × (hist filled b e ≡ Some k)
in_any_order _ _ e k _ in_order h = (serially, serial_block, always serially, h)
in_any_order _ _ e k _ turned h = (serially, serial_block, always serially, h)

pub each_loop : OneLoop two_fills AllCells NoTraps
each_loop = record {
  inside = λ t e a l o team d. tt;
  whole = λ t n e k l o out h. in_any_order t n e k l out h;
  traps = λ t e a l o team trap d. absurd trap;
}

-- the later iteration goes first
pub later_first : TeamRun two_fills (put (put (λ u. Plain (begin_at u)) 0 (In Standing)) 0 (Plain Over)) [] ((0, Begin) ∷ []) (record { zeroth = true; first = true })
later_first =
    leaves
    (member
    (member
    (enters begins 0 Outside Standing Begin _ refl tt begins_loop refl refl refl)
    0 Standing FillFirst (record { zeroth = false; first = true }) refl first_alone refl)
    0 Standing FillZeroth (record { zeroth = true; first = true }) refl first_then_zeroth refl)
    0 Standing Over refl turned
