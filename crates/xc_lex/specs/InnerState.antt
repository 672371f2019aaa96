-- What only private functions and proofs speak of, beside `State`.
use Rattle.std.specs.Prelude.{◌≡◌, ◌≤◌, ◌<◌, ℕ, zero, suc, ◌+◌, ◌^◌, List, [], ◌∷◌, ◌++◌, length, sum_by, Bool, true, false, ◌⊎◌, None, slice_set, drop}
use Rattle.std.specs.List.{flat_map}
use Rattle.std.specs.Option.{option_map_or}
use Rattle.xc_text_place.specs.declared.Span.{Span}
use Rattle.xc_lex.specs.declared.token.Token.{Token}
use Rattle.xc_lex.specs.declared.macros.Macro.{Macro}
use Rattle.xc_lex.specs.declared.macros.Made.{Made}
use Rattle.xc_lex.specs.declared.macros.Frame.{Frame}
use Rattle.xc_lex.specs.declared.macros.Turn.{Turn}
use Rattle.xc_lex.specs.declared.macros.Turn.TheVariants.{Keep, Copy, Enter}
use Rattle.xc_lex.specs.Macros.{Macros, bytes_of, without, replacement}
use Rattle.xc_lex.specs.State.{visible, tokens_of, is_set, Names, NamesNone, shut, is_made, is_fixed, now_replaced, MadeFits, IsKept}

-- a token is the name of no macro, or of one that stands for the same anywhere
unfoldable pub IsSettled : List ℕ → List Macro → List Made → Token → Type 0
IsSettled source ms made t = NamesNone source ms t ⊎ ((i : ℕ) × Names source ms t i × (is_fixed ms made i ≡ true))

abbrev pub AllSettled : List ℕ → List Macro → List Made → List Token → Type 0
AllSettled source ms made [] = Unit {0}
AllSettled source ms made (t ∷ ts) = IsSettled source ms made t × AllSettled source ms made ts

-- what the frames, the innermost first, have still to give
abbrev pub pending : List ℕ → Span → List Macro → List Bool → List Frame → List Token
pending source at ms opened [] = []
pending source at ms opened (f ∷ fs) =
    flat_map (now_replaced source at ms opened) (drop f.next (tokens_of ms f.number)) ++ pending source at ms (slice_set opened f.number false) fs

-- the flags once all frames are left
abbrev pub unwound : List Bool → List Frame → List Bool
unwound opened [] = opened
unwound opened (f ∷ fs) = unwound (slice_set opened f.number false) fs

-- the numbers of the frames are numbers of macros
abbrev pub AreWithin : List Macro → List Frame → Type 0
AreWithin ms [] = Unit {0}
AreWithin ms (f ∷ fs) = (f.number < length ms) × AreWithin ms fs

-- the next token of a frame, and the frame behind it
pub record NextOf (ms : List Macro) (f : Frame) (t : Token) (g : Frame) : Type 0 where
  pub token : drop f.next (tokens_of ms f.number) ≡ t ∷ drop (f.next + 1) (tokens_of ms f.number)
  pub frame : g ≡ record f { next = f.next + 1 }

-- how many steps a token takes, at most
abbrev pub cost : List ℕ → ℕ → Macros → Token → ℕ
cost source zero ms t = 2
cost source (suc n) ms t = 2 + option_map_or (λ body. sum_by (cost source n (without (bytes_of source t.text) ms)) body) (replacement source ms t) 0

abbrev pub now_cost : List ℕ → List Macro → List Bool → Token → ℕ
now_cost source ms opened t = cost source (length (visible source ms opened)) (visible source ms opened) t

-- and how many all frames take
abbrev pub frames_cost : List ℕ → List Macro → List Bool → List Frame → ℕ
frames_cost source ms opened [] = 0
frames_cost source ms opened (f ∷ fs) =
    1 + sum_by (now_cost source ms opened) (drop f.next (tokens_of ms f.number)) + frames_cost source ms (slice_set opened f.number false) fs

-- the token is kept as it is, or stands for tokens that were made, or for those of a macro that is not opened
abbrev pub TurnFits : List ℕ → List Macro → List Bool → List Made → Token → Turn → Type 0
TurnFits source ms opened made t Keep = replacement source (visible source ms opened) t ≡ None
TurnFits source ms opened made t (Copy i) = Names source ms t i × (is_made ms made i ≡ true) × ((is_fixed ms made i ≡ true) ⊎ (opened ≡ shut ms))
TurnFits source ms opened made t (Enter i) = Names source ms t i × (is_set opened i ≡ false) × (is_fixed ms made i ≡ false)

-- what a macro that is opened stands for is what was made behind as many tokens
pub record IsMadeBy (source : List ℕ) (ms : List Macro) (opened : List Bool) (tokens : List Token) (f : Frame) : Type 0 where
  pub is_open : is_set opened f.number ≡ true
  pub at : Span
  pub before : List Token
  pub size : length before ≡ f.from
  pub same : tokens ≡ before ++ flat_map (now_replaced source at ms opened) (tokens_of ms f.number)

-- each of the frames makes what its macro stands for
abbrev pub AreSpans : List ℕ → Span → List Macro → List Bool → List Token → List Frame → Type 0
AreSpans source at ms opened tokens [] = Unit {0}
AreSpans source at ms opened tokens (f ∷ fs) =
    let all = tokens ++ flat_map (now_replaced source at ms opened) (drop f.next (tokens_of ms f.number)) in
    IsMadeBy source ms opened all f × AreSpans source at ms (slice_set opened f.number false) all fs

-- a token was read: what it stands for was added, or is the first that is pending
pub record Entered (source : List ℕ) (at : Span) (ms : List Macro) (opened : List Bool) (frames : List Frame) (tokens : List Token) (t : Token) (opened' : List Bool) (made' : List Made) (frames' : List Frame) (tokens' : List Token) : Type 0 where
  pub kept : IsKept source ms opened' made'
  pub fits : MadeFits source ms opened' made' tokens'
  pub within : AreWithin ms frames → AreWithin ms frames'
  pub unwinds : unwound opened' frames' ≡ unwound opened frames
  pub spans : AreSpans source at ms opened (tokens ++ now_replaced source at ms opened t) frames → AreSpans source at ms opened' tokens' frames'
  pub told : tokens' ++ pending source at ms opened' frames' ≡ tokens ++ (now_replaced source at ms opened t ++ pending source at ms opened frames)
  pub cheaper : frames_cost source ms opened' frames' < now_cost source ms opened t + frames_cost source ms opened frames
  pub few : length tokens' ≤ 2 ^ 20
