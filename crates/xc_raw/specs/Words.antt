-- How the words of the grammar are spelled.
use Rattle.std.specs.Prelude.{ℕ, List, [], ◌∷◌, if◌then◌else◌, codes}
use Rattle.std.specs.Str.{bytes_eq}
use Rattle.xc_lex.specs.declared.token.TokenKind.{TokenKind}
use Rattle.xc_lex.specs.declared.token.TokenKind.TheVariants as kind
use Rattle.xc_raw.specs.declared.word.Word.{Word}
use Rattle.xc_raw.specs.declared.word.Word.TheVariants.{Name, Pragma, Void, Future, Restrict, Struct, If, Else, While, Do, For, Return, Break, Continue, Open, Close, OpenBracket, CloseBracket, OpenBrace, CloseBrace, Question, Colon, Semicolon, Comma, Set, Star, Ampersand, Foreign}
use Rattle.xc_raw.specs.declared.word.Word.TheVariants as word
use Rattle.xc_raw.specs.declared.word.Literal.TheVariants as literal
use Rattle.xc_raw.specs.declared.word.Specifier.TheVariants as specifier
use Rattle.xc_raw.specs.declared.word.Qualifier.TheVariants as qualifier
use Rattle.xc_raw.specs.declared.word.Access.TheVariants as access
use Rattle.xc_raw.specs.declared.word.AssignOp.TheVariants as assign
use Rattle.xc_raw.specs.declared.word.Sign.TheVariants as sign
use Rattle.xc_raw.specs.declared.word.Complement.TheVariants as complement
use Rattle.xc_raw.specs.declared.word.Step.TheVariants as step
use Rattle.xc_raw.specs.declared.word.BinaryOp.TheVariants as binary

-- the word of a text in a table, or Foreign
abbrev pub found : List (List ℕ × Word) → List ℕ → Word
found [] text = Foreign
found (p ∷ ps) text = if bytes_eq p.0 text then p.1 else found ps text

-- the keywords that stand in a rule
abbrev pub keywords : List (List ℕ × Word)
keywords =
    (codes "static", word.Specifier specifier.Static) ∷ (codes "int", word.Specifier specifier.Int) ∷ (codes "long", word.Specifier specifier.Long)
    ∷ (codes "signed", word.Specifier specifier.Signed) ∷ (codes "unsigned", word.Specifier specifier.Unsigned)
    ∷ (codes "void", Void) ∷ (codes "const", word.Qualifier qualifier.Const) ∷ (codes "sync", word.Qualifier qualifier.Sync)
    ∷ (codes "future", Future) ∷ (codes "restrict", Restrict) ∷ (codes "struct", Struct)
    ∷ (codes "if", If) ∷ (codes "else", Else) ∷ (codes "while", While) ∷ (codes "do", Do) ∷ (codes "for", For)
    ∷ (codes "return", Return) ∷ (codes "break", Break) ∷ (codes "continue", Continue) ∷ []

unfoldable pub keyword_of : List ℕ → Word
keyword_of text = found keywords text

-- C99's punctuators (6.4.6) without `...`, `#`, `##` and the digraphs
abbrev pub punctuators : List (List ℕ × Word)
punctuators =
    (codes "(", Open) ∷ (codes ")", Close) ∷ (codes "[", OpenBracket) ∷ (codes "]", CloseBracket)
    ∷ (codes "{", OpenBrace) ∷ (codes "}", CloseBrace) ∷ (codes ";", Semicolon) ∷ (codes ",", Comma) ∷ (codes "=", Set)
    ∷ (codes ".", word.Access access.Dot) ∷ (codes "->", word.Access access.Arrow) ∷ (codes "?", Question) ∷ (codes ":", Colon)
    ∷ (codes "*", Star) ∷ (codes "&", Ampersand) ∷ (codes "+", word.Sign sign.Plus) ∷ (codes "-", word.Sign sign.Minus)
    ∷ (codes "~", word.Complement complement.Bits) ∷ (codes "!", word.Complement complement.Truth)
    ∷ (codes "++", word.Step step.Increment) ∷ (codes "--", word.Step step.Decrement)
    ∷ (codes "/", word.Binary binary.Divide) ∷ (codes "%", word.Binary binary.Remainder)
    ∷ (codes "<<", word.Binary binary.ShiftLeft) ∷ (codes ">>", word.Binary binary.ShiftRight)
    ∷ (codes "<", word.Binary binary.Less) ∷ (codes ">", word.Binary binary.Greater)
    ∷ (codes "<=", word.Binary binary.AtMost) ∷ (codes ">=", word.Binary binary.AtLeast)
    ∷ (codes "==", word.Binary binary.Equal) ∷ (codes "!=", word.Binary binary.Unequal)
    ∷ (codes "^", word.Binary binary.BitXor) ∷ (codes "|", word.Binary binary.BitOr)
    ∷ (codes "&&", word.Binary binary.And) ∷ (codes "||", word.Binary binary.Or)
    ∷ (codes "*=", word.Assign assign.Multiply) ∷ (codes "/=", word.Assign assign.Divide) ∷ (codes "%=", word.Assign assign.Remainder)
    ∷ (codes "+=", word.Assign assign.Add) ∷ (codes "-=", word.Assign assign.Subtract)
    ∷ (codes "<<=", word.Assign assign.ShiftLeft) ∷ (codes ">>=", word.Assign assign.ShiftRight)
    ∷ (codes "&=", word.Assign assign.And) ∷ (codes "^=", word.Assign assign.Xor) ∷ (codes "|=", word.Assign assign.Or) ∷ []

unfoldable pub punctuator_of : List ℕ → Word
punctuator_of text = found punctuators text

-- the word of a token of this kind and spelling; C99's other keywords are Foreign
abbrev pub word_of : TokenKind → List ℕ → Word
word_of kind.Name text = Name
word_of kind.Number text = word.Literal literal.Number
word_of kind.Text text = word.Literal literal.Text
word_of kind.Pragma text = Pragma
word_of kind.Keyword text = keyword_of text
word_of kind.Punctuator text = punctuator_of text
