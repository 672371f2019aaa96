-- What stands at the front of some bytes.
use Rattle.std.specs.Prelude.{◌≡◌, ◌<◌, ◌≤◌, ℕ, ◌+◌, List, [], ◌∷◌, length, take, drop, Bool, true, false, ◌==◌, ◌||◌, ◌&&◌, if◌then◌else◌, nat_eq, Option, Some, None, is_some, unwrap_or, max, codes}
use Rattle.std.specs.List.{prefix_len, starts_with}
use Rattle.xc_lex.specs.declared.token.TokenKind.{TokenKind}
use Rattle.xc_lex.specs.declared.token.TokenKind.TheVariants.{Name, Keyword, Number, Text, Punctuator}
use Rattle.xc_lex.specs.declared.front.Front.{Front}
use Rattle.xc_lex.specs.declared.front.Front.TheVariants.{End, LineEnd, Blank, Whole, Hash, Bad}
use Rattle.xc_lex.specs.Bytes.{is_name_start, is_name_char, is_blank, is_printable, is_source, is_in_line}
use Rattle.xc_lex.specs.Numbers.{number_of, is_among}

-- C99's keywords (6.4.1), and `sync` and `future`
abbrev pub keywords : List (List ℕ)
keywords =
    codes "auto" ∷ codes "break" ∷ codes "case" ∷ codes "char" ∷ codes "const" ∷ codes "continue" ∷ codes "default" ∷ codes "do"
    ∷ codes "double" ∷ codes "else" ∷ codes "enum" ∷ codes "extern" ∷ codes "float" ∷ codes "for" ∷ codes "goto" ∷ codes "if"
    ∷ codes "inline" ∷ codes "int" ∷ codes "long" ∷ codes "register" ∷ codes "restrict" ∷ codes "return" ∷ codes "short" ∷ codes "signed"
    ∷ codes "sizeof" ∷ codes "static" ∷ codes "struct" ∷ codes "switch" ∷ codes "typedef" ∷ codes "union" ∷ codes "unsigned" ∷ codes "void"
    ∷ codes "volatile" ∷ codes "while" ∷ codes "_Bool" ∷ codes "_Complex" ∷ codes "_Imaginary" ∷ codes "sync" ∷ codes "future" ∷ []

unfoldable pub is_keyword : List ℕ → Bool
is_keyword word = is_among keywords word

abbrev pub word_kind : List ℕ → TokenKind
word_kind word = if is_keyword word then Keyword else Name

-- C99's punctuators (6.4.6) without `...`, `#`, `##` and the digraphs
abbrev pub punctuators : List (List ℕ)
punctuators =
    codes "[" ∷ codes "]" ∷ codes "(" ∷ codes ")" ∷ codes "{" ∷ codes "}" ∷ codes "." ∷ codes "->"
    ∷ codes "++" ∷ codes "--" ∷ codes "&" ∷ codes "*" ∷ codes "+" ∷ codes "-" ∷ codes "~" ∷ codes "!"
    ∷ codes "/" ∷ codes "%" ∷ codes "<<" ∷ codes ">>" ∷ codes "<" ∷ codes ">" ∷ codes "<=" ∷ codes ">=" ∷ codes "==" ∷ codes "!="
    ∷ codes "^" ∷ codes "|" ∷ codes "&&" ∷ codes "||" ∷ codes "?" ∷ codes ":" ∷ codes ";"
    ∷ codes "=" ∷ codes "*=" ∷ codes "/=" ∷ codes "%=" ∷ codes "+=" ∷ codes "-=" ∷ codes "<<=" ∷ codes ">>="
    ∷ codes "&=" ∷ codes "^=" ∷ codes "|=" ∷ codes "," ∷ []

-- the length of the longest of the texts that stands at the front, or 0
abbrev pub longest_of : List (List ℕ) → List ℕ → ℕ
longest_of [] bs = 0
longest_of (p ∷ ps) bs = if starts_with nat_eq bs p then max (length p) (longest_of ps bs) else longest_of ps bs

-- of the next token the longest that fits is taken (C99 6.4)
unfoldable pub longest_punctuator : List ℕ → ℕ
longest_punctuator bs = longest_of punctuators bs

-- how many bytes there are up to the end of a comment `/* */`, behind n others (C99 6.4.9)
abbrev pub close_from : ℕ → List ℕ → Option ℕ
close_from n [] = None
close_from n (b ∷ []) = None
close_from n (b ∷ c ∷ bs) = if b == 42 && c == 47 then Some (n + 2) else close_from (n + 1) (c ∷ bs)

-- the escapes `\n`, `\t`, `\\` and `\"`
abbrev pub is_escape : ℕ → Bool
is_escape b = b == 110 || b == 116 || b == 92 || b == 34

-- how many bytes of a string literal there are up to its closing quote, behind n others, where the last of them may begin an escape (C99 6.4.5, narrower: printable bytes and four escapes)
abbrev pub quote_from : ℕ → Bool → List ℕ → Option ℕ
quote_from n escaped [] = None
quote_from n true (b ∷ bs) = if is_escape b then quote_from (n + 1) false bs else None
quote_from n false (b ∷ bs) =
    if b == 34 then Some (n + 1)
    else if is_printable b then quote_from (n + 1) (b == 92) bs
    else None

abbrev pub blank_or_bad : Option ℕ → Front
blank_or_bad None = Bad
blank_or_bad (Some n) = Blank (n + 2)

abbrev pub text_or_bad : Option ℕ → Front
text_or_bad None = Bad
text_or_bad (Some n) = Whole Text (n + 1)

-- a comment is a blank: `//` goes up to the line's end, `/*` up to the first `*/` behind it (C99 6.4.9)
abbrev pub comment_of : List ℕ → Option Front
comment_of [] = None
comment_of (b ∷ []) = None
comment_of (b ∷ c ∷ bs) =
    if b == 47 && c == 47 then Some (Blank (prefix_len is_in_line bs + 2))
    else if b == 47 && c == 42 then Some (blank_or_bad (close_from 0 bs))
    else None

-- a comment, or else what `other` says of the first byte
abbrev pub piece_of : (ℕ → List ℕ → Front) → List ℕ → Front
piece_of other [] = End
piece_of other (b ∷ bs) = unwrap_or (comment_of (b ∷ bs)) (other b (b ∷ bs))

-- a name or a number goes on as far as letters, digits, `_` and `$` do
abbrev pub word_in : ℕ → List ℕ → Front
word_in b word =
    if is_name_start b then Whole (word_kind word) (length word)
    else if is_some (number_of word) then Whole Number (length word)
    else Bad

abbrev pub word_of : ℕ → List ℕ → Front
word_of b bs = word_in b (take (prefix_len is_name_char (drop 1 bs) + 1) bs)

-- what the bytes bs, of which b is the first, begin with: a blank, a word, a line feed, `#`, a string literal, a punctuator, or none of them
abbrev pub token_at : ℕ → List ℕ → Front
token_at b bs =
    if is_blank b then Blank 1
    else if is_name_char b then word_of b bs
    else if b == 10 then LineEnd
    else if b == 35 then Hash
    else if b == 34 then text_or_bad (quote_from 0 false (drop 1 bs))
    else if longest_punctuator bs == 0 then Bad
    else Whole Punctuator (longest_punctuator bs)

-- in the rest of an `include` or `pragma` line other bytes of a source have no meaning
abbrev pub byte_at : ℕ → List ℕ → Front
byte_at b bs = if b == 10 then LineEnd else if is_source b then Blank 1 else Bad

abbrev pub front_of : List ℕ → Front
front_of bs = piece_of token_at bs

abbrev pub rest_front_of : List ℕ → Front
rest_front_of bs = piece_of byte_at bs

-- what moves on is of a byte at least, and of no more bytes than there are
abbrev pub Moves : Front → ℕ → Type 0
Moves (Blank k) n = (0 < k) × (k ≤ n)
Moves (Whole kind k) n = (0 < k) × (k ≤ n)
Moves LineEnd n = 0 < n
Moves Hash n = 0 < n
Moves End n = n ≡ 0
Moves Bad n = 0 < n
