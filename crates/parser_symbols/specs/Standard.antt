-- The words that are no names: the keywords of C11 (6.4.1), and those of gcc that sources for it have.
use Rattle.std.specs.Prelude.{ℕ, ◌≡◌, List, [], ◌∷◌, ◌++◌, codes}
use Rattle.c_tree.specs.Symbols.{keyword_of}
use Rattle.c_tree.specs.declared.symbol.TypeWord.TheVariants as type
use Rattle.c_tree.specs.declared.symbol.StorageWord.TheVariants as storage
use Rattle.c_tree.specs.declared.symbol.ConstWord.TheVariants as const
use Rattle.c_tree.specs.declared.symbol.AttributeWord.TheVariants as attribute
use Rattle.c_tree.specs.declared.symbol.StatementWord.TheVariants as statement
use Rattle.c_tree.specs.declared.symbol.Keyword.TheVariants as key
use Rattle.parser_symbols.specs.Keywords.{Spelled, spelled, among}

-- C11 6.4.1, but for those that the subset leaves out
abbrev pub standard_words : List Spelled
standard_words =
    spelled (codes "auto") (key.Storage storage.Auto) ∷
    spelled (codes "break") (key.Statement statement.Break) ∷
    spelled (codes "case") (key.Statement statement.Case) ∷
    spelled (codes "char") (key.Type type.Char) ∷
    spelled (codes "const") (key.Const const.Const) ∷
    spelled (codes "continue") (key.Statement statement.Continue) ∷
    spelled (codes "default") (key.Statement statement.Default) ∷
    spelled (codes "do") (key.Statement statement.Do) ∷
    spelled (codes "else") (key.Statement statement.Else) ∷
    spelled (codes "enum") key.Enum ∷
    spelled (codes "extern") (key.Storage storage.Extern) ∷
    spelled (codes "for") (key.Statement statement.For) ∷
    spelled (codes "goto") (key.Statement statement.Goto) ∷
    spelled (codes "if") (key.Statement statement.If) ∷
    spelled (codes "inline") (key.Storage storage.Inline) ∷
    spelled (codes "int") (key.Type type.Int) ∷
    spelled (codes "long") (key.Type type.Long) ∷
    spelled (codes "register") (key.Storage storage.Register) ∷
    spelled (codes "return") (key.Statement statement.Return) ∷
    spelled (codes "short") (key.Type type.Short) ∷
    spelled (codes "signed") (key.Type type.Signed) ∷
    spelled (codes "sizeof") key.Sizeof ∷
    spelled (codes "static") (key.Storage storage.Static) ∷
    spelled (codes "switch") (key.Statement statement.Switch) ∷
    spelled (codes "typedef") (key.Storage storage.Typedef) ∷
    spelled (codes "unsigned") (key.Type type.Unsigned) ∷
    spelled (codes "void") (key.Type type.Void) ∷
    spelled (codes "while") (key.Statement statement.While) ∷
    spelled (codes "_Bool") (key.Type type.Bool) ∷
    spelled (codes "_Noreturn") (key.Storage storage.Noreturn) ∷
    []

-- what gcc reads beside them
abbrev pub gcc_words : List Spelled
gcc_words =
    spelled (codes "__attribute__") (key.Attribute attribute.AttributeLong) ∷
    spelled (codes "__attribute") (key.Attribute attribute.AttributeShort) ∷
    spelled (codes "__extension__") key.Extension ∷
    spelled (codes "__inline") (key.Storage storage.InlineShort) ∷
    spelled (codes "__inline__") (key.Storage storage.InlineLong) ∷
    spelled (codes "__const") (key.Const const.ConstAlternate) ∷
    spelled (codes "__signed__") (key.Type type.SignedAlternate) ∷
    []

-- left out: a declaration that names one of these is skipped behind `extern`
abbrev pub listed_words : List Spelled
listed_words =
    spelled (codes "double") key.Listed ∷
    spelled (codes "float") key.Listed ∷
    spelled (codes "struct") key.Listed ∷
    spelled (codes "union") key.Listed ∷
    []

-- left out
abbrev pub foreign_words : List Spelled
foreign_words =
    spelled (codes "volatile") key.Foreign ∷
    spelled (codes "restrict") key.Foreign ∷
    spelled (codes "__restrict") key.Foreign ∷
    spelled (codes "asm") key.Foreign ∷
    spelled (codes "__asm__") key.Foreign ∷
    spelled (codes "__int128") key.Foreign ∷
    spelled (codes "_Complex") key.Foreign ∷
    spelled (codes "_Imaginary") key.Foreign ∷
    spelled (codes "_Alignas") key.Foreign ∷
    spelled (codes "_Alignof") key.Foreign ∷
    spelled (codes "_Atomic") key.Foreign ∷
    spelled (codes "_Generic") key.Foreign ∷
    spelled (codes "_Static_assert") key.Foreign ∷
    spelled (codes "_Thread_local") key.Foreign ∷
    []

abbrev pub all_words : List Spelled
all_words = standard_words ++ gcc_words ++ listed_words ++ foreign_words

-- Which word a text is, is by this table alone.
abbrev pub WordsAre : Type 0
WordsAre = (text : List ℕ) → keyword_of text ≡ among text all_words
