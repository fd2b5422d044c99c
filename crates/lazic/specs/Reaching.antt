-- What is reported of a run that reaches an error, and what is so of a run that is reported to reach one.
use Rattle.std.specs.Prelude.{ℕ, ◌≡◌, ◌≤◌, ◌⊎◌, List, length, ℤ, Some}
use Rattle.lv_base.specs.Place.{place_at}
use Rattle.lv_base.specs.declared.fault.ErrorKind.{ErrorKind}
use Rattle.c_lexer.specs.declared.token.Token.{Token}
use Rattle.c_tokens.specs.Divisions.{Tokens}
use Rattle.c_tree.specs.Symbols.{signs_of}
use Rattle.c_tree.specs.Tree.{Items}
use Rattle.c_tree.specs.Denotes.{IsSpelled}
use Rattle.c_meaning.specs.Good.{Good}
use Rattle.c_meaning.specs.Laws.{IsSpent}
use Rattle.c_meaning.specs.Program.{run, Reaches}
use Rattle.stored_text.specs.RunText.{Spells}
use Rattle.lazic.specs.Words.{Wanted, request_of}
use Rattle.lazic.specs.Meaning.{HasTree, IsAccepted, Means}
use Rattle.lazic.specs.declared.outcome.Outcome.TheVariants.{Reached, OutOfTurns}
use Rattle.lazic.specs.declared.report.Kept.{Kept}
use Rattle.lazic.specs.declared.report.Kept.TheVariants.{Nothing, Unsafe, Limited}

-- The words ask for the replay of a source that is a tree and breaks no rule, on the run text of at most a million values
-- with which it reaches an error.
pub record IsReaching (words : List (List ℕ)) (file : List ℕ → List ℕ) (wanted : Wanted) (tree : Items) (values : List ℤ) (kind : ErrorKind) (at : ℕ) : Type 0 where
  pub asked : request_of words ≡ Some wanted
  pub tokens : List Token
  pub divided : Tokens (file wanted.source) tokens
  pub spelled : IsSpelled (signs_of tokens) tree
  pub good : Good tree wanted.model
  pub text : Spells values (file wanted.run)
  pub few : length values ≤ 1000000
  pub reaches : Reaches tree wanted.model values kind at

-- a limit of the source: bytes, tokens, height, cells
abbrev pub IsSourceLimit : ℕ → Type 0
IsSourceLimit number = (number ≡ 1) ⊎ ((number ≡ 2) ⊎ ((number ≡ 3) ⊎ (number ≡ 4)))

-- What is reported of it: the error at its place with these values, or that the turns were not enough for it, or a limit of the
-- source, or want of memory; or a failure of the outside, where its count rose.
pub data IsReachTold (words : List (List ℕ)) (file : List ℕ → List ℕ) (read_rose put_rose : Type 0) (status : ℕ) (kept : Kept) (wanted : Wanted) (tree : Items) (values : List ℤ) (kind : ErrorKind) (at : ℕ) : Type 0 where
  reached : status ≡ 1 → kept ≡ Unsafe values → Means words file (Reached kind (place_at (file wanted.source) at) values) → IsReachTold words file read_rose put_rose status kept wanted tree values kind at
  out_of_turns : status ≡ 2 → kept ≡ Nothing → Means words file (OutOfTurns wanted.turns) → IsSpent (run wanted.turns tree wanted.model values) → IsReachTold words file read_rose put_rose status kept wanted tree values kind at
  limited : (number count : ℕ) → status ≡ 12 → kept ≡ Limited number count → IsSourceLimit number → IsReachTold words file read_rose put_rose status kept wanted tree values kind at
  read_failed : status ≡ 13 → read_rose → IsReachTold words file read_rose put_rose status kept wanted tree values kind at
  put_failed : status ≡ 14 → put_rose → IsReachTold words file read_rose put_rose status kept wanted tree values kind at
  no_memory : status ≡ 15 → IsReachTold words file read_rose put_rose status kept wanted tree values kind at

-- so it is of each that is asked for
abbrev pub ReachesAreTold : List (List ℕ) → (List ℕ → List ℕ) → Type 0 → Type 0 → ℕ → Kept → Type 0
ReachesAreTold words file read_rose put_rose status kept =
    (wanted : Wanted) (tree : Items) (values : List ℤ) (kind : ErrorKind) (at : ℕ) → IsReaching words file wanted tree values kind at → IsReachTold words file read_rose put_rose status kept wanted tree values kind at

-- The words ask for the replay of a source whose tree breaks no rule, and these values, all of them being drawn, lead it to the error
-- that is told, at its place.
pub record IsReplayed (words : List (List ℕ)) (file : List ℕ → List ℕ) (values : List ℤ) : Type 0 where
  pub wanted : Wanted
  pub asked : request_of words ≡ Some wanted
  pub tree : Items
  pub has : HasTree (file wanted.source) tree
  pub accepted : IsAccepted tree wanted.model
  pub kind : ErrorKind
  pub at : ℕ
  pub told : Means words file (Reached kind (place_at (file wanted.source) at) values)
  pub reaches : Reaches tree wanted.model values kind at

-- so it is of values that are kept
abbrev pub KeptAreReplayed : List (List ℕ) → (List ℕ → List ℕ) → Kept → Type 0
KeptAreReplayed words file kept = (values : List ℤ) → kept ≡ Unsafe values → IsReplayed words file values
