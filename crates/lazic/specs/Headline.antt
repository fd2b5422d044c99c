-- What the answers to checks and verifications mean for the source that is asked about.
use Rattle.std.specs.Prelude.{ℕ, ℤ, ◌≡◌, List}
use Rattle.lv_base.specs.declared.kind.Model.{Model}
use Rattle.lv_base.specs.declared.fault.ErrorKind.{ErrorKind}
use Rattle.c_tree.specs.Tree.{Items}
use Rattle.c_meaning.specs.Program.{Reaches, Secure}
use Rattle.task_gen.specs.Generated.{generated}
use Rattle.request_words.specs.Asked.{Asked, Check, Verify, Generate, plain_model}
use Rattle.request_answers.specs.Answers.{IsKnown}
use Rattle.request_answers.specs.Laws.{IsCertifiedFor}
use Rattle.lazic.specs.Meaning.{HasTree, IsAccepted}
use Rattle.lazic.specs.declared.report.Kept.{Kept}
use Rattle.lazic.specs.declared.report.Kept.TheVariants.{Unsafe}

-- The source has a tree, the only one with its tokens, that breaks no rule of C and passes no limit, and no inputs lead it to an error.
pub record IsSecureIn (model : Model) (source : List ℕ) : Type 0 where
  pub tree : Items
  pub has : HasTree source tree
  pub accepted : IsAccepted tree model
  pub secure : Secure tree model

-- so it is of the source that is asked about
abbrev pub IsSecureFor : Asked → (List ℕ → List ℕ) → Type 0
IsSecureFor (Check c) file = IsSecureIn c.model (file c.source)
IsSecureFor (Verify w) file = IsSecureIn w.model (file w.source)
IsSecureFor (Generate seed) file = IsSecureIn plain_model (generated seed)

-- The source has a tree that breaks no rule and passes no limit, and these values lead it to an error, all of them being drawn.
pub record IsReachedIn (model : Model) (source : List ℕ) (values : List ℤ) : Type 0 where
  pub tree : Items
  pub has : HasTree source tree
  pub accepted : IsAccepted tree model
  pub kind : ErrorKind
  pub at : ℕ
  pub reaches : Reaches tree model values kind at

-- they lead the source that is asked about to one
abbrev pub IsReachedFor : Asked → (List ℕ → List ℕ) → List ℤ → Type 0
IsReachedFor (Check c) file values = ⊥
IsReachedFor (Verify w) file values = IsReachedIn w.model (file w.source) values
IsReachedFor (Generate seed) file values = IsReachedIn plain_model (generated seed) values

-- The status 0, that of SAFE and ACCEPTED, comes only where the source breaks no rule and is secure: no run of a graph that was made of it meets
-- an error, which stands for all its runs; values are kept only where they lead the source to an error.
pub record Headline (files_told : Type 0) (asked : Asked) (file : List ℕ → List ℕ) (status : ℕ) (kept : Kept) : Type 0 where
  pub secure : IsKnown files_told asked → status ≡ 0 → IsSecureFor asked file
  pub safe : IsKnown files_told asked → status ≡ 0 → IsCertifiedFor asked file
  pub unsafe : IsKnown files_told asked → (values : List ℤ) → kept ≡ Unsafe values → IsReachedFor asked file values
