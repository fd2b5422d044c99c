-- Answers have their causes.
use Rattle.std.proofs.Common.{inl, inr, ◌⊎◌, ◌≡◌, ℕ, ◌<◌, List, length, refl, sym, ◌∙◌, ap, subst, arith, Bool, true, ℤ}
use Rattle.std.specs.Prelude.{Result, Ok, Err, nat_lt, if◌then◌else◌}
use Rattle.std.proofs.lemmas.Bool.Decides.{nat_tests}
use Rattle.lv_base.specs.declared.kind.Model.{Model}
use Rattle.lv_base.specs.declared.fail.SourceFail.{SourceFail}
use Rattle.lv_base.specs.declared.fail.SourceFail.TheVariants as fail
use Rattle.c_tree.specs.Tree.{Items}
use Rattle.c_run.specs.Run as run
use Rattle.c_typed.specs.Tree.{Program}
use Rattle.c_meaning.specs.Program as program
use Rattle.slot_code.specs.Machine.{ending_of}
use Rattle.stored_text.specs.declared.StoredFail.{StoredFail}
use Rattle.stored_text.specs.declared.StoredFail.TheVariants as stored
use Rattle.stored_text.specs.Reading.{read_run_of, read_behind, head_fault, head_line}
use Rattle.source_reading.specs.Reading.{source_read, RunsAs}
use Rattle.lazic.specs.Running.{said_of, told_of}
use Rattle.lazic.specs.Answer.{run_refused, values_outcome, run_outcome, refused, tree_outcome, IsCaused}
use Rattle.lazic.specs.Runs.{IsRunOn, IsRunOf}
use Rattle.lazic.specs.declared.outcome.Outcome.{Outcome}
use Rattle.lazic.specs.declared.outcome.Outcome.TheVariants.{Usage, ReadFault, Over, Faulty, BadRun, Reached, Ended, OutOfTurns, NeedsMore, BadValue, NoMemory}

-- ---- answers that come of files alone

abbrev pub IsPlain : Outcome → Type 0
IsPlain Usage = ⊥
IsPlain ReadFault = ⊥
IsPlain _ = Unit {0}

refused_plain : (source : List ℕ) (f : SourceFail) → IsPlain (refused source f)
refused_plain source (fail.Fault fault at) = tt
refused_plain source (fail.Over number count) = tt
refused_plain source fail.Memory = tt

said_plain : (source : List ℕ) (turns : ℕ) (values : List ℤ) (e : run.End) → IsPlain (said_of source turns values e)
said_plain source turns values (run.Error kind at drawn) = tt
said_plain source turns values run.Ended = tt
said_plain source turns values run.NoInput = tt
said_plain source turns values (run.BadInput i) = tt
said_plain source turns values (run.Spent at store n) = tt

values_plain : (model : Model) (turns : ℕ) (source : List ℕ) (tree : Items) (r : Result (List ℤ) StoredFail) → IsPlain (values_outcome model turns source tree r)
values_plain model turns source tree (Err (stored.Format at)) = tt
values_plain model turns source tree (Err (stored.Over number count)) = tt
values_plain model turns source tree (Err stored.Memory) = tt
values_plain model turns source tree (Ok values) = said_plain source turns values (program.run turns tree model values)

caused_by : (rose told : Type 0) (right answer : Outcome) → IsPlain answer → (told → right ≡ answer) → IsCaused rose told right answer
caused_by rose told right ReadFault plain is = absurd plain
caused_by rose told right NoMemory plain is = tt
caused_by rose told right Usage plain is = absurd plain
caused_by rose told right (BadRun at) plain is = is
caused_by rose told right Ended plain is = is
caused_by rose told right NeedsMore plain is = is
caused_by rose told right (Faulty fault place) plain is = is
caused_by rose told right (Over number count) plain is = is
caused_by rose told right (BadValue i) plain is = is
caused_by rose told right (OutOfTurns turns) plain is = is
caused_by rose told right (Reached kind place values) plain is = is

-- ---- runs

pub told_is_said : (source : List ℕ) (turns : ℕ) (values : List ℤ) (e : run.End) → told_of source turns values (ending_of e) ≡ said_of source turns values e
told_is_said source turns values (run.Error kind at drawn) = refl
told_is_said source turns values run.Ended = refl
told_is_said source turns values run.NoInput = refl
told_is_said source turns values (run.BadInput i) = refl
told_is_said source turns values (run.Spent at store n) = refl

-- what is read of a run file, or want of memory
pub values_run : (p : Program) (turns : ℕ) (source file : List ℕ) (values : List ℤ) (answer : Outcome) → read_run_of file ≡ Ok values → IsRunOn p turns source values answer → IsRunOf p turns source file answer
values_run p turns source file values answer read is tree model runs = by_answer (is tree model runs)
  where
    by_answer : (answer ≡ NoMemory) ⊎ (answer ≡ said_of source turns values (program.run turns tree model values)) → (answer ≡ NoMemory) ⊎ (answer ≡ run_outcome model turns source tree file)
    by_answer (inl e) = inl e
    by_answer (inr e) = inr (e ∙ sym (ap (values_outcome model turns source tree) read))

pub values_refused : (p : Program) (turns : ℕ) (source file : List ℕ) (f : StoredFail) → (f ≡ stored.Memory) ⊎ (read_run_of file ≡ Err f) → IsRunOf p turns source file (run_refused f)
values_refused p turns source file f (inl e) tree model runs = inl (ap run_refused e)
values_refused p turns source file f (inr read) tree model runs = inr (sym (ap (values_outcome model turns source tree) read))

pub run_caused : (rose told : Type 0) (p : Program) (turns : ℕ) (source bytes file : List ℕ) (tree : Items) (model : Model) (answer : Outcome) → RunsAs p tree model → IsRunOf p turns source bytes answer → (told → bytes ≡ file) → IsCaused rose told (run_outcome model turns source tree file) answer
run_caused rose told p turns source bytes file tree model answer runs is told_bytes = by_answer (is tree model runs)
  where
    by_answer : (answer ≡ NoMemory) ⊎ (answer ≡ run_outcome model turns source tree bytes) → IsCaused rose told (run_outcome model turns source tree file) answer
    by_answer (inl e) = subst (IsCaused rose told (run_outcome model turns source tree file)) (sym e) tt
    by_answer (inr e) = caused_by rose told _ answer (subst IsPlain (sym e) (values_plain model turns source tree (read_run_of bytes))) (λ t. sym (ap (run_outcome model turns source tree) (told_bytes t)) ∙ sym e)

pub long_run : (file : List ℕ) → 22000006 < length file → (model : Model) (turns : ℕ) (source : List ℕ) (tree : Items) → run_outcome model turns source tree file ≡ Over 9 22000007
long_run file long model turns source tree =
    let test : nat_lt 22000006 (length file) ≡ true = grind (arith, nat_tests) in
    ap (λ (b : Bool). values_outcome model turns source tree (if b then Err (stored.Over 9 22000007) else read_behind (head_fault head_line 0 file) file)) test

-- ---- sources

pub refusal_caused : (rose told : Type 0) (model : Model) (turns : ℕ) (source file : List ℕ) (f : SourceFail) → (f ≡ fail.Memory) ⊎ (source_read model source ≡ Err f) → IsCaused rose told (tree_outcome model turns source (source_read model source) file) (refused source f)
refusal_caused rose told model turns source file f (inl e) = subst (λ (x : SourceFail). IsCaused rose told (tree_outcome model turns source (source_read model source) file) (refused source x)) (sym e) tt
refusal_caused rose told model turns source file f (inr e) = caused_by rose told _ (refused source f) (refused_plain source f) (λ t. ap (λ (r : Result Items SourceFail). tree_outcome model turns source r file) e)

pub read_caused : (rose told : Type 0) (model : Model) (turns : ℕ) (source file : List ℕ) (tree : Items) (answer : Outcome) → source_read model source ≡ Ok tree → IsCaused rose told (run_outcome model turns source tree file) answer → IsCaused rose told (tree_outcome model turns source (source_read model source) file) answer
read_caused rose told model turns source file tree answer read caused = subst (λ (r : Result Items SourceFail). IsCaused rose told (tree_outcome model turns source r file) answer) (sym read) caused

-- ---- what is told of a cause

pub caused_is_right : (rose told : Type 0) (right answer : Outcome) → IsCaused rose told right answer → told → ((answer ≡ ReadFault) × rose) ⊎ ((answer ≡ NoMemory) ⊎ (right ≡ answer))
caused_is_right rose told right ReadFault caused t = inl (refl, caused)
caused_is_right rose told right NoMemory caused t = inr (inl refl)
caused_is_right rose told right Usage caused t = inr (inr caused)
caused_is_right rose told right (BadRun at) caused t = inr (inr (caused t))
caused_is_right rose told right Ended caused t = inr (inr (caused t))
caused_is_right rose told right NeedsMore caused t = inr (inr (caused t))
caused_is_right rose told right (Faulty fault place) caused t = inr (inr (caused t))
caused_is_right rose told right (Over number count) caused t = inr (inr (caused t))
caused_is_right rose told right (BadValue i) caused t = inr (inr (caused t))
caused_is_right rose told right (OutOfTurns turns) caused t = inr (inr (caused t))
caused_is_right rose told right (Reached kind place values) caused t = inr (inr (caused t))
