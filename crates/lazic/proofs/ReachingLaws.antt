-- A run that reaches an error is told.
use Rattle.std.proofs.Common.{inl, inr, ◌⊎◌, ◌≡◌, ℕ, ◌<◌, ◌≤◌, List, length, refl, sym, ◌∙◌, ap, subst, arith, ℤ}
use Rattle.std.specs.Prelude.{Option, Some, Result, Ok, Err}
use Rattle.std.proofs.lemmas.Bool.{cases_lt}
use Rattle.std.proofs.lemmas.List.{take_all}
use Rattle.lv_base.specs.Place.{place_at}
use Rattle.lv_base.specs.declared.kind.Model.{Model}
use Rattle.lv_base.specs.declared.fault.ErrorKind.{ErrorKind}
use Rattle.lv_base.specs.declared.fail.SourceFail.{SourceFail}
use Rattle.lv_base.specs.declared.fail.SourceFail.TheVariants as fail
use Rattle.c_lexer.specs.Lexed.{lexed}
use Rattle.c_lexer.specs.declared.token.Token.{Token}
use Rattle.c_tokens.specs.Divisions.{Fits, MoreTokens}
use Rattle.c_tokens.proofs.Whole.{is_lexed_of, one_list, not_both}
use Rattle.c_tree.specs.Symbols.{signs_of}
use Rattle.c_tree.specs.Tree.{Items}
use Rattle.c_tree.specs.Height.{height_items}
use Rattle.c_tree.specs.Denotes.{IsSpelled}
use Rattle.parse_machine.specs.Machine as ma
use Rattle.parse_laws.proofs.CompleteFile.{complete}
use Rattle.high_tree_laws.proofs.HighFile.{too_high}
use Rattle.c_run.specs.Run as run
use Rattle.c_meaning.specs.Laws.{IsSpent}
use Rattle.c_meaning.specs.Program as program
use Rattle.c_meaning.proofs.Runs.{more_turns}
use Rattle.source_checks.specs.Refusals.{source_refusal}
use Rattle.stored_text.proofs.Whole.{run_text_read}
use Rattle.lazic.specs.Words.{Wanted}
use Rattle.lazic.specs.Running.{said_of}
use Rattle.lazic.specs.Answer.{source_outcome, wanted_outcome, outcome_of, IsCaused}
use Rattle.lazic.specs.Meaning.{HasTree, IsTreeOf}
use Rattle.lazic.specs.Reaching.{IsReaching, IsSourceLimit, IsReachTold, ReachesAreTold}
use Rattle.lazic.specs.Reaching.IsReachTold.{reached, out_of_turns, limited, read_failed, put_failed, no_memory}
use Rattle.lazic.specs.declared.outcome.Outcome.{Outcome}
use Rattle.lazic.specs.declared.outcome.Outcome.TheVariants.{ReadFault, Over, Reached, OutOfTurns, NoMemory}
use Rattle.lazic.specs.declared.report.Kept.{Kept}
use Rattle.lazic.specs.Outcome.{status_of}
use Rattle.lazic.specs.Report.{kept_of}
use Rattle.lazic.proofs.AcceptedLaws.{IsOverOrNone, over_or_none}
use Rattle.lazic.proofs.CauseLaws.{caused_is_right}
use Rattle.lazic.proofs.MeaningLaws.{computed_is_meant, tree_is, long_source, lexed_source, parsed_source, tree_source, values_source}

-- ---- runs with other turns

spent_error : (kind : ErrorKind) (at drawn : ℕ) (e : run.End) → e ≡ run.Error kind at drawn → IsSpent e → ⊥
spent_error kind at drawn e is spent = subst IsSpent is spent

-- with any number of turns the run reaches the same error, or is out of turns
same_error : (turns more : ℕ) (tree : Items) (model : Model) (values : List ℤ) (kind : ErrorKind) (at drawn : ℕ) → program.run more tree model values ≡ run.Error kind at drawn → IsSpent (program.run turns tree model values) ⊎ (program.run turns tree model values ≡ run.Error kind at drawn)
same_error turns more tree model values kind at drawn ends = by_order (cases_lt more turns)
  where
    by_more : IsSpent (program.run turns tree model values) ⊎ (program.run turns tree model values ≡ program.run more tree model values) → IsSpent (program.run turns tree model values) ⊎ (program.run turns tree model values ≡ run.Error kind at drawn)
    by_more (inl spent) = inl spent
    by_more (inr e) = inr (e ∙ ends)

    by_fewer : IsSpent (program.run more tree model values) ⊎ (program.run more tree model values ≡ program.run turns tree model values) → IsSpent (program.run turns tree model values) ⊎ (program.run turns tree model values ≡ run.Error kind at drawn)
    by_fewer (inl spent) = absurd (spent_error kind at drawn (program.run more tree model values) ends spent)
    by_fewer (inr e) = inr (sym e ∙ ends)

    by_order : (more < turns) ⊎ (turns ≤ more) → IsSpent (program.run turns tree model values) ⊎ (program.run turns tree model values ≡ run.Error kind at drawn)
    by_order (inl less) = by_fewer (more_turns (program.trapping model) tree model values more turns (omega arith))
    by_order (inr no_less) = by_more (more_turns (program.trapping model) tree model values turns more no_less)

-- ---- the source

-- the tree of tokens that spell it, where it is low
low_tree : (tokens : List Token) (tree : Items) → IsSpelled (signs_of tokens) tree → height_items tree ≤ 200 → IsTreeOf (signs_of tokens) tree
low_tree tokens tree spelled low =
    tree_is (signs_of tokens) tree (sym (ap ma.parse_of spelled.spelled) ∙ complete tree spelled.shaped low spelled.end) spelled

high_tree : (tokens : List Token) (tree : Items) → IsSpelled (signs_of tokens) tree → 200 < height_items tree → ma.parse_of (signs_of tokens) ≡ ma.TooHigh
high_tree tokens tree spelled high = sym (ap ma.parse_of spelled.spelled) ∙ too_high tree spelled.shaped high spelled.end

-- what the answer may be
abbrev pub IsReachAnswer : Wanted → List ℕ → Items → List ℤ → ErrorKind → ℕ → Outcome → Type 0
IsReachAnswer wanted source tree values kind at answer =
    (answer ≡ Reached kind (place_at source at) values)
    ⊎ (((answer ≡ OutOfTurns wanted.turns) × IsSpent (program.run wanted.turns tree wanted.model values))
    ⊎ ((number : ℕ) × (count : ℕ) × (answer ≡ Over number count) × IsSourceLimit number))

spent_said : (source : List ℕ) (turns : ℕ) (values : List ℤ) (e : run.End) → IsSpent e → said_of source turns values e ≡ OutOfTurns turns
spent_said source turns values (run.Spent at store n) spent = refl
spent_said source turns values (run.Error kind at drawn) spent = absurd spent
spent_said source turns values run.Ended spent = absurd spent
spent_said source turns values run.NoInput spent = absurd spent
spent_said source turns values (run.BadInput i) spent = absurd spent

error_said : (source : List ℕ) (turns : ℕ) (values : List ℤ) (kind : ErrorKind) (at : ℕ) (e : run.End) → e ≡ run.Error kind at (length values) → said_of source turns values e ≡ Reached kind (place_at source at) values
error_said source turns values kind at e is =
    ap (said_of source turns values) is ∙ ap (λ (vs : List ℤ). Reached kind (place_at source at) vs) (take_all (length values) values (omega arith))

module _ (words : List (List ℕ)) (file : List ℕ → List ℕ) (wanted : Wanted) (tree : Items) (values : List ℤ) (kind : ErrorKind) (at : ℕ) (asks : IsReaching words file wanted tree values kind at) where
  abbrev source : List ℕ
  source = file wanted.source

  abbrev right : Outcome
  right = source_outcome wanted.model wanted.turns source (file wanted.run)

  abbrev Answers : Outcome → Type 0
  Answers answer = IsReachAnswer wanted source tree values kind at answer

  by_run : right ≡ said_of source wanted.turns values (program.run wanted.turns tree wanted.model values) → IsSpent (program.run wanted.turns tree wanted.model values) ⊎ (program.run wanted.turns tree wanted.model values ≡ run.Error kind at (length values)) → Answers right
  by_run is (inl spent) = inr (inl (is ∙ spent_said source wanted.turns values (program.run wanted.turns tree wanted.model values) spent, spent))
  by_run is (inr e) = inl (is ∙ error_said source wanted.turns values kind at (program.run wanted.turns tree wanted.model values) e)

  by_refusal : HasTree source tree → IsOverOrNone (source_refusal tree wanted.model) → Answers right
  by_refusal has (inl none) =
      by_run (values_source wanted.model wanted.turns source (file wanted.run) tree (Ok values) has none ((run_text_read (file wanted.run) values).1 (asks.text, asks.few)))
      (same_error wanted.turns asks.reaches.turns tree wanted.model values kind at (length values) asks.reaches.ends)
  by_refusal has (inr over) = inr (inr (4, over.0, tree_source wanted.model wanted.turns source (file wanted.run) tree (Some (fail.Over 4 over.0)) has over.1, inr (inr (inr refl))))

  by_height : Fits source (Ok asks.tokens) → (200 < height_items tree) ⊎ (height_items tree ≤ 200) → Answers right
  by_height has (inl high) = inr (inr (3, 201, parsed_source wanted.model wanted.turns source (file wanted.run) asks.tokens ma.TooHigh has (high_tree asks.tokens tree asks.spelled high), inr (inr (inl refl))))
  by_height has (inr low) = by_refusal (record { tokens = asks.tokens; has = has; tree_of = low_tree asks.tokens tree asks.spelled low }) (over_or_none tree wanted.model asks.good)

  by_tokens : (list : List Token) → Fits source (Ok list) → Answers right
  by_tokens list fits =
      let same : list ≡ asks.tokens = one_list source list asks.tokens fits.1 asks.divided in
      let has : Fits source (Ok asks.tokens) = subst (λ (l : List Token). Fits source (Ok l)) same fits in
      by_height has (cases_lt 200 (height_items tree))

  by_limit : (number count : ℕ) → ((1048576 < length source) × (number ≡ 1) × (count ≡ length source)) ⊎ ((length source ≤ 1048576) × MoreTokens source 200000 × (number ≡ 2) × (count ≡ 200001)) → Answers right
  by_limit number count (inl long) = inr (inr (1, 1048577, long_source wanted.model wanted.turns source (file wanted.run) long.0, inl refl))
  by_limit number count (inr more) = inr (inr (number, count, lexed_source wanted.model wanted.turns source (file wanted.run) (Err (fail.Over number count)) more.0 (inr more), inr (inl more.2)))

  by_lexed : (r : Result (List Token) SourceFail) → Fits source r → Answers right
  by_lexed (Ok list) fits = by_tokens list fits
  by_lexed (Err (fail.Fault fault from)) fits = absurd (not_both source asks.tokens fault from fits.1.0 asks.divided fits.1.1)
  by_lexed (Err (fail.Over number count)) fits = by_limit number count fits
  by_lexed (Err fail.Memory) fits = absurd fits

  pub reach_outcome : Answers (outcome_of words file)
  reach_outcome =
      let is : outcome_of words file ≡ right = ap (λ (o : Option Wanted). wanted_outcome o file) asks.asked in
      subst Answers (sym is) (by_lexed (lexed source) ((is_lexed_of source (lexed source)).0 refl))

-- ---- the report

pub reaches_told : (read_rose told put_rose : Type 0) (words : List (List ℕ)) (file : List ℕ → List ℕ) (answer : Outcome) (status : ℕ) (kept : Kept) → IsCaused read_rose told (outcome_of words file) answer → told → (status ≡ 14) ⊎ ((status ≡ 15) ⊎ ((status ≡ status_of answer) × (kept ≡ kept_of answer))) → (status ≡ 14 → put_rose) → ReachesAreTold words file read_rose put_rose status kept
reaches_told read_rose told put_rose words file answer status kept caused t has put wanted tree values kind at asks = by_status has
  where
    by_answer : status ≡ status_of answer → kept ≡ kept_of answer → outcome_of words file ≡ answer → IsReachAnswer wanted (file wanted.source) tree values kind at (outcome_of words file) → IsReachTold words file read_rose put_rose status kept wanted tree values kind at
    by_answer s k e (inl is) = reached (s ∙ ap status_of (sym e ∙ is)) (k ∙ ap kept_of (sym e ∙ is)) (computed_is_meant words file (Reached kind (place_at (file wanted.source) at) values) is)
    by_answer s k e (inr (inl is)) = out_of_turns (s ∙ ap status_of (sym e ∙ is.0)) (k ∙ ap kept_of (sym e ∙ is.0)) (computed_is_meant words file (OutOfTurns wanted.turns) is.0) is.1
    by_answer s k e (inr (inr is)) = limited is.0 is.1 (s ∙ ap status_of (sym e ∙ is.2)) (k ∙ ap kept_of (sym e ∙ is.2)) is.3

    by_cause : status ≡ status_of answer → kept ≡ kept_of answer → ((answer ≡ ReadFault) × read_rose) ⊎ ((answer ≡ NoMemory) ⊎ (outcome_of words file ≡ answer)) → IsReachTold words file read_rose put_rose status kept wanted tree values kind at
    by_cause s k (inl e) = read_failed (s ∙ ap status_of e.0) e.1
    by_cause s k (inr (inl e)) = no_memory (s ∙ ap status_of e)
    by_cause s k (inr (inr e)) = by_answer s k e (reach_outcome words file wanted tree values kind at asks)

    by_status : (status ≡ 14) ⊎ ((status ≡ 15) ⊎ ((status ≡ status_of answer) × (kept ≡ kept_of answer))) → IsReachTold words file read_rose put_rose status kept wanted tree values kind at
    by_status (inl is) = put_failed is (put is)
    by_status (inr (inl is)) = no_memory is
    by_status (inr (inr both)) = by_cause both.0 both.1 (caused_is_right read_rose told (outcome_of words file) answer caused t)
