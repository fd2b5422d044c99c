-- Values that are kept of a replay lead the source to the error that is told.
use Rattle.std.proofs.Common.{inl, inr, ◌⊎◌, ◌≡◌, ℕ, zero, suc, ◌<◌, List, [], ◌∷◌, length, take, slice_get, refl, sym, ◌∙◌, ap, subst, arith, ℤ}
use Rattle.std.specs.Prelude.{Some}
use Rattle.std.proofs.lemmas.List.{length-take-le}
use Rattle.lv_base.specs.Place.{place_at}
use Rattle.lv_base.specs.declared.kind.Model.{Model}
use Rattle.lv_base.specs.declared.fault.ErrorKind.{ErrorKind}
use Rattle.lv_base.specs.declared.place.Place.{Place}
use Rattle.lv_base.specs.declared.fail.SourceFail.{SourceFail}
use Rattle.lv_base.specs.declared.fail.SourceFail.TheVariants as fail
use Rattle.c_tree.specs.Tree.{Items}
use Rattle.c_tree.specs.declared.symbol.SymbolAt.{SymbolAt}
use Rattle.c_run.specs.Run as run
use Rattle.c_meaning.specs.Laws.{DrawnAreThere}
use Rattle.c_meaning.specs.Program as program
use Rattle.c_meaning.proofs.Runs.{drawn_inputs}
use Rattle.stored_text.specs.declared.StoredFail.{StoredFail}
use Rattle.stored_text.specs.declared.StoredFail.TheVariants as stored
use Rattle.lazic.specs.Words.{Wanted, request_of}
use Rattle.lazic.specs.Running.{said_of}
use Rattle.lazic.specs.Answer.{outcome_of, refused, run_refused, IsCaused}
use Rattle.lazic.specs.Meaning.{HasTree, IsAccepted, IsUnread, IsAnswer, Means}
use Rattle.lazic.specs.Meaning.IsUnread.{stopped, too_high}
use Rattle.lazic.specs.Meaning.IsAnswer.{too_long, no_tokens, no_tree, no_program, no_values, run_ends}
use Rattle.lazic.specs.Meaning.Means.{no_request, request}
use Rattle.lazic.specs.Reaching.{IsReplayed, KeptAreReplayed}
use Rattle.lazic.specs.Outcome.{status_of}
use Rattle.lazic.specs.Report.{kept_of}
use Rattle.lazic.specs.declared.outcome.Outcome.{Outcome}
use Rattle.lazic.specs.declared.outcome.Outcome.TheVariants as outcome
use Rattle.lazic.specs.declared.report.Kept.{Kept}
use Rattle.lazic.specs.declared.report.Kept.TheVariants.{Nothing, Unsafe}
use Rattle.lazic.proofs.CauseLaws.{caused_is_right}
use Rattle.lazic.proofs.MeaningLaws.{computed_is_meant}

-- ---- the values that a run draws on its way to an error lead to that error

first_ones : (xs : List ℤ) (n i : ℕ) → i < n → slice_get (take n xs) i ≡ slice_get xs i
first_ones xs zero i lt = absurd (omega (arith, lt))
first_ones [] (suc n) i lt = refl
first_ones (x ∷ xs) (suc n) zero lt = refl
first_ones (x ∷ xs) (suc n) (suc i) lt = first_ones xs n i (omega (arith, lt))

drawn_reach : DrawnAreThere → (turns : ℕ) (tree : Items) (model : Model) (inputs : List ℤ) (kind : ErrorKind) (at drawn : ℕ) → program.run turns tree model inputs ≡ run.Error kind at drawn → program.Reaches tree model (take drawn inputs) kind at
drawn_reach there turns tree model inputs kind at drawn ends =
    let all : length (take drawn inputs) ≡ drawn = length-take-le drawn inputs (there (program.trapping model) tree model turns inputs kind at drawn ends) in
    record {
      turns = turns;
      ends = drawn_inputs (program.trapping model) tree model turns inputs (take drawn inputs) kind at drawn ends (first_ones inputs drawn) ∙ ap (λ (n : ℕ). run.Error kind at n) (sym all);
    }

-- ---- the answer

module _ (there : DrawnAreThere) (words : List (List ℕ)) (file : List ℕ → List ℕ) (values : List ℤ) (kind : ErrorKind) (place : Place) where
  abbrev Is : Outcome → Type 0
  Is answer = outcome.Reached kind place values ≡ answer

  not_refused : (source : List ℕ) (f : SourceFail) → Is (refused source f) → ⊥
  not_refused source (fail.Fault fault at) is = cc
  not_refused source (fail.Over number count) is = cc
  not_refused source fail.Memory is = cc

  not_run_refused : (f : StoredFail) → Is (run_refused f) → ⊥
  not_run_refused (stored.Format at) is = cc
  not_run_refused (stored.Over number count) is = cc
  not_run_refused stored.Memory is = cc

  not_unread : (source : List ℕ) (tokens : List SymbolAt) → IsUnread source tokens (outcome.Reached kind place values) → ⊥
  not_unread source tokens (stopped token first low is) = cc
  not_unread source tokens (too_high token high read is) = cc

  module _ (wanted : Wanted) (asked : request_of words ≡ Some wanted) (told : outcome_of words file ≡ outcome.Reached kind place values) where
    abbrev source : List ℕ
    source = file wanted.source

    module _ (tree : Items) (has : HasTree source tree) (accepted : IsAccepted tree wanted.model) (inputs : List ℤ) where
      by_error : (k : ErrorKind) (at drawn : ℕ) → program.run wanted.turns tree wanted.model inputs ≡ run.Error k at drawn → Is (outcome.Reached k (place_at source at) (take drawn inputs)) → IsReplayed words file values
      by_error k at drawn ends is =
          let all : values ≡ take drawn inputs = cc in
          record {
            wanted = wanted;
            asked = asked;
            tree = tree;
            has = has;
            accepted = accepted;
            kind = k;
            at = at;
            told = computed_is_meant words file (outcome.Reached k (place_at source at) values) (told ∙ is ∙ ap (λ (vs : List ℤ). outcome.Reached k (place_at source at) vs) (sym all));
            reaches = subst (λ (vs : List ℤ). program.Reaches tree wanted.model vs k at) (sym all) (drawn_reach there wanted.turns tree wanted.model inputs k at drawn ends);
          }

      by_end : (e : run.End) → program.run wanted.turns tree wanted.model inputs ≡ e → Is (said_of source wanted.turns inputs e) → IsReplayed words file values
      by_end (run.Error k at drawn) ends is = by_error k at drawn ends is
      by_end run.Ended ends is = absurd (cc)
      by_end run.NoInput ends is = absurd (cc)
      by_end (run.BadInput i) ends is = absurd (cc)
      by_end (run.Spent at store n) ends is = absurd (cc)

    by_answer : IsAnswer wanted.model wanted.turns source (file wanted.run) (outcome.Reached kind place values) → IsReplayed words file values
    by_answer (too_long long is) = absurd (cc)
    by_answer (no_tokens f short lexes is) = absurd (not_refused source f is)
    by_answer (no_tree tokens has unread) = absurd (not_unread source _ unread)
    by_answer (no_program tree f has refuses is) = absurd (not_refused source f is)
    by_answer (no_values tree f has accepted read is) = absurd (not_run_refused f is)
    by_answer (run_ends tree inputs has accepted text few is) = by_end tree has accepted inputs (program.run wanted.turns tree wanted.model inputs) refl is

  by_meaning : outcome_of words file ≡ outcome.Reached kind place values → Means words file (outcome.Reached kind place values) → IsReplayed words file values
  by_meaning told (no_request none is) = absurd (cc)
  by_meaning told (request wanted asked is) = by_answer wanted asked told is

-- ---- the report

kept_reached : (answer : Outcome) (values : List ℤ) → kept_of answer ≡ Unsafe values → (kind : ErrorKind) × (place : Place) × (answer ≡ outcome.Reached kind place values)
kept_reached (outcome.Reached kind place given) values e = let same : given ≡ values = cc in (kind, place, ap (λ (vs : List ℤ). outcome.Reached kind place vs) same)
kept_reached (outcome.Over number count) values e = absurd (cc)
kept_reached outcome.Usage values e = absurd (cc)
kept_reached outcome.ReadFault values e = absurd (cc)
kept_reached (outcome.Faulty fault place) values e = absurd (cc)
kept_reached (outcome.BadRun at) values e = absurd (cc)
kept_reached (outcome.OutOfTurns turns) values e = absurd (cc)
kept_reached outcome.Ended values e = absurd (cc)
kept_reached outcome.NeedsMore values e = absurd (cc)
kept_reached (outcome.BadValue i) values e = absurd (cc)
kept_reached outcome.NoMemory values e = absurd (cc)

pub nothing_is_replayed : (words : List (List ℕ)) (file : List ℕ → List ℕ) (kept : Kept) → kept ≡ Nothing → KeptAreReplayed words file kept
nothing_is_replayed words file kept nothing values e = absurd (let both : Nothing ≡ Unsafe values = sym nothing ∙ e in cc)

pub kept_are_replayed : DrawnAreThere → (rose told : Type 0) (words : List (List ℕ)) (file : List ℕ → List ℕ) (answer : Outcome) (status : ℕ) (kept : Kept)
    → IsCaused rose told (outcome_of words file) answer → told → (status ≡ 14) ⊎ ((status ≡ 15) ⊎ ((status ≡ status_of answer) × (kept ≡ kept_of answer)))
    → ((status ≡ 14) ⊎ (status ≡ 15) → kept ≡ Nothing) → KeptAreReplayed words file kept
kept_are_replayed there rose told words file answer status kept caused t (inl is) nothing = nothing_is_replayed words file kept (nothing (inl is))
kept_are_replayed there rose told words file answer status kept caused t (inr (inl is)) nothing = nothing_is_replayed words file kept (nothing (inr is))
kept_are_replayed there rose told words file answer status kept caused t (inr (inr both)) nothing = by_cause (caused_is_right rose told (outcome_of words file) answer caused t)
  where
    by_values : outcome_of words file ≡ answer → KeptAreReplayed words file kept
    by_values is values e =
        let r = kept_reached answer values (sym both.1 ∙ e) in
        let reached : outcome_of words file ≡ outcome.Reached r.0 r.1 values = is ∙ r.2 in
        by_meaning there words file values r.0 r.1 reached (computed_is_meant words file (outcome.Reached r.0 r.1 values) reached)

    by_cause : ((answer ≡ outcome.ReadFault) × rose) ⊎ ((answer ≡ outcome.NoMemory) ⊎ (outcome_of words file ≡ answer)) → KeptAreReplayed words file kept
    by_cause (inl e) = nothing_is_replayed words file kept (both.1 ∙ ap kept_of e.0)
    by_cause (inr (inl e)) = nothing_is_replayed words file kept (both.1 ∙ ap kept_of e)
    by_cause (inr (inr e)) = by_values e
