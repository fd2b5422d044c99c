-- What the layers below answer of a source is what is read of it.
use Rattle.std.proofs.Common.{inl, inr, ◌⊎◌, ◌≡◌, ℕ, List, [], ◌∷◌, refl, sym, ◌∙◌, ap, subst}
use Rattle.std.specs.Prelude.{Option, Some, None, Result, Ok, Err, IfOk, IfErr, MatchResult}
use Rattle.lv_base.specs.declared.kind.Model.{Model}
use Rattle.lv_base.specs.declared.fail.SourceFail.{SourceFail}
use Rattle.lv_base.specs.declared.fail.SourceFail.TheVariants as source
use Rattle.lv_base.specs.declared.fault.SourceFault.TheVariants as fault
use Rattle.c_lexer.specs.Lexed.{lexed}
use Rattle.c_lexer.specs.declared.token.Token.{Token}
use Rattle.c_tokens.specs.Divisions.{Fits}
use Rattle.c_tokens.proofs.Whole.{is_lexed_of}
use Rattle.c_tree.specs.declared.tree.Unit.{Unit as Tree}
use Rattle.c_tree.specs.Denotes.{tree_of}
use Rattle.c_tree.specs.Symbols.{signs_of}
use Rattle.c_tree.specs.Tree.{Items}
use Rattle.c_parser.specs.StateView.{Answers}
use Rattle.parse_machine.specs.Machine as ma
use Rattle.parse_laws.proofs.CompleteFile.{complete}
use Rattle.parse_laws.proofs.SoundRun.{sound}
use Rattle.high_tree_laws.proofs.HighFile.{the_only}
use Rattle.c_run.specs.Breaking.{Broken}
use Rattle.c_meaning.specs.Good.{Good, or_control}
use Rattle.c_types.specs.Elaborated.{elaborated}
use Rattle.c_types.specs.Laws.{SourceFits}
use Rattle.elaboration_fit_laws.specs.Whole.{SourcesFit}
use Rattle.elaboration_laws.specs.Read.{IsRead}
use Rattle.elaboration_offset_laws.specs.Laws.{IsRight, SourcesHold}
use Rattle.c_rules.specs.Parts.{Parts}
use Rattle.c_typed.specs.Parts as typed
use Rattle.source_checks.specs.Refusals.{source_refusal}
use Rattle.source_reading.specs.Reading.{parsed_of, tokens_read, tree_read, unless, checked, source_read, RunsAs, IsSourceTree, IsReplay}

-- a refusal, if it isn't want of memory, is what is read
abbrev pub IsFail : {A : Type 0} → Result A SourceFail → SourceFail → Type 0
IsFail read fail = (fail ≡ source.Memory) ⊎ (read ≡ Err fail)

pub fails_read : (bytes : List ℕ) (fail : SourceFail) → (fail ≡ source.Memory) ⊎ Fits bytes (Err fail) → IsFail (tree_read bytes) fail
fails_read bytes fail (inl e) = inl e
fails_read bytes fail (inr fits) = inr (ap tokens_read ((is_lexed_of bytes (Err fail)).1 fits))

-- ---- trees

same_limit : (n count : ℕ) → n ≡ 3 → count ≡ 201 → source.Over 3 201 ≡ source.Over n count
same_limit n count e f = cc

parser_read : (bytes : List ℕ) (m : ma.Result) (r : Result Tree SourceFail) → tree_read bytes ≡ parsed_of m → Answers r m → MatchResult r (λ unit. tree_read bytes ≡ Ok (tree_of unit)) (λ fail. IsFail (tree_read bytes) fail)
parser_read bytes m (Ok unit) is h = is ∙ ap parsed_of h
parser_read bytes m (Err (source.Fault fault.Syntax at)) is h = inr (is ∙ ap parsed_of h)
parser_read bytes m (Err (source.Fault fault.Unsupported at)) is h = inr (is ∙ ap parsed_of h)
parser_read bytes m (Err (source.Fault _ at)) is h = absurd h
parser_read bytes m (Err (source.Over n count)) is h = inr (is ∙ ap parsed_of h.0 ∙ ap (λ (f : SourceFail). Err f) (same_limit n count h.1 h.2))
parser_read bytes m (Err source.Memory) is h = inl refl

pub answers_read : (bytes : List ℕ) (tokens : List Token) (r : Result Tree SourceFail) → Fits bytes (Ok tokens) → Answers r (ma.parse_of (signs_of tokens)) → MatchResult r (λ unit. tree_read bytes ≡ Ok (tree_of unit)) (λ fail. IsFail (tree_read bytes) fail)
answers_read bytes tokens r fits h = parser_read bytes (ma.parse_of (signs_of tokens)) r (ap tokens_read ((is_lexed_of bytes (Ok tokens)).1 fits)) h

-- ---- what is read is told in words of the grammar

checked_free : (model : Model) (read tree : Items) → checked model (Ok read) ≡ Ok tree → (read ≡ tree) × (source_refusal tree model ≡ None)
checked_free model read tree is = by_refusal (source_refusal read model) refl is
  where
    by_refusal : (o : Option SourceFail) → source_refusal read model ≡ o → unless o read ≡ Ok tree → (read ≡ tree) × (source_refusal tree model ≡ None)
    by_refusal None free e = let same : read ≡ tree = cc in (same, subst (λ (t : Items). source_refusal t model ≡ None) same free)
    by_refusal (Some f) refused e = absurd (cc)

pub source_tree_of : (model : Model) (bytes : List ℕ) (tree : Items) → source_read model bytes ≡ Ok tree → IsSourceTree model bytes tree
source_tree_of model bytes tree read = by_tokens (lexed bytes) refl read
  where
    by_parsed : (tokens : List Token) → Fits bytes (Ok tokens) → (r : ma.Result) → ma.parse_of (signs_of tokens) ≡ r → checked model (parsed_of r) ≡ Ok tree → IsSourceTree model bytes tree
    by_parsed tokens has (ma.Tree found) is e =
        let free = checked_free model found tree e in
        let same : ma.parse_of (signs_of tokens) ≡ ma.Tree tree = is ∙ ap (λ (t : Items). ma.Tree t) free.0 in
        record { tokens = tokens; has = has; spelled = sound (signs_of tokens) tree same; low = (the_only (signs_of tokens) tree same).0; free = free.1 }
    by_parsed tokens has (ma.Syntax at) is e = absurd (cc)
    by_parsed tokens has (ma.Unsupported at) is e = absurd (cc)
    by_parsed tokens has ma.TooHigh is e = absurd (cc)

    by_tokens : (r : Result (List Token) SourceFail) → lexed bytes ≡ r → checked model (tokens_read r) ≡ Ok tree → IsSourceTree model bytes tree
    by_tokens (Err f) is e = absurd (cc)
    by_tokens (Ok tokens) is e = by_parsed tokens ((is_lexed_of bytes (Ok tokens)).0 is) (ma.parse_of (signs_of tokens)) refl e

pub read_of : (model : Model) (bytes : List ℕ) (tree : Items) → IsSourceTree model bytes tree → source_read model bytes ≡ Ok tree
read_of model bytes tree s =
    let parsed : ma.parse_of (signs_of s.tokens) ≡ ma.Tree tree = sym (ap ma.parse_of s.spelled.spelled) ∙ complete tree s.spelled.shaped s.low s.spelled.end in
    ap (λ (r : Result (List Token) SourceFail). checked model (tokens_read r)) ((is_lexed_of bytes (Ok s.tokens)).1 s.has) ∙ ap (λ (r : ma.Result). checked model (parsed_of r)) parsed ∙ ap (λ o. unless o tree) s.free

-- ---- sources

typing_right : (typing control : List Broken) → or_control typing control ≡ [] → typing ≡ []
typing_right [] control h = refl
typing_right (b ∷ bs) control h = cc

-- what breaks no rule fits
pub good_fits : (tree : Items) (model : Model) → SourcesHold → SourcesFit → IsRead tree model → Good tree model → SourceFits tree model
good_fits tree model hold fit read good =
    let right : IsRight tree model = typing_right _ _ good in
    (fit tree model (hold read.tokens tree model read.spelled read.rises right) right).0

pub accepted_read :
    (model : Model) (bytes : List ℕ) (tree : Items) (r : Result Parts SourceFail) → tree_read bytes ≡ Ok tree → IfOk r (λ _. source_refusal tree model ≡ None)
    → IfOk r (λ e. typed.tree_of e.typed ≡ elaborated tree model) → IfOk r (λ _. Good tree model) → (Good tree model → SourceFits tree model)
    → IfOk r (λ e. RunsAs (typed.tree_of e.typed) tree model) → IfErr r (λ fail. (fail ≡ source.Memory) ⊎ (source_refusal tree model ≡ Some fail))
    → MatchResult r (λ e. IsReplay model bytes (typed.tree_of e.typed)) (λ fail. IsFail (source_read model bytes) fail)
accepted_read model bytes tree (Ok e) is free made good fits runs refused =
    record { tree = tree; read = source_tree_of model bytes tree (ap (checked model) is ∙ ap (λ o. unless o tree) free); made = made; fits = fits good; runs = runs }
accepted_read model bytes tree (Err fail) is free made good fits runs (inl e) = inl e
accepted_read model bytes tree (Err fail) is free made good fits runs (inr e) = inr (ap (checked model) is ∙ ap (λ o. unless o tree) e)
