-- The answer that the program computes is the one that is meant.
use Rattle.std.proofs.Common.{inl, inr, ◌⊎◌, ◌≡◌, ℕ, ◌<◌, ◌≤◌, List, [], ◌∷◌, ◌++◌, length, refl, sym, ◌∙◌, ap, subst, arith, Bool, true, false, ℤ}
use Rattle.std.specs.Prelude.{Option, Some, None, Result, Ok, Err, nat_lt, if◌then◌else◌}
use Rattle.std.proofs.lemmas.Bool.Decides.{nat_tests}
use Rattle.std.proofs.lemmas.List.{append-nil}
use Rattle.lv_base.specs.Place.{place_at}
use Rattle.lv_base.specs.declared.kind.Model.{Model}
use Rattle.lv_base.specs.declared.fail.SourceFail.{SourceFail}
use Rattle.lv_base.specs.declared.fault.SourceFault.TheVariants.{Syntax, Unsupported}
use Rattle.c_lexer.specs.Lexed.{lexed}
use Rattle.c_lexer.specs.declared.token.Token.{Token}
use Rattle.c_tokens.proofs.Whole.{is_lexed_of}
use Rattle.c_tokens.specs.Divisions.{Fits, tokens_in, end_token}
use Rattle.c_tree.specs.declared.symbol.SymbolAt.{SymbolAt}
use Rattle.c_tree.specs.Symbols.{sign_of, signs_of}
use Rattle.c_tree.specs.Tree.{Items}
use Rattle.parse_machine.specs.Tokens.{is_unsupported}
use Rattle.parse_machine.specs.Machine as ma
use Rattle.c_tree.specs.Denotes.{IsSpelled, Begins, BeginsWithin}
use Rattle.parse_laws.proofs.CompleteFile.{complete}
use Rattle.high_tree_laws.proofs.HighFile.{the_only}
use Rattle.first_token_laws.specs.Laws.{IsTooHighAt}
use Rattle.low_beginning_laws.specs.Laws.{IsFirstStop}
use Rattle.low_beginning_laws.proofs.Low.{high_not_low, low_up_to, one_stop, refused_not_low, unread}
use Rattle.c_parser.specs.Reading.{IsEnded, IsReading, IsStopped}
use Rattle.c_parser.proofs.ReadingLaws.{reading}
use Rattle.source_checks.specs.Refusals.{source_refusal}
use Rattle.stored_text.specs.declared.StoredFail.{StoredFail}
use Rattle.stored_text.specs.Reading.{read_run_of}
use Rattle.stored_text.proofs.Whole.{run_text_read}
use Rattle.lazic.specs.Words.{Wanted, request_of}
use Rattle.source_reading.specs.Reading.{parsed_of, tokens_read, unless, checked, source_read, IsSourceTree}
use Rattle.lazic.specs.Answer.{values_outcome, tree_outcome, source_outcome, wanted_outcome, outcome_of, IsCaused}
use Rattle.lazic.specs.Meaning.{HasTokens, HasTree, IsTreeOf, IsAccepted, IsUnread, IsAnswer, Means}
use Rattle.lazic.specs.Meaning.IsUnread.{stopped, too_high}
use Rattle.lazic.specs.Meaning.IsAnswer.{too_long, no_tokens, no_tree, no_program, no_values, run_ends}
use Rattle.lazic.specs.Meaning.Means.{no_request, request}
use Rattle.lazic.specs.declared.outcome.Outcome.{Outcome}
use Rattle.lazic.specs.declared.outcome.Outcome.TheVariants.{ReadFault, Over, Faulty, NoMemory}
use Rattle.lazic.specs.declared.report.Kept.{Kept}
use Rattle.lazic.specs.Outcome.{status_of}
use Rattle.lazic.specs.Report.{kept_of, IsFree, MeansReport}
use Rattle.lazic.proofs.AcceptedLaws.{good_of}
use Rattle.lazic.proofs.CauseLaws.{caused_is_right}

-- ---- tokens that are no tree

signs_append : (before behind : List Token) → signs_of (before ++ behind) ≡ signs_of before ++ signs_of behind
signs_append [] behind = refl
signs_append (token ∷ before) behind = ap (λ signs. sign_of token ∷ signs) (signs_append before behind)

ended : (source : List ℕ) (tokens : List Token) → HasTokens source tokens → IsEnded (signs_of tokens)
ended source tokens has =
    let divides = has.1 in
    record { before = signs_of (tokens_in 0 divides.pieces); at = length source; are = sym (ap signs_of divides.listed ∙ signs_append (tokens_in 0 divides.pieces) (end_token source ∷ [])) }

refusal_is : (a b : Bool) (x y : ℕ) → (if a then ma.Unsupported x else ma.Syntax x) ≡ (if b then ma.Unsupported y else ma.Syntax y) → (a ≡ b) × (x ≡ y)
refusal_is true true x y h = (refl, cc)
refusal_is true false x y h = cc
refusal_is false true x y h = cc
refusal_is false false x y h = (refl, cc)

fault_at : (source : List ℕ) (unsupported : Bool) (at : ℕ) (token : SymbolAt) → is_unsupported token.symbol ≡ unsupported → token.at ≡ at
    → Faulty (if unsupported then Unsupported else Syntax) (place_at source at) ≡ Faulty (if is_unsupported token.symbol then Unsupported else Syntax) (place_at source token.at)
fault_at source unsupported at token flag same =
    ap (λ (b : Bool). Faulty (if b then Unsupported else Syntax) (place_at source at)) (sym flag) ∙ ap (λ (n : ℕ). Faulty (if is_unsupported token.symbol then Unsupported else Syntax) (place_at source n)) (sym same)

syntax_unread : (source : List ℕ) (tokens : List SymbolAt) (at : ℕ) → ma.parse_of tokens ≡ ma.Syntax at → IsStopped tokens at false → IsUnread source tokens (Faulty Syntax (place_at source at))
syntax_unread source tokens at read stop =
    let u = unread tokens (ma.Syntax at) read (refused_not_low tokens stop.0 stop.1) in
    let e = refusal_is (is_unsupported u.0.symbol) false u.0.at at u.2.0 in
    stopped u.0 u.1 u.2.1 (fault_at source false at u.0 e.0 e.1)

unsupported_unread : (source : List ℕ) (tokens : List SymbolAt) (at : ℕ) → ma.parse_of tokens ≡ ma.Unsupported at → IsStopped tokens at true → IsUnread source tokens (Faulty Unsupported (place_at source at))
unsupported_unread source tokens at read stop =
    let u = unread tokens (ma.Unsupported at) read (refused_not_low tokens stop.0 stop.1) in
    let e = refusal_is (is_unsupported u.0.symbol) true u.0.at at u.2.0 in
    stopped u.0 u.1 u.2.1 (fault_at source true at u.0 e.0 e.1)

high_unread : (source : List ℕ) (tokens : List SymbolAt) (token : SymbolAt) → ma.parse_of tokens ≡ ma.TooHigh → IsTooHighAt tokens token → IsUnread source tokens (Over 3 201)
high_unread source tokens token read high = let u = unread tokens ma.TooHigh read (high_not_low tokens token high) in too_high u.0 u.1 u.2 refl

-- the tokens up to the place, of which there is one
same_place : (tokens : List SymbolAt) (a b : SymbolAt) (w : IsFirstStop tokens a) (v : IsFirstStop tokens b) → w.before ++ a ∷ [] ≡ v.before ++ b ∷ []
same_place tokens a b w v = let z = one_stop tokens a b w v in ap (λ (before : List SymbolAt). before ++ a ∷ []) z.0 ∙ ap (λ (t : SymbolAt). v.before ++ t ∷ []) z.1

-- one thing alone is told of such tokens
same_unread : (source : List ℕ) (tokens : List SymbolAt) (x y : Outcome) → IsUnread source tokens x → IsUnread source tokens y → x ≡ y
same_unread source tokens x y (stopped a w none is) (stopped b v never also) =
    is ∙ ap (λ (t : SymbolAt). Faulty (if is_unsupported t.symbol then Unsupported else Syntax) (place_at source t.at)) (one_stop tokens a b w v).1 ∙ sym also
same_unread source tokens x y (stopped a w none is) (too_high b v some also) = absurd (none (subst Begins (sym (same_place tokens a b w v)) some))
same_unread source tokens x y (too_high a w some is) (stopped b v none also) = absurd (none (subst Begins (same_place tokens a b w v) some))
same_unread source tokens x y (too_high a w some is) (too_high b v also_some also) = is ∙ sym also

-- ---- tokens that are a tree

pub tree_is : (tokens : List SymbolAt) (tree : Items) → ma.parse_of tokens ≡ ma.Tree tree → IsSpelled tokens tree → IsTreeOf tokens tree
tree_is tokens tree read spelled = let w = the_only tokens tree read in record { spelled = spelled; low = w.0; only = w.1 }

-- ---- a source that is read has a tree, which breaks no rule and passes no limit

pub read_tree : (model : Model) (source : List ℕ) (tree : Items) → IsSourceTree model source tree → HasTree source tree × IsAccepted tree model
read_tree model source tree s =
    let signs = signs_of s.tokens in
    let read : ma.parse_of signs ≡ ma.Tree tree = sym (ap ma.parse_of s.spelled.spelled) ∙ complete tree s.spelled.shaped s.low s.spelled.end in
    (record { tokens = s.tokens; has = s.has; tree_of = tree_is signs tree read s.spelled }, record { good = good_of tree model s.free; free = s.free })

-- the machine answers it
tree_read_of : (tokens : List SymbolAt) (tree : Items) → IsTreeOf tokens tree → ma.parse_of tokens ≡ ma.Tree tree
tree_read_of tokens tree is = sym (ap ma.parse_of is.spelled.spelled) ∙ complete tree is.spelled.shaped is.low is.spelled.end

-- ---- what is computed is meant

module _ (model : Model) (turns : ℕ) (source file : List ℕ) where
  by_values : (tree : Items) → HasTree source tree → IsAccepted tree model → (r : Result (List ℤ) StoredFail) → read_run_of file ≡ r → IsAnswer model turns source file (values_outcome model turns source tree r)
  by_values tree has accepted (Err fail) is = no_values tree fail has accepted is refl
  by_values tree has accepted (Ok values) is =
      let text = (run_text_read file values).0 is in
      run_ends tree values has accepted text.0 text.1 refl

  by_refusal : (tree : Items) → HasTree source tree → (o : Option SourceFail) → source_refusal tree model ≡ o → IsAnswer model turns source file (tree_outcome model turns source (unless o tree) file)
  by_refusal tree has (Some fail) is = no_program tree fail has is refl
  by_refusal tree has None is = by_values tree has (record { good = good_of tree model is; free = is }) (read_run_of file) refl

  by_reading : (tokens : List Token) → HasTokens source tokens → (r : ma.Result) → ma.parse_of (signs_of tokens) ≡ r → IsReading (signs_of tokens) r → IsAnswer model turns source file (tree_outcome model turns source (checked model (parsed_of r)) file)
  by_reading tokens has (ma.Tree tree) is reads =
      by_refusal tree (record { tokens = tokens; has = has; tree_of = tree_is (signs_of tokens) tree is reads.0 }) (source_refusal tree model) refl
  by_reading tokens has (ma.Syntax at) is reads = no_tree tokens has (syntax_unread source (signs_of tokens) at is (reads (ended source tokens has)))
  by_reading tokens has (ma.Unsupported at) is reads = no_tree tokens has (unsupported_unread source (signs_of tokens) at is reads)
  by_reading tokens has ma.TooHigh is reads = no_tree tokens has (high_unread source (signs_of tokens) reads.0 is reads.1)

  by_tokens : length source ≤ 1048576 → (r : Result (List Token) SourceFail) → lexed source ≡ r → IsAnswer model turns source file (tree_outcome model turns source (checked model (tokens_read r)) file)
  by_tokens short (Err fail) is = no_tokens fail short ((is_lexed_of source (Err fail)).0 is) refl
  by_tokens short (Ok tokens) is =
      let parsed = ma.parse_of (signs_of tokens) in
      by_reading tokens ((is_lexed_of source (Ok tokens)).0 is) parsed refl (reading (signs_of tokens) parsed refl)

  pub is_answer : IsAnswer model turns source file (source_outcome model turns source file)
  is_answer = by_test (nat_lt 1048576 (length source)) refl
    where
      by_test : (b : Bool) → b ≡ nat_lt 1048576 (length source) → IsAnswer model turns source file (if b then Over 1 1048577 else tree_outcome model turns source (source_read model source) file)
      by_test true long = too_long (grind (arith, nat_tests)) refl
      by_test false short = by_tokens (grind (arith, nat_tests)) (lexed source) refl

by_wanted : (words : List (List ℕ)) (file : List ℕ → List ℕ) (o : Option Wanted) → request_of words ≡ o → Means words file (wanted_outcome o file)
by_wanted words file None is = no_request is refl
by_wanted words file (Some w) is = request w is (is_answer w.model w.turns (file w.source) (file w.run))

pub computed_is_meant : (words : List (List ℕ)) (file : List ℕ → List ℕ) (answer : Outcome) → outcome_of words file ≡ answer → Means words file answer
computed_is_meant words file answer is = subst (λ (a : Outcome). Means words file a) is (by_wanted words file (request_of words) refl)

-- ---- what is meant is computed

module _ (model : Model) (turns : ℕ) (source file : List ℕ) where
  abbrev read_to : Result Items SourceFail → Outcome
  read_to r = tree_outcome model turns source r file

  pub long_source : 1048576 < length source → source_outcome model turns source file ≡ Over 1 1048577
  long_source long =
      let test : nat_lt 1048576 (length source) ≡ true = grind (arith, nat_tests) in
      ap (λ (b : Bool). if b then Over 1 1048577 else read_to (source_read model source)) test

  short_source : length source ≤ 1048576 → source_outcome model turns source file ≡ read_to (source_read model source)
  short_source short =
      let test : nat_lt 1048576 (length source) ≡ false = grind (arith, nat_tests) in
      ap (λ (b : Bool). if b then Over 1 1048577 else read_to (source_read model source)) test

  pub lexed_source : (r : Result (List Token) SourceFail) → length source ≤ 1048576 → Fits source r → source_outcome model turns source file ≡ read_to (checked model (tokens_read r))
  lexed_source r short fits = short_source short ∙ ap (λ (x : Result (List Token) SourceFail). read_to (checked model (tokens_read x))) ((is_lexed_of source r).1 fits)

  pub parsed_source : (tokens : List Token) (r : ma.Result) → HasTokens source tokens → ma.parse_of (signs_of tokens) ≡ r → source_outcome model turns source file ≡ read_to (checked model (parsed_of r))
  parsed_source tokens r has read = lexed_source (Ok tokens) has.0 has ∙ ap (λ (x : ma.Result). read_to (checked model (parsed_of x))) read

  -- a tree of height at most 200 is no such tokens
  not_unread : (tokens : List SymbolAt) (tree : Items) (answer : Outcome) → IsTreeOf tokens tree → IsUnread source tokens answer → ⊥
  not_unread tokens tree answer is told = by_stop told
    where
      low : BeginsWithin 200 tokens
      low = record { begins = record { tree = tree; shaped = is.spelled.shaped; end = is.spelled.end; more = []; spelled = is.spelled.spelled ∙ sym (append-nil tokens) }; low = is.low }

      by_stop : IsUnread source tokens answer → ⊥
      by_stop (stopped token stop none e) = stop.none (low_up_to tokens stop.before stop.behind token stop.are low)
      by_stop (too_high token stop some e) = stop.none (low_up_to tokens stop.before stop.behind token stop.are low)

  unread_is : (tokens : List Token) (answer : Outcome) → HasTokens source tokens → IsUnread source (signs_of tokens) answer → source_outcome model turns source file ≡ answer
  unread_is tokens answer has told = by_answer (ma.parse_of (signs_of tokens)) refl (reading (signs_of tokens) (ma.parse_of (signs_of tokens)) refl)
    where
      by_answer : (r : ma.Result) → ma.parse_of (signs_of tokens) ≡ r → IsReading (signs_of tokens) r → source_outcome model turns source file ≡ answer
      by_answer (ma.Tree tree) read reads = absurd (not_unread (signs_of tokens) tree answer (tree_is (signs_of tokens) tree read reads.0) told)
      by_answer (ma.Syntax at) read reads =
          parsed_source tokens (ma.Syntax at) has read ∙ same_unread source (signs_of tokens) (Faulty Syntax (place_at source at)) answer (syntax_unread source (signs_of tokens) at read (reads (ended source tokens has))) told
      by_answer (ma.Unsupported at) read reads =
          parsed_source tokens (ma.Unsupported at) has read ∙ same_unread source (signs_of tokens) (Faulty Unsupported (place_at source at)) answer (unsupported_unread source (signs_of tokens) at read reads) told
      by_answer ma.TooHigh read reads = parsed_source tokens ma.TooHigh has read ∙ same_unread source (signs_of tokens) (Over 3 201) answer (high_unread source (signs_of tokens) reads.0 read reads.1) told

  pub tree_source : (tree : Items) (o : Option SourceFail) → HasTree source tree → source_refusal tree model ≡ o → source_outcome model turns source file ≡ read_to (unless o tree)
  tree_source tree o has is =
      parsed_source has.tokens (ma.Tree tree) has.has (tree_read_of (signs_of has.tokens) tree has.tree_of) ∙ ap (λ (x : Option SourceFail). read_to (unless x tree)) is

  pub values_source : (tree : Items) (r : Result (List ℤ) StoredFail) → HasTree source tree → source_refusal tree model ≡ None → read_run_of file ≡ r → source_outcome model turns source file ≡ values_outcome model turns source tree r
  values_source tree r has free read = tree_source tree None has free ∙ ap (values_outcome model turns source tree) read

  pub answer_is : (answer : Outcome) → IsAnswer model turns source file answer → source_outcome model turns source file ≡ answer
  answer_is answer (too_long long is) = long_source long ∙ sym is
  answer_is answer (no_tokens fail short lexes is) = lexed_source (Err fail) short lexes ∙ sym is
  answer_is answer (no_tree tokens has unread) = unread_is tokens answer has unread
  answer_is answer (no_program tree fail has refuses is) = tree_source tree (Some fail) has refuses ∙ sym is
  answer_is answer (no_values tree fail has accepted read is) = values_source tree (Err fail) has accepted.free read ∙ sym is
  answer_is answer (run_ends tree values has accepted text few is) =
      values_source tree (Ok values) has accepted.free ((run_text_read file values).1 (text, few)) ∙ sym is

pub meant_is_computed : (words : List (List ℕ)) (file : List ℕ → List ℕ) (answer : Outcome) → Means words file answer → outcome_of words file ≡ answer
meant_is_computed words file answer (no_request none is) = ap (λ o. wanted_outcome o file) none ∙ sym is
meant_is_computed words file answer (request w found means) = ap (λ o. wanted_outcome o file) found ∙ answer_is w.model w.turns (file w.source) (file w.run) answer means

-- ---- what is reported

pub report_means : (rose told : Type 0) (words : List (List ℕ)) (file : List ℕ → List ℕ) (answer : Outcome) (status : ℕ) (kept : Kept) → IsCaused rose told (outcome_of words file) answer → told → (status ≡ 14) ⊎ ((status ≡ 15) ⊎ ((status ≡ status_of answer) × (kept ≡ kept_of answer))) → IsFree status ⊎ MeansReport words file status kept
report_means rose told words file answer status kept caused t (inl is) = inl (inr (inl is))
report_means rose told words file answer status kept caused t (inr (inl is)) = inl (inr (inr is))
report_means rose told words file answer status kept caused t (inr (inr both)) = by_cause (caused_is_right rose told (outcome_of words file) answer caused t)
  where
    by_cause : ((answer ≡ ReadFault) × rose) ⊎ ((answer ≡ NoMemory) ⊎ (outcome_of words file ≡ answer)) → IsFree status ⊎ MeansReport words file status kept
    by_cause (inl e) = inl (inl (both.0 ∙ ap status_of e.0))
    by_cause (inr (inl e)) = inl (inr (inr (both.0 ∙ ap status_of e)))
    by_cause (inr (inr e)) = inr (answer, computed_is_meant words file answer e, both.0, both.1)
