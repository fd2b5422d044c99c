-- What a parse of the words behind a command gives is what the rules of the words give.
use Rattle.std.proofs.Common.{◌≡◌, ◌∙◌, List, [], ◌∷◌, map, fold, Bool, true, false, not, Option, Some, None, is_some, codes, refl, sym, ap, ap₂, subst, true≢false, option_map}
use Rattle.std.specs.Prelude.{◌&&◌, ◌||◌, if◌then◌else◌}
use Rattle.std.specs.List.{list_any}
use Rattle.std.specs.Str.{bytes_eq}
use Rattle.std.proofs.lemmas.Slice.Eq.{bytes_eq-Decides}
use Rattle.clap.specs.Kinds.{IsAmong, Kinds, or_else}
use Rattle.clap.specs.declared.error.kind.ErrorKind.{ErrorKind}
use Rattle.clap.specs.Walk.{Held, Row, Rule, Text, Walk, finished, has_row, nothing_held, settled, walk, walked, with_default}
use Rattle.clap.specs.Takes.{is_given}
use Rattle.clap.specs.Simple.{App, argument_words, entered, is_simple, matches_of, names_of}
use Rattle.clap.specs.Faults.{built_fault, check_fault, given_default_fault, defaults_fault, entered_fault, fault_of, is_simple_and_free, level_fault, settle_fault, turn_fault, walk_fault}
use Rattle.clap.specs.declared.error.kind.ErrorKind.TheVariants as kind
use Rattle.request_words.specs.declared.options.Choice.{Choice}
use Rattle.request_words.specs.declared.commands.Command.{Command}
use Rattle.request_words.specs.declared.commands.Command.TheVariants.{Check, Verify, Replay, Generate}
use Rattle.request_words.specs.Apps.{app_for}
use Rattle.request_words.specs.Texts.{given_by, has_all, has_good_texts, texts_in, values_given, whole}
use Rattle.request_words.specs.Words.{Given, nothing_given, with_word, with_word_at, with_words}
use Rattle.request_words.proofs.WordWalk.{Last, Place, Slot, Uses, awaits, built_app, held_at, id_of, none, nothing, one, rule, rules, shape, slots, two, valued, walk_at}
use Rattle.request_words.proofs.UseLaws.{given_is, no_defaults, rows_of_uses}
use Rattle.request_words.proofs.GivenLaws.{given_at}
use Rattle.request_words.proofs.StepLaws.{Faulty, Fits, awaited_fault, faulty_first, has_kind}
use Rattle.request_words.proofs.OwnLaws.{At, Stands, dashed_name, dashed_value, given_last, never_whole, one_word, stands_same}
use Rattle.request_words.proofs.TurnLaws.{Room, Settled, Turned, blocked, fails, moves, settle, settles, turn}
use Rattle.request_words.proofs.WordKinds.{IsDashed}

-- ---- the end of the words

defaults_clear : (rows : List Row) (all : List Slot) → defaults_fault rows (map rule all) ≡ []
unfolding defaults_fault
defaults_clear rows [] = refl
defaults_clear rows (s ∷ all) = go (has_row (id_of s) rows) (defaults_clear (with_default rows (rule s)) all)
  where
    go : (t : Bool) → defaults_fault (with_default rows (rule s)) (map rule all) ≡ []
        → or_else (if t || true then [] else given_default_fault (rule s) []) (defaults_fault (with_default rows (rule s)) (map rule all)) ≡ []
    go true e = e
    go false e = e

abbrev pub is_missing : Command → List Row → Bool
is_missing command rows = list_any (λ (a : Rule). a.required && not (is_given a.id rows)) (rules command)

missing_is : (command : Command) (rows : List Row) → has_kind (check_fault (shape command) rows false) ≡ is_missing command rows
missing_is command rows = go (is_missing command rows)
  where
    go : (t : Bool) → has_kind (if t then kind.MissingRequiredArgument ∷ [] else []) ≡ t
    go true = refl
    go false = refl

whole_if : (command : Command) (t : Bool) (g : Given) → whole command (if t then Some g else None) ≡ (if has_all command g.first g.second g.awaited then (if t then Some g else None) else None)
whole_if command true g = refl
whole_if command false g = go (has_all command g.first g.second g.awaited)
  where
    go : (t : Bool) → ◌≡◌ {A = Option Given} None (if t then None else None)
    go true = refl
    go false = refl

both_names : (a b : Option Text) (o : Option Given) → (if has_all Check a b None then o else None)
    ≡ (if (true && not (is_some a)) || ((true && not (is_some b)) || false) then None else o)
both_names None b o = refl
both_names (Some s) None o = refl
both_names (Some s) (Some t) o = refl

replay_names : (a b : Option Text) (o : Option Given) → (if has_all Replay a b None then o else None)
    ≡ (if (true && not (is_some a)) || ((true && not (is_some b)) || false) then None else o)
replay_names None b o = refl
replay_names (Some s) None o = refl
replay_names (Some s) (Some t) o = refl

one_name : (a b : Option Text) (o : Option Given) → b ≡ None → (if has_all Verify a b None then o else None) ≡ (if (true && not (is_some a)) || false then None else o)
one_name None b o e = refl
one_name (Some s) None o e = refl
one_name (Some s) (Some t) o e = absurd (cc)

one_seed : (a b : Option Text) (o : Option Given) → b ≡ None → (if has_all Generate a b None then o else None) ≡ (if (true && not (is_some a)) || false then None else o)
one_seed None b o e = refl
one_seed (Some s) None o e = refl
one_seed (Some s) (Some t) o e = absurd (cc)

no_second : (command : Command) (place : Place) → Room command two ≡ ⊥ → Room command place → (g : Given) → At place g → g.second ≡ None
no_second command none few room g at = at.1
no_second command one few room g at = at.1
no_second command two few room g at = absurd (subst (λ (X : Type 0). X) few room)

by_good : (command : Command) (q : Bool) (g : Given) (missing : Bool)
    → ((if q then Some g else None) ≡ Some g → (if has_all command g.first g.second g.awaited then Some g else None) ≡ (if missing then None else Some g))
    → (if has_all command g.first g.second g.awaited then (if q then Some g else None) else None) ≡ (if missing then None else (if q then Some g else None))
by_good command true g missing e = e refl
by_good command false g missing e = go (has_all command g.first g.second g.awaited) missing
  where
    go : (a b : Bool) → ◌≡◌ {A = Option Given} (if a then None else None) (if b then None else None)
    go true true = refl
    go true false = refl
    go false true = refl
    go false false = refl

-- the names that are wanted are there
complete : (command : Command) (place : Place) (uses : Uses) → Room command place → Stands place (given_at uses)
    → whole command (given_at uses) ≡ (if is_missing command (rows_of_uses uses) then None else given_at uses)
complete Check place uses room stands =
    let t = texts_in (rows_of_uses uses) in
    whole_if Check (has_good_texts t) (values_given t) ∙ both_names t.first t.second (given_at uses)
    ∙ ap₂ (λ (a b : Bool). if (true && not a) || ((true && not b) || false) then None else given_at uses) (sym (given_is uses (codes "source"))) (sym (given_is uses (codes "second")))
complete Replay place uses room stands =
    let t = texts_in (rows_of_uses uses) in
    whole_if Replay (has_good_texts t) (values_given t) ∙ replay_names t.first t.second (given_at uses)
    ∙ ap₂ (λ (a b : Bool). if (true && not a) || ((true && not b) || false) then None else given_at uses) (sym (given_is uses (codes "source"))) (sym (given_is uses (codes "second")))
complete Verify place uses room stands =
    let t = texts_in (rows_of_uses uses) in
    whole_if Verify (has_good_texts t) (values_given t) ∙ by_good Verify (has_good_texts t) (values_given t) (is_missing Verify (rows_of_uses uses))
    (λ e. let second : t.second ≡ None = no_second Verify place refl room (values_given t) (stands (values_given t) e) in
    one_name t.first t.second (Some (values_given t)) second
    ∙ ap (λ (a : Bool). if (true && not a) || false then None else Some (values_given t)) (sym (given_is uses (codes "source"))))
complete Generate place uses room stands =
    let t = texts_in (rows_of_uses uses) in
    whole_if Generate (has_good_texts t) (values_given t) ∙ by_good Generate (has_good_texts t) (values_given t) (is_missing Generate (rows_of_uses uses))
    (λ e. let second : t.second ≡ None = no_second Generate place refl room (values_given t) (stands (values_given t) e) in
    one_seed t.first t.second (Some (values_given t)) second
    ∙ ap (λ (a : Bool). if (true && not a) || false then None else Some (values_given t)) (sym (given_is uses (codes "source"))))

-- what is found at the end of the words, behind the fault of the words
abbrev pub last_fault : Command → Held → Kinds
last_fault command end = or_else [] (or_else (settle_fault (rules command) false end)
    (or_else (defaults_fault (settled (rules command) end).rows (rules command)) (check_fault (shape command) (finished (rules command) end) false)))

abbrev pub end_fault : Command → Kinds → Held → Kinds
end_fault command before end = or_else before (last_fault command end)

abbrev pub parsed : Command → Kinds → Held → Option Given
parsed command before end = if has_kind (end_fault command before end) then None else given_by (texts_in (finished (rules command) end))

unparsed : (command : Command) (before : Kinds) (end : Held) → Faulty (end_fault command before end) → None ≡ parsed command before end
unparsed command before end e = ap (λ (t : Bool). if t then None else given_by (texts_in (finished (rules command) end))) (sym e)

refused_before : (command : Command) (before : Kinds) (end : Held) → Faulty before → None ≡ parsed command before end
refused_before command before end e = unparsed command before end (faulty_first before (last_fault command end) e)

has_awaited : (command : Command) (a b : Option Text) (choice : Choice) → has_all command a b (Some choice) ≡ false
has_awaited Check None b choice = refl
has_awaited Check (Some s) None choice = refl
has_awaited Check (Some s) (Some t) choice = refl
has_awaited Replay None b choice = refl
has_awaited Replay (Some s) None choice = refl
has_awaited Replay (Some s) (Some t) choice = refl
has_awaited Verify None b choice = refl
has_awaited Verify (Some s) None choice = refl
has_awaited Verify (Some s) (Some t) choice = refl
has_awaited Generate None b choice = refl
has_awaited Generate (Some s) None choice = refl
has_awaited Generate (Some s) (Some t) choice = refl

awaited_end : (command : Command) (o : Option Given) (choice : Choice) → whole command (option_map (λ (g : Given). record g { awaited = Some choice }) o) ≡ None
awaited_end command None choice = refl
awaited_end command (Some g) choice = ap (λ (t : Bool). if t then Some (record g { awaited = Some choice }) else None) (has_awaited command g.first g.second choice)

settled_end : (command : Command) (uses : Uses) (last : Last) (place : Place) → Room command place → Stands place (given_last uses last) → Settled command uses last
    → whole command (given_last uses last) ≡ parsed command [] (held_at uses last)
settled_end command uses last place room stands (blocked block empty) =
    ap (whole command) empty ∙ unparsed command [] (held_at uses last) (faulty_first (settle_fault (rules command) false (held_at uses last)) _ block)
settled_end command uses last place room stands (settles after clear held same) =
    let rows = rows_of_uses after in
    let ended : finished (rules command) (held_at uses last) ≡ rows =
    ap (λ (h : Held). fold with_default h.rows (rules command)) held ∙ no_defaults rows (slots command) in
    let kinds : has_kind (end_fault command [] (held_at uses last)) ≡ is_missing command rows =
    ap (λ (k : Kinds). has_kind (or_else k (or_else (defaults_fault (settled (rules command) (held_at uses last)).rows (rules command)) (check_fault (shape command) (finished (rules command) (held_at uses last)) false)))) clear
    ∙ ap (λ (k : Kinds). has_kind (or_else k (check_fault (shape command) (finished (rules command) (held_at uses last)) false))) (defaults_clear (settled (rules command) (held_at uses last)).rows (slots command))
    ∙ ap (λ (rs : List Row). has_kind (check_fault (shape command) rs false)) ended ∙ missing_is command rows in
    ap (whole command) (sym same) ∙ complete command place after room (stands_same place _ _ (sym same) stands)
    ∙ ap₂ (λ (t : Bool) (rs : List Row). if t then None else given_by (texts_in rs)) (sym kinds) (sym ended)

words_end : (command : Command) (uses : Uses) (last : Last) (place : Place) → Fits command last → Room command place → Stands place (given_last uses last)
    → whole command (given_last uses last) ≡ parsed command [] (held_at uses last)
words_end command uses nothing place fits room stands = settled_end command uses nothing place room stands (settle command uses nothing fits tt)
words_end command uses (valued slot text) place fits room stands = settled_end command uses (valued slot text) place room stands (settle command uses (valued slot text) fits tt)
words_end command uses (awaits choice) place fits room stands =
    awaited_end command (given_at uses) choice
    ∙ unparsed command [] (held_at uses (awaits choice)) (faulty_first (settle_fault (rules command) false (held_at uses (awaits choice))) _ (awaited_fault command uses choice fits))

words_end_at : (command : Command) (uses : Uses) (last : Last) (place : Place) → Fits command last → Room command place → Stands place (given_last uses last)
    → whole command (given_last uses last) ≡ parsed command (walk_fault (shape command) [] (walk_at uses last place) []) (held_at uses last)
unfolding walk_fault
words_end_at command uses last place fits room stands = words_end command uses last place fits room stands

-- ---- all the words

neither : (a b : Bool) → (a || b) ≡ false → (a ≡ false) × (b ≡ false)
neither true b e = absurd (true≢false e)
neither false b e = (refl, e)

abbrev pub is_end : Text → Bool
is_end word = bytes_eq word (codes "--")

-- the fault of the words from here on, and what is held behind them
abbrev pub parsed_from : Command → Walk → List Text → Option Given
parsed_from command start words = parsed command (walk_fault (shape command) [] start words) (fold (walked (rules command) []) start words).held

word_from : (command : Command) (word : Text) (words : List Text) (uses : Uses) (last : Last) (place : Place) → Room command place
    → ((after : Uses) (next : Last) (to : Place) → Fits command next → Room command to → Stands to (given_last after next)
    → whole command (with_words command (given_last after next) words) ≡ parsed_from command (walk_at after next to) words)
    → Turned command uses last place word → whole command (with_words command (given_last uses last) (word ∷ words)) ≡ parsed_from command (walk_at uses last place) (word ∷ words)
unfolding walk_fault
word_from command word words uses last place room more (fails fault never) =
    ap (whole command) (one_word command (given_last uses last) word words) ∙ never words
    ∙ refused_before command (walk_fault (shape command) [] (walk_at uses last place) (word ∷ words)) (fold (walked (rules command) []) (walk_at uses last place) (word ∷ words)).held
    (faulty_first (turn_fault (shape command) [] (walk_at uses last place) word) _ fault)
word_from command word words uses last place room more (moves after next to fits clear walks gives stands roomy) =
    ap (whole command) (one_word command (given_last uses last) word words)
    ∙ ap (λ (o : Option Given). whole command (with_words command o words)) (sym gives)
    ∙ more after next to fits (roomy room) stands
    ∙ ap (λ (v : Walk). parsed_from command v words) (sym walks)
    ∙ ap (λ (k : Kinds). parsed command (or_else k (walk_fault (shape command) [] (walked (rules command) [] (walk_at uses last place) word) words))
    (fold (walked (rules command) []) (walked (rules command) [] (walk_at uses last place) word) words).held) (sym clear)

words_from : (command : Command) (words : List Text) (uses : Uses) (last : Last) (place : Place) → list_any is_end words ≡ false → Fits command last → Room command place
    → Stands place (given_last uses last) → whole command (with_words command (given_last uses last) words) ≡ parsed_from command (walk_at uses last place) words
words_from command [] uses last place none_ends fits room stands = words_end_at command uses last place fits room stands
words_from command (word ∷ words) uses last place none_ends fits room stands =
    let ends = neither (is_end word) (list_any is_end words) none_ends in
    word_from command word words uses last place room (λ after next to fits2 room2 stands2. words_from command words after next to ends.1 fits2 room2 stands2)
    (turn command uses last place word ends.0 fits stands)

-- ---- a word `--`

ends_dashed : IsDashed (codes "--")
ends_dashed = record { rest = codes "-"; is = refl }

pub end_word : (command : Command) (g : Given) → with_word command g (codes "--") ≡ None
end_word command g = go g.awaited
  where
    go : (a : Option Choice) → with_word_at command g a (codes "--") ≡ None
    go None = dashed_name g (codes "--") ends_dashed
    go (Some choice) = dashed_value g choice (codes "--") ends_dashed

pub words_ended : (command : Command) (words : List Text) (o : Option Given) → list_any is_end words ≡ true → whole command (with_words command o words) ≡ None
words_ended command [] o e = absurd (true≢false (sym e))
words_ended command (word ∷ words) None e = refl
words_ended command (word ∷ words) (Some g) e = go (λ h. words_ended command words (with_word command g word) h) (is_end word) refl e
  where
    go : (list_any is_end words ≡ true → whole command (with_words command (with_word command g word) words) ≡ None)
        → (t : Bool) → is_end word ≡ t → (t || list_any is_end words) ≡ true → whole command (with_words command (with_word command g word) words) ≡ None
    go more true is h = never_whole command (with_word command g word) (ap (with_word command g) ((bytes_eq-Decides word (codes "--")).0 is) ∙ end_word command g) words
    go more false is h = more h

-- ---- what a parse gives

pub simple_app : (command : Command) → is_simple (app_for command) ≡ true
simple_app Check = refl
simple_app Verify = refl
simple_app Replay = refl
simple_app Generate = refl

pub free_app : (command : Command) → is_simple_and_free (app_for command) ≡ true
free_app Check = refl
free_app Verify = refl
free_app Replay = refl
free_app Generate = refl

all_words : (command : Command) (words : List Text) → argument_words (app_for command) words ≡ words
all_words Check words = refl
all_words Verify words = refl
all_words Replay words = refl
all_words Generate words = refl

abbrev app_at : Command → App
app_at command = record { top = shape command; subs = [] }

no_subcommand : (command : Command) (words : List Text) (stop : Option (Text × List Text))
    → level_fault (shape command) [] nothing_held words (is_some (entered (app_at command) stop)) (entered_fault (app_at command) stop) ≡ level_fault (shape command) [] nothing_held words false []
no_subcommand command words None = refl
no_subcommand command words (Some p) = refl

fault_here : (command : Command) (words : List Text) → fault_of (app_for command) words ≡ level_fault (shape command) [] nothing_held words false []
fault_here command words =
    ap₂ (λ (a : App) (ws : List Text). built_fault a nothing_held ws) (built_app command) (all_words command words)
    ∙ no_subcommand command words (walk (rules command) [] nothing_held words).stopped

rows_here : (command : Command) (words : List Text) → matches_of (app_for command) words ≡ finished (rules command) (walk (rules command) [] nothing_held words).held
rows_here command words = ap₂ (λ (a : App) (ws : List Text). finished a.top.rules (walk a.top.rules (names_of a) nothing_held ws).held) (built_app command) (all_words command words)

start_stands : Stands none (given_last [] nothing)
start_stands g e = let is : nothing_given ≡ g = cc in subst (At none) is (refl, refl)

-- what the matches give where the parser refuses nothing
abbrev pub given_parsed : Command → List Text → Option Given
given_parsed command words = if has_kind (fault_of (app_for command) words) then None else given_by (texts_in (matches_of (app_for command) words))

pub words_parsed : (command : Command) (words : List Text) → list_any is_end words ≡ false → whole command (with_words command (Some nothing_given) words) ≡ given_parsed command words
words_parsed command words none_ends =
    words_from command words [] nothing none none_ends tt tt start_stands
    ∙ ap₂ (λ (k : Kinds) (rs : List Row). if has_kind k then None else given_by (texts_in rs)) (sym (fault_here command words)) (sym (rows_here command words))

-- the same, of a command and words that are told
pub parse_told : (command : Command) (words : List Text) (a : App) → a ≡ app_for command → list_any is_end words ≡ false → (rows : List Row) → rows ≡ matches_of a words → fault_of a words ≡ []
    → given_by (texts_in rows) ≡ whole command (with_words command (Some nothing_given) words)
parse_told command words a app none_ends rows found clear =
    ap (λ (rs : List Row). given_by (texts_in rs)) (found ∙ ap (λ (x : App). matches_of x words) app)
    ∙ ap (λ (k : Kinds). if has_kind k then None else given_by (texts_in (matches_of (app_for command) words))) (sym clear ∙ ap (λ (x : App). fault_of x words) app)
    ∙ sym (words_parsed command words none_ends)

some_kind : (k : ErrorKind) (kinds : Kinds) → IsAmong k kinds → has_kind kinds ≡ true
some_kind k [] among = absurd among
some_kind k (x ∷ kinds) among = refl

pub parse_refused : (command : Command) (words : List Text) (a : App) → a ≡ app_for command → list_any is_end words ≡ false → (k : ErrorKind) → IsAmong k (fault_of a words)
    → None ≡ whole command (with_words command (Some nothing_given) words)
parse_refused command words a app none_ends k among =
    ap (λ (t : Bool). if t then None else given_by (texts_in (matches_of (app_for command) words))) (sym (some_kind k (fault_of a words) among) ∙ ap (λ (x : App). has_kind (fault_of x words)) app)
    ∙ sym (words_parsed command words none_ends)
