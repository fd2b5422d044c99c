-- A word is refused by the parser where it asks for nothing, and else both go on alike.
use Rattle.std.proofs.Common.{◌≡◌, ◌∙◌, ℕ, List, [], ◌∷◌, Bool, true, false, Option, Some, None, codes, refl, sym, ap, subst, length, option_map}
use Rattle.std.specs.Prelude.{◌&&◌, if◌then◌else◌, nat_lt, option_and_then}
use Rattle.std.specs.Option.{option_map_or}
use Rattle.std.specs.Str.{bytes_eq}
use Rattle.std.proofs.lemmas.Slice.Eq.{bytes_eq-Decides}
use Rattle.clap.specs.Lexer.{long_of, short_of}
use Rattle.clap.specs.Kinds.{Kinds, or_else}
use Rattle.clap.specs.Walk.{Held, Outcome, Row, Rule, Step, Text, Waiting, Walk, after_flag, after_step, bundle_met, has_row, is_pending, long_met, long_or_other, long_word, most_values, next_position, option_word, pending_count, plain_word, pushed, reacted, settled, short_or_plain, short_word, takes_several, to_positional, used, walked, walked_from, word_met}
use Rattle.clap.specs.Walk as w
use Rattle.clap.specs.Faults.{bundle_fault, flag_word_fault, flags_fault, long_fault, positional_fault, settle_fault, step_fault, stray_fault, turn_fault, use_fault, word_fault}
use Rattle.request_words.specs.declared.options.Choice.{Choice}
use Rattle.request_words.specs.declared.commands.Command.{Command}
use Rattle.request_words.specs.declared.commands.Command.TheVariants.{Check, Verify, Replay, Generate}
use Rattle.request_words.specs.Options.{choice_named, joined_of}
use Rattle.request_words.specs.Texts.{whole}
use Rattle.request_words.specs.Words.{Given, is_option, with_free, with_joined, with_name, with_value, with_word, with_word_at, with_words}
use Rattle.request_words.proofs.WordWalk.{Last, Place, Slot, Uses, awaits, choice_id, first, held_at, id_of, none, nothing, of, one, position_at, rule, rules, second, shape, two, valued, waiting_at, walk_at}
use Rattle.request_words.proofs.UseLaws.{rows_of_uses, used_once, with_use}
use Rattle.request_words.proofs.GivenLaws.{given_at, given_more, given_twice, with_text}
use Rattle.request_words.proofs.StepLaws.{Faulty, Fits, Flags, awaited_fault, by_place, faulty_first, faulty_second, fault, fault_is, flags_are, found_by_id, found_by_index, found_by_long, has_kind, has_slot, met_is, next_is, next_place, none_by_long, passed, place_fits, use_fails, use_passes, valued_fault, valued_settles}
use Rattle.request_words.proofs.OwnLaws.{At, Stands, awaited_same, dashed_name, dashed_value, first_name, given_last, never_whole, none_as, second_name, second_too_many, single_generate, single_verify, some_as, stands_awaiting, stands_first, stands_kept, stands_same, stands_second, stands_unawaiting, step, step_as, step_none, third_name, unawaited, value_keeps}
use Rattle.request_words.proofs.WordKinds.{IsDashed, Kind, alone, flags, joins, kind, plain, strange}

-- a verification and a seed's source have one name at most
abbrev pub Room : Command → Place → Type 0
Room command none = Unit {0}
Room command one = Unit {0}
Room Check two = Unit {0}
Room Verify two = ⊥
Room Replay two = Unit {0}
Room Generate two = ⊥

next_room : (command : Command) (place : Place) (slot : Slot) → by_place command place ≡ Some slot → Room command (next_place place)
next_room command none slot e = tt
next_room Check one slot e = tt
next_room Replay one slot e = tt
next_room Verify one slot e = absurd (cc)
next_room Generate one slot e = absurd (cc)
next_room command two slot e = absurd (cc)

pub data Turned (command : Command) (uses : Uses) (last : Last) (place : Place) (word : Text) : Type 0 where
  fails : Faulty (turn_fault (shape command) [] (walk_at uses last place) word)
      → ((words : List Text) → whole command (with_words command (step command (given_last uses last) word) words) ≡ None) → Turned command uses last place word
  moves : (after : Uses) (next : Last) (to : Place) → Fits command next
      → turn_fault (shape command) [] (walk_at uses last place) word ≡ []
      → walked (rules command) [] (walk_at uses last place) word ≡ walk_at after next to
      → given_last after next ≡ step command (given_last uses last) word
      → Stands to (given_last after next) → (Room command place → Room command to) → Turned command uses last place word

-- ---- what the parser does, by what the word is taken for

module _ (command : Command) (uses : Uses) (last : Last) (place : Place) (word : Text) where
  abbrev start : Walk
  start = walk_at uses last place

  abbrev met : Held × Step
  met = word_met (rules command) [] false (waiting_at last) (position_at place) word (held_at uses last)

  abbrev here : Kinds
  here = word_fault (shape command) [] false (waiting_at last) word (held_at uses last)

  abbrev refuses : Type 0
  refuses = Faulty (turn_fault (shape command) [] start word)

  pub refuses_word : Faulty here → refuses
  refuses_word e = faulty_first here (step_fault (shape command) (position_at place) met.0 met.1) e

  pub refuses_step : (h : Held) (s : Step) → met ≡ (h, s) → Faulty (step_fault (shape command) (position_at place) h s) → refuses
  refuses_step h s is e = faulty_second here (step_fault (shape command) (position_at place) met.0 met.1)
      (ap (λ (p : Held × Step). has_kind (step_fault (shape command) (position_at place) p.0 p.1)) is ∙ e)

  pub passes_word : (h : Held) (s : Step) → met ≡ (h, s) → here ≡ [] → step_fault (shape command) (position_at place) h s ≡ [] → turn_fault (shape command) [] start word ≡ []
  passes_word h s is e f = ap (λ (k : Kinds). or_else k (step_fault (shape command) (position_at place) met.0 met.1)) e
      ∙ ap (λ (p : Held × Step). step_fault (shape command) (position_at place) p.0 p.1) is ∙ f

  pub walks_to : (h : Held) (s : Step) → met ≡ (h, s) → walked (rules command) [] start word ≡ after_step (rules command) word start h s
  unfolding walked
  walks_to h s is = ap (λ (p : Held × Step). after_step (rules command) word start p.0 p.1) is

-- ---- nothing is awaited

-- the fault of what is not used so far, or what is held once it is used
pub data Settled (command : Command) (uses : Uses) (last : Last) : Type 0 where
  blocked : Faulty (settle_fault (rules command) false (held_at uses last)) → given_last uses last ≡ None → Settled command uses last
  settles : (after : Uses) → settle_fault (rules command) false (held_at uses last) ≡ [] → settled (rules command) (held_at uses last) ≡ held_at after nothing
      → given_at after ≡ given_last uses last → Settled command uses last

settle_valued : (command : Command) (uses : Uses) (slot : Slot) (text : Text) → has_slot command slot ≡ true → (t : Bool) → has_row (id_of slot) (rows_of_uses uses) ≡ t
    → Settled command uses (valued slot text)
settle_valued command uses slot text fits true e =
    blocked (ap has_kind (valued_fault command uses slot text fits) ∙ use_fails slot text (rows_of_uses uses) e) (given_twice uses slot text e)
settle_valued command uses slot text fits false e =
    settles (with_use uses slot text) (valued_fault command uses slot text fits ∙ use_passes slot text (rows_of_uses uses) e)
    (valued_settles command uses slot text fits e) (given_more uses slot text e)

abbrev pub is_free : Last → Type 0
is_free nothing = Unit {0}
is_free (valued slot text) = Unit {0}
is_free (awaits choice) = ⊥

pub settle : (command : Command) (uses : Uses) (last : Last) → Fits command last → is_free last → Settled command uses last
settle command uses nothing fits free = settles uses refl refl refl
settle command uses (valued slot text) fits free = settle_valued command uses slot text fits (has_row (id_of slot) (rows_of_uses uses)) refl
settle command uses (awaits choice) fits free = absurd free

idle_at : (last : Last) → is_free last → waiting_at last ≡ w.idle
idle_at nothing free = refl
idle_at (valued slot text) free = refl
idle_at (awaits choice) free = absurd free

-- a word of the rules, where no option is awaited
free_word : (command : Command) (g : Given) (word : Text) (c : Option Choice) → g.awaited ≡ None → choice_named word ≡ c → with_word command g word ≡ with_free command g word c
free_word command g word c a e = ap (λ (x : Option Choice). with_word_at command g x word) a ∙ ap (with_free command g word) e

joined_word : (command : Command) (g : Given) (word : Text) (j : Option (Choice × Text)) → g.awaited ≡ None → choice_named word ≡ None → joined_of word ≡ j
    → with_word command g word ≡ with_joined command g word j
joined_word command g word j a e f = free_word command g word None a e ∙ ap (with_joined command g word) f

-- where there is room for a name
name_gives : (command : Command) (place : Place) (slot : Slot) → by_place command place ≡ Some slot → (g : Given) (word : Text) → At place g → with_name g word ≡ with_text slot word g
name_gives command none slot e g word at = let is : first ≡ slot = cc in first_name g word at ∙ ap (λ (s : Slot). with_text s word g) is
name_gives Check one slot e g word at = let is : second ≡ slot = cc in second_name g word at ∙ ap (λ (s : Slot). with_text s word g) is
name_gives Replay one slot e g word at = let is : second ≡ slot = cc in second_name g word at ∙ ap (λ (s : Slot). with_text s word g) is
name_gives Verify one slot e g word at = absurd (cc)
name_gives Generate one slot e g word at = absurd (cc)
name_gives command two slot e g word at = absurd (cc)

stands_next : (command : Command) (place : Place) (slot : Slot) → by_place command place ≡ Some slot → (o : Option Given) (word : Text) → Stands place o
    → Stands (next_place place) (option_and_then (with_text slot word) o)
stands_next command none slot e o word stands = let is : first ≡ slot = cc in subst (λ (s : Slot). Stands one (option_and_then (with_text s word) o)) is (stands_first o word stands)
stands_next Check one slot e o word stands = let is : second ≡ slot = cc in subst (λ (s : Slot). Stands two (option_and_then (with_text s word) o)) is (stands_second o word stands)
stands_next Replay one slot e o word stands = let is : second ≡ slot = cc in subst (λ (s : Slot). Stands two (option_and_then (with_text s word) o)) is (stands_second o word stands)
stands_next Verify one slot e o word stands = absurd (cc)
stands_next Generate one slot e o word stands = absurd (cc)
stands_next command two slot e o word stands = absurd (cc)

-- where there is none
stray : (command : Command) (place : Place) → by_place command place ≡ None → (word : Text) (o : Option Given) → Stands place o
    → ((g : Given) → o ≡ Some g → with_word command g word ≡ with_name g word) → (words : List Text) → whole command (with_words command (step command o word) words) ≡ None
stray command none e word o stands is words = absurd (cc)
stray Check one e word o stands is words = absurd (cc)
stray Replay one e word o stands is words = absurd (cc)
stray Verify one e word None stands is words = never_whole Verify None refl words
stray Verify one e word (Some g) stands is words =
    ap (λ (o : Option Given). whole Verify (with_words Verify o words)) (is g refl) ∙ second_too_many Verify single_verify g word (stands g refl) words
stray Generate one e word None stands is words = never_whole Generate None refl words
stray Generate one e word (Some g) stands is words =
    ap (λ (o : Option Given). whole Generate (with_words Generate o words)) (is g refl) ∙ second_too_many Generate single_generate g word (stands g refl) words
stray command two e word None stands is words = never_whole command None refl words
stray command two e word (Some g) stands is words = never_whole command (with_word command g word) (is g refl ∙ third_name g word (stands g refl)) words

and_false : (b : Bool) → b && false ≡ false
and_false true = refl
and_false false = refl

abbrev stands_at : Held → ℕ → Walk
stands_at held position = record { held = held; waiting = w.idle; position = position; is_trailing = false; stopped = None }

module _ (command : Command) (uses : Uses) (last : Last) (place : Place) (word : Text) (more : bytes_eq word (codes "--") ≡ false)
    (fits : Fits command last) (free : is_free last) (stands : Stands place (given_last uses last)) where
  abbrev c : List Rule
  c = rules command

  abbrev h : Held
  h = held_at uses last

  -- ---- a long option

  module _ (name : Text) (text : Option Text) (long : long_of word ≡ Some (name, text)) where
    long_met_is : (a : Option Rule) → w.arg_by_long c name ≡ a → met command uses last place word ≡ long_or_other c (waiting_at last) word (Some (name, text)) h
    long_met_is a e = met_is command (waiting_at last) (position_at place) word h more ∙ ap (λ (o : Option (Text × Option Text)). long_or_other c (waiting_at last) word o h) long

    long_fault_is : (a : Option Rule) → w.arg_by_long c name ≡ a → here command uses last place word ≡ long_fault c false a text h
    long_fault_is a e = fault_is command (waiting_at last) (position_at place) word h more ∙ ap (λ (o : Option (Text × Option Text)). flag_word_fault c false o word h) long
        ∙ ap (λ (x : Option Rule). long_fault c false x text h) e

    met_by : (a : Option Rule) → w.arg_by_long c name ≡ a → met command uses last place word
        ≡ after_flag c (waiting_at last) word (long_met c a text h).0 (long_met c a text h).1
    met_by a e = long_met_is a e ∙ ap (λ (x : Option Rule). after_flag c (waiting_at last) word (long_met c x text h).0 (long_met c x text h).1) e

    no_option : w.arg_by_long c name ≡ None → step command (given_last uses last) word ≡ None → Turned command uses last place word
    no_option e f = fails (refuses_word command uses last place word (ap has_kind (long_fault_is None e))) (never_whole command _ f)

  -- what the rules of the words say is said of what the uses give
  step_by : (after : Uses) → given_at after ≡ given_last uses last → (f : Given → Option Given) → ((g : Given) → g.awaited ≡ None → with_word command g word ≡ f g)
      → step command (given_last uses last) word ≡ option_and_then f (given_at after)
  step_by after same f is = ap (λ (o : Option Given). step command o word) (sym same) ∙ step_as command (given_at after) word f (λ g e. is g (unawaited after g e))

  step_fails : Settled command uses last → ((g : Given) → g.awaited ≡ None → with_word command g word ≡ None) → step command (given_last uses last) word ≡ None
  step_fails (blocked e empty) is = step_none command _ word empty
  step_fails (settles after e held same) is = step_by after same (λ g. None) is ∙ none_as (given_at after) (λ g. None) (λ g. refl)

  strange_turn : (name : Text) (text : Option Text) → IsDashed word → long_of word ≡ Some (name, text) → ((choice : Choice) → bytes_eq (choice_id choice) name ≡ false)
      → choice_named word ≡ None → joined_of word ≡ None → Turned command uses last place word
  strange_turn name text dashed long other named joined =
      no_option name text long (none_by_long command name other)
      (step_fails (settle command uses last fits free) (λ g a. joined_word command g word None a named joined ∙ dashed_name g word dashed))

  -- an option with its text
  module _ (choice : Choice) (text : Text) (long : long_of word ≡ Some (choice_id choice, Some text)) (named : choice_named word ≡ None) (joined : joined_of word ≡ Some (choice, text)) where
    joins_no : is_option command choice ≡ false → Turned command uses last place word
    joins_no e = no_option (choice_id choice) (Some text) long (found_by_long command choice ∙ ap (λ (b : Bool). if b then Some (rule (of choice)) else None) e)
        (step_fails (settle command uses last fits free) (λ g a. joined_word command g word (Some (choice, text)) a named joined ∙ ap (λ (b : Bool). if b then with_value g choice text else None) e))

    chosen : is_option command choice ≡ true → (g : Given) → g.awaited ≡ None → with_word command g word ≡ with_value g choice text
    chosen e g a = joined_word command g word (Some (choice, text)) a named joined ∙ ap (λ (b : Bool). if b then with_value g choice text else None) e

    rule_is : is_option command choice ≡ true → w.arg_by_long c (choice_id choice) ≡ Some (rule (of choice))
    rule_is e = found_by_long command choice ∙ ap (λ (b : Bool). if b then Some (rule (of choice)) else None) e

    fault_by : is_option command choice ≡ true → here command uses last place word
        ≡ or_else (settle_fault c false h) (use_fault false (rule (of choice)) (text ∷ []) (settled c h).rows)
    fault_by e = long_fault_is (choice_id choice) (Some text) long (Some (rule (of choice))) (rule_is e)

    joins_at : is_option command choice ≡ true → (after : Uses) → settle_fault c false h ≡ [] → settled c h ≡ held_at after nothing → given_at after ≡ given_last uses last
        → (t : Bool) → has_row (choice_id choice) (rows_of_uses after) ≡ t → Turned command uses last place word
    joins_at e after clear held same true again =
        fails (refuses_word command uses last place word (ap has_kind (fault_by e)
        ∙ faulty_second (settle_fault c false h) _ (ap (λ (x : Held). has_kind (use_fault false (rule (of choice)) (text ∷ []) x.rows)) held ∙ use_fails (of choice) text (rows_of_uses after) again)))
        (never_whole command _ (step_by after same (λ g. with_value g choice text) (chosen e) ∙ given_twice after (of choice) text again))
    joins_at e after clear held same false fresh =
        let reads : met command uses last place word ≡ (reacted c (rule (of choice)) (text ∷ []) h, w.next w.idle) = met_by (choice_id choice) (Some text) long (Some (rule (of choice))) (rule_is e) in
        let now : reacted c (rule (of choice)) (text ∷ []) h ≡ held_at (with_use after (of choice) text) nothing =
        ap (λ (x : Held). record (held_at uses nothing) { rows = used (rule (of choice)) (text ∷ []) x.rows }) held
        ∙ ap (λ (rs : List Row). record (held_at uses nothing) { rows = rs }) (used_once (of choice) text after fresh) in
        let met_now : met command uses last place word ≡ (held_at (with_use after (of choice) text) nothing, w.next w.idle) = reads ∙ ap (λ (x : Held). (x, w.next w.idle)) now in
        let gives : given_at (with_use after (of choice) text) ≡ option_and_then (with_text (of choice) text) (given_at after) = given_more after (of choice) text fresh in
        moves (with_use after (of choice) text) nothing place tt
        (passes_word command uses last place word _ _ met_now
        (fault_by e ∙ ap (λ (k : Kinds). or_else k (use_fault false (rule (of choice)) (text ∷ []) (settled c h).rows)) clear
        ∙ ap (λ (x : Held). use_fault false (rule (of choice)) (text ∷ []) x.rows) held ∙ use_passes (of choice) text (rows_of_uses after) fresh) refl)
        (walks_to command uses last place word _ _ met_now)
        (gives ∙ sym (step_by after same (λ g. with_value g choice text) (chosen e)))
        (stands_same place _ _ (sym gives) (stands_kept place (given_at after) (with_text (of choice) text) (λ g. value_keeps g choice text) (stands_same place _ _ (sym same) stands))) (λ room. room)

    joins_yes : is_option command choice ≡ true → Settled command uses last → Turned command uses last place word
    joins_yes e (blocked block empty) = fails (refuses_word command uses last place word (ap has_kind (fault_by e) ∙ faulty_first (settle_fault c false h) _ block))
        (never_whole command _ (step_none command _ word empty))
    joins_yes e (settles after clear held same) = joins_at e after clear held same (has_row (choice_id choice) (rows_of_uses after)) refl

    joins_turn : (t : Bool) → is_option command choice ≡ t → Turned command uses last place word
    joins_turn true e = joins_yes e (settle command uses last fits free)
    joins_turn false e = joins_no e

  -- an option whose text is the next word
  module _ (choice : Choice) (long : long_of word ≡ Some (choice_id choice, None)) (named : choice_named word ≡ Some choice) where
    awaiting_as : (t : Bool) → is_option command choice ≡ t → (g : Given) → g.awaited ≡ None → with_word command g word ≡ (if t then Some (record g { awaited = Some choice }) else None)
    awaiting_as t e g a = free_word command g word (Some choice) a named ∙ ap (λ (b : Bool). if b then Some (record g { awaited = Some choice }) else None) e

    alone_yes : is_option command choice ≡ true → Settled command uses last → Turned command uses last place word
    alone_yes e (blocked block empty) =
        fails (refuses_word command uses last place word (ap has_kind (long_fault_is (choice_id choice) None long (Some (rule (of choice))) (found_by_long command choice ∙ ap (λ (b : Bool). if b then Some (rule (of choice)) else None) e)) ∙ block))
        (never_whole command _ (step_none command _ word empty))
    alone_yes e (settles after clear held same) =
        let found = found_by_long command choice ∙ ap (λ (b : Bool). if b then Some (rule (of choice)) else None) e in
        let met_now : met command uses last place word ≡ (held_at after (awaits choice), w.next (w.option (choice_id choice))) =
        met_by (choice_id choice) None long (Some (rule (of choice))) found
        ∙ ap (λ (x : Held). (record x { pending = Some (choice_id choice, []) }, w.next (w.option (choice_id choice)))) held in
        moves after (awaits choice) place e
        (passes_word command uses last place word _ _ met_now (long_fault_is (choice_id choice) None long (Some (rule (of choice))) found ∙ clear) refl)
        (walks_to command uses last place word _ _ met_now)
        (some_as (given_at after) (λ g. record g { awaited = Some choice }) ∙ sym (step_by after same (λ g. Some (record g { awaited = Some choice })) (awaiting_as true e)))
        (stands_awaiting place (given_at after) choice (stands_same place _ _ (sym same) stands)) (λ room. room)

    alone_turn : (t : Bool) → is_option command choice ≡ t → Turned command uses last place word
    alone_turn true e = alone_yes e (settle command uses last fits free)
    alone_turn false e = no_option (choice_id choice) None long (found_by_long command choice ∙ ap (λ (b : Bool). if b then Some (rule (of choice)) else None) e)
        (step_fails (settle command uses last fits free) (awaiting_as false e))

  -- ---- a name

  module _ (reads : met command uses last place word ≡ (h, w.value)) (clean : here command uses last place word ≡ []) (named : choice_named word ≡ None) (joined : joined_of word ≡ None) where
    name_as : (g : Given) → g.awaited ≡ None → with_word command g word ≡ with_name g word
    name_as g a = joined_word command g word None a named joined

    name_fault : (slot : Option Slot) → by_place command place ≡ slot
        → step_fault (shape command) (position_at place) h w.value ≡ option_map_or (λ (a : Rule). positional_fault c false a h) (option_map rule slot) (stray_fault (shape command))
    name_fault slot e = ap (λ (o : Option Rule). option_map_or (λ (a : Rule). positional_fault c false a h) o (stray_fault (shape command))) (found_by_index command place)
        ∙ ap (λ (s : Option Slot). option_map_or (λ (a : Rule). positional_fault c false a h) (option_map rule s) (stray_fault (shape command))) e

    surplus : by_place command place ≡ None → Settled command uses last → (words : List Text) → whole command (with_words command (step command (given_last uses last) word) words) ≡ None
    surplus e (blocked block empty) words = never_whole command _ (step_none command _ word empty) words
    surplus e (settles after clear held same) words =
        ap (λ (o : Option Given). whole command (with_words command (step command o word) words)) (sym same)
        ∙ stray command place e word (given_at after) (stands_same place _ _ (sym same) stands) (λ g is. name_as g (unawaited after g is)) words

    name_here : (slot : Slot) → by_place command place ≡ Some slot → step_fault (shape command) (position_at place) h w.value ≡ settle_fault c false h
    name_here slot e = name_fault (Some slot) e ∙ ap (λ (b : Bool). if b then [] else settle_fault c false h) (and_false (is_pending (rule slot) h.pending))

    name_walks : (slot : Slot) → by_place command place ≡ Some slot → (after : Uses) → settled c h ≡ held_at after nothing
        → walked c [] (start command uses last place word) word ≡ walk_at after (valued slot word) (next_place place)
    name_walks slot e after held =
        walks_to command uses last place word h w.value reads
        ∙ ap (λ (o : Option Rule). to_positional c o word (start command uses last place word) h) (found_by_index command place)
        ∙ ap (λ (s : Option Slot). to_positional c (option_map rule s) word (start command uses last place word) h) e
        ∙ ap (λ (b : Bool). stands_at (pushed (id_of slot) word (if b then h else settled c h)) (next_position (rule slot) (position_at place))) (and_false (is_pending (rule slot) h.pending))
        ∙ ap (λ (x : Held). stands_at (pushed (id_of slot) word x) (next_position (rule slot) (position_at place))) held
        ∙ ap (λ (n : ℕ). stands_at (held_at after (valued slot word)) n) (next_is command place slot e)

    name_turn : (slot : Option Slot) → by_place command place ≡ slot → Settled command uses last → Turned command uses last place word
    name_turn None e s = fails (refuses_step command uses last place word h w.value reads (ap has_kind (name_fault None e))) (surplus e s)
    name_turn (Some slot) e (blocked block empty) =
        fails (refuses_step command uses last place word h w.value reads (ap has_kind (name_here slot e) ∙ block)) (never_whole command _ (step_none command _ word empty))
    name_turn (Some slot) e (settles after clear held same) =
        let stood = stands_same place (given_last uses last) (given_at after) (sym same) stands in
        let gives : step command (given_last uses last) word ≡ option_and_then (with_text slot word) (given_at after) =
        ap (λ (o : Option Given). step command o word) (sym same)
        ∙ step_as command (given_at after) word (with_text slot word) (λ g is. name_as g (unawaited after g is) ∙ name_gives command place slot e g word (stood g is)) in
        moves after (valued slot word) (next_place place) (place_fits command place slot e)
        (passes_word command uses last place word h w.value reads clean (name_here slot e ∙ clear))
        (name_walks slot e after held) (sym gives) (stands_next command place slot e (given_at after) word stood) (λ room. next_room command place slot e)

  plain_word_is : plain_word c (waiting_at last) word h ≡ (h, w.value)
  plain_word_is = ap (λ (x : Waiting). plain_word c x word h) (idle_at last free)

  plain_turn : long_of word ≡ None → short_of word ≡ None → choice_named word ≡ None → joined_of word ≡ None → Turned command uses last place word
  plain_turn long short named joined =
      name_turn
      (met_is command (waiting_at last) (position_at place) word h more ∙ ap (λ (o : Option (Text × Option Text)). long_or_other c (waiting_at last) word o h) long
      ∙ ap (λ (o : Option Text). short_or_plain c (waiting_at last) word o h) short ∙ plain_word_is)
      (fault_is command (waiting_at last) (position_at place) word h more ∙ ap (λ (o : Option (Text × Option Text)). flag_word_fault c false o word h) long
      ∙ ap (λ (o : Option Text). option_map_or (λ (t : Text). bundle_fault c false t h) o []) short)
      named joined (by_place command place) refl (settle command uses last fits free)

  -- flags behind one hyphen
  module _ (text : Text) (dashed : IsDashed word) (long : long_of word ≡ None) (short : short_of word ≡ Some text) (named : choice_named word ≡ None) (joined : joined_of word ≡ None) where
    flags_here : here command uses last place word ≡ flags_fault c false (length text) text 0 h
    flags_here = fault_is command (waiting_at last) (position_at place) word h more ∙ ap (λ (o : Option (Text × Option Text)). flag_word_fault c false o word h) long
        ∙ ap (λ (o : Option Text). option_map_or (λ (t : Text). bundle_fault c false t h) o []) short

    flags_by : Flags command text h (length text) → Turned command uses last place word
    flags_by (fault e) = fails (refuses_word command uses last place word (ap has_kind flags_here ∙ e))
        (never_whole command _ (step_fails (settle command uses last fits free) (λ g a. joined_word command g word None a named joined ∙ dashed_name g word dashed)))
    flags_by (passed clear met_as) =
        name_turn
        (met_is command (waiting_at last) (position_at place) word h more ∙ ap (λ (o : Option (Text × Option Text)). long_or_other c (waiting_at last) word o h) long
        ∙ ap (λ (o : Option Text). short_or_plain c (waiting_at last) word o h) short
        ∙ ap (λ (p : Held × Outcome). after_flag c (waiting_at last) word p.0 p.1) met_as ∙ plain_word_is)
        (flags_here ∙ clear) named joined (by_place command place) refl (settle command uses last fits free)

  free_turn : Kind word → Turned command uses last place word
  free_turn (joins choice text dashed long named joined) = joins_turn choice text long named joined (is_option command choice) refl
  free_turn (alone choice dashed long named) = alone_turn choice long named (is_option command choice) refl
  free_turn (strange name text dashed long other named joined) = strange_turn name text dashed long other named joined
  free_turn (flags text dashed long short named joined) = flags_by text dashed long short named joined (flags_are command text h (length text))
  free_turn (plain long short named joined) = plain_turn long short named joined

-- ---- an option is awaited

same_id : (choice : Choice) → bytes_eq (choice_id choice) (choice_id choice) ≡ true
same_id choice = (bytes_eq-Decides (choice_id choice) (choice_id choice)).1 refl

awaited_step : (command : Command) (o : Option Given) (choice : Choice) (word : Text)
    → step command (option_map (λ (g : Given). record g { awaited = Some choice }) o) word ≡ option_and_then (λ (g : Given). with_value g choice word) o
awaited_step command None choice word = refl
awaited_step command (Some g) choice word = awaited_same g choice word

module _ (command : Command) (uses : Uses) (choice : Choice) (place : Place) (word : Text) (more : bytes_eq word (codes "--") ≡ false)
    (fits : is_option command choice ≡ true) (stands : Stands place (given_last uses (awaits choice))) where
  abbrev rs : List Rule
  rs = rules command

  abbrev k : Held
  k = held_at uses (awaits choice)

  long_blocked : (a : Option Choice) (t : Bool) (text : Option Text) → Faulty (long_fault rs false (option_and_then (λ (x : Choice). if t then Some (rule (of x)) else None) a) text k)
  long_blocked None t text = refl
  long_blocked (Some x) false text = refl
  long_blocked (Some x) true (Some text) = faulty_first (settle_fault rs false k) _ (awaited_fault command uses choice fits)
  long_blocked (Some x) true None = awaited_fault command uses choice fits

  awaited_none : IsDashed word → step command (given_last uses (awaits choice)) word ≡ None
  awaited_none dashed = awaited_step command (given_at uses) choice word ∙ none_as (given_at uses) (λ g. with_value g choice word) (λ g. dashed_value g choice word dashed)

  long_turn : (name : Text) (text : Option Text) (a : Option Choice) (t : Bool) → IsDashed word → long_of word ≡ Some (name, text)
      → w.arg_by_long rs name ≡ option_and_then (λ (x : Choice). if t then Some (rule (of x)) else None) a → Turned command uses (awaits choice) place word
  long_turn name text a t dashed long found =
      fails (refuses_word command uses (awaits choice) place word
      (ap has_kind (fault_is command (w.option (choice_id choice)) (position_at place) word k more ∙ ap (λ (o : Option (Text × Option Text)). flag_word_fault rs false o word k) long
      ∙ ap (λ (x : Option Rule). long_fault rs false x text k) found) ∙ long_blocked a t text))
      (never_whole command _ (awaited_none dashed))

  value_turn : met command uses (awaits choice) place word ≡ plain_word rs (w.option (choice_id choice)) word k → here command uses (awaits choice) place word ≡ []
      → Turned command uses (awaits choice) place word
  value_turn reads clean =
      let met_now : met command uses (awaits choice) place word ≡ (held_at uses (valued (of choice) word), w.next w.idle) =
      reads ∙ ap (λ (o : Option Rule). ((option_word o (choice_id choice) word k).0, w.next (option_word o (choice_id choice) word k).1)) (found_by_id command (of choice) fits)
      ∙ ap (λ (b : Bool). (held_at uses (valued (of choice) word), w.next (if nat_lt (if b then 1 else 0) 1 then w.option (choice_id choice) else w.idle))) (same_id choice) in
      moves uses (valued (of choice) word) place fits
      (passes_word command uses (awaits choice) place word _ _ met_now clean refl)
      (walks_to command uses (awaits choice) place word _ _ met_now)
      (sym (awaited_step command (given_at uses) choice word))
      (stands_kept place (given_at uses) (with_text (of choice) word) (λ g. value_keeps g choice word) (stands_unawaiting place (given_at uses) choice stands)) (λ room. room)

  plain_value : long_of word ≡ None → short_of word ≡ None → Turned command uses (awaits choice) place word
  plain_value long short =
      value_turn
      (met_is command (w.option (choice_id choice)) (position_at place) word k more ∙ ap (λ (o : Option (Text × Option Text)). long_or_other rs (w.option (choice_id choice)) word o k) long
      ∙ ap (λ (o : Option Text). short_or_plain rs (w.option (choice_id choice)) word o k) short)
      (fault_is command (w.option (choice_id choice)) (position_at place) word k more ∙ ap (λ (o : Option (Text × Option Text)). flag_word_fault rs false o word k) long
      ∙ ap (λ (o : Option Text). option_map_or (λ (t : Text). bundle_fault rs false t k) o []) short)

  flags_value : (text : Text) → IsDashed word → long_of word ≡ None → short_of word ≡ Some text → Flags command text k (length text) → Turned command uses (awaits choice) place word
  flags_value text dashed long short f = go f
    where
      flags_there : here command uses (awaits choice) place word ≡ flags_fault rs false (length text) text 0 k
      flags_there = fault_is command (w.option (choice_id choice)) (position_at place) word k more ∙ ap (λ (o : Option (Text × Option Text)). flag_word_fault rs false o word k) long
          ∙ ap (λ (o : Option Text). option_map_or (λ (t : Text). bundle_fault rs false t k) o []) short

      go : Flags command text k (length text) → Turned command uses (awaits choice) place word
      go (fault e) = fails (refuses_word command uses (awaits choice) place word (ap has_kind flags_there ∙ e)) (never_whole command _ (awaited_none dashed))
      go (passed clear met_as) =
          value_turn
          (met_is command (w.option (choice_id choice)) (position_at place) word k more ∙ ap (λ (o : Option (Text × Option Text)). long_or_other rs (w.option (choice_id choice)) word o k) long
          ∙ ap (λ (o : Option Text). short_or_plain rs (w.option (choice_id choice)) word o k) short
          ∙ ap (λ (p : Held × Outcome). after_flag rs (w.option (choice_id choice)) word p.0 p.1) met_as)
          (flags_there ∙ clear)

  awaited_turn : Kind word → Turned command uses (awaits choice) place word
  awaited_turn (joins other text dashed long named joined) = long_turn (choice_id other) (Some text) (Some other) (is_option command other) dashed long (found_by_long command other)
  awaited_turn (alone other dashed long named) = long_turn (choice_id other) None (Some other) (is_option command other) dashed long (found_by_long command other)
  awaited_turn (strange name text dashed long other named joined) = long_turn name text None true dashed long (none_by_long command name other)
  awaited_turn (flags text dashed long short named joined) = flags_value text dashed long short (flags_are command text k (length text))
  awaited_turn (plain long short named joined) = plain_value long short

-- each word
pub turn : (command : Command) (uses : Uses) (last : Last) (place : Place) (word : Text) → bytes_eq word (codes "--") ≡ false → Fits command last → Stands place (given_last uses last)
    → Turned command uses last place word
turn command uses nothing place word more fits stands = free_turn command uses nothing place word more fits tt stands (kind word more)
turn command uses (valued slot text) place word more fits stands = free_turn command uses (valued slot text) place word more fits tt stands (kind word more)
turn command uses (awaits choice) place word more fits stands = awaited_turn command uses choice place word more fits stands (kind word more)
