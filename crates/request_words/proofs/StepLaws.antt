-- What one more word does to a parse, and to what the words give.
use Rattle.std.proofs.Common.{◌≡◌, ◌∙◌, ℕ, zero, suc, List, [], ◌∷◌, Bool, true, false, Option, Some, None, codes, refl, sym, ap, subst, length, drop, true≢false, option_map}
use Rattle.std.specs.Prelude.{if◌then◌else◌, slice_get, encode_utf8}
use Rattle.std.specs.Option.{option_map_or}
use Rattle.std.specs.Str.{bytes_eq, chars}
use Rattle.clap.specs.Lexer.{long_of}
use Rattle.clap.specs.Kinds.{Kinds, or_else}
use Rattle.clap.specs.Walk.{Held, Outcome, Row, Rule, Step, Text, Waiting, Walk, after_flag, after_step, arg_by_id, arg_by_index, arg_by_long, arg_by_short, bundle_met, bundle_step, has_row, idle, is_empty, is_pending, long_met, long_or_other, long_word, most_values, next, next_position, option, option_met, option_word, pending_count, plain_word, positional_held, pushed, reacted, settled, settled_rows, short_or_plain, short_word, subcommand_met, subcommand_or_other, to_positional, used, used_by_id, value, walked, word_met}
use Rattle.clap.specs.Walk as w
use Rattle.clap.specs.Faults.{bundle_step_fault, flag_word_fault, flags_fault, other_fault, settle_fault, short_fault, use_fault, word_fault}
use Rattle.request_words.specs.declared.options.Choice.{Choice}
use Rattle.request_words.specs.declared.options.Choice.TheVariants.{OfModel, OfUnits, OfLearn, OfWorkers, OfTurns, OfCert, OfRun, OfWitness}
use Rattle.request_words.specs.declared.commands.Command.{Command}
use Rattle.request_words.specs.declared.commands.Command.TheVariants.{Check, Verify, Replay, Generate}
use Rattle.request_words.specs.Words.{is_option}
use Rattle.request_words.proofs.WordWalk.{Last, Place, Slot, Uses, awaits, choice_id, first, held_at, id_of, none, nothing, of, one, position_at, rule, rules, second, shape, two, valued}
use Rattle.request_words.proofs.UseLaws.{rows_of_uses, used_once, with_use}

-- ---- the arguments of a command

abbrev pub has_slot : Command → Slot → Bool
has_slot command first = true
has_slot Check second = true
has_slot Verify second = false
has_slot Replay second = true
has_slot Generate second = false
has_slot command (of choice) = is_option command choice

abbrev pub Fits : Command → Last → Type 0
Fits command nothing = Unit {0}
Fits command (valued slot text) = has_slot command slot ≡ true
Fits command (awaits choice) = is_option command choice ≡ true

pub found_by_id : (command : Command) (slot : Slot) → has_slot command slot ≡ true → arg_by_id (rules command) (id_of slot) ≡ Some (rule slot)
found_by_id Check first e = refl
found_by_id Check second e = refl
found_by_id Check (of OfModel) e = refl
found_by_id Check (of OfWorkers) e = refl
found_by_id Check (of OfUnits) e = absurd (true≢false (sym e))
found_by_id Check (of OfLearn) e = absurd (true≢false (sym e))
found_by_id Check (of OfCert) e = absurd (true≢false (sym e))
found_by_id Check (of OfRun) e = absurd (true≢false (sym e))
found_by_id Check (of OfWitness) e = absurd (true≢false (sym e))
found_by_id Check (of OfTurns) e = absurd (true≢false (sym e))
found_by_id Replay first e = refl
found_by_id Replay second e = refl
found_by_id Replay (of OfModel) e = refl
found_by_id Replay (of OfTurns) e = refl
found_by_id Replay (of OfUnits) e = absurd (true≢false (sym e))
found_by_id Replay (of OfLearn) e = absurd (true≢false (sym e))
found_by_id Replay (of OfWorkers) e = absurd (true≢false (sym e))
found_by_id Replay (of OfCert) e = absurd (true≢false (sym e))
found_by_id Replay (of OfRun) e = absurd (true≢false (sym e))
found_by_id Replay (of OfWitness) e = absurd (true≢false (sym e))
found_by_id Verify first e = refl
found_by_id Verify (of OfTurns) e = absurd (true≢false (sym e))
found_by_id Verify second e = absurd (true≢false (sym e))
found_by_id Verify (of OfModel) e = refl
found_by_id Verify (of OfWorkers) e = refl
found_by_id Verify (of OfUnits) e = refl
found_by_id Verify (of OfLearn) e = refl
found_by_id Verify (of OfCert) e = refl
found_by_id Verify (of OfRun) e = refl
found_by_id Verify (of OfWitness) e = refl
found_by_id Generate first e = refl
found_by_id Generate second e = absurd (true≢false (sym e))
found_by_id Generate (of choice) e = absurd (true≢false (sym e))

abbrev pub option_rule_of : Command → Choice → Option Rule
option_rule_of command choice = if is_option command choice then Some (rule (of choice)) else None

pub found_by_long : (command : Command) (choice : Choice) → arg_by_long (rules command) (choice_id choice) ≡ option_rule_of command choice
found_by_long Check OfModel = refl
found_by_long Check OfWorkers = refl
found_by_long Check OfUnits = refl
found_by_long Check OfLearn = refl
found_by_long Check OfCert = refl
found_by_long Check OfRun = refl
found_by_long Check OfWitness = refl
found_by_long Check OfTurns = refl
found_by_long Verify OfTurns = refl
found_by_long Replay OfModel = refl
found_by_long Replay OfUnits = refl
found_by_long Replay OfLearn = refl
found_by_long Replay OfWorkers = refl
found_by_long Replay OfTurns = refl
found_by_long Replay OfCert = refl
found_by_long Replay OfRun = refl
found_by_long Replay OfWitness = refl
found_by_long Verify OfModel = refl
found_by_long Verify OfWorkers = refl
found_by_long Verify OfUnits = refl
found_by_long Verify OfLearn = refl
found_by_long Verify OfCert = refl
found_by_long Verify OfRun = refl
found_by_long Verify OfWitness = refl
found_by_long Generate OfModel = refl
found_by_long Generate OfUnits = refl
found_by_long Generate OfLearn = refl
found_by_long Generate OfWorkers = refl
found_by_long Generate OfTurns = refl
found_by_long Generate OfCert = refl
found_by_long Generate OfRun = refl
found_by_long Generate OfWitness = refl

pub none_by_long : (command : Command) (name : Text) → ((choice : Choice) → bytes_eq (choice_id choice) name ≡ false) → arg_by_long (rules command) name ≡ None
none_by_long Check name other =
    let m : bytes_eq (choice_id OfModel) name ≡ false = other OfModel in
    let w : bytes_eq (choice_id OfWorkers) name ≡ false = other OfWorkers in
    rw (m, w) refl
none_by_long Replay name other =
    let m : bytes_eq (choice_id OfModel) name ≡ false = other OfModel in
    let n : bytes_eq (choice_id OfTurns) name ≡ false = other OfTurns in
    rw (m, n) refl
none_by_long Verify name other =
    let m : bytes_eq (choice_id OfModel) name ≡ false = other OfModel in
    let u : bytes_eq (choice_id OfUnits) name ≡ false = other OfUnits in
    let l : bytes_eq (choice_id OfLearn) name ≡ false = other OfLearn in
    let w : bytes_eq (choice_id OfWorkers) name ≡ false = other OfWorkers in
    let c : bytes_eq (choice_id OfCert) name ≡ false = other OfCert in
    let r : bytes_eq (choice_id OfRun) name ≡ false = other OfRun in
    let t : bytes_eq (choice_id OfWitness) name ≡ false = other OfWitness in
    rw (m, u, l, w, c, r, t) refl
none_by_long Generate name other = refl

pub none_by_short : (command : Command) (x : ℕ) → arg_by_short (rules command) x ≡ None
none_by_short Check x = refl
none_by_short Verify x = refl
none_by_short Replay x = refl
none_by_short Generate x = refl

abbrev pub by_place : Command → Place → Option Slot
by_place command none = Some first
by_place Check one = Some second
by_place Verify one = None
by_place Replay one = Some second
by_place Generate one = None
by_place command two = None

abbrev pub next_place : Place → Place
next_place none = one
next_place one = two
next_place two = two

pub found_by_index : (command : Command) (place : Place) → arg_by_index (rules command) (position_at place) ≡ option_map rule (by_place command place)
found_by_index Check none = refl
found_by_index Check one = refl
found_by_index Check two = refl
found_by_index Replay none = refl
found_by_index Replay one = refl
found_by_index Replay two = refl
found_by_index Verify none = refl
found_by_index Verify one = refl
found_by_index Verify two = refl
found_by_index Generate none = refl
found_by_index Generate one = refl
found_by_index Generate two = refl

pub next_is : (command : Command) (place : Place) (slot : Slot) → by_place command place ≡ Some slot → next_position (rule slot) (position_at place) ≡ position_at (next_place place)
next_is command none slot e = refl
next_is command one slot e = refl
next_is command two slot e = cc

pub place_fits : (command : Command) (place : Place) (slot : Slot) → by_place command place ≡ Some slot → has_slot command slot ≡ true
place_fits Check none slot e = let is : first ≡ slot = cc in subst (λ (s : Slot). has_slot Check s ≡ true) is refl
place_fits Check one slot e = let is : second ≡ slot = cc in subst (λ (s : Slot). has_slot Check s ≡ true) is refl
place_fits Check two slot e = cc
place_fits Replay none slot e = let is : first ≡ slot = cc in subst (λ (s : Slot). has_slot Replay s ≡ true) is refl
place_fits Replay one slot e = let is : second ≡ slot = cc in subst (λ (s : Slot). has_slot Replay s ≡ true) is refl
place_fits Replay two slot e = cc
place_fits Verify none slot e = let is : first ≡ slot = cc in subst (λ (s : Slot). has_slot Verify s ≡ true) is refl
place_fits Verify one slot e = cc
place_fits Verify two slot e = cc
place_fits Generate none slot e = let is : first ≡ slot = cc in subst (λ (s : Slot). has_slot Generate s ≡ true) is refl
place_fits Generate one slot e = cc
place_fits Generate two slot e = cc

-- ---- what is not used so far is used

abbrev pub has_kind : Kinds → Bool
has_kind [] = false
has_kind (kind ∷ kinds) = true

abbrev pub Faulty : Kinds → Type 0
Faulty kinds = has_kind kinds ≡ true

pub faulty_first : (a b : Kinds) → Faulty a → Faulty (or_else a b)
faulty_first [] b e = absurd (true≢false (sym e))
faulty_first (k ∷ ks) b e = e

pub faulty_second : (a b : Kinds) → Faulty b → Faulty (or_else a b)
faulty_second [] b e = e
faulty_second (k ∷ ks) b e = refl

pub use_passes : (slot : Slot) (text : Text) (rows : List Row) → has_row (id_of slot) rows ≡ false → use_fault false (rule slot) (text ∷ []) rows ≡ []
use_passes slot text rows e = rw e refl

pub use_fails : (slot : Slot) (text : Text) (rows : List Row) → has_row (id_of slot) rows ≡ true → Faulty (use_fault false (rule slot) (text ∷ []) rows)
use_fails slot text rows e = rw e refl

module _ (command : Command) (uses : Uses) where
  pub valued_fault : (slot : Slot) (text : Text) → has_slot command slot ≡ true
      → settle_fault (rules command) false (held_at uses (valued slot text)) ≡ use_fault false (rule slot) (text ∷ []) (rows_of_uses uses)
  valued_fault slot text fits = ap (λ (o : Option Rule). option_map_or (λ (a : Rule). use_fault false a (text ∷ []) (rows_of_uses uses)) o []) (found_by_id command slot fits)

  pub valued_settles : (slot : Slot) (text : Text) → has_slot command slot ≡ true → has_row (id_of slot) (rows_of_uses uses) ≡ false
      → settled (rules command) (held_at uses (valued slot text)) ≡ held_at (with_use uses slot text) nothing
  valued_settles slot text fits fresh =
      ap (λ (o : Option Rule). record (held_at uses nothing) { rows = used_by_id o (text ∷ []) (rows_of_uses uses) }) (found_by_id command slot fits)
      ∙ ap (λ (rs : List Row). record (held_at uses nothing) { rows = rs }) (used_once slot text uses fresh)

  pub awaited_fault : (choice : Choice) → is_option command choice ≡ true → Faulty (settle_fault (rules command) false (held_at uses (awaits choice)))
  awaited_fault choice fits = ap (λ (o : Option Rule). has_kind (option_map_or (λ (a : Rule). use_fault false a [] (rows_of_uses uses)) o [])) (found_by_id command (of choice) fits)

-- ---- what a word is taken for

no_subcommand : (waiting : Waiting) (word : Text) → subcommand_met [] waiting word ≡ None
no_subcommand w.idle word = refl
no_subcommand (w.option id) word = refl
no_subcommand w.positional word = refl

module _ (command : Command) (waiting : Waiting) (position : ℕ) (word : Text) (h : Held) (more : bytes_eq word (codes "--") ≡ false) where
  pub met_is : word_met (rules command) [] false waiting position word h ≡ long_or_other (rules command) waiting word (long_of word) h
  met_is = ap (λ (o : Option Text). subcommand_or_other (rules command) o waiting position word h) (no_subcommand waiting word)
      ∙ ap (λ (t : Bool). if t then (h, w.trailing position) else long_or_other (rules command) waiting word (long_of word) h) more

  pub fault_is : word_fault (shape command) [] false waiting word h ≡ flag_word_fault (rules command) false (long_of word) word h
  fault_is = ap (λ (o : Option Text). other_fault (shape command) o word h) (no_subcommand waiting word)
      ∙ ap (λ (t : Bool). if t then [] else flag_word_fault (rules command) false (long_of word) word h) more

-- ---- flags of one hyphen

pub data Flags (command : Command) (flags : Text) (h : Held) (k : ℕ) : Type 0 where
  fault : Faulty (flags_fault (rules command) false k flags 0 h) → Flags command flags h k
  passed : flags_fault (rules command) false k flags 0 h ≡ [] → bundle_met (rules command) k flags 0 w.plain h ≡ (h, w.plain) → Flags command flags h k

flags_at : (command : Command) (flags : Text) (h : Held) (k : ℕ) (x : Option ℕ) → slice_get (chars flags) 0 ≡ x → Flags command flags h (suc k)
unfolding flags_fault bundle_met
flags_at command flags h k None e = passed
    (ap (λ (o : Option ℕ). bundle_step_fault (rules command) false o flags 0 h (flags_fault (rules command) false k)) e)
    (ap (λ (o : Option ℕ). bundle_step (rules command) o flags 0 w.plain h (bundle_met (rules command) k)) e)
flags_at command flags h k (Some x) e = fault
    (ap (λ (o : Option ℕ). has_kind (bundle_step_fault (rules command) false o flags 0 h (flags_fault (rules command) false k))) e
    ∙ ap (λ (a : Option Rule). has_kind (short_fault (rules command) false a (drop (length (encode_utf8 x)) flags) h (flags_fault (rules command) false k (drop (length (encode_utf8 x)) flags) 0))) (none_by_short command x))

pub flags_are : (command : Command) (flags : Text) (h : Held) (k : ℕ) → Flags command flags h k
unfolding flags_fault bundle_met
flags_are command flags h zero = passed refl refl
flags_are command flags h (suc k) = flags_at command flags h k (slice_get (chars flags) 0) refl
