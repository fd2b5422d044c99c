-- What one more word gives, by the rules of the words.
use Rattle.std.proofs.Common.{◌≡◌, ◌∙◌, ℕ, suc, List, [], ◌∷◌, Bool, true, false, Option, Some, None, is_some, refl, sym, ap, subst, length, true≢false, option_map, ne_eqb, arith}
use Rattle.std.specs.Prelude.{◌||◌, ◌==◌, if◌then◌else◌, option_and_then}
use Rattle.std.specs.List.{list_all}
use Rattle.lv_base.specs.declared.kind.Model.{Model}
use Rattle.clap.specs.Walk.{Text}
use Rattle.request_words.specs.declared.options.Choice.{Choice}
use Rattle.request_words.specs.declared.options.Choice.TheVariants.{OfModel, OfUnits, OfLearn, OfWorkers, OfTurns, OfCert, OfRun, OfWitness}
use Rattle.request_words.specs.declared.commands.Command.{Command}
use Rattle.request_words.specs.declared.commands.Command.TheVariants.{Verify, Generate}
use Rattle.request_words.specs.Options.{choice_named, joined_of}
use Rattle.request_words.specs.Texts.{has_all, whole}
use Rattle.request_words.specs.Values.{is_name_byte, is_name_of, model_of, number_behind, number_of}
use Rattle.request_words.specs.Words.{Given, is_option, name_once, with_cert, with_free, with_joined, with_learn, with_model, with_name, with_name_at, with_run, with_turns, with_units, with_value, with_witness, with_word, with_word_at, with_words, with_workers}
use Rattle.request_words.proofs.WordWalk.{Last, Place, Uses, awaits, first, none, nothing, one, second, two, valued}
use Rattle.request_words.proofs.GivenLaws.{given_at, once, with_text}
use Rattle.request_words.proofs.WordKinds.{IsDashed}

-- what the uses give, with what is not used so far
abbrev pub given_last : Uses → Last → Option Given
given_last uses nothing = given_at uses
given_last uses (valued slot text) = option_and_then (with_text slot text) (given_at uses)
given_last uses (awaits choice) = option_map (λ (g : Given). record g { awaited = Some choice }) (given_at uses)

abbrev pub step : Command → Option Given → Text → Option Given
step command None word = None
step command (Some given) word = with_word command given word

pub no_words : (command : Command) (words : List Text) → with_words command None words ≡ None
no_words command [] = refl
no_words command (w ∷ words) = refl

pub one_word : (command : Command) (o : Option Given) (word : Text) (words : List Text) → with_words command o (word ∷ words) ≡ with_words command (step command o word) words
one_word command None word words = sym (no_words command words)
one_word command (Some given) word words = refl

pub never_whole : (command : Command) (o : Option Given) → o ≡ None → (words : List Text) → whole command (with_words command o words) ≡ None
never_whole command o e words = ap (λ (x : Option Given). whole command (with_words command x words)) e ∙ ap (whole command) (no_words command words)

pub step_none : (command : Command) (o : Option Given) (word : Text) → o ≡ None → step command o word ≡ None
step_none command o word e = ap (λ (x : Option Given). step command x word) e

pub step_as : (command : Command) (o : Option Given) (word : Text) (f : Given → Option Given) → ((g : Given) → o ≡ Some g → with_word command g word ≡ f g)
    → step command o word ≡ option_and_then f o
step_as command None word f e = refl
step_as command (Some g) word f e = e g refl

pub none_as : (o : Option Given) (f : Given → Option Given) → ((g : Given) → f g ≡ None) → option_and_then f o ≡ None
none_as None f e = refl
none_as (Some g) f e = e g

pub some_as : (o : Option Given) (f : Given → Given) → option_map f o ≡ option_and_then (λ (g : Given). Some (f g)) o
some_as None f = refl
some_as (Some g) f = refl

-- ---- no option is awaited of what uses give

if_some : {X : Type 0} (b : Bool) (x y : X) → (if b then Some x else None) ≡ Some y → x ≡ y
if_some true x y e = cc
if_some false x y e = absurd (cc)

pub unawaited : (uses : Uses) (g : Given) → given_at uses ≡ Some g → g.awaited ≡ None
unawaited uses g e = ap (λ (x : Given). x.awaited) (sym (if_some _ _ g e))

-- ---- a word behind a hyphen is no value and no name

pub some_length : (n : ℕ) → (suc n == 0) ≡ false
some_length n = ne_eqb (suc n) 0 (λ e. omega arith)

none_number : (most : ℕ) (rest : Text) → number_behind most None rest ≡ None
none_number most [] = refl
none_number most (b ∷ rest) = refl

dashed_number : (most : ℕ) (rest : Text) → number_of most (45 ∷ rest) ≡ None
dashed_number most rest = ap (λ (b : Bool). if b || false then None else number_behind most None rest) (some_length (length rest)) ∙ none_number most rest

pub hyphen_name : (rest : Text) → is_name_of (45 ∷ rest) ≡ false
hyphen_name rest = ap (λ (b : Bool). if b || true then false else list_all is_name_byte (45 ∷ rest)) (some_length (length rest))

model_none : (g : Given) (o : Option Model) → with_model g o None ≡ None
model_none g None = refl
model_none g (Some m) = refl

units_none : (g : Given) (o : Option ℕ) → with_units g o None ≡ None
units_none g None = refl
units_none g (Some m) = refl

learn_none : (g : Given) (o : Option ℕ) → with_learn g o None ≡ None
learn_none g None = refl
learn_none g (Some m) = refl

workers_none : (g : Given) (o : Option ℕ) → with_workers g o None ≡ None
workers_none g None = refl
workers_none g (Some m) = refl

turns_none : (g : Given) (o : Option ℕ) → with_turns g o None ≡ None
turns_none g None = refl
turns_none g (Some m) = refl

once_none : (o : Option Text) (rest : Text) → name_once o (45 ∷ rest) ≡ None
once_none None rest = ap (λ (b : Bool). if b then Some (45 ∷ rest) else None) (hyphen_name rest)
once_none (Some m) rest = refl

hyphen_value : (g : Given) (choice : Choice) (rest : Text) → with_value g choice (45 ∷ rest) ≡ None
hyphen_value g OfModel rest = model_none g g.model
hyphen_value g OfUnits rest = ap (with_units g g.units) (dashed_number 10000000 rest) ∙ units_none g g.units
hyphen_value g OfLearn rest = ap (with_learn g g.learn) (dashed_number 100000000 rest) ∙ learn_none g g.learn
hyphen_value g OfWorkers rest = ap (with_workers g g.workers) (dashed_number 64 rest) ∙ workers_none g g.workers
hyphen_value g OfTurns rest = ap (with_turns g g.turns) (dashed_number 1000000000 rest) ∙ turns_none g g.turns
hyphen_value g OfCert rest = ap (option_map (with_cert g)) (once_none g.cert rest)
hyphen_value g OfRun rest = ap (option_map (with_run g)) (once_none g.run rest)
hyphen_value g OfWitness rest = ap (option_map (with_witness g)) (once_none g.witness rest)

pub dashed_value : (g : Given) (choice : Choice) (word : Text) → IsDashed word → with_value g choice word ≡ None
dashed_value g choice word d = ap (with_value g choice) d.is ∙ hyphen_value g choice d.rest

pub dashed_name : (g : Given) (word : Text) → IsDashed word → with_name g word ≡ None
dashed_name g word d = ap (with_name g) d.is ∙ ap (λ (b : Bool). if b then with_name_at g g.first g.second (45 ∷ d.rest) else None) (hyphen_name d.rest)

-- ---- a value is the same for what awaits it

model_same : (g : Given) (x : Option Choice) (a b : Option Model) → with_model (record g { awaited = x }) a b ≡ with_model g a b
model_same g x None None = refl
model_same g x None (Some m) = refl
model_same g x (Some k) None = refl
model_same g x (Some k) (Some m) = refl

units_same : (g : Given) (x : Option Choice) (a b : Option ℕ) → with_units (record g { awaited = x }) a b ≡ with_units g a b
units_same g x None None = refl
units_same g x None (Some m) = refl
units_same g x (Some k) None = refl
units_same g x (Some k) (Some m) = refl

learn_same : (g : Given) (x : Option Choice) (a b : Option ℕ) → with_learn (record g { awaited = x }) a b ≡ with_learn g a b
learn_same g x None None = refl
learn_same g x None (Some m) = refl
learn_same g x (Some k) None = refl
learn_same g x (Some k) (Some m) = refl

workers_same : (g : Given) (x : Option Choice) (a b : Option ℕ) → with_workers (record g { awaited = x }) a b ≡ with_workers g a b
workers_same g x None None = refl
workers_same g x None (Some m) = refl
workers_same g x (Some k) None = refl
workers_same g x (Some k) (Some m) = refl

turns_same : (g : Given) (x : Option Choice) (a b : Option ℕ) → with_turns (record g { awaited = x }) a b ≡ with_turns g a b
turns_same g x None None = refl
turns_same g x None (Some m) = refl
turns_same g x (Some k) None = refl
turns_same g x (Some k) (Some m) = refl

pub awaited_same : (g : Given) (choice : Choice) (word : Text) → with_value (record g { awaited = Some choice }) choice word ≡ with_value g choice word
awaited_same g OfModel word = model_same g (Some OfModel) g.model (model_of word)
awaited_same g OfUnits word = units_same g (Some OfUnits) g.units (number_of 10000000 word)
awaited_same g OfLearn word = learn_same g (Some OfLearn) g.learn (number_of 100000000 word)
awaited_same g OfWorkers word = workers_same g (Some OfWorkers) g.workers (number_of 64 word)
awaited_same g OfTurns word = turns_same g (Some OfTurns) g.turns (number_of 1000000000 word)
awaited_same g OfCert word = refl
awaited_same g OfRun word = refl
awaited_same g OfWitness word = refl

-- ---- how many names there are

abbrev pub At : Place → Given → Type 0
At none g = (g.first ≡ None) × (g.second ≡ None)
At one g = (is_some g.first ≡ true) × (g.second ≡ None)
At two g = (is_some g.first ≡ true) × (is_some g.second ≡ true)

abbrev pub Stands : Place → Option Given → Type 0
Stands place o = (g : Given) → o ≡ Some g → At place g

-- the names stay
abbrev Keeps : Given → Option Given → Type 0
Keeps g o = (h : Given) → o ≡ Some h → (h.first ≡ g.first) × (h.second ≡ g.second)

keeps_none : (g : Given) → Keeps g None
keeps_none g h e = absurd (cc)

keeps_some : (g x : Given) → x.first ≡ g.first → x.second ≡ g.second → Keeps g (Some x)
keeps_some g x a b h e = let is : x ≡ h = cc in (ap (λ (y : Given). y.first) (sym is) ∙ a, ap (λ (y : Given). y.second) (sym is) ∙ b)

keeps_model : (g : Given) (a b : Option Model) → Keeps g (with_model g a b)
keeps_model g None None = keeps_none g
keeps_model g None (Some m) = keeps_some g (record g { model = Some m; awaited = None }) refl refl
keeps_model g (Some k) None = keeps_none g
keeps_model g (Some k) (Some m) = keeps_none g

keeps_units : (g : Given) (a b : Option ℕ) → Keeps g (with_units g a b)
keeps_units g None None = keeps_none g
keeps_units g None (Some m) = keeps_some g (record g { units = Some m; awaited = None }) refl refl
keeps_units g (Some k) None = keeps_none g
keeps_units g (Some k) (Some m) = keeps_none g

keeps_learn : (g : Given) (a b : Option ℕ) → Keeps g (with_learn g a b)
keeps_learn g None None = keeps_none g
keeps_learn g None (Some m) = keeps_some g (record g { learn = Some m; awaited = None }) refl refl
keeps_learn g (Some k) None = keeps_none g
keeps_learn g (Some k) (Some m) = keeps_none g

keeps_workers : (g : Given) (a b : Option ℕ) → Keeps g (with_workers g a b)
keeps_workers g None None = keeps_none g
keeps_workers g None (Some m) = keeps_some g (record g { workers = Some m; awaited = None }) refl refl
keeps_workers g (Some k) None = keeps_none g
keeps_workers g (Some k) (Some m) = keeps_none g

keeps_turns : (g : Given) (a b : Option ℕ) → Keeps g (with_turns g a b)
keeps_turns g None None = keeps_none g
keeps_turns g None (Some m) = keeps_some g (record g { turns = Some m; awaited = None }) refl refl
keeps_turns g (Some k) None = keeps_none g
keeps_turns g (Some k) (Some m) = keeps_none g

keeps_file : (g : Given) (f : Text → Given) → ((n : Text) → (f n).first ≡ g.first) → ((n : Text) → (f n).second ≡ g.second) → (o : Option Text) → Keeps g (option_map f o)
keeps_file g f a b None = keeps_none g
keeps_file g f a b (Some n) = keeps_some g (f n) (a n) (b n)

pub value_keeps : (g : Given) (choice : Choice) (word : Text) → Keeps g (with_value g choice word)
value_keeps g OfModel word = keeps_model g g.model (model_of word)
value_keeps g OfUnits word = keeps_units g g.units (number_of 10000000 word)
value_keeps g OfLearn word = keeps_learn g g.learn (number_of 100000000 word)
value_keeps g OfWorkers word = keeps_workers g g.workers (number_of 64 word)
value_keeps g OfTurns word = keeps_turns g g.turns (number_of 1000000000 word)
value_keeps g OfCert word = keeps_file g (with_cert g) (λ n. refl) (λ n. refl) (name_once g.cert word)
value_keeps g OfRun word = keeps_file g (with_run g) (λ n. refl) (λ n. refl) (name_once g.run word)
value_keeps g OfWitness word = keeps_file g (with_witness g) (λ n. refl) (λ n. refl) (name_once g.witness word)

at_kept : (place : Place) (g h : Given) → h.first ≡ g.first → h.second ≡ g.second → At place g → At place h
at_kept none g h a b at = (a ∙ at.0, b ∙ at.1)
at_kept one g h a b at = (ap is_some a ∙ at.0, b ∙ at.1)
at_kept two g h a b at = (ap is_some a ∙ at.0, ap is_some b ∙ at.1)

pub stands_kept : (place : Place) (o : Option Given) (f : Given → Option Given) → ((g : Given) → Keeps g (f g)) → Stands place o → Stands place (option_and_then f o)
stands_kept place None f keeps stands h e = absurd (cc)
stands_kept place (Some g) f keeps stands h e = let k = keeps g h e in at_kept place g h k.0 k.1 (stands g refl)

pub stands_awaiting : (place : Place) (o : Option Given) (choice : Choice) → Stands place o → Stands place (option_map (λ (g : Given). record g { awaited = Some choice }) o)
stands_awaiting place None choice stands h e = absurd (cc)
stands_awaiting place (Some g) choice stands h e = let k = keeps_some g (record g { awaited = Some choice }) refl refl h e in at_kept place g h k.0 k.1 (stands g refl)

pub stands_unawaiting : (place : Place) (o : Option Given) (choice : Choice) → Stands place (option_map (λ (g : Given). record g { awaited = Some choice }) o) → Stands place o
stands_unawaiting place None choice stands h e = absurd (cc)
stands_unawaiting place (Some g) choice stands h e = let is : g ≡ h = cc in at_kept place (record g { awaited = Some choice }) h (ap (λ (y : Given). y.first) (sym is)) (ap (λ (y : Given). y.second) (sym is)) (stands (record g { awaited = Some choice }) refl)

pub stands_same : (place : Place) (o p : Option Given) → o ≡ p → Stands place o → Stands place p
stands_same place o p e stands g is = stands g (e ∙ is)

-- ---- names

if_same : (b : Bool) (x y : Option Given) → x ≡ y → (if b then x else None) ≡ (if b then y else None)
if_same b x y e = ap (λ (z : Option Given). if b then z else None) e

pub first_name : (g : Given) (word : Text) → At none g → with_name g word ≡ with_text first word g
first_name g word at = if_same (is_name_of word) _ _ (go g.first at.0)
  where
    go : (a : Option Text) → a ≡ None → with_name_at g a g.second word ≡ once a (Some (record g { first = Some word; awaited = None }))
    go None e = refl
    go (Some t) e = absurd (cc)

pub second_name : (g : Given) (word : Text) → At one g → with_name g word ≡ with_text second word g
second_name g word at = if_same (is_name_of word) _ _ (go g.first g.second at.0)
  where
    go : (a b : Option Text) → is_some a ≡ true → with_name_at g a b word ≡ once b (Some (record g { second = Some word; awaited = None }))
    go None b e = absurd (true≢false (sym e))
    go (Some t) None e = refl
    go (Some t) (Some u) e = refl

if_none : (b : Bool) (x : Option Given) → x ≡ None → (if b then x else None) ≡ None
if_none true x e = e
if_none false x e = refl

pub third_name : (g : Given) (word : Text) → At two g → with_name g word ≡ None
third_name g word at = if_none (is_name_of word) _ (go g.first g.second at.0 at.1)
  where
    go : (a b : Option Text) → is_some a ≡ true → is_some b ≡ true → with_name_at g a b word ≡ None
    go None b e f = absurd (true≢false (sym e))
    go (Some t) None e f = absurd (true≢false (sym f))
    go (Some t) (Some u) e f = refl

named_is : (test : Bool) (before : Option Text) (x h : Given) → (if test then once before (Some x) else None) ≡ Some h → x ≡ h
named_is true None x h e = cc
named_is true (Some t) x h e = absurd (cc)
named_is false before x h e = absurd (cc)

pub stands_first : (o : Option Given) (word : Text) → Stands none o → Stands one (option_and_then (with_text first word) o)
stands_first None word stands h e = absurd (cc)
stands_first (Some g) word stands h e =
    subst (At one) (named_is (is_name_of word) g.first (record g { first = Some word; awaited = None }) h e) (refl, (stands g refl).1)

pub stands_second : (o : Option Given) (word : Text) → Stands one o → Stands two (option_and_then (with_text second word) o)
stands_second None word stands h e = absurd (cc)
stands_second (Some g) word stands h e =
    subst (At two) (named_is (is_name_of word) g.second (record g { second = Some word; awaited = None }) h e) ((stands g refl).0, refl)

-- ---- a second name stays, and where a command has one it is one too many

-- a command with one name
abbrev pub Single : Command → Type 0
Single command = (a b : Option Text) (x : Option Choice) → is_some b ≡ true → has_all command a b x ≡ false

pub single_verify : Single Verify
single_verify a None x e = absurd (true≢false (sym e))
single_verify None (Some t) x e = refl
single_verify (Some s) (Some t) x e = refl

pub single_generate : Single Generate
single_generate a None x e = absurd (true≢false (sym e))
single_generate None (Some t) x e = refl
single_generate (Some s) (Some t) x e = refl

abbrev HasSecond : Option Given → Type 0
HasSecond o = (h : Given) → o ≡ Some h → is_some h.second ≡ true

has_none : HasSecond None
has_none h e = absurd (cc)

has_some : (x : Given) → is_some x.second ≡ true → HasSecond (Some x)
has_some x e h is = let same : x ≡ h = cc in ap (λ (y : Given). is_some y.second) (sym same) ∙ e

if_has : (b : Bool) (o : Option Given) → HasSecond o → HasSecond (if b then o else None)
if_has true o has = has
if_has false o has = has_none

value_has : (g : Given) (choice : Choice) (word : Text) → is_some g.second ≡ true → HasSecond (with_value g choice word)
value_has g choice word e h is = ap is_some (value_keeps g choice word h is).1 ∙ e

name_has : (g : Given) (word : Text) → is_some g.second ≡ true → HasSecond (with_name g word)
name_has g word e = go (is_name_of word) g.first g.second e
  where
    go : (b : Bool) (a s : Option Text) → is_some s ≡ true → HasSecond (if b then with_name_at g a s word else None)
    go false a s f = has_none
    go true None s f = has_some (record g { first = Some word; awaited = None }) e
    go true (Some t) None f = has_some (record g { second = Some word; awaited = None }) refl
    go true (Some t) (Some u) f = has_none

word_has : (command : Command) (g : Given) (word : Text) → is_some g.second ≡ true → HasSecond (with_word command g word)
word_has command g word e = by_awaited g.awaited
  where
    by_joined : (j : Option (Choice × Text)) → HasSecond (with_joined command g word j)
    by_joined (Some p) = if_has (is_option command p.0) (with_value g p.0 p.1) (value_has g p.0 p.1 e)
    by_joined None = name_has g word e

    by_named : (c : Option Choice) → HasSecond (with_free command g word c)
    by_named (Some choice) = if_has (is_option command choice) (Some (record g { awaited = Some choice })) (has_some (record g { awaited = Some choice }) e)
    by_named None = by_joined (joined_of word)

    by_awaited : (a : Option Choice) → HasSecond (with_word_at command g a word)
    by_awaited (Some choice) = value_has g choice word e
    by_awaited None = by_named (choice_named word)

pub seconds : (command : Command) → Single command → (words : List Text) (o : Option Given) → HasSecond o → whole command (with_words command o words) ≡ None
seconds command single words None has = never_whole command None refl words
seconds command single [] (Some g) has = ap (λ (t : Bool). if t then Some g else None) (single g.first g.second g.awaited (has g refl))
seconds command single (word ∷ words) (Some g) has = seconds command single words (with_word command g word) (word_has command g word (has g refl))

pub second_too_many : (command : Command) → Single command → (g : Given) (word : Text) → At one g → (words : List Text) → whole command (with_words command (with_name g word) words) ≡ None
second_too_many command single g word at words = seconds command single words (with_name g word) (go (is_name_of word) g.first g.second at.0)
  where
    go : (b : Bool) (a s : Option Text) → is_some a ≡ true → HasSecond (if b then with_name_at g a s word else None)
    go false a s f = has_none
    go true None s f = absurd (true≢false (sym f))
    go true (Some t) None f = has_some (record g { second = Some word; awaited = None }) refl
    go true (Some t) (Some u) f = has_none
