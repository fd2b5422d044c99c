-- The words behind `generate` ask for a source where they are one seed.
use Rattle.std.proofs.Common.{◌≡◌, ◌∙◌, ℕ, List, [], ◌∷◌, Bool, true, false, Option, Some, None, codes, refl, sym, ap, true≢false, length, ne_eqb, arith}
use Rattle.std.specs.Prelude.{◌≤◌, ◌==◌, ◌||◌, ◌&&◌, if◌then◌else◌, option_and_then}
use Rattle.std.specs.List.{list_all}
use Rattle.std.specs.Str.{bytes_eq}
use Rattle.std.proofs.lemmas.Bool.Decides.{nat_tests}
use Rattle.std.proofs.lemmas.Slice.Eq.{bytes_eq-Decides}
use Rattle.clap.specs.Walk.{Text}
use Rattle.request_words.specs.declared.options.Choice.{Choice}
use Rattle.request_words.specs.declared.commands.Command.TheVariants.{Generate}
use Rattle.request_words.specs.Asked.{Asked, generate_at, generate_by, seed_at}
use Rattle.request_words.specs.Options.{choice_named, joined_of}
use Rattle.request_words.specs.Texts.{whole}
use Rattle.request_words.specs.Values.{digit_added, is_name_byte, is_name_of, number_behind, number_of, seed_of}
use Rattle.request_words.specs.Words.{Given, is_option, nothing_given, with_free, with_joined, with_name, with_word, with_word_at, with_words}
use Rattle.request_words.proofs.NumberLaws.{added}
use Rattle.request_words.proofs.OwnLaws.{At, dashed_name, hyphen_name, never_whole, second_too_many, single_generate, some_length}
use Rattle.request_words.proofs.ParseLaws.{end_word}
use Rattle.request_words.proofs.WordWalk.{one}
use Rattle.request_words.proofs.WordKinds.{IsDashed, Kind, alone, flags, joins, kind, plain, strange}
use Rattle.request_words.proofs.WordLaws.{none_behind}

-- the seed that the names give
abbrev pub asked_by_seed : Option Given → Option Asked
asked_by_seed o = option_and_then (λ (g : Given). seed_at g.first g.second) o

no_option : (choice : Choice) → is_option Generate choice ≡ false
no_option choice = refl

-- ---- what is no name is no seed

digits_are_named : (most : ℕ) (bytes : Text) (n m : ℕ) → number_behind most (Some n) bytes ≡ Some m → list_all is_name_byte bytes ≡ true
digits_are_named most [] n m e = refl
digits_are_named most (b ∷ bytes) n m e = go (λ k h. digits_are_named most bytes k m h) (digit_added most n b) refl e
  where
    go : ((k : ℕ) → number_behind most (Some k) bytes ≡ Some m → list_all is_name_byte bytes ≡ true)
        → (o : Option ℕ) → digit_added most n b ≡ o → number_behind most o bytes ≡ Some m → list_all is_name_byte (b ∷ bytes) ≡ true
    go more None is e = let bad : ◌≡◌ {A = Option ℕ} None (Some m) = sym (none_behind most bytes) ∙ e in absurd (cc)
    go more (Some k) is e =
        let digit = (added most n b k is).digit in
        let low : 48 ≤ b = digit.0 in
        let high : b ≤ 57 = digit.1 in
        let first : is_name_byte b ≡ true = grind (arith, nat_tests) in
        ap (λ (t : Bool). t && list_all is_name_byte bytes) first ∙ more k e

behind_test : (t : Bool) (x : Option ℕ) (m : ℕ) → (if t then None else x) ≡ Some m → x ≡ Some m
behind_test true x m e = absurd (cc)
behind_test false x m e = e

first_digit : (most b m : ℕ) (bytes : Text) → number_behind most (Some 0) (b ∷ bytes) ≡ Some m → 48 ≤ b
first_digit most b m bytes e = go (digit_added most 0 b) refl e
  where
    go : (o : Option ℕ) → digit_added most 0 b ≡ o → number_behind most o bytes ≡ Some m → 48 ≤ b
    go None is e = let bad : ◌≡◌ {A = Option ℕ} None (Some m) = sym (none_behind most bytes) ∙ e in absurd (cc)
    go (Some k) is e = (added most 0 b k is).digit.0

named_number : (most m : ℕ) (word : Text) → number_of most word ≡ Some m → is_name_of word ≡ true
named_number most m [] e = absurd (cc)
named_number most m (b ∷ bytes) e =
    let behind = behind_test ((length (b ∷ bytes) == 0) || (b == 48)) (number_behind most (Some 0) (b ∷ bytes)) m e in
    let low : 48 ≤ b = first_digit most b m bytes behind in
    let other : (b == 45) ≡ false = ne_eqb b 45 (λ is. omega (arith, low, is)) in
    ap (λ (t : Bool). if t || (b == 45) then false else list_all is_name_byte (b ∷ bytes)) (some_length (length bytes))
    ∙ ap (λ (t : Bool). if t then false else list_all is_name_byte (b ∷ bytes)) other
    ∙ digits_are_named most (b ∷ bytes) 0 m behind

seed_named : (word : Text) (n : ℕ) → seed_of word ≡ Some n → is_name_of word ≡ true
seed_named word n e = go (bytes_eq word (codes "0")) refl e
  where
    go : (t : Bool) → bytes_eq word (codes "0") ≡ t → (if t then Some 0 else number_of 4294967295 word) ≡ Some n → is_name_of word ≡ true
    go true is f = ap is_name_of ((bytes_eq-Decides word (codes "0")).0 is)
    go false is f = named_number 4294967295 n word f

unnamed_seed : (word : Text) → is_name_of word ≡ false → seed_of word ≡ None
unnamed_seed word e = go (seed_of word) refl
  where
    go : (o : Option ℕ) → seed_of word ≡ o → seed_of word ≡ None
    go None is = is
    go (Some n) is = absurd (true≢false (sym (seed_named word n is) ∙ e))

-- ---- a word more

-- behind a name no word asks for anything
one_more : (g : Given) (word : Text) (words : List Text) → At one g → g.awaited ≡ None → whole Generate (with_words Generate (with_word Generate g word) words) ≡ None
one_more g word words at free = ap (λ (x : Option Choice). whole Generate (with_words Generate (with_word_at Generate g x word) words)) free ∙ by_named (choice_named word)
  where
    by_joined : (j : Option (Choice × Text)) → whole Generate (with_words Generate (with_joined Generate g word j) words) ≡ None
    by_joined None = second_too_many Generate single_generate g word at words
    by_joined (Some p) = never_whole Generate (with_joined Generate g word (Some p)) refl words

    by_named : (c : Option Choice) → whole Generate (with_words Generate (with_free Generate g word c) words) ≡ None
    by_named None = by_joined (joined_of word)
    by_named (Some choice) = never_whole Generate (with_free Generate g word (Some choice)) refl words

-- what the words give asks for what they are
abbrev Asks : Text → List Text → Type 0
Asks word words = generate_by (word ∷ words) ≡ asked_by_seed (whole Generate (with_words Generate (with_word Generate nothing_given word) words))

no_seed : (word : Text) (words : List Text) → is_name_of word ≡ false → generate_by (word ∷ words) ≡ None
no_seed word [] unnamed = ap generate_at (unnamed_seed word unnamed)
no_seed word (w ∷ ws) unnamed = refl

asks_nothing : (word : Text) (words : List Text) → with_word Generate nothing_given word ≡ None → is_name_of word ≡ false → Asks word words
asks_nothing word words none unnamed = no_seed word words unnamed ∙ sym (ap asked_by_seed (never_whole Generate (with_word Generate nothing_given word) none words))

unnamed_dashed : (word : Text) → IsDashed word → is_name_of word ≡ false
unnamed_dashed word d = ap is_name_of d.is ∙ hyphen_name d.rest

as_name : (word : Text) → choice_named word ≡ None → joined_of word ≡ None → with_word Generate nothing_given word ≡ with_name nothing_given word
as_name word named joined = ap (with_free Generate nothing_given word) named ∙ ap (with_joined Generate nothing_given word) joined

abbrev with_seed : Text → Given
with_seed word = record nothing_given { first = Some word; awaited = None }

asks_named : (word : Text) (words : List Text) → with_word Generate nothing_given word ≡ Some (with_seed word) → Asks word words
asks_named word [] gives = sym (ap (λ (o : Option Given). asked_by_seed (whole Generate o)) gives)
asks_named word (w ∷ ws) gives =
    sym (ap asked_by_seed (ap (λ (o : Option Given). whole Generate (with_words Generate o (w ∷ ws))) gives ∙ one_more (with_seed word) w ws (refl, refl) refl))

asks_plain : (word : Text) (words : List Text) → choice_named word ≡ None → joined_of word ≡ None → Asks word words
asks_plain word words named joined = go (is_name_of word) refl
  where
    go : (t : Bool) → is_name_of word ≡ t → Asks word words
    go true is = asks_named word words (as_name word named joined ∙ ap (λ (t : Bool). if t then Some (with_seed word) else None) is)
    go false is = asks_nothing word words (as_name word named joined ∙ ap (λ (t : Bool). if t then Some (with_seed word) else None) is) is

by_kind : (word : Text) (words : List Text) → Kind word → Asks word words
by_kind word words (joins choice text dashed long named joined) =
    asks_nothing word words (ap (with_free Generate nothing_given word) named ∙ ap (with_joined Generate nothing_given word) joined) (unnamed_dashed word dashed)
by_kind word words (alone choice dashed long named) = asks_nothing word words (ap (with_free Generate nothing_given word) named) (unnamed_dashed word dashed)
by_kind word words (strange name text dashed long other named joined) =
    asks_nothing word words (as_name word named joined ∙ dashed_name nothing_given word dashed) (unnamed_dashed word dashed)
by_kind word words (flags text dashed long short named joined) =
    asks_nothing word words (as_name word named joined ∙ dashed_name nothing_given word dashed) (unnamed_dashed word dashed)
by_kind word words (plain long short named joined) = asks_plain word words named joined

-- the words ask for the source of a seed where they give it as the one name
pub seed_words : (words : List Text) → generate_by words ≡ asked_by_seed (whole Generate (with_words Generate (Some nothing_given) words))
seed_words [] = refl
seed_words (word ∷ words) = go (bytes_eq word (codes "--")) refl
  where
    go : (t : Bool) → bytes_eq word (codes "--") ≡ t → Asks word words
    go true is =
        let ends : word ≡ codes "--" = (bytes_eq-Decides word (codes "--")).0 is in
        asks_nothing word words (ap (with_word Generate nothing_given) ends ∙ end_word Generate nothing_given) (ap is_name_of ends)
    go false is = by_kind word words (kind word is)
