-- What a word is: an option with its text, an option alone, something else behind a hyphen, or a plain word.
use Rattle.std.proofs.Common.{◌≡◌, ◌⊎◌, inl, inr, ◌∙◌, ℕ, zero, suc, ◌+◌, [], ◌∷◌, Bool, true, false, Option, Some, None, codes, refl, sym, ap, subst, length, take, drop, nat_lt, true≢false, arith, rules}
use Rattle.std.specs.Prelude.{◌==◌, if◌then◌else◌, ◌||◌}
use Rattle.std.specs.List.{list_any, position_or_len, before_first, after_first}
use Rattle.std.specs.Str.{bytes_eq}
use Rattle.std.proofs.lemmas.Bool.Decides.{nat_tests}
use Rattle.std.proofs.lemmas.Slice.Eq.{bytes_eq-Decides}
use Rattle.clap.specs.Lexer.{long_of, short_of}
use Rattle.clap.specs.Walk.{Text}
use Rattle.request_words.specs.declared.options.Choice.{Choice}
use Rattle.request_words.specs.declared.options.Choice.TheVariants.{OfModel, OfUnits, OfLearn, OfWorkers, OfTurns, OfCert, OfRun, OfWitness}
use Rattle.request_words.specs.Options.{choice_named, joined_of, with_value_behind}
use Rattle.request_words.proofs.WordWalk.{choice_id}

-- ---- names of options

pub data Known (name : Text) : Type 0 where
  known : (choice : Choice) → name ≡ choice_id choice → Known name
  unknown : ((choice : Choice) → bytes_eq (choice_id choice) name ≡ false) → Known name

tested : (a b : Text) → (a ≡ b) ⊎ (bytes_eq a b ≡ false)
tested a b = go (bytes_eq a b) refl
  where
    go : (t : Bool) → bytes_eq a b ≡ t → (a ≡ b) ⊎ (bytes_eq a b ≡ false)
    go true e = inl ((bytes_eq-Decides a b).0 e)
    go false e = inr e

pub turned : (a b : Text) → bytes_eq a b ≡ false → bytes_eq b a ≡ false
turned a b e = go (bytes_eq b a) refl
  where
    go : (t : Bool) → bytes_eq b a ≡ t → bytes_eq b a ≡ false
    go true f = absurd (true≢false (sym ((bytes_eq-Decides a b).1 (sym ((bytes_eq-Decides b a).0 f))) ∙ e))
    go false f = f

is_not : (name : Text) → bytes_eq (choice_id OfModel) name ≡ false → bytes_eq (choice_id OfUnits) name ≡ false → bytes_eq (choice_id OfLearn) name ≡ false
    → bytes_eq (choice_id OfWorkers) name ≡ false → bytes_eq (choice_id OfTurns) name ≡ false → bytes_eq (choice_id OfCert) name ≡ false → bytes_eq (choice_id OfRun) name ≡ false
    → bytes_eq (choice_id OfWitness) name ≡ false → (choice : Choice) → bytes_eq (choice_id choice) name ≡ false
is_not name m u l w n c r t OfModel = m
is_not name m u l w n c r t OfUnits = u
is_not name m u l w n c r t OfLearn = l
is_not name m u l w n c r t OfWorkers = w
is_not name m u l w n c r t OfTurns = n
is_not name m u l w n c r t OfCert = c
is_not name m u l w n c r t OfRun = r
is_not name m u l w n c r t OfWitness = t

pub identified : (name : Text) → Known name
identified name = elim (tested (choice_id OfModel) name) [
  | inl e ↦ known OfModel (sym e)
  | inr m ↦
      elim (tested (choice_id OfUnits) name) [
        | inl e ↦ known OfUnits (sym e)
        | inr u ↦
            elim (tested (choice_id OfLearn) name) [
              | inl e ↦ known OfLearn (sym e)
              | inr l ↦
                  elim (tested (choice_id OfWorkers) name) [
                    | inl e ↦ known OfWorkers (sym e)
                    | inr w ↦
                        elim (tested (choice_id OfTurns) name) [
                          | inl e ↦ known OfTurns (sym e)
                          | inr n ↦
                              elim (tested (choice_id OfCert) name) [
                                | inl e ↦ known OfCert (sym e)
                                | inr c ↦
                                    elim (tested (choice_id OfRun) name) [
                                      | inl e ↦ known OfRun (sym e)
                                      | inr r ↦
                                          elim (tested (choice_id OfWitness) name) [ inl e ↦ known OfWitness (sym e) | inr t ↦ unknown (is_not name m u l w n c r t) ]
                                    ]
                              ]
                        ]
                  ]
            ]
      ]
]

named_known : (choice : Choice) → choice_named (45 ∷ 45 ∷ choice_id choice) ≡ Some choice
named_known OfModel = refl
named_known OfUnits = refl
named_known OfLearn = refl
named_known OfWorkers = refl
named_known OfTurns = refl
named_known OfCert = refl
named_known OfRun = refl
named_known OfWitness = refl

named_unknown : (name : Text) → ((choice : Choice) → bytes_eq (choice_id choice) name ≡ false) → choice_named (45 ∷ 45 ∷ name) ≡ None
named_unknown name other =
    let m : bytes_eq name (choice_id OfModel) ≡ false = turned (choice_id OfModel) name (other OfModel) in
    let u : bytes_eq name (choice_id OfUnits) ≡ false = turned (choice_id OfUnits) name (other OfUnits) in
    let l : bytes_eq name (choice_id OfLearn) ≡ false = turned (choice_id OfLearn) name (other OfLearn) in
    let w : bytes_eq name (choice_id OfWorkers) ≡ false = turned (choice_id OfWorkers) name (other OfWorkers) in
    let n : bytes_eq name (choice_id OfTurns) ≡ false = turned (choice_id OfTurns) name (other OfTurns) in
    let c : bytes_eq name (choice_id OfCert) ≡ false = turned (choice_id OfCert) name (other OfCert) in
    let r : bytes_eq name (choice_id OfRun) ≡ false = turned (choice_id OfRun) name (other OfRun) in
    let t : bytes_eq name (choice_id OfWitness) ≡ false = turned (choice_id OfWitness) name (other OfWitness) in
    rw (m, u, l, w, n, c, r, t) refl

-- ---- the first `=`

abbrev is_equals : ℕ → Bool
is_equals b = b == 61

one_more : (n : ℕ) → 1 + n ≡ suc n
one_more n = omega arith

both_more : (a b : ℕ) → nat_lt (suc a) (suc b) ≡ nat_lt a b
both_more a b = grind (arith, nat_tests)

some_more : (n : ℕ) → nat_lt 0 (suc n) ≡ true
some_more n = grind (arith, nat_tests)

place_behind : (x : ℕ) (xs : Text) → (x == 61) ≡ false → position_or_len is_equals (x ∷ xs) ≡ suc (position_or_len is_equals xs)
place_behind x xs other = rw other (one_more (position_or_len is_equals xs))

found_any : (xs : Text) → nat_lt (position_or_len is_equals xs) (length xs) ≡ list_any is_equals xs
found_any [] = refl
found_any (x ∷ xs) = go (found_any xs) (x == 61) refl
  where
    go : nat_lt (position_or_len is_equals xs) (length xs) ≡ list_any is_equals xs → (t : Bool) → (x == 61) ≡ t → nat_lt (position_or_len is_equals (x ∷ xs)) (length (x ∷ xs)) ≡ list_any is_equals (x ∷ xs)
    go more true e = rw e (some_more (length xs))
    go more false e = ap (λ (n : ℕ). nat_lt n (suc (length xs))) (place_behind x xs e) ∙ both_more (position_or_len is_equals xs) (length xs) ∙ more ∙ ap (λ (b : Bool). b || list_any is_equals xs) (sym e)

all_before : (xs : Text) → list_any is_equals xs ≡ false → before_first is_equals xs ≡ xs
all_before [] e = refl
all_before (x ∷ xs) e = go (λ h. all_before xs h) (x == 61) refl e
  where
    go : (list_any is_equals xs ≡ false → before_first is_equals xs ≡ xs) → (t : Bool) → (x == 61) ≡ t → list_any is_equals (x ∷ xs) ≡ false → before_first is_equals (x ∷ xs) ≡ x ∷ xs
    go more true t e = absurd (true≢false (rw t at e))
    go more false t e = let rest : list_any is_equals xs ≡ false = rw t at e in ap (λ (n : ℕ). take n (x ∷ xs)) (place_behind x xs t) ∙ ap (λ (ys : Text). x ∷ ys) (more rest)

no_equals : (choice : Choice) → list_any is_equals (choice_id choice) ≡ false
no_equals OfModel = refl
no_equals OfUnits = refl
no_equals OfLearn = refl
no_equals OfWorkers = refl
no_equals OfTurns = refl
no_equals OfCert = refl
no_equals OfRun = refl
no_equals OfWitness = refl

-- ---- kinds of words

pub record IsDashed (word : Text) : Type 0 where
  pub rest : Text
  pub is : word ≡ 45 ∷ rest

pub data Kind (word : Text) : Type 0 where
  joins : (choice : Choice) (text : Text) → IsDashed word → long_of word ≡ Some (choice_id choice, Some text) → choice_named word ≡ None
      → joined_of word ≡ Some (choice, text) → Kind word
  alone : (choice : Choice) → IsDashed word → long_of word ≡ Some (choice_id choice, None) → choice_named word ≡ Some choice → Kind word
  strange : (name : Text) (text : Option Text) → IsDashed word → long_of word ≡ Some (name, text) → ((choice : Choice) → bytes_eq (choice_id choice) name ≡ false)
      → choice_named word ≡ None → joined_of word ≡ None → Kind word
  flags : (text : Text) → IsDashed word → long_of word ≡ None → short_of word ≡ Some text → choice_named word ≡ None → joined_of word ≡ None → Kind word
  plain : long_of word ≡ None → short_of word ≡ None → choice_named word ≡ None → joined_of word ≡ None → Kind word

none_joined : (word : Text) → choice_named (before_first is_equals word) ≡ None → joined_of word ≡ None
none_joined word e = go (nat_lt (position_or_len is_equals word) (length word))
    ∙ refl
  where
    go : (t : Bool) → (if t then with_value_behind (after_first is_equals word) (choice_named (before_first is_equals word)) else None) ≡ None
    go true = ap (with_value_behind (after_first is_equals word)) e
    go false = refl

-- a word that begins with no hyphen
module _ (x : ℕ) (xs : Text) (other : (x == 45) ≡ false) where
  plain_before : (n : ℕ) → choice_named (take n (x ∷ xs)) ≡ None
  plain_before zero = refl
  plain_before (suc n) = rw other refl

  plain_kind : Kind (x ∷ xs)
  plain_kind = plain (rw other refl) (rw other refl) (rw other refl) (none_joined (x ∷ xs) (plain_before (position_or_len is_equals (x ∷ xs))))

-- a word that begins with one hyphen
module _ (y : ℕ) (ys : Text) (other : (y == 45) ≡ false) where
  flags_before : (n : ℕ) → choice_named (take n (45 ∷ y ∷ ys)) ≡ None
  flags_before zero = refl
  flags_before (suc zero) = refl
  flags_before (suc (suc n)) = rw other refl

  flags_kind : Kind (45 ∷ y ∷ ys)
  flags_kind = flags (y ∷ ys) (record { rest = y ∷ ys; is = refl }) (rw other refl) (rw other refl) (rw other refl)
      (none_joined (45 ∷ y ∷ ys) (flags_before (position_or_len is_equals (45 ∷ y ∷ ys))))

-- a word that begins with two, and more behind them
module _ (z : ℕ) (zs : Text) where
  abbrev rest : Text
  rest = z ∷ zs

  abbrev word : Text
  word = 45 ∷ 45 ∷ rest

  dashed : IsDashed word
  dashed = record { rest = 45 ∷ rest; is = refl }

  unnamed : list_any is_equals rest ≡ true → Known rest → choice_named word ≡ None
  unnamed has (known choice e) = absurd (true≢false (sym has ∙ ap (list_any is_equals) e ∙ no_equals choice))
  unnamed has (unknown other) = named_unknown rest other

  abbrev joined_at : ℕ → Option (Choice × Text)
  joined_at n = if nat_lt n (length word) then with_value_behind (drop (n + 1) word) (choice_named (take n word)) else None

  abbrev joined_if : Bool → Option (Choice × Text)
  joined_if t = if t then with_value_behind (after_first is_equals rest) (choice_named (45 ∷ 45 ∷ before_first is_equals rest)) else None

  joined_is : (t : Bool) → list_any is_equals rest ≡ t → joined_of word ≡ joined_if t
  joined_is t has =
      let n = position_or_len is_equals rest in
      let place : position_or_len is_equals word ≡ suc (suc n) = place_behind 45 (45 ∷ rest) refl ∙ ap (λ (k : ℕ). suc k) (place_behind 45 rest refl) in
      let more : nat_lt (suc (suc n)) (length word) ≡ t = both_more (suc n) (suc (length rest)) ∙ both_more n (length rest) ∙ found_any rest ∙ has in
      let behind : suc (suc n) + 1 ≡ suc (suc (n + 1)) = omega arith in
      ap joined_at place
      ∙ ap (λ (b : Bool). if b then with_value_behind (drop (suc (suc n) + 1) word) (choice_named (45 ∷ 45 ∷ before_first is_equals rest)) else None) more
      ∙ ap (λ (k : ℕ). if t then with_value_behind (drop k word) (choice_named (45 ∷ 45 ∷ before_first is_equals rest)) else None) behind

  long_kind : (t : Bool) → list_any is_equals rest ≡ t → Known (before_first is_equals rest) → Kind word
  long_kind true e (known choice is) =
      joins choice (after_first is_equals rest) dashed
      (ap (λ (b : Bool). Some (before_first is_equals rest, if b then Some (after_first is_equals rest) else None)) e ∙ ap (λ (n : Text). Some (n, Some (after_first is_equals rest))) is)
      (unnamed e (identified rest))
      (joined_is true e ∙ ap (λ (n : Text). with_value_behind (after_first is_equals rest) (choice_named (45 ∷ 45 ∷ n))) is ∙ ap (with_value_behind (after_first is_equals rest)) (named_known choice))
  long_kind true e (unknown other) =
      strange (before_first is_equals rest) (Some (after_first is_equals rest)) dashed
      (ap (λ (b : Bool). Some (before_first is_equals rest, if b then Some (after_first is_equals rest) else None)) e) other
      (unnamed e (identified rest)) (joined_is true e ∙ ap (with_value_behind (after_first is_equals rest)) (named_unknown _ other))
  long_kind false e (known choice is) =
      alone choice dashed
      (ap (λ (b : Bool). Some (before_first is_equals rest, if b then Some (after_first is_equals rest) else None)) e ∙ ap (λ (n : Text). Some (n, None)) is)
      (ap (λ (n : Text). choice_named (45 ∷ 45 ∷ n)) (sym (all_before rest e) ∙ is) ∙ named_known choice)
  long_kind false e (unknown other) =
      strange (before_first is_equals rest) None dashed
      (ap (λ (b : Bool). Some (before_first is_equals rest, if b then Some (after_first is_equals rest) else None)) e) other
      (ap (λ (n : Text). choice_named (45 ∷ 45 ∷ n)) (sym (all_before rest e)) ∙ named_unknown _ other) (joined_is false e)

behind_two : (zs : Text) → bytes_eq (45 ∷ 45 ∷ zs) (codes "--") ≡ false → Kind (45 ∷ 45 ∷ zs)
behind_two [] e = absurd (true≢false e)
behind_two (z ∷ zs) e = long_kind z zs (list_any is_equals (z ∷ zs)) refl (identified (before_first is_equals (z ∷ zs)))

equal_byte : (x y : ℕ) → (x == y) ≡ true → x ≡ y
equal_byte x y e = search rules

behind_one : (ys : Text) → bytes_eq (45 ∷ ys) (codes "--") ≡ false → Kind (45 ∷ ys)
behind_one [] e = plain refl refl refl refl
behind_one (y ∷ ys) e = go (y == 45) refl e
  where
    go : (t : Bool) → (y == 45) ≡ t → bytes_eq (45 ∷ y ∷ ys) (codes "--") ≡ false → Kind (45 ∷ y ∷ ys)
    go true t e = let is = equal_byte y 45 t in subst (λ (b : ℕ). Kind (45 ∷ b ∷ ys)) (sym is) (behind_two ys (subst (λ (b : ℕ). bytes_eq (45 ∷ b ∷ ys) (codes "--") ≡ false) is e))
    go false t e = flags_kind y ys t

pub kind : (word : Text) → bytes_eq word (codes "--") ≡ false → Kind word
kind [] e = plain refl refl refl refl
kind (x ∷ xs) e = go (x == 45) refl e
  where
    go : (t : Bool) → (x == 45) ≡ t → bytes_eq (x ∷ xs) (codes "--") ≡ false → Kind (x ∷ xs)
    go true t e = let is = equal_byte x 45 t in subst (λ (b : ℕ). Kind (b ∷ xs)) (sym is) (behind_one xs (subst (λ (b : ℕ). bytes_eq (b ∷ xs) (codes "--") ≡ false) is e))
    go false t e = plain_kind x xs t
