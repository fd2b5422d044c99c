-- What the rows of uses tell, and when one more may stand behind them.
use Rattle.std.proofs.Common.{◌≡◌, ◌∙◌, List, [], ◌∷◌, ◌++◌, map, Bool, true, false, Some, None, is_some, refl, sym, ap, find, true≢false, fold}
use Rattle.std.specs.Prelude.{◌||◌, if◌then◌else◌, option_and_then, slice_get}
use Rattle.std.specs.Option.{option_map_or}
use Rattle.std.specs.Str.{bytes_eq}
use Rattle.std.proofs.lemmas.Slice.Eq.{bytes_eq-Decides}
use Rattle.clap.specs.Facts.{explicit_source}
use Rattle.clap.specs.Walk.{Row, Text, at_row, first_of, has_row, more_values, reading_by, used, with_default, with_values, without}
use Rattle.clap.specs.Takes.{is_given}
use Rattle.clap.specs.declared.parser.matches.ValueSource.TheVariants.{CommandLine}
use Rattle.request_words.proofs.WordWalk.{Slot, Uses, id_of, rule, use_row}

abbrev pub rows_of_uses : Uses → List Row
rows_of_uses uses = map use_row uses

abbrev pub with_use : Uses → Slot → Text → Uses
with_use uses slot text = uses ++ (slot, text) ∷ []

pub same_bytes : (a b : Text) → bytes_eq a b ≡ true → a ≡ b
same_bytes a b e = (bytes_eq-Decides a b).0 e

-- ---- rows without an id

none_without : (id : Text) (change : Row → List Row) (missing : List Row) (uses : Uses) → has_row id (rows_of_uses uses) ≡ false
    → at_row id change missing (rows_of_uses uses) ≡ rows_of_uses uses ++ missing
none_without id change missing [] e = refl
none_without id change missing (u ∷ uses) e = go (λ h. none_without id change missing uses h) (bytes_eq (id_of u.0) id) refl e
  where
    go : (has_row id (rows_of_uses uses) ≡ false → at_row id change missing (rows_of_uses uses) ≡ rows_of_uses uses ++ missing)
        → (t : Bool) → bytes_eq (id_of u.0) id ≡ t → (t || has_row id (rows_of_uses uses)) ≡ false
        → (if t then change (use_row u) ++ rows_of_uses uses else use_row u ∷ at_row id change missing (rows_of_uses uses)) ≡ use_row u ∷ (rows_of_uses uses ++ missing)
    go more true t h = absurd (true≢false h)
    go more false t h = ap (λ (rs : List Row). use_row u ∷ rs) (more h)

nothing_more : {X : Type 0} (xs : List X) → xs ++ [] ≡ xs
nothing_more [] = refl
nothing_more (x ∷ xs) = ap (λ ys. x ∷ ys) (nothing_more xs)

rows_more : (uses : Uses) (slot : Slot) (text : Text) → rows_of_uses uses ++ use_row (slot, text) ∷ [] ≡ rows_of_uses (with_use uses slot text)
rows_more [] slot text = refl
rows_more (u ∷ uses) slot text = ap (λ (rs : List Row). use_row u ∷ rs) (rows_more uses slot text)

-- a slot that was not used is used
pub used_once : (slot : Slot) (text : Text) (uses : Uses) → has_row (id_of slot) (rows_of_uses uses) ≡ false
    → used (rule slot) (text ∷ []) (rows_of_uses uses) ≡ rows_of_uses (with_use uses slot text)
used_once slot text uses e =
    let kept : without (id_of slot) (rows_of_uses uses) ≡ rows_of_uses uses = none_without (id_of slot) (λ _. []) [] uses e ∙ nothing_more (rows_of_uses uses) in
    ap (with_values (id_of slot) (reading_by (rule slot)) CommandLine (text ∷ [])) kept
    ∙ none_without (id_of slot) (more_values CommandLine (text ∷ [])) (use_row (slot, text) ∷ []) uses e ∙ rows_more uses slot text

-- ---- the text of an id

pub first_more : (uses : Uses) (slot : Slot) (text id : Text) → has_row (id_of slot) (rows_of_uses uses) ≡ false
    → first_of id (rows_of_uses (with_use uses slot text)) ≡ (if bytes_eq (id_of slot) id then Some text else first_of id (rows_of_uses uses))
first_more [] slot text id e = go (bytes_eq (id_of slot) id)
  where
    go : (t : Bool) → option_and_then (λ (r : Row). slice_get r.values 0) (if t then Some (use_row (slot, text)) else None) ≡ (if t then Some text else None)
    go true = refl
    go false = refl
first_more (u ∷ uses) slot text id e = go (λ h. first_more uses slot text id h) (bytes_eq (id_of u.0) id) refl (bytes_eq (id_of u.0) (id_of slot)) refl e
  where
    go : (has_row (id_of slot) (rows_of_uses uses) ≡ false → first_of id (rows_of_uses (with_use uses slot text)) ≡ (if bytes_eq (id_of slot) id then Some text else first_of id (rows_of_uses uses)))
        → (t : Bool) → bytes_eq (id_of u.0) id ≡ t → (s : Bool) → bytes_eq (id_of u.0) (id_of slot) ≡ s → (s || has_row (id_of slot) (rows_of_uses uses)) ≡ false
        → option_and_then (λ (r : Row). slice_get r.values 0) (if t then Some (use_row u) else find (λ (r : Row). bytes_eq r.id id) (rows_of_uses (with_use uses slot text)))
        ≡ (if bytes_eq (id_of slot) id then Some text else option_and_then (λ (r : Row). slice_get r.values 0) (if t then Some (use_row u) else find (λ (r : Row). bytes_eq r.id id) (rows_of_uses uses)))
    go more t same true here h = absurd (true≢false h)
    go more false same false here h = more h
    go more true same false here h = other (bytes_eq (id_of slot) id) refl
      where
        other : (q : Bool) → bytes_eq (id_of slot) id ≡ q → Some u.1 ≡ (if q then Some text else Some u.1)
        other false e = refl
        other true e = absurd (true≢false (sym ((bytes_eq-Decides (id_of u.0) (id_of slot)).1 (same_bytes _ _ same ∙ sym (same_bytes _ _ e))) ∙ here))

pub first_none : (uses : Uses) (id : Text) → has_row id (rows_of_uses uses) ≡ false → first_of id (rows_of_uses uses) ≡ None
first_none [] id e = refl
first_none (u ∷ uses) id e = go (λ h. first_none uses id h) (bytes_eq (id_of u.0) id) e
  where
    go : (has_row id (rows_of_uses uses) ≡ false → first_of id (rows_of_uses uses) ≡ None) → (t : Bool) → (t || has_row id (rows_of_uses uses)) ≡ false
        → option_and_then (λ (r : Row). slice_get r.values 0) (if t then Some (use_row u) else find (λ (r : Row). bytes_eq r.id id) (rows_of_uses uses)) ≡ None
    go more true h = absurd (true≢false h)
    go more false h = more h

pub record HasText (uses : Uses) (id : Text) : Type 0 where
  pub text : Text
  pub is : first_of id (rows_of_uses uses) ≡ Some text

pub first_some : (uses : Uses) (id : Text) → has_row id (rows_of_uses uses) ≡ true → HasText uses id
first_some [] id e = absurd (true≢false (sym e))
first_some (u ∷ uses) id e = go (λ h. first_some uses id h) (bytes_eq (id_of u.0) id) refl e
  where
    go : (has_row id (rows_of_uses uses) ≡ true → HasText uses id) → (t : Bool) → bytes_eq (id_of u.0) id ≡ t → (t || has_row id (rows_of_uses uses)) ≡ true → HasText (u ∷ uses) id
    go more true here h = record { text = u.1; is = rw here refl }
    go more false here h = let more_text = more h in record { text = more_text.text; is = rw here more_text.is }

pub given_is : (uses : Uses) (id : Text) → is_given id (rows_of_uses uses) ≡ is_some (first_of id (rows_of_uses uses))
given_is [] id = refl
given_is (u ∷ uses) id = go (given_is uses id) (bytes_eq (id_of u.0) id)
  where
    go : is_given id (rows_of_uses uses) ≡ is_some (first_of id (rows_of_uses uses)) → (t : Bool)
        → option_map_or (λ (r : Row). explicit_source r.source) (if t then Some (use_row u) else find (λ (r : Row). bytes_eq r.id id) (rows_of_uses uses)) false
        ≡ is_some (option_and_then (λ (r : Row). slice_get r.values 0) (if t then Some (use_row u) else find (λ (r : Row). bytes_eq r.id id) (rows_of_uses uses)))
    go more true = refl
    go more false = more

-- ---- no rule has a default

pub no_defaults : (rows : List Row) (all : List Slot) → fold with_default rows (map rule all) ≡ rows
no_defaults rows [] = refl
no_defaults rows (s ∷ all) = ap (λ (rs : List Row). fold with_default rs (map rule all)) (go (has_row (id_of s) rows)) ∙ no_defaults rows all
  where
    go : (t : Bool) → (if t then rows else rows) ≡ rows
    go true = refl
    go false = refl
