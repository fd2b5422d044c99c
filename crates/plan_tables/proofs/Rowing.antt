-- Lists in memory of their own, row by row.
use Rattle.std.proofs.Common.{◌≡◌, ℕ, ◌+◌, ◌<◌, arith, Bool, true, false, ◌||◌, List, [], ◌∷◌, ◌++◌, length, take, drop, get_or, Some, None, Option, slice_get, slice_set, ap, sym, refl, ◌∙◌, inl, inr, append_assoc, append-nil, Global, Vec}
use Rattle.std.specs.Prelude.{bit_or, slice_index}
use Rattle.std.proofs.lemmas.Bool.{cases_lt}
use Rattle.std.specs.Option.{option_map}
use Rattle.std.proofs.lemmas.Option.{slice_get-map, slice_get-get_or, slice_get_past, slice_get_within, get_or_from_slice_get}
use Rattle.std.proofs.lemmas.List.{drop_all, drop_more, drop-set-lt, map-set, set_past, take_all, take_more_set}
use Rattle.bv_term.specs.declared.term.Term.{Term}
use Rattle.plan_tables.specs.Tables.{LiveRows, UnitTable, lists_of}
use Rattle.plan_tables.specs.Made.{added, adds, adds_to, joined_at, live_grows, live_join, reads_from, reads_of, word_added, word_adds}

pub no_row : (vs : List (Vec ℕ Global)) (k : ℕ) → slice_get vs k ≡ None → slice_get (lists_of vs) k ≡ None
no_row vs k e = slice_get-map (λ (v : Vec ℕ Global). v.items) vs k ∙ ap (option_map (λ (v : Vec ℕ Global). v.items)) e

pub one_row : (vs : List (Vec ℕ Global)) (k : ℕ) (v : Vec ℕ Global) → slice_get vs k ≡ Some v → slice_get (lists_of vs) k ≡ Some v.items
one_row vs k v e = slice_get-map (λ (v : Vec ℕ Global). v.items) vs k ∙ ap (option_map (λ (v : Vec ℕ Global). v.items)) e

abbrev rows_with : Bool → List (List ℕ) → LiveRows
rows_with whole rows = record { rows = rows; is_whole = whole }

-- a row with the bits of further words
pub joined : (rows : List (Vec ℕ Global)) (whole : Bool) (v : ℕ) (old new : Vec ℕ Global) (scratch : List ℕ)
    → slice_get rows v ≡ Some old → new.items ≡ added old.items scratch
    → ◌≡◌ {A = LiveRows} (record { rows = lists_of (slice_set rows v new); is_whole = whole }) (live_join (record { rows = lists_of rows; is_whole = whole }) v scratch)
joined rows whole v old new scratch there made =
    ap (rows_with whole) (map-set (λ (v : Vec ℕ Global). v.items) rows v new ∙ ap (slice_set (lists_of rows) v) made)
    ∙ sym (ap (λ (o : Option (List ℕ)). joined_at (record { rows = lists_of rows; is_whole = whole }) v o scratch) (one_row rows v old there))

pub grows : (rows : List (Vec ℕ Global)) (whole : Bool) (v : ℕ) (old : Vec ℕ Global) (scratch : List ℕ)
    → slice_get rows v ≡ Some old → adds old.items scratch ≡ live_grows (record { rows = lists_of rows; is_whole = whole }) v scratch
grows rows whole v old scratch there = sym (ap (λ (o : Option (List ℕ)). adds_to o scratch) (one_row rows v old there))

pub added_turn : (row new scratch whole : List ℕ) (k x d : ℕ) → k < length scratch → x ≡ get_or scratch k d → new ≡ word_added row k x
    → take k row ++ added (drop k row) (drop k scratch) ≡ whole → take (k + 1) new ++ added (drop (k + 1) new) (drop (k + 1) scratch) ≡ whole
added_turn row new scratch whole k x d lt is made h =
    let xs : List ℕ = drop (k + 1) scratch in
    let ahead : drop k scratch ≡ x ∷ xs = drop_more scratch k d lt ∙ ap (λ (y : ℕ). y ∷ xs) (sym is) in
    let h2 : take k row ++ added (drop k row) (x ∷ xs) ≡ whole = sym (ap (λ (ys : List ℕ). take k row ++ added (drop k row) ys) ahead) ∙ h in
    elim (cases_lt k (length row)) [
      | inl l ↦
          let y : ℕ = bit_or (slice_index row k) x in
          let front : take (k + 1) new ≡ take k row ++ y ∷ [] = ap (take (k + 1)) made ∙ take_more_set row k y l in
          let back : drop (k + 1) new ≡ drop (k + 1) row = ap (drop (k + 1)) made ∙ drop-set-lt (k + 1) row k y (omega arith) in
          let h3 : take k row ++ y ∷ added (drop (k + 1) row) xs ≡ whole =
          sym (ap (λ (ys : List ℕ). take k row ++ added ys (x ∷ xs)) (drop_more row k 0 l)) ∙ h2 in
          ap (λ (ys : List ℕ). ys ++ added (drop (k + 1) new) xs) front
          ∙ ap (λ (ys : List ℕ). (take k row ++ y ∷ []) ++ added ys xs) back
          ∙ append_assoc (take k row) (y ∷ []) (added (drop (k + 1) row) xs) ∙ h3
      | inr le ↦
          let same : new ≡ row = made ∙ set_past row k _ le in
          let h3 : take k row ++ [] ≡ whole = sym (ap (λ (ys : List ℕ). take k row ++ added ys (x ∷ xs)) (drop_all k row le)) ∙ h2 in
          ap (λ (ys : List ℕ). take (k + 1) ys ++ added (drop (k + 1) ys) xs) same
          ∙ ap (λ (ys : List ℕ). take (k + 1) row ++ added ys xs) (drop_all (k + 1) row (omega (arith, le)))
          ∙ none_added (take (k + 1) row) xs
          ∙ take_all (k + 1) row (omega (arith, le)) ∙ sym (take_all k row le) ∙ sym (append-nil (take k row)) ∙ h3
    ]
  where
    none_added : (front xs : List ℕ) → front ++ added [] xs ≡ front
    none_added front [] = append-nil front
    none_added front (x ∷ xs) = append-nil front

pub adds_turn : (row new scratch : List ℕ) (has has2 whole : Bool) (k x d : ℕ) → k < length scratch → x ≡ get_or scratch k d → new ≡ word_added row k x
    → has2 ≡ (has || word_adds (slice_get row k) x)
    → (has || adds (drop k row) (drop k scratch)) ≡ whole → (has2 || adds (drop (k + 1) new) (drop (k + 1) scratch)) ≡ whole
adds_turn row new scratch has has2 whole k x d lt is made more h =
    let xs : List ℕ = drop (k + 1) scratch in
    let ahead : drop k scratch ≡ x ∷ xs = drop_more scratch k d lt ∙ ap (λ (y : ℕ). y ∷ xs) (sym is) in
    let h2 : (has || adds (drop k row) (x ∷ xs)) ≡ whole = sym (ap (λ (ys : List ℕ). has || adds (drop k row) ys) ahead) ∙ h in
    elim (cases_lt k (length row)) [
      | inl l ↦
          let y : ℕ = get_or row k 0 in
          let back : drop (k + 1) new ≡ drop (k + 1) row = ap (drop (k + 1)) made ∙ drop-set-lt (k + 1) row k _ (omega arith) in
          let h3 : (has || (word_adds (Some y) x || adds (drop (k + 1) row) xs)) ≡ whole =
          sym (ap (λ (ys : List ℕ). has || adds ys (x ∷ xs)) (drop_more row k 0 l)) ∙ h2 in
          ap (λ (b : Bool). b || adds (drop (k + 1) new) xs) more
          ∙ ap (λ (o : Option ℕ). (has || word_adds o x) || adds (drop (k + 1) new) xs) (slice_get-get_or row k 0 l)
          ∙ ap (λ (ys : List ℕ). (has || word_adds (Some y) x) || adds ys xs) back
          ∙ or_assoc has (word_adds (Some y) x) (adds (drop (k + 1) row) xs) ∙ h3
      | inr le ↦
          let same : new ≡ row = made ∙ set_past row k _ le in
          let h3 : (has || false) ≡ whole = sym (ap (λ (ys : List ℕ). has || adds ys (x ∷ xs)) (drop_all k row le)) ∙ h2 in
          ap (λ (b : Bool). b || adds (drop (k + 1) new) xs) more
          ∙ ap (λ (o : Option ℕ). (has || word_adds o x) || adds (drop (k + 1) new) xs) (slice_get_past row k le)
          ∙ ap (λ (ys : List ℕ). (has || false) || adds (drop (k + 1) ys) xs) same
          ∙ ap (λ (ys : List ℕ). (has || false) || adds ys xs) (drop_all (k + 1) row (omega (arith, le)))
          ∙ ap (λ (b : Bool). (has || false) || b) (none_adds xs)
          ∙ or_false (has || false) ∙ h3
    ]
  where
    none_adds : (xs : List ℕ) → adds [] xs ≡ false
    none_adds [] = refl
    none_adds (x ∷ xs) = refl

    or_false : (a : Bool) → (a || false) ≡ a
    or_false true = refl
    or_false false = refl

    or_assoc : (a b c : Bool) → ((a || b) || c) ≡ (a || (b || c))
    or_assoc true b c = refl
    or_assoc false b c = refl

lists_push : (lists : List (Vec ℕ Global)) (v : Vec ℕ Global) → lists_of (lists ++ v ∷ []) ≡ lists_of lists ++ v.items ∷ []
lists_push [] v = refl
lists_push (x ∷ xs) v = ap (λ (ls : List (List ℕ)). x.items ∷ ls) (lists_push xs v)

pub reads_turn : (units : UnitTable) (terms : List Term) (k : ℕ) (t : Term) (old new : List (Vec ℕ Global)) (v : Vec ℕ Global) (whole : List (List ℕ))
    → slice_get terms k ≡ Some t → v.items ≡ reads_of (lists_of old) units t → new ≡ old ++ v ∷ []
    → reads_from units (lists_of old) (drop k terms) ≡ whole → reads_from units (lists_of new) (drop (k + 1) terms) ≡ whole
reads_turn units terms k t old new v whole there made push h =
    let rest : List Term = drop (k + 1) terms in
    let ahead : drop k terms ≡ t ∷ rest =
    drop_more terms k t (slice_get_within terms k t there) ∙ ap (λ (x : Term). x ∷ rest) (get_or_from_slice_get terms k t t there) in
    ap (λ (ls : List (Vec ℕ Global)). reads_from units (lists_of ls) rest) push
    ∙ ap (λ (ls : List (List ℕ)). reads_from units ls rest) (lists_push old v)
    ∙ ap (λ (r : List ℕ). reads_from units (lists_of old ++ r ∷ []) rest) made
    ∙ sym (ap (reads_from units (lists_of old)) ahead) ∙ h
