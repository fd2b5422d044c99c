-- Lists of lists.
use Rattle.std.proofs.Common.{◌≡◌, ℕ, ◌+◌, ◌<◌, List, [], ◌∷◌, ◌++◌, zero, suc, refl, sym, ap, ◌∙◌, arith, length, get_or, set}
use Rattle.std.specs.Global.{Vec}
use Rattle.watched_clauses.specs.Contents.{contents}

pub contents_length : (vs : List (Vec ℕ)) → length (contents vs) ≡ length vs
contents_length [] = refl
contents_length (v ∷ vs) = ap suc (contents_length vs)

pub contents_get : (vs : List (Vec ℕ)) (i : ℕ) (d : Vec ℕ) → i < length vs → get_or (contents vs) i [] ≡ (get_or vs i d).items
contents_get [] i d lt = absurd (omega arith)
contents_get (v ∷ vs) zero d lt = refl
contents_get (v ∷ vs) (suc i) d lt = contents_get vs i d (omega arith)

pub contents_set : (vs : List (Vec ℕ)) (i : ℕ) (v : Vec ℕ) → contents (set vs i v) ≡ set (contents vs) i v.items
contents_set [] i v = refl
contents_set (x ∷ vs) zero v = refl
contents_set (x ∷ vs) (suc i) v = ap (λ w. x.items ∷ w) (contents_set vs i v)

pub contents_push : (vs : List (Vec ℕ)) (v : Vec ℕ) → contents (vs ++ (v ∷ [])) ≡ contents vs ++ (v.items ∷ [])
contents_push [] v = refl
contents_push (x ∷ vs) v = ap (λ w. x.items ∷ w) (contents_push vs v)

pub empty_push : (xs : List (List ℕ)) → ((k : ℕ) → get_or xs k [] ≡ []) → (k : ℕ) → get_or (xs ++ ([] ∷ [])) k [] ≡ []
empty_push [] h zero = refl
empty_push [] h (suc k) = refl
empty_push (x ∷ xs) h zero = h zero
empty_push (x ∷ xs) h (suc k) = empty_push xs (λ j. h (suc j)) k

-- a read of a list, at the values of a goal
pub items_at : (vs : List (Vec ℕ)) (i : ℕ) (v : Vec ℕ) (xs : List (List ℕ)) → i < length vs → v ≡ get_or vs i v → contents vs ≡ xs → v.items ≡ get_or xs i []
items_at vs i v xs lt h e = ap (λ (w : Vec ℕ). w.items) h ∙ sym (contents_get vs i v lt) ∙ ap (λ w. get_or w i []) e
