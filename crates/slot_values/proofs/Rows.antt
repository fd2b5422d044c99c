-- Links and parameters, one more at a time.
use Rattle.std.proofs.Common.{◌≡◌, ℕ, zero, suc, ◌<◌, ◌+◌, ◌-◌, List, [], ◌∷◌, ◌++◌, length, take, drop, get_or, append_assoc, append-nil, Option, Some, None, Bool, true, false, refl, ap, ◌∙◌, sym, arith}
use Rattle.std.specs.Prelude.{if◌then◌else◌, nat_eq, option_map, slice_index_or, slice_set}
use Rattle.std.proofs.lemmas.Bool.{eqb-true, eqb-false}
use Rattle.std.proofs.lemmas.List.{drop_more, get_or-set_same, get_or-set_other}
use Rattle.step_values.proofs.Rows.{take_more}
use Rattle.slot_code.specs.declared.flat.Instruction.{Instruction}
use Rattle.slot_code.specs.declared.flat.Instruction.TheVariants as ins
use Rattle.slot_code.specs.Values as c
use Rattle.slot_values.specs.declared.scene.Link.{Link}
use Rattle.slot_values.specs.Linked.{link_of, links_behind, links_of, IsIndexed}

-- ---- Links

links_more : (ls : List c.Link) (xs : List Link) (x : Link) → links_behind ls (xs ++ x ∷ []) ≡ link_of x ∷ links_behind ls xs
links_more ls [] x = refl
links_more ls (y ∷ xs) x = links_more (link_of y ∷ ls) xs x

pub links_push : (xs : List Link) (x : Link) → links_of (xs ++ x ∷ []) ≡ link_of x ∷ links_of xs
links_push xs x = links_more [] xs x

pub link_step : (f : ℕ) (xs : List Link) (i : ℕ) (d : Link) (old new : Option Link) → i < length xs → option_map link_of old ≡ c.link_of f (links_of (take i xs)) →
    option_map link_of new ≡ (if nat_eq (get_or xs i d).function f then Some (link_of (get_or xs i d)) else option_map link_of old) → option_map link_of new ≡ c.link_of f (links_of (take (i + 1) xs))
link_step f xs i d old new h m n =
    n ∙ ap (λ z. if nat_eq (get_or xs i d).function f then Some (link_of (get_or xs i d)) else z) m
    ∙ ap (c.link_of f) (sym (ap links_of (take_more xs i d h) ∙ links_push (take i xs) (get_or xs i d)))

-- a number that gets its place has no link
pub none_more : (xs : List (Option Link)) (f : ℕ) → slice_index_or (xs ++ None ∷ []) f None ≡ slice_index_or xs f None
none_more [] zero = refl
none_more [] (suc f) = refl
none_more (x ∷ xs) zero = refl
none_more (x ∷ xs) (suc f) = none_more xs f

newest_at : (newest : List (Option Link)) (all : List Link) (x : Link) (f : ℕ) (b : Bool) → b ≡ nat_eq x.function f → x.function < length newest → option_map link_of (slice_index_or newest f None) ≡ c.link_of f (links_of all) →
    option_map link_of (slice_index_or (slice_set newest x.function (Some x)) f None) ≡ (if b then Some (link_of x) else c.link_of f (links_of all))
newest_at newest all x f true e h k =
    ap (λ n. option_map link_of (slice_index_or (slice_set newest x.function (Some x)) n None)) (sym (eqb-true x.function f (sym e)))
    ∙ ap (λ o. option_map link_of o) (get_or-set_same newest x.function (Some x) None h)
newest_at newest all x f false e h k = ap (λ o. option_map link_of o) (get_or-set_other newest x.function f (Some x) None (λ g. eqb-false x.function f (sym e) (sym g))) ∙ k

-- the newest link takes the place of its function
pub indexed_more : (old reached newest : List (Option Link)) (all more : List Link) (x : Link) → IsIndexed old all → ((f : ℕ) → slice_index_or reached f None ≡ slice_index_or old f None) → x.function < length reached →
    newest ≡ slice_set reached x.function (Some x) → more ≡ all ++ x ∷ [] → IsIndexed newest more
indexed_more old reached newest all more x i same h n m f =
    ap (λ xs. option_map link_of (slice_index_or xs f None)) n
    ∙ newest_at reached all x f (nat_eq x.function f) refl h (ap (λ o. option_map link_of o) (same f) ∙ i f)
    ∙ ap (c.link_of f) (sym (ap links_of m ∙ links_push all x))

-- ---- Code with another instruction at a place

pub set_parts : {A : Type 0} (xs : List A) (at : ℕ) (y : A) → at < length xs → slice_set xs at y ≡ take at xs ++ y ∷ drop (suc at) xs
set_parts [] at y h = absurd (omega (arith, h))
set_parts (x ∷ xs) zero y h = refl
set_parts (x ∷ xs) (suc n) y h = ap (λ zs. x ∷ zs) (set_parts xs n y (omega (arith, h)))

pub take_front : {A : Type 0} (xs ys : List A) (y : A) → take (length xs) ((xs ++ y ∷ []) ++ ys) ≡ xs
take_front [] ys y = refl
take_front (x ∷ xs) ys y = ap (λ zs. x ∷ zs) (take_front xs ys y)

pub drop_front : {A : Type 0} (xs ys : List A) (y : A) → drop (suc (length xs)) ((xs ++ y ∷ []) ++ ys) ≡ ys
drop_front [] ys y = refl
drop_front (x ∷ xs) ys y = drop_front xs ys y

-- ---- Parameters

pub bind_step : (xs : List ℕ) (i d place next left rest : ℕ) (old new all : List Instruction) → i < length xs → 0 < left → rest ≡ left - 1 → next ≡ suc place → new ≡ old ++ ins.Bind place (get_or xs i d) ∷ [] →
    old ++ c.bind_code place (drop i xs) left ≡ all → new ++ c.bind_code next (drop (i + 1) xs) rest ≡ all
bind_step xs i d place next zero rest old new all h p r n e s = absurd (omega (arith, p))
bind_step xs i d place next (suc k) rest old new all h p r n e s =
    let q : rest ≡ k = omega arith in
    ap (λ z. z ++ c.bind_code next (drop (i + 1) xs) rest) e
    ∙ ap (λ z. (old ++ ins.Bind place (get_or xs i d) ∷ []) ++ c.bind_code z (drop (i + 1) xs) rest) n
    ∙ ap (λ z. (old ++ ins.Bind place (get_or xs i d) ∷ []) ++ c.bind_code (suc place) (drop (i + 1) xs) z) q
    ∙ append_assoc old (ins.Bind place (get_or xs i d) ∷ []) (c.bind_code (suc place) (drop (i + 1) xs) k)
    ∙ ap (λ z. old ++ c.bind_code place z (suc k)) (sym (drop_more xs i d h)) ∙ s

-- no slot is left
pub no_slots : (xs : List ℕ) (place left : ℕ) (new all : List Instruction) → left ≡ 0 → new ++ c.bind_code place xs left ≡ all → new ≡ all
no_slots [] place left new all e s = sym (append-nil new) ∙ s
no_slots (x ∷ xs) place zero new all e s = sym (append-nil new) ∙ s
no_slots (x ∷ xs) place (suc k) new all e s = absurd (omega (arith, e))

-- no parameter is left
pub no_parameters : (xs : List ℕ) (place left : ℕ) (new all : List Instruction) → length xs ≡ 0 → new ++ c.bind_code place xs left ≡ all → new ≡ all
no_parameters [] place left new all e s = sym (append-nil new) ∙ s
no_parameters (x ∷ xs) place left new all e s = absurd (omega (arith, e))
