-- Lists that a walk keeps, and codes that follow each other.
use Rattle.std.proofs.Common.{Result, Ok, Err, IfOk, inl, inr, ◌≡◌, ℕ, ◌≤◌, ◌==◌, Bool, true, false, List, [], ◌∷◌, ◌++◌, Option, Some, None, refl, sym, ap, ◌∙◌, subst, zero, suc, arith, length, drop, slice_get, if◌then◌else◌, nat_lt, append_assoc, append-nil}
use Rattle.std.proofs.lemmas.Bool.{cases_Bool, ne_eqb}
use Rattle.c_graph.specs.Shape.{Flow}
use Rattle.block_rule.specs.Deeds.{Deed, Code, Does}
use Rattle.block_rule.specs.Rule.{Wait, Bad, State, found, without, with_wait, is_none}
use Rattle.block_steps.specs.Cursors.{Meets}
use Rattle.block_steps.specs.declared.cursor.Cursor.{Cursor}
use Rattle.walk_states.specs.declared.state.Waiting.{Waiting}
use Rattle.walk_states.specs.declared.state.Failing.{Failing}
use Rattle.walk_states.specs.declared.state.Walk.{Walk}
use Rattle.walk_states.specs.Walks.{waits_of, bads_of, state_of, Finds}

-- lists

pub drop-step : {A : Type 0} → (xs : List A) (n : ℕ) (x : A) → slice_get xs n ≡ Some x → drop n xs ≡ x ∷ drop (suc n) xs
drop-step [] n x get = absurd (let z : None ≡ Some x = get in cc)
drop-step (y ∷ xs) zero x get = let z : y ≡ x = cc in ap (λ h. h ∷ xs) z
drop-step (y ∷ xs) (suc n) x get = drop-step xs n x get

pub drop-all : {A : Type 0} → (xs : List A) (n : ℕ) → length xs ≤ n → drop n xs ≡ []
drop-all [] zero le = refl
drop-all [] (suc n) le = refl
drop-all (x ∷ xs) zero le = absurd (omega (arith, le))
drop-all (x ∷ xs) (suc n) le = drop-all xs n (omega (arith, le))

pub waits-last : (ws : List Waiting) (w : Waiting) → waits_of (ws ++ w ∷ []) ≡ waits_of ws ++ record { node = w.node; guard = w.guard } ∷ []
waits-last [] w = refl
waits-last (x ∷ ws) w = ap (λ (r : List Wait). record { node = x.node; guard = x.guard } ∷ r) (waits-last ws w)

pub bads-last : (bs : List Failing) (b : Failing) → bads_of (bs ++ b ∷ []) ≡ bads_of bs ++ record { cell = b.cell; error = b.error } ∷ []
bads-last [] b = refl
bads-last (x ∷ bs) b = ap (λ (r : List Bad). record { cell = x.cell; error = x.error } ∷ r) (bads-last bs b)

pub no-waits : (ws : List Waiting) → is_none (waits_of ws) ≡ (length ws == 0)
no-waits [] = refl
no-waits (w ∷ ws) = sym (ne_eqb (length (w ∷ ws)) 0 (λ e. omega (arith, e)))

pub no-bads : (bs : List Failing) → is_none (bads_of bs) ≡ (length bs == 0)
no-bads [] = refl
no-bads (b ∷ bs) = sym (ne_eqb (length (b ∷ bs)) 0 (λ e. omega (arith, e)))

pub long-waits : (ws : List Waiting) → length (waits_of ws) ≡ length ws
long-waits [] = refl
long-waits (w ∷ ws) = ap suc (long-waits ws)

-- states

pub same-state : (a b : List Wait) (p q : List Bad) (l m : Bool) (x y : ℕ) → a ≡ b → p ≡ q → l ≡ m → x ≡ y
    → ◌≡◌ {A = State} (record { waiting = a; bads = p; lost = l; next = x }) (record { waiting = b; bads = q; lost = m; next = y })
same-state a b p q l m x y d e f g =
    let A : List Wait → State = λ w. record { waiting = w; bads = p; lost = l; next = x } in
    let B : List Bad → State = λ w. record { waiting = b; bads = w; lost = l; next = x } in
    let C : Bool → State = λ w. record { waiting = b; bads = q; lost = w; next = x } in
    let D : ℕ → State = λ w. record { waiting = b; bads = q; lost = m; next = w } in
    ap A d ∙ ap B e ∙ ap C f ∙ ap D g

pub onto : (h : Flow) (k : Cursor) (a b : State) (rest : State → Code) → a ≡ b → Meets h k (rest a) → Meets h k (rest b)
onto h k a b rest e m = subst (λ (s : State). Meets h k (rest s)) e m

-- one deed, and then a state
pub finds-deed : (h : Flow) (old new : Walk) (st : State) (d : Deed) → state_of new ≡ st
    → ((code : Code) → Meets h new.cursor code → Meets h old.cursor (Does d code)) → Finds h old (λ rest. Does d (rest st)) new
finds-deed h old new st d e f = λ rest m. f (rest st) (onto h new.cursor (state_of new) st rest e m)

-- no deed, and then a state
pub finds-none : (h : Flow) (old new : Walk) (st : State) → state_of new ≡ st → new.cursor ≡ old.cursor → Finds h old (λ rest. rest st) new
finds-none h old new st e k = λ rest m. subst (λ (c : Cursor). Meets h c (rest st)) k (onto h new.cursor (state_of new) st rest e m)

-- a choice whose test is known
pub chosen : (h : Flow) (k : Cursor) (b c : Bool) (x y : Code) → b ≡ c → Meets h k (if c then x else y) → Meets h k (if b then x else y)
chosen h k b c x y e m = subst (λ (t : Bool). Meets h k (if t then x else y)) (sym e) m

-- loops

pub found-step : (ws : List Waiting) (n v : ℕ) (w : Waiting) → slice_get ws n ≡ Some w
    → found (waits_of (drop n ws)) v ≡ (if w.node == v then Some w.guard else found (waits_of (drop (suc n) ws)) v)
found-step ws n v w get = ap (λ (xs : List Waiting). found (waits_of xs) v) (drop-step ws n w get)

-- one place kept or left out

without-split : (w : Wait) (ws : List Wait) (v : ℕ) → without (w ∷ ws) v ≡ without (w ∷ []) v ++ without ws v
without-split w ws v = elim (cases_Bool (w.node == v)) [ inl b ↦ rw b refl | inr b ↦ rw b refl ]

pub without-step : (ws kept more : List Waiting) (n v : ℕ) (w : Waiting) → slice_get ws n ≡ Some w
    → waits_of more ≡ waits_of kept ++ without (waits_of (w ∷ [])) v
    → without (waits_of ws) v ≡ waits_of kept ++ without (waits_of (drop n ws)) v
    → without (waits_of ws) v ≡ waits_of more ++ without (waits_of (drop (suc n) ws)) v
without-step ws kept more n v w get e h =
    let rest : List Wait = waits_of (drop (suc n) ws) in
    let one : Wait = record { node = w.node; guard = w.guard } in
    h ∙ ap (λ (xs : List Waiting). waits_of kept ++ without (waits_of xs) v) (drop-step ws n w get)
    ∙ ap (λ (r : List Wait). waits_of kept ++ r) (without-split one rest v)
    ∙ sym (append_assoc (waits_of kept) (without (one ∷ []) v) (without rest v))
    ∙ ap (λ (r : List Wait). r ++ without rest v) (sym e)

pub kept-on : (kept more : List Waiting) (w : Waiting) (v : ℕ) → (w.node == v) ≡ false → more ≡ kept ++ w ∷ []
    → waits_of more ≡ waits_of kept ++ without (waits_of (w ∷ [])) v
kept-on kept more w v b e = rw b (ap waits_of e ∙ waits-last kept w)

pub kept-out : (kept : List Waiting) (w : Waiting) (v : ℕ) → (w.node == v) ≡ true → waits_of kept ≡ waits_of kept ++ without (waits_of (w ∷ [])) v
kept-out kept w v b = rw b (sym (append-nil (waits_of kept)))

-- a place that comes before the new one
pub with-step : (ws all more : List Waiting) (n v : ℕ) (g : Option ℕ) (w : Waiting) → slice_get ws n ≡ Some w → nat_lt w.node v ≡ true
    → more ≡ all ++ w ∷ [] → with_wait (waits_of ws) v g ≡ waits_of all ++ with_wait (waits_of (drop n ws)) v g
    → with_wait (waits_of ws) v g ≡ waits_of more ++ with_wait (waits_of (drop (suc n) ws)) v g
with-step ws all more n v g w get less e h =
    let rest : List Wait = waits_of (drop (suc n) ws) in
    let one : Wait = record { node = w.node; guard = w.guard } in
    let step : with_wait (one ∷ rest) v g ≡ one ∷ with_wait rest v g = rw less refl in
    h ∙ ap (λ (xs : List Waiting). waits_of all ++ with_wait (waits_of xs) v g) (drop-step ws n w get)
    ∙ ap (λ (r : List Wait). waits_of all ++ r) step
    ∙ sym (append_assoc (waits_of all) (one ∷ []) (with_wait rest v g))
    ∙ ap (λ (r : List Wait). r ++ with_wait rest v g) (sym (ap waits_of e ∙ waits-last all w))

-- the new place comes before this one
pub with-here : (ws all : List Waiting) (n v : ℕ) (g : Option ℕ) (w : Waiting) → slice_get ws n ≡ Some w → nat_lt w.node v ≡ false
    → with_wait (waits_of ws) v g ≡ waits_of all ++ with_wait (waits_of (drop n ws)) v g
    → with_wait (waits_of ws) v g ≡ waits_of all ++ record { node = v; guard = g } ∷ waits_of (drop n ws)
with-here ws all n v g w get less h =
    let rest : List Wait = waits_of (drop (suc n) ws) in
    let one : Wait = record { node = w.node; guard = w.guard } in
    let d : drop n ws ≡ w ∷ drop (suc n) ws = drop-step ws n w get in
    let step : with_wait (one ∷ rest) v g ≡ record { node = v; guard = g } ∷ one ∷ rest = rw less refl in
    h ∙ ap (λ (xs : List Waiting). waits_of all ++ with_wait (waits_of xs) v g) d
    ∙ ap (λ (r : List Wait). waits_of all ++ r) step
    ∙ ap (λ (xs : List Waiting). waits_of all ++ record { node = v; guard = g } ∷ waits_of xs) (sym d)

-- results

pub weaken : {A : Type 0} → {E : Type 0} → (r : Result A E) (P Q : A → Type 0) → ((x : A) → P x → Q x) → IfOk r P → IfOk r Q
weaken (Ok x) P Q f h = f x h
weaken (Err e) P Q f h = tt
