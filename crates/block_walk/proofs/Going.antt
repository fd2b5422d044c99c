-- What loops over checks, places and operations come to, from a number on.
use Rattle.std.proofs.Common.{◌≡◌, ℕ, ◌+◌, ◌==◌, ◌<◌, ◌≤◌, Bool, true, false, List, [], ◌∷◌, Option, Some, None, sym, ap, ◌∙◌, zero, suc, arith, length, drop, slice_get, add-one, if◌then◌else◌, Result, Ok, Err}
use Rattle.std.proofs.lemmas.Bool.{le-ltb}
use Rattle.bv_term.specs.declared.term.TermId.{TermId}
use Rattle.bv_term.specs.WellFormed.{Table}
use Rattle.c_graph.specs.declared.graph.Operation.{Operation}
use Rattle.c_graph.specs.Shape.{Flow}
use Rattle.truth_terms.specs.Made as truths
use Rattle.block_rule.specs.Plans.{Plan}
use Rattle.block_rule.specs.Rule.{Wait}
use Rattle.block_steps.specs.declared.cursor.Cursor.{Cursor}
use Rattle.block_steps.specs.declared.tests.Test.TheVariants.{On}
use Rattle.walk_states.specs.declared.state.Stop.{Stop}
use Rattle.walk_states.specs.declared.state.Stop.TheVariants.{Memory, Differs}
use Rattle.walk_states.specs.declared.state.Waiting.{Waiting}
use Rattle.walk_states.specs.declared.state.Failing.{Failing}
use Rattle.walk_states.specs.Walks.{waits_of, bads_of}
use Rattle.walk_states.specs.Told.{Told}
use Rattle.walk_states.proofs.Following.{drop-step, drop-all}
use Rattle.block_walk.specs.Made as made
use Rattle.block_walk.specs.Made.{behind, failing_behind}
use Rattle.block_walk.proofs.Branching.{get-some}

-- a list from a number on, whose element of that number is not the last
two : {A : Type 0} → (xs : List A) (n : ℕ) (x : A) → slice_get xs n ≡ Some x → n + 1 < length xs
    → (y : A) × ((drop n xs ≡ x ∷ y ∷ drop (suc (suc n)) xs) × (y ∷ drop (suc (suc n)) xs ≡ drop (n + 1) xs))
two xs n x get lt =
    let more = get-some xs (suc n) (omega (arith, lt)) in
    let next : drop (suc n) xs ≡ more.0 ∷ drop (suc (suc n)) xs = drop-step xs (suc n) more.0 more.1 in
    (more.0, (drop-step xs n x get ∙ ap (λ ys. x ∷ ys) next, sym next ∙ ap (λ (j : ℕ). drop j xs) (sym (add-one n))))

last : {A : Type 0} → (xs : List A) (n : ℕ) (x : A) → slice_get xs n ≡ Some x → length xs ≤ n + 1 → drop n xs ≡ x ∷ []
last xs n x get le = drop-step xs n x get ∙ ap (λ ys. x ∷ ys) (drop-all xs (suc n) (omega (arith, le)))

abbrev wait : Waiting → Wait
wait w = record { node = w.node; guard = w.guard }

pub some-of : (n : ℕ) → (n == 0) ≡ false → 0 < n
some-of zero e = absurd (let z : true ≡ false = e in cc)
some-of (suc n) e = omega arith

-- ---- Checks of which one may have failed

pub failing-go : (table : Table) (term : TermId) (bs : List Failing) (n : ℕ) (b : Failing) → slice_get bs n ≡ Some b → n + 1 < length bs
    → made.is_some_failing table term (bads_of (drop n bs))
    ≡ failing_behind (λ next. made.is_some_failing table next (bads_of (drop (n + 1) bs))) (truths.is_added table term b.cell)
failing-go table term bs n b get lt =
    let (x, (all, rest)) = two bs n b get lt in
    ap (λ xs. made.is_some_failing table term (bads_of xs)) all
    ∙ ap (λ xs. failing_behind (λ next. made.is_some_failing table next (bads_of xs)) (truths.is_added table term b.cell)) rest

pub failing-stop : (table : Table) (term : TermId) (bs : List Failing) (n : ℕ) (b : Failing) → slice_get bs n ≡ Some b → length bs ≤ n + 1
    → made.is_some_failing table term (bads_of (drop n bs)) ≡ truths.is_cell_bit table term b.cell
failing-stop table term bs n b get le = ap (λ xs. made.is_some_failing table term (bads_of xs)) (last bs n b get le)

pub failing-out : (table : Table) (term : TermId) (bs : List Failing) (n : ℕ) → length bs ≤ n → made.is_some_failing table term (bads_of (drop n bs)) ≡ false
failing-out table term bs n le = ap (λ xs. made.is_some_failing table term (bads_of xs)) (drop-all bs n le)

-- ---- Branches on checks

pub first-go : (old : Table) (h : Flow) (bs : List Failing) (n : ℕ) (b : Failing) (k : Cursor) → slice_get bs n ≡ Some b → n + 1 < length bs
    → made.first_failing old h (bads_of (drop n bs)) k
    ≡ behind (λ next. made.first_failing old h (bads_of (drop (n + 1) bs)) next) (made.passed old h k (On (Some b.cell)) b.error)
first-go old h bs n b k get lt =
    let (x, (all, rest)) = two bs n b get lt in
    ap (λ xs. made.first_failing old h (bads_of xs) k) all
    ∙ ap (λ xs. behind (λ next. made.first_failing old h (bads_of xs) next) (made.passed old h k (On (Some b.cell)) b.error)) rest

pub first-stop : (old : Table) (h : Flow) (bs : List Failing) (n : ℕ) (b : Failing) (k : Cursor) → slice_get bs n ≡ Some b → length bs ≤ n + 1
    → made.first_failing old h (bads_of (drop n bs)) k ≡ made.ended h k b.error
first-stop old h bs n b k get le = ap (λ xs. made.first_failing old h (bads_of xs) k) (last bs n b get le)

pub first-out : (old : Table) (h : Flow) (bs : List Failing) (n : ℕ) (k : Cursor) → length bs ≤ n → made.first_failing old h (bads_of (drop n bs)) k ≡ None
first-out old h bs n k le = ap (λ xs. made.first_failing old h (bads_of xs) k) (drop-all bs n le)

-- ---- Ways out

pub leave-go : (old : Table) (h : Flow) (plan : Plan) (lost : Bool) (ws : List Waiting) (n : ℕ) (w : Waiting) (k : Cursor) → slice_get ws n ≡ Some w
    → n + 1 < length ws
    → made.leave old h plan lost (waits_of (drop n ws)) k
    ≡ (if plan.cuts w.node then behind (λ next. made.leave old h plan lost (waits_of (drop (n + 1) ws)) next) (made.passed old h k (On w.guard) w.node) else None)
leave-go old h plan lost ws n w k get lt =
    let (x, (all, rest)) = two ws n w get lt in
    ap (λ xs. made.leave old h plan lost (waits_of xs) k) all
    ∙ ap (λ xs. if plan.cuts w.node then behind (λ next. made.leave old h plan lost (waits_of xs) next) (made.passed old h k (On w.guard) w.node) else None)
    rest

pub leave-stop : (old : Table) (h : Flow) (plan : Plan) (lost : Bool) (ws : List Waiting) (n : ℕ) (w : Waiting) (k : Cursor) → slice_get ws n ≡ Some w
    → length ws ≤ n + 1
    → made.leave old h plan lost (waits_of (drop n ws)) k ≡ made.last_exit old h plan lost (wait w) k
leave-stop old h plan lost ws n w k get le = ap (λ xs. made.leave old h plan lost (waits_of xs) k) (last ws n w get le)

pub leave-out : (old : Table) (h : Flow) (plan : Plan) (lost : Bool) (ws : List Waiting) (n : ℕ) (k : Cursor) → length ws ≤ n
    → made.leave old h plan lost (waits_of (drop n ws)) k ≡ None
leave-out old h plan lost ws n k le = ap (λ xs. made.leave old h plan lost (waits_of xs) k) (drop-all ws n le)

-- ---- Operations

pub moved-out : (old : Table) (h : Flow) (plan : Plan) (waiting : List Wait) (guard : Option ℕ) (ops : List Operation) (n : ℕ) (k : Cursor) → length ops ≤ n
    → made.moved_over old h plan waiting k guard (drop n ops) ≡ Some k
moved-out old h plan waiting guard ops n k le = ap (made.moved_over old h plan waiting k guard) (drop-all ops n le)

pub moved-from : (old : Table) (h : Flow) (plan : Plan) (waiting : List Wait) (guard : Option ℕ) (ops : List Operation) (skip : ℕ) (k : Cursor)
    → skip ≤ length ops → made.moved old h plan waiting k guard ops skip ≡ made.moved_over old h plan waiting k guard (drop skip ops)
moved-from old h plan waiting guard ops skip k le =
    ap (λ (b : Bool). if b then None else made.moved_over old h plan waiting k guard (drop skip ops)) (le-ltb (length ops) skip le)

-- ---- Answers that may be a stop

-- what follows an answer
pub behind-some : {A B : Type 0} → (f : A → Option B) (o : Option A) (x : A) → o ≡ Some x → behind f o ≡ f x
behind-some f o x e = ap (behind f) e

-- a stop where something is to follow
pub told-behind : {A B C D : Type 0} → (view : A → B) (other : C → D) (e : Stop) (f : B → Option D) (o : Option B) (all : Option D) → all ≡ behind f o
    → Told view (Err e) o → Told other (Err e) all
told-behind view other Differs f o all is h = is ∙ ap (behind f) h
told-behind view other Memory f o all is h = tt

pub told-as : {A B : Type 0} → (view : A → B) (r : Result A Stop) (a b : Option B) → b ≡ a → Told view r a → Told view r b
told-as view (Ok x) a b e h = e ∙ h
told-as view (Err Differs) a b e h = e ∙ h
told-as view (Err Memory) a b e h = tt
