-- Branches found in edges, and steps of loops over checks, ways out and places that wait.
use Rattle.std.proofs.Common.{◌≡◌, ℕ, ◌+◌, ◌<◌, ◌≤◌, ◌||◌, Bool, true, not, List, [], ◌∷◌, Option, Some, None, refl, sym, ap, ◌∙◌, subst, zero, suc, arith, length, drop, slice_get, add-one}
use Rattle.bv_term.specs.declared.term.TermId.{TermId}
use Rattle.bv_term.specs.Numbers.{truth}
use Rattle.bv_term.specs.WellFormed.{Table}
use Rattle.c_graph.specs.Shape.{Flow}
use Rattle.truth_terms.specs.Truths.{IsBit, is_one}
use Rattle.truth_terms.proofs.Bits.{test-is}
use Rattle.block_rule.specs.Deeds.{Code, Stops, Ends, Branches}
use Rattle.block_rule.specs.Plans as plans
use Rattle.block_rule.specs.Rule.{State, is_none, some_bad, is_on, exits, flushed, certain, moved, some_draw, leads, goes, clear}
use Rattle.block_steps.specs.Cursors.{AreSides, EndAt, Meets, SideAt}
use Rattle.block_steps.specs.declared.cursor.Cursor.{Cursor}
use Rattle.block_steps.proofs.Places.{branches, branches-once}
use Rattle.walk_states.specs.declared.state.Waiting.{Waiting}
use Rattle.walk_states.specs.declared.state.Failing.{Failing}
use Rattle.walk_states.specs.declared.state.Walk.{Walk}
use Rattle.walk_states.specs.Walks.{waits_of, bads_of, state_of, first_of}
use Rattle.walk_states.proofs.Following.{chosen, onto}
use Rattle.block_walk.specs.Branches.{IsSecond}
use Rattle.block_walk.proofs.Following.{first-step, exit-step, bad-step, bad-last}

pub branch-found : (h : Flow) (k a b : Cursor) (w : ℕ) (t : TermId) (p : List ℕ → Bool) (one code : Code) → EndAt h k w → SideAt h a w t
    → IsBit h.terms t p → IsSecond h w t a b → Meets h a one → Meets h b code → Meets h k (Branches p one code)
branch-found h k a b w t p one code end sa bit (u, (sb, other, both)) ma mb =
    branches h k a b w t u p one code end sa (λ s wh. test-is h.terms t p s bit wh) sb
    (λ s wh. test-is h.terms u (λ x. not (p x)) s (other p bit) wh) both ma mb

pub flush-found : (h : Flow) (bs : List Failing) (k a b : Cursor) (w : ℕ) (t : TermId) (code : Code) → 0 < length bs → EndAt h k w → SideAt h a w t
    → IsBit h.terms t (some_bad (bads_of bs)) → IsSecond h w t a b → Meets h a (first_of (bads_of bs)) → Meets h b code
    → Meets h k (flushed (bads_of bs) code)
flush-found h [] k a b w t code some end sa bit second ma mb = absurd (omega (arith, some))
flush-found h (x ∷ bs) k a b w t code some end sa bit second ma mb =
    branch-found h k a b w t (some_bad (bads_of (x ∷ bs))) (first_of (bads_of (x ∷ bs))) code end sa bit second ma mb

pub last-found : (h : Flow) (bs : List Failing) (k a : Cursor) (w : ℕ) (t : TermId) → 0 < length bs → EndAt h k w → SideAt h a w t
    → IsBit h.terms t (some_bad (bads_of bs)) → AreSides h w a.edge_at a.edge_at → Meets h a (first_of (bads_of bs))
    → Meets h k (flushed (bads_of bs) Stops)
last-found h [] k a w t some end sa bit alone ma = absurd (omega (arith, some))
last-found h (x ∷ bs) k a w t some end sa bit alone ma =
    branches-once h k a w t (some_bad (bads_of (x ∷ bs))) (first_of (bads_of (x ∷ bs))) end sa
    (λ s wh. test-is h.terms t (some_bad (bads_of (x ∷ bs))) s bit wh) alone ma

pub get-some : {A : Type 0} → (xs : List A) (n : ℕ) → n < length xs → (x : A) × (slice_get xs n ≡ Some x)
get-some [] n lt = absurd (omega (arith, lt))
get-some (x ∷ xs) zero lt = (x, refl)
get-some (x ∷ xs) (suc n) lt = get-some xs n (omega (arith, lt))

-- a check that is not the last
pub first-on : (h : Flow) (bs : List Failing) (n : ℕ) (b : Failing) (start k next : Cursor) → slice_get bs n ≡ Some b → n + 1 < length bs
    → ((code : Code) → Meets h next code → Meets h k (Branches (is_on (Some b.cell)) (Ends b.error) code))
    → (Meets h k (first_of (bads_of (drop n bs))) → Meets h start (first_of (bads_of bs)))
    → Meets h next (first_of (bads_of (drop (n + 1) bs))) → Meets h start (first_of (bads_of bs))
first-on h bs n b start k next get lt f inv m =
    let more = get-some bs (suc n) (omega (arith, lt)) in
    inv
    (first-step h bs n b more.0 k next get more.1 f (subst (λ (j : ℕ). Meets h next (first_of (bads_of (drop j bs)))) (add-one n) m))

-- a way out that is not the last
pub exit-on : (h : Flow) (plan : plans.Plan) (lost : Bool) (ws : List Waiting) (n : ℕ) (w : Waiting) (start k next : Cursor) → slice_get ws n ≡ Some w
    → n + 1 < length ws → plan.cuts w.node ≡ true → ((code : Code) → Meets h next code → Meets h k (Branches (is_on w.guard) (Ends w.node) code))
    → (Meets h k (exits plan lost (waits_of (drop n ws))) → Meets h start (exits plan lost (waits_of ws)))
    → Meets h next (exits plan lost (waits_of (drop (n + 1) ws))) → Meets h start (exits plan lost (waits_of ws))
exit-on h plan lost ws n w start k next get lt cut f inv m =
    let more = get-some ws (suc n) (omega (arith, lt)) in
    inv
    (exit-step h plan lost ws n w more.0 k next get more.1 cut f
    (subst (λ (j : ℕ). Meets h next (exits plan lost (waits_of (drop j ws)))) (add-one n) m))

-- checks of which one may have failed

pub bit-step : (table : Table) (term at next : TermId) (bs : List Failing) (n : ℕ) (b : Failing) → slice_get bs n ≡ Some b
    → ((p : List ℕ → Bool) → IsBit table next p → IsBit table at (λ s. is_one b.cell s || p s))
    → (IsBit table at (some_bad (bads_of (drop n bs))) → IsBit table term (some_bad (bads_of bs)))
    → IsBit table next (some_bad (bads_of (drop (n + 1) bs))) → IsBit table term (some_bad (bads_of bs))
bit-step table term at next bs n b get more inv bit =
    let there : IsBit table next (some_bad (bads_of (drop (suc n) bs))) =
    subst (λ (j : ℕ). IsBit table next (some_bad (bads_of (drop j bs)))) (add-one n) bit in
    inv (λ s w. more (some_bad (bads_of (drop (suc n) bs))) there s w ∙ ap truth (sym (bad-step bs n b s get)))

pub bit-last : (table : Table) (term at : TermId) (bs : List Failing) (n : ℕ) (b : Failing) → slice_get bs n ≡ Some b → length bs ≤ n + 1
    → IsBit table at (is_one b.cell)
    → (IsBit table at (some_bad (bads_of (drop n bs))) → IsBit table term (some_bad (bads_of bs))) → IsBit table term (some_bad (bads_of bs))
bit-last table term at bs n b get le bit inv = inv (λ s w. bit s w ∙ ap truth (bad-last bs n b s get (omega (arith, le))))

-- a way that draws a value
pub drawn-found : (h : Flow) (table : Table) (plan : plans.Plan) (walk : Walk) (there : State) (guard : Option ℕ) (way : plans.Way) (k sure next : Cursor)
    (rest : State → Code) → some_draw way.moves ≡ true → is_none (waits_of walk.waiting.items) ≡ true → there ≡ clear (state_of walk)
    → ((code : Code) → Meets h k code → Meets h walk.cursor (flushed (bads_of walk.bads.items) code))
    → ((code : Code) → Meets h sure code → Meets h k (certain walk.lost guard code))
    → ((code : Code) → Meets h next code → Meets h sure (moved table plan (waits_of walk.waiting.items) None way.moves code))
    → Meets h next (leads plan there way.to true (λ s. true) rest) → Meets h walk.cursor (goes table plan (state_of walk) guard way rest)
drawn-found h table plan walk there guard way k sure next rest draws none e flush surely moves m =
    let on : Meets h next (leads plan (clear (state_of walk)) way.to true (λ s. true) rest) =
    onto h next there (clear (state_of walk)) (λ st. leads plan st way.to true (λ s. true) rest) e m in
    chosen h walk.cursor (some_draw way.moves) true _ _ draws
    (chosen h walk.cursor (is_none (waits_of walk.waiting.items)) true _ _ none (flush _ (surely _ (moves _ on))))
