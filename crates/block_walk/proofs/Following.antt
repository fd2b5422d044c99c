-- Codes that follow each other.
use Rattle.std.proofs.Common.{◌≡◌, ℕ, ◌≤◌, ◌||◌, Bool, true, false, List, [], ◌∷◌, Option, Some, refl, sym, ap, ◌∙◌, subst, suc, length, drop, slice_get}
use Rattle.bv_term.specs.WellFormed.{Table}
use Rattle.c_graph.specs.Shape.{Flow}
use Rattle.c_graph.specs.declared.graph.Operation.{Operation}
use Rattle.block_rule.specs.Deeds.{Deed, Code, Does, Ends, Branches}
use Rattle.block_rule.specs.Plans as plans
use Rattle.block_rule.specs.Rule.{Wait, some_bad, is_set, is_on, exits, moved, deed_of}
use Rattle.block_steps.specs.Cursors.{Meets}
use Rattle.block_steps.specs.declared.cursor.Cursor.{Cursor}
use Rattle.walk_states.specs.declared.state.Waiting.{Waiting}
use Rattle.walk_states.specs.declared.state.Failing.{Failing}
use Rattle.walk_states.specs.Walks.{waits_of, bads_of, first_of}
use Rattle.walk_states.proofs.Following.{drop-step, drop-all, chosen}

pub moved-step : (h : Flow) (table : Table) (plan : plans.Plan) (waiting : List Wait) (guard : Option ℕ) (ops : List Operation) (n : ℕ) (op : Operation)
    (k next : Cursor) (d : Deed) → slice_get ops n ≡ Some op → d ≡ deed_of table plan waiting guard op
    → ((code : Code) → Meets h next code → Meets h k (Does d code))
    → (code : Code) → Meets h next (moved table plan waiting guard (drop (suc n) ops) code) → Meets h k (moved table plan waiting guard (drop n ops) code)
moved-step h table plan waiting guard ops n op k next d get e f code m =
    let here : Meets h k (Does d (moved table plan waiting guard (drop (suc n) ops) code)) = f (moved table plan waiting guard (drop (suc n) ops) code) m in
    let there : Meets h k (moved table plan waiting guard (op ∷ drop (suc n) ops) code) =
    subst (λ (x : Deed). Meets h k (Does x (moved table plan waiting guard (drop (suc n) ops) code))) e here in
    subst (λ (xs : List Operation). Meets h k (moved table plan waiting guard xs code)) (sym (drop-step ops n op get)) there

pub moved-end : (h : Flow) (table : Table) (plan : plans.Plan) (waiting : List Wait) (guard : Option ℕ) (ops : List Operation) (n : ℕ) (k : Cursor) (code : Code)
    → length ops ≤ n → Meets h k code → Meets h k (moved table plan waiting guard (drop n ops) code)
moved-end h table plan waiting guard ops n k code le m =
    subst (λ (xs : List Operation). Meets h k (moved table plan waiting guard xs code)) (sym (drop-all ops n le)) m

-- a check that is not the last
pub first-step : (h : Flow) (bs : List Failing) (n : ℕ) (b x : Failing) (k next : Cursor) → slice_get bs n ≡ Some b → slice_get bs (suc n) ≡ Some x
    → ((code : Code) → Meets h next code → Meets h k (Branches (is_on (Some b.cell)) (Ends b.error) code))
    → Meets h next (first_of (bads_of (drop (suc n) bs))) → Meets h k (first_of (bads_of (drop n bs)))
first-step h bs n b x k next get more f m =
    let P : List Failing → Code = λ xs. first_of (bads_of xs) in
    let behind : drop (suc n) bs ≡ x ∷ drop (suc (suc n)) bs = drop-step bs (suc n) x more in
    let all : drop n bs ≡ b ∷ (x ∷ drop (suc (suc n)) bs) = drop-step bs n b get ∙ ap (λ (xs : List Failing). b ∷ xs) behind in
    subst (λ (xs : List Failing). Meets h k (P xs)) (sym all)
    (f (P (x ∷ drop (suc (suc n)) bs)) (subst (λ (xs : List Failing). Meets h next (P xs)) behind m))

pub first-last : (h : Flow) (bs : List Failing) (n : ℕ) (b : Failing) (k : Cursor) → slice_get bs n ≡ Some b → length bs ≤ suc n
    → Meets h k (Ends b.error) → Meets h k (first_of (bads_of (drop n bs)))
first-last h bs n b k get le m =
    let all : drop n bs ≡ b ∷ [] = drop-step bs n b get ∙ ap (λ (xs : List Failing). b ∷ xs) (drop-all bs (suc n) le) in
    subst (λ (xs : List Failing). Meets h k (first_of (bads_of xs))) (sym all) m

-- a way out that is not the last
pub exit-step : (h : Flow) (plan : plans.Plan) (lost : Bool) (ws : List Waiting) (n : ℕ) (w x : Waiting) (k next : Cursor) → slice_get ws n ≡ Some w
    → slice_get ws (suc n) ≡ Some x → plan.cuts w.node ≡ true
    → ((code : Code) → Meets h next code → Meets h k (Branches (is_on w.guard) (Ends w.node) code))
    → Meets h next (exits plan lost (waits_of (drop (suc n) ws))) → Meets h k (exits plan lost (waits_of (drop n ws)))
exit-step h plan lost ws n w x k next get more cut f m =
    let P : List Waiting → Code = λ xs. exits plan lost (waits_of xs) in
    let behind : drop (suc n) ws ≡ x ∷ drop (suc (suc n)) ws = drop-step ws (suc n) x more in
    let all : drop n ws ≡ w ∷ (x ∷ drop (suc (suc n)) ws) = drop-step ws n w get ∙ ap (λ (xs : List Waiting). w ∷ xs) behind in
    let m2 : Meets h next (P (x ∷ drop (suc (suc n)) ws)) = subst (λ (xs : List Waiting). Meets h next (P xs)) behind m in
    let m3 : Meets h k (P (w ∷ (x ∷ drop (suc (suc n)) ws))) = chosen h k (plan.cuts w.node) true _ _ cut (f (P (x ∷ drop (suc (suc n)) ws)) m2) in
    subst (λ (xs : List Waiting). Meets h k (P xs)) (sym all) m3

pub exit-last : (h : Flow) (plan : plans.Plan) (lost : Bool) (ws : List Waiting) (n : ℕ) (w : Waiting) (k : Cursor) → slice_get ws n ≡ Some w
    → length ws ≤ suc n → Meets h k (exits plan lost (waits_of (w ∷ []))) → Meets h k (exits plan lost (waits_of (drop n ws)))
exit-last h plan lost ws n w k get le m =
    let all : drop n ws ≡ w ∷ [] = drop-step ws n w get ∙ ap (λ (xs : List Waiting). w ∷ xs) (drop-all ws (suc n) le) in
    subst (λ (xs : List Waiting). Meets h k (exits plan lost (waits_of xs))) (sym all) m

or-false : (b : Bool) → b ≡ (b || false)
or-false true = refl
or-false false = refl

-- checks of which one may have failed

pub bad-step : (bs : List Failing) (n : ℕ) (b : Failing) (s : List ℕ) → slice_get bs n ≡ Some b
    → some_bad (bads_of (drop n bs)) s ≡ (is_set b.cell s || some_bad (bads_of (drop (suc n) bs)) s)
bad-step bs n b s get = ap (λ (xs : List Failing). some_bad (bads_of xs) s) (drop-step bs n b get)

pub bad-last : (bs : List Failing) (n : ℕ) (b : Failing) (s : List ℕ) → slice_get bs n ≡ Some b → length bs ≤ suc n
    → is_set b.cell s ≡ some_bad (bads_of (drop n bs)) s
bad-last bs n b s get le =
    or-false (is_set b.cell s) ∙ sym (ap (λ (xs : List Failing). some_bad (bads_of xs) s) (drop-step bs n b get ∙ ap (λ (xs : List Failing). b ∷ xs) (drop-all bs (suc n) le)))
