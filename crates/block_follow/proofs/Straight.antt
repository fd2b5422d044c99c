-- The code of an edge as it is.
use Rattle.std.proofs.Common.{◌≡◌, ◌≤◌, ℕ, List, [], ◌∷◌, ◌++◌, length, drop, slice_get, Some, None, sym, subst, suc, append_assoc, append-nil}
use Rattle.bv_term.specs.WellFormed.{Table}
use Rattle.c_graph.specs.declared.graph.Edge.{Edge}
use Rattle.c_graph.specs.declared.graph.Operation.{Operation}
use Rattle.c_graph.specs.Shape.{Flow}
use Rattle.block_rule.specs.Deeds.{Deed, AreDeeds, Code, Ends, Does, Has, Leading}
use Rattle.block_rule.specs.Blocked.{plain_deeds}
use Rattle.block_rule.specs.Rule.{guarded}
use Rattle.block_edges.specs.Exact.{OneOf}
use Rattle.block_steps.specs.Cursors.{Meets}
use Rattle.block_steps.specs.declared.cursor.Cursor.{Cursor}
use Rattle.walk_states.proofs.Following.{drop-step, drop-all}
use Rattle.block_follow.specs.Following.{straight}

has-straight : (h : Flow) (table : Table) (v to : ℕ) (ops : List Operation) (ds : List Deed) → Has h v ds (straight table ops (Ends to))
    → Leading h v (ds ++ plain_deeds table ops) to
has-straight h table v to [] ds has = subst (λ (xs : List Deed). Leading h v xs to) (sym (append-nil ds)) has
has-straight h table v to (op ∷ ops) ds has =
    let d : Deed = guarded table None op in
    subst (λ (xs : List Deed). Leading h v xs to) (append_assoc ds (d ∷ []) (plain_deeds table ops)) (has-straight h table v to ops (ds ++ d ∷ []) has)

-- an edge with the code of operations as they are does what they do
pub leading-straight : (h : Flow) (table : Table) (at v to : ℕ) (ops : List Operation)
    → (e : Edge) × ((slice_get h.edges at ≡ Some e) × (e.from.0 ≡ v)) → Meets h (record { edge_at = at; op_at = 0 }) (straight table ops (Ends to))
    → Leading h v (plain_deeds table ops) to
leading-straight h table at v to ops (e, (get, from)) m =
    let has : Has h e.from.0 [] (straight table ops (Ends to)) = m.has e [] get tt in
    subst (λ (w : ℕ). Leading h w (plain_deeds table ops) to) from (has-straight h table e.from.0 to ops [] has)

pub straight-step : (h : Flow) (table : Table) (ops : List Operation) (n : ℕ) (op : Operation) (k at next : Cursor) → slice_get ops n ≡ Some op
    → ((code : Code) → Meets h next code → Meets h at (Does (guarded table None op) code))
    → ((code : Code) → Meets h at (straight table (drop n ops) code) → Meets h k (straight table ops code))
    → (code : Code) → Meets h next (straight table (drop (suc n) ops) code) → Meets h k (straight table ops code)
straight-step h table ops n op k at next get f before code m =
    let here : Meets h at (straight table (op ∷ drop (suc n) ops) code) = f (straight table (drop (suc n) ops) code) m in
    before code (subst (λ (xs : List Operation). Meets h at (straight table xs code)) (sym (drop-step ops n op get)) here)

pub straight-end : (h : Flow) (table : Table) (ops : List Operation) (n : ℕ) (k at : Cursor) → length ops ≤ n
    → ((code : Code) → Meets h at (straight table (drop n ops) code) → Meets h k (straight table ops code))
    → (code : Code) → Meets h at code → Meets h k (straight table ops code)
straight-end h table ops n k at le before code m =
    before code (subst (λ (xs : List Operation). Meets h at (straight table xs code)) (sym (drop-all ops n le)) m)

one-straight : (h : Flow) (table : Table) (to : ℕ) (e : Edge) (ops : List Operation) (ds : List Deed) → OneOf h ds (straight table ops (Ends to)) e
    → (e.to.0 ≡ to) × AreDeeds h.terms e.ops (ds ++ plain_deeds table ops)
one-straight h table to e [] ds (goal, are) = (goal, subst (AreDeeds h.terms e.ops) (sym (append-nil ds)) are)
one-straight h table to e (op ∷ ops) ds one =
    let d : Deed = guarded table None op in
    let (goal, are) = one-straight h table to e ops (ds ++ d ∷ []) one in
    (goal, subst (AreDeeds h.terms e.ops) (append_assoc ds (d ∷ []) (plain_deeds table ops)) are)

-- and nothing else
pub same-straight : (h : Flow) (table : Table) (at to : ℕ) (ops : List Operation) → Meets h (record { edge_at = at; op_at = 0 }) (straight table ops (Ends to))
    → (e : Edge) → slice_get h.edges at ≡ Some e → (to ≡ e.to.0) × AreDeeds h.terms e.ops (plain_deeds table ops)
same-straight h table at to ops m e get = let (goal, are) = one-straight h table to e ops [] (m.one e [] get tt) in (sym goal, are)
