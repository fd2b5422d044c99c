-- Operations do what is said of them.
use Rattle.std.proofs.Common.{◌≡◌, ℕ, refl, ap, ◌∙◌, Bool, List, [], ◌∷◌, slice_set, Option, None, Some, ℤ}
use Rattle.bv_term.specs.declared.term.TermId.{TermId}
use Rattle.bv_term.specs.WellFormed.{Table}
use Rattle.bv_term.specs.Values.{value}
use Rattle.c_graph.specs.declared.graph.Operation.{Operation}
use Rattle.c_graph.specs.declared.graph.Operation.TheVariants.{Assume, Set, SetAt, Draw}
use Rattle.c_graph.specs.Steps.{Moment, moment, stored_at, drawn, operated, operated_all}
use Rattle.code_moves.specs.Deeds.{Deed, Sets, SetsAt, Draws, Means, IsDeed, AreDeeds}
use Rattle.code_move_laws.specs.Doing.{did, did_all, DeedsAreDone}

means : (T : Table) (t : TermId) (f : List ℕ → ℕ) (store : List ℕ) → Means T t f → value T store t ≡ f store
means T t f store h = (h.1 store).told

drawn-over : (T : Table) (c : ℕ) (signed : Bool) (store : List ℕ) (inputs : List ℤ) → drawn T c signed store inputs ≡ drawn (record { cells = T.cells; terms = [] }) c signed store inputs
drawn-over T c signed store [] = refl
drawn-over T c signed store (z ∷ zs) = refl

operates : (T : Table) (op : Operation) (d : Deed) (store : List ℕ) (inputs : List ℤ) → IsDeed T op d → operated T op (moment store inputs) ≡ did T.cells d (moment store inputs)
operates T (Assume t) (Sets c f) store inputs h = absurd h
operates T (Assume t) (SetsAt c n i f) store inputs h = absurd h
operates T (Assume t) (Draws c signed) store inputs h = absurd h
operates T (Set c t) (Sets d f) store inputs h =
    ap (λ (k : ℕ). Some (moment (slice_set store k (value T store t)) inputs)) h.0 ∙ ap (λ (x : ℕ). Some (moment (slice_set store d x) inputs)) (means T t f store h.1)
operates T (Set c t) (SetsAt d n i f) store inputs h = absurd h
operates T (Set c t) (Draws d signed) store inputs h = absurd h
operates T (SetAt c n i t) (Sets d f) store inputs h = absurd h
operates T (SetAt c n i t) (SetsAt d m j f) store inputs h =
    ap (λ (k : ℕ). Some (moment (stored_at store k n (value T store i) (value T store t)) inputs)) h.0
    ∙ ap (λ (k : ℕ). Some (moment (stored_at store d k (value T store i) (value T store t)) inputs)) h.1
    ∙ ap (λ (k : ℕ). Some (moment (stored_at store d m k (value T store t)) inputs)) (means T i j store h.2)
    ∙ ap (λ (k : ℕ). Some (moment (stored_at store d m (j store) k) inputs)) (means T t f store h.3)
operates T (SetAt c n i t) (Draws d signed) store inputs h = absurd h
operates T (Draw c signed) (Sets d f) store inputs h = absurd h
operates T (Draw c signed) (SetsAt d m j f) store inputs h = absurd h
operates T (Draw c signed) (Draws d other) store inputs h =
    ap (λ (k : ℕ). drawn T k signed store inputs) h.0 ∙ ap (λ (b : Bool). drawn T d b store inputs) h.1 ∙ drawn-over T d other store inputs

operates-all : (T : Table) (ops : List Operation) (ds : List Deed) (m : Option Moment) → AreDeeds T ops ds → operated_all T ops m ≡ did_all T.cells ds m
operates-all T ops ds None h = refl
operates-all T [] [] (Some m) h = refl
operates-all T [] (d ∷ ds) (Some m) h = absurd h
operates-all T (op ∷ ops) [] (Some m) h = absurd h
operates-all T (op ∷ ops) (d ∷ ds) (Some m) h = operates-all T ops ds (operated T op m) h.1 ∙ ap (did_all T.cells ds) (operates T op d m.store m.inputs h.0)

pub deeds-are-done : DeedsAreDone
deeds-are-done table ops ds store inputs after rest h e = operates-all table ops ds (Some (moment store inputs)) h ∙ e
