-- The values that the literals of a path's draws spell.
use Rattle.std.proofs.Common.{◌≡◌, ◌∙◌, ℕ, ℤ, ◌+◌, ◌<◌, ◌≤◌, ◌⊎◌, inl, inr, Bool, true, false, List, [], ◌∷◌, ◌++◌, append_assoc, All, drop, length, get_or, slice_index, zero, suc, refl, sym, ap, subst, arith}
use Rattle.std.proofs.lemmas.List.{drop_more}
use Rattle.std.proofs.lemmas.List.Elements.{All-head, All-tail}
use Rattle.bit_gates.specs.Net.{number}
use Rattle.bv_term.specs.WellFormed.{IsWidth, Table}
use Rattle.bit_blast.specs.Held.{Held, new_of}
use Rattle.c_graph.specs.declared.graph.EdgeId.{EdgeId}
use Rattle.c_graph.specs.declared.graph.Operation.{Operation}
use Rattle.c_graph.specs.declared.graph.Operation.TheVariants.{Assume, Set, SetAt, Draw}
use Rattle.c_graph.specs.Shape.{Flow, IsFlow, OperationFits, widths_of}
use Rattle.path_query.specs.declared.query.Bundle.{Bundle}
use Rattle.path_query.specs.declared.query.PathQuery.{PathQuery}
use Rattle.path_query.specs.Facts.{IsBundle, IsQuery}
use Rattle.path_formula.specs.Needs.{operations_at}
use Rattle.path_formula.specs.Added.{added_all, added_if}
use Rattle.path_formula.specs.Questions.{asked, plan_of, question_of, stepped}
use Rattle.path_laws.specs.Values.{read_as, signs_along, signs_of, values_read}
use Rattle.path_laws.proofs.Stepping.{operations_fit}
use Rattle.refine.specs.Drawn.{IsDrawable}

-- the signs of one operation
abbrev pub sign_in : Operation → List Bool
sign_in (Draw c signed) = signed ∷ []
sign_in (Assume t) = []
sign_in (Set c t) = []
sign_in (SetAt first n i t) = []

signs-first : (o : Operation) (os : List Operation) → signs_of (o ∷ os) ≡ sign_in o ++ signs_of os
signs-first (Draw c signed) os = refl
signs-first (Assume t) os = refl
signs-first (Set c t) os = refl
signs-first (SetAt first n i t) os = refl

-- one operation more
pub signs_turn : (os : List Operation) (acc new whole : List Bool) (i : ℕ) (d o : Operation) → i < length os → o ≡ get_or os i d
    → new ≡ acc ++ sign_in o → acc ++ signs_of (drop i os) ≡ whole → new ++ signs_of (drop (i + 1) os) ≡ whole
signs_turn os acc new whole i d o lt eo en h =
    let e : drop i os ≡ o ∷ drop (i + 1) os = drop_more os i d lt ∙ ap (λ (x : Operation). x ∷ drop (i + 1) os) (sym eo) in
    ap (λ (z : List Bool). z ++ signs_of (drop (i + 1) os)) en
    ∙ append_assoc acc (sign_in o) (signs_of (drop (i + 1) os))
    ∙ ap (λ (z : List Bool). acc ++ z) (sym (signs-first o (drop (i + 1) os)) ∙ ap signs_of (sym e))
    ∙ h

-- one edge more
pub edge_turn : (g : Flow) (es : List EdgeId) (acc new whole : List Bool) (i : ℕ) (d e : EdgeId) → i < length es → e ≡ get_or es i d
    → new ≡ acc ++ signs_of (operations_at g.edges e.0) → acc ++ signs_along g (drop i es) ≡ whole → new ++ signs_along g (drop (i + 1) es) ≡ whole
edge_turn g es acc new whole i d e lt ee en h =
    let q : drop i es ≡ e ∷ drop (i + 1) es = drop_more es i d lt ∙ ap (λ (x : EdgeId). x ∷ drop (i + 1) es) (sym ee) in
    ap (λ (z : List Bool). z ++ signs_along g (drop (i + 1) es)) en
    ∙ append_assoc acc (signs_of (operations_at g.edges e.0)) (signs_along g (drop (i + 1) es))
    ∙ ap (λ (z : List Bool). acc ++ z) (ap (signs_along g) (sym q))
    ∙ h

-- one value more
pub value_turn : (widths : List ℕ) (v : ℕ → Bool) (bs : List Bundle) (ss : List Bool) (acc new whole : List ℤ) (i : ℕ) (d b : Bundle) (f s : Bool) (z : ℤ)
    → i < length bs → i < length ss → b ≡ get_or bs i d → s ≡ get_or ss i f → z ≡ read_as s (slice_index widths b.cell) (number v b.bits)
    → new ≡ acc ++ z ∷ [] → acc ++ values_read widths v (drop i bs) (drop i ss) ≡ whole
    → new ++ values_read widths v (drop (i + 1) bs) (drop (i + 1) ss) ≡ whole
value_turn widths v bs ss acc new whole i d b f s z lb ls eb es ez en h =
    let p : drop i bs ≡ b ∷ drop (i + 1) bs = drop_more bs i d lb ∙ ap (λ (x : Bundle). x ∷ drop (i + 1) bs) (sym eb) in
    let q : drop i ss ≡ s ∷ drop (i + 1) ss = drop_more ss i f ls ∙ ap (λ (x : Bool). x ∷ drop (i + 1) ss) (sym es) in
    ap (λ (t : List ℤ). t ++ values_read widths v (drop (i + 1) bs) (drop (i + 1) ss)) en
    ∙ append_assoc acc (z ∷ []) (values_read widths v (drop (i + 1) bs) (drop (i + 1) ss))
    ∙ ap (λ (x : ℤ). acc ++ x ∷ values_read widths v (drop (i + 1) bs) (drop (i + 1) ss)) ez
    ∙ ap (λ (xs : List Bundle). acc ++ values_read widths v xs (s ∷ drop (i + 1) ss)) (sym p)
    ∙ ap (λ (xs : List Bool). acc ++ values_read widths v (drop i bs) xs) (sym q)
    ∙ h

drop-all : {A : Type 0} (xs : List A) (i : ℕ) → length xs ≤ i → drop i xs ≡ []
drop-all [] zero le = refl
drop-all [] (suc i) le = refl
drop-all (x ∷ xs) zero le = absurd (omega (arith, le))
drop-all (x ∷ xs) (suc i) le = drop-all xs i (omega (arith, le))

no-values : (widths : List ℕ) (v : ℕ → Bool) (bs : List Bundle) → values_read widths v bs [] ≡ []
no-values widths v [] = refl
no-values widths v (b ∷ bs) = refl

-- none is left
pub values_end : (widths : List ℕ) (v : ℕ → Bool) (bs : List Bundle) (ss : List Bool) (acc whole : List ℤ) (i : ℕ)
    → (i ≡ length bs) ⊎ (i ≡ length ss) → acc ++ values_read widths v (drop i bs) (drop i ss) ≡ whole → acc ++ [] ≡ whole
values_end widths v bs ss acc whole i (inl e) h =
    ap (λ (z : List ℤ). acc ++ z) (sym (ap (λ (xs : List Bundle). values_read widths v xs (drop i ss)) (drop-all bs i (omega (arith, e))))) ∙ h
values_end widths v bs ss acc whole i (inr e) h =
    ap (λ (z : List ℤ). acc ++ z)
    (sym (ap (λ (xs : List Bool). values_read widths v (drop i bs) xs) (drop-all ss i (omega (arith, e))) ∙ no-values widths v (drop i bs))) ∙ h

-- draws are at most 64 bits wide

abbrev IsShort : List ℕ → Bundle → Type 0
IsShort widths b = (0 < slice_index widths b.cell) × (slice_index widths b.cell ≤ 64)

short-none : (widths : List ℕ) → All (IsShort widths) []
short-none widths = λ k d lt. absurd (omega (arith, lt))

short-more : (widths : List ℕ) (x : Bundle) (xs : List Bundle) → IsShort widths x → All (IsShort widths) xs → All (IsShort widths) (x ∷ xs)
short-more widths x xs a b = λ k d lt. by k d lt
  where
    by : (k : ℕ) (d : Bundle) → k < length (x ∷ xs) → IsShort widths (get_or (x ∷ xs) k d)
    by zero d lt = a
    by (suc k) d lt = b k d (omega (arith, lt))

short-both : (widths : List ℕ) (xs ys : List Bundle) → All (IsShort widths) xs → All (IsShort widths) ys → All (IsShort widths) (xs ++ ys)
short-both widths [] ys a b = b
short-both widths (x ∷ xs) ys a b = short-more widths x (xs ++ ys) (All-head (IsShort widths) x xs a) (short-both widths xs ys (All-tail (IsShort widths) x xs a) b)

added-short : (table : Table) (h : Held) (o : Operation) (b : Bool) → All IsWidth table.cells → OperationFits table o
    → All (IsShort table.cells) (added_if b table h o).draws
added-short table h o false wide f = short-none table.cells
added-short table h (Assume t) true wide f = short-none table.cells
added-short table h (Set c t) true wide f = short-none table.cells
added-short table h (SetAt first n i t) true wide f = short-none table.cells
added-short table h (Draw c signed) true wide f = short-more table.cells _ [] ((wide c 0 f.0).0, f.1) (short-none table.cells)

all-short : (table : Table) (h : Held) (os : List Operation) (kept : List Bool) → All IsWidth table.cells → All (OperationFits table) os
    → All (IsShort table.cells) (added_all table h os kept).draws
all-short table h [] kept wide f = short-none table.cells
all-short table h (o ∷ os) kept wide f =
    short-both table.cells (added_if (get_or kept 0 false) table h o).draws (added_all table (added_if (get_or kept 0 false) table h o).held os (drop 1 kept)).draws
    (added-short table h o (get_or kept 0 false) wide (All-head (OperationFits table) o os f))
    (all-short table (added_if (get_or kept 0 false) table h o).held os (drop 1 kept) wide (All-tail (OperationFits table) o os f))

path-short : (g : Flow) → IsFlow g → (n : ℕ) (h : Held) (path : List EdgeId) → All (IsShort g.terms.cells) (asked g n h path).draws
path-short g flow n h [] = short-none g.terms.cells
path-short g flow n h (e ∷ es) =
    let m = stepped g (plan_of g e es) h in
    short-both g.terms.cells m.draws (asked g (n + length m.clauses) m.held es).draws
    (all-short g.terms _ (operations_at g.edges e.0) _ flow.table.cells (operations_fit g e.0 flow))
    (path-short g flow (n + length m.clauses) m.held es)

-- so what a path's question draws can be drawn
pub draws_fit : (g : Flow) (path : List EdgeId) (q : PathQuery) (n : ℕ) → IsFlow g → IsQuery (widths_of g.cells) n q → q ≡ question_of g path
    → All (IsDrawable (widths_of g.cells)) q.draws
draws_fit g path q n flow is e =
    let all : All (IsShort (widths_of g.cells)) q.draws =
    subst (λ (x : PathQuery). All (IsShort (widths_of g.cells)) x.draws) (sym e)
    (subst (λ (ws : List ℕ). All (IsShort ws) (question_of g path).draws) flow.cells (path-short g flow 0 (new_of [] g.terms.cells) path)) in
    λ k d lt.
    let b : IsBundle (widths_of g.cells) (get_or q.draws k d) = is.draws k d lt in
    let s : IsShort (widths_of g.cells) (get_or q.draws k d) = all k d lt in
    (b.1, omega (arith, b.1, s.0), omega (arith, b.1, s.1))
