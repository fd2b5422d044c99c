-- Operations added one after another.
use Rattle.std.proofs.Common.{◌≡◌, ℕ, ◌+◌, ◌≤◌, ◌<◌, length, List, [], ◌∷◌, ◌++◌, All, drop, get_or, slice_index, arith, ap, sym, ◌∙◌, refl, suc, zero, subst, Bool, true, false, append_assoc}
use Rattle.std.proofs.lemmas.List.{drop_more, get_or-drop, drop-drop, append-nil}
use Rattle.std.proofs.lemmas.List.Elements.{All-head, All-tail, All-nil, All-cons, All-append}
use Rattle.prop.specs.declared.Lit.{Lit}
use Rattle.prop.specs.declared.BlastFail.{BlastFail}
use Rattle.bit_gates.specs.Cut.{Cut}
use Rattle.bit_gates.proofs.Cuts.{cut_more}
use Rattle.bv_term.specs.WellFormed.{Table}
use Rattle.bit_blast.specs.Held.{Held}
use Rattle.c_graph.specs.declared.graph.Operation.{Operation}
use Rattle.c_graph.specs.declared.graph.Operation.TheVariants.{Assume, Set, SetAt, Draw}
use Rattle.c_graph.specs.Shape.{OperationFits}
use Rattle.path_query.specs.declared.query.Bundle.{Bundle}
use Rattle.path_query.specs.Facts.{IsBundle}
use Rattle.path_formula.specs.Added.{Added, added, added_if, added_all, joined, nothing_added}
use Rattle.path_formula.proofs.Parts.{fresh_long}

-- what is left to be added from the operation number i on, and what is there already, make the whole
pub record Rest (table : Table) (first h : Held) (ops : List Operation) (kept : List Bool) (i : ℕ) (old now : List (List Lit)) (olds nows : List Bundle) : Type 0 where
  pub done : List (List Lit)
  pub there : now ≡ old ++ done
  pub clauses : (added_all table first ops kept).clauses ≡ done ++ (added_all table h (drop i ops) (drop i kept)).clauses
  pub draws : olds ++ (added_all table first ops kept).draws ≡ nows ++ (added_all table h (drop i ops) (drop i kept)).draws
  pub held : (added_all table first ops kept).held ≡ (added_all table h (drop i ops) (drop i kept)).held

next : (table : Table) (h : Held) (ops : List Operation) (kept : List Bool) (i : ℕ) (o : Operation) (b : Bool) → i < length ops → o ≡ get_or ops i o
    → b ≡ get_or kept i false
    → added_all table h (drop i ops) (drop i kept)
    ≡ joined (added_if b table h o) (added_all table (added_if b table h o).held (drop (i + 1) ops) (drop (i + 1) kept))
next table h ops kept i o b lt eo eb =
    let d : drop i ops ≡ o ∷ drop (i + 1) ops = drop_more ops i o lt ∙ ap (λ (t : Operation). t ∷ drop (i + 1) ops) (sym eo) in
    let z : i + 0 ≡ i = omega arith in
    let g : get_or (drop i kept) 0 false ≡ b = get_or-drop i kept 0 false ∙ (ap (λ (t : ℕ). get_or kept t false) z ∙ sym eb) in
    let k : drop 1 (drop i kept) ≡ drop (i + 1) kept = drop-drop 1 i kept in
    ap (λ (t : List Operation). added_all table h t (drop i kept)) d
    ∙ (ap (λ (t : Bool). joined (added_if t table h o) (added_all table (added_if t table h o).held (drop (i + 1) ops) (drop 1 (drop i kept)))) g
    ∙ ap (λ (t : List Bool). joined (added_if b table h o) (added_all table (added_if b table h o).held (drop (i + 1) ops) t)) k)

pub rest_turn : (table : Table) (first h h2 : Held) (ops : List Operation) (kept : List Bool) (i : ℕ) (old now new : List (List Lit)) (drawn draws more : List Bundle)
    (o : Operation) (b : Bool) → i < length ops → o ≡ get_or ops i o → b ≡ get_or kept i false
    → new ≡ now ++ (added_if b table h o).clauses → more ≡ draws ++ (added_if b table h o).draws → h2 ≡ (added_if b table h o).held
    → Rest table first h ops kept i old now drawn draws → Rest table first h2 ops kept (i + 1) old new drawn more
rest_turn table first h h2 ops kept i old now new drawn draws more o b lt eo eb ec ed eh r =
    let n = next table h ops kept i o b lt eo eb in
    let m = added_if b table h o in
    let s = added_all table m.held (drop (i + 1) ops) (drop (i + 1) kept) in
    let s2 = added_all table h2 (drop (i + 1) ops) (drop (i + 1) kept) in
    let e : s ≡ s2 = ap (λ (t : Held). added_all table t (drop (i + 1) ops) (drop (i + 1) kept)) (sym eh) in
    record {
      done = r.done ++ m.clauses;
      there = ec ∙ (ap (λ (t : List (List Lit)). t ++ m.clauses) r.there ∙ append_assoc old r.done m.clauses);
      clauses = r.clauses ∙ (ap (λ (t : Added). r.done ++ t.clauses) n ∙ (sym (append_assoc r.done m.clauses s.clauses)
          ∙ ap (λ (t : Added). (r.done ++ m.clauses) ++ t.clauses) e));
      draws = r.draws ∙ (ap (λ (t : Added). draws ++ t.draws) n ∙ (sym (append_assoc draws m.draws s.draws)
          ∙ (ap (λ (t : List Bundle). t ++ s.draws) (sym ed) ∙ ap (λ (t : Added). more ++ t.draws) e)));
      held = r.held ∙ (ap (λ (t : Added). t.held) n ∙ ap (λ (t : Added). t.held) e);
    }

pub rest_start : (table : Table) (h : Held) (ops : List Operation) (kept : List Bool) (now : List (List Lit)) (draws : List Bundle)
    → Rest table h h ops kept 0 now now draws draws
rest_start table h ops kept now draws = record { done = []; there = sym (append-nil now); clauses = refl; draws = refl; held = refl }

-- an operation that is refused refuses the whole
pub rest_cut : (table : Table) (first h : Held) (ops : List Operation) (kept : List Bool) (i : ℕ) (old now new : List (List Lit)) (drawn draws : List Bundle)
    (o : Operation) (b : Bool) (e : BlastFail) → i < length ops → o ≡ get_or ops i o → b ≡ get_or kept i false
    → Cut e now (added_if b table h o).clauses new → Rest table first h ops kept i old now drawn draws
    → Cut e old (added_all table first ops kept).clauses new
rest_cut table first h ops kept i old now new drawn draws o b e lt eo eb c r =
    let m = added_if b table h o in
    let s = added_all table m.held (drop (i + 1) ops) (drop (i + 1) kept) in
    let w : (added_all table first ops kept).clauses ≡ r.done ++ (m.clauses ++ s.clauses)
    = r.clauses ∙ ap (λ (t : Added). r.done ++ t.clauses) (next table h ops kept i o b lt eo eb) in
    subst (λ (t : List (List Lit)). Cut e old t new) (sym w) (cut_more e old r.done m.clauses s.clauses now new r.there c)

-- an operation of a list is so whatever stands for those past the end
pub got_again : (xs : List Operation) (i : ℕ) (d : Operation) → i < length xs → get_or xs i d ≡ get_or xs i (get_or xs i d)
got_again [] i d less = absurd (omega (arith, less))
got_again (y ∷ ys) zero d less = refl
got_again (y ∷ ys) (suc k) d less = got_again ys k d (omega (arith, less))

-- an operation that is left out
pub rest_skip : (table : Table) (first h : Held) (ops : List Operation) (kept : List Bool) (i : ℕ) (old now : List (List Lit)) (drawn draws : List Bundle)
    → i < length ops → false ≡ get_or kept i false
    → Rest table first h ops kept i old now drawn draws → Rest table first h ops kept (i + 1) old now drawn draws
rest_skip table first h [] kept i old now drawn draws lt eb r = absurd (omega (arith, lt))
rest_skip table first h (x ∷ ops) kept i old now drawn draws lt eb r =
    let o = get_or (x ∷ ops) i x in
    rest_turn table first h h (x ∷ ops) kept i old now now drawn draws draws o false lt (got_again (x ∷ ops) i x lt) eb
    (sym (append-nil now)) (sym (append-nil draws)) refl r

past-end : {A : Type 0} (xs : List A) (i : ℕ) → length xs ≤ i → drop i xs ≡ []
past-end [] zero le = refl
past-end [] (suc i) le = refl
past-end (x ∷ xs) zero le = absurd (omega (arith, le))
past-end (x ∷ xs) (suc i) le = past-end xs i (omega (arith, le))

pub rest_end : (table : Table) (first h : Held) (ops : List Operation) (kept : List Bool) (i : ℕ) (old now : List (List Lit)) (drawn draws : List Bundle)
    → length ops ≤ i → Rest table first h ops kept i old now drawn draws
    → (now ≡ old ++ (added_all table first ops kept).clauses) × (draws ≡ drawn ++ (added_all table first ops kept).draws)
    × (h ≡ (added_all table first ops kept).held)
rest_end table first h ops kept i old now drawn draws le r =
    let e : added_all table h (drop i ops) (drop i kept) ≡ nothing_added h = ap (λ (t : List Operation). added_all table h t (drop i kept)) (past-end ops i le) in (
      r.there ∙ ap (λ (t : List (List Lit)). old ++ t) (sym (r.clauses ∙ (ap (λ (t : Added). r.done ++ t.clauses) e ∙ append-nil r.done))),
      sym (r.draws ∙ (ap (λ (t : Added). draws ++ t.draws) e ∙ append-nil draws)),
      sym (r.held ∙ ap (λ (t : Added). t.held) e),
    )

-- what is drawn has a literal for each bit
one_bundle : (table : Table) (h : Held) (o : Operation) → OperationFits table o → All (IsBundle table.cells) (added table h o).draws
one_bundle table h (Assume t) f = All-nil (IsBundle table.cells)
one_bundle table h (Set c t) f = All-nil (IsBundle table.cells)
one_bundle table h (SetAt first n i t) f = All-nil (IsBundle table.cells)
one_bundle table h (Draw c signed) f =
    All-cons (IsBundle table.cells) _ [] (f.0, fresh_long h.next (slice_index table.cells c)) (All-nil (IsBundle table.cells))

if_bundle : (b : Bool) (table : Table) (h : Held) (o : Operation) → OperationFits table o → All (IsBundle table.cells) (added_if b table h o).draws
if_bundle true table h o f = one_bundle table h o f
if_bundle false table h o f = All-nil (IsBundle table.cells)

pub all_bundles : (table : Table) (h : Held) (ops : List Operation) (kept : List Bool) → All (OperationFits table) ops
    → All (IsBundle table.cells) (added_all table h ops kept).draws
all_bundles table h [] kept f = All-nil (IsBundle table.cells)
all_bundles table h (o ∷ os) kept f =
    let m = added_if (get_or kept 0 false) table h o in
    All-append (IsBundle table.cells) m.draws (added_all table m.held os (drop 1 kept)).draws
    (if_bundle (get_or kept 0 false) table h o (All-head (OperationFits table) o os f))
    (all_bundles table m.held os (drop 1 kept) (All-tail (OperationFits table) o os f))
