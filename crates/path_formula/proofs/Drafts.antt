-- A question keeps its facts as steps are added.
use Rattle.std.proofs.Common.{◌≡◌, ℕ, ◌+◌, ◌≤◌, ◌<◌, length, List, [], ◌∷◌, ◌++◌, All, arith, ap, sym, ◌∙◌, subst, Bool}
use Rattle.std.proofs.lemmas.List.{length-append}
use Rattle.std.proofs.lemmas.List.Elements.{All-head, All-tail, All-nil, All-cons, All-push}
use Rattle.prop.specs.declared.Lit.{Lit}
use Rattle.bv_term.specs.WellFormed.{Table, IsWidth}
use Rattle.bit_blast.specs.Held.{Held, IsOver, above_all, new_of, renew_of, sum_of}
use Rattle.c_graph.specs.Shape.{Flow}
use Rattle.path_query.specs.declared.query.Bundle.{Bundle}
use Rattle.path_query.specs.Facts.{IsBundle, RisingTo}
use Rattle.path_formula.specs.declared.path.Draft.{Draft}
use Rattle.path_formula.specs.Added.{added_all}
use Rattle.path_formula.specs.Needs.{operations_at}
use Rattle.path_formula.specs.Questions.{Plan, stepped}
use Rattle.path_formula.specs.Paths.{AreThere, IsDraft, bundles_of}
use Rattle.path_formula.proofs.Parts.{cell_long, many_cells}

pub rising_more : (low : ℕ) (ns : List ℕ) (m n : ℕ) → RisingTo low ns m → m ≤ n → RisingTo low (ns ++ m ∷ []) n
rising_more low [] m n h le = (h, le)
rising_more low (k ∷ ns) m n h le = (h.0, rising_more k ns m n h.1 le)

pub bundles_fit : (table : Table) (h : Held) (cells : List ℕ) → IsOver table h → AreThere table.cells cells
    → All (IsBundle table.cells) (bundles_of h.cells cells)
bundles_fit table h [] o a = All-nil (IsBundle table.cells)
bundles_fit table h (c ∷ cs) o a =
    let P : ℕ → Type 0 = λ k. k < length table.cells in
    All-cons (IsBundle table.cells) _ (bundles_of h.cells cs) (All-head P c cs a, cell_long table h c o)
    (bundles_fit table h cs o (All-tail P c cs a))

pub held_there : (table : Table) (h : Held) (cells : List ℕ) → IsOver table h → AreThere table.cells cells → All (λ c. c < length h.cells) cells
held_there table h cells o a = subst (λ (n : ℕ). All (λ c. c < n) cells) (sym (many_cells table h o)) a

pub sum_many : (ws : List ℕ) → All IsWidth ws → length ws ≤ sum_of ws
sum_many [] a = omega arith
sum_many (w ∷ ws) a =
    let i = sum_many ws (All-tail IsWidth w ws a) in
    let w1 = (All-head IsWidth w ws a).0 in
    omega (arith, i, w1)

pub more_clauses : (old more new : List (List Lit)) → new ≡ old ++ more → length old ≤ length new
more_clauses old more new e = omega (arith, ap length e, length-append old more)

-- as many variables are numbered as the cells have bits, so the cells are numbered too
pub few_cells : (ws : List ℕ) (cs : List (List Lit)) (h : Held) (n : ℕ) → All IsWidth ws → h ≡ new_of cs ws → n ≡ h.next → n < 4294967296
    → length ws ≤ 4294967295
few_cells ws cs h n a e en lt =
    let s = sum_many ws a in
    let v : h.next ≡ above_all 0 cs + sum_of ws = ap (λ (t : Held). t.next) e in
    omega (arith, s, v, en, lt)

pub draft_begun : (table : Table) (d : Draft) (cells : List ℕ) → IsOver table d.bits → AreThere table.cells cells → d.starts.items ≡ [] → d.draws.items ≡ []
    → d.cuts.items ≡ bundles_of d.bits.cells cells ∷ [] → IsDraft table d
draft_begun table d cells o a es ed ec =
    let B : List Bundle → Type 0 = All (IsBundle table.cells) in
    record {
      over = o;
      rising = subst (λ (t : List ℕ). RisingTo 0 t (length d.clauses)) (sym es) (omega arith);
      cuts = omega (arith, ap length ec, ap length es);
      bundles = subst (λ (t : List (List Bundle)). All B t) (sym ec)
          (All-cons B (bundles_of d.bits.cells cells) [] (bundles_fit table d.bits cells o a) (All-nil B));
      draws = subst (λ (t : List Bundle). All (IsBundle table.cells) t) (sym ed) (All-nil (IsBundle table.cells));
    }

pub draft_stepped : (table : Table) (d n : Draft) (cells : List ℕ) → IsDraft table d → IsOver table n.bits → AreThere table.cells cells
    → length d.clauses ≤ length n.clauses → n.starts.items ≡ d.starts.items ++ length d.clauses ∷ [] → All (IsBundle table.cells) n.draws.items
    → n.cuts.items ≡ d.cuts.items ++ bundles_of n.bits.cells cells ∷ [] → IsDraft table n
draft_stepped table d n cells h o a le es ad ec =
    let B : List Bundle → Type 0 = All (IsBundle table.cells) in
    let c = bundles_of n.bits.cells cells in
    record {
      over = o;
      rising = subst (λ (t : List ℕ). RisingTo 0 t (length n.clauses)) (sym es) (rising_more 0 d.starts.items (length d.clauses) (length n.clauses) h.rising le);
      cuts = omega (arith, ap length ec, ap length es, length-append d.cuts.items (c ∷ []), length-append d.starts.items (length d.clauses ∷ []), h.cuts);
      bundles = subst (λ (t : List (List Bundle)). All B t) (sym ec) (All-push B d.cuts.items c h.bundles (bundles_fit table n.bits cells o a));
      draws = ad;
    }

-- the clauses of a step, made in two parts
pub step_whole : (g : Flow) (p : Plan) (h h2 : Held) (kept : List Bool) (old cur new : List (List Lit)) → cur ≡ old → h2 ≡ renew_of h → kept ≡ p.kept
    → new ≡ cur ++ (added_all g.terms h2 (operations_at g.edges p.edge.0) kept).clauses → new ≡ old ++ (stepped g p h).clauses
step_whole g p h h2 kept old cur new e1 e2 e3 en =
    let ops = operations_at g.edges p.edge.0 in
    en ∙ (ap (λ (t : List (List Lit)). t ++ (added_all g.terms h2 ops kept).clauses) e1
    ∙ (ap (λ (t : Held). old ++ (added_all g.terms t ops kept).clauses) e2
    ∙ ap (λ (t : List Bool). old ++ (added_all g.terms (renew_of h) ops t).clauses) e3))

pub all_rest : {A : Type 0} (P : A → Type 0) (xs : List A) (x : A) → All P (xs ++ x ∷ []) → All P xs × P x
all_rest P [] x a = (All-nil P, All-head P x [] a)
all_rest P (y ∷ ys) x a =
    let r = all_rest P ys x (All-tail P y (ys ++ x ∷ []) a) in
    (All-cons P y ys (All-head P y (ys ++ x ∷ []) a) r.0, r.1)
