-- What cuts a part of an obligation's clauses off cuts off the whole.
use Rattle.std.proofs.Common.{◌≡◌, ℕ, ◌+◌, ◌<◌, ◌≤◌, Bool, true, false, length, List, [], ◌∷◌, ◌++◌, ap, map, sym, ◌∙◌, subst}
use Rattle.std.proofs.lemmas.Bool.{false≢true}
use Rattle.prop.specs.declared.Lit.{Lit}
use Rattle.prop.specs.declared.BlastFail.{BlastFail}
use Rattle.prop.specs.declared.BlastFail.TheVariants.{Over, Memory}
use Rattle.prop.specs.Logic.{count, negated, OnFail}
use Rattle.bit_gates.specs.Cut.{Cut, IsCutOff}
use Rattle.bit_gates.specs.Net.{net_clauses}
use Rattle.bv_term.specs.WellFormed.{Table}
use Rattle.bit_blast.specs.Held.{Held, blast_of, renew_of}
use Rattle.c_graph.specs.declared.graph.NodeId.{NodeId}
use Rattle.c_graph.specs.Shape.{Flow}
use Rattle.c_graph.specs.Runs.{Formulas}
use Rattle.path_formula.specs.Added.{Added, added_all}
use Rattle.path_formula.specs.Needs.{operations_at}
use Rattle.bit_gates.proofs.Refusals.{cut_off, first_cut, last_cut, pushed_cut}
use Rattle.obligations.specs.Stated.{IsPast, Stated, begun_over, edge_says, formula_at, from_of, kept_for, node_says, signed, stated, to_of}

-- what is cut off is past the limit
pub off_past : (e : BlastFail) (clauses : List (List Lit)) → IsCutOff clauses e → IsPast e
off_past (Over n) clauses (left, c, within) = subst (λ (t : ℕ). 67108864 < t) (sym c.cause.1) c.cause.0.1
off_past Memory clauses t = tt

-- the clauses of the term are cut off; the literal's own clause is
pub stated_first : (holds : Bool) (table : Table) (t : ℕ) (h : Held) (old new : List (List Lit)) (e : BlastFail)
    → Cut e old (net_clauses h.next (blast_of table t h).defs) new → Cut e old (stated holds table t h).clauses new
stated_first holds table t h old new e c =
    let m = blast_of table t h in
    first_cut e old (net_clauses h.next m.defs) (signed holds m.outs ∷ []) new c

pub stated_last : (holds : Bool) (table : Table) (t : ℕ) (h : Held) (old cur new : List (List Lit)) (l : List Lit) (e : BlastFail)
    → cur ≡ old ++ net_clauses h.next (blast_of table t h).defs → l ≡ signed holds (blast_of table t h).outs
    → OnFail e (67108864 < count cur + length l) (count cur + length l) → new ≡ cur → Cut e old (stated holds table t h).clauses new
stated_last holds table t h old cur new l e whole is fail same =
    let a = net_clauses h.next (blast_of table t h).defs in
    subst (λ (x : List Lit). Cut e old (a ++ x ∷ []) new) is (pushed_cut e old a cur new l whole fail same)

-- the literal, or its complement
pub said_is : (holds : Bool) (l said : Lit) (outs : List Lit) → l ∷ [] ≡ outs → holds ≡ true → said ≡ l → said ∷ [] ≡ signed holds outs
said_is true l said outs are is same = ap (λ (x : Lit). x ∷ []) same ∙ are
said_is false l said outs are is same = absurd (false≢true is)

pub denied_is : (holds : Bool) (l said : Lit) (outs : List Lit) → l ∷ [] ≡ outs → holds ≡ false → said ≡ negated l → said ∷ [] ≡ signed holds outs
denied_is true l said outs are is same = absurd (false≢true (sym is))
denied_is false l said outs are is same = ap (λ (x : Lit). x ∷ []) same ∙ ap (map negated) are

-- the only part of the clauses of a node
pub node_off : (holds : Bool) (m : Formulas) (v : NodeId) (h : Held) (old new : List (List Lit)) (e : BlastFail)
    → h ≡ begun_over m → old ≡ [] → count new ≤ 67108864 → Cut e old (stated holds m.terms (formula_at m v) h).clauses new
    → IsCutOff (node_says holds m v) e
node_off holds m v h old new e begun none within c =
    cut_off e (node_says holds m v) new within
    (subst (λ (x : Held). Cut e [] (stated holds m.terms (formula_at m v) x).clauses new) begun
    (subst (λ (x : List (List Lit)). Cut e x (stated holds m.terms (formula_at m v) h).clauses new) none c))

-- three parts one after another
first_of : (e : BlastFail) (a b c new : List (List Lit)) → count new ≤ 67108864 → Cut e [] a new → IsCutOff ((a ++ b) ++ c) e
first_of e a b c new within cut = cut_off e ((a ++ b) ++ c) new within (first_cut e [] (a ++ b) c new (first_cut e [] a b new cut))

second_of : (e : BlastFail) (a b c one new : List (List Lit)) → count new ≤ 67108864 → one ≡ a → Cut e one b new → IsCutOff ((a ++ b) ++ c) e
second_of e a b c one new within is cut =
    cut_off e ((a ++ b) ++ c) new within (first_cut e [] (a ++ b) c new (last_cut e [] a b one new is cut))

third_of : (e : BlastFail) (a b c one two new : List (List Lit)) → count new ≤ 67108864 → one ≡ a → two ≡ one ++ b → Cut e two c new
    → IsCutOff ((a ++ b) ++ c) e
third_of e a b c one two new within is more cut =
    cut_off e ((a ++ b) ++ c) new within (last_cut e [] (a ++ b) c two new (more ∙ ap (λ (x : List (List Lit)). x ++ b) is) cut)

-- what an edge says of its start, of its operations, and of its end
abbrev start_says : Flow → Formulas → ℕ → Stated
start_says g m k = stated true m.terms (formula_at m (from_of g.edges k)) (begun_over m)

abbrev middle_says : Flow → Formulas → ℕ → Added
middle_says g m k = added_all g.terms (renew_of (start_says g m k).held) (operations_at g.edges k) (kept_for g m k)

abbrev end_says : Flow → Formulas → ℕ → Stated
end_says g m k = stated false m.terms (formula_at m (to_of g.edges k)) (renew_of (middle_says g m k).held)

module _ (g : Flow) (m : Formulas) (k : ℕ) where
  start_is : (v : NodeId) (h : Held) → v ≡ from_of g.edges k → h ≡ begun_over m → stated true m.terms (formula_at m v) h ≡ start_says g m k
  start_is v h start begun =
      ap (λ (x : NodeId). stated true m.terms (formula_at m x) h) start
      ∙ ap (λ (x : Held). stated true m.terms (formula_at m (from_of g.edges k)) x) begun

  middle_is : (h : Held) (kept : List Bool) → h ≡ (start_says g m k).held → kept ≡ kept_for g m k
      → added_all g.terms (renew_of h) (operations_at g.edges k) kept ≡ middle_says g m k
  middle_is h kept held are =
      ap (λ (x : Held). added_all g.terms (renew_of x) (operations_at g.edges k) kept) held
      ∙ ap (λ (x : List Bool). added_all g.terms (renew_of (start_says g m k).held) (operations_at g.edges k) x) are

  end_is : (v : NodeId) (h : Held) → v ≡ to_of g.edges k → h ≡ renew_of (middle_says g m k).held
      → stated false m.terms (formula_at m v) h ≡ end_says g m k
  end_is v h end held =
      ap (λ (x : NodeId). stated false m.terms (formula_at m x) h) end
      ∙ ap (λ (x : Held). stated false m.terms (formula_at m (to_of g.edges k)) x) held

  -- the start is behind: what was added, and what is held
  pub started : (v : NodeId) (h after : Held) (old one : List (List Lit)) → v ≡ from_of g.edges k → h ≡ begun_over m → old ≡ []
      → one ≡ old ++ (stated true m.terms (formula_at m v) h).clauses → after ≡ (stated true m.terms (formula_at m v) h).held
      → (one ≡ (start_says g m k).clauses) × (after ≡ (start_says g m k).held)
  started v h after old one start begun none whole held =
      let same = start_is v h start begun in (
        whole ∙ (ap (λ (x : List (List Lit)). x ++ (stated true m.terms (formula_at m v) h).clauses) none ∙ ap (λ (x : Stated). x.clauses) same),
        held ∙ ap (λ (x : Stated). x.held) same,
      )

  -- so are the operations
  pub operated : (h after : Held) (kept : List Bool) (one two : List (List Lit)) → h ≡ (start_says g m k).held → kept ≡ kept_for g m k
      → two ≡ one ++ (added_all g.terms (renew_of h) (operations_at g.edges k) kept).clauses
      → after ≡ renew_of (added_all g.terms (renew_of h) (operations_at g.edges k) kept).held
      → (two ≡ one ++ (middle_says g m k).clauses) × (after ≡ renew_of (middle_says g m k).held)
  operated h after kept one two before are whole held =
      let same = middle_is h kept before are in (
        whole ∙ ap (λ (x : Added). one ++ x.clauses) same,
        held ∙ ap (λ (x : Added). renew_of x.held) same,
      )

  pub start_off : (v : NodeId) (h : Held) (old new : List (List Lit)) (e : BlastFail) → v ≡ from_of g.edges k → h ≡ begun_over m → old ≡ []
      → count new ≤ 67108864 → Cut e old (stated true m.terms (formula_at m v) h).clauses new → IsCutOff (edge_says g m k) e
  start_off v h old new e start begun none within cut =
      let a = start_says g m k in
      let b = middle_says g m k in
      let d = end_says g m k in
      first_of e a.clauses b.clauses d.clauses new within
      (subst (λ (x : Stated). Cut e [] x.clauses new) (start_is v h start begun)
      (subst (λ (x : List (List Lit)). Cut e x (stated true m.terms (formula_at m v) h).clauses new) none cut))

  pub middle_off : (h : Held) (kept : List Bool) (one new : List (List Lit)) (e : BlastFail)
      → (one ≡ (start_says g m k).clauses) × (h ≡ (start_says g m k).held) → kept ≡ kept_for g m k
      → count new ≤ 67108864 → Cut e one (added_all g.terms (renew_of h) (operations_at g.edges k) kept).clauses new → IsCutOff (edge_says g m k) e
  middle_off h kept one new e before are within cut =
      let a = start_says g m k in
      let b = middle_says g m k in
      let d = end_says g m k in
      second_of e a.clauses b.clauses d.clauses one new within before.0
      (subst (λ (x : Added). Cut e one x.clauses new) (middle_is h kept before.1 are) cut)

  pub end_off : (v : NodeId) (h : Held) (one two new : List (List Lit)) (e : BlastFail) → one ≡ (start_says g m k).clauses
      → (two ≡ one ++ (middle_says g m k).clauses) × (h ≡ renew_of (middle_says g m k).held) → v ≡ to_of g.edges k
      → count new ≤ 67108864 → Cut e two (stated false m.terms (formula_at m v) h).clauses new → IsCutOff (edge_says g m k) e
  end_off v h one two new e start before end within cut =
      let a = start_says g m k in
      let b = middle_says g m k in
      let d = end_says g m k in
      third_of e a.clauses b.clauses d.clauses one two new within start before.0
      (subst (λ (x : Stated). Cut e two x.clauses new) (end_is v h end before.1) cut)
