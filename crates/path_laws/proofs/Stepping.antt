-- Where a path's step stands, and what is held before it.
use Rattle.std.proofs.Common.{◌≡◌, ℕ, ◌+◌, ◌≤◌, List, [], ◌∷◌, ◌++◌, length, map, All, refl, sym, ap, ◌∙◌, subst, zero, suc, arith, slice_get, slice_index_or, Some, None, append_assoc}
use Rattle.std.proofs.lemmas.List.{length-append}
use Rattle.prop.specs.declared.Lit.{Lit}
use Rattle.bit_gates.proofs.Exacts.{below_ok}
use Rattle.bit_gates.proofs.Within.{Fits}
use Rattle.bv_term.specs.WellFormed.{Table, IsTable}
use Rattle.bit_blast.specs.Emission.{cell_at}
use Rattle.bit_blast.specs.Held.{Held, new_of, renew_of}
use Rattle.bit_blast.proofs.Over.{over-none}
use Rattle.c_graph.specs.declared.graph.Edge.{Edge}
use Rattle.c_graph.specs.declared.graph.EdgeId.{EdgeId}
use Rattle.c_graph.specs.Shape.{EdgeFits, Flow, IsFlow, OperationFits}
use Rattle.blast_laws.proofs.Owes.{AllOk, Below, IsLow, all-at, all-more, fits-zero, low-below}
use Rattle.blast_laws.proofs.Keeping.{none-fits}
use Rattle.blast_laws.proofs.Runs.{new_starts, start-keeps}
use Rattle.blast_laws.proofs.Scopes.{all-both}
use Rattle.path_query.specs.declared.query.Bundle.{Bundle}
use Rattle.path_formula.specs.Needs.{operations_at}
use Rattle.path_formula.specs.Paths.{bundles_of}
use Rattle.path_formula.specs.Questions.{asked, needed_along, plan_of, question_of, stepped}
use Rattle.obligation_laws.specs.Draws.{BundlesBelow}
use Rattle.path_laws.specs.Steps.{ClausesBelow, step_of, steps_from}
use Rattle.path_laws.specs.Laws.{QuestionsAreSteps}
use Rattle.path_laws.proofs.Adding.{Adds, Amid, NeededOk, adds_all, bundles_both, bundles_up}

-- what is held between steps
pub record Sound (table : Table) (h : Held) : Type 0 where
  pub widths : map length h.cells ≡ table.cells
  pub inside : AllOk Below h.next h.cells

-- the beginning of a step
pub renewed : (P : ℕ → ℕ → Type 0) (table : Table) (h : Held) → Sound table h → Amid P table (renew_of h)
renewed P table h s = record {
  us = [];
  more = table.terms;
  whole = refl;
  keeps = record { widths = s.widths; cells = s.inside; one = tt; lits = λ j. tt; fit = none-fits (record { cells = table.cells; terms = [] }) };
  over = over-none table h.next None h.cells s.widths;
  one = tt;
  lits = λ j. tt;
}

pub sound_new : (table : Table) → IsTable table → Sound table (new_of [] table.cells)
sound_new table is =
    let k = start-keeps table.cells (new_of [] table.cells) (new_starts [] table.cells is.cells) in
    record { widths = k.widths; inside = k.cells }

pub operations_fit : (g : Flow) (k : ℕ) → IsFlow g → All (OperationFits g.terms) (operations_at g.edges k)
operations_fit g k flow = by g.edges k flow.edges
  where
    by : (es : List Edge) (k : ℕ) → All (EdgeFits g.nodes g.terms) es → All (OperationFits g.terms) (operations_at es k)
    by [] k f = λ i d lt. absurd (omega (arith, lt))
    by (e ∷ es) zero f = (f 0 e (omega arith)).operations
    by (e ∷ es) (suc k) f = by es k (λ i d lt. f (suc i) d (omega (arith, lt)))

-- a step
pub step_adds : (P : ℕ → ℕ → Type 0) (lo : ℕ) → Fits P lo → IsLow P → (g : Flow) → IsFlow g → (e : EdgeId) (es : List EdgeId) (h : Held) → lo ≤ h.next
    → Sound g.terms h → NeededOk P (needed_along g (e ∷ es)) h → Adds P g.terms (needed_along g es) h (stepped g (plan_of g e es) h)
step_adds P lo f low g flow e es h le s need =
    let a = adds_all P lo f low g.terms flow.table (needed_along g es) (operations_at g.edges e.0) (operations_fit g e.0 flow) (renew_of h) le (renewed P g.terms h s) need in
    record { amid = a.amid; rises = a.rises; clauses = a.clauses; needed = a.needed; draws = a.draws }

pub sound_amid : (P : ℕ → ℕ → Type 0) (table : Table) (h : Held) → Amid P table h → Sound table h
sound_amid P table h a = record { widths = a.keeps.widths; inside = a.keeps.cells }

needed_sound : (table : Table) (h : Held) (needed : List ℕ) → Sound table h → NeededOk Below needed h
needed_sound table h needed s c i = all-at Below h.next c h.cells s.inside

pub step_sound : (g : Flow) → IsFlow g → (e : EdgeId) (es : List EdgeId) (h : Held) → Sound g.terms h → Adds Below g.terms (needed_along g es) h (stepped g (plan_of g e es) h)
step_sound g flow e es h s = step_adds Below 0 fits-zero low-below g flow e es h (omega arith) s (needed_sound g.terms h (needed_along g (e ∷ es)) s)

-- the step of a number: n clauses stand before the first
pub record Place (g : Flow) (n : ℕ) (h : Held) (path : List EdgeId) (k : ℕ) (e : EdgeId) : Type 0 where
  pub held : Held
  pub es : List EdgeId
  pub earlier : List (List Lit)
  pub drawn : List Bundle
  pub sound : Sound g.terms held
  pub rises : h.next ≤ held.next
  pub low : AllOk Below held.next earlier
  pub drawn_low : BundlesBelow held.next drawn
  pub step : slice_get (steps_from g h path) k ≡ Some (step_of g held e es)
  pub clauses : (asked g n h path).clauses ≡ earlier ++ (asked g (n + length earlier) held (e ∷ es)).clauses
  pub start : slice_get (asked g n h path).starts k ≡ Some (n + length earlier)
  pub next : slice_index_or (asked g n h path).starts (suc k) (n + length (asked g n h path).clauses)
      ≡ n + length earlier + length (stepped g (plan_of g e es) held).clauses
  pub draws : (asked g n h path).draws ≡ drawn ++ (asked g (n + length earlier) held (e ∷ es)).draws
  pub before : slice_get (bundles_of h.cells (needed_along g path) ∷ (asked g n h path).cuts) k ≡ Some (bundles_of held.cells (needed_along g (e ∷ es)))
  pub behind : slice_get (asked g n h path).cuts k ≡ Some (bundles_of (stepped g (plan_of g e es) held).held.cells (needed_along g es))

edge_is : (a b : EdgeId) → Some a ≡ Some b → a ≡ b
edge_is a b e = cc

first_start : (g : Flow) (n : ℕ) (h : Held) (path : List EdgeId) → slice_index_or (asked g n h path).starts 0 (n + length (asked g n h path).clauses) ≡ n
first_start g n h [] = e
  where
    e : n + 0 ≡ n
    e = omega arith
first_start g n h (e ∷ es) = refl

place_first : (g : Flow) (n : ℕ) (h : Held) (e : EdgeId) (es : List EdgeId) → Sound g.terms h → Place g n h (e ∷ es) 0 e
place_first g n h e es s =
    let z : n ≡ n + 0 = omega arith in
    let m = stepped g (plan_of g e es) h in
    let r = asked g (n + length m.clauses) m.held es in
    let l : n + length (m.clauses ++ r.clauses) ≡ n + length m.clauses + length r.clauses = omega (arith, length-append m.clauses r.clauses) in
    record {
      held = h;
      es = es;
      earlier = [];
      drawn = [];
      sound = s;
      rises = omega arith;
      low = tt;
      drawn_low = tt;
      step = refl;
      clauses = ap (λ (i : ℕ). (asked g i h (e ∷ es)).clauses) z;
      start = ap (λ (j : ℕ). Some j) z;
      next = ap (slice_index_or r.starts 0) l ∙ (first_start g (n + length m.clauses) m.held es ∙ ap (λ (i : ℕ). i + length m.clauses) z);
      draws = ap (λ (i : ℕ). (asked g i h (e ∷ es)).draws) z;
      before = refl;
      behind = refl;
    }

pub place : (g : Flow) → IsFlow g → (n : ℕ) (h : Held) (path : List EdgeId) (k : ℕ) (e : EdgeId) → Sound g.terms h → slice_get path k ≡ Some e → Place g n h path k e
place g flow n h [] k e s at = absurd cc
place g flow n h (d ∷ es) zero e s at = subst (λ (x : EdgeId). Place g n h (d ∷ es) 0 x) (edge_is d e at) (place_first g n h d es s)
place g flow n h (d ∷ es) (suc k) e s at =
    let m = stepped g (plan_of g d es) h in
    let a = step_sound g flow d es h s in
    let i = n + length m.clauses in
    let r = asked g i m.held es in
    let p = place g flow i m.held es k e (sound_amid Below g.terms m.held a.amid) at in
    let more = m.clauses ++ p.earlier in
    let count : n + length more ≡ i + length p.earlier = omega (arith, length-append m.clauses p.earlier) in
    let all : n + length (m.clauses ++ r.clauses) ≡ i + length r.clauses = omega (arith, length-append m.clauses r.clauses) in
    record {
      held = p.held;
      es = p.es;
      earlier = more;
      drawn = m.draws ++ p.drawn;
      sound = p.sound;
      rises = omega (arith, a.rises, p.rises);
      low = all-both Below p.held.next m.clauses p.earlier (all-more Below 0 fits-zero m.held.next p.held.next m.clauses (omega arith) p.rises a.clauses) p.low;
      drawn_low = bundles_both p.held.next m.draws p.drawn (bundles_up m.held.next p.held.next m.draws p.rises a.draws) p.drawn_low;
      step = p.step;
      clauses = ap (λ (t : List (List Lit)). m.clauses ++ t) p.clauses
          ∙ (sym (append_assoc m.clauses p.earlier (asked g (i + length p.earlier) p.held (e ∷ p.es)).clauses)
          ∙ ap (λ (j : ℕ). more ++ (asked g j p.held (e ∷ p.es)).clauses) (sym count));
      start = p.start ∙ ap (λ (j : ℕ). Some j) (sym count);
      next = ap (slice_index_or r.starts (suc k)) all ∙ (p.next ∙ ap (λ (j : ℕ). j + length (stepped g (plan_of g e p.es) p.held).clauses) (sym count));
      draws = ap (λ (t : List Bundle). m.draws ++ t) p.draws
          ∙ (sym (append_assoc m.draws p.drawn (asked g (i + length p.earlier) p.held (e ∷ p.es)).draws)
          ∙ ap (λ (j : ℕ). (m.draws ++ p.drawn) ++ (asked g j p.held (e ∷ p.es)).draws) (sym count));
      before = p.before;
      behind = p.behind;
    }

lits_below : (n : ℕ) (cs : List (List Lit)) → AllOk Below n cs → ClausesBelow n cs
lits_below n [] a = tt
lits_below n (c ∷ cs) a = (below_ok n c a.0, lits_below n cs a.1)

pub bundles_below : (table : Table) (h : Held) (needed : List ℕ) → Sound table h → BundlesBelow h.next (bundles_of h.cells needed)
bundles_below table h [] s = tt
bundles_below table h (c ∷ cs) s = (below_ok h.next (cell_at h.cells c) (all-at Below h.next c h.cells s.inside), bundles_below table h cs s)

pub questions_are_steps : QuestionsAreSteps
questions_are_steps g path k e flow at =
    let h = new_of [] g.terms.cells in
    let p = place g flow 0 h path k e (sound_new g.terms flow.table) at in
    let m = stepped g (plan_of g e p.es) p.held in
    let r = asked g (0 + length p.earlier + length m.clauses) m.held p.es in
    let q = question_of g path in
    let z : 0 + length p.earlier ≡ length p.earlier = omega arith in
    let all : length q.clauses ≡ 0 + length q.clauses = omega arith in (
      step_of g p.held e p.es,
      p.step,
      refl,
      record {
        earlier = p.earlier;
        later = r.clauses;
        clauses = p.clauses;
        start = p.start ∙ ap (λ (j : ℕ). Some j) z;
        next = ap (slice_index_or q.starts (suc k)) all ∙ (p.next ∙ ap (λ (j : ℕ). j + length m.clauses) z);
        before = p.before;
        behind = p.behind;
        drawn = p.drawn;
        undrawn = r.draws;
        draws = p.draws;
        clauses_below = lits_below p.held.next p.earlier p.low;
        before_below = bundles_below g.terms p.held (needed_along g (e ∷ p.es)) p.sound;
        drawn_below = p.drawn_low;
      },
    )
