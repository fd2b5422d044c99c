-- What the operations of an edge add speaks of the cells that are needed before them, and of what is made since: dead cells stay out.
use Rattle.std.proofs.Common.{◌≡◌, ℕ, ◌+◌, ◌-◌, ◌≤◌, ◌<◌, Bool, true, false, cond, List, [], ◌∷◌, ◌++◌, length, take, drop, All, refl, sym, ◌∙◌, subst, arith, slice_index, inl, inr}
use Rattle.std.proofs.lemmas.Bool.{false≢true, cases_eq}
use Rattle.std.proofs.lemmas.List.{append-nil}
use Rattle.std.proofs.lemmas.List.Elements.{All-head, All-tail}
use Rattle.std.specs.Prelude.{Some}
use Rattle.prop.specs.declared.Lit.{Lit}
use Rattle.prop.specs.Logic.{LitsBelow}
use Rattle.bit_gates.specs.Net.{net_clauses}
use Rattle.bit_gates.proofs.Exacts.{below_ok}
use Rattle.bit_gates.proofs.Within.{Fits, LitsOk, lits-more}
use Rattle.bit_words.specs.Elements.{AllLong}
use Rattle.bv_term.specs.declared.term.Term.{Term}
use Rattle.bv_term.specs.WellFormed.{Table, IsTable, widths}
use Rattle.bit_blast.specs.Done.{lits_of}
use Rattle.bit_blast.specs.Emission.{cell_at}
use Rattle.bit_blast.specs.Held.{Held, IsOver, begun, blast_of, fresh_lits, fresh_of, rebind_of, store_of}
use Rattle.bit_blast.proofs.Cones.{blast-over}
use Rattle.bit_blast.proofs.Over.{over-none}
use Rattle.bit_blast.proofs.Ready.{array-cells}
use Rattle.c_graph.specs.declared.graph.Operation.{Operation}
use Rattle.c_graph.specs.declared.graph.Operation.TheVariants.{Assume, Set, SetAt, Draw}
use Rattle.c_graph.specs.Shape.{OperationFits}
use Rattle.blast_laws.specs.Calls.{Blast, Fresh, Rebind, StoreAt}
use Rattle.blast_laws.proofs.Owes.{AllOk, Below, IsLow, all-more}
use Rattle.blast_laws.proofs.Keeping.{Aside, Keeps, OneOk, call-leaves}
use Rattle.blast_laws.proofs.Runs.{steps-below}
use Rattle.blast_laws.proofs.Scopes.{all-both, fresh-ok, net-clauses-ok}
use Rattle.path_formula.specs.Reads.{cells_from, with_cells, with_read, without}
use Rattle.path_formula.specs.Needs.{gives, kept_of, needed_by, needed_by_all}
use Rattle.path_formula.specs.Added.{Added, added, added_all, added_if, joined}
use Rattle.path_query.specs.declared.query.Bundle.{Bundle}
use Rattle.obligation_laws.specs.Draws.{BundlesBelow}
use Rattle.obligation_laws.proofs.Alike.{Has, has_cells, has_own, has_without}
use Rattle.obligation_laws.proofs.Going.{cell_wide, fresh_long, fresh_low, lits_up}
use Rattle.path_laws.proofs.Needing.{read_needed, still_needed}

-- in the middle of a step: what is held, but for the cells, speaks of what may be spoken of
pub record Amid (P : ℕ → ℕ → Type 0) (table : Table) (h : Held) : Type 0 where
  pub us : List Term
  pub more : List Term
  pub whole : table.terms ≡ us ++ more
  pub keeps : Keeps Below table.cells us h
  pub over : IsOver table h
  pub one : OneOk P h.next h.one
  pub lits : (j : ℕ) → LitsOk P h.next (lits_of h.done j)

-- the cells that are needed may be spoken of
abbrev pub NeededOk : (ℕ → ℕ → Type 0) → List ℕ → Held → Type 0
NeededOk P needed h = (c : ℕ) → Has needed c → LitsOk P h.next (cell_at h.cells c)

-- a term
record Spoken (P : ℕ → ℕ → Type 0) (table : Table) (t : ℕ) (h : Held) : Type 0 where
  amid : Amid P table (blast_of table t h).held
  clauses : AllOk P (blast_of table t h).held.next (net_clauses h.next (blast_of table t h).defs)
  outs : LitsOk P (blast_of table t h).held.next (blast_of table t h).outs
  below : LitsBelow (blast_of table t h).held.next (blast_of table t h).outs
  long : length (blast_of table t h).outs ≡ slice_index (widths table) t
  rises : h.next ≤ (blast_of table t h).held.next
  kept : (c : ℕ) → LitsOk P h.next (cell_at h.cells c) → LitsOk P (blast_of table t h).held.next (cell_at h.cells c)

-- a cell gets other literals
record Rebound (P : ℕ → ℕ → Type 0) (table : Table) (c : ℕ) (to : List Lit) (h : Held) : Type 0 where
  amid : Amid P table (rebind_of c to h)
  kept : (j : ℕ) → LitsOk P h.next (cell_at h.cells j) → LitsOk P h.next (cell_at (rebind_of c to h).cells j)
  set : (j : ℕ) → j ≡ c → LitsOk P h.next (cell_at (rebind_of c to h).cells j)

-- what an operation, or a step, leaves and adds
pub record Adds (P : ℕ → ℕ → Type 0) (table : Table) (later : List ℕ) (h : Held) (m : Added) : Type 0 where
  pub amid : Amid P table m.held
  pub rises : h.next ≤ m.held.next
  pub clauses : AllOk P m.held.next m.clauses
  pub needed : NeededOk P later m.held
  pub draws : BundlesBelow m.held.next m.draws

pub bundles_up : (n m : ℕ) (bs : List Bundle) → n ≤ m → BundlesBelow n bs → BundlesBelow m bs
bundles_up n m [] le b = tt
bundles_up n m (x ∷ bs) le b = (lits_up n m x.bits le b.0, bundles_up n m bs le b.1)

pub bundles_both : (n : ℕ) (bs cs : List Bundle) → BundlesBelow n bs → BundlesBelow n cs → BundlesBelow n (bs ++ cs)
bundles_both n [] cs b c = c
bundles_both n (x ∷ bs) cs b c = (b.0, bundles_both n bs cs b.1 c)

module _ (P : ℕ → ℕ → Type 0) (lo : ℕ) (fits : Fits P lo) (low : IsLow P) (table : Table) (is : IsTable table) where
  aside : (h : Held) (a : Amid P table h) → Aside P table.cells a.us h
  aside h a = record { widths = a.keeps.widths; inside = a.keeps.cells; one = a.one; lits = a.lits; fit = a.keeps.fit }

  spoken : (t : ℕ) (h : Held) (later : List ℕ) → lo ≤ h.next → t < length table.terms → Amid P table h → NeededOk P (with_read table t later) h → Spoken P table t h
  spoken t h later le lt a need =
      let o = begun h.next h.one in
      let m = blast_of table t h in
      let call = Blast table.terms t in
      let b = steps-below table.cells a.us h call a.keeps (is, (a.more, a.whole), lt) in
      let x = call-leaves P lo fits low table.cells a.us h call le (aside h a) (is, (a.more, a.whole), lt) tt
      (λ c r. need c (read_needed table t h.done later r.0 c r.1 r.2)) in
      let over = blast-over table o.lit h.cells (h.next + length o.defs) h.next h.one (Some o.lit) h.done m.held.done t is a.over lt refl m.held.next in
      record {
        amid = record { us = table.terms; more = []; whole = sym (append-nil table.terms); keeps = b.keeps; over = over.0; one = x.one; lits = x.lits };
        clauses = net-clauses-ok P lo fits m.held.next h.next m.defs le x.rises x.net;
        outs = x.lits t;
        below = below_ok m.held.next m.outs (b.keeps.lits t);
        long = (over.0.done t over.1).1;
        rises = omega (arith, x.rises);
        kept = x.kept;
      }

  rebound : (c : ℕ) (to : List Lit) (h : Held) → lo ≤ h.next → c < length table.cells → length to ≡ slice_index table.cells c → LitsBelow h.next to → LitsOk P h.next to
      → Amid P table h → Rebound P table c to h
  rebound c to h le lt long below ok a =
      let there = cell_wide h.cells table.cells c a.keeps.widths lt in
      let call = Rebind c to in
      let d = steps-below table.cells a.us h call a.keeps (there.0, long ∙ sym there.1, below) in
      let y = call-leaves P lo fits low table.cells a.us h call le (aside h a) (there.0, long ∙ sym there.1, below) ok (λ j r. absurd r) in
      record {
        amid = record {
          us = [];
          more = table.terms;
          whole = refl;
          keeps = d.keeps;
          over = over-none table h.next h.one (rebind_of c to h).cells d.keeps.widths;
          one = y.one;
          lits = y.lits;
        };
        kept = y.kept;
        set = y.set;
      }

  -- an operation that gives something that is needed
  adds_one : (later : List ℕ) (o : Operation) (h : Held) → lo ≤ h.next → OperationFits table o → gives later o ≡ true → Amid P table h → NeededOk P (needed_by table later o) h
      → Adds P table later h (added table h o)
  adds_one later (Assume t) h le f g a need =
      let m = blast_of table t.0 h in
      let b = spoken t.0 h later le f.0 a need in
      record {
        amid = b.amid;
        rises = b.rises;
        clauses = all-both P m.held.next (net_clauses h.next m.defs) (m.outs ∷ []) b.clauses (b.outs, tt);
        needed = λ c i. b.kept c (need c (still_needed table t.0 later c i));
        draws = tt;
      }
  adds_one later (Set c t) h le f g a need =
      let m = blast_of table t.0 h in
      let rest = without c later in
      let need : NeededOk P (with_read table t.0 rest) h = subst (λ (b : Bool). NeededOk P (cond b (with_read table t.0 rest) later) h) g need in
      let b = spoken t.0 h rest le f.1 a need in
      let r = rebound c m.outs m.held (omega (arith, le, b.rises)) f.0 (b.long ∙ f.2) b.below b.outs b.amid in
      record {
        amid = r.amid;
        rises = b.rises;
        clauses = b.clauses;
        needed = λ j i. elim (cases_eq j c) [
          | inl e ↦ r.set j e
          | inr ne ↦ r.kept j (b.kept j (need j (still_needed table t.0 rest j (has_without later c j i ne))))
        ];
        draws = tt;
      }
  adds_one later (SetAt first n i t) h le f g a need =
      let all = with_cells later (cells_from first n) in
      let want = with_read table t.0 (with_read table i.0 all) in
      let need : NeededOk P want h = subst (λ (b : Bool). NeededOk P (cond b want later) h) g need in
      let x = blast_of table i.0 h in
      let need1 : NeededOk P (with_read table i.0 all) h = λ c y. need c (still_needed table t.0 (with_read table i.0 all) c y) in
      let X = spoken i.0 h all le f.1 a need1 in
      let y = blast_of table t.0 x.held in
      let Y = spoken t.0 x.held (with_read table i.0 all) (omega (arith, le, X.rises)) f.2 X.amid (λ c z. X.kept c (need c z)) in
      let kept : (c : ℕ) → Has all c → LitsOk P y.held.next (cell_at h.cells c) = λ c z. Y.kept c (X.kept c (need1 c (still_needed table i.0 all c z))) in
      let A = Y.amid in
      let cells = array-cells y.held.cells table.cells first n A.keeps.widths f.0 in
      let long : slice_index table.cells first ≡ length y.outs = sym (Y.long ∙ f.3) in
      let call = StoreAt first n x.outs y.outs in
      let le2 : lo ≤ y.held.next = omega (arith, le, X.rises, Y.rises) in
      let le1 : lo ≤ x.held.next = omega (arith, le, X.rises) in
      let alike = subst (λ (k : ℕ). AllLong k (take n (drop first y.held.cells))) long cells.2 in
      let up = lits_up x.held.next y.held.next x.outs Y.rises X.below in
      let d = steps-below table.cells A.us y.held call A.keeps (cells.0, alike, up, Y.below) in
      let z = call-leaves P lo fits low table.cells A.us y.held call le2 (aside y.held A) (cells.0, alike, up, Y.below)
      (lits-more P lo fits x.held.next y.held.next x.outs le1 Y.rises X.outs, Y.outs)
      (λ c r.
      let at : first + (c - first) ≡ c = omega (arith, r.0) in
      kept c (subst (Has all) at (has_own later first n (c - first) (omega (arith, r.0, r.1))))) in
      let st = store_of first n x.outs y.outs y.held in
      let up2 : y.held.next ≤ st.held.next = omega (arith, z.rises) in
      let le3 : x.held.next ≤ st.held.next = omega (arith, Y.rises, up2) in
      record {
        amid = record {
          us = [];
          more = table.terms;
          whole = refl;
          keeps = d.keeps;
          over = over-none table st.held.next st.held.one st.held.cells d.keeps.widths;
          one = z.one;
          lits = z.lits;
        };
        rises = omega (arith, X.rises, le3);
        clauses = all-both P st.held.next (net_clauses h.next x.defs) (net_clauses x.held.next y.defs ++ net_clauses y.held.next st.defs)
            (all-more P lo fits x.held.next st.held.next (net_clauses h.next x.defs) le1 le3 X.clauses)
            (all-both P st.held.next (net_clauses x.held.next y.defs) (net_clauses y.held.next st.defs)
            (all-more P lo fits y.held.next st.held.next (net_clauses x.held.next y.defs) le2 up2 Y.clauses)
            (net-clauses-ok P lo fits st.held.next y.held.next st.defs le2 z.rises z.net));
        needed = λ c w. z.kept c (kept c (has_cells later (cells_from first n) c w));
        draws = tt;
      }
  adds_one later (Draw c signed) h le f g a need =
      let w = slice_index table.cells c in
      let ls = fresh_lits h.next w in
      let call = Fresh w in
      let d = steps-below table.cells a.us h call a.keeps tt in
      let x = call-leaves P lo fits low table.cells a.us h call le (aside h a) tt tt (λ j r. absurd r) in
      let m = (fresh_of w h).held in
      let rises : h.next ≤ m.next = omega arith in
      let amid : Amid P table m = record {
        us = a.us;
        more = a.more;
        whole = a.whole;
        keeps = d.keeps;
        over = record { cells = a.over.cells; done = a.over.done };
        one = x.one;
        lits = x.lits;
      } in
      let below : LitsBelow m.next ls = fresh_low h.next w m.next (omega arith) in
      let r = rebound c ls m (omega (arith, le)) f.0 (fresh_long h.next w) below (fresh-ok P lo fits m.next h.next w le (omega arith)) amid in
      record {
        amid = r.amid;
        rises = rises;
        clauses = tt;
        needed = λ j i. elim (cases_eq j c) [ inl e ↦ r.set j e | inr ne ↦ r.kept j (x.kept j (need j (has_without later c j i ne))) ];
        draws = (below, tt);
      }

  -- one that gives nothing that is needed
  skips : (later : List ℕ) (o : Operation) (h : Held) → gives later o ≡ false → NeededOk P (needed_by table later o) h → NeededOk P later h
  skips later (Assume t) h g need = absurd (false≢true (sym g))
  skips later (Set c t) h g need = subst (λ (b : Bool). NeededOk P (cond b (with_read table t.0 (without c later)) later) h) g need
  skips later (SetAt first n i t) h g need =
      subst (λ (b : Bool). NeededOk P (cond b (with_read table t.0 (with_read table i.0 (with_cells later (cells_from first n)))) later) h) g need
  skips later (Draw c signed) h g need = absurd (false≢true (sym g))

  abbrev Adding : List ℕ → List Operation → Type 0
  Adding later ops =
      (h : Held) → lo ≤ h.next → Amid P table h → NeededOk P (needed_by_all table later ops) h → Adds P table later h (added_all table h ops (kept_of table later ops))

  adds_kept : (later : List ℕ) (o : Operation) (os : List Operation) → OperationFits table o → Adding later os
      → (h : Held) → lo ≤ h.next → Amid P table h → NeededOk P (needed_by_all table later (o ∷ os)) h → (b : Bool) → b ≡ gives (needed_by_all table later os) o
      → Adds P table later h (joined (added_if b table h o) (added_all table (added_if b table h o).held os (kept_of table later os)))
  adds_kept later o os f rest h le a need true g =
      let k = added table h o in
      let X = adds_one (needed_by_all table later os) o h le f (sym g) a need in
      let le1 : lo ≤ k.held.next = omega (arith, le, X.rises) in
      let W = rest k.held le1 X.amid X.needed in
      let d = added_all table k.held os (kept_of table later os) in
      record {
        amid = W.amid;
        rises = omega (arith, X.rises, W.rises);
        clauses = all-both P d.held.next k.clauses d.clauses (all-more P lo fits k.held.next d.held.next k.clauses le1 W.rises X.clauses) W.clauses;
        needed = W.needed;
        draws = bundles_both d.held.next k.draws d.draws (bundles_up k.held.next d.held.next k.draws W.rises X.draws) W.draws;
      }
  adds_kept later o os f rest h le a need false g =
      let W = rest h le a (skips (needed_by_all table later os) o h (sym g) need) in
      record { amid = W.amid; rises = W.rises; clauses = W.clauses; needed = W.needed; draws = W.draws }

  pub adds_all : (later : List ℕ) (ops : List Operation) → All (OperationFits table) ops → Adding later ops
  adds_all later [] f h le a need = record { amid = a; rises = omega arith; clauses = tt; needed = need; draws = tt }
  adds_all later (o ∷ os) f h le a need =
      adds_kept later o os (All-head (OperationFits table) o os f) (adds_all later os (All-tail (OperationFits table) o os f)) h le a need
      (gives (needed_by_all table later os) o) refl
