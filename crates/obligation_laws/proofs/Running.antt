-- Under an assignment that meets what operations add, they go on: it spells a run.
use Rattle.std.proofs.Common.{◌≡◌, ℕ, ℤ, pos, negsuc, ◌+◌, ◌-◌, ◌*◌, ◌^◌, ◌<◌, ◌≤◌, Bool, true, false, ◌&&◌, List, [], ◌∷◌, ◌++◌, length, drop, take, refl, sym, ap, ◌∙◌, subst, zero, suc, arith, slice_index, slice_set, if◌then◌else◌, Some, None, inl, inr, eq-eqb}
use Rattle.std.proofs.lemmas.Bool.{false≢true, lt-ltb, cases_lt}
use Rattle.std.proofs.lemmas.List.{append-nil}
use Rattle.std.proofs.Math.Nat.{mod-eq_of_lt, pow-succ'}
use Rattle.prop.specs.declared.Lit.{Lit}
use Rattle.prop.specs.Logic.{all_hold, LitsBelow}
use Rattle.bit_gates.specs.Net.{net_clauses, number}
use Rattle.bit_gates.proofs.Nets.{all_hold-append, meets_from_hold}
use Rattle.bit_gates.proofs.AddLaws.{number-lt}
use Rattle.bit_gates.proofs.Exacts.{below_ok}
use Rattle.bit_words.specs.Elements.{AllLong}
use Rattle.bv_term.specs.declared.term.Term.{Term}
use Rattle.bv_term.specs.WellFormed.{Table, IsTable, widths}
use Rattle.bv_term.specs.Values.{value, values}
use Rattle.bit_blast.specs.Held.{Held, begun, blast_of, fresh_lits, fresh_of, rebind_of, store_of}
use Rattle.bit_blast.proofs.Cones.{blast-over}
use Rattle.bit_blast.proofs.Over.{over-none}
use Rattle.bit_blast.proofs.Ready.{array-cells}
use Rattle.c_graph.specs.declared.graph.Operation.{Operation}
use Rattle.c_graph.specs.declared.graph.Operation.TheVariants.{Assume, Set, SetAt, Draw}
use Rattle.c_graph.specs.Shape.{OperationFits}
use Rattle.c_graph.specs.Steps.{moment, modulo, in_range_of, operated, stored_at as stored_in}
use Rattle.blast_laws.specs.Calls.{Call, Blast, Fresh, Rebind, StoreAt, Answers, May, made_by, store_by, terms_after}
use Rattle.blast_laws.proofs.Owes.{Below}
use Rattle.blast_laws.proofs.Keeping.{Keeps, Says, call-says}
use Rattle.blast_laws.proofs.Runs.{steps-below, truths_read}
use Rattle.path_formula.specs.Added.{added}
use Rattle.blast_laws.proofs.Spelling.{single}
use Rattle.obligation_laws.proofs.Nodes.{unit_held}
use Rattle.obligation_laws.proofs.Going.{Reach, cell_wide, fresh_long, fresh_low, lits_up}

pub both : (u : ℕ → Bool) (cs ds : List (List Lit)) → all_hold u (cs ++ ds) ≡ true → (all_hold u cs ≡ true) × (all_hold u ds ≡ true)
both u cs ds h = parts (all_hold u cs) (all_hold u ds) (sym (all_hold-append u cs ds) ∙ h)
  where
    parts : (a b : Bool) → (a && b) ≡ true → (a ≡ true) × (b ≡ true)
    parts true b e = (refl, e)
    parts false b e = absurd (false≢true e)

-- what a call leaves, under an assignment that meets what it adds
pub record Read (ws : List ℕ) (us : List Term) (h : Held) (u : ℕ → Bool) (s : List ℕ) (c : Call) : Type 0 where
  pub keeps : Keeps Below ws (terms_after c us) (made_by ws c h).held
  pub says : Says u ws (terms_after c us) (made_by ws c h).held (store_by u c s)
  pub answers : Answers u ws s c (made_by ws c h).outs
  pub rises : h.next ≤ (made_by ws c h).held.next

read : (ws : List ℕ) (us : List Term) (h : Held) (u : ℕ → Bool) (s : List ℕ) (c : Call) → Keeps Below ws us h → May ws us h c → Says u ws us h s
    → all_hold u (net_clauses h.next (made_by ws c h).defs) ≡ true → Read ws us h u s c
read ws us h u s c k m y held =
    let st = steps-below ws us h c k m in
    let r = call-says u ws us h c s k m y (meets_from_hold u h.next (made_by ws c h).defs held) in
    record { keeps = st.keeps; says = r.0; answers = r.1; rises = omega (arith, st.rises) }

pub record Seen (table : Table) (t : ℕ) (h : Held) (u : ℕ → Bool) (s : List ℕ) : Type 0 where
  pub reach : Reach table (blast_of table t h).held u s
  pub told : number u (blast_of table t h).outs ≡ slice_index (values table s) t
  pub below : LitsBelow (blast_of table t h).held.next (blast_of table t h).outs
  pub long : length (blast_of table t h).outs ≡ slice_index (widths table) t
  pub rises : h.next ≤ (blast_of table t h).held.next

pub seen : (table : Table) (t : ℕ) (h : Held) (u : ℕ → Bool) (s : List ℕ) → IsTable table → t < length table.terms → Reach table h u s
    → all_hold u (net_clauses h.next (blast_of table t h).defs) ≡ true → Seen table t h u s
seen table t h u s is lt r held =
    let o = begun h.next h.one in
    let m = blast_of table t h in
    let c = read table.cells r.us h u s (Blast table.terms t) r.keeps (is, (r.more, r.whole), lt) r.says held in
    let over = blast-over table o.lit h.cells (h.next + length o.defs) h.next h.one (Some o.lit) h.done m.held.done t is r.over lt refl m.held.next in
    record {
      reach = record { us = table.terms; more = []; whole = sym (append-nil table.terms); keeps = c.keeps; says = c.says; over = over.0 };
      told = c.answers;
      below = below_ok m.held.next m.outs (c.keeps.lits t);
      long = (over.0.done t over.1).1;
      rises = c.rises;
    }

-- a value of a range that is the number modulo two to the power of the width
pub record Drawn (w : ℕ) (signed : Bool) (x : ℕ) : Type 0 where
  pub value : ℤ
  pub ranges : in_range_of w signed value ≡ true
  pub same : modulo w value ≡ x

halves : (w : ℕ) → 2 ^ w ≤ 2 * 2 ^ (w - 1)
halves zero = omega arith
halves (suc w) =
    let e : 2 ^ suc w ≡ 2 * 2 ^ w = pow-succ' 2 w in
    let z : suc w - 1 ≡ w = omega arith in
    subst (λ (k : ℕ). 2 ^ suc w ≤ 2 * 2 ^ k) (sym z) (omega (arith, e))

drawing : (w : ℕ) (signed : Bool) (x : ℕ) → x < 2 ^ w → Drawn w signed x
drawing w false x lt = record { value = pos x; ranges = lt-ltb x (2 ^ w) lt; same = mod-eq_of_lt lt }
drawing w true x lt = elim (cases_lt x (2 ^ (w - 1))) [
  | inl low ↦ record { value = pos x; ranges = lt-ltb x (2 ^ (w - 1)) low; same = mod-eq_of_lt lt }
  | inr high ↦
      let n = (2 ^ w - 1) - x in
      let half = halves w in
      let less : n < 2 ^ (w - 1) = omega (arith, half, high, lt) in
      let under : n < 2 ^ w = omega (arith, lt) in
      let back : (2 ^ w - 1) - n ≡ x = omega (arith, lt) in
      record { value = negsuc n; ranges = lt-ltb n (2 ^ (w - 1)) less; same = ap (λ (k : ℕ). (2 ^ w - 1) - k) (mod-eq_of_lt under) ∙ back }
]

-- an operation goes on, whatever is drawn behind it
pub record Runs (table : Table) (o : Operation) (h : Held) (u : ℕ → Bool) (s : List ℕ) : Type 0 where
  pub draws : List ℤ
  pub store : List ℕ
  pub goes : (rest : List ℤ) → operated table o (moment s (draws ++ rest)) ≡ Some (moment store rest)
  pub reach : Reach table (added table h o).held u store

pub runs : (table : Table) (o : Operation) (h : Held) (u : ℕ → Bool) (s : List ℕ) → IsTable table → OperationFits table o → Reach table h u s
    → all_hold u (added table h o).clauses ≡ true → Runs table o h u s
runs table (Assume t) h u s is f r held =
    let m = blast_of table t.0 h in
    let wide = blast-over table (begun h.next h.one).lit h.cells (h.next + length (begun h.next h.one).defs) h.next h.one (Some (begun h.next h.one).lit) h.done m.held.done t.0 is r.over f.0 refl m.held.next in
    let one = single m.outs ((wide.0.done t.0 wide.1).1 ∙ f.1) in
    let p = unit_held u (net_clauses h.next m.defs) m.outs one.0 one.1 held in
    let b = seen table t.0 h u s is f.0 r p.0 in
    let holds : value table s t ≡ 1 = (truths_read u table s t one.0 (ap (number u) (sym one.1) ∙ b.told)).0 p.1 in
    record {
      draws = [];
      store = s;
      goes = λ rest. ap (λ (x : Bool). if x then Some (moment s rest) else None) (eq-eqb (value table s t) 1 holds);
      reach = b.reach;
    }
runs table (Set c t) h u s is f r held =
    let m = blast_of table t.0 h in
    let b = seen table t.0 h u s is f.1 r held in
    let there = cell_wide m.held.cells table.cells c b.reach.keeps.widths f.0 in
    let d = read table.cells b.reach.us m.held u s (Rebind c m.outs) b.reach.keeps (there.0, b.long ∙ (f.2 ∙ sym there.1), b.below) b.reach.says refl in
    record {
      draws = [];
      store = slice_set s c (value table s t);
      goes = λ rest. refl;
      reach = record {
        us = [];
        more = table.terms;
        whole = refl;
        keeps = d.keeps;
        says = subst (λ (x : ℕ). Says u table.cells [] (rebind_of c m.outs m.held) (slice_set s c x)) b.told d.says;
        over = over-none table m.held.next m.held.one (rebind_of c m.outs m.held).cells d.keeps.widths;
      };
    }
runs table (SetAt first n i t) h u s is f r held =
    let a = blast_of table i.0 h in
    let b = blast_of table t.0 a.held in
    let st = store_of first n a.outs b.outs b.held in
    let p = both u (net_clauses h.next a.defs) (net_clauses a.held.next b.defs ++ net_clauses b.held.next st.defs) held in
    let q = both u (net_clauses a.held.next b.defs) (net_clauses b.held.next st.defs) p.1 in
    let A = seen table i.0 h u s is f.1 r p.0 in
    let B = seen table t.0 a.held u s is f.2 A.reach q.0 in
    let cells = array-cells b.held.cells table.cells first n B.reach.keeps.widths f.0 in
    let long : slice_index table.cells first ≡ length b.outs = sym (B.long ∙ f.3) in
    let d = read table.cells B.reach.us b.held u s (StoreAt first n a.outs b.outs) B.reach.keeps (
      cells.0,
      subst (λ (k : ℕ). AllLong k (take n (drop first b.held.cells))) long cells.2,
      lits_up a.held.next b.held.next a.outs B.rises A.below,
      B.below,
    ) B.reach.says q.1 in
    record {
      draws = [];
      store = stored_in s first n (value table s i) (value table s t);
      goes = λ rest. refl;
      reach = record {
        us = [];
        more = table.terms;
        whole = refl;
        keeps = d.keeps;
        says = subst (λ (x : ℕ). Says u table.cells [] st.held (stored_in s first n x (value table s t))) A.told
            (subst (λ (x : ℕ). Says u table.cells [] st.held (stored_in s first n (number u a.outs) x)) B.told d.says);
        over = over-none table st.held.next st.held.one st.held.cells d.keeps.widths;
      };
    }
runs table (Draw c signed) h u s is f r held =
    let w = slice_index table.cells c in
    let ls = fresh_lits h.next w in
    let x = number u ls in
    let low : x < 2 ^ w = subst (λ (k : ℕ). x < 2 ^ k) (fresh_long h.next w) (number-lt u ls) in
    let z = drawing w signed x low in
    let g = (fresh_of w h).held in
    let d = read table.cells r.us h u s (Fresh w) r.keeps tt r.says refl in
    let there = cell_wide h.cells table.cells c r.keeps.widths f.0 in
    let q = read table.cells r.us g u s (Rebind c ls) d.keeps (there.0, fresh_long h.next w ∙ sym there.1, fresh_low h.next w g.next (omega arith)) d.says refl in
    record {
      draws = z.value ∷ [];
      store = slice_set s c x;
      goes = λ rest.
          ap (λ (b : Bool). if b then Some (moment (slice_set s c (modulo w z.value)) rest) else None) z.ranges
          ∙ ap (λ (k : ℕ). Some (moment (slice_set s c k) rest)) z.same;
      reach = record {
        us = [];
        more = table.terms;
        whole = refl;
        keeps = q.keeps;
        says = q.says;
        over = over-none table g.next g.one (rebind_of c ls g).cells q.keeps.widths;
      };
    }
