-- What lists of calls speak of.
use Rattle.std.proofs.Common.{◌≡◌, ℕ, ◌+◌, ◌≤◌, ◌<◌, length, List, [], ◌∷◌, ◌++◌, arith, sym, refl, suc, Bool, true, false, subst, zero, ◌⊎◌, inl, inr}
use Rattle.std.proofs.lemmas.Bool.{cases_eq}
use Rattle.prop.specs.declared.Lit.{Lit}
use Rattle.prop.specs.Logic.{positive_of, LitsBelow}
use Rattle.bit_gates.specs.declared.netlist.Def.{Def}
use Rattle.bit_gates.specs.declared.netlist.Def.TheVariants.{And, Xor, Select, Sum, Carry, Same, Fixed}
use Rattle.bit_gates.specs.Net.{def_clauses, net_clauses}
use Rattle.bit_gates.specs.Laws.{AllIn, ClausesIn, From}
use Rattle.bit_gates.proofs.Exacts.{below_ok}
use Rattle.bit_gates.proofs.Within.{Fits, LitsOk, DefOk, NetOk, ok-more}
use Rattle.bv_term.specs.declared.term.Term.{Term}
use Rattle.bit_blast.specs.Done.{Known, lits_of}
use Rattle.bit_blast.specs.Emission.{cell_at}
use Rattle.bit_blast.specs.Held.{Held, fresh_lits}
use Rattle.std.specs.Prelude.{Option}
use Rattle.blast_laws.specs.Calls.{Call, Blast, Fresh, Rebind, Renew, StoreAt, table_of, made_by, terms_after, May, AllMay, held_after, clauses_by, IsStart, CellsIn, HandedIn, OutsIn}
use Rattle.blast_laws.specs.Reading.{IsRead, IsSet, Sets}
use Rattle.blast_laws.specs.Laws.{CallsScope, ReadsScope}
use Rattle.bit_blast.proofs.Cones.{DoneFit}
use Rattle.blast_laws.proofs.Owes.{Below, IsLow, AllOk, all-at}
use Rattle.blast_laws.proofs.Keeping.{Aside, OneOk, Keeps, Handed, Leaves, call-leaves, none-fits}
use Rattle.blast_laws.proofs.Runs.{start-keeps, steps-below}

-- the clauses of a definition, and of definitions
def-clauses-ok : (P : ℕ → ℕ → Type 0) (lo : ℕ) → Fits P lo → (m n : ℕ) (d : Def) → lo ≤ n → suc n ≤ m → DefOk P n d → AllOk P m (def_clauses (positive_of n) d)
def-clauses-ok P lo f m n d le l h = by d h
  where
    up : (k : ℕ) → P n k → P m k
    up k g = ok-more P lo f n m k le (omega (arith, l)) g

    o : P m n
    o = ok-more P lo f (suc n) m n (omega (arith, le)) l (f.fresh n le)

    by : (d : Def) → DefOk P n d → AllOk P m (def_clauses (positive_of n) d)
    by (And a b) h = let x = up a.var h.0 in let y = up b.var h.1 in search (x, y, o)
    by (Xor a b) h = let x = up a.var h.0 in let y = up b.var h.1 in search (x, y, o)
    by (Select c a b) h = let x = up c.var h.0 in let y = up a.var h.1 in let z = up b.var h.2 in search (x, y, z, o)
    by (Sum a b c) h = let x = up a.var h.0 in let y = up b.var h.1 in let z = up c.var h.2 in search (x, y, z, o)
    by (Carry a b c) h = let x = up a.var h.0 in let y = up b.var h.1 in let z = up c.var h.2 in search (x, y, z, o)
    by (Same e a b) h = let x = up e.var h.0 in let y = up a.var h.1 in let z = up b.var h.2 in search (x, y, z, o)
    by (Fixed true) h = ((o, tt), tt)
    by (Fixed false) h = ((o, tt), tt)

pub all-both : (P : ℕ → ℕ → Type 0) (n : ℕ) (xs ys : List (List Lit)) → AllOk P n xs → AllOk P n ys → AllOk P n (xs ++ ys)
all-both P n [] ys h g = g
all-both P n (x ∷ xs) ys h g = (h.0, all-both P n xs ys h.1 g)

pub net-clauses-ok : (P : ℕ → ℕ → Type 0) (lo : ℕ) → Fits P lo → (m n : ℕ) (ds : List Def) → lo ≤ n → n + length ds ≤ m → NetOk P n ds → AllOk P m (net_clauses n ds)
net-clauses-ok P lo f m n [] le l h = tt
net-clauses-ok P lo f m n (d ∷ ds) le l h =
    all-both P m (def_clauses (positive_of n) d) (net_clauses (suc n) ds) (def-clauses-ok P lo f m n d le (omega (arith, l)) h.0)
    (net-clauses-ok P lo f m (suc n) ds (omega (arith, le)) (omega (arith, l)) h.1)

pub fresh-ok : (P : ℕ → ℕ → Type 0) (lo : ℕ) → Fits P lo → (m n w : ℕ) → lo ≤ n → n + w ≤ m → LitsOk P m (fresh_lits n w)
fresh-ok P lo f m n zero le l = tt
fresh-ok P lo f m n (suc w) le l =
    (ok-more P lo f (suc n) m n (omega (arith, le)) (omega (arith, l)) (f.fresh n le), fresh-ok P lo f m (suc n) w (omega (arith, le)) (omega (arith, l)))

-- below n, and the test holds there as long as n is at most m
abbrev pub Passes : (ℕ → Bool) → ℕ → ℕ → ℕ → Type 0
Passes p m n k = (k < n) × (n ≤ m → p k ≡ true)

passes-fits : (p : ℕ → Bool) (n m : ℕ) → From p n m → Fits (Passes p m) n
passes-fits p n m f = record {
  later = λ i k le h. (omega (arith, h.0), λ l. h.1 (omega (arith, l)));
  fresh = λ i le. (omega arith, λ l. f i le (omega (arith, l)));
}

passes-low : (p : ℕ → Bool) (m : ℕ) → IsLow (Passes p m)
passes-low p m n k h = h.0

lits-pass : (p : ℕ → Bool) (m n : ℕ) (ls : List Lit) → LitsBelow n ls → AllIn p ls → LitsOk (Passes p m) n ls
lits-pass p m n [] b h = tt
lits-pass p m n (l ∷ ls) b h = ((b.0, λ le. h.0), lits-pass p m n ls b.1 h.1)

lits-in : (p : ℕ → Bool) (m n : ℕ) (ls : List Lit) → n ≤ m → LitsOk (Passes p m) n ls → AllIn p ls
lits-in p m n [] le h = tt
lits-in p m n (l ∷ ls) le h = (h.0.1 le, lits-in p m n ls le h.1)

clauses-in : (p : ℕ → Bool) (m n : ℕ) (cs : List (List Lit)) → n ≤ m → AllOk (Passes p m) n cs → ClausesIn p cs
clauses-in p m n [] le h = tt
clauses-in p m n (c ∷ cs) le h = (lits-in p m n c le h.0, clauses-in p m n cs le h.1)

clauses-both : (p : ℕ → Bool) (xs ys : List (List Lit)) → ClausesIn p xs → ClausesIn p ys → ClausesIn p (xs ++ ys)
clauses-both p [] ys h g = g
clauses-both p (x ∷ xs) ys h g = (h.0, clauses-both p xs ys h.1 g)

handed-pass : (p : ℕ → Bool) (m : ℕ) (ws : List ℕ) (us : List Term) (h : Held) (c : Call) (cs : List Call) → May ws us h c → HandedIn p (c ∷ cs)
    → Handed (Passes p m) h.next c × HandedIn p cs
handed-pass p m ws us h (Blast ts t) cs may g = (tt, g)
handed-pass p m ws us h (Fresh w) cs may g = (tt, g)
handed-pass p m ws us h (Rebind c to) cs may g = (lits-pass p m h.next to may.2 g.0, g.1)
handed-pass p m ws us h Renew cs may g = (tt, g)
handed-pass p m ws us h (StoreAt f k i x) cs may g = ((lits-pass p m h.next i may.2 g.0, lits-pass p m h.next x may.3 g.1), g.2)

outs-in : (p : ℕ → Bool) (lo m : ℕ) (ws : List ℕ) (us : List Term) (h : Held) (c : Call) → From p lo m → lo ≤ h.next
    → Leaves (Passes p m) ws us h c → (made_by ws c h).held.next ≤ m → AllIn p (made_by ws c h).outs
outs-in p lo m ws us h (Blast ts t) f le x l = let d = made_by ws (Blast ts t) h in lits-in p m d.held.next d.outs l (x.lits t)
outs-in p lo m ws us h (Fresh w) f le x l = lits-in p m (h.next + w) (fresh_lits h.next w) l (fresh-ok (Passes p m) lo (passes-fits p lo m f) (h.next + w) h.next w le (omega arith))
outs-in p lo m ws us h (Rebind c to) f le x l = tt
outs-in p lo m ws us h Renew f le x l = tt
outs-in p lo m ws us h (StoreAt b n i y) f le x l = tt

-- a call sets a cell, or does not
sets-or : (c : Call) (j : ℕ) → Sets c j ⊎ (Sets c j → ⊥)
sets-or (Blast ts t) j = inr (λ s. s)
sets-or (Fresh w) j = inr (λ s. s)
sets-or (Rebind k to) j = cases_eq j k
sets-or Renew j = inr (λ s. s)
sets-or (StoreAt f m i x) j = inr (λ s. s)

-- what calls speak of
record Scoped (p : ℕ → Bool) (m : ℕ) (ws : List ℕ) (h : Held) (cs : List Call) : Type 0 where
  rises : h.next ≤ m
  clauses : ClausesIn p (clauses_by ws h cs)
  outs : OutsIn p ws h cs
  cells : (j : ℕ) → LitsOk (Passes p m) h.next (cell_at h.cells j) ⊎ IsSet cs j → AllIn p (cell_at (held_after ws h cs).cells j)

scopes : (p : ℕ → Bool) (lo m : ℕ) (ws : List ℕ) (us : List Term) (h : Held) (cs : List Call) → From p lo m → lo ≤ h.next → m ≡ (held_after ws h cs).next
    → Keeps Below ws us h → Aside (Passes p m) ws us h → AllMay ws us h cs → HandedIn p cs
    → ((j : ℕ) → IsRead ws h cs j → LitsOk (Passes p m) h.next (cell_at h.cells j)) → Scoped p m ws h cs
scopes p lo m ws us h [] f le e k s a g own =
    let l : h.next ≤ m = omega (arith, e) in
    record { rises = l; clauses = tt; outs = tt; cells = λ j x. elim x [ inl y ↦ lits-in p m h.next (cell_at h.cells j) l y | inr i ↦ absurd i ] }
scopes p lo m ws us h (c ∷ cs) f le e k s a g own =
    let P = Passes p m in
    let d = made_by ws c h in
    let fits = passes-fits p lo m f in
    let ha = handed-pass p m ws us h c cs a.0 g in
    let b = steps-below ws us h c k a.0 in
    let x = call-leaves P lo fits (passes-low p m) ws us h c le s a.0 ha.0 (λ j i. own j (inl i)) in
    let next : Aside P ws (terms_after c us) d.held = record { widths = x.widths; inside = b.keeps.cells; one = x.one; lits = x.lits; fit = x.fit } in
    let later : (j : ℕ) → IsRead ws d.held cs j → LitsOk P d.held.next (cell_at d.held.cells j)
    = λ j i. elim (sets-or c j) [ inl y ↦ x.set j y | inr n ↦ x.kept j (own j (inr (n, i))) ] in
    let r = scopes p lo m ws (terms_after c us) d.held cs f (omega (arith, le, x.rises)) e b.keeps next a.1 ha.1 later in
    let up : h.next + length d.defs ≤ m = omega (arith, r.rises, x.rises) in
    record {
      rises = omega (arith, up);
      clauses = clauses-both p (net_clauses h.next d.defs) (clauses_by ws d.held cs)
          (clauses-in p m m (net_clauses h.next d.defs) (omega arith) (net-clauses-ok P lo fits m h.next d.defs le up x.net)) r.clauses;
      outs = (outs-in p lo m ws us h c f le x r.rises, r.outs);
      cells = λ j y. elim y [
        | inl z ↦ r.cells j (inl (x.kept j z))
        | inr z ↦ elim z [ inl i ↦ r.cells j (inl (x.set j i)) | inr i ↦ r.cells j (inr i) ]
      ];
    }

start-aside : (p : ℕ → Bool) (m : ℕ) (ws : List ℕ) (h : Held) → IsStart ws h → Aside (Passes p m) ws [] h
start-aside p m ws h s = record {
  widths = s.widths;
  inside = (start-keeps ws h s).cells;
  one = subst (λ (o : Option Lit). OneOk (Passes p m) h.next o) (sym s.one) tt;
  lits = λ j. subst (λ (ds : List Known). LitsOk (Passes p m) h.next (lits_of ds j)) (sym s.done) tt;
  fit = subst (λ (ds : List Known). DoneFit (table_of ws []) ds) (sym s.done) (none-fits (table_of ws []));
}

pub reads_scope : ReadsScope
reads_scope ws h cs p s a own g f =
    let m = (held_after ws h cs).next in
    let k = start-keeps ws h s in
    let pass : (j : ℕ) → AllIn p (cell_at h.cells j) → LitsOk (Passes p m) h.next (cell_at h.cells j)
    = λ j x. lits-pass p m h.next (cell_at h.cells j) (below_ok h.next (cell_at h.cells j) (all-at Below h.next j h.cells k.cells)) x in
    let r = scopes p h.next m ws [] h cs f (omega arith) refl k (start-aside p m ws h s) a g (λ j i. pass j (own j i)) in (
      r.clauses,
      r.outs,
      λ j x. elim x [ inl y ↦ r.cells j (inl (pass j y)) | inr i ↦ r.cells j (inr i) ],
    )

cells-at : (p : ℕ → Bool) (k : ℕ) (cs : List (List Lit)) → CellsIn p cs → AllIn p (cell_at cs k)
cells-at p k [] h = tt
cells-at p zero (c ∷ cs) h = h.0
cells-at p (suc k) (c ∷ cs) h = cells-at p k cs h.1

at-cells : (p : ℕ → Bool) (cs : List (List Lit)) → ((k : ℕ) → AllIn p (cell_at cs k)) → CellsIn p cs
at-cells p [] h = tt
at-cells p (c ∷ cs) h = (h 0, at-cells p cs (λ k. h (suc k)))

pub calls_scope : CallsScope
calls_scope ws h cs p s a c g f =
    let at : (j : ℕ) → AllIn p (cell_at h.cells j) = λ j. cells-at p j h.cells c in
    let r = reads_scope ws h cs p s a (λ j i. at j) g f in
    (r.0, r.1, at-cells p (held_after ws h cs).cells (λ j. r.2 j (inl (at j))))
