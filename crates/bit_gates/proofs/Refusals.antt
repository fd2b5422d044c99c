-- A refused part refuses the whole.
use Rattle.std.proofs.Common.{◌≡◌, ℕ, ◌+◌, ◌<◌, ◌≤◌, length, List, [], ◌∷◌, ◌++◌, take, zero, suc, arith, ap, sym, ◌∙◌, refl, subst}
use Rattle.std.proofs.lemmas.List.{append-nil, take_all}
use Rattle.prop.specs.declared.Lit.{Lit}
use Rattle.prop.specs.declared.BlastFail.{BlastFail}
use Rattle.prop.specs.declared.BlastFail.TheVariants.{Over, Memory}
use Rattle.prop.specs.Logic.{count, OnFail}
use Rattle.prop.specs.Pieces.{Rising, pieces}
use Rattle.prop.proofs.Pieces.{count-pieces}
use Rattle.bit_gates.specs.Cut.{Cut, IsCutOff}
use Rattle.bit_gates.proofs.Cuts.{cut_more, cut_none, cut_one}

pub first_cut : (e : BlastFail) (old a b new : List (List Lit)) → Cut e old a new → Cut e old (a ++ b) new
first_cut e old a b new c = cut_more e old [] a b old new (sym (append-nil old)) c

pub last_cut : (e : BlastFail) (old a b cur new : List (List Lit)) → cur ≡ old ++ a → Cut e cur b new → Cut e old (a ++ b) new
last_cut e old a b cur new st c =
    subst (λ (t : List (List Lit)). Cut e old (a ++ t) new) (append-nil b) (cut_more e old a b [] cur new st c)

pub pushed_cut : (e : BlastFail) (old a cur new : List (List Lit)) (c : List Lit) → cur ≡ old ++ a
    → OnFail e (67108864 < count cur + length c) (count cur + length c) → new ≡ cur → Cut e old (a ++ c ∷ []) new
pushed_cut e old a cur new c st f same =
    last_cut e old a (c ∷ []) cur new st
    (subst (λ (t : List (List Lit)). Cut e cur (c ∷ []) t) (sym same) (cut_one e cur (c ∷ []) cur 0 c (sym (append-nil cur)) refl (omega arith) f))

pub memory_cut : (e : BlastFail) (old emitted new : List (List Lit)) → e ≡ Memory → new ≡ old → Cut e old emitted new
memory_cut e old emitted new h s = subst (λ (x : BlastFail). Cut x old emitted new) (sym h) (cut_none old emitted new s)

-- all was added, and memory ran out behind it
pub memory_whole : (e : BlastFail) (old emitted new : List (List Lit)) → e ≡ Memory → new ≡ old ++ emitted → Cut e old emitted new
memory_whole e old emitted new h s =
    subst (λ (x : BlastFail). Cut x old emitted new) (sym h)
    (record { kept = length emitted; stands = s ∙ ap (λ (x : List (List Lit)). old ++ x) (sym (take_all (length emitted) emitted (omega arith))); cause = tt })

-- a prefix within the limit stands
pub cut_off : (e : BlastFail) (clauses left : List (List Lit)) → count left ≤ 67108864 → Cut e [] clauses left → IsCutOff clauses e
cut_off (Over n) clauses left within c = (left, c, within)
cut_off Memory clauses left within c = tt

pub memory_off : (e : BlastFail) (clauses : List (List Lit)) → e ≡ Memory → IsCutOff clauses e
memory_off e clauses is = subst (λ (x : BlastFail). IsCutOff clauses x) (sym is) tt

-- a list of clauses that was made is within the limit
pub made_within : (clauses : List (List Lit)) (ends : List ℕ) (lits : List Lit) → pieces 0 ends lits ≡ clauses → Rising 0 ends (length lits)
    → length lits ≤ 67108864 → count clauses ≤ 67108864
made_within clauses ends lits view rising few =
    let all = count-pieces 0 ends lits rising in
    omega (arith, all, ap count view, few)

fewer-literals : (k : ℕ) (cs : List (List Lit)) → count (take k cs) ≤ count cs
fewer-literals zero cs = omega arith
fewer-literals (suc k) [] = omega arith
fewer-literals (suc k) (c ∷ cs) = let rest = fewer-literals k cs in omega (arith, rest)

-- the number is past the limit, and the whole list has at least as many literals
pub off_past : (n : ℕ) (clauses : List (List Lit)) → IsCutOff clauses (Over n) → (67108864 < n) × (n ≤ count clauses)
off_past n clauses (left, c, within) =
    let fewer = fewer-literals (suc c.kept) clauses in
    let past = c.cause.0.1 in
    let is = c.cause.1 in
    (omega (arith, past, is), omega (arith, fewer, is))
