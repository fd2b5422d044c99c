use Rattle.std.proofs.Common.{◌≡◌, ℕ, ◌+◌, ◌≤◌, ◌<◌, length, List, [], ◌∷◌, ◌++◌, take, drop, map, arith, ap, sym, ◌∙◌, suc, subst, append_assoc, get_or, min}
use Rattle.std.proofs.lemmas.List.{take-append-le, length-append, take-append-drop, take_more, take-map, map-append, length-map, length-take-le, append-nil, take_min}
use Rattle.prop.specs.declared.BlastFail.TheVariants.{Over, Memory}
use Rattle.prop.specs.declared.Lit.{Lit}
use Rattle.prop.specs.declared.BlastFail.{BlastFail}
use Rattle.prop.specs.Logic.{count, positive_of, OnFail}
use Rattle.bit_gates.specs.declared.netlist.Def.{Def}
use Rattle.bit_gates.specs.Net.{def_clauses, net_clauses}
use Rattle.bit_gates.specs.Cut.{Cut}

pub count-append : (xs ys : List (List Lit)) → count (xs ++ ys) ≡ count xs + count ys
count-append [] ys = omega arith
count-append (x ∷ xs) ys = let i = count-append xs ys in omega arith

fail-eq : (e : BlastFail) (P : Type 0) (m n : ℕ) → m ≡ n → (67108864 < m → P × (67108864 < n)) → OnFail e (67108864 < m) m → OnFail e (P × (67108864 < n)) n
fail-eq (Over o) P m n h f g = (f g.0, g.1 ∙ h)
fail-eq Memory P m n h f g = tt

fail-more : (e : BlastFail) (P Q : Type 0) (m n : ℕ) → (P → Q) → m ≡ n → OnFail e (P × (67108864 < m)) m → OnFail e (Q × (67108864 < n)) n
fail-more (Over o) P Q m n f h g = ((f g.0.0, subst (λ (t : ℕ). 67108864 < t) h g.0.1), g.1 ∙ h)
fail-more Memory P Q m n f h g = tt

-- a refused push
pub cut_one : (e : BlastFail) (old emitted cur : List (List Lit)) (k : ℕ) (c : List Lit)
    → cur ≡ old ++ take k emitted → take (suc k) emitted ≡ take k emitted ++ c ∷ [] → k < length emitted
    → OnFail e (67108864 < count cur + length c) (count cur + length c) → Cut e old emitted cur
cut_one e old emitted cur k c st more lt f = record {
  kept = k;
  stands = st;
  cause = fail-eq e (k < length emitted) (count cur + length c) (count (old ++ take (suc k) emitted)) (sym total)
      (λ g. (lt, subst (λ (t : ℕ). 67108864 < t) (sym total) g)) f;
}
  where
    total : count (old ++ take (suc k) emitted) ≡ count cur + length c
    total =
        let a = count-append old (take (suc k) emitted) in
        let b = ap count more in
        let d = count-append (take k emitted) (c ∷ []) in
        let g = ap count st in
        let h = count-append old (take k emitted) in
        omega arith

pub cut_none : (old emitted new : List (List Lit)) → new ≡ old → Cut Memory old emitted new
cut_none old emitted new e = record { kept = 0; stands = e ∙ sym (append-nil old); cause = tt }

take-over : {A : Type 0} (pre mid post : List A) (k : ℕ) → k ≤ length mid → take (length pre + k) (pre ++ (mid ++ post)) ≡ pre ++ take k mid
take-over [] mid post k le = ap (λ (t : ℕ). take t (mid ++ post)) (omega arith) ∙ take-append-le k mid post le
take-over (x ∷ pre) mid post k le =
    let q : suc (length pre) + k ≡ suc (length pre + k) = omega arith in
    ap (λ (t : ℕ). take t (x ∷ (pre ++ (mid ++ post)))) q ∙ ap (λ t. x ∷ t) (take-over pre mid post k le)

-- a refused part refuses the whole
pub cut_more : (e : BlastFail) (old pre mid post cur new : List (List Lit)) → cur ≡ old ++ pre
    → Cut e cur mid new → Cut e old (pre ++ (mid ++ post)) new
cut_more e old pre mid post cur new st c =
    by e c.kept c.stands c.cause
  where
    at : (k : ℕ) → k ≤ length mid → new ≡ cur ++ take k mid → new ≡ old ++ take (length pre + k) (pre ++ (mid ++ post))
    at k le s = s ∙ (ap (λ t. t ++ take k mid) st ∙ (append_assoc old pre (take k mid)
        ∙ ap (λ t. old ++ t) (sym (take-over pre mid post k le))))

    by : (e : BlastFail) (k : ℕ) → new ≡ cur ++ take k mid
        → OnFail e ((k < length mid) × (67108864 < count (cur ++ take (suc k) mid))) (count (cur ++ take (suc k) mid))
        → Cut e old (pre ++ (mid ++ post)) new
    by (Over o) k s f =
        let q : suc (length pre + k) ≡ length pre + suc k = omega arith in
        let lt = f.0.0 in
        let whole : cur ++ take (suc k) mid ≡ old ++ take (suc (length pre + k)) (pre ++ (mid ++ post))
        = ap (λ t. t ++ take (suc k) mid) st ∙ (append_assoc old pre (take (suc k) mid)
        ∙ ap (λ t. old ++ t) (sym (ap (λ (t : ℕ). take t (pre ++ (mid ++ post))) q ∙ take-over pre mid post (suc k) (omega arith)))) in
        record {
          kept = length pre + k;
          stands = at k (omega arith) s;
          cause = fail-more (Over o) (k < length mid) (length pre + k < length (pre ++ (mid ++ post))) _ _
              (λ h. omega (arith, length-append pre (mid ++ post), length-append mid post)) (ap count whole) f;
        }
    by Memory k s f = record {
      kept = length pre + min k (length mid);
      stands = at (min k (length mid)) (omega arith) (s ∙ ap (λ t. cur ++ t) (sym (take_min k mid)));
      cause = tt;
    }

pub net_clauses-append : (n : ℕ) (xs ys : List Def) → net_clauses n (xs ++ ys) ≡ net_clauses n xs ++ net_clauses (n + length xs) ys
net_clauses-append n [] ys = ap (λ (t : ℕ). net_clauses t ys) (omega arith)
net_clauses-append n (x ∷ xs) ys =
    ap (λ t. def_clauses (positive_of n) x ++ t) (net_clauses-append (suc n) xs ys
    ∙ ap (λ (t : ℕ). net_clauses (suc n) xs ++ net_clauses t ys) (omega arith))
    ∙ sym (append_assoc (def_clauses (positive_of n) x) (net_clauses (suc n) xs) (net_clauses (n + suc (length xs)) ys))

pub cut_push : {X : Type 0} (f : X → List Lit) (e : BlastFail) (old new cur : List (List Lit)) (list : List X) (i : ℕ) (d : X)
    → i < length list → cur ≡ old ++ map f (take i list)
    → OnFail e (67108864 < count cur + length (f (get_or list i d))) (count cur + length (f (get_or list i d))) → new ≡ cur
    → Cut e old (map f list) new
cut_push f e old new cur list i d lt st fail same =
    let more : map f (take (suc i) list) ≡ map f (take i list) ++ f (get_or list i d) ∷ []
    = ap (map f) (ap (λ (t : ℕ). take t list) one ∙ take_more list i d lt) ∙ map-append f (take i list) (get_or list i d ∷ []) in
    let m1 = take-map f i list in
    let m2 = take-map f (suc i) list in
    subst (λ t. Cut e old (map f list) t) (sym same)
    (cut_one e old (map f list) cur i (f (get_or list i d)) (st ∙ ap (λ t. old ++ t) (sym m1))
    (m2 ∙ (more ∙ ap (λ t. t ++ f (get_or list i d) ∷ []) (sym m1))) (omega (arith, length-map list f)) fail)
  where
    one : suc i ≡ i + 1
    one = omega arith

pub net_more : (n : ℕ) (ds : List Def) (i : ℕ) (d : Def) → i < length ds
    → net_clauses n (take (i + 1) ds) ≡ net_clauses n (take i ds) ++ def_clauses (positive_of (n + i)) (get_or ds i d)
net_more n ds i d lt =
    ap (net_clauses n) (take_more ds i d lt) ∙ (net_clauses-append n (take i ds) (get_or ds i d ∷ [])
    ∙ (ap (λ (t : ℕ). net_clauses n (take i ds) ++ net_clauses (n + t) (get_or ds i d ∷ [])) (length-take-le i ds le)
    ∙ ap (λ t. net_clauses n (take i ds) ++ t) (append-nil (def_clauses (positive_of (n + i)) (get_or ds i d)))))
  where
    le : i ≤ length ds
    le = omega arith

pub net_cut : (e : BlastFail) (old new cur : List (List Lit)) (n : ℕ) (ds : List Def) (i : ℕ) (d : Def) → i < length ds
    → cur ≡ old ++ net_clauses n (take i ds) → Cut e cur (def_clauses (positive_of (n + i)) (get_or ds i d)) new
    → Cut e old (net_clauses n ds) new
net_cut e old new cur n ds i d lt st c =
    let rest = drop (i + 1) ds in
    let a : net_clauses n (take (i + 1) ds ++ rest) ≡ net_clauses n ds = ap (net_clauses n) (take-append-drop (i + 1) ds) in
    let k = n + length (take (i + 1) ds) in
    let b = net_clauses-append n (take (i + 1) ds) rest in
    let m = ap (λ t. t ++ net_clauses k rest) (net_more n ds i d lt) in
    let z = append_assoc (net_clauses n (take i ds)) (def_clauses (positive_of (n + i)) (get_or ds i d)) (net_clauses k rest) in
    subst (λ t. Cut e old t new) (sym (sym a ∙ (b ∙ (m ∙ z))))
    (cut_more e old (net_clauses n (take i ds)) (def_clauses (positive_of (n + i)) (get_or ds i d)) (net_clauses k rest) cur new st c)

pub net_step : (old new cur : List (List Lit)) (n : ℕ) (ds : List Def) (i : ℕ) (d : Def) → i < length ds
    → cur ≡ old ++ net_clauses n (take i ds) → new ≡ cur ++ def_clauses (positive_of (n + i)) (get_or ds i d)
    → new ≡ old ++ net_clauses n (take (i + 1) ds)
net_step old new cur n ds i d lt st e =
    e ∙ (ap (λ t. t ++ def_clauses (positive_of (n + i)) (get_or ds i d)) st
    ∙ (append_assoc old (net_clauses n (take i ds)) (def_clauses (positive_of (n + i)) (get_or ds i d))
    ∙ ap (λ t. old ++ t) (sym (net_more n ds i d lt))))
