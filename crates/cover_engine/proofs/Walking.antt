-- Steps of the walk below a vertex, and of the counts along it.
use Rattle.std.proofs.Common.{◌≡◌, ℕ, ◌+◌, ◌-◌, ◌<◌, ◌≤◌, List, [], ◌∷◌, ◌++◌, length, drop, take, get_or, refl, sym, ap, ◌∙◌, arith, zero, suc, nat_eq, eq-eqb, append_assoc, length-append}
use Rattle.std.specs.List.{All}
use Rattle.std.proofs.lemmas.List.{append-nil, drop_all, drop-append-le, take-append-le, get_or_default}
use Rattle.std.proofs.lemmas.Grind.{get_or_default_zero}
use Rattle.std.proofs.Math.Seq.{drop-cons, take-suc}
use Rattle.reach_tree.specs.declared.vertex.Vertex.{Vertex}
use Rattle.cover_engine.specs.Caches.{bit, children_at, spread, times}

-- one vertex more of the walk
pub walk_more : (vs : List Vertex) (found new whole : List ℕ) (at n x : ℕ) → 0 < n → at < length found → x ≡ get_or found at x → new ≡ found ++ children_at vs x
    → take at found ++ spread vs n (drop at found) ≡ whole → take (at + 1) new ++ spread vs (n - 1) (drop (at + 1) new) ≡ whole
walk_more vs found new whole at n x pos lt is more h =
    let s : n ≡ suc (n - 1) = omega (arith, pos) in
    let one : at + 1 ≡ suc at = omega arith in
    let le : suc at ≤ length found = omega (arith, lt) in
    let d : drop at found ≡ x ∷ drop (suc at) found = drop-cons found at x lt ∙ ap (λ (y : ℕ). y ∷ drop (suc at) found) (sym is) in
    let t : take (suc at) found ≡ take at found ++ x ∷ [] = take-suc found at x lt ∙ ap (λ (y : ℕ). take at found ++ y ∷ []) (sym is) in
    let front : take (at + 1) new ≡ take at found ++ x ∷ [] = ap (λ (k : ℕ). take k new) one ∙ ap (take (suc at)) more ∙ take-append-le (suc at) found (children_at vs x) le ∙ t in
    let back : drop (at + 1) new ≡ drop (suc at) found ++ children_at vs x = ap (λ (k : ℕ). drop k new) one ∙ ap (drop (suc at)) more ∙ drop-append-le (suc at) found (children_at vs x) le in
    ap (λ (xs : List ℕ). xs ++ spread vs (n - 1) (drop (at + 1) new)) front
    ∙ ap (λ (ys : List ℕ). (take at found ++ x ∷ []) ++ spread vs (n - 1) ys) back
    ∙ append_assoc (take at found) (x ∷ []) (spread vs (n - 1) (drop (suc at) found ++ children_at vs x))
    ∙ ap (λ (m : ℕ). take at found ++ spread vs m (x ∷ drop (suc at) found)) (sym s)
    ∙ ap (λ (ys : List ℕ). take at found ++ spread vs n ys) (sym d)
    ∙ h

spread-nil : (vs : List Vertex) (n : ℕ) → spread vs n [] ≡ []
spread-nil vs zero = refl
spread-nil vs (suc n) = refl

-- where nothing is left to walk, or no step
pub walk_done : (vs : List Vertex) (found whole : List ℕ) (at n : ℕ) → length found ≤ at → take at found ++ spread vs n (drop at found) ≡ whole → take at found ≡ whole
walk_done vs found whole at n le h =
    sym (append-nil (take at found))
    ∙ ap (λ (ys : List ℕ). take at found ++ ys) (sym (ap (spread vs n) (drop_all at found le) ∙ spread-nil vs n))
    ∙ h

pub walk_stops : (vs : List Vertex) (found whole : List ℕ) (at n : ℕ) → n ≡ 0 → take at found ++ spread vs n (drop at found) ≡ whole → take at found ≡ whole
walk_stops vs found whole at n z h =
    sym (append-nil (take at found)) ∙ sym (ap (λ (m : ℕ). take at found ++ spread vs m (drop at found)) z) ∙ h

-- a number that is still to come stands there once at least
pub times_next : (xs : List ℕ) (i x : ℕ) → i < length xs → x ≡ get_or xs i x → 1 ≤ times x (drop i xs)
times_next xs i x lt is =
    let d : drop i xs ≡ x ∷ drop (suc i) xs = drop-cons xs i x lt ∙ ap (λ (y : ℕ). y ∷ drop (suc i) xs) (sym is) in
    let e : times x (drop i xs) ≡ bit (nat_eq x x) + times x (drop (suc i) xs) = ap (times x) d in
    let one : bit (nat_eq x x) ≡ 1 = ap bit (eq-eqb x x refl) in
    omega (arith, e, one)

pub grown_enough : (found new more : List ℕ) (at : ℕ) → at < length found → new ≡ found ++ more → at + 1 ≤ length new
grown_enough found new more at lt is = omega (arith, lt, ap length is, length-append found more)

-- what the next of the numbers to lower or to raise has
pub lower_room : (init counts numbers : List ℕ) (i n : ℕ) → i < length numbers → All (λ x. x < length init) numbers
    → ((z : ℕ) → z < length init → times z numbers ≤ get_or init z 0) → length counts ≡ length init
    → ((z : ℕ) → z < length init → get_or counts z 0 + times z numbers ≡ get_or init z 0 + times z (drop i numbers))
    → n ≡ get_or counts (get_or numbers i 0) n → 1 ≤ n
lower_room init counts numbers i n lt inside enough sized h is =
    let x : ℕ = get_or numbers i 0 in
    let lx : x < length init = inside i 0 lt in
    let one : 1 ≤ times x (drop i numbers) = times_next numbers i x lt (get_or_default numbers i 0 x lt) in
    let here : n ≡ get_or counts x 0 = is ∙ get_or_default_zero counts x n (omega (arith, lx, sized)) in
    omega (arith, one, here, h x lx, enough x lx)

pub raise_room : (init counts numbers : List ℕ) (i n : ℕ) → i < length numbers → All (λ x. x < length init) numbers
    → ((z : ℕ) → z < length init → get_or init z 0 + times z numbers ≤ 4294967295) → length counts ≡ length init
    → ((z : ℕ) → z < length init → get_or counts z 0 + times z (drop i numbers) ≡ get_or init z 0 + times z numbers)
    → n ≡ get_or counts (get_or numbers i 0) n → n + 1 ≤ 4294967295
raise_room init counts numbers i n lt inside room sized h is =
    let x : ℕ = get_or numbers i 0 in
    let lx : x < length init = inside i 0 lt in
    let one : 1 ≤ times x (drop i numbers) = times_next numbers i x lt (get_or_default numbers i 0 x lt) in
    let here : n ≡ get_or counts x 0 = is ∙ get_or_default_zero counts x n (omega (arith, lx, sized)) in
    omega (arith, one, here, h x lx, room x lx)
