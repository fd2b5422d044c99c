-- How long the lines are.
use Rattle.std.proofs.Common.{ℕ, zero, suc, ◌+◌, ◌*◌, ◌%◌, ◌^◌, ◌<◌, ◌≤◌, List, [], ◌∷◌, ◌++◌, length, Bool, true, false, if◌then◌else◌, arith, length-append}
use Rattle.std.specs.Prelude.{◌&&◌, ◌==◌, codes}
use Rattle.std.specs.Fmt.{decimal}
use Rattle.std.proofs.lemmas.Fmt.{length-decimal-le}
use Rattle.task_gen.specs.Generated.{block_text, blocks_of, blocks_text, draw_text, head, next_number, number_at, sign_of, test_text}
use Rattle.task_gen.specs.Laws.{GeneratedIsShort}

joined : (m n : ℕ) (a b : List ℕ) → length a ≤ m → length b ≤ n → length (a ++ b) ≤ m + n
joined m n a b less few = omega (arith, length-append a b)

small_number : (n : ℕ) → n < 2 ^ 32 → length (decimal n) ≤ 10
small_number n small = length-decimal-le 10 n (omega arith) (omega arith) (omega arith)

draw_length : (i c : ℕ) → i < 2 ^ 32 → c < 2 ^ 32 → length (draw_text i c) ≤ 100
draw_length i c small few =
    joined 16 84 (codes "  unsigned int x") (decimal i ++ (codes " = __VERIFIER_nondet_uint() & " ++ (decimal c ++ (codes "u;" ++ 10 ∷ [])))) (omega arith)
    (joined 10 74 (decimal i) (codes " = __VERIFIER_nondet_uint() & " ++ (decimal c ++ (codes "u;" ++ 10 ∷ []))) (small_number i small)
    (joined 32 42 (codes " = __VERIFIER_nondet_uint() & ") (decimal c ++ (codes "u;" ++ 10 ∷ [])) (omega arith)
    (joined 10 32 (decimal c) (codes "u;" ++ 10 ∷ []) (small_number c few) (omega arith))))

test_length : (i c : ℕ) (sign : List ℕ) → i < 2 ^ 32 → c < 2 ^ 32 → length sign ≤ 2 → length (test_text i c sign) ≤ 100
test_length i c sign small few short =
    joined 8 92 (codes "  if (x") (decimal i ++ (codes " " ++ (sign ++ (codes " " ++ (decimal c ++ (codes "u) reach_error();" ++ 10 ∷ [])))))) (omega arith)
    (joined 10 82 (decimal i) (codes " " ++ (sign ++ (codes " " ++ (decimal c ++ (codes "u) reach_error();" ++ 10 ∷ []))))) (small_number i small)
    (joined 1 81 (codes " ") (sign ++ (codes " " ++ (decimal c ++ (codes "u) reach_error();" ++ 10 ∷ [])))) (omega arith)
    (joined 2 79 sign (codes " " ++ (decimal c ++ (codes "u) reach_error();" ++ 10 ∷ []))) short
    (joined 1 78 (codes " ") (decimal c ++ (codes "u) reach_error();" ++ 10 ∷ [])) (omega arith)
    (joined 10 68 (decimal c) (codes "u) reach_error();" ++ 10 ∷ []) (small_number c few) (omega arith))))))

sign_length : (b : Bool) → length (if b then codes ">=" else codes ">") ≤ 2
sign_length true = omega arith
sign_length false = omega arith

next_small : (s : ℕ) → next_number s < 2 ^ 32
next_small s = omega arith

blocks_length : (seed n : ℕ) → n ≤ 2 ^ 32 → length (blocks_text seed n) ≤ n * 200
blocks_length seed zero less = omega arith
blocks_length seed (suc n) less =
    let c : ℕ = number_at seed (suc n) in
    let few : c < 2 ^ 32 = next_small (number_at seed n) in
    let drawn = draw_length n c (omega arith) few in
    let tested = test_length n c (sign_of seed n) (omega arith) few (sign_length ((n == 0) && (seed % 2 == 1))) in
    let block = joined 100 100 (draw_text n c) (test_text n c (sign_of seed n)) drawn tested in
    let before = blocks_length seed n (omega arith) in
    let all = joined (n * 200) 200 (blocks_text seed n) (block_text n c (sign_of seed n)) before block in
    omega (arith, all)

pub generated_short : GeneratedIsShort
generated_short seed small =
    let blocks : blocks_of seed ≤ 64 = omega arith in
    let long = blocks_length seed (blocks_of seed) (omega (arith, blocks)) in
    let behind = joined (64 * 200) 2 (blocks_text seed (blocks_of seed)) (codes "}" ++ 10 ∷ []) (omega (arith, blocks, long)) (omega arith) in
    let all = joined 100 (64 * 200 + 2) head (blocks_text seed (blocks_of seed) ++ (codes "}" ++ 10 ∷ [])) (omega arith) behind in
    omega (arith, all)
