-- What was read of a reader, and written to a writer, whose bytes are known.
use Rattle.std.proofs.Common.{◌≡◌, ℕ, ◌+◌, ◌<◌, ◌≤◌, zero, suc, List, [], ◌∷◌, ◌++◌, length, take, drop, Option, None, Some, refl, sym, ap, ◌∙◌, subst, arith, IfSome, append_assoc, append-nil}
use Rattle.std.proofs.lemmas.List.{length-append}
use Rattle.std.specs.Io.KnownBytes.{Appends, Consumes, IsAtEnd}

-- at first nothing was
pub nothing : (o : Option (List ℕ)) → Consumes o o []
nothing None = tt
nothing (Some xs) = refl

-- after some bytes, some more
pub more : (a b c : Option (List ℕ)) (xs ys zs : List ℕ) → Consumes a b xs → Consumes b c ys → zs ≡ xs ++ ys → Consumes a c zs
more None b c xs ys zs h k e = tt
more (Some us) (Some bs) (Some cs) xs ys zs h k e = h ∙ ap (λ t. xs ++ t) k ∙ sym (append_assoc xs ys cs) ∙ ap (λ t. t ++ cs) (sym e)
more (Some us) (Some bs) None xs ys zs h k e = absurd k
more (Some us) None c xs ys zs h k e = absurd h

-- at the end all was
pub all_of : (a b c : Option (List ℕ)) (xs ys : List ℕ) (most : ℕ) → Consumes a b xs → Consumes b c ys → ys ≡ [] → IsAtEnd c → length xs ≤ most
    → IfSome a (λ bytes. (xs ≡ bytes) × (length bytes ≤ most))
all_of None b c xs ys most h k e end few = tt
all_of (Some us) (Some bs) (Some cs) xs ys most h k e end few =
    let same : xs ≡ us = sym (h ∙ ap (λ t. xs ++ t) (k ∙ ap (λ t. t ++ cs) e ∙ end) ∙ append-nil xs) in
    (same, subst (λ t. length t ≤ most) same few)
all_of (Some us) (Some bs) None xs ys most h k e end few = absurd k
all_of (Some us) None c xs ys most h k e end few = absurd h

-- there are as many at least
pub longer : (a b : Option (List ℕ)) (xs : List ℕ) (most : ℕ) → Consumes a b xs → most < length xs → IfSome a (λ bytes. most < length bytes)
longer None b xs most h l = tt
longer (Some us) (Some bs) xs most h l = let long = length-append xs bs in let same = ap length h in omega (arith, long, same, l)
longer (Some us) None xs most h l = absurd h

-- ---- Written

pub unwritten : (o : Option (List ℕ)) → Appends o o []
unwritten None = tt
unwritten (Some xs) = sym (append-nil xs)

take_none : (n : ℕ) → take {A = ℕ} n [] ≡ []
take_none zero = refl
take_none (suc n) = refl

take_further : (k n : ℕ) (xs : List ℕ) → take k xs ++ take n (drop k xs) ≡ take (k + n) xs
take_further zero n xs = let same : n ≡ 0 + n = omega arith in ap (λ (m : ℕ). take m xs) same
take_further (suc k) n [] = take_none n ∙ sym (take_none (suc k + n))
take_further (suc k) n (x ∷ xs) = let same : suc (k + n) ≡ suc k + n = omega arith in ap (λ t. x ∷ t) (take_further k n xs) ∙ ap (λ (m : ℕ). take m (x ∷ xs)) same

pub further : (a b c : Option (List ℕ)) (k n : ℕ) (xs : List ℕ) → Appends a b (take k xs) → Appends b c (take n (drop k xs)) → Appends a c (take (k + n) xs)
further None b c k n xs h g = tt
further (Some us) (Some vs) (Some ws) k n xs h g =
    g ∙ ap (λ t. t ++ take n (drop k xs)) h ∙ append_assoc us (take k xs) (take n (drop k xs)) ∙ ap (λ t. us ++ t) (take_further k n xs)
further (Some us) (Some vs) None k n xs h g = absurd g
further (Some us) None c k n xs h g = absurd h
