-- Texts that are written piece by piece.
use Rattle.std.proofs.Common.{◌≡◌, ℕ, ◌+◌, ◌<◌, List, ◌∷◌, ◌++◌, ap, ◌∙◌, sym, inl, append_assoc, length, get_or, drop, drop-cons, rules}
use Rattle.std.specs.Prelude.{Result, Ok, Err, MatchResult}
use Rattle.stored_text.specs.declared.StoredFail.{StoredFail}
use Rattle.stored_text.specs.declared.StoredFail.TheVariants.{Memory}
use Rattle.cert_text.specs.CertText.{each}
use Rattle.cert_text.specs.Writing.{Stops}

pub five_pieces : (file a b c d w x y z end : List ℕ) → a ≡ file ++ w → b ≡ a ++ x → c ≡ b ++ y → d ≡ c ++ z → d ++ end ≡ file ++ (w ++ (x ++ (y ++ (z ++ end))))
five_pieces file a b c d w x y z end ha hb hc hd =
    ap (λ (l : List ℕ). l ++ end) hd ∙ append_assoc c z end
    ∙ ap (λ (l : List ℕ). l ++ (z ++ end)) hc ∙ append_assoc b y (z ++ end)
    ∙ ap (λ (l : List ℕ). l ++ (y ++ (z ++ end))) hb ∙ append_assoc a x (y ++ (z ++ end))
    ∙ ap (λ (l : List ℕ). l ++ (x ++ (y ++ (z ++ end)))) ha ∙ append_assoc file w (x ++ (y ++ (z ++ end)))

-- what the last piece says of the whole
pub stops_told : (r : Result (Unit {0}) StoredFail) (new a b : List ℕ) → a ≡ b → MatchResult r (λ _. new ≡ a) (λ e. e ≡ Memory) → MatchResult r (λ _. new ≡ b) (λ e. Stops b e)
stops_told (Ok u) new a b e m = m ∙ e
stops_told (Err f) new a b e m = inl m

-- one text more of a list that is written element by element
pub each_more : {X : Type 0} (text : X → List ℕ) (xs : List X) (i : ℕ) (d : X) (file new whole : List ℕ) → i < length xs
    → new ≡ file ++ text (get_or xs i d) → file ++ each text (drop i xs) ≡ whole → new ++ each text (drop (i + 1) xs) ≡ whole
each_more text xs i d file new whole lt e h =
    let r : drop i xs ≡ get_or xs i d ∷ drop (i + 1) xs = search (rules, drop-cons xs i d) in
    ap (λ l. l ++ each text (drop (i + 1) xs)) e
    ∙ append_assoc file (text (get_or xs i d)) (each text (drop (i + 1) xs))
    ∙ ap (λ zs. file ++ each text zs) (sym r)
    ∙ h
