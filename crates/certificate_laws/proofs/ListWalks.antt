-- Lists of a certificate whose count stands before them.
use Rattle.std.proofs.Common.{◌≡◌, ℕ, ◌-◌, Bool, false, List, [], ◌∷◌, ◌++◌, length, ap, ◌∙◌, arith, if◌then◌else◌, append_assoc, nat_le}
use Rattle.std.proofs.lemmas.Bool.Decides.{nat_tests}
use Rattle.cert_text.specs.declared.place.Place.{Place}
use Rattle.cert_text.specs.declared.place.Part.TheVariants.{Fresh}
use Rattle.cert_text.specs.CertText.{each}
use Rattle.cert_text.specs.Drafts.{Said}
use Rattle.certificate_laws.specs.Fits.{AllFit}
use Rattle.certificate_laws.proofs.Walks.{at, walk}

-- what is said behind one of a list, with so many left before it, and where reading stands
abbrev pub next_said : {X : Type 0} → (List X → Said) → (List X → Said) → ℕ → List X → Said
next_said more last left xs = if nat_le left 1 then last xs else more xs

abbrev pub next_place : (ℕ → Place) → Place → ℕ → Place
next_place here behind left = if nat_le left 1 then behind else here (left - 1)

-- one is read, whatever stands before and behind it
abbrev pub OneWalks : {X : Type 0} → (X → List ℕ) → (X → Type 0) → (List X → Said) → (List X → Said) → (ℕ → Place) → Place → Type 0
OneWalks {X} text Fit more last here behind =
    (x : X) (before : List X) (left : ℕ) (rest : List ℕ) → Fit x
    → walk (at (more before) (here left) Fresh) (text x ++ rest) ≡ walk (at (next_said more last left (before ++ x ∷ [])) (next_place here behind left) Fresh) rest

pub each_walks : {X : Type 0} (text : X → List ℕ) (Fit : X → Type 0) (more last : List X → Said) (here : ℕ → Place) (behind : Place) → OneWalks text Fit more last here behind
    → (xs : List X) (x : X) (before : List X) (rest : List ℕ) → AllFit Fit (x ∷ xs)
    → walk (at (more before) (here (length (x ∷ xs))) Fresh) (each text (x ∷ xs) ++ rest) ≡ walk (at (last (before ++ x ∷ xs)) behind Fresh) rest
each_walks {X} text Fit more last here behind one [] x before rest fits =
    ap (walk (at (more before) (here (length (x ∷ []))) Fresh)) (append_assoc (text x) [] rest)
    ∙ one x before (length (x ∷ [])) rest fits.0
each_walks {X} text Fit more last here behind one (y ∷ ys) x before rest fits =
    let many : nat_le (length (x ∷ y ∷ ys)) 1 ≡ false = grind (arith, nat_tests) in
    let less : length (x ∷ y ∷ ys) - 1 ≡ length (y ∷ ys) = omega arith in
    let said : next_said more last (length (x ∷ y ∷ ys)) (before ++ x ∷ []) ≡ more (before ++ x ∷ []) = ap (λ (b : Bool). if b then last (before ++ x ∷ []) else more (before ++ x ∷ [])) many in
    let place : next_place here behind (length (x ∷ y ∷ ys)) ≡ here (length (y ∷ ys)) = ap (λ (b : Bool). if b then behind else here (length (x ∷ y ∷ ys) - 1)) many ∙ ap here less in
    ap (walk (at (more before) (here (length (x ∷ y ∷ ys))) Fresh)) (append_assoc (text x) (each text (y ∷ ys)) rest)
    ∙ one x before (length (x ∷ y ∷ ys)) (each text (y ∷ ys) ++ rest) fits.0
    ∙ ap (λ (s : Said). walk (at s (next_place here behind (length (x ∷ y ∷ ys))) Fresh) (each text (y ∷ ys) ++ rest)) said
    ∙ ap (λ (p : Place). walk (at (more (before ++ x ∷ [])) p Fresh) (each text (y ∷ ys) ++ rest)) place
    ∙ each_walks text Fit more last here behind one ys y (before ++ x ∷ []) rest fits.1
    ∙ ap (λ (l : List X). walk (at (last l) behind Fresh) rest) (append_assoc before (x ∷ []) (y ∷ ys))
