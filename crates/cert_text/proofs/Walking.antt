-- Reading to the end is a walk over all bytes, and what stands where it leads.
use Rattle.std.proofs.Common.{◌≡◌, ℕ, ◌+◌, List, [], ◌∷◌, length, if◌then◌else◌, Ok, Err, refl, sym, ap, ◌∙◌, arith}
use Rattle.stored_text.specs.declared.StoredFail.TheVariants.{Format}
use Rattle.cert_text.specs.declared.place.Place.{Place}
use Rattle.cert_text.specs.declared.place.Part.{Part}
use Rattle.cert_text.specs.declared.place.Part.TheVariants.{Fresh}
use Rattle.cert_text.specs.declared.steps.Move.{Move}
use Rattle.cert_text.specs.declared.steps.Next.{Next}
use Rattle.cert_text.specs.declared.steps.Next.TheVariants.{Refused, Part as NPart, Moves}
use Rattle.cert_text.specs.Places.{is_done_at}
use Rattle.cert_text.specs.Steps.{step_of}
use Rattle.cert_text.specs.Drafts.{Said, applied, content_said}
use Rattle.cert_text.specs.Reading.{Reading, answered, read_from}
use Rattle.cert_text.specs.Walks.{Walk, onward, walk}

-- what stands where a walk leads, whose end is at an offset
abbrev pub ended : ℕ → Walk → Reading
ended end (Ok q) = if is_done_at q.place.slot then Ok (content_said q.said) else Err (Format end)
ended end (Err e) = Err e

pub reads : (bytes : List ℕ) (said : Said) (place : Place) (part : Part) (n : ℕ) → read_from said place part n bytes ≡ ended (n + length bytes) (walk said place part n bytes)
reads [] said place part n =
    let e : n + 0 ≡ n = omega arith in
    ap (λ (k : ℕ). if is_done_at place.slot then Ok (content_said said) else Err (Format k)) (sym e)
reads (b ∷ rest) said place part n = by_next (step_of place part b) (λ p. reads rest said place p (n + 1)) (λ m. reads rest (applied m said) m.to Fresh (n + 1))
  where
    far : (n + 1) + length rest ≡ n + length (b ∷ rest)
    far = omega arith

    by_next : (m : Next) → ((p : Part) → read_from said place p (n + 1) rest ≡ ended ((n + 1) + length rest) (walk said place p (n + 1) rest))
        → ((m : Move) → read_from (applied m said) m.to Fresh (n + 1) rest ≡ ended ((n + 1) + length rest) (walk (applied m said) m.to Fresh (n + 1) rest))
        → answered n m (λ p. read_from said place p (n + 1) rest) (λ m. read_from (applied m said) m.to Fresh (n + 1) rest)
        ≡ ended (n + length (b ∷ rest)) (onward n m (λ p. walk said place p (n + 1) rest) (λ m. walk (applied m said) m.to Fresh (n + 1) rest))
    by_next Refused f g = refl
    by_next (NPart p) f g = f p ∙ ap (λ (k : ℕ). ended k (walk said place p (n + 1) rest)) far
    by_next (Moves m) f g = g m ∙ ap (λ (k : ℕ). ended k (walk (applied m said) m.to Fresh (n + 1) rest)) far
