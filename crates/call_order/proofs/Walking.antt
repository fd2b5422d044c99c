-- Closing a part, one function after the other.
use Rattle.std.proofs.Common.{ℕ, suc, nat_eq, ◌≡◌, Bool, true, false, if◌then◌else◌, Option, None, Some, sym, ap, ◌∙◌}
use Rattle.call_order.specs.Walks.{Walk, closing, last_of, shut, shut_last}

pub closing_none : (k n f : ℕ) (w : Walk) → k ≡ suc n → last_of w.unclosed ≡ None → closing k f w ≡ w
closing_none k n f w is none = ap (λ (m : ℕ). closing m f w) is ∙ ap (λ (o : Option ℕ). shut_last f (closing n f) w o) none

pub closing_some :
    (k n f last : ℕ) (w : Walk) (b : Bool) → k ≡ suc n → last_of w.unclosed ≡ Some last → nat_eq last f ≡ b
    → closing k f w ≡ (if b then shut last w else closing n f (shut last w))
closing_some k n f last w b is some equal =
    ap (λ (m : ℕ). closing m f w) is ∙ (ap (λ (o : Option ℕ). shut_last f (closing n f) w o) some
    ∙ ap (λ (x : Bool). if x then shut last w else closing n f (shut last w)) equal)
