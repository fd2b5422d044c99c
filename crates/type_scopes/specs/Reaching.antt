-- How a link leads back.
use Rattle.std.specs.Prelude.{◌≡◌, ℕ, ◌≤◌, Option, Some}
use Rattle.type_scopes.specs.declared.links.Span.{Span}
use Rattle.type_scopes.specs.declared.links.Link.{Link}

pub record Within (s t : Span) : Type 0 where
  pub from : t.from ≤ s.from
  pub to : s.to ≤ t.to
  pub low : t.low ≤ s.low
  pub high : s.high ≤ t.high

-- It leads to the last one of its bucket, past itself alone; or past that one's jump, and the jump behind that.
pub data Reaches (older : ℕ) (near far : Option Link) (span : Span) (l : Link) : Type 0 where
  alone : l.jump ≡ older → Within span l.span → Reaches older near far span l
  past_both : (n f : Link) → near ≡ Some n → far ≡ Some f → l.jump ≡ f.jump → Within span l.span → Within n.span l.span → Within f.span l.span → Reaches older near far span l
