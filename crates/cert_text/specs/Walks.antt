-- Reading of some bytes, from any place on.
use Rattle.std.specs.Prelude.{ℕ, ◌+◌, List, [], ◌∷◌, ◌++◌, Result, Ok, Err}
use Rattle.stored_text.specs.declared.StoredFail.{StoredFail}
use Rattle.stored_text.specs.declared.StoredFail.TheVariants.{Format}
use Rattle.cert_text.specs.declared.place.Fixed.TheVariants.{BeforeChains}
use Rattle.cert_text.specs.declared.place.Slot.TheVariants.{Text}
use Rattle.cert_text.specs.declared.place.Place.{Place}
use Rattle.cert_text.specs.declared.place.Part.{Part}
use Rattle.cert_text.specs.declared.place.Part.TheVariants.{Fresh}
use Rattle.cert_text.specs.declared.readers.Front.{Front}
use Rattle.cert_text.specs.declared.readers.Reader.{Reader}
use Rattle.cert_text.specs.declared.steps.Move.{Move}
use Rattle.cert_text.specs.declared.steps.Next.{Next}
use Rattle.cert_text.specs.declared.steps.Next.TheVariants.{Refused, Part as NPart, Moves}
use Rattle.cert_text.specs.Steps.{place_of, step_of}
use Rattle.cert_text.specs.Drafts.{Said, said_of, chain_of, applied}

-- what was said, the place, and the part that was read there
pub record State : Type 0 where
  pub said : Said
  pub place : Place
  pub part : Part

abbrev pub state : Said → Place → Part → State
state said place part = record { said = said; place = place; part = part }

abbrev pub state_of : Reader → State
state_of r = state (said_of r.draft) r.place r.part

abbrev pub Walk : Type 0
Walk = Result State StoredFail

abbrev pub onward : ℕ → Next → (Part → Walk) → (Move → Walk) → Walk
onward at Refused f g = Err (Format at)
onward at (NPart part) f g = f part
onward at (Moves m) f g = g m

-- where some bytes lead, whose first one stands at an offset
abbrev pub walk : Said → Place → Part → ℕ → List ℕ → Walk
walk said place part at [] = Ok (state said place part)
walk said place part at (b ∷ rest) =
    onward at (step_of place part b) (λ p. walk said place p (at + 1) rest) (λ m. walk (applied m said) m.to Fresh (at + 1) rest)

abbrev pub front_of : Said → Front
front_of s = record { hash = s.hash; model = s.model; layout = s.layout }

-- before a log, where nothing but a front was read
abbrev pub before_log : Front → ℕ → State
before_log f left =
    state (record { hash = f.hash; model = f.model; layout = f.layout; terms = []; formulas = []; logs = []; log = []; chain = chain_of 0 [] }) (place_of (Text BeforeChains) left 0) Fresh

-- what was said behind what had been said: terms, formulas and logs are added, the rest is that of the later one
abbrev pub behind : Said → Said → Said
behind base s = record s { terms = base.terms ++ s.terms; formulas = base.formulas ++ s.formulas; logs = base.logs ++ s.logs }

abbrev pub joined : Said → State → State
joined base q = state (behind base q.said) q.place q.part
