-- What is known of a mode whose trees may have been dropped: that of a mode which keeps them.
use Rattle.std.proofs.Common.{◌≡◌, ℕ, List, ◌∷◌, Option, None, Some, refl, subst, sym, ◌∙◌}
use Rattle.c_tree.specs.declared.symbol.SymbolAt.{SymbolAt}
use Rattle.parse_machine.specs.Contexts.{Attributed, onWords, onDeclared, onLabel, Waiting, waitAttribute, Mode, Behind, Wait, Attribute, Finished}
use Rattle.parse_machine.specs.Declarations.{Turn}
use Rattle.parse_machine.specs.Steps as steps
use Rattle.parse_laws.proofs.Fits.{names_of, Fit}
use Rattle.parse_laws.proofs.Good.{Reads}
use Rattle.first_token_laws.proofs.Full as full
use Rattle.first_token_laws.proofs.Fillers.{Reader}
use Rattle.first_token_laws.proofs.FullGood.{GoodTurn, same_turn}
use Rattle.first_token_laws.proofs.FullSoundSteps.{next_good}
use Rattle.first_token_laws.proofs.EndMode.{MayHave, SureWaiting, Sure}
use Rattle.first_token_laws.proofs.Sim.{SimAttributed, SimWaiting, SimMode, SimTurns, mode_like}
use Rattle.first_token_laws.proofs.SimSteps.{attribute_may_sim, next_sim}
use Rattle.first_token_laws.proofs.SureSteps as ss
use Rattle.first_token_laws.proofs.SureSteps.{SureTurn}

pub record Shadow (file names : List (List ℕ)) (here : Reader) (m : Mode) : Type 0 where
  pub mode : Mode
  pub like : SimMode m mode
  pub names_are : names ≡ names_of file mode
  pub fits : Fit file mode
  pub reads : Reads mode here
  pub sure : Sure mode

full_reads : (file names : List (List ℕ)) (t : SymbolAt) (m : Mode) (here : Reader) → names ≡ names_of file m → Fit file m → Reads m here → GoodTurn file (λ r. here (t ∷ r)) (full.next names t m)
full_reads file names t Finished here e f g = tt
full_reads file names t m here e f g = same_turn file _ _ (full.next names t m) (λ r. g (t ∷ r)) (next_good file names t m e f)

-- behind one token
pub shadow_next : (file names : List (List ℕ)) (here : Reader) (t : SymbolAt) (m : Mode) (u : Turn) → Shadow file names here m → steps.next names t m ≡ Some u → Shadow file u.names (λ r. here (t ∷ r)) u.mode
shadow_next file names here t m u z e =
    behind (full.next names t z.mode) (subst (λ o. SimTurns o (full.next names t z.mode)) e (next_sim names t m z.mode z.like)) (full_reads file names t z.mode here z.names_are z.fits z.reads) (ss.next_sure file names t z.mode z.fits z.sure)
  where
    behind : (o : Option Turn) → SimTurns (Some u) o → GoodTurn file (λ r. here (t ∷ r)) o → SureTurn o → Shadow file u.names (λ r. here (t ∷ r)) u.mode
    behind None s g k = absurd s
    behind (Some v) s g k = record { mode = v.mode; like = s.1; names_are = s.0 ∙ g.0; fits = g.1; reads = g.2; sure = k }

-- a mode that keeps its trees
pub own_shadow : (file names : List (List ℕ)) (here : Reader) (m : Mode) → names ≡ names_of file m → Fit file m → Reads m here → Sure m → Shadow file names here m
own_shadow file names here m e f g s = record { mode = m; like = mode_like m; names_are = e; fits = f; reads = g; sure = s }

-- What is sure of a mode.

have_sim : (x y : Attributed) → SimAttributed x y → MayHave y → MayHave x
have_sim (onDeclared d) (onDeclared e) s m = attribute_may_sim d e s ∙ m
have_sim (onDeclared d) (onWords v w) s m = absurd s
have_sim (onDeclared d) (onLabel n x y ats o) s m = absurd s
have_sim (onWords v w) y s m = tt
have_sim (onLabel n x z ats o) y s m = tt

waiting_sim : (x y : Waiting) → SimWaiting x y → SureWaiting y → SureWaiting x
waiting_sim (waitAttribute w at x) (waitAttribute v y z) s m = have_sim x z s m
waiting_sim (waitAttribute w at x) _ s m = absurd s
waiting_sim _ y s m = tt

sure_sim : (m n : Mode) → SimMode m n → Sure n → Sure m
sure_sim (Behind d) (Behind e) s z = λ h. s.3 ∙ z (sym (attribute_may_sim d e s) ∙ h)
sure_sim (Behind d) _ s z = absurd s
sure_sim (Wait x) (Wait y) s z = waiting_sim x y s z
sure_sim (Wait x) _ s z = absurd s
sure_sim (Attribute w at a r n x) (Attribute v y c q m z) s k = have_sim x z s.1 k
sure_sim (Attribute w at a r n x) _ s z = absurd s
sure_sim _ n s z = tt

pub next_sure : (file names : List (List ℕ)) (t : SymbolAt) (m : Mode) (here : Reader) → names ≡ names_of file m → Fit file m → Reads m here → Sure m → SureTurn (steps.next names t m)
next_sure file names t m here e f g s = behind (steps.next names t m) refl
  where
    behind : (o : Option Turn) → steps.next names t m ≡ o → SureTurn o
    behind None h = tt
    behind (Some u) h = let z = shadow_next file names here t m u (own_shadow file names here m e f g s) h in sure_sim u.mode z.mode z.like z.sure
