-- What the program says of checks and verifications.
use Rattle.std.specs.Prelude.{ℕ, ◌++◌, List, [], ◌∷◌, Bool, true, false, if◌then◌else◌, codes}
use Rattle.std.specs.Fmt.{decimal}
use Rattle.hex.specs.Hex.{encode_lower}
use Rattle.lv_base.specs.Names.{error_name, fault_number, fault_name}
use Rattle.lv_base.specs.declared.kind.Model.{Model}
use Rattle.lv_base.specs.declared.kind.Model.TheVariants.{Ilp32, Lp64}
use Rattle.lv_base.specs.declared.place.Place.{Place}
use Rattle.verdicts.specs.declared.rejection.Rejection.{Rejection}
use Rattle.verdicts.specs.declared.rejection.Rejection.TheVariants.{Format, OtherSource, OtherModel, Layout, Nodes, Term, Formula, Count, BadStep, NoEmpty}
use Rattle.verdicts.specs.declared.verdict.Verdict.{Verdict}
use Rattle.verdicts.specs.declared.verdict.Verdict.TheVariants.{Safe, Unsafe, OutOfUnits, OutOfLearn, Accepted, Rejected, Faulty, Over, ReadFault, NoMemory}

abbrev pub status_of : Verdict → ℕ
status_of (Safe text) = 0
status_of (Unsafe kind place values text) = 1
status_of (OutOfUnits units) = 2
status_of (OutOfLearn learn) = 2
status_of Accepted = 0
status_of (Rejected rejection) = 3
status_of (Faulty fault place) = 11
status_of (Over number count) = 12
status_of ReadFault = 13
status_of NoMemory = 15

abbrev pub model_text : Model → List ℕ
model_text Ilp32 = codes "ilp32"
model_text Lp64 = codes "lp64"

-- two numbers, and the line's end
abbrev pub two_text : ℕ → ℕ → List ℕ
two_text a b = decimal a ++ (codes " " ++ (decimal b ++ 10 ∷ []))

abbrev pub rejection_text : Rejection → List ℕ
rejection_text (Format at) = codes "REJECTED 1 Format " ++ (decimal at ++ 10 ∷ [])
rejection_text (OtherSource stored wanted) = codes "REJECTED 2 OtherSource " ++ (encode_lower stored ++ (codes " " ++ (encode_lower wanted ++ 10 ∷ [])))
rejection_text (OtherModel stored wanted) = codes "REJECTED 3 OtherModel " ++ (model_text stored ++ (codes " " ++ (model_text wanted ++ 10 ∷ [])))
rejection_text (Layout stored wanted) = codes "REJECTED 4 WrongMap layout " ++ two_text stored wanted
rejection_text (Nodes stored wanted) = codes "REJECTED 4 WrongMap nodes " ++ two_text stored wanted
rejection_text (Term number) = codes "REJECTED 4 WrongMap term " ++ (decimal number ++ 10 ∷ [])
rejection_text (Formula node) = codes "REJECTED 4 WrongMap formula " ++ (decimal node ++ 10 ∷ [])
rejection_text (Count stored wanted) = codes "REJECTED 5 Count " ++ two_text stored wanted
rejection_text (BadStep obligation step) = codes "REJECTED 6 BadStep " ++ two_text obligation step
rejection_text (NoEmpty obligation) = codes "REJECTED 7 NoEmpty " ++ (decimal obligation ++ 10 ∷ [])

-- a place as `LINE:COLUMN`, with the line's end
abbrev pub place_text : Place → List ℕ
place_text place = decimal place.line ++ (codes ":" ++ (decimal place.column ++ 10 ∷ []))

abbrev pub text_of : Verdict → List ℕ
text_of (Safe text) = codes "SAFE" ++ 10 ∷ []
text_of (Unsafe kind place values text) = codes "UNSAFE " ++ (error_name kind ++ (codes " at " ++ place_text place))
text_of (OutOfUnits units) = codes "UNKNOWN units " ++ (decimal units ++ 10 ∷ [])
text_of (OutOfLearn learn) = codes "UNKNOWN learn " ++ (decimal learn ++ 10 ∷ [])
text_of Accepted = codes "ACCEPTED" ++ 10 ∷ []
text_of (Rejected rejection) = rejection_text rejection
text_of (Faulty fault place) = codes "SOURCE FAULT " ++ (decimal (fault_number fault) ++ (codes " " ++ (fault_name fault ++ (codes " at " ++ place_text place))))
text_of (Over number count) = codes "LIMIT " ++ (decimal number ++ 10 ∷ [])
text_of ReadFault = codes "READ FAULT" ++ 10 ∷ []
text_of NoMemory = codes "NO MEMORY" ++ 10 ∷ []

-- ---- Sources of seeds

-- a seed is told behind SAFE, UNSAFE and UNKNOWN, and behind no other answer
abbrev pub tells_seed : Verdict → Bool
tells_seed (Safe text) = true
tells_seed (Unsafe kind place values text) = true
tells_seed (OutOfUnits units) = true
tells_seed (OutOfLearn learn) = true
tells_seed Accepted = false
tells_seed (Rejected rejection) = false
tells_seed (Faulty fault place) = false
tells_seed (Over number count) = false
tells_seed ReadFault = false
tells_seed NoMemory = false

abbrev pub seed_text : ℕ → ℕ → List ℕ
seed_text seed blocks = codes "SEED " ++ (decimal seed ++ (codes " BLOCKS " ++ (decimal blocks ++ 10 ∷ [])))

-- what is said of the source of a seed, which has so many blocks
abbrev pub seeded_text : ℕ → ℕ → Verdict → List ℕ
seeded_text seed blocks v = if tells_seed v then text_of v ++ seed_text seed blocks else text_of v
