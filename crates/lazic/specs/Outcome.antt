-- What the program says of its answers.
use Rattle.std.specs.Prelude.{ℕ, ◌++◌, List, [], ◌∷◌, codes}
use Rattle.std.specs.Fmt.{decimal}
use Rattle.lv_base.specs.Names.{error_name, fault_number, fault_name}
use Rattle.lv_base.specs.declared.place.Place.{Place}
use Rattle.lazic.specs.declared.outcome.Outcome.{Outcome}
use Rattle.lazic.specs.declared.outcome.Outcome.TheVariants.{Usage, ReadFault, Over, Faulty, BadRun, Reached, Ended, OutOfTurns, NeedsMore, BadValue, NoMemory}

abbrev pub status_of : Outcome → ℕ
status_of Ended = 0
status_of (Reached kind place values) = 1
status_of (OutOfTurns turns) = 2
status_of NeedsMore = 4
status_of (BadValue i) = 5
status_of (BadRun at) = 6
status_of Usage = 10
status_of (Faulty fault place) = 11
status_of (Over number count) = 12
status_of ReadFault = 13
status_of NoMemory = 15

-- a place as `LINE:COLUMN`, with the line's end
abbrev pub place_text : Place → List ℕ
place_text place = decimal place.line ++ (codes ":" ++ (decimal place.column ++ 10 ∷ []))

abbrev pub text_of : Outcome → List ℕ
text_of Ended = codes "ENDED" ++ 10 ∷ []
text_of (Reached kind place values) = codes "UNSAFE " ++ (error_name kind ++ (codes " at " ++ place_text place))
text_of (OutOfTurns turns) = codes "UNKNOWN turns " ++ (decimal turns ++ 10 ∷ [])
text_of NeedsMore = codes "NEEDS MORE" ++ 10 ∷ []
text_of (BadValue i) = codes "BAD VALUE " ++ (decimal i ++ 10 ∷ [])
text_of (BadRun at) = codes "BAD RUN FILE byte " ++ (decimal at ++ 10 ∷ [])
text_of Usage = codes "USAGE" ++ 10 ∷ []
text_of (Faulty fault place) = codes "SOURCE FAULT " ++ (decimal (fault_number fault) ++ (codes " " ++ (fault_name fault ++ (codes " at " ++ place_text place))))
text_of (Over number count) = codes "LIMIT " ++ (decimal number ++ 10 ∷ [])
text_of ReadFault = codes "READ FAULT" ++ 10 ∷ []
text_of NoMemory = codes "NO MEMORY" ++ 10 ∷ []
