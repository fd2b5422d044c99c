-- The texts of witnesses, in the project's profile of the verification witness format 2.0.
use Rattle.std.specs.Prelude.{ℕ, List, [], ◌∷◌, ◌++◌, ◌==◌, ◌||◌, if◌then◌else◌, codes, unsigned_abs}
use Rattle.std.specs.Fmt.{decimal}
use Rattle.hex.specs.Hex.{encode_lower}
use Rattle.uuid.specs.Parts.{with_variant, with_version}
use Rattle.uuid.specs.Text.{hyphenated_text, lower}
use Rattle.uuid.specs.declared.Variant.TheVariants.{RFC4122}
use Rattle.uuid.specs.declared.Version.TheVariants.{Random}
use Rattle.lv_base.specs.declared.kind.Model.{Model}
use Rattle.lv_base.specs.declared.kind.Model.TheVariants.{Ilp32, Lp64}
use Rattle.lv_base.specs.declared.place.Place.{Place}
use Rattle.moment_text.specs.Moments.{time_text}
use Rattle.witness_yaml.specs.declared.entry.Invariant.{Invariant}
use Rattle.witness_yaml.specs.declared.metadata.Metadata.{Metadata}

-- pieces, one behind the other
abbrev pub joined : List (List ℕ) → List ℕ
joined [] = []
joined (piece ∷ pieces) = piece ++ joined pieces

-- a byte of a name: behind a `\` where it is a `"` or a `\`
abbrev pub escaped_byte : ℕ → List ℕ
escaped_byte byte = if (byte == 34) || (byte == 92) then 92 ∷ byte ∷ [] else byte ∷ []

-- a name as it stands between quotes
abbrev pub escaped : List ℕ → List ℕ
escaped [] = []
escaped (byte ∷ bytes) = escaped_byte byte ++ escaped bytes

-- the version 4 identifier of sixteen bytes, in lower case
unfoldable pub uuid_text : List ℕ → List ℕ
uuid_text random = hyphenated_text lower (with_version (with_variant random RFC4122) Random)

abbrev pub model_text : Model → List ℕ
model_text Ilp32 = codes "ILP32"
model_text Lp64 = codes "LP64"

-- the lines before those that name the source
abbrev pub head_text : List ℕ → Metadata → List ℕ
head_text entry metadata = joined (
    codes "- entry_type: \"" ∷ entry ∷ codes "\"\n"
    ∷ codes "  metadata:\n"
    ∷ codes "    format_version: \"2.0\"\n"
    ∷ codes "    uuid: \"" ∷ uuid_text metadata.random ∷ codes "\"\n"
    ∷ codes "    creation_time: \"" ∷ time_text (unsigned_abs metadata.moment) ∷ codes "\"\n"
    ∷ codes "    producer:\n"
    ∷ codes "      name: \"lazic\"\n"
    ∷ codes "      version: \"1\"\n"
    ∷ codes "    task:\n"
    ∷ [])

-- the lines that name the source, by its escaped name
abbrev pub source_text : List ℕ → List ℕ → List ℕ
source_text name hash = joined (
    codes "      input_files:\n"
    ∷ codes "        - \"" ∷ name ∷ codes "\"\n"
    ∷ codes "      input_file_hashes:\n"
    ∷ codes "        \"" ∷ name ∷ codes "\": \"" ∷ encode_lower hash ∷ codes "\"\n"
    ∷ [])

-- the lines between those and the content
abbrev pub task_text : Model → List ℕ
task_text model = joined (
    codes "      specification: \"G ! call(reach_error())\"\n"
    ∷ codes "      data_model: \"" ∷ model_text model ∷ codes "\"\n"
    ∷ codes "      language: \"C\"\n"
    ∷ [])

unfoldable pub metadata_text : List ℕ → List ℕ → Metadata → List ℕ
metadata_text entry name metadata = joined (
    head_text entry metadata ∷ source_text name metadata.hash ∷ task_text metadata.model ∷ [])

-- a place's lines, each behind these blanks
abbrev pub place_text : List ℕ → Place → List ℕ
place_text blanks place = joined (
    blanks ∷ codes "line: " ∷ decimal place.line ∷ codes "\n"
    ∷ blanks ∷ codes "column: " ∷ decimal place.column ∷ codes "\n"
    ∷ [])

-- a place in a function, in a file of this escaped name
abbrev pub location_text : List ℕ → List ℕ → Place → List ℕ → List ℕ
location_text blanks name place function = joined (
    blanks ∷ codes "file_name: \"" ∷ name ∷ codes "\"\n"
    ∷ place_text blanks place
    ∷ blanks ∷ codes "function: \"" ∷ function ∷ codes "\"\n"
    ∷ [])

unfoldable pub invariant_text : List ℕ → Invariant → List ℕ
invariant_text name invariant = joined (
    codes "    - invariant:\n"
    ∷ codes "        type: \"loop_invariant\"\n"
    ∷ codes "        location:\n"
    ∷ location_text (codes "          ") name invariant.place (codes "main")
    ∷ codes "        value: \"" ∷ invariant.expression ∷ codes "\"\n"
    ∷ codes "        format: \"c_expression\"\n"
    ∷ [])

abbrev pub invariants_text : List ℕ → List Invariant → List ℕ
invariants_text name [] = []
invariants_text name (invariant ∷ invariants) = invariant_text name invariant ++ invariants_text name invariants

-- an empty list stands in the line of its key
unfoldable pub content_text : List ℕ → List Invariant → List ℕ
content_text name [] = codes "  content: []\n"
content_text name (invariant ∷ invariants) = joined (codes "  content:\n" ∷ invariants_text name (invariant ∷ invariants) ∷ [])

-- a witness of correctness: an invariant for each loop
abbrev pub correctness_text : Metadata → List Invariant → List ℕ
correctness_text metadata invariants = joined (
    metadata_text (codes "invariant_set") (escaped metadata.name) metadata ∷ content_text (escaped metadata.name) invariants ∷ [])

unfoldable pub target_text : List ℕ → Place → List ℕ → List ℕ
target_text name place function = joined (
    codes "  content:\n"
    ∷ codes "    - segment:\n"
    ∷ codes "        - waypoint:\n"
    ∷ codes "            action: \"follow\"\n"
    ∷ codes "            type: \"target\"\n"
    ∷ codes "            location:\n"
    ∷ location_text (codes "              ") name place function
    ∷ [])

-- a witness of a violation: the place of the call that a run reaches, and the function in whose body it stands
abbrev pub violation_text : Metadata → Place → List ℕ → List ℕ
violation_text metadata place function = joined (
    metadata_text (codes "violation_sequence") (escaped metadata.name) metadata ∷ target_text (escaped metadata.name) place function ∷ [])
