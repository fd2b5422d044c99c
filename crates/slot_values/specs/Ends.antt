-- What stands behind the arguments of a call, and behind the first operand of a value with parts that are skipped.
use Rattle.std.specs.Prelude.{ℕ, suc, ◌+◌, Bool, List, [], ◌∷◌, ◌++◌, length, take, drop, Option, slice_get, pos}
use Rattle.lv_base.specs.declared.kind.Kind.{Kind}
use Rattle.slot_code.specs.declared.flat.Instruction.{Instruction}
use Rattle.slot_code.specs.declared.flat.Instruction.TheVariants as i
use Rattle.slot_code.specs.Values.{kept_code, call_code, parameters_of, link_of}
use Rattle.slot_values.specs.declared.scene.Scene.{Scene}
use Rattle.slot_values.specs.Seen.{functions_of}

abbrev pub call : Scene → ℕ → ℕ → Bool → ℕ → ℕ → List Instruction
call scene slot at needed function count = call_code slot at needed (parameters_of (slice_get (functions_of scene) function)) count (link_of function scene.links.now)

abbrev pub both : ℕ → (second : List Instruction) → List Instruction
both slot second = i.SkipZero slot (length second + 2) ∷ second ++ i.Truth slot ∷ i.Jump 1 ∷ i.Constant slot (pos 0) ∷ []

abbrev pub either : ℕ → (second : List Instruction) → List Instruction
either slot second = i.SkipZero slot 2 ∷ i.Constant slot (pos 1) ∷ i.Jump (length second + 1) ∷ second ++ i.Truth slot ∷ []

abbrev pub choice : ℕ → Option Kind → (first second : List Instruction) → List Instruction
choice slot k first second = i.SkipZero slot (length first + 1) ∷ first ++ i.Jump (length second) ∷ second ++ kept_code slot k

-- the skip at this place is over all that stands behind it, and over so many instructions more
abbrev pub skipped : (slot at more : ℕ) → List Instruction → List Instruction
skipped slot at more code = take at code ++ i.SkipZero slot (length (drop (suc at) code) + more) ∷ drop (suc at) code

-- the same of a jump
abbrev pub jumped : (at more : ℕ) → List Instruction → List Instruction
jumped at more code = take at code ++ i.Jump (length (drop (suc at) code) + more) ∷ drop (suc at) code
