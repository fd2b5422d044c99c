-- The lines of a run's events.
use Rattle.std.specs.Prelude.{ℕ, ◌+◌, min, Bool, not, ◌==◌, if◌then◌else◌, List, [], ◌∷◌, ◌++◌, length, take, codes, Option, None, Some, slice_get, ℤ}
use Rattle.std.specs.List.{prefix_len}
use Rattle.lv_base.specs.declared.kind.Kind.{Kind}
use Rattle.lv_base.specs.Integers.{is_zero}
use Rattle.slot_code.specs.declared.flat.Instruction.{Instruction}
use Rattle.slot_code.specs.declared.flat.Instruction.TheVariants as i
use Rattle.event_log.specs.declared.event.Event.{Event}
use Rattle.event_log.specs.Noted.{Noted}
use Rattle.trace_sites.specs.declared.site.Site.{Site}
use Rattle.trace_texts.specs.Names.{kind_text}
use Rattle.trace_texts.specs.Lines as lines
use Rattle.trace_lines.specs.Excerpts.{is_blank, shown, between, range_of}
use Rattle.trace_lines.specs.Scenes.{Stage, site_at, front, name_at, object_name, offset_of, element, function_name}

-- the offset at which a site begins, without the blanks before it
abbrev pub start_of : List ℕ → Site → ℕ
start_of source site = min (site.from + prefix_len is_blank (range_of source site.from site.to)) 4294967295

abbrev pub start_in : List ℕ → Option Site → Option ℕ
start_in source None = None
start_in source (Some site) = Some (start_of source site)

abbrev pub start_at : Stage → ℕ → Option ℕ
start_at s place = start_in s.source (site_at s place)

-- a call that draws a value, by its name, or by what it draws where that is not known
abbrev pub drawn_name : Stage → Kind → Option ℕ → List ℕ
drawn_name s kind None = kind_text kind
drawn_name s kind (Some at) = name_at s at

abbrev pub drawn_at : Stage → Event → Kind → Option ℕ → List ℕ
drawn_at s e kind at = lines.drawn (front s at) (drawn_name s kind at) e.value

-- a local object without an initial value, at its name
abbrev pub filled_line : Stage → Event → ℕ → Kind → List ℕ
filled_line s e object kind = lines.valued (front s (offset_of (slice_get s.objects object))) (lines.valueless_text (kind_text kind) (element s object e.element)) e.value

abbrev pub assigned_line : Stage → Event → Option ℕ → ℕ → List ℕ
assigned_line s e at object = lines.assigned (front s at) (element s object e.element) e.value

abbrev pub bound_line : Stage → Event → ℕ → List ℕ
bound_line s e object = lines.bound (front s (offset_of (slice_get s.objects object))) (object_name (slice_get s.objects object)) e.value

-- the first bytes of a condition
abbrev pub condition_line : List ℕ → List ℕ → Bool → List ℕ
condition_line at condition holds = if length condition == 0 then lines.undecided at else lines.decided at (shown (take 100 condition)) holds

abbrev pub decided_at : Stage → Bool → Option Site → List ℕ
decided_at s holds None = lines.decided (front s None) (codes "a condition") holds
decided_at s holds (Some site) = condition_line (front s (Some (start_of s.source site))) (between s.source site.from site.to) holds

abbrev pub decided_line : Stage → Event → List ℕ
decided_line s e = decided_at s (not (is_zero e.value)) (site_at s e.place)

-- a value that was returned has the number 1
abbrev pub value_in : Event → Option ℤ
value_in e = if e.element == 0 then None else Some e.value

abbrev pub returned_line : Stage → Event → ℕ → ℕ → List ℕ
returned_line s e at slot = lines.returned (front s (Some at)) (function_name s slot) (value_in e)

abbrev pub met_line : Stage → Event → ℤ → List ℕ
met_line s e value = lines.met (front s (start_at s e.place)) value

abbrev pub called_line : Stage → ℕ → ℕ → List ℕ
called_line s at slot = lines.called (front s (Some at)) (function_name s slot)

-- by the instruction that did it
abbrev pub line_of : Stage → Event → Instruction → List ℕ
line_of s e (i.Draw slot kind) = drawn_at s e kind (start_at s e.place)
line_of s e (i.Fill object kind count) = filled_line s e object kind
line_of s e (i.Begin slot object count values) = assigned_line s e (offset_of (slice_get s.objects object)) object
line_of s e (i.Bind slot object) = bound_line s e object
line_of s e (i.Store slot object) = assigned_line s e (start_at s e.place) object
line_of s e (i.Update slot o k l at object) = assigned_line s e (Some at) object
line_of s e (i.Change slot before by k at object) = assigned_line s e (Some at) object
line_of s e (i.SkipZero slot skip) = decided_line s e
line_of s e (i.SkipEqual slot value skip) = met_line s e value
line_of s e (i.Call at goal slot) = called_line s at slot
line_of s e (i.Take slot at source needed) = returned_line s e at source
line_of s e _ = []

abbrev pub line_by : Stage → Event → Option Instruction → List ℕ
line_by s e None = []
line_by s e (Some x) = line_of s e x

abbrev pub event_line : Stage → Event → List ℕ
event_line s e = line_by s e (slice_get s.instructions e.place)

abbrev pub events_text : Stage → List Event → List ℕ
events_text s [] = []
events_text s (e ∷ es) = event_line s e ++ events_text s es

-- how many were left out, where any were
abbrev pub left_out_text : ℕ → List ℕ
left_out_text count = if count == 0 then [] else lines.left_out count

-- the last events of a run
abbrev pub log_text : Stage → Noted → List ℕ
log_text s l = left_out_text l.left_out ++ events_text s l.events
