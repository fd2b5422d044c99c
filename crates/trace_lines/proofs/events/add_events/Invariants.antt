use Rattle.std.proofs.Common.{◌≡◌, ◌-◌, ◌++◌, drop, length, string_bytes}
use Rattle.trace_lines.specs.Scenes.{stage_of}
use Rattle.trace_lines.specs.Events.{events_text}
use Rattle.trace_lines.proofs.events.add_events.Given as goal

-- what is left is told behind what was told
abbrev pub invariant-events : goal.invariant-events
invariant-events l = string_bytes l.text ++ events_text (stage_of l.scene) (drop l.number (l.log).events) ≡ string_bytes l.initial.text ++ events_text (stage_of l.scene) (l.log).events

abbrev pub decreases-events : goal.decreases-events
decreases-events l = length (l.log).events - l.number
