use Rattle.std.proofs.Common.{◌+◌, ◌++◌, drop, sym, ap, ◌∙◌, string_bytes}
use Rattle.trace_lines.specs.Scenes.{stage_of}
use Rattle.trace_lines.specs.Events.{events_text}
use Rattle.trace_lines.proofs.Texts.{event_more}
use Rattle.trace_lines.proofs.events.add_events.Goals as goal

pub events-preserved : goal.events-preserved
events-preserved c =
    ap (λ x. x ++ events_text (stage_of c.args.scene.now) (drop (c.events.number + 1) (c.args.log.now).events)) (c.in_ok-push_str.ensures.bytes ∙ ap (λ y. string_bytes c.events.text ++ y) c.as_str.ensures.value)
    ∙ event_more (stage_of c.args.scene.now) (c.args.log.now).events c.events.number (string_bytes c.events.text) _ c.events.invariant c.in-Some.event (string_bytes c.in_ok-event_line.field-0) (sym c.event.ensures ∙ c.in-Some.is) c.in_ok-event_line.ensures
