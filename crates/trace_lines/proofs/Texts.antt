-- Events are told one after the other.
use Rattle.std.proofs.Common.{◌≡◌, ℕ, ◌+◌, ◌≤◌, List, [], ◌++◌, length, drop, Some, None, sym, ap, ◌∙◌}
use Rattle.std.specs.Prelude.{slice_get}
use Rattle.std.proofs.lemmas.List.{append_assoc, append-nil, drop_all}
use Rattle.event_log.specs.declared.event.Event.{Event}
use Rattle.trace_lines.specs.Scenes.{Stage}
use Rattle.trace_lines.specs.Events.{event_line, events_text}
use Rattle.trace_lines.proofs.Lists.{get_read, get_past}

module _ (s : Stage) (es : List Event) (n : ℕ) (text whole : List ℕ) (is : text ++ events_text s (drop n es) ≡ whole) where
  pub event_more : (e : Event) (line : List ℕ) → slice_get es n ≡ Some e → line ≡ event_line s e → (text ++ line) ++ events_text s (drop (n + 1) es) ≡ whole
  event_more e line at l =
      append_assoc text line (events_text s (drop (n + 1) es))
      ∙ ap (λ x. text ++ (x ++ events_text s (drop (n + 1) es))) l
      ∙ sym (ap (λ xs. text ++ events_text s xs) (get_read es n e at)) ∙ is

  nothing_left : drop n es ≡ [] → text ≡ whole
  nothing_left e = sym (append-nil text) ∙ sym (ap (λ xs. text ++ events_text s xs) e) ∙ is

  pub events_over : slice_get es n ≡ None → text ≡ whole
  events_over at = nothing_left (get_past es n at)

  pub events_done : length es ≤ n → text ≡ whole
  events_done b = nothing_left (drop_all n es b)
