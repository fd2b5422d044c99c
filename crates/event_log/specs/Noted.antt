-- The last events of a run.
use Rattle.std.specs.Prelude.{ℕ, ◌+◌, min, drop, nat_le, if◌then◌else◌, List, [], ◌∷◌, ◌++◌, length}
use Rattle.event_log.specs.declared.event.Event.{Event}

-- those that are kept, the oldest first, how many are kept at most, and how many were left out before them
pub record Noted : Type 0 where
  pub events : List Event
  pub most : ℕ
  pub left_out : ℕ

abbrev pub empty : ℕ → Noted
empty most = record { events = []; most = most; left_out = 0 }

-- without the oldest one, which counts as left out, up to the greatest count of 64 bits
abbrev pub forgot : Noted → Noted
forgot l = record { events = drop 1 l.events; most = l.most; left_out = min (l.left_out + 1) 18446744073709551615 }

abbrev pub with_event : Noted → Event → Noted
with_event l event = record { events = l.events ++ event ∷ []; most = l.most; left_out = l.left_out }

-- with one more event; the oldest is left out where there are as many as are kept
abbrev pub noted : Noted → Event → Noted
noted l event = with_event (if nat_le l.most (length l.events) then forgot l else l) event
