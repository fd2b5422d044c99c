-- A walk along the calls of functions, each looked at once: the order in which functions are left, and their parts.
use Rattle.std.specs.Prelude.{ℕ, zero, suc, ◌+◌, ◌-◌, ◌*◌, nat_eq, nat_lt, min, Bool, true, false, ◌&&◌, not, if◌then◌else◌, List, [], ◌∷◌, ◌++◌, length, replicate, take, Option, None, Some, slice_get, slice_set}
use Rattle.call_order.specs.declared.walk.Place.{Place}
use Rattle.call_order.specs.Peel.{order_of}

-- what is open: the functions on the path from a first one, the last behind, and those whose parts are not closed
pub record Walk : Type 0 where
  pub places : List Place
  pub path : List ℕ
  pub unclosed : List ℕ
  pub next : ℕ
  pub entered : ℕ
  pub closed : ℕ
  pub order : List ℕ
  pub parts : List ℕ

-- a function that is entered with this number
abbrev pub fresh : ℕ → Place
fresh n = record { entered = n; lowest = n; looked = 0; is_closed = false }

abbrev pub begin : ℕ → Walk
begin count = record { places = replicate count (fresh 0); path = []; unclosed = []; next = 0; entered = 0; closed = 0; order = []; parts = replicate count 0 }

-- the number behind, in 32 bits
abbrev pub following : ℕ → ℕ
following n = min (n + 1) 4294967295

abbrev pub last_of : List ℕ → Option ℕ
last_of xs = slice_get xs (length xs - 1)

abbrev pub front_of : List ℕ → List ℕ
front_of xs = take (length xs - 1) xs

-- the function was entered, and its part is still open
abbrev pub is_open : Place → Bool
is_open p = nat_lt 0 p.entered && not p.is_closed

-- past the functions all are entered
abbrev pub was_entered : Option Place → Bool
was_entered None = true
was_entered (Some p) = nat_lt 0 p.entered

abbrev pub is_entered : List Place → ℕ → Bool
is_entered places f = was_entered (slice_get places f)

abbrev pub enter : ℕ → Walk → Walk
enter f w = record w {
  places = slice_set w.places f (fresh (following w.entered));
  path = w.path ++ f ∷ [];
  unclosed = w.unclosed ++ f ∷ [];
  entered = following w.entered;
}

abbrev pub lower_at : ℕ → ℕ → List Place → Option Place → List Place
lower_at f n places None = places
lower_at f n places (Some p) = slice_set places f (record p { lowest = min p.lowest n })

-- calls from the function lead to one that was entered with this number
abbrev pub lower : ℕ → ℕ → List Place → List Place
lower f n places = lower_at f n places (slice_get places f)

abbrev pub call_at : List ℕ → Option Place → Option ℕ
call_at fs None = None
call_at fs (Some p) = slice_get fs p.looked

-- the function that the next call of a function calls
abbrev pub next_call : List Place → List ℕ → ℕ → Option ℕ
next_call places fs f = call_at fs (slice_get places f)

abbrev pub look_at : ℕ → List Place → Option Place → List Place
look_at f places None = places
look_at f places (Some p) = slice_set places f (record p { looked = min (p.looked + 1) 18446744073709551615 })

-- one more of its calls was looked at
abbrev pub look : ℕ → List Place → List Place
look f places = look_at f places (slice_get places f)

abbrev pub shut_at : ℕ → List Place → Option Place → List Place
shut_at f places None = places
shut_at f places (Some p) = slice_set places f (record p { is_closed = true })

-- the function's part is the one that is closed now
abbrev pub shut : ℕ → Walk → Walk
shut f w = record w {
  places = shut_at f w.places (slice_get w.places f);
  unclosed = front_of w.unclosed;
  parts = slice_set w.parts f w.closed;
}

-- the last function is shut; those before it go on from there, unless it is the one that is looked for
abbrev pub shut_last : ℕ → (Walk → Walk) → Walk → Option ℕ → Walk
shut_last f before w None = w
shut_last f before w (Some last) = if nat_eq last f then shut last w else before (shut last w)

-- a part is closed that begins with a function: those that are open down to that one, at most so many
abbrev pub closing : ℕ → ℕ → Walk → Walk
closing zero f w = w
closing (suc n) f w = shut_last f (closing n f) w (last_of w.unclosed)

abbrev pub pass_on : Place → Walk → Option ℕ → Walk
pass_on p w None = w
pass_on p w (Some caller) = record w { places = lower caller p.lowest w.places }

abbrev pub close : ℕ → Walk → Walk
close f w = closing (length w.unclosed) f w

abbrev pub count_part : Walk → Walk
count_part w = record w { closed = following w.closed }

-- a function that is left closes its part where nothing below it is known to be reached, and else tells its caller
abbrev pub leave_open : ℕ → Place → Walk → Walk
leave_open f p w = if nat_eq p.lowest p.entered then count_part (close f w) else pass_on p w (last_of w.path)

abbrev pub left : ℕ → Walk → Option Place → Walk
left f w None = w
left f w (Some p) = if is_open p then leave_open f p w else w

abbrev pub step_back : ℕ → Walk → Walk
step_back f w = record w { path = front_of w.path; order = w.order ++ f ∷ [] }

-- all calls of the last function on the path were looked at
abbrev pub leave : ℕ → Walk → Walk
leave f w = left f (step_back f w) (slice_get w.places f)

abbrev pub meet : ℕ → Walk → Option Place → Walk
meet f w None = w
meet f w (Some p) = if is_open p then record w { places = lower f p.entered w.places } else w

-- a function calls one: that is entered, or was
abbrev pub follow : ℕ → ℕ → Walk → Walk
follow f to w = if is_entered w.places to then meet f w (slice_get w.places to) else enter to w

abbrev pub call_or_leave : ℕ → Walk → Option ℕ → Walk
call_or_leave f w None = leave f w
call_or_leave f w (Some to) = follow f to (record w { places = look f w.places })

abbrev pub at_calls : ℕ → Walk → Option (List ℕ) → Walk
at_calls f w None = leave f w
at_calls f w (Some own) = call_or_leave f w (next_call w.places own f)

abbrev pub skip : Walk → Walk
skip w = record w { next = following w.next }

abbrev pub begin_at : ℕ → Walk → Walk
begin_at f w = if is_entered w.places f then w else enter f w

abbrev pub step_at : List (List ℕ) → Walk → Option ℕ → Walk
step_at graph w None = begin_at w.next (skip w)
step_at graph w (Some f) = at_calls f w (slice_get graph f)

-- one call of the last function on the path is looked at, or that is left; without a path, the next function is begun
abbrev pub step : List (List ℕ) → Walk → Walk
step graph w = step_at graph w (last_of w.path)

abbrev pub steps : List (List ℕ) → ℕ → Walk → Walk
steps graph zero w = w
steps graph (suc n) w = step graph (steps graph n w)

abbrev pub add_calls : ℕ → List (List ℕ) → ℕ
add_calls count [] = count
add_calls count (fs ∷ rest) = add_calls (min (count + length fs) 18446744073709551615) rest

-- one step for each call, and two for each function
abbrev pub count_steps : List (List ℕ) → ℕ
count_steps graph = add_calls (min (length graph * 2) 18446744073709551615) graph

abbrev pub walked : List (List ℕ) → Walk
walked graph = steps graph (count_steps graph) (begin (length graph))

-- the functions as a walk leaves them, each behind those that it calls
abbrev pub order_by_walk : List (List ℕ) → List ℕ
order_by_walk graph = order_of graph (walked graph).order
