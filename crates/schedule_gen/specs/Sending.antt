-- Which processes send to which.
use Rattle.std.specs.Prelude.{ℕ, ◌+◌, ◌==◌, Bool, false, List, [], ◌∷◌, ◌++◌, map, filter, length}
use Rattle.std.specs.List.{list_any, range_with_len}
use Rattle.tap_base.specs.declared.system.Action.{Action}
use Rattle.tap_base.specs.declared.system.Process.{Process}
use Rattle.tap_base.specs.declared.system.System.{System}
use Rattle.tap_base.specs.Parts.{Deed, send, all_deeds}
use Rattle.schedule_gen.specs.declared.routes.Route.{Route}

-- a send to p
abbrev pub is_send_to : ℕ → Deed → Bool
is_send_to p (send m values q) = q == p
is_send_to p _ = false

-- one of them is a send to p
abbrev pub send_to_among : ℕ → List Deed → Bool
send_to_among p deeds = list_any (is_send_to p) deeds

-- A send to p is written in some action of the process, whether it comes to run or not.
abbrev pub sends_to : Process → ℕ → Bool
sends_to process p = list_any (λ (a : Action). send_to_among p (all_deeds a.body)) process.actions

abbrev pub route : ℕ → ℕ → Route
route q p = record { from = q; to = p }

-- the channels from the process numbered q to each of n that it sends to
abbrev pub routes_of : ℕ → ℕ → Process → List Route
routes_of n q process = map (route q) (filter (sends_to process) (range_with_len 0 n))

-- those of all processes, counted from q
abbrev pub routes_from : ℕ → ℕ → List Process → List Route
routes_from n q [] = []
routes_from n q (x ∷ xs) = routes_of n q x ++ routes_from n (q + 1) xs

-- the channels that are sent into, by sender, then receiver
abbrev pub routes : System → List Route
routes system = routes_from (length system.processes) 0 system.processes
