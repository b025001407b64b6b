-- The offences of a system against the widths of its values and against the limits of its actions, in text order: the
-- first one is the one that is answered.
use Rattle.std.specs.Prelude.{ℕ, nat_lt, List, [], ◌++◌, flat_map}
use Rattle.tap_base.specs.declared.refusal.Refusal.{Refusal}
use Rattle.tap_base.specs.declared.refusal.RefusalCode.TheVariants.{W6, W7}
use Rattle.tap_base.specs.declared.system.Action.{Action}
use Rattle.tap_base.specs.declared.system.Guard.{Guard}
use Rattle.tap_base.specs.declared.system.Guard.TheVariants as guard
use Rattle.tap_base.specs.declared.system.Message.{Message}
use Rattle.tap_base.specs.declared.system.Process.{Process}
use Rattle.tap_base.specs.declared.system.System.{System}
use Rattle.tap_base.specs.Offences.{where_}
use Rattle.tap_base.specs.Scope.{Scope, scope_of}
use Rattle.tap_base.specs.Sends.{action_sends}
use Rattle.width_check.specs.Cost.{action_cost}
use Rattle.width_check.specs.ExprOffences.{expr_offences}
use Rattle.width_check.specs.StmtOffences.{body_offences}

-- the most that an action may cost, and the most that it may send
abbrev pub most_cost : ℕ
most_cost = 1000000

abbrev pub most_sends : ℕ
most_sends = 64

abbrev pub guard_offences : Scope → Guard → List Refusal
guard_offences s (guard.Local e) = expr_offences s e
guard_offences s _ = []

-- too high a cost, and then too many sends
abbrev pub limit_offences : Action → List Refusal
limit_offences a = where_ (nat_lt most_cost (action_cost a)) W6 a.place ++ where_ (nat_lt most_sends (action_sends a)) W7 a.place

-- the guard, the statements, and then the limits
abbrev pub offences_in : List Message → Scope → Action → List Refusal
offences_in messages s a = guard_offences s a.guard ++ body_offences messages s a.body ++ limit_offences a

abbrev pub action_offences : List Message → Process → Action → List Refusal
action_offences messages p a = offences_in messages (scope_of messages p a.guard) a

abbrev pub process_offences : List Message → Process → List Refusal
process_offences messages p = flat_map (action_offences messages p) p.actions

-- the offences of a system, process by process and action by action
abbrev pub offences : System → List Refusal
offences system = flat_map (process_offences system.messages) system.processes
