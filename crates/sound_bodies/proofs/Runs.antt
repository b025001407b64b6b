-- What statements lead to, and that two ways to run them are one.
use Rattle.std.specs.Prelude.{◌≡◌, ◌≤◌, ◌++◌, ℕ, List, length, Option, IfSome}
use Rattle.tap_base.specs.Lists.{Each}
use Rattle.tap_exec.specs.declared.running.Outgoing.{Outgoing}
use Rattle.tap_exec.specs.Running.{Running}
use Rattle.byte_meaning.specs.Messages.{IsFitSend}
use Rattle.abstract_run.specs.Safe.{IsFitRunning}
use Rattle.tap_exec.specs.Semantics.{ProcessSemantics, Semantics}

-- from one to the other: cells and timers still fit, and at most so many fitting sends have come behind
pub record Leads (semantics : Semantics) (p : ℕ) (process : ProcessSemantics) (n : ℕ) (before after : Running) : Type 0 where
  pub fit : IsFitRunning process after
  pub sends : List Outgoing
  pub sent : after.sends ≡ before.sends ++ sends
  pub sound : Each (IsFitSend semantics p) sends
  pub few : length sends ≤ n

-- one is the other, and where the choices are options it leads on
pub record Runs (semantics : Semantics) (p : ℕ) (process : ProcessSemantics) (n : ℕ) (one other : Running → Option Running) (r : Running) : Type 0 where
  pub same : one r ≡ other r
  pub leads : IfSome (other r) (Leads semantics p process n r)
