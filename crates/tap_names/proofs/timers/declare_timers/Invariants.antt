use Rattle.std.proofs.Common.{◌≡◌, ◌≤◌, [], ◌++◌, take, drop}
use Rattle.tap_names.specs.VariableOffences.{idents}
use Rattle.tap_names.specs.inner.Declares.{judged_timer}
use Rattle.tap_names.specs.Limits.{most_timers}
use Rattle.tap_base.specs.ListWords.{behind}
use Rattle.tap_names.specs.Names.{timer_names}
use Rattle.tap_names.specs.Tables.{entries_of, names_in}
use Rattle.tap_names.proofs.timers.declare_timers.Given as goal

abbrev pub invariant-timers : goal.invariant-timers
invariant-timers l = record {
  clear : behind (judged_timer (entries_of l.constants) (names_in (entries_of l.initial.table))) (take l.at l.timers) (drop l.at l.timers) ≡ behind (judged_timer (entries_of l.constants) (names_in (entries_of l.initial.table))) [] l.timers;
  names : names_in (entries_of l.table) ≡ names_in (entries_of l.initial.table) ++ idents (take l.at l.timers);
  listed : entries_of l.table ++ timer_names l.at (drop l.at l.timers) ≡ entries_of l.initial.table ++ timer_names 0 l.timers;
  few : l.at ≤ most_timers;
}
