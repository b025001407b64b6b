-- Where the statements of a system are judged right: every value is within the range of what it is written to.
use Rattle.std.specs.Prelude.{◌≤◌, IfSome, List, slice_get}
use Rattle.tap_base.specs.declared.place.Range.{Range}
use Rattle.tap_base.specs.declared.system.Action.{Action}
use Rattle.tap_base.specs.declared.system.Guard.{Guard}
use Rattle.tap_base.specs.declared.system.Guard.TheVariants as guard
use Rattle.tap_base.specs.declared.system.Message.{Message}
use Rattle.tap_base.specs.declared.system.Process.{Process}
use Rattle.tap_base.specs.declared.system.System.{System}
use Rattle.tap_base.specs.declared.tree.Expr.{Expr}
use Rattle.tap_base.specs.declared.tree.Target.{Target}
use Rattle.tap_base.specs.Interval.{IsWithin, delay_range, index_range}
use Rattle.tap_base.specs.Lists.{Each, EachBoth}
use Rattle.tap_base.specs.Parts.{Deed, all_deeds, assign, choose, send, start, stop, test, turns}
use Rattle.tap_base.specs.Scope.{Scope, fields_of, free_fields, scope_of, value_range}
use Rattle.tap_base.specs.Sends.{body_sends}
use Rattle.sound_values.specs.Sound.{IsJudged}

-- ---- statements

-- the expression is judged right, and its interval is within a range
pub record FitsRange (s : Scope) (e : Expr) (wanted : Range) : Type 0 where
  pub range : Range
  pub judged : IsJudged s e range
  pub within : IsWithin range wanted

abbrev pub IsJudgedTarget : Scope → Target → Type 0
IsJudgedTarget s t = IfSome t.index (λ e. FitsRange s e (index_range t.length))

-- the values of a deed are within their targets, their fields and the range of delays, and its tests are judged right
abbrev pub IsJudgedDeed : List Message → Scope → Deed → Type 0
IsJudgedDeed messages s (assign targets values) = Each (IsJudgedTarget s) targets × EachBoth (λ (t : Target) (e : Expr). FitsRange s e t.range) targets values
IsJudgedDeed messages s (choose target) = IsJudgedTarget s target
IsJudgedDeed messages s (send m values q) = EachBoth (λ f (e : Expr). FitsRange s e (value_range f)) (free_fields (fields_of (slice_get messages m))) values
IsJudgedDeed messages s (start t delay) = FitsRange s delay delay_range
IsJudgedDeed messages s (stop t) = Unit {0}
IsJudgedDeed messages s (test e) = (range : Range) × IsJudged s e range
IsJudgedDeed messages s (turns n) = Unit {0}

-- ---- systems

abbrev pub IsJudgedGuard : Scope → Guard → Type 0
IsJudgedGuard s (guard.Local e) = (range : Range) × IsJudged s e range
IsJudgedGuard s _ = Unit {0}

pub record IsJudgedAction (messages : List Message) (process : Process) (a : Action) : Type 0 where
  pub guard : IsJudgedGuard (scope_of messages process a.guard) a.guard
  pub body : Each (IsJudgedDeed messages (scope_of messages process a.guard)) (all_deeds a.body)
  pub few : body_sends a.body ≤ 64

abbrev pub IsJudgedSystem : System → Type 0
IsJudgedSystem system = Each (λ (p : Process). Each (IsJudgedAction system.messages p) p.actions) system.processes
