-- The offences of statements, in text order.
use Rattle.std.specs.Prelude.{ℕ, List, [], ◌∷◌, ◌++◌, flat_map, map, slice_get, Option, Some, None}
use Rattle.tap_base.specs.declared.refusal.Refusal.{Refusal}
use Rattle.tap_base.specs.declared.refusal.RefusalCode.TheVariants.{W1, W5}
use Rattle.tap_base.specs.declared.system.Field.{Field}
use Rattle.tap_base.specs.declared.system.Message.{Message}
use Rattle.tap_base.specs.declared.tree.Branch.{Branch}
use Rattle.tap_base.specs.declared.tree.Expr.{Expr}
use Rattle.tap_base.specs.declared.tree.Stmt.{Stmt}
use Rattle.tap_base.specs.declared.tree.Stmt.TheFolds.{fold-Stmt, fold-Branch}
use Rattle.tap_base.specs.declared.tree.Stmt.TheOpen.{Stmt-F, Branch-F}
use Rattle.tap_base.specs.declared.tree.Target.{Target}
use Rattle.tap_base.specs.Interval.{delay_range}
use Rattle.tap_base.specs.ListWords.{joined}
use Rattle.tap_base.specs.Scope.{Scope, fields_of, free_fields, value_range}
use Rattle.width_check.specs.ExprOffences.{Judged, expr_offences, index_offences, judged, where_wider}

-- ---- assignments

-- those of an index of a target, into an array of so many elements
abbrev pub offences_of_index : Scope → ℕ → Option Expr → List Refusal
offences_of_index s length None = []
offences_of_index s length (Some e) = index_offences length (judged s e)

abbrev pub target_offences : Scope → Target → List Refusal
target_offences s t = offences_of_index s t.length t.index

-- each value that does not lie within its target's range, at the target
abbrev pub width_offences : Scope → List Target → List Expr → List Refusal
width_offences s (t ∷ ts) (e ∷ es) = where_wider (judged s e).interval t.range W1 t.place ++ width_offences s ts es
width_offences s _ _ = []

-- all indexes, then all values, then the widths
abbrev pub assignment_offences : Scope → List Target → List Expr → List Refusal
assignment_offences s targets values = flat_map (target_offences s) targets ++ flat_map (expr_offences s) values ++ width_offences s targets values

-- ---- sends

-- those within a value, and then whether it is one of its field
abbrev pub value_offences : Scope → Field → Expr → List Refusal
value_offences s f e = expr_offences s e ++ where_wider (judged s e).interval (value_range f) W1 e.place

-- value by value
abbrev pub field_offences : Scope → List Field → List Expr → List Refusal
field_offences s (f ∷ fs) (e ∷ es) = value_offences s f e ++ field_offences s fs es
field_offences s _ _ = []

-- the free fields of a message, by its number
abbrev pub sent_fields : List Message → ℕ → List Field
sent_fields messages m = free_fields (fields_of (slice_get messages m))

-- ---- delays

abbrev pub delay_offences : Judged → List Refusal
delay_offences delay = delay.offences ++ where_wider delay.interval delay_range W5 delay.place

-- ---- statements and branches

module _ (messages : List Message) (s : Scope) where
  -- one statement, with the offences of its branches in their places
  abbrev pub stmt_step : Stmt-F (List Refusal) (List Refusal) → List Refusal
  stmt_step Stmt-F.Skip = []
  stmt_step (Stmt-F.Assign targets values) = assignment_offences s targets values
  stmt_step (Stmt-F.Choose target) = target_offences s target
  stmt_step (Stmt-F.Send m values to) = field_offences s (sent_fields messages m) values
  stmt_step (Stmt-F.Start timer delay) = delay_offences (judged s delay)
  stmt_step (Stmt-F.Stop timer) = []
  stmt_step (Stmt-F.If branches) = joined branches
  stmt_step (Stmt-F.Loop count branches) = joined branches

  -- a branch: its guard, then its statements
  abbrev pub branch_step : Branch-F (List Refusal) (List Refusal) → List Refusal
  branch_step b = expr_offences s b.guard ++ joined b.body

  abbrev pub stmt_offences : Stmt → List Refusal
  stmt_offences = fold-Stmt (List Refusal) (List Refusal) stmt_step branch_step

  abbrev pub branch_offences : Branch → List Refusal
  branch_offences = fold-Branch (List Refusal) (List Refusal) stmt_step branch_step

  -- of statements, from left to right
  abbrev pub body_offences : List Stmt → List Refusal
  body_offences stmts = joined (map stmt_offences stmts)
