-- A send fits its message and its receiver: the rule V8.
use Rattle.std.specs.Prelude.{ℕ, ◌==◌, Bool, true, false, not, ◌&&◌, List, [], ◌∷◌, take, drop, slice_get, is_none}
use Rattle.std.specs.List.{list_any, filter}
use Rattle.tap_base.specs.declared.place.Range.{Range}
use Rattle.tap_base.specs.Interval.{field_range}
use Rattle.register_code.specs.declared.code.CodeAction.{CodeAction}
use Rattle.register_code.specs.declared.code.CodeField.{CodeField}
use Rattle.register_code.specs.declared.code.CodeKind.{CodeKind}
use Rattle.register_code.specs.declared.code.CodeKind.TheVariants as kind
use Rattle.register_code.specs.declared.instr.Instr.{Instr}
use Rattle.register_code.specs.declared.instr.Instr.TheVariants as instr
use Rattle.register_code.specs.Fields.{code_field}
use Rattle.register_code.specs.Sites.{Site, holds_of, lies_in}

-- ---- V8: a send fits its message and its receiver

abbrev pub free_fields : List CodeField → List CodeField
free_fields fields = filter (λ f. is_none f.fixed) fields

-- one range for each field, and each lies within its field's
abbrev pub fit_fields : List CodeField → List Range → Bool
fit_fields [] [] = true
fit_fields (f ∷ fs) (range ∷ ranges) = lies_in range (field_range (code_field f)) && fit_fields fs ranges
fit_fields _ _ = false

-- the action receives m from q
abbrev pub is_receive : ℕ → ℕ → CodeAction → Bool
is_receive m q action = by_kind action.kind where
  by_kind : CodeKind → Bool
  by_kind kind.Receive = action.a == m && action.b == q
  by_kind _ = false

abbrev pub can_send : Site → Instr → Bool
can_send s (instr.Send message first count to) =
    holds_of (slice_get s.messages message) (λ m. fit_fields (free_fields m.fields) (take count (drop first s.ranges)))
    && not (to == s.process) && holds_of (slice_get s.processes to) (λ p. list_any (is_receive message s.process) p.actions)
can_send s _ = true
