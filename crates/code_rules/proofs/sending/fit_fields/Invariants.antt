use Rattle.std.proofs.Common.{◌≡◌, ◌≤◌, length, drop}
use Rattle.register_code.specs.Sending.{fit_fields, free_fields}
use Rattle.code_rules.proofs.sending.fit_fields.Given as goal

abbrev pub invariant-loop-field : goal.invariant-loop-field
invariant-loop-field l = (l.at ≤ length l.ranges) × (fit_fields (free_fields (drop l.field-index l.fields)) (drop l.at l.ranges) ≡ fit_fields (free_fields l.fields) l.ranges)
