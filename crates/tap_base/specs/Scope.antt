-- What an expression can read, by ranges.
use Rattle.std.specs.Prelude.{List, [], ◌∷◌, flat_map, map, slice_get, ℤ, Option, Some, None}
use Rattle.tap_base.specs.declared.place.Range.{Range}
use Rattle.tap_base.specs.declared.system.Field.{Field}
use Rattle.tap_base.specs.declared.system.Guard.{Guard}
use Rattle.tap_base.specs.declared.system.Guard.TheVariants as guard
use Rattle.tap_base.specs.declared.system.Message.{Message}
use Rattle.tap_base.specs.declared.system.Process.{Process}
use Rattle.tap_base.specs.declared.system.Var.{Var}
use Rattle.tap_base.specs.Interval.{field_range}
use Rattle.tap_base.specs.Ranges.{ranges_of}

-- the ranges of the cells and of the inputs of a process, and of the fields of a received message
pub record Scope : Type 0 where
  pub cells : List Range
  pub inputs : List Range
  pub fields : List Range

abbrev pub input_ranges : List Var → List Range
input_ranges inputs = map (λ v. v.range) inputs

-- the values that a received field may have
abbrev pub value_range : Field → Range
value_range f = field_range (record { width = f.width; fixed = f.fixed })

abbrev pub fields_of : Option Message → List Field
fields_of None = []
fields_of (Some m) = m.fields

-- the fields of the message that a guard receives; a local guard and a timeout receive none
abbrev pub received_fields : List Message → Guard → List Field
received_fields messages (guard.Receive m q) = fields_of (slice_get messages m)
received_fields messages _ = []

-- what an action of a process can read
abbrev pub scope_of : List Message → Process → Guard → Scope
scope_of messages p g = record { cells = ranges_of p.vars; inputs = input_ranges p.inputs; fields = map value_range (received_fields messages g) }

abbrev pub one_free : Option ℤ → Field → List Field
one_free None f = f ∷ []
one_free (Some x) f = []

-- the fields that have no fixed value: a send gives one value for each
abbrev pub free_fields : List Field → List Field
free_fields fields = flat_map (λ f. one_free f.fixed f) fields
