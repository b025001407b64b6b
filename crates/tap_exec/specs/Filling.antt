-- The values of all fields of a message: a statement gives the free ones, and the others are fixed.
use Rattle.std.specs.Prelude.{ℤ, List, [], ◌∷◌, map, Option, Some, None}
use Rattle.tap_base.specs.declared.system.Field.{Field}
use Rattle.tap_base.specs.declared.system.Message.{Message}
use Rattle.tap_base.specs.declared.wire.WireField.{WireField}
use Rattle.tap_base.specs.Option.{◌>>=◌}

-- what a run asks of a field: its width, and its value where that is fixed
abbrev pub wire_field : Field → WireField
wire_field f = record { width = f.width; fixed = f.fixed }

abbrev pub wire_fields : Message → List WireField
wire_fields m = map wire_field m.fields

-- the value of a field and the given values behind it: its fixed value, or else the next one that is given
abbrev pub field_value : Option ℤ → List ℤ → Option (ℤ × List ℤ)
field_value (Some v) given = Some (v, given)
field_value None [] = None
field_value None (x ∷ given) = Some (x, given)

-- the values of all fields, in order of declaration; none where as many values are not given as there are free fields
abbrev pub filled : List WireField → List ℤ → Option (List ℤ)
filled [] [] = Some []
filled [] (x ∷ given) = None
filled (f ∷ fs) given = do
  value ← field_value f.fixed given
  more ← filled fs value.1
  Some (value.0 ∷ more)
