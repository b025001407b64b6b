-- The offences of a declared name, whatever it names.
use Rattle.std.specs.Prelude.{ℕ, nat_le, nat_lt, List, ◌++◌, length}
use Rattle.tap_base.specs.declared.ast.Ident.{Ident}
use Rattle.tap_base.specs.declared.refusal.Refusal.{Refusal}
use Rattle.tap_base.specs.declared.refusal.RefusalCode.TheVariants.{N2, X1}
use Rattle.tap_names.specs.Limits.{most_bytes}
use Rattle.tap_base.specs.Offences.{where_}
use Rattle.tap_names.specs.Tables.{is_among}

-- a name that is too long, and one that stands before in its space of names
abbrev pub name_offences : List (List ℕ) → Ident → List Refusal
name_offences before name =
    where_ (nat_lt most_bytes (length name.text)) X1 name.place
    ++ where_ (is_among name.text before) N2 name.place

-- one more, where as many stand before it as there may be
abbrev pub count_offences : ℕ → List (List ℕ) → Ident → List Refusal
count_offences most before name = where_ (nat_le most (length before)) X1 name.place
