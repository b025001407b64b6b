-- Names with what they stand for, in the order of their declarations.
use Rattle.std.specs.Prelude.{ℕ, Bool, true, false, if◌then◌else◌, List, [], ◌∷◌, map, Option, Some, None, string_bytes, bytes_eq}
use Rattle.tap_names.specs.declared.table.Table.{Table}

-- a name with what it stands for
abbrev pub Entry : Type 0 → Type 0
Entry A = List ℕ × A

abbrev pub names_in : {A : Type 0} → List (Entry A) → List (List ℕ)
names_in es = map (λ e. e.0) es

-- what the first entry of the name stands for
abbrev pub standing_for : {A : Type 0} → List ℕ → List (Entry A) → Option A
standing_for name [] = None
standing_for name (e ∷ es) = if bytes_eq name e.0 then Some e.1 else standing_for name es

-- the name is one of these
abbrev pub is_among : List ℕ → List (List ℕ) → Bool
is_among name [] = false
is_among name (x ∷ xs) = if bytes_eq name x then true else is_among name xs

-- the entries that a table holds
abbrev pub entries_of : {V : Type 0} → Table V → List (Entry V)
entries_of t = map (λ e. (string_bytes e.0, e.1)) t.items.entries
