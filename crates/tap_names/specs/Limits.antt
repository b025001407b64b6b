-- How much a text may declare.
use Rattle.std.specs.Prelude.{ℕ}

-- the bytes of a name
abbrev pub most_bytes : ℕ
most_bytes = 64

abbrev pub most_messages : ℕ
most_messages = 256

-- the fields of a message
abbrev pub most_fields : ℕ
most_fields = 256

-- the bits of a field
abbrev pub most_bits : ℕ
most_bits = 63

abbrev pub most_processes : ℕ
most_processes = 64

-- the inputs of a process,
abbrev pub most_inputs : ℕ
most_inputs = 256

-- the cells of all its variables,
abbrev pub most_cells : ℕ
most_cells = 4096

-- its timers,
abbrev pub most_timers : ℕ
most_timers = 32

-- and its actions
abbrev pub most_actions : ℕ
most_actions = 256
